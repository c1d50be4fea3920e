-- The word has room in the list, since the words so far are kept; the test then tells of the list with it.
use Rattle.std.proofs.Common.{refl}
use Rattle.wordlist_sorted.specs.Sorted.{inserted}
use Rattle.wordlist_sorted.proofs.Storing.{used_within}
use Rattle.wordlist.proofs.Adding.{word-inside, word-length, ends, fits_in, holds_then, size-then, few-then, many_then}
use Rattle.wordlist.proofs.add.Goals as goal

pub slice_bounds-word-end : goal.slice_bounds-word-end
slice_bounds-word-end c = word-inside c.args.line.now c.in_ok-letters.letters _ c.spell.new.word c.in_ok-letters.ensures refl

pub slice_bounds-insert-end : goal.slice_bounds-insert-end
slice_bounds-insert-end c = word-length c.args.line.now c.in_ok-letters.letters _ c.spell.new.word c.in_ok-letters.ensures refl

pub insert-grown-requires : goal.insert-grown-requires
insert-grown-requires c =
    let P = c.requires in
    let F = fits_in c.args.line.now c.in_ok-letters.letters _ c.spell.new.word c.in_ok-letters.ensures refl _ P.1.1 P.1.2 P.1.4 in
    ((P.1.0, P.1.1, P.1.3, P.1.4), F.0, F.1)

pub fits-requires : goal.fits-requires
fits-requires c = let P = c.requires in let I = c.insert-grown.ensures P.1.0 P.1.1 P.1.3 P.1.4 in used_within (inserted _ P.1.1) P.1.0 _ I.1 _ I.0

pub returns-then-fits : goal.returns-then-fits
returns-then-fits c = λ before ws K H e.
    let I = c.insert-grown.ensures before ws H e in
    let line = c.args.line.now in
    let n = c.in_ok-letters.letters in (
      ends line n _ c.spell.new.word c.in_ok-letters.ensures refl,
      few-then line n _ c.spell.new.word c.in_ok-letters.ensures refl c.requires.0 before ws K _ _ I _ c.fits.ensures c.if-fits.true,
      size-then line n _ c.spell.new.word c.in_ok-letters.ensures refl c.requires.0 before ws K _ _ I _ c.fits.ensures,
      holds_then line n _ c.spell.new.word c.in_ok-letters.ensures refl c.requires.0 before ws K _ _ I _ c.fits.ensures,
    )

pub returns-else-fits : goal.returns-else-fits
returns-else-fits c = λ before ws K H e.
    let I = c.insert-grown.ensures before ws H e in
    let line = c.args.line.now in
    let n = c.in_ok-letters.letters in (
      ends line n _ c.spell.new.word c.in_ok-letters.ensures refl,
      many_then line n _ c.spell.new.word c.in_ok-letters.ensures refl c.requires.0 before ws K _ _ I _ c.fits.ensures c.if-fits.false,
      holds_then line n _ c.spell.new.word c.in_ok-letters.ensures refl c.requires.0 before ws K _ _ I _ c.fits.ensures,
    )
