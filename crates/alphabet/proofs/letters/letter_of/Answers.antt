-- By the place among the small letters, or else among the capitals.
use Rattle.std.proofs.Common.{arith, ◌<◌, refl, sym}
use Rattle.alphabet.specs.Letters.{letter_count, smalls, capitals, place_in}
use Rattle.alphabet.proofs.LetterOf.{small-found, capital_found, none_found}
use Rattle.alphabet.proofs.letters.letter_of.Goals as goal

pub returns-in-Some : goal.returns-in-Some
unfolding smalls
returns-in-Some c = let h : c.in-Some.k < letter_count = c.in-Some.ensures.0 in (omega arith, small-found c.args.code c.in-Some.k c.in-Some.ensures.1 h)

pub returns-in_err-k : goal.returns-in_err-k
unfolding smalls capitals
returns-in_err-k c =
    rw c.from_residual.ensures (let code = c.args.code in sym (none_found code (place_in smalls code) refl (place_in capitals code) refl c.in_default.ensures c.in_err-k.ensures))

pub returns : goal.returns
unfolding smalls capitals
returns c =
    let code = c.args.code in
    let h : c.in_ok-k.k < letter_count = c.in_ok-k.ensures.0 in
    (omega arith, capital_found code (place_in smalls code) refl c.in_ok-k.k c.in_ok-k.ensures.1 c.in_default.ensures h)
