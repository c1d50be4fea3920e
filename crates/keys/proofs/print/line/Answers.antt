-- The letters are within the word.
use Rattle.std.proofs.Common.{refl, sym, length-take-le}
use Rattle.keys.proofs.Bounds.{letters_within_lem}
use Rattle.keys.proofs.print.line.Goals as goal

pub slice_bounds-word-end : goal.slice_bounds-word-end
slice_bounds-word-end g c = letters_within_lem _ _ _ _ c.in-Ok.ensures refl

pub slice_bounds-key-end : goal.slice_bounds-key-end
slice_bounds-key-end g c = sym (length-take-le _ _ (letters_within_lem _ _ _ _ c.in-Ok.ensures refl))
