-- At every turn, whether the letters so far are letters.
use mathlib.Core.Path.{◌≡◌}
use lib.ListN.{take}
use Rattle.faces.specs.Lent.{every, is_letter}
use Rattle.faces.proofs.list.letters_hold.Given as goal

abbrev pub invariant-loop-letter : goal.invariant-loop-letter
invariant-loop-letter l = l.hold ≡ every is_letter (take l.letter-index l.letters)
