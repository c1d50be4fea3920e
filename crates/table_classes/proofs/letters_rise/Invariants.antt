-- At every turn the letters so far rise, and the others decide.
use mathlib.Core.Path.{◌≡◌}
use lib.ListN.{drop}
use Rattle.table_format.specs.Rules.{letters_rise}
use Rattle.table_classes.proofs.letters_rise.Given as goal

abbrev pub invariant-loop-letter : goal.invariant-loop-letter
invariant-loop-letter l = letters_rise 0 l.letters ≡ letters_rise l.last (drop l.letter-index l.letters)
