-- At every turn, storing the lines of the states that are left gives what storing all of them gives.
use Prim.Native.Nat.{◌+◌, ◌*◌}
use mathlib.Core.Path.{◌≡◌}
use mathlib.Core.List.{◌∷◌, map}
use lib.ListN.{drop}
use lib.Seq.{sets}
use Rattle.table_format.specs.Text.{number, join_lines}
use Rattle.table_format.specs.Parse.{state_line}
use Rattle.table_printer.proofs.state_lines.Given as goal

abbrev pub invariant-loop-state : goal.invariant-loop-state
invariant-loop-state l =
    (l.to ≡ l.at + state_line * l.state-index)
    × (sets l.text l.to (join_lines (map (λ s. l.kind ∷ number s) (drop l.state-index l.list))) ≡ sets l.initial.text l.at (join_lines (map (λ s. l.kind ∷ number s) l.list)))
