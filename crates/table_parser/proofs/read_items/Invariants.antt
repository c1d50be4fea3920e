use Prim.Native.Nat.{◌-◌}
use lib.ListN.{length}
use Rattle.table_format.specs.Loaded.{counts_in}
use Rattle.table_parser.proofs.Items.{ReadingOn}
use Rattle.table_parser.proofs.read_items.Given as goal

abbrev pub invariant-loop-at : goal.invariant-loop-at
invariant-loop-at l = ReadingOn (counts_in l.initial.cells) l.text l.start l.at l.draft.lines l.draft.filled l.draft.top l.cells

abbrev pub decreases-loop-at : goal.decreases-loop-at
decreases-loop-at l = length l.text - l.at
