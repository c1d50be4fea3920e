use lib.ListN.{drop}
use Rattle.table_format.specs.Cells.{arcs_as}
use Rattle.table_format.proofs.Index.{Counts, Sums}
use Rattle.table_check.proofs.first_arcs.Given as goal

-- the arcs from the last one back are counted
abbrev pub invariant-loop-n : goal.invariant-loop-n
invariant-loop-n l = Counts (drop l.n (arcs_as l.cells)) l.first

abbrev pub invariant-loop-q : goal.invariant-loop-q
invariant-loop-q l = Sums (arcs_as l.cells) l.q l.first
