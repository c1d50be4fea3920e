-- Five stores in a row.
use native.Mathlib.Omega.{arith}
use lib.ListN.{length-set}
use Rattle.trie.proofs.Storing.{arc-stored}
use Rattle.trie.proofs.cells.put_arc.Goals as goal

pub bounds-cells-at-2 : goal.bounds-cells-at-2
bounds-cells-at-2 c = simp length-set (omega arith)

pub bounds-cells-at-3 : goal.bounds-cells-at-3
bounds-cells-at-3 c = simp length-set (omega arith)

pub bounds-cells-at-4 : goal.bounds-cells-at-4
bounds-cells-at-4 c = simp length-set (omega arith)

pub bounds-cells-at-5 : goal.bounds-cells-at-5
bounds-cells-at-5 c = simp length-set (omega arith)

pub returns : goal.returns
returns c =
    let args = c.args in
    arc-stored args.cells.now args.at args.arc.source args.arc.upper args.arc.lower args.arc.target args.arc.penalty
