-- At every turn the letters so far rise, and the cells from there on decide.
use mathlib.Core.Path.{sym, ◌∙◌}
use lib.ListN.{get_or}
use Rattle.table_classes.proofs.ClassRows.{row-fills, fills-step, next_low, next-high}
use Rattle.table_classes.proofs.row_holds.Goals as goal
use Rattle.table_classes.proofs.row_holds.Goals.{then-x-last-via-then-x-last, then-x-last-via-else-x-last+then-x-gt63}

pub loop-k-init : goal.loop-k-init
loop-k-init c = row-fills c.args.row.now c.requires

pub returns-then-x-last : goal.returns-then-x-last
returns-then-x-last c =
    let row = c.args.row.now in
    sym (c.loop-k.invariant ∙ fills-step row c.loop-k.k c.loop-k-test.true c.loop-k.last c.if-x-eq0.false
    ∙ elim c.then-x-last.branch [
      | then-x-last-via-then-x-last w ↦ next_low c.loop-k.last (get_or row c.loop-k.k 0) _ w.if-x-last.true
      | then-x-last-via-else-x-last+then-x-gt63 w ↦ next-high c.loop-k.last (get_or row c.loop-k.k 0) _ w.if-x-gt63.true
    ])
