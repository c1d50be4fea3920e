-- At every turn, the lines counted and those of the classes left are the lines of all.
use native.Mathlib.Omega.{arith}
use mathlib.Core.Path.{ap}
use lib.ListN.{length}
use Rattle.table_classes.proofs.Letters.{lines_defined, lines_undefined, lines_none}
use Rattle.table_classes.proofs.defined_count.Goals as goal
use Rattle.table_classes.proofs.defined_count.Goals.{else-rows-c-ne0, then-rows-c-ne0}

pub loop-c-preserved : goal.loop-c-preserved
loop-c-preserved c =
    let rows = c.args.rows.now in
    let n = c.loop-c.c in
    elim c.if-rows-c-ne0.branch [ then-rows-c-ne0 w ↦ (omega arith, omega (arith, ap length (lines_defined rows n (omega arith) w.if-rows-c-ne0.true))) | else-rows-c-ne0 w ↦ (omega arith, omega (arith, ap length (lines_undefined rows n (omega arith) w.if-rows-c-ne0.false))) ]

pub returns : goal.returns
returns c = omega (arith, ap length (lines_none c.args.rows.now c.loop-c.c (omega arith)))
