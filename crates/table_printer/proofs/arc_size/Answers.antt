-- At every turn, the characters counted and those of the lines left are the characters of all.
use native.Mathlib.Omega.{arith}
use mathlib.Core.Path.{sym, ap, ◌∙◌}
use lib.ListN.{length}
use Rattle.table_format.specs.declared.Arc as Held
use Rattle.table_format.specs.Cells.{arc_of}
use Rattle.table_printer.proofs.Lines.{plain_size, penalised-size, arcs-size, arcs-end}
use Rattle.table_printer.proofs.arc_size.Goals as goal
use Rattle.table_printer.proofs.arc_size.Goals.{else-arc-eq0, then-arc-eq0}

pub loop-n-preserved : goal.loop-n-preserved
loop-n-preserved c =
    let arcs = c.args.arcs.now in
    let penalty = ap (λ (a : Held.Arc). a.penalty) c.arc_at-arc.ensures in
    let more = arcs-size arcs c.loop-n.n (omega arith) in
    elim c.if-arc-eq0.branch [ then-arc-eq0 w ↦ (omega (arith, w.size-is), omega (arith, w.size-is, plain_size (arc_of arcs c.loop-n.n) (sym penalty ∙ w.if-arc-eq0.true))) | else-arc-eq0 w ↦ (omega (arith, w.size-is), omega (arith, w.size-is, penalised-size (arc_of arcs c.loop-n.n) (λ e. w.if-arc-eq0.false (penalty ∙ e)))) ]

pub returns : goal.returns
returns c = omega (arith, ap length (arcs-end c.args.arcs.now c.loop-n.n (omega arith)))
