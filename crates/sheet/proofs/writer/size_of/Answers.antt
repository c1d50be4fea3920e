-- At every turn, the lines counted and those of the readings that are left are the lines of the sheet.
use Prim.Native.Nat.{ℕ, ◌*◌}
use native.Mathlib.Omega.{arith}
use mathlib.Core.Path.{sym, ap, subst}
use Rattle.sheet_lines.specs.Lines.{line_size}
use Rattle.faces.proofs.Lent.{bytes-all}
use Rattle.sheet.proofs.Stored.{Counting, counting_begun, counting_more, counting_done, size-most}
use Rattle.sheet.proofs.writer.size_of.Goals as goal

pub loop-reading-init : goal.loop-reading-init
loop-reading-init c =
    subst (λ r. Counting c.args.readings.now r.0.now 2) (sym c.into_iter-reading-iterator.ensures.into_iter_gives) (counting_begun c.args.readings.now c.requires)

pub overflow_add-lines : goal.overflow_add-lines
overflow_add-lines c =
    let readings = c.args.readings.now in
    let more = counting_more readings _ _ c.loop-reading.invariant _ _ _ c.in-Some.ensures.steps c.lines_for-lines.ensures in
    omega (arith, more.counted, size-most readings (bytes-all readings c.type_inv.readings) c.requires)

pub loop-reading-preserved : goal.loop-reading-preserved
loop-reading-preserved c = counting_more _ _ _ c.loop-reading.invariant _ _ _ c.in-Some.ensures.steps c.lines_for-lines.ensures

pub overflow_mul-result : goal.overflow_mul-result
overflow_mul-result c =
    let readings = c.args.readings.now in
    omega (arith, counting_done readings _ _ c.loop-reading.invariant c.in-None.ensures.steps.1, size-most readings (bytes-all readings c.type_inv.readings) c.requires)

pub returns : goal.returns
returns c = ap (λ (n : ℕ). line_size * n) (counting_done _ _ _ c.loop-reading.invariant c.in-None.ensures.steps.1)
