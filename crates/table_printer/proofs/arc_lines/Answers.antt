-- At every turn, storing the lines of the arcs that are left gives what storing all of them gives.
use Prim.Native.Nat.{◌+◌, ◌*◌, ◌<◌}
use native.Mathlib.Omega.{arith}
use mathlib.Core.Path.{◌≡◌, sym, ap, ◌∙◌}
use lib.ListN.{length, get_or}
use lib.Seq.{sets}
use Rattle.table_format.specs.declared.Arc as Held
use Rattle.table_format.specs.Loaded.{arc_width}
use Rattle.table_format.specs.Cells.{arc_count, arc_said}
use Rattle.table_format.specs.Line.{line_text}
use Rattle.table_format.specs.Text.{arc_bytes}
use Rattle.table_printer.proofs.Lines.{arcs-turn, arcs-size, arcs-end}
use Rattle.table_printer.proofs.arc_lines.Goals as goal

pub arc_line-to-requires : goal.arc_line-to-requires
arc_line-to-requires c =
    let arcs = c.args.arcs.now in
    let n = c.loop-n.n in
    let said = c.arc_at.ensures in
    let upper : c.arc_at.result.upper ≡ get_or arcs (arc_width * n + 1) 0 = ap (λ (a : Held.Arc). a.upper) said in
    let lower : c.arc_at.result.lower ≡ get_or arcs (arc_width * n + 2) 0 = ap (λ (a : Held.Arc). a.lower) said in
    let penalty : c.arc_at.result.penalty ≡ get_or arcs (arc_width * n + 4) 0 = ap (λ (a : Held.Arc). a.penalty) said in
    let below = c.requires.by_index in
    record {
      arc_in_bounds = omega (arith, arcs-size arcs n (omega arith), ap (λ (a : Held.Arc). length (line_text (arc_bytes (arc_said a)))) said);
      upper_bound = omega (arith, below (arc_width * n + 1), below (arc_width * n + 2), below (arc_width * n + 4));
    }

pub loop-n-preserved : goal.loop-n-preserved
loop-n-preserved c =
    let arcs = c.args.arcs.now in
    let said = c.arc_at.ensures in
    let wrote = c.arc_line-to.ensures in
    let place = wrote.0 ∙ ap (λ (a : Held.Arc). c.loop-n.to + length (line_text (arc_bytes (arc_said a)))) said in
    let stored = wrote.1 ∙ ap (λ (a : Held.Arc). sets c.loop-n.text c.loop-n.to (line_text (arc_bytes (arc_said a)))) said in
    let h : c.loop-n.n < arc_count arcs = omega arith in
    (omega (arith, place, arcs-size arcs c.loop-n.n h), arcs-turn arcs c.loop-n.n h c.loop-n.text _ c.loop-n.to _ stored place ∙ c.loop-n.invariant.1)

pub returns : goal.returns
returns c =
    let none = arcs-end c.args.arcs.now c.loop-n.n (omega arith) in
    (omega (arith, ap length none), sym (ap (sets c.loop-n.text c.loop-n.to) none) ∙ c.loop-n.invariant.1)
