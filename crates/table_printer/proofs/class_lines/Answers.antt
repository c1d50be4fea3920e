-- At every turn, storing the lines of the classes that are left gives what storing all of them gives.
use Prim.Native.Nat.{ℕ, ◌+◌}
use native.Mathlib.Omega.{arith}
use mathlib.Core.Path.{sym, ap, ap₂, ◌∙◌}
use mathlib.Core.List.{List}
use lib.ListN.{length}
use lib.Seq.{sets}
use Rattle.table_format.specs.Text.{join_lines}
use Rattle.table_classes.proofs.Letters.{lines_from, row-long}
use Rattle.table_printer.proofs.Lines.{row-bytes, class_turn, class_size_lem, class_skip, classes-end}
use Rattle.table_printer.proofs.class_lines.Goals.{then-rows-from-ne0, else-rows-from-ne0}
use Rattle.table_printer.proofs.class_lines.Goals as goal

pub class_line-to-requires : goal.class_line-to-requires
class_line-to-requires c =
    let rows = c.args.rows.now in
    let n = c.loop-c.c in
    record {
      row_len = (row-long rows n (omega arith) (omega arith), row-bytes rows n (omega arith) (omega arith) c.requires.rows_len.1);
      row_in_bounds = omega (arith, class_size_lem rows n (omega arith) (λ e. omega arith));
    }

pub loop-c-preserved : goal.loop-c-preserved
loop-c-preserved c =
    let rows = c.args.rows.now in
    elim c.if-rows-from-ne0.branch [
      | then-rows-from-ne0 w ↦
          let stored = w.text-is ∙ w.class_line-to.ensures.1 in
          let place = w.to-is ∙ w.class_line-to.ensures.0 in (
            omega (arith, place, class_size_lem rows c.loop-c.c (omega arith) w.if-rows-from-ne0.true),
            class_turn rows c.loop-c.c c.loop-c.text c.if-rows-from-ne0.text c.loop-c.to c.if-rows-from-ne0.to (omega arith) w.if-rows-from-ne0.true stored place ∙ c.loop-c.invariant.1,
          )
      | else-rows-from-ne0 w ↦
          let same = class_skip rows c.loop-c.c (omega arith) w.if-rows-from-ne0.false in (
            omega (arith, w.to-is, ap length same),
            ap₂ (λ (l : List ℕ) (k : ℕ). sets l k (join_lines (lines_from (c.loop-c.c + 1) rows))) w.text-is w.to-is ∙ ap (sets c.loop-c.text c.loop-c.to) (sym same) ∙ c.loop-c.invariant.1,
          )
    ]

pub returns : goal.returns
returns c =
    let rows = c.args.rows.now in
    let none = classes-end rows c.loop-c.c (omega arith) in
    (omega (arith, ap length none), sym (ap (sets c.loop-c.text c.loop-c.to) none) ∙ c.loop-c.invariant.1)
