-- At every turn, the characters counted and those of the lines left are the characters of all.
use Prim.Native.Nat.{◌≤◌}
use native.Mathlib.Omega.{arith}
use mathlib.Core.Path.{ap}
use lib.ListN.{length}
use Rattle.table_format.specs.Classes.{row_width}
use Rattle.table_format.specs.Text.{class_bytes}
use Rattle.table_classes.proofs.Letters.{row_from, letters-few, row-long}
use Rattle.table_printer.proofs.Lines.{length-line, class_size_lem, class_skip, classes-end}
use Rattle.table_printer.proofs.class_size.Goals.{then-rows-at-ne0, else-rows-at-ne0}
use Rattle.table_printer.proofs.class_size.Goals as goal

-- a row has sixteen letters at most
counted : (c : goal.After-letters_in) → c.letters_in.result ≤ row_width
counted c =
    let rows = c.args.rows.now in
    let n = c.loop-c.c in
    omega (arith, c.letters_in.ensures, letters-few (row_from n rows), row-long rows n (omega arith) (omega arith))

pub overflow_add-size : goal.overflow_add-size
overflow_add-size c = omega (arith, counted c)

pub overflow_mul-size : goal.overflow_mul-size
overflow_mul-size c = omega (arith, counted c)

pub overflow_add-size-then-rows-at-ne0 : goal.overflow_add-size-then-rows-at-ne0
overflow_add-size-then-rows-at-ne0 c = omega (arith, counted c)

pub overflow_add-size-then-rows-at-ne0-2 : goal.overflow_add-size-then-rows-at-ne0-2
overflow_add-size-then-rows-at-ne0-2 c = omega (arith, counted c)

pub loop-c-preserved : goal.loop-c-preserved
loop-c-preserved c =
    let rows = c.args.rows.now in
    let n = c.loop-c.c in
    elim c.if-rows-at-ne0.branch [
      | then-rows-at-ne0 w ↦
          let line = length-line (class_bytes n (row_from n rows)) in (
            omega (arith, w.letters_in.ensures, w.size-is, letters-few (row_from n rows), row-long rows n (omega arith) (omega arith)),
            omega (arith, w.letters_in.ensures, w.size-is, line, class_size_lem rows n (omega arith) w.if-rows-at-ne0.true),
          )
      | else-rows-at-ne0 w ↦ (omega (arith, w.size-is), omega (arith, w.size-is, ap length (class_skip rows n (omega arith) w.if-rows-at-ne0.false)))
    ]

pub returns : goal.returns
returns c = omega (arith, ap length (classes-end c.args.rows.now c.loop-c.c (omega arith)))
