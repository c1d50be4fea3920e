-- At every turn the first rows are those of the classes.
use native.Mathlib.Omega.{arith}
use mathlib.Core.Path.{◌≡◌, refl, sym, ◌∙◌}
use mathlib.Core.List.{[]}
use lib.ListN.{length, drop, length-set}
use Rattle.table_format.specs.Classes.{class_count}
use Rattle.table_format.specs.Loaded.{classes_at, classes_in}
use Rattle.table_format.proofs.Classes.{length-rows_in}
use Rattle.table_classes.proofs.ClassRows.{copy_more, copied, rows_all, rows_inside, row-bytes, row_in}
use Rattle.table_classes.proofs.rows.Goals as goal

pub loop-c-init : goal.loop-c-init
loop-c-init c = (refl, refl)

pub row_at-requires : goal.row_at-requires
row_at-requires c =
    let table = c.args.table.now in
    record {
      row_width_in_bounds = omega (arith, rows_inside table c.requires);
      by_index = row-bytes table c.requires c.loop-c.c c.loop-c-test.true;
    }

pub loop-c-preserved : goal.loop-c-preserved
loop-c-preserved c =
    let table = c.args.table.now in
    let count : length (classes_in table) ≡ class_count = length-rows_in class_count (drop classes_at table) in
    (length-set c.loop-c.row-items c.loop-c.c _ ∙ c.loop-c.invariant.0, copy_more [] c.loop-c.row-items (classes_in table) c.loop-c.c _ (omega arith) (omega arith) c.loop-c.invariant.1 (c.row_at.ensures ∙ sym (row_in table c.loop-c.c c.loop-c-test.true)))

pub returns : goal.returns
returns c =
    let table = c.args.table.now in
    copied c.loop-c.row-items (classes_in table) c.loop-c.c class_count c.loop-c.invariant.0 (omega arith) c.loop-c-test.false c.loop-c.invariant.1 ∙ rows_all table
