-- By the upper letter: without a class the lower one decides, with one the first cell of its row.
use Prim.Native.Nat.{ℕ, ◌-◌, ◌*◌}
use native.Mathlib.Omega.{arith}
use mathlib.Core.Path.{sym, ap, ◌∙◌}
use mathlib.Core.Bool.{not}
use lib.Dec.{eqb}
use borrow.Author.Tests.{le-ltb}
use lib.ListN.{get_or}
use Rattle.table_format.specs.Classes.{class_count, row_width}
use Rattle.table_format.specs.Loaded.{rows_in}
use Rattle.table_format.specs.Cells.{arc_said}
use Rattle.table_classes.proofs.Arcs.{defined_cell, defined_none, plain-above, class_unlike, class_alike}
use Rattle.table_classes.proofs.arc_class_holds.Goals as goal

pub returns-then-arc-lt-FIRST_CLASS : goal.returns-then-arc-lt-FIRST_CLASS
returns-then-arc-lt-FIRST_CLASS c = sym (plain-above (rows_in class_count c.args.rows.now) (arc_said c.args.arc) c.if-arc-lt-FIRST_CLASS.true)

pub returns-then-arc : goal.returns-then-arc
returns-then-arc c = sym (class_unlike (rows_in class_count c.args.rows.now) (arc_said c.args.arc) c.if-arc-lt-FIRST_CLASS.false c.if-arc.true)

pub returns-then-class-lt-CLASS_COUNT : goal.returns-then-class-lt-CLASS_COUNT
returns-then-class-lt-CLASS_COUNT c =
    sym
    (class_alike (rows_in class_count c.args.rows.now) (arc_said c.args.arc) c.if-arc-lt-FIRST_CLASS.false c.if-arc.false ∙ defined_cell c.args.rows.now (c.args.arc.upper - 64) (omega (arith, c.from-class.ensures))
    ∙ ap (λ (n : ℕ). not (eqb (get_or c.args.rows.now (row_width * n) 0) 0)) (sym c.from-class.ensures))

pub returns-else-class-lt-CLASS_COUNT : goal.returns-else-class-lt-CLASS_COUNT
returns-else-class-lt-CLASS_COUNT c =
    le-ltb _ _ c.if-class-lt-CLASS_COUNT.false
    ∙ sym (class_alike (rows_in class_count c.args.rows.now) (arc_said c.args.arc) c.if-arc-lt-FIRST_CLASS.false c.if-arc.false ∙ defined_none c.args.rows.now (c.args.arc.upper - 64) (omega (arith, c.from-class.ensures)))
