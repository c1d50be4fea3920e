use Prim.Native.Nat.{◌-◌}
use native.Mathlib.Omega.{arith}
use mathlib.Core.Path.{◌≡◌, refl, sym, ◌∙◌}
use mathlib.Core.Bool.{◌&&◌}
use lib.Dec.{ltb}
use borrow.Author.Rules.{rules}
use borrow.Author.Tests.{tests, lt-ltb, le-ltb}
use Rattle.std.specs.List.{list_all, range_with_len}
use Rattle.std.proofs.lemmas.Iterator.{YieldsList-from_range}
use Rattle.std.proofs.lemmas.Iterator.Search.{all_from_yields_List}
use Rattle.table_format.specs.Classes.{class_count}
use Rattle.table_classes.proofs.Chains.{and_then, and_stop}
use Rattle.table_classes.proofs.ClassRows.{is_free, class_by_cells}
use Rattle.table_classes.proofs.class_holds.Goals as goal
use Rattle.table_classes.proofs.class_holds.Goals.{Joined-class-lt-CLASS_COUNT, then-class-lt-CLASS_COUNT, else-class-lt-CLASS_COUNT}

-- whether the class may be defined
may : (c : Joined-class-lt-CLASS_COUNT) → c.if-class-lt-CLASS_COUNT.value ≡ (ltb c.args.class class_count && list_all (is_free c.args.rows.now) (range_with_len c.args.class (class_count - c.args.class)))
may c =
    elim c.if-class-lt-CLASS_COUNT.branch [
      | then-class-lt-CLASS_COUNT w ↦ and_then {p = ltb c.args.class class_count} refl (lt-ltb _ _ (omega (arith, c.from-class.ensures))) w.value-is (all_from_yields_List (is_free c.args.rows.now) _ _ w.all.result w.all.ensures.ran (YieldsList-from_range c.args.class class_count _ (cc) refl) (λ x b q k. search (rules, tests)))
      | else-class-lt-CLASS_COUNT w ↦ and_stop {p = ltb c.args.class class_count} _ refl (le-ltb _ _ (omega (arith, c.from-class.ensures))) (search rules)
    ]

pub returns-then-all : goal.returns-then-all
returns-then-all c = and_then (may (goal.at.returns-then-all c).Joined-class-lt-CLASS_COUNT) c.if-all.true refl c.letters_rise.ensures ∙ sym (class_by_cells c.args.rows.now c.args.class c.args.letters.now)

pub returns-else-all : goal.returns-else-all
returns-else-all c = and_stop _ (may (goal.at.returns-else-all c).Joined-class-lt-CLASS_COUNT) c.if-all.false refl ∙ sym (class_by_cells c.args.rows.now c.args.class c.args.letters.now)
