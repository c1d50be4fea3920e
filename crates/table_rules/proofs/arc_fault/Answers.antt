-- Rule by rule, in the order of Rules; a key above all before it, or a look among those of its source, shows that an arc is new.
use native.Mathlib.Omega.{arith}
use mathlib.Core.Path.{◌≡◌, sym, ◌∙◌}
use mathlib.Core.Bool.{true, ◌&&◌}
use borrow.Author.Tests.{lt-ltb, le-ltb, leb-true}
use Rattle.table_format.specs.Classes.{class_count}
use Rattle.table_format.specs.Rules.{letter_holds, arc_class_holds, source_holds}
use Rattle.table_format.specs.Loaded.{rows_in}
use Rattle.table_format.specs.Cells.{arc_said, arcs_as}
use Rattle.table_format.proofs.Tests.{and_both}
use Rattle.table_format.proofs.Rules.{arcs_rise_lem}
use Rattle.table_rules.proofs.Sources.{source_by_last}
use Rattle.table_rules.proofs.Faults.{new-arc, arc-source-out, arc-target-out, arc-letter-out, arc_lower_out, arc_class_out, arc-falls, arc_new, arc-old}
use Rattle.table_rules.proofs.arc_fault.Goals as goal
use Rattle.table_rules.proofs.arc_fault.Goals.{After-arc_class_holds, then-states-arc-via-then-states-arc, then-states-arc-via-else-states-arc+then-states-arc-2, then-arc-gt71-via-then-arc-gt71, then-arc-gt71-via-else-arc-gt71+then-arc-gt71-2, else-arc_key-top-via-then-arc_key-top+else-is_repeated, else-arc_key-top-via-else-arc_key-top}

-- what the looks at the letters leave
letters : (c : After-arc_class_holds) → (letter_holds (arc_said c.args.arc).upper && letter_holds (arc_said c.args.arc).lower) ≡ true
letters c = and_both (lt-ltb c.args.arc.upper 72 (omega arith)) (lt-ltb c.args.arc.lower 72 (omega arith))

pub returns-then-states-arc : goal.returns-then-states-arc
returns-then-states-arc c =
    elim c.then-states-arc.branch [
      | then-states-arc-via-then-states-arc w ↦ sym (arc-source-out _ _ _ _ w.if-states-arc.true)
      | then-states-arc-via-else-states-arc+then-states-arc-2 w ↦ sym (arc-target-out _ _ _ _ w.if-states-arc.false w.if-states-arc-2.true)
    ]

pub returns-then-arc-gt71 : goal.returns-then-arc-gt71
returns-then-arc-gt71 c =
    elim c.then-arc-gt71.branch [
      | then-arc-gt71-via-then-arc-gt71 w ↦ sym (arc-letter-out _ _ _ _ c.if-states-arc.false c.if-states-arc-2.false (simp (le-ltb _ 72 w.if-arc-gt71.true)))
      | then-arc-gt71-via-else-arc-gt71+then-arc-gt71-2 w ↦ sym (arc_lower_out _ _ _ _ c.if-states-arc.false c.if-states-arc-2.false w.if-arc-gt71-2.true)
    ]

pub returns-then-not-arc_class_holds : goal.returns-then-not-arc_class_holds
returns-then-not-arc_class_holds c =
    sym (arc_class_out _ _ _ _ c.if-states-arc.false c.if-states-arc-2.false (letters (goal.at.returns-then-not-arc_class_holds c).After-arc_class_holds) (sym c.arc_class_holds.ensures ∙ c.if-not-arc_class_holds.true))

pub returns-then-not-source_holds : goal.returns-then-not-source_holds
returns-then-not-source_holds c =
    sym (arc-falls _ _ _ _ c.if-states-arc.false c.if-states-arc-2.false (letters (goal.at.returns-then-not-source_holds c).After-arc_class_holds) (sym c.arc_class_holds.ensures ∙ c.if-not-arc_class_holds.false) (sym c.source_holds.ensures ∙ c.if-not-source_holds.true))

pub is_repeated-requires : goal.is_repeated-requires
is_repeated-requires c =
    let arcs = arcs_as c.args.before.now in (
      arcs_rise_lem c.args.states (rows_in class_count c.args.rows.now) arcs c.requires.before_value,
      leb-true _ _ (sym (source_by_last arcs (arc_said c.args.arc)) ∙ sym c.source_holds.ensures ∙ c.if-not-source_holds.false),
    )

pub returns-then-is_repeated : goal.returns-then-is_repeated
returns-then-is_repeated c =
    sym (arc-old _ _ _ _ c.if-states-arc.false c.if-states-arc-2.false (letters (goal.at.returns-then-is_repeated c).After-arc_class_holds) (sym c.arc_class_holds.ensures ∙ c.if-not-arc_class_holds.false) (sym c.source_holds.ensures ∙ c.if-not-source_holds.false) (sym c.is_repeated.ensures ∙ c.if-is_repeated.true))

pub returns : goal.returns
returns c =
    let l = letters (goal.at.returns c).After-arc_class_holds in
    let k : arc_class_holds (rows_in class_count c.args.rows.now) (arc_said c.args.arc) ≡ true = sym c.arc_class_holds.ensures ∙ c.if-not-arc_class_holds.false in
    let s : source_holds (arcs_as c.args.before.now) (arc_said c.args.arc) ≡ true = sym c.source_holds.ensures ∙ c.if-not-source_holds.false in
    elim c.else-arc_key-top.branch [
      | else-arc_key-top-via-then-arc_key-top+else-is_repeated w ↦ sym (arc_new _ _ _ _ c.if-states-arc.false c.if-states-arc-2.false l k s (sym w.is_repeated.ensures ∙ w.if-is_repeated.false))
      | else-arc_key-top-via-else-arc_key-top w ↦ sym (arc_new _ _ _ _ c.if-states-arc.false c.if-states-arc-2.false l k s (new-arc (arcs_as c.args.before.now) (arc_said c.args.arc) c.args.top c.requires.before_bound (omega (arith, c.arc_key.ensures))))
    ]
