use Prim.Native.Nat.{ℕ}
use mathlib.Core.Path.{◌≡◌, refl, sym, ap, ◌∙◌}
use mathlib.Core.Bool.{◌&&◌}
use mathlib.Core.List.{List}
use lib.ListN.{get_or}
use Rattle.table_format.specs.Classes.{class_count}
use Rattle.table_format.specs.Rules.{counts_hold, classes_keep, initials_keep, terminals_keep, arcs_keep, penalties_keep}
use Rattle.table_format.specs.Loaded.{rows_in}
use Rattle.table_format.specs.Cells.{counts_as, arcs_as}
use Rattle.table_check.specs.Check.{initials_part, terminals_part}
use Rattle.table_classes.proofs.Chains.{and_then, and_stop}
use Rattle.table_check.proofs.Parts.{classes_part, rules-parts}
use Rattle.table_check.proofs.keeps_rules.Goals as goal
use Rattle.table_check.proofs.keeps_rules.Goals.{Joined-initials_hold, then-counts_hold, else-counts_hold, then-classes_hold, else-classes_hold, then-initials_hold, else-initials_hold}

-- what is looked at before the arcs
so_far : (c : Joined-initials_hold)
    → c.if-initials_hold.value
    ≡ (((counts_hold (counts_as c.args.at.states (get_or c.args.cells.now 1 0) (get_or c.args.cells.now 2 0) (get_or c.args.cells.now 3 0)) && classes_keep (rows_in class_count (classes_part c.args.cells.now)))
    && initials_keep c.args.at.states (initials_part c.args.cells.now c.args.at))
    && terminals_keep c.args.at.states (terminals_part c.args.cells.now c.args.at))
so_far c =
    let classes : c.if-counts_hold.value ≡ (counts_hold (counts_as c.args.at.states (get_or c.args.cells.now 1 0) (get_or c.args.cells.now 2 0) (get_or c.args.cells.now 3 0)) && classes_keep (rows_in class_count (classes_part c.args.cells.now))) =
    elim c.if-counts_hold.branch
    [ then-counts_hold w ↦ and_then c.counts_hold.ensures w.if-counts_hold.true w.value-is w.classes_hold.ensures | else-counts_hold w ↦ and_stop _ c.counts_hold.ensures w.if-counts_hold.false w.value-is ] in
    let initials : c.if-classes_hold.value ≡ ((counts_hold (counts_as c.args.at.states (get_or c.args.cells.now 1 0) (get_or c.args.cells.now 2 0) (get_or c.args.cells.now 3 0)) && classes_keep (rows_in class_count (classes_part c.args.cells.now))) && initials_keep c.args.at.states (initials_part c.args.cells.now c.args.at)) =
    elim c.if-classes_hold.branch
    [ then-classes_hold w ↦ and_then classes w.if-classes_hold.true w.value-is (w.initials_hold.ensures ∙ ap (initials_keep c.args.at.states) w.initials.ensures.part) | else-classes_hold w ↦ and_stop _ classes w.if-classes_hold.false w.value-is ] in
    elim c.if-initials_hold.branch
    [ then-initials_hold w ↦ and_then initials w.if-initials_hold.true w.value-is (w.terminals_hold.ensures ∙ ap (terminals_keep c.args.at.states) w.terminals.ensures.part) | else-initials_hold w ↦ and_stop _ initials w.if-initials_hold.false w.value-is ]

pub returns-then-terminals_hold : goal.returns-then-terminals_hold
returns-then-terminals_hold c =
    and_then (so_far (goal.at.returns-then-terminals_hold c).Joined-initials_hold) c.if-terminals_hold.true refl
    (c.arcs_hold.ensures
    ∙ ap (λ (part : List ℕ). arcs_keep c.args.at.states (rows_in class_count (classes_part c.args.cells.now)) (arcs_as part) && penalties_keep (arcs_as part)) c.arcs.ensures.part)
    ∙ sym (rules-parts c.args.cells.now c.args.at c.requires)

pub returns-else-terminals_hold : goal.returns-else-terminals_hold
returns-else-terminals_hold c =
    and_stop _ (so_far (goal.at.returns-else-terminals_hold c).Joined-initials_hold) c.if-terminals_hold.false refl ∙ sym (rules-parts c.args.cells.now c.args.at c.requires)
