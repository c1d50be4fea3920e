use Prim.Native.Nat.{ℕ, suc, ◌-◌}
use native.Mathlib.Omega.{arith}
use mathlib.Core.Path.{sym, ap, ◌∙◌}
use lib.Dec.{leb}
use borrow.Author.Tests.{eq-eqb}
use Rattle.table_format.specs.declared.Arc as Held
use Rattle.table_format.specs.Rules.{source_holds}
use Rattle.table_format.specs.Loaded.{arcs_in}
use Rattle.table_format.specs.Cells.{arc_count, arc_said, arcs_as}
use Rattle.table_rules.specs.Judge.{last_source}
use Rattle.table_format.proofs.Arcs.{at_equal}
use Rattle.table_rules.proofs.Sources.{last_source_lem, source_by_last}
use Rattle.table_rules.proofs.source_holds.Goals as goal

pub returns-then-count-eq0 : goal.returns-then-count-eq0
unfolding arcs_in
returns-then-count-eq0 c =
    let before = c.args.before.now in
    eq-eqb _ _ c.if-count-eq0.true ∙ sym (at_equal (λ n. source_holds (arcs_in n before) (arc_said c.args.arc)) (arc_count before) 0 (omega arith))

pub returns-else-count-eq0 : goal.returns-else-count-eq0
returns-else-count-eq0 c =
    let before = c.args.before.now in
    ap (λ (a : Held.Arc). leb a.source c.args.arc.source) c.arc_at.ensures
    ∙ ap (λ (s : ℕ). leb s c.args.arc.source) (sym (at_equal (λ n. last_source (arcs_in n before)) (arc_count before) (suc (arc_count before - 1)) (omega arith) ∙ last_source_lem before (arc_count before - 1)))
    ∙ sym (source_by_last (arcs_as before) (arc_said c.args.arc))
