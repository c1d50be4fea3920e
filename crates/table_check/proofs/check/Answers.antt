use native.Mathlib.Omega.{arith}
use mathlib.Core.Path.{◌≡◌, sym, ap, ap₂, subst, ◌∙◌}
use mathlib.Core.Bool.{true}
use mathlib.Core.List.{List}
use Prim.Native.Nat.{ℕ, ◌≤◌}
use Rattle.std.specs.Prelude.{Ok}
use Rattle.table_check.specs.declared.Layout.{Layout}
use Rattle.table_format.specs.Loaded.{counts_in}
use Rattle.table_format.specs.Cells.{arc_count, arcs_as}
use Rattle.table_format.specs.Rules.{arcs_keep}
use Rattle.table_format.specs.Index.{first_index}
use Rattle.table_check.specs.Check.{layout_of, checked_as, checked}
use Rattle.table_check.proofs.Parts.{laid_out, index-ready, index-part, loaded-kept, loaded-broken, loaded-short}
use Rattle.table_check.proofs.check.Goals as goal
use Rattle.table_check.proofs.check.Goals.{After-arcs, else-layout-cells-via-then-layout-cells+else-keeps_rules, else-layout-cells-via-else-layout-cells}

-- what the index asks of the arcs
ready : (c : After-arcs)
    → ((arc_count c.arcs.result.now ≤ 1024) × (c.layout_of-layout.result.states ≤ 256)) × ((rows : List (List ℕ)) × (arcs_keep c.layout_of-layout.result.states rows (arcs_as c.arcs.result.now) ≡ true))
ready c =
    let l = c.layout_of-layout.result in
    subst (λ (part : List ℕ). ((arc_count part ≤ 1024) × (l.states ≤ 256)) × ((rows : List (List ℕ)) × (arcs_keep l.states rows (arcs_as part) ≡ true))) (sym c.arcs.ensures.part)
    (index-ready c.args.cells.now l (laid_out c.args.cells.now l c.layout_of-layout.ensures c.if-layout-cells.true) (sym c.keeps_rules.ensures ∙ c.if-keeps_rules.true))

pub first_arcs-first-requires-clause-cells_bound : goal.first_arcs-first-requires-clause-cells_bound
first_arcs-first-requires-clause-cells_bound c = (ready c).0

pub first_arcs-first-requires-clause-by_index : goal.first_arcs-first-requires-clause-by_index
first_arcs-first-requires-clause-by_index c = (ready c).1

pub returns-then-keeps_rules : goal.returns-then-keeps_rules
unfolding checked
returns-then-keeps_rules c =
    let l = (laid_out c.args.cells.now c.layout_of-layout.result c.layout_of-layout.ensures c.if-layout-cells.true) in
    ap₂ (λ (x : Layout) (f : List ℕ). Ok (record { layout = x; first = f })) c.layout_of-layout.ensures
    (c.first_arcs-first.ensures ∙ ap (λ (part : List ℕ). first_index c.layout_of-layout.result.states (arcs_as part)) c.arcs.ensures.part ∙ index-part c.args.cells.now c.layout_of-layout.result l)
    ∙ ap (checked_as (layout_of (counts_in c.args.cells.now))) (sym (loaded-kept c.args.cells.now l.whole (sym c.keeps_rules.ensures ∙ c.if-keeps_rules.true)))

pub returns-else-layout-cells : goal.returns-else-layout-cells
unfolding checked
returns-else-layout-cells c =
    elim c.else-layout-cells.branch [
      | else-layout-cells-via-then-layout-cells+else-keeps_rules w ↦ ap₂ checked_as c.layout_of-layout.ensures (sym (loaded-broken c.args.cells.now (sym w.keeps_rules.ensures ∙ w.if-keeps_rules.false)))
      | else-layout-cells-via-else-layout-cells w ↦ ap₂ checked_as c.layout_of-layout.ensures (sym (loaded-short c.args.cells.now (omega (arith, ap (λ (x : Layout). x.end) c.layout_of-layout.ensures, w.if-layout-cells.false))))
    ]
