use Prim.Native.Nat.{ℕ, ◌+◌, ◌<◌, ◌-◌}
use native.Mathlib.Omega.{arith}
use mathlib.Core.Path.{◌≡◌, sym, ap, subst, ◌∙◌}
use mathlib.Core.List.{List}
use lib.ListN.{get_or, set, drop, length-drop}
use Rattle.table_format.specs.declared.Arc as Held
use Rattle.table_format.specs.Cells.{arc_count, arc_of, arcs_as}
use Rattle.table_format.proofs.Arcs.{length-arcs}
use Rattle.table_format.proofs.Index.{ending-few, below-few, source-inside, Counts, Sums, counts-last, counts-back, sums_none, sums-more, sums-all}
use Rattle.table_check.proofs.first_arcs.Goals as goal
use Rattle.table_check.proofs.first_arcs.Goals.{After-arc_at-arc}

-- the source of the arc looked at, which is a state
source_is : (c : After-arc_at-arc) → (arc_of c.args.cells.now (c.loop-n.n - 1)).source ≡ c.arc_at-arc.result.source
source_is c = sym (ap (λ (a : Held.Arc). a.source) c.arc_at-arc.ensures)

inside : (c : After-arc_at-arc) → c.arc_at-arc.result.source < c.args.states
inside c =
    omega (arith, source_is c, source-inside c.args.states c.requires.by_index.0 c.args.cells.now (arc_count c.args.cells.now) (c.loop-n.n - 1) (omega arith) c.requires.by_index.1)

pub loop-n-init : goal.loop-n-init
loop-n-init c = counts-last c.args.cells.now (arc_count c.args.cells.now)

pub bounds-first-from : goal.bounds-first-from
bounds-first-from c = omega (arith, inside (goal.at.bounds-first-from c).After-arc_at-arc, c.from.ensures)

pub bounds-first-from-in-loop-n : goal.bounds-first-from-in-loop-n
bounds-first-from-in-loop-n c = omega (arith, inside (goal.at.bounds-first-from-in-loop-n c).After-arc_at-arc, c.from.ensures)

pub overflow_add-first-in-loop-n : goal.overflow_add-first-in-loop-n
overflow_add-first-in-loop-n c =
    let cells = c.args.cells.now in
    let next = c.from.result + 1 in
    let in_reach = inside (goal.at.overflow_add-first-in-loop-n c).After-arc_at-arc in
    omega (arith, c.loop-n.invariant.1 next (omega (arith, c.from.ensures)), ending-few (drop c.loop-n.n (arcs_as cells)) next, length-drop c.loop-n.n (arcs_as cells), length-arcs (arc_count cells) cells)

pub loop-n-preserved : goal.loop-n-preserved
loop-n-preserved c =
    let cells = c.args.cells.now in
    let first : List ℕ = c.loop-n.first in
    let is = source_is (goal.at.loop-n-preserved c).After-arc_at-arc in
    let in_reach = inside (goal.at.loop-n-preserved c).After-arc_at-arc in
    subst (λ (s : ℕ). Counts (drop (c.loop-n.n - 1) (arcs_as cells)) (set first (s + 1) (get_or first (s + 1) 0 + 1))) (is ∙ sym c.from.ensures)
    (counts-back cells (arc_count cells) c.loop-n.n first (omega arith) (omega arith) (omega arith) c.loop-n.invariant)

pub loop-q-init : goal.loop-q-init
loop-q-init c =
    sums_none (arcs_as c.args.cells.now) c.loop-n.first (subst (λ (n : ℕ). Counts (drop n (arcs_as c.args.cells.now)) c.loop-n.first) {x = c.loop-n.n} {y = 0} (omega arith) c.loop-n.invariant)

pub overflow_add-first-in-loop-q-2 : goal.overflow_add-first-in-loop-q-2
overflow_add-first-in-loop-q-2 c =
    let cells = c.args.cells.now in
    omega (arith, c.loop-q.invariant.counted (c.loop-q.q + 1) (omega arith) (omega (arith, c.from-q-end.ensures)), c.loop-q.invariant.summed c.loop-q.q (omega arith), ending-few (arcs_as cells) (c.loop-q.q + 1), below-few (arcs_as cells) c.loop-q.q, length-arcs (arc_count cells) cells)

pub loop-q-preserved : goal.loop-q-preserved
loop-q-preserved c = sums-more (arcs_as c.args.cells.now) c.loop-q.q c.loop-q.first (omega (arith, c.from-q-end.ensures)) c.loop-q.invariant

pub returns : goal.returns
returns c =
    let arcs = arcs_as c.args.cells.now in
    sums-all c.args.states c.requires.by_index.0 arcs c.loop-q.first (omega arith) c.requires.by_index.1 (subst (λ (n : ℕ). Sums arcs n c.loop-q.first) (omega (arith, c.from-q-end.ensures)) c.loop-q.invariant)
