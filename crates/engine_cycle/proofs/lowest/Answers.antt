-- The loop: of the targets of the state's arcs before it, the lowest with the number.
use Rattle.std.proofs.Common.{arith, ℕ, ap, sym, subst, ◌∙◌}
use Rattle.std.specs.declared.ops.Range.{Range}
use Rattle.std.proofs.Common.{◌≡◌}
use Rattle.std.specs.Prelude.{◌+◌, Some, None, min}
use Rattle.engine_cycle.specs.Numbers.{number_in}
use Rattle.engine_graph.proofs.Targets.{target_at, arc_in, edge_at, edges_among}
use Rattle.engine_cycle.proofs.Targets.{Least, least-begins, least-none, least-other, least-lower, least-is}
use Rattle.engine_cycle.proofs.lowest.Goals as goal

pub loop-n-init : goal.loop-n-init
loop-n-init c =
    let a = ap (λ (r : Range ℕ). r.start) c.into_iter-n-iterator.ensures.into_iter_gives in
    let b = ap (λ (r : Range ℕ). r.end) c.into_iter-n-iterator.ensures.into_iter_gives in
    let e = c.arcs_of-n-items.ensures in
    (tt, tt, omega arith, b ∙ e.1, λ i h k. absurd (omega arith), least-begins c.args.graph.now c.args.numbers.now c.args.far c.args.q c.into_iter-n-iterator.result.start (omega arith))

pub idle_target-requires : goal.idle_target-requires
idle_target-requires c = let s = c.in-Some.ensures.steps in let i = c.loop-n.invariant in arc_in c.args.graph.now c.args.q c.in-Some.n c.requires (omega arith) (omega arith)

pub returns : goal.returns
returns c = let s = c.in-None.ensures.steps in let i = c.loop-n.invariant in least-is c.args.graph.now c.args.numbers.now c.args.far c.args.q c.requires c.loop-n.n-iterator.start c.loop-n.lowest (omega arith) i.4 i.5

pub bounds-numbers-from : goal.bounds-numbers-from
bounds-numbers-from c =
    let s = c.in-Some.ensures.steps in
    let i = c.loop-n.invariant in
    let E = edge_at c.args.graph.now c.args.q c.in-Some.n c.in-Some-idle_target.target c.requires (omega arith) (omega arith) (sym c.in-Some-idle_target.ensures) in
    omega (arith, c.from.ensures, (edges_among c.args.graph.now _ _ E).1, c.args.graph.now.graph.few)

pub loop-n-preserved : goal.loop-n-preserved
loop-n-preserved c =
    let s = c.in-Some.ensures.steps in
    let i = c.loop-n.invariant in (
      tt,
      tt,
      omega arith,
      s.0 ∙ i.3,
      λ j h k. omega arith,
      subst (λ (n : ℕ). Least c.args.graph.now c.args.numbers.now c.args.far c.args.q n c.loop-n.lowest) (sym s.1.2)
          (least-none c.args.graph.now c.args.numbers.now c.args.far c.args.q c.loop-n.n-iterator.start c.loop-n.lowest i.5 (subst (λ (n : ℕ). target_at c.args.graph.now n ≡ None) s.1.1 (sym c.in_default.ensures))),
    )

pub loop-n-preserved-else-numbers-from : goal.loop-n-preserved-else-numbers-from
loop-n-preserved-else-numbers-from c =
    let s = c.in-Some.ensures.steps in
    let i = c.loop-n.invariant in
    let to = subst (λ (n : ℕ). target_at c.args.graph.now n ≡ Some c.in-Some-idle_target.target) s.1.1 (sym c.in-Some-idle_target.ensures) in (
      tt,
      tt,
      omega arith,
      s.0 ∙ i.3,
      λ j h k. omega arith,
      subst (λ (n : ℕ). Least c.args.graph.now c.args.numbers.now c.args.far c.args.q n c.loop-n.lowest) (sym s.1.2)
          (least-other c.args.graph.now c.args.numbers.now c.args.far c.args.q c.loop-n.n-iterator.start c.loop-n.lowest i.5 c.in-Some-idle_target.target to (λ e. c.if-numbers-from.false (ap (number_in c.args.numbers.now) c.from.ensures ∙ e))),
    )

pub loop-n-preserved-then-numbers-from : goal.loop-n-preserved-then-numbers-from
loop-n-preserved-then-numbers-from c =
    let s = c.in-Some.ensures.steps in
    let i = c.loop-n.invariant in
    let to = subst (λ (n : ℕ). target_at c.args.graph.now n ≡ Some c.in-Some-idle_target.target) s.1.1 (sym c.in-Some-idle_target.ensures) in (
      tt,
      tt,
      omega arith,
      s.0 ∙ i.3,
      λ j h k. omega arith,
      subst (λ (n : ℕ). Least c.args.graph.now c.args.numbers.now c.args.far c.args.q n (Some c.min.result)) (sym s.1.2)
          (subst (λ (m : ℕ). Least c.args.graph.now c.args.numbers.now c.args.far c.args.q (c.loop-n.n-iterator.start + 1) (Some m)) (sym (c.min.ensures ∙ ap (min c.in-Some-idle_target.target) c.unwrap_or.ensures))
          (least-lower c.args.graph.now c.args.numbers.now c.args.far c.args.q c.loop-n.n-iterator.start c.loop-n.lowest i.5 i.2 c.in-Some-idle_target.target (to, ap (number_in c.args.numbers.now) (sym c.from.ensures) ∙ c.if-numbers-from.true))),
    )
