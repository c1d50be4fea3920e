-- The loop: the targets of the state's idle arcs before it are met.
use Rattle.std.proofs.Common.{arith, ℕ, ◌≡◌, get_or, sym, ap, subst, ◌∙◌}
use Rattle.std.specs.Prelude.{Some}
use Rattle.std.specs.declared.ops.Range.{Range}
use Rattle.engine_graph.proofs.Targets.{target_at, edges_among, arc_in, edge_at}
use Rattle.engine_reach.specs.Reach.{Meets}
use Rattle.engine_reach.proofs.Marks.{Values, values-begin, values-more, meets_targets}
use Rattle.engine_reach.proofs.Visits.follow.Goals as goal

pub loop-n-init : goal.loop-n-init
loop-n-init c =
    let a = ap (λ (r : Range ℕ). r.start) c.into_iter-n-iterator.ensures.into_iter_gives in
    let b = ap (λ (r : Range ℕ). r.end) c.into_iter-n-iterator.ensures.into_iter_gives in
    let e = c.arcs_of-n-items.ensures in
    (tt, tt, omega arith, b ∙ e.1, λ i h k. absurd (omega arith), values-begin _ _ c.into_iter-n-iterator.result.start _ _ _ (omega arith))

pub idle_target-requires : goal.idle_target-requires
idle_target-requires c = let s = c.in-Some.ensures.steps in let i = c.loop-n.invariant in arc_in c.args.graph.now c.args.q c.in-Some.n c.requires (omega arith) (omega arith)

pub visit-requires : goal.visit-requires
visit-requires c =
    let s = c.in-Some.ensures.steps in
    let i = c.loop-n.invariant in
    let E = edge_at c.args.graph.now c.args.q c.in-Some.n c.in-Some-idle_target.target c.requires (omega arith) (omega arith) (sym c.in-Some-idle_target.ensures) in
    omega (arith, (edges_among c.args.graph.now _ _ E).1, c.args.graph.now.graph.few)

pub loop-n-preserved-in-Some-idle_target : goal.loop-n-preserved-in-Some-idle_target
loop-n-preserved-in-Some-idle_target c =
    let s = c.in-Some.ensures.steps in
    let i = c.loop-n.invariant in (
      tt,
      tt,
      omega arith,
      s.0 ∙ i.3,
      λ j h k. omega arith,
      subst (λ (n : ℕ). Meets (Values (target_at c.args.graph.now) (get_or c.args.graph.now.first.now c.args.q 0) n) c.args.self.now.met c.args.self.now.order c.args.self.now.count c.visit.new.self.met c.visit.new.self.order c.visit.new.self.count) (sym s.1.2)
          (values-more _ _ c.loop-n.n-iterator.start c.in-Some-idle_target.target i.2 (subst (λ (n : ℕ). target_at c.args.graph.now n ≡ Some c.in-Some-idle_target.target) s.1.1 (sym c.in-Some-idle_target.ensures)) i.5 c.visit.ensures),
    )

pub returns : goal.returns
returns c = let h = c.in-None.ensures.steps in let i = c.loop-n.invariant in meets_targets c.args.graph.now c.args.q c.loop-n.n-iterator.start c.requires (omega arith) i.4 i.5
