-- The loop: no arc before it leads to a state that is alive.
use Rattle.std.proofs.Common.{arith, ℕ, ap, sym, subst, ◌∙◌}
use Rattle.std.specs.declared.ops.Range.{Range}
use Rattle.engine_graph.proofs.Targets.{arc_in, edge_at, edges_among}
use Rattle.engine_peel.specs.Peel.{Lives}
use Rattle.engine_peel.proofs.Rounds.{leaf-not, leaf}
use Rattle.engine_peel.proofs.is_leaf.Goals as goal

pub loop-n-init : goal.loop-n-init
loop-n-init c =
    let a = ap (λ (r : Range ℕ). r.start) c.into_iter-n-iterator.ensures.into_iter_gives in
    let b = ap (λ (r : Range ℕ). r.end) c.into_iter-n-iterator.ensures.into_iter_gives in
    let e = c.arcs_of-n-items.ensures in
    (tt, tt, omega arith, b ∙ e.1, λ n x h k. absurd (omega arith))

pub idle_target-requires : goal.idle_target-requires
idle_target-requires c = let s = c.in-Some.ensures.steps in let i = c.loop-n.invariant in arc_in c.args.graph.now c.args.q c.in-Some.n c.requires.q_in_bounds (omega arith) (omega arith)

pub bounds-alive-from : goal.bounds-alive-from
bounds-alive-from c =
    let s = c.in-Some.ensures.steps in
    let i = c.loop-n.invariant in
    let E = edge_at c.args.graph.now c.args.q c.in-Some.n c.in-Some-idle_target.target c.requires.q_in_bounds (omega arith) (omega arith) (sym c.in-Some-idle_target.ensures) in
    omega (arith, c.from.ensures, (edges_among c.args.graph.now _ _ E).1, c.requires.states)

pub returns-then-alive-from-eq1 : goal.returns-then-alive-from-eq1
returns-then-alive-from-eq1 c =
    let s = c.in-Some.ensures.steps in
    let i = c.loop-n.invariant in
    leaf-not c.args.graph.now c.args.alive.now c.args.q c.requires.q_in_bounds c.in-Some.n c.in-Some-idle_target.target (omega arith) (omega arith) (sym c.in-Some-idle_target.ensures) (subst (Lives c.args.alive.now) c.from.ensures c.if-alive-from-eq1.true)

pub returns : goal.returns
returns c = let s = c.in-None.ensures.steps in let i = c.loop-n.invariant in leaf c.args.graph.now c.args.alive.now c.args.q c.requires.q_in_bounds (λ n x a b e. i.4 n x a (omega arith) e)
