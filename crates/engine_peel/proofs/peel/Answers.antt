-- The loop: the states from q on had their turn.
use Rattle.std.proofs.Common.{arith, refl, ◌-◌}
use Rattle.engine_peel.proofs.Rounds.{round-begins, round-ends, round_dead, round_lives, round_dies}
use Rattle.engine_peel.proofs.peel.Goals as goal
use Rattle.engine_peel.proofs.peel.Goals.{else-alive-q-eq1-via-then-alive-q-eq1+else-is_leaf, else-alive-q-eq1-via-else-alive-q-eq1}

pub loop-q-init : goal.loop-q-init
loop-q-init c = round-begins c.args.graph.now c.args.alive.now c.args.graph.now.states refl

pub loop-q-preserved-then-is_leaf : goal.loop-q-preserved-then-is_leaf
loop-q-preserved-then-is_leaf c =
    round_dies c.args.graph.now c.args.alive.now c.loop-q.alive c.loop-q.q (c.loop-q.q - 1) c.loop-q.died c.loop-q.invariant (omega arith) c.is_leaf.result c.is_leaf.ensures c.if-alive-q-eq1.true c.if-is_leaf.true

pub loop-q-preserved : goal.loop-q-preserved
loop-q-preserved c =
    elim c.else-alive-q-eq1.branch [
      | else-alive-q-eq1-via-then-alive-q-eq1+else-is_leaf w ↦ round_lives c.args.graph.now c.args.alive.now c.loop-q.alive c.loop-q.q (c.loop-q.q - 1) c.loop-q.died c.loop-q.invariant (omega arith) w.is_leaf.result w.is_leaf.ensures w.if-is_leaf.false
      | else-alive-q-eq1-via-else-alive-q-eq1 w ↦ round_dead c.args.graph.now c.args.alive.now c.loop-q.alive c.loop-q.q (c.loop-q.q - 1) c.loop-q.died c.loop-q.invariant (omega arith) w.if-alive-q-eq1.false
    ]

pub returns : goal.returns
returns c = round-ends c.args.graph.now c.args.alive.now c.loop-q.alive c.loop-q.q c.loop-q.died (omega arith) c.loop-q.invariant
