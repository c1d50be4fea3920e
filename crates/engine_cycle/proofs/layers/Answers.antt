-- The loop: the layers so far.
use Rattle.std.proofs.Common.{arith, not, ap, ◌∙◌}
use Rattle.engine_cycle.proofs.Rounds.{some-there, none-there, grown-first, grown-fewer, grown-more, grown-ends}
use Rattle.engine_cycle.proofs.layers.Goals as goal

pub loop-numbers-init : goal.loop-numbers-init
loop-numbers-init c = grown-first c.args.graph.now c.args.s (omega (arith, c.requires.s_in_bounds, c.args.graph.now.graph.few))

pub loop-numbers-smaller : goal.loop-numbers-smaller
loop-numbers-smaller c = grown-fewer c.args.graph.now c.args.s c.loop-numbers.invariant c.lowest.result c.lowest.ensures (none-there c.lowest.result (c.is_none.ensures ∙ ap not c.loop-numbers-test.true)) c.requires.walk c.layer.ensures

pub loop-numbers-preserved : goal.loop-numbers-preserved
loop-numbers-preserved c = grown-more c.args.graph.now c.args.s c.loop-numbers.invariant c.lowest.result c.lowest.ensures (none-there c.lowest.result (c.is_none.ensures ∙ ap not c.loop-numbers-test.true)) c.requires.walk c.layer.ensures

pub returns : goal.returns
returns c =
    let S = some-there c.lowest.result (c.is_none.ensures ∙ ap not c.loop-numbers-test.false) in
    grown-ends c.args.graph.now c.args.s c.loop-numbers.invariant c.lowest.result c.lowest.ensures S.0 S.1
