-- None is left; or none of those that are left is reached and on a cycle; or the lowest of these has its cycle.
use Rattle.std.proofs.Common.{ap, ◌∙◌}
use Rattle.std.specs.Prelude.{Some}
use Rattle.engine_cycle.specs.declared.Cycle.{Cycle}
use Rattle.engine_idle.proofs.Cycles.{cycles_left, none_left, none-reached, lowest-state, on_cycle_lem, one-reached}
use Rattle.engine_idle.proofs.find.Goals as goal

pub returns-then-none_left : goal.returns-then-none_left
returns-then-none_left c = none_left c.args.graph.now c.args.initials.now _ c.requires c.settle.ensures c.if-none_left.ensures

pub lowest-requires-clause-cyclic : goal.lowest-requires-clause-cyclic
lowest-requires-clause-cyclic c = cycles_left c.args.graph.now c.args.initials.now _ c.requires c.settle.ensures

pub returns-in_err-s : goal.returns-in_err-s
returns-in_err-s c = c.from_residual.ensures ∙ none-reached c.args.graph.now c.args.initials.now _ c.requires c.settle.ensures _ c.reach-reached.ensures c.lowest.result c.lowest.ensures c.in_err-s.was

pub through-requires-clause-s_in_bounds : goal.through-requires-clause-s_in_bounds
through-requires-clause-s_in_bounds c = lowest-state c.args.graph.now c.args.initials.now _ c.requires c.settle.ensures _ c.reach-reached.ensures c.lowest.result c.lowest.ensures c.in_ok-s.s c.in_ok-s.was

pub through-requires-clause-walk : goal.through-requires-clause-walk
through-requires-clause-walk c = on_cycle_lem c.args.graph.now c.args.initials.now _ c.requires c.settle.ensures _ c.reach-reached.ensures c.lowest.result c.lowest.ensures c.in_ok-s.s c.in_ok-s.was

pub returns : goal.returns
returns c = ap (λ (x : Cycle). Some x) c.through.ensures ∙ one-reached c.args.graph.now c.args.initials.now _ c.requires c.settle.ensures _ c.reach-reached.ensures c.lowest.result c.lowest.ensures c.in_ok-s.s c.in_ok-s.was
