-- The refusals in their order, then what the search for a cycle found.
use Rattle.refusal.specs.declared.Refusal.TheVariants.{Input, State}
use Rattle.refusal.specs.declared.StateCause.TheVariants.{LoadedTable}
use Rattle.table_check.proofs.Passing.{passed, failed}
use Rattle.engine_admission.proofs.Words.{asking_table, asking_turned}
use Rattle.engine_start.proofs.Starts.{start-turned, start-laid, start_graph, start-initials, start-ready, start-cycle}
use Rattle.engine_start.proofs.start.Goals as goal

pub returns-in_default : goal.returns-in_default
returns-in_default c = start-turned c.args.table.now c.args.task c.args.upper.now c.args.lower.now c.args.ceiling (State LoadedTable) (asking_table c.args.table.now c.args.task c.args.upper.now c.args.lower.now c.args.ceiling (failed c.args.table.now _ c.in_default.ensures)) c.refused.result c.refused.ensures

pub returns-in-Err : goal.returns-in-Err
returns-in-Err c = start-turned c.args.table.now c.args.task c.args.upper.now c.args.lower.now c.args.ceiling (Input c.in-Err.cause) (asking_turned _ _ (c.in-Err.ensures c.args.table.now (passed c.args.table.now c.in-Ok.checked c.in-Ok.ensures))) c.refused-in-Err.result c.refused-in-Err.ensures

pub arcs-requires : goal.arcs-requires
arcs-requires c = start-laid c.args.table.now c.args.task c.args.upper.now c.args.lower.now c.args.ceiling c.in-Ok.checked c.in-Ok.ensures c.in_default-admitted.ensures

pub invariant_of-graph : goal.invariant_of-graph
invariant_of-graph c = record { graph = start_graph c.args.table.now c.args.task c.args.upper.now c.args.lower.now c.args.ceiling c.in-Ok.checked c.in-Ok.ensures c.in_default-admitted.ensures c.arcs.result.now c.from.result c.arcs.ensures.table c.from.ensures }

pub initials-requires : goal.initials-requires
initials-requires c = start-laid c.args.table.now c.args.task c.args.upper.now c.args.lower.now c.args.ceiling c.in-Ok.checked c.in-Ok.ensures c.in_default-admitted.ensures

pub find-requires : goal.find-requires
find-requires c = start-initials c.args.table.now c.args.task c.args.upper.now c.args.lower.now c.args.ceiling c.in-Ok.checked c.in-Ok.ensures c.in_default-admitted.ensures c.initials.result.now c.from.result c.initials.ensures.table c.from.ensures

pub returns-in-None : goal.returns-in-None
returns-in-None c = start-ready c.args.table.now c.args.task c.args.upper.now c.args.lower.now c.args.ceiling c.in-Ok.checked c.in-Ok.ensures c.in_default-admitted.ensures c.arcs.result.now c.from.result c.reads.result c.reads-2.result c.initials.result.now c.arcs.ensures.table c.initials.ensures.table c.from.ensures c.reads.ensures c.reads-2.ensures c.in-None.ensures c.ready.result c.ready.ensures

pub returns-in-Some : goal.returns-in-Some
returns-in-Some c = start-cycle c.args.table.now c.args.task c.args.upper.now c.args.lower.now c.args.ceiling c.in-Ok.checked c.in-Ok.ensures c.in_default-admitted.ensures c.arcs.result.now c.from.result c.reads.result c.reads-2.result c.initials.result.now c.arcs.ensures.table c.initials.ensures.table c.from.ensures c.reads.ensures c.reads-2.ensures c.in-Some.found c.in-Some.ensures c.first_run.result c.first_run.ensures
