-- The loop: the states so far, and a layer to go to.
use Rattle.std.proofs.Common.{◌-◌}
use Rattle.engine_cycle.proofs.Way.{OnWay}
use Rattle.engine_cycle.proofs.trace.Given as goal

abbrev pub invariant-loop-n : goal.invariant-loop-n
invariant-loop-n l = OnWay l.graph l.s l.numbers l.count l.states l.n (l.count - l.n) l.q
