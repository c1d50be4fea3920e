-- The loop: the initial states before it are met.
use Rattle.std.proofs.Common.{get_or}
use Rattle.std.specs.Prelude.{Some}
use Rattle.engine_reach.specs.Reach.{Meets}
use Rattle.engine_reach.proofs.Marks.{Values}
use Rattle.engine_reach.proofs.reach.Given as goal

abbrev pub invariant-loop-state : goal.invariant-loop-state
invariant-loop-state l = Meets (Values (λ i. Some (get_or l.initials i 0)) 0 l.state-index) l.initial.visits.met l.initial.visits.order l.initial.visits.count l.visits.met l.visits.order l.visits.count
