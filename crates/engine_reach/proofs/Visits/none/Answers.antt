use Rattle.engine_reach.proofs.Marks.{listed-none}
use Rattle.engine_reach.proofs.Visits.none.Goals as goal

pub invariant_of-result : goal.invariant_of-result
invariant_of-result c = record { listed = listed-none }
