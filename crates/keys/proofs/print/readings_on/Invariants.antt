-- At every turn fewer lines were counted than have passed.
use Rattle.std.proofs.Common.{◌+◌, ◌<◌, ◌≤◌}
use Rattle.keys.proofs.print.readings_on.Given as goal

abbrev pub invariant-loop-k : goal.invariant-loop-k
invariant-loop-k l = (l.count < l.k) × (l.k ≤ l.k-end + 1)
