-- At every turn the readings so far hold, and the bytes that are left decide.
use lib.ListN.{length}
use Rattle.faces.proofs.Lent.{Held}
use Rattle.faces.proofs.list.list_holds.Given as goal

abbrev pub invariant-loop-reading : goal.invariant-loop-reading
invariant-loop-reading l = Held l.bytes l.readings.0.now l.count

abbrev pub decreases-loop-reading : goal.decreases-loop-reading
decreases-loop-reading l = length l.readings.0.now
