-- At every turn the bytes so far stand at the front of the array, as far as it has room.
use Prim.Native.Nat.{◌-◌}
use lib.ListN.{length}
use Rattle.table_scanner.proofs.Scanning.{Scanning}
use Rattle.table_scanner.proofs.scan.Given as goal

abbrev pub invariant-loop-at : goal.invariant-loop-at
invariant-loop-at l = Scanning l.text l.start l.initial.bytes l.bytes l.count l.at

abbrev pub decreases-loop-at : goal.decreases-loop-at
decreases-loop-at l = length l.text - l.at
