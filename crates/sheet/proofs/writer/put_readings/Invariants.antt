-- At every turn, storing the lines of the readings that are left gives what storing all of them gives.
use Prim.Native.Nat.{◌+◌}
use Rattle.std.specs.Iterator.Adapters.{enumerate_source, enumerate_count}
use Rattle.sheet.proofs.Stored.{Putting}
use Rattle.sheet.proofs.writer.put_readings.Given as goal

abbrev pub invariant-loop-before : goal.invariant-loop-before
invariant-loop-before l = Putting l.readings l.faces l.initial.sheet l.at l.sheet l.to (enumerate_count l.before-iterator + 1) (enumerate_source l.before-iterator).0.now
