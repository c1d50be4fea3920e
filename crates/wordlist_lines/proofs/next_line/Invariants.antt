-- At every turn the lines so far are passed over.
use Prim.Native.Nat.{◌-◌}
use lib.ListN.{length}
use Rattle.wordlist_lines.proofs.Turns.{Passing}
use Rattle.wordlist_lines.proofs.next_line.Given as goal

abbrev pub invariant-loop-from : goal.invariant-loop-from
invariant-loop-from l = Passing l.text l.at l.passed l.from

abbrev pub decreases-loop-from : goal.decreases-loop-from
decreases-loop-from l = length l.text - l.from
