-- At every turn the words so far, with the lines that are left, come to what the whole text comes to.
use Prim.Native.Nat.{◌-◌}
use lib.ListN.{length}
use Rattle.wordlist.proofs.Going.{Going}
use Rattle.wordlist.proofs.gather.Given as goal

abbrev pub invariant-loop-from : goal.invariant-loop-from
invariant-loop-from l = Going l.text l.initial.list l.list l.at l.before l.count l.bytes

abbrev pub decreases-loop-from : goal.decreases-loop-from
decreases-loop-from l = length l.text - l.at
