-- At every turn the calls left come to what all of them come to.
use Rattle.session_calls.specs.Calls.{calls_outcome}
use Rattle.session_calls.proofs.Turns.{CallsLeft}
use Rattle.session_calls.proofs.make_calls.Given as goal

abbrev pub invariant-loop-left : goal.invariant-loop-left
invariant-loop-left l = CallsLeft l.table l.upper l.lower (calls_outcome l.table l.upper l.lower l.calls l.initial.run l.initial.stack l.initial.output) l.initial.stack l.initial.output l.left l.run l.stack l.output
