-- At every turn the calls left come to what all of them come to.
use native.Mathlib.Omega.{arith}
use mathlib.Core.Path.{refl}
use Rattle.session_calls.proofs.Turns.{made_of, none_left, call-found, call-ended, call-refused, call-paused}
use Rattle.session_calls.proofs.make_calls.Goals as goal

pub loop-left-init : goal.loop-left-init
loop-left-init c = record { is = refl; same-stack = refl; same-output = refl }

pub returns-in-Found : goal.returns-in-Found
returns-in-Found c = call-found c.loop-left.invariant c.loop-left-test.true (made_of c.advance-called.result c.advance-called.ensures) c.in-Found.is

pub returns-in-Ended : goal.returns-in-Ended
returns-in-Ended c = call-ended c.loop-left.invariant c.loop-left-test.true (made_of c.advance-called.result c.advance-called.ensures) c.in-Ended.is

pub returns-in-Refused : goal.returns-in-Refused
returns-in-Refused c = call-refused c.loop-left.invariant c.loop-left-test.true (made_of c.advance-called.result c.advance-called.ensures) c.in-Refused.is

pub loop-left-preserved : goal.loop-left-preserved
loop-left-preserved c =
    call-paused c.loop-left.invariant c.loop-left-test.true (made_of c.advance-called.result c.advance-called.ensures) c.in-Paused.is (omega (arith, c.advance-called.auto)) (omega (arith, c.advance-called.auto))

pub returns : goal.returns
returns c = none_left c.loop-left.invariant c.loop-left-test.false
