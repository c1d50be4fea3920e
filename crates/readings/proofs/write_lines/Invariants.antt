-- At every turn fewer calls are left.
use Rattle.std.proofs.Common.{ℕ, ◌+◌, None, Some}
use Rattle.std.specs.Prelude.{Option}
use Rattle.session_opening.specs.declared.SessionState.{SessionState}
use Rattle.readings.proofs.write_lines.Given as goal

abbrev pub calls_in : Option SessionState → ℕ
calls_in (Some state) = state.calls + 1
calls_in None = 0

abbrev pub decreases-loop-next : goal.decreases-loop-next
decreases-loop-next g l = calls_in l.next
