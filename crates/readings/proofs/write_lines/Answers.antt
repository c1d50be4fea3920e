-- A line is in the buffer, and where another follows fewer calls are left.
use Rattle.std.proofs.Common.{◌≡◌, ℕ, ◌+◌, ◌<◌, ◌≤◌, length, arith, refl, sym, ap, None, Some}
use Rattle.std.specs.Prelude.{Option}
use Rattle.session_opening.specs.declared.SessionState.{SessionState}
use Rattle.session.proofs.Next.{line-inside, calls-left}
use Rattle.readings.proofs.write_lines.Invariants.{calls_in}
use Rattle.readings.proofs.write_lines.Goals as goal

fewer : (next : Option SessionState) (calls : ℕ) → ((t : SessionState) → next ≡ Some t → t.calls < calls) → calls_in next < calls + 1
fewer (Some t) calls f = let less = f t refl in omega arith
fewer None calls f = omega arith

pub shared_ref_as_front-write_all : goal.shared_ref_as_front-write_all
shared_ref_as_front-write_all g c =
    let inside = line-inside c.args.table.now c.args.query.now.bytes c.in-Some.state c.loop-next.stack c.loop-next.output c.loop-next.line c.next_line-told.result c.next_line-told.new.stack c.next_line-told.new.output c.next_line-told.new.line c.next_line-told.ensures in
    omega (arith, inside, c.next_line-told.array_long, c.next_line-told.array_long2, c.next_line-told.array_long3)

pub loop-next-smaller : goal.loop-next-smaller
loop-next-smaller g c =
    let less = calls-left c.args.table.now c.args.query.now.bytes c.in-Some.state c.loop-next.stack c.loop-next.output c.loop-next.line c.next_line-told.result c.next_line-told.new.stack c.next_line-told.new.output c.next_line-told.new.line c.next_line-told.ensures in
    let lower = fewer c.next_line-told.result.next c.in-Some.state.calls less in
    omega (arith, lower, ap calls_in c.in-Some.is)
