-- At every turn, the readings in the list before those still to come are those of the key.
use Rattle.std.proofs.Common.{ℕ, ◌≡◌, ◌+◌, ◌*◌, ◌-◌, ◌<◌, ◌≤◌, Ok, arith, ap, subst, sym, ◌∙◌}
use lib.ListN.{length-replicate}
use Rattle.std.proofs.lemmas.Result.{err_from_is_err_and}
use Rattle.machine.specs.Stack.{frame_width}
use Rattle.faces.specs.Lent.{most_readings}
use Rattle.session_calls.specs.Calls.{most_calls}
use Rattle.key_sheet.specs.Key.{key_from, stack_frames, output_letters, first_stack, first_output}
use Rattle.key_sheet.proofs.Gathering.{Gathering, gathering_none, gathered-all, gathered-ended, gathered-spent, gathered-refused, reading-inside, reading-length, reading-short, reading-room, gathering_more}
use Rattle.key_sheet.proofs.gather.Goals as goal

pub loop-read-init : goal.loop-read-init
loop-read-init c =
    let args = c.args in
    gathering_none args.table.now args.word.now args.list.now first_stack first_output args.first most_calls most_readings c.requires (length-replicate {A = ℕ} (stack_frames * frame_width) 0) (length-replicate {A = ℕ} output_letters 0)

pub returns-in_err-length : goal.returns-in_err-length
returns-in_err-length c =
    let taken : 0 < most_readings - c.loop-read._read = omega arith in
    let p = err_from_is_err_and c.from_residual.result c.from_residual.ensures.1 in
    rw (p.1, p.2) (gathered-refused c.loop-read.invariant taken c.make_calls.ensures c.in_err-length.was)

pub slice_bounds-output-end : goal.slice_bounds-output-end
slice_bounds-output-end c =
    let taken : 0 < most_readings - c.loop-read._read = omega arith in
    reading-inside c.loop-read.invariant taken c.make_calls.ensures (c.in_ok-length.was ∙ ap Ok c.in-Reading.is) (omega (arith, c.make_calls.auto)) (omega (arith, c.make_calls.auto))

pub slice_bounds-append-end : goal.slice_bounds-append-end
slice_bounds-append-end c =
    let taken : 0 < most_readings - c.loop-read._read = omega arith in
    sym (reading-length c.loop-read.invariant taken c.make_calls.ensures (c.in_ok-length.was ∙ ap Ok c.in-Reading.is) (omega (arith, c.make_calls.auto)) (omega (arith, c.make_calls.auto)))

pub append-bytes-requires-clause-letters_in_bounds : goal.append-bytes-requires-clause-letters_in_bounds
append-bytes-requires-clause-letters_in_bounds c =
    let taken : 0 < most_readings - c.loop-read._read = omega arith in
    reading-room c.loop-read.invariant taken c.make_calls.ensures (c.in_ok-length.was ∙ ap Ok c.in-Reading.is) (omega (arith, c.make_calls.auto)) (omega (arith, c.make_calls.auto))

pub append-bytes-requires-clause-letters_len_bound : goal.append-bytes-requires-clause-letters_len_bound
append-bytes-requires-clause-letters_len_bound c =
    let taken : 0 < most_readings - c.loop-read._read = omega arith in
    omega (arith, reading-short c.loop-read.invariant taken c.make_calls.ensures (c.in_ok-length.was ∙ ap Ok c.in-Reading.is) (omega (arith, c.make_calls.auto)) (omega (arith, c.make_calls.auto)))

pub returns-in-Ended : goal.returns-in-Ended
returns-in-Ended c =
    let taken : 0 < most_readings - c.loop-read._read = omega arith in
    gathered-ended c.loop-read.invariant taken c.make_calls.ensures (c.in_ok-length.was ∙ ap Ok c.in-Ended.is)

pub returns-in-Spent : goal.returns-in-Spent
returns-in-Spent c =
    let taken : 0 < most_readings - c.loop-read._read = omega arith in
    gathered-spent c.loop-read.invariant taken c.make_calls.ensures (c.in_ok-length.was ∙ ap Ok c.in-Spent.is)

pub loop-read-preserved : goal.loop-read-preserved
loop-read-preserved c =
    let taken : 0 < most_readings - c.loop-read._read = omega arith in
    let less : most_readings - c.loop-read._read - 1 ≡ most_readings - (c.loop-read._read + 1) = omega arith in
    subst
    (λ (left : ℕ). Gathering c.args.table.now c.args.word.now (key_from c.args.table.now c.args.word.now most_readings most_calls c.args.first first_stack first_output) c.args.list.now
    c.append-bytes.new.list c.make_calls.new.stack c.make_calls.new.output c.in-Reading.next c.in-Reading.more c.append-bytes.result left)
    less
    (gathering_more c.loop-read.invariant taken c.make_calls.ensures (c.in_ok-length.was ∙ ap Ok c.in-Reading.is) (omega (arith, c.make_calls.auto)) (omega (arith, c.make_calls.auto)) c.append-bytes.ensures.0 c.append-bytes.ensures.1)

pub returns : goal.returns
returns c = let none : most_readings - c.loop-read._read ≤ 0 = omega arith in gathered-all c.loop-read.invariant none
