-- The engine's start, told in numbers: its result is the definition's.
use mathlib.Core.Path.{subst}
use Rattle.machine.specs.declared.Started.{Started}
use Rattle.machine.specs.Start.{started}
use Rattle.machine.proofs.Start.{start_is}
use Rattle.capi.specs.Start.{ReplyIs}
use Rattle.capi.proofs.starts.begin.Goals as goal

pub returns : goal.returns
returns c =
    let args = c.args in
    let same = start_is {x = started args.table.now args.task args.upper.now args.lower.now args.ceiling} {s = c.start-s.result} c.start-s.ensures in
    subst (λ (x : Started). ReplyIs x args.run c.start_reply-reply.result c.start_run-left.result) same (c.start_reply-reply.ensures.0, c.start_reply-reply.ensures.1, c.start_run-left.ensures)
