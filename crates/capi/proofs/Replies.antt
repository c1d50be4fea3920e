-- What a start tells C has one solution.
use mathlib.Core.Path.{◌≡◌, sym, ◌∙◌}
use Rattle.machine.specs.declared.Run.{Run}
use Rattle.machine.specs.declared.Started.{Started}
use Rattle.capi_numbers.specs.declared.Reply.{Reply}
use Rattle.capi_numbers.specs.Numbers.{reply_told}
use Rattle.capi.specs.declared.StartReply.{StartReply}
use Rattle.capi.specs.Start.{ReplyIs}

told-one : (r v : Reply) → reply_told r ≡ reply_told v → r ≡ v
told-one r v e i = record { kind = (e i).kind; number = (e i).number; steps = (e i).steps; length = (e i).length }

pub reply-one : (s : Started) (before : Run) (r v : StartReply) (a b : Run) → ReplyIs s before r a → ReplyIs s before v b → (r ≡ v) × (a ≡ b)
reply-one s before r v a b P Q = (
  λ i. record { answer = told-one r.answer v.answer (P.0 ∙ sym Q.0) i; cycle = (P.1 ∙ sym Q.1) i },
  P.2 ∙ sym Q.2,
)
