-- Answers as structs of numbers, for C.
use Rattle.refusal.specs.Told.{Told}
use Rattle.capi_numbers.specs.declared.Reply.{Reply}

-- a reply's numbers, field by field
abbrev pub reply_told : Reply → Told
reply_told r = record { kind = r.kind; number = r.number; steps = r.steps; length = r.length }
