-- Document 01: "Where an answer is an enum, a definition sets out this paper's number and values for each of its cases." The answers of the
-- call for a reading and of the start.
use Rattle.std.specs.Prelude.{ℕ, cond, List, [], ◌∷◌, eqb, take}
use Rattle.refusal.specs.Told.{Told, done_kind, found_kind, paused_kind, ended_kind, refused_told, answered}
use Rattle.machine.specs.declared.Answer.{Answer}
use Rattle.machine.specs.declared.Answer.TheVariants.{Found, Paused, Ended, Refused}
use Rattle.machine.specs.declared.StartAnswer.{StartAnswer}
use Rattle.machine.specs.declared.StartAnswer.TheVariants as S

-- the call for a reading: "Its answer carries the number of steps made in this call, and is Found (.., its length told), Paused, Ended, or
-- Refused"
abbrev pub told : Answer → Told
told (Found steps length) = answered found_kind steps length
told (Paused steps) = answered paused_kind steps 0
told (Ended steps) = answered ended_kind steps 0
told (Refused steps refusal) = refused_told refusal steps 0

-- the output that an answer tells of, as the call left it in the buffer
abbrev pub output_told : Told → List ℕ → List (List ℕ)
output_told d buffer = cond (eqb d.kind found_kind) (take d.length buffer ∷ []) []

-- the start: "A refusal carries its number, 12 its cycle too". With a refusal the length is that of the cycle, 0 without 12.
abbrev pub start_told : StartAnswer → ℕ → Told
start_told S.Ready length = answered done_kind 0 0
start_told (S.Refused refusal) length = refused_told refusal 0 length
