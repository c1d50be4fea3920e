-- An answer in this paper's numbers. The definition of each answer enum says by cases what it tells.
use Rattle.std.specs.Prelude.{ℕ}
use Rattle.refusal.specs.declared.Refusal.{Refusal}
use Rattle.refusal.specs.Refusal.{number_of}

-- the kinds of answers, by their numbers
abbrev pub done_kind : ℕ
done_kind = 0

abbrev pub found_kind : ℕ
found_kind = 1

abbrev pub paused_kind : ℕ
paused_kind = 2

abbrev pub ended_kind : ℕ
ended_kind = 3

abbrev pub refused_kind : ℕ
refused_kind = 4

-- its kind, the number of its refusal, the steps made and the length told; what a case does not have is 0
pub record Told : Type 0 where
  pub kind : ℕ
  pub number : ℕ
  pub steps : ℕ
  pub length : ℕ

-- "A refusal carries its number"
abbrev pub refused_told : Refusal → ℕ → ℕ → Told
refused_told refusal steps length = record { kind = refused_kind; number = number_of refusal; steps = steps; length = length }

-- an answer that is no refusal
abbrev pub answered : ℕ → ℕ → ℕ → Told
answered kind steps length = record { kind = kind; number = 0; steps = steps; length = length }
