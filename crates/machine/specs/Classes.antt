-- Document 02, slip 6, in its own words: what an arc of a class does. The machine of Transducer keeps to it (`class_fits_lem`, `class_passes`,
-- `class_writes`).
use Rattle.std.specs.Prelude.{ℕ, suc, ◌≤◌, ◌≡◌, true, get_or}
use mathlib.Core.List.{List, [], ◌∷◌, Memᴰ}
use Rattle.machine.specs.Query.{Task, recognition, synthesis, analysis, Side, reads, Query, word}
use Rattle.machine.specs.Transducer.{Passed, passed}

-- "It fits if the next letter is in the class; in recognition both words must have that same letter next": x is a letter of the class's row,
-- and the next one of every word that the task reads
pub record Fits (row : List ℕ) (q : Query) (d : Passed) (x : ℕ) : Type 0 where
  pub is_letter_lem : 1 ≤ x
  pub in_class_lem : Memᴰ x row
  pub is_next_lem : (s : Side) → reads q.task s ≡ true → get_or (word s q) (passed d s) 0 ≡ x

-- one letter more is passed on both sides
abbrev pub one_more : Passed → Passed
one_more d = record { up = suc d.up; low = suc d.low }

-- "in synthesis or analysis the letter read is written"
abbrev pub letter_written : Task → ℕ → List ℕ
letter_written recognition x = []
letter_written synthesis x = x ∷ []
letter_written analysis x = x ∷ []
