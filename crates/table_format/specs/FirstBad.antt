-- Document 01: "the first bad line wins, within it the lowest number; a missing line counts as standing at the end"; document 02: 34 is
-- "looked for right after 5". The same as in Parse, as a relation between lines and a refusal.
use Rattle.std.specs.Prelude.{ℕ, suc, ◌*◌, ◌≤◌, ◌≡◌, cond, eqb}
use mathlib.Core.List.{List, [], ◌∷◌, ◌++◌, Memᴰ}
use Rattle.refusal.specs.declared.InputCause.{InputCause}
use Rattle.refusal.specs.declared.InputCause.TheVariants.{Misplaced, LetterLimit, ClassFault}
use Rattle.refusal.specs.Refusal.{input_number}
use Rattle.table_format.specs.Table.{Table}
use Rattle.table_format.specs.Line.{Line, bytes_of}
use Rattle.table_format.specs.Parse.{Progress, closed, line_faults, onward}

-- a refusal's place in the order in which a line's faults are looked for: that of its number, but 34 "right after 5"
abbrev pub rank_of : InputCause → ℕ
rank_of cause = cond (eqb (input_number cause) (input_number ClassFault)) (suc (2 * input_number LetterLimit)) (2 * input_number cause)

-- how far a text has been read after some lines
abbrev pub progress_after : Progress → List Line → Progress
progress_after p [] = p
progress_after p (l ∷ ls) = progress_after (onward p (bytes_of l.chars)) ls

-- each line earns no refusal at its place
abbrev pub Clear : Progress → List Line → Type 0
Clear p [] = Unit {0}
Clear p (l ∷ ls) = (line_faults p l ≡ []) × Clear (onward p (bytes_of l.chars)) ls

-- a line that earns the refusal, and none that is looked for before it, after lines that earn none
pub record FirstBad (p : Progress) (ls : List Line) (cause : InputCause) : Type 0 where
  pub before : List Line
  pub line : Line
  pub behind : List Line
  pub cut : ls ≡ before ++ (line ∷ behind)
  pub clear : Clear p before
  pub earned : Memᴰ cause (line_faults (progress_after p before) line)
  pub lowest : (other : InputCause) → Memᴰ other (line_faults (progress_after p before) line) → rank_of cause ≤ rank_of other

-- no line earns a refusal, and the end line has not come: 2
pub record LineMissing (p : Progress) (ls : List Line) (cause : InputCause) : Type 0 where
  pub clear : Clear p ls
  pub unfinished : (t : Table) → progress_after p ls ≡ closed t → ⊥
  pub cause_is : cause ≡ Misplaced
