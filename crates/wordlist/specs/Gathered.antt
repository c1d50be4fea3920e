-- The words of a text, line by line, in a list that is sorted and has none twice: the whole list, or the first line whose word is bad, or with whose
-- word the letter tree has more than 256 states.
use Rattle.std.specs.Prelude.{ℕ, ◌≤◌, ◌<◌, ◌≡◌, ◌⊎◌, cond, Some, None, Result, Ok, Err, List, [], ◌∷◌, leb, length}
use Rattle.lexicon.specs.Words.{Word}
use Rattle.lexicon.specs.Beginnings.{beginnings}
use Rattle.lexicon.specs.Lexicon.{most_states}
use Rattle.lexicon.specs.Lexicon as lexicon
use Rattle.wordlist_lines.specs.Lines.{Line, held_lines}
use Rattle.wordlist_lines.specs.Next.{part}
use Rattle.wordlist_spelling.specs.declared.FaultKind.TheVariants.{NoLetter, TooLong}
use Rattle.wordlist_spelling.specs.Spelled.{Ending, spelled}
use Rattle.wordlist_sorted.specs.Sorted.{inserted}
use Rattle.wordlist_sorted.specs.Placed.{Holds}
use Rattle.wordlist.specs.declared.FaultKind.{FaultKind}
use Rattle.wordlist.specs.declared.FaultKind.TheVariants.{BadWord, TooMany}
use Rattle.wordlist.specs.declared.BadLine.{BadLine}
use Rattle.wordlist.specs.declared.ListFault.{ListFault}
use Rattle.wordlist.specs.declared.Words.{Words}

-- what a text comes to
pub data Fate : Type 0 where
  -- its words, sorted
  taken : List Word → Fate
  -- a line whose word is bad, and the words before it
  bad_word : Line → List Word → Fate
  -- a line with whose word there are too many states, and the words before it
  too_many : Line → List Word → Fate

-- a line after some words, by how its letters end; k goes on with its word among them
abbrev pub fate_by : Ending → Line → List Word → Word → (List Word → Fate) → Fate
fate_by None l ws w k = cond (leb (length (beginnings (inserted w ws))) most_states) (k (inserted w ws)) (too_many l ws)
fate_by (Some NoLetter) l ws w k = bad_word l ws
fate_by (Some TooLong) l ws w k = bad_word l ws

-- lines after some words
unfoldable pub fate_from : List Word → List Line → Fate
fate_from ws [] = taken ws
fate_from ws (l ∷ ls) = fate_by (spelled l.text).ending l ws (spelled l.text).letters (λ vs. fate_from vs ls)

unfoldable pub fate : List ℕ → Fate
fate text = fate_from [] (held_lines text)

-- What the code tells, and leaves in the list.

-- a line's word in its place among the words so far: how its letters end, what the list holds then, and whether there are too many states
abbrev pub AddedIs : Result ℕ FaultKind → (line : List ℕ) → List Word → (before after : List ℕ) → Type 0
AddedIs (Ok bytes) line ws before after =
    ((spelled line).ending ≡ None) × (length (beginnings (inserted (spelled line).letters ws)) ≤ most_states)
    × (bytes ≡ length (lexicon.spelled (inserted (spelled line).letters ws))) × Holds (inserted (spelled line).letters ws) before after
AddedIs (Err BadWord) line ws before after = (((spelled line).ending ≡ Some NoLetter) ⊎ ((spelled line).ending ≡ Some TooLong)) × Holds ws before after
AddedIs (Err TooMany) line ws before after =
    ((spelled line).ending ≡ None) × (most_states < length (beginnings (inserted (spelled line).letters ws))) × Holds (inserted (spelled line).letters ws) before after

-- a line of the text from one place to another
abbrev pub line_at : List ℕ → ℕ → ℕ → ℕ → Line
line_at text number from end = record { number = number; text = part text from end }

-- the same, of a line that cannot be used after some words
pub record BadLineIs (text : List ℕ) (ws : List Word) (bad : BadLine) (l : Line) : Type 0 where
  pub line-is : l ≡ line_at text bad.number bad.from bad.end
  pub rises : bad.from ≤ bad.end
  pub inside : bad.end ≤ length text
  pub counted : bad.count ≡ length ws

-- a line whose word is bad, or with whose word there are too many states
abbrev pub FaultIs : FaultKind → Fate → List ℕ → BadLine → List ℕ → List ℕ → Type 0
FaultIs BadWord f text bad before after =
    (ws : List Word) × (l : Line) × (f ≡ bad_word l ws) × BadLineIs text ws bad l × Holds ws before after
FaultIs TooMany f text bad before after =
    (ws : List Word) × (l : Line) × (f ≡ too_many l ws) × BadLineIs text ws bad l × Holds (inserted (spelled l.text).letters ws) before after

abbrev pub GatheredIs : Fate → List ℕ → Result Words ListFault → List ℕ → List ℕ → Type 0
GatheredIs f text (Ok told) before after =
    (ws : List Word) × (f ≡ taken ws) × (told.count ≡ length ws) × (told.bytes ≡ length (lexicon.spelled ws)) × Holds ws before after
GatheredIs f text (Err fault) before after = FaultIs fault.kind f text fault.line before after
