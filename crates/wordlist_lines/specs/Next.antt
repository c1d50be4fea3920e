-- What the code tells of the next line that holds a word, in the terms of Lines.
use Rattle.std.specs.Prelude.{ℕ, suc, min, ◌+◌, ◌-◌, ◌≤◌, ◌<◌, ◌≡◌, Option, Some, None, List, [], ◌∷◌, ◌++◌, length, take, drop}
use Rattle.wordlist_lines.specs.declared.NextLine.{NextLine}
use Rattle.wordlist_lines.specs.Lines.{lines_in, untrailed, trimmed, held_from}
use Rattle.wordlist_lines.specs.Facts.{fed}

-- the characters of a text from one place to another
abbrev pub part : List ℕ → ℕ → ℕ → List ℕ
part text from end = take (end - from) (drop from text)

-- a line that was found after a place of a text at which a line begins; these facts leave no choice (`next_one`)
pub record FoundIs (text : List ℕ) (at from end passed next : ℕ) : Type 0 where
  -- it holds something, and lies before the line after it
  pub some : from < end
  pub inside : end ≤ next
  pub within : next ≤ length text
  -- each line that is passed over takes a character or more, and so does this one
  pub moves : at + passed < next
  -- it is the first of the lines that hold a word, and the others begin after it
  pub first : (n : ℕ) → held_from n (lines_in (drop at text)) ≡ record { number = n + passed; text = part text from end } ∷ held_from (suc (n + passed)) (lines_in (drop next text))
  -- the lines that are passed over, and the line with its blanks
  pub before : List (List ℕ)
  pub line : List ℕ
  pub lines : lines_in (drop at text) ≡ before ++ (line ∷ lines_in (drop next text))
  pub passed-are : length before ≡ passed
  -- the line begins after the others and their line feeds; what it holds stands between the blanks at its front and those at its end,
  pub end_is : end ≡ at + length (fed before) + length (untrailed line)
  pub from_is : from + length (trimmed line) ≡ end
  -- and the line after it begins after its line feed, or at the text's end
  pub next-is : next ≡ min (suc (at + length (fed before) + length line)) (length text)

-- what was told of the next line: where it is, or that no line from the place on holds a word
abbrev pub NextIs : Option NextLine → List ℕ → ℕ → Type 0
NextIs (Some line) text at = FoundIs text at line.from line.end line.passed line.next
NextIs None text at = (n : ℕ) → held_from n (lines_in (drop at text)) ≡ []
