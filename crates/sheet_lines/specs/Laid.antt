-- Document 02, the answer sheet: the lines of a reading by facts, one for each part of its sentences.
use Rattle.std.specs.Prelude.{ℕ, ◌+◌, ◌*◌, ◌-◌, ◌≤◌, ◌<◌, ◌≡◌, length, get_or, take, drop, replicate}
use mathlib.Core.List.{List, [], ◌∷◌, ◌++◌, map, Memᴰ}
use Rattle.sheet_lines.specs.Lines.{columns, line_size, lead_columns, row_letters, joined}

-- "lines of exactly 72 characters plus a line feed"
pub record IsLine (l : List ℕ) : Type 0 where
  pub size : length l ≡ line_size
  pub feed : get_or l columns 0 ≡ 10

-- "right-aligned": blanks, and then digits of which the first is not 0
abbrev pub IsDigit : ℕ → Type 0
IsDigit c = (48 ≤ c) × (c ≤ 57)

pub record Aligned (cs : List ℕ) : Type 0 where
  pub blanks : ℕ
  pub first : ℕ
  pub others : List ℕ
  pub is : cs ≡ replicate blanks 32 ++ (first ∷ others)
  pub leads : (49 ≤ first) × (first ≤ 57)
  pub digits : (c : ℕ) → Memᴰ c others → IsDigit c

-- what columns say: their digits one after another, in tens; a blank counts as nothing
abbrev pub value_in : ℕ → ℕ
value_in c = c - 48

abbrev pub say_from : ℕ → List ℕ → ℕ
say_from v [] = v
say_from v (c ∷ cs) = say_from (v * 10 + value_in c) cs

abbrev pub columns_say : List ℕ → ℕ
columns_say cs = say_from 0 cs

-- "66 columns for letters": what stands in them
abbrev pub letters_in : List ℕ → List ℕ
letters_in l = take row_letters (drop lead_columns l)

-- "longer readings go on in lines that begin with 6 blanks"
abbrev pub GoesOn : List ℕ → Type 0
GoesOn l = take lead_columns l ≡ replicate lead_columns 32

-- the lines of a reading, of which there is one at least: "An empty reading takes one line"
pub record Laid (n : ℕ) (cs : List ℕ) (ls : List (List ℕ)) : Type 0 where
  pub first : List ℕ
  pub others : List (List ℕ)
  pub is : ls ≡ first ∷ others
  pub lines : (l : List ℕ) → Memᴰ l ls → IsLine l
  -- "its ordinal (1 to 1,000) right-aligned in 5 columns, a blank"
  pub aligned : Aligned (take 5 first)
  pub says : columns_say (take 5 first) ≡ n
  pub blank : get_or first 5 0 ≡ 32
  pub goes_on : (l : List ℕ) → Memᴰ l others → GoesOn l
  -- the columns for letters of all lines, one after another, hold the characters and then blanks
  pub blanks : ℕ
  pub letters : joined (map letters_in ls) ≡ cs ++ replicate blanks 32
  -- no line more than it takes: where there are others, the lines before the last have no room for all characters
  pub fewest : 0 < length others → row_letters * length others < length cs
