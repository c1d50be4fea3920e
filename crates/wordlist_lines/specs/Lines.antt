-- A text of words: one word a line, in UTF-8, lines ending with LF or CRLF; blanks at a line's ends are passed over, and so are empty lines and those
-- that begin with `#`.
use Rattle.std.specs.Prelude.{ℕ, suc, Bool, true, cond, not, ◌&&◌, ◌||◌, List, [], ◌∷◌, eqb, length, get_or, drop}

-- a line feed
abbrev pub is_feed : ℕ → Bool
is_feed c = eqb c 10

-- a character in front of the first line
abbrev pub onto : ℕ → List (List ℕ) → List (List ℕ)
onto c [] = (c ∷ []) ∷ []
onto c (l ∷ ls) = (c ∷ l) ∷ ls

-- the lines of a text, each without its line feed; the last may lack it (`lines_are`)
abbrev pub lines_in : List ℕ → List (List ℕ)
lines_in [] = []
lines_in (c ∷ text) = cond (is_feed c) ([] ∷ lines_in text) (onto c (lines_in text))

-- a character in front of others: in front of nothing it stays where it passes a test
abbrev pub in_front : (ℕ → Bool) → ℕ → List ℕ → List ℕ
in_front p c [] = cond (p c) (c ∷ []) []
in_front p c (d ∷ l) = c ∷ d ∷ l

-- up to and with the last character that passes a test
abbrev pub up_to_last : (ℕ → Bool) → List ℕ → List ℕ
up_to_last p [] = []
up_to_last p (c ∷ l) = in_front p c (up_to_last p l)

-- how much of a text that was cut off is whole lines
abbrev pub whole_lines : List ℕ → ℕ
whole_lines text = length (up_to_last is_feed text)

-- how many line feeds a text has; one more is the number of the line after it
abbrev pub feeds : List ℕ → ℕ
feeds [] = 0
feeds (c ∷ text) = cond (is_feed c) (suc (feeds text)) (feeds text)

-- a blank, a tabulator or a carriage return, so that a line may end with CRLF (`blanks-are`)
abbrev pub is_blank : ℕ → Bool
is_blank c = eqb c 32 || (eqb c 9 || eqb c 13)

-- none of these
abbrev pub no_blank : ℕ → Bool
no_blank c = not (is_blank c)

-- without the blanks at the front
abbrev pub unled : List ℕ → List ℕ
unled [] = []
unled (c ∷ l) = cond (is_blank c) (unled l) (c ∷ l)

-- without the blanks at the end
abbrev pub untrailed : List ℕ → List ℕ
untrailed l = up_to_last no_blank l

-- without both (`trimmed-is`)
abbrev pub trimmed : List ℕ → List ℕ
trimmed l = unled (untrailed l)

-- a line that is passed over: empty, or it begins with `#` (`passed_over-are`)
abbrev pub passed_over : List ℕ → Bool
passed_over [] = true
passed_over (c ∷ l) = eqb c 35

-- a line with its number in the text, from 1, and what it holds
pub record Line : Type 0 where
  pub number : ℕ
  pub text : List ℕ

-- the lines that hold a word, of lines that are numbered from n on
abbrev pub held_from : ℕ → List (List ℕ) → List Line
held_from n [] = []
held_from n (l ∷ ls) = cond (passed_over (trimmed l)) (held_from (suc n) ls) (record { number = n; text = trimmed l } ∷ held_from (suc n) ls)

-- the mark EF BB BF with which some editors begin UTF-8 (`mark_is`, `mark_only`)
abbrev pub is_marked : List ℕ → Bool
is_marked text = eqb (get_or text 0 0) 239 && (eqb (get_or text 1 0) 187 && eqb (get_or text 2 0) 191)

-- how many characters of a text the mark takes
abbrev pub mark_size : List ℕ → ℕ
mark_size text = cond (is_marked text) 3 0

-- the lines of a text that hold a word (`lines-held`)
unfoldable pub held_lines : List ℕ → List Line
held_lines text = held_from 1 (lines_in (drop (mark_size text) text))
