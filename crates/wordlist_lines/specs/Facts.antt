-- The lines of a text by facts, for Next and for the theorems that say what Lines computes.
use Rattle.std.specs.Prelude.{ℕ, ◌+◌, ◌<◌, ◌≡◌, ◌⊎◌, true, false, length}
use mathlib.Core.List.{List, [], ◌∷◌, ◌++◌, Memᴰ}
use Rattle.wordlist_lines.specs.Lines.{is_blank, trimmed, passed_over, Line}

-- lines one after another, each followed by a line feed
abbrev pub fed : List (List ℕ) → List ℕ
fed [] = []
fed (l ∷ ls) = l ++ (10 ∷ fed ls)

-- no line feed in a line, and none in any of some lines
abbrev pub Unfed : List ℕ → Type 0
Unfed l = Memᴰ 10 l → ⊥

abbrev pub AllUnfed : List (List ℕ) → Type 0
AllUnfed ls = (l : List ℕ) → Memᴰ l ls → Unfed l

-- blanks and nothing else
abbrev pub Blanks : List ℕ → Type 0
Blanks l = (c : ℕ) → Memᴰ c l → is_blank c ≡ true

-- what begins, and what ends, with a character that is no blank
abbrev pub Begins : List ℕ → Type 0
Begins l = (c : ℕ) × (rest : List ℕ) × (l ≡ c ∷ rest) × (is_blank c ≡ false)

abbrev pub Ends : List ℕ → Type 0
Ends l = (rest : List ℕ) × (c : ℕ) × (l ≡ rest ++ (c ∷ [])) × (is_blank c ≡ false)

-- a line, and what it holds between blanks
pub record Trimmed (l held : List ℕ) : Type 0 where
  pub front : List ℕ
  pub back : List ℕ
  pub is : l ≡ front ++ (held ++ back)
  pub front-blank : Blanks front
  pub back-blank : Blanks back
  pub ends : (held ≡ []) ⊎ (Begins held × Ends held)

-- a line that holds a word, among lines that are numbered from n on
pub record HeldIn (n : ℕ) (ls : List (List ℕ)) (x : Line) : Type 0 where
  pub before : List (List ℕ)
  pub line : List ℕ
  pub after : List (List ℕ)
  pub is : ls ≡ before ++ (line ∷ after)
  pub number_is : x.number ≡ n + length before
  pub text-is : x.text ≡ trimmed line
  pub holds : passed_over (trimmed line) ≡ false

-- each line's number is below those of the lines after it
abbrev pub Rising : List Line → Type 0
Rising [] = Unit {0}
Rising (x ∷ xs) = ((y : Line) → Memᴰ y xs → x.number < y.number) × Rising xs
