-- A text of words, and its lines.
use Prim.Native.Nat.{ℕ}
use mathlib.Core.Path.{◌≡◌, refl}
use mathlib.Core.List.{List, [], ◌∷◌}
use Rattle.wordlist_lines.specs.Lines.{held_lines}

-- the mark; `# x` CRLF; CRLF; a blank, a tabulator, `ab`, a blank, CRLF; `cd` without line feed
abbrev pub text : List ℕ
text = 239 ∷ 187 ∷ 191 ∷ 35 ∷ 32 ∷ 120 ∷ 13 ∷ 10 ∷ 13 ∷ 10 ∷ 32 ∷ 9 ∷ 97 ∷ 98 ∷ 32 ∷ 13 ∷ 10 ∷ 99 ∷ 100 ∷ []

-- its third line holds `ab`, its fourth `cd`, and no other holds a word
pub held : held_lines text ≡ record { number = 3; text = 97 ∷ 98 ∷ [] } ∷ record { number = 4; text = 99 ∷ 100 ∷ [] } ∷ []
unfolding held_lines
held = refl
