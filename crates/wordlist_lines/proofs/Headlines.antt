-- The theorems about the lines of a text, stated together. What each one means is in specs/; how it is shown is in the files that it names.
use Prim.Native.Nat.{ℕ, ◌<◌}
use mathlib.Core.Path.{◌≡◌, refl, ap}
use mathlib.Core.Logic.{◌↔◌, ◌⊎◌, ⊎_elim}
use mathlib.Core.Bool.{true}
use mathlib.Core.List.{List, [], ◌∷◌, ◌++◌, Memᴰ}
use lib.ListN.{length, drop}
use Rattle.std.specs.Prelude.{Option}
use Rattle.wordlist_lines.specs.Lines.{lines_in, whole_lines, feeds, is_blank, trimmed, passed_over, Line, held_from, mark_size, held_lines}
use Rattle.wordlist_lines.specs.declared.NextLine.{NextLine}
use Rattle.wordlist_lines.specs.Next.{FoundIs, NextIs}
use Rattle.wordlist_lines.specs.Facts.{fed, Unfed, AllUnfed, Trimmed, HeldIn, Rising}
use Rattle.wordlist_lines.proofs.Tests as tests
use Rattle.wordlist_lines.proofs.Texts as texts
use Rattle.wordlist_lines.proofs.Trimming as trimming
use Rattle.wordlist_lines.proofs.Numbers as numbers
use Rattle.wordlist_lines.proofs.Places as places

-- Every text is lines without line feeds, each followed by one, and a rest without.
pub text-is : (text : List ℕ) → (ls : List (List ℕ)) × (rest : List ℕ) × (text ≡ fed ls ++ rest) × AllUnfed ls × Unfed rest
text-is = texts.text-is

-- Where the rest is empty, these are its lines;
pub lines_are : (ls : List (List ℕ)) → AllUnfed ls → lines_in (fed ls) ≡ ls
lines_are = texts.lines_are

-- else the rest is one more.
pub lines_and_last : (ls : List (List ℕ)) (last : List ℕ) → AllUnfed ls → Unfed last → 0 < length last → lines_in (fed ls ++ last) ≡ ls ++ (last ∷ [])
lines_and_last = texts.lines_and_last

-- The whole lines reach up to the rest,
pub whole_lines-are : (ls : List (List ℕ)) (rest : List ℕ) → Unfed rest → whole_lines (fed ls ++ rest) ≡ length (fed ls)
whole_lines-are = texts.whole_lines-are

-- and there are as many line feeds as whole lines.
pub feeds-are : (ls : List (List ℕ)) (rest : List ℕ) → AllUnfed ls → Unfed rest → feeds (fed ls ++ rest) ≡ length ls
feeds-are = texts.feeds-are

-- A blank is one of three characters.
pub blanks-are : (c : ℕ) → (is_blank c ≡ true) ↔ ((c ≡ 32) ⊎ ((c ≡ 9) ⊎ (c ≡ 13)))
blanks-are c = (tests.blank-is c, ⊎_elim (ap is_blank) (⊎_elim (ap is_blank) (ap is_blank)))

-- Blanks at the ends of a line are passed over: what is left stands between blanks, and is nothing or neither begins nor ends with one;
pub trimmed-is : (l : List ℕ) → Trimmed l (trimmed l)
trimmed-is = trimming.trimmed-is

-- nothing else is so.
pub trimmed-only : (l held : List ℕ) → Trimmed l held → held ≡ trimmed l
trimmed-only = trimming.trimmed-only

-- Empty lines and lines that begin with `#` are passed over:
pub passed_over-are : (l : List ℕ) → (passed_over l ≡ true) ↔ ((l ≡ []) ⊎ ((rest : List ℕ) × (l ≡ 35 ∷ rest)))
passed_over-are l = (tests.passed_is l, ⊎_elim (ap passed_over) (λ r. ap passed_over r.1))

-- of lines that are numbered from n on the others are held, each with its number and what is left of it,
pub held-are : (n : ℕ) (ls : List (List ℕ)) (x : Line) → Memᴰ x (held_from n ls) ↔ HeldIn n ls x
held-are n ls x = (numbers.held-numbers n ls x, numbers.numbers-held n ls x)

-- in the order of their numbers.
pub held-rising : (n : ℕ) (ls : List (List ℕ)) → Rising (held_from n ls)
held-rising = numbers.held-rising

-- The mark of UTF-8 is three characters at a text's front,
pub mark_is : (rest : List ℕ) → mark_size (239 ∷ 187 ∷ 191 ∷ rest) ≡ 3
mark_is rest = refl

-- and any other text has none.
pub mark_only : (text : List ℕ) → ((rest : List ℕ) → text ≡ 239 ∷ 187 ∷ 191 ∷ rest → ⊥) → mark_size text ≡ 0
mark_only = tests.mark_only

-- The lines of a text are numbered from 1, and the mark at its front is no part of the first;
pub lines-held : (text : List ℕ) (x : Line) → Memᴰ x (held_lines text) ↔ HeldIn 1 (lines_in (drop (mark_size text) text)) x
unfolding held_lines
lines-held text x = held-are 1 (lines_in (drop (mark_size text) text)) x

-- those that hold a word come in the order of their numbers.
pub lines-rising : (text : List ℕ) → Rising (held_lines text)
unfolding held_lines
lines-rising text = held-rising 1 (lines_in (drop (mark_size text) text))

-- Where a line is found after a place of a text, there is one answer to where it begins and ends, how many are passed over and where the next begins,
pub found-one : (text : List ℕ) (at from end passed next from' end' passed' next' : ℕ) → FoundIs text at from end passed next → FoundIs text at from' end' passed' next'
    → (from ≡ from') × (end ≡ end') × (passed ≡ passed') × (next ≡ next')
found-one = places.found-one

-- and so the code's answer is the only one that its contract allows.
pub next_one : (text : List ℕ) (at : ℕ) (r s : Option NextLine) → NextIs r text at → NextIs s text at → r ≡ s
next_one = places.next_one
