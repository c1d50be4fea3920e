-- What is told of the next line is one.
use Prim.Native.Nat.{ℕ}
use native.Mathlib.Omega.{arith}
use mathlib.Core.Path.{◌≡◌, refl, sym, ap, ◌∙◌}
use mathlib.Core.List.{List, [], ◌∷◌, ◌++◌, nil≢cons}
use lib.ListN.{length, get_or, take, drop}
use lib.Seq.{take_at, get_or_at}
use Rattle.wordlist_lines.specs.declared.NextLine.{NextLine}
use Rattle.std.specs.Prelude.{Option, Some, None}
use Rattle.wordlist_lines.specs.Lines.{Line, lines_in, untrailed, trimmed}
use Rattle.wordlist_lines.specs.Facts.{fed}
use Rattle.wordlist_lines.specs.Next.{FoundIs, NextIs}

abbrev next_at : ℕ → ℕ → ℕ → ℕ → NextLine
next_at from end passed next = record { from = from; end = end; passed = passed; next = next }

abbrev first_number : List Line → ℕ
first_number [] = 0
first_number (x ∷ xs) = x.number

-- the first line that holds a word has one number, so as many lines are before it, and by these go all its places
module _ (text : List ℕ) (at from end passed next from' end' passed' next' : ℕ) (F : FoundIs text at from end passed next) (G : FoundIs text at from' end' passed' next') where
  same-passed : passed ≡ passed'
  same-passed = omega (arith, ap first_number (sym (F.first 0) ∙ G.first 0))

  same_lines : F.before ++ (F.line ∷ lines_in (drop next text)) ≡ G.before ++ (G.line ∷ lines_in (drop next' text))
  same_lines = sym F.lines ∙ G.lines

  same-before : F.before ≡ G.before
  same-before = sym (take_at F.before _ passed F.passed-are) ∙ ap (take passed) same_lines ∙ take_at G.before _ passed (G.passed-are ∙ sym same-passed)

  same_line : F.line ≡ G.line
  same_line =
      sym (get_or_at F.before F.line _ [] passed F.passed-are)
      ∙ ap (λ (ls : List (List ℕ)). get_or ls passed []) same_lines
      ∙ get_or_at G.before G.line _ [] passed (G.passed-are ∙ sym same-passed)

  same_start : length (fed F.before) ≡ length (fed G.before)
  same_start = ap (λ (ls : List (List ℕ)). length (fed ls)) same-before

  same_end : end ≡ end'
  same_end = omega (arith, F.end_is, G.end_is, same_start, ap (λ (l : List ℕ). length (untrailed l)) same_line)

  same_from : from ≡ from'
  same_from = omega (arith, F.from_is, G.from_is, same_end, ap (λ (l : List ℕ). length (trimmed l)) same_line)

  same_next : next ≡ next'
  same_next = omega (arith, F.next-is, G.next-is, same_start, ap length same_line)

  pub found-one : (from ≡ from') × (end ≡ end') × (passed ≡ passed') × (next ≡ next')
  found-one = (same_from, same_end, same-passed, same_next)

  same-found : Some (next_at from end passed next) ≡ Some (next_at from' end' passed' next')
  same-found = rw (same_from, same_end, same-passed, same_next)

pub next_one : (text : List ℕ) (at : ℕ) (r s : Option NextLine) → NextIs r text at → NextIs s text at → r ≡ s
next_one text at None None F G = refl
next_one text at None (Some b) F G = absurd (nil≢cons (sym (F 0) ∙ G.first 0))
next_one text at (Some a) None F G = absurd (nil≢cons (sym (G 0) ∙ F.first 0))
next_one text at (Some a) (Some b) F G = same-found text at a.from a.end a.passed a.next b.from b.end b.passed b.next F G
