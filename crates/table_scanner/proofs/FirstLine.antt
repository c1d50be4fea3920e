-- The first line of a text: by its first character, how long it is, and the lines after it.
use Prim.Native.Nat.{ℕ, suc, ◌≤◌, ◌<◌}
use native.Mathlib.Omega.{arith}
use mathlib.Core.Path.{◌≡◌, refl, sym, ap, subst, ◌∙◌}
use mathlib.Core.Bool.{Bool, true, false, cond}
use mathlib.Core.List.{List, [], ◌∷◌}
use lib.Dec.{eqb}
use lib.ListN.{length, get_or, drop}
use Rattle.table_format.specs.Line.{Line, with_char, lines_of, size_of}
use Rattle.table_scanner.specs.Scan.{no_line, first_line}
use Rattle.table_format.proofs.Line.{lines_char}

-- a line with one character more in front
abbrev pub with_first : ℕ → Line → Line
with_first c l = record { chars = c ∷ l.chars; fed = l.fed }

-- the empty line
abbrev pub empty_line : Line
empty_line = record { chars = []; fed = true }

pub first-none : first_line [] ≡ no_line
unfolding first_line lines_of
first-none = refl

module _ (c : ℕ) (cs : List ℕ) where
  pub lines-fed : eqb c 10 ≡ true → lines_of (c ∷ cs) ≡ empty_line ∷ lines_of cs
  unfolding lines_of
  lines-fed e = ap (λ (b : Bool). cond b (empty_line ∷ lines_of cs) (with_char c (lines_of cs))) e

  pub first-feed : eqb c 10 ≡ true → first_line (c ∷ cs) ≡ empty_line
  unfolding first_line
  first-feed e = ap (λ (ls : List Line). get_or ls 0 no_line) (lines-fed e)

  pub first_char : eqb c 10 ≡ false → first_line (c ∷ cs) ≡ with_first c (first_line cs)
  unfolding first_line
  first_char e = ap (λ (ls : List Line). get_or ls 0 no_line) (lines_char c cs e) ∙ go (lines_of cs)
    where
      go : (ls : List Line) → get_or (with_char c ls) 0 no_line ≡ with_first c (get_or ls 0 no_line)
      go [] = refl
      go (l ∷ ls) = refl

  pub size-feed : eqb c 10 ≡ true → size_of (first_line (c ∷ cs)) ≡ 1
  size-feed e = ap size_of (first-feed e)

  pub size_char : eqb c 10 ≡ false → size_of (first_line (c ∷ cs)) ≡ suc (size_of (first_line cs))
  size_char e = ap size_of (first_char e) ∙ omega arith

pub first-inside : (s : List ℕ) → size_of (first_line s) ≤ length s
first-inside [] = omega (arith, ap size_of first-none)
first-inside (c ∷ cs) = go (eqb c 10) refl (first-inside cs)
  where
    go : (b : Bool) → eqb c 10 ≡ b → size_of (first_line cs) ≤ length cs → size_of (first_line (c ∷ cs)) ≤ suc (length cs)
    go true e h = omega (arith, size-feed c cs e)
    go false e h = omega (arith, size_char c cs e)

pub first_some : (s : List ℕ) → 0 < length s → 0 < size_of (first_line s)
first_some [] h = absurd (omega arith)
first_some (c ∷ cs) h = go (eqb c 10) refl
  where
    go : (b : Bool) → eqb c 10 ≡ b → 0 < size_of (first_line (c ∷ cs))
    go true e = omega (arith, size-feed c cs e)
    go false e = omega (arith, size_char c cs e)

-- A text's lines are its first and those after it.

abbrev Cut : List ℕ → Line → Type 0
Cut s l = lines_of s ≡ l ∷ lines_of (drop (size_of l) s)

cut-longer : (c : ℕ) (cs : List ℕ) → eqb c 10 ≡ false → (0 < length cs → Cut cs (first_line cs)) → Cut (c ∷ cs) (with_first c (first_line cs))
unfolding first_line lines_of
cut-longer c [] e rec = lines_char c [] e
cut-longer c (d ∷ cs) e rec =
    let l : Line = first_line (d ∷ cs) in
    let size : suc (size_of l) ≡ size_of (with_first c l) = omega arith in
    lines_char c (d ∷ cs) e ∙ ap (with_char c) (rec (omega arith)) ∙ ap (λ (n : ℕ). with_first c l ∷ lines_of (drop n (c ∷ d ∷ cs))) size

pub lines-first : (s : List ℕ) → 0 < length s → lines_of s ≡ first_line s ∷ lines_of (drop (size_of (first_line s)) s)
lines-first [] h = absurd (omega arith)
lines-first (c ∷ cs) h = go (eqb c 10) refl (lines-first cs)
  where
    go : (b : Bool) → eqb c 10 ≡ b → (0 < length cs → Cut cs (first_line cs)) → Cut (c ∷ cs) (first_line (c ∷ cs))
    go true e rec = subst (Cut (c ∷ cs)) (sym (first-feed c cs e)) (lines-fed c cs e)
    go false e rec = subst (Cut (c ∷ cs)) (sym (first_char c cs e)) (cut-longer c cs e rec)
