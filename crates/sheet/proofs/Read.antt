-- What is read of a text's first and last line, and that a sheet's are told: comparing is equality.
use Prim.Native.Nat.{ℕ, ◌-◌}
use native.Mathlib.Omega.{arith}
use mathlib.Core.Path.{◌≡◌, refl, sym, ap, ap₂, ◌∙◌}
use mathlib.Core.Logic.{◌↔◌}
use mathlib.Core.Bool.{Bool, true, false, cond, false≢true}
use mathlib.Core.List.{List, [], ◌∷◌, ◌++◌, append_assoc, append-nil}
use lib.Dec.{eqb}
use lib.ListN.{length, take, drop, length-append}
use lib.Seq.{take_at, drop_at}
use borrow.Author.Tests.{eqb-true, eq-eqb}
use Rattle.std.specs.List.{starts_with, ends_with}
use Rattle.std.specs.Cmp.Lexicographic.{pointwise}
use Rattle.std.proofs.lemmas.Bool.Decides.{Decides-eqb}
use Rattle.std.proofs.lemmas.Slice.Eq.{slice_eq-Decides}
use Rattle.table_format.proofs.Tests.{and_left, and_right, and_both}
use Rattle.sheet.specs.declared.LastWord.{LastWord}
use Rattle.sheet.specs.declared.LastWord.TheVariants.{End, More}
use Rattle.std.specs.Prelude.{Option, Some, None}
use Rattle.sheet_lines.specs.Lines.{line_size, filled, joined}
use Rattle.sheet.specs.Sheet.{opening_word, last_word, list_lines, sheet_of}
use Rattle.sheet.specs.Read.{same, opens_with, last_line, closes_with, last_word_in}
use Rattle.sheet_lines.proofs.Rows.{joined-append}
use Rattle.sheet.proofs.Sheet.{opening-line, last_line_lem}

-- Comparing.

same-told : (xs ys : List ℕ) → same xs ys ≡ true → xs ≡ ys
same-told [] [] e = refl
same-told [] (y ∷ ys) e = absurd (false≢true e)
same-told (x ∷ xs) [] e = absurd (false≢true e)
same-told (x ∷ xs) (y ∷ ys) e =
    ap₂ (λ (z : ℕ) (zs : List ℕ). z ∷ zs) (eqb-true x y (and_left _ _ e)) (same-told xs ys (and_right (eqb x y) _ e))

same_self : (xs : List ℕ) → same xs xs ≡ true
same_self [] = refl
same_self (x ∷ xs) = and_both (eq-eqb x x refl) (same_self xs)

module _ (xs ys : List ℕ) where
  same_true : xs ≡ ys → same xs ys ≡ true
  same_true e = ap (same xs) (sym e) ∙ same_self xs

  pub same-is : (same xs ys ≡ true) ↔ (xs ≡ ys)
  same-is = (same-told xs ys, same_true)

  same_false : (xs ≡ ys → ⊥) → same xs ys ≡ false
  same_false h = go (same xs ys) refl
    where
      go : (b : Bool) → same xs ys ≡ b → same xs ys ≡ false
      go true e = absurd (h (same-told xs ys e))
      go false e = e

-- what a comparison tells
as_same : (line part : List ℕ) (b : Bool) → b ≡ pointwise eqb line part → b ≡ same part line
as_same line part true e = sym (same_true part line (sym ((slice_eq-Decides Decides-eqb line part true e).0 refl)))
as_same line part false e = sym (same_false part line (λ q. false≢true ((slice_eq-Decides Decides-eqb line part false e).1 (sym q))))

-- Of any text.

abbrev word_as : Bool → Bool → Option LastWord
word_as end more = cond end (Some End) (cond more (Some More) None)

abbrev word_on : List ℕ → Option LastWord
word_on line = word_as (same line (filled (last_word true))) (same line (filled (last_word false)))

word_on_lem : (ended : Bool) → word_on (filled (last_word ended)) ≡ Some (cond ended End More)
unfolding filled
word_on_lem true = refl
word_on_lem false = refl

module _ (text : List ℕ) where
  -- what `starts_with` and `ends_with` tell of the lines
  pub opens_by : (line : List ℕ) (b : Bool) → line ≡ filled opening_word → b ≡ starts_with eqb text line → b ≡ opens_with text
  unfolding opens_with
  opens_by line b e v =
      as_same line (take (length line) text) b v ∙ ap₂ (λ (n : ℕ) (l : List ℕ). same (take n text) l) (ap length e ∙ opening-line.size) e

  pub closes_by : (ended : Bool) (line : List ℕ) (b : Bool) → line ≡ filled (last_word ended) → b ≡ ends_with eqb text line → b ≡ closes_with text ended
  closes_by ended line b e v =
      as_same line (drop (length text - length line) text) b v
      ∙ ap₂ (λ (n : ℕ) (l : List ℕ). same (drop (length text - n) text) l) (ap length e ∙ (last_line_lem ended).size) e

  -- by what comparing tells
  pub last-by : (end more : Bool) → closes_with text true ≡ end → closes_with text false ≡ more → last_word_in text ≡ word_as end more
  unfolding last_word_in
  last-by end more p q = ap₂ word_as p q

  pub opens_is : (opens_with text ≡ true) ↔ (take line_size text ≡ filled opening_word)
  unfolding opens_with
  opens_is = same-is (take line_size text) (filled opening_word)

  pub last_is_lem : (ended : Bool) → (last_word_in text ≡ Some (cond ended End More)) ↔ (last_line text ≡ filled (last_word ended))
  unfolding last_word_in
  last_is_lem ended = (to ended (same (last_line text) (filled (last_word true))) (same (last_line text) (filled (last_word false))) refl refl, λ e. ap word_on e ∙ word_on_lem ended)
    where
      to : (g a b : Bool) → same (last_line text) (filled (last_word true)) ≡ a → same (last_line text) (filled (last_word false)) ≡ b
          → word_as a b ≡ Some (cond g End More) → last_line text ≡ filled (last_word g)
      to true true b p q e = same-told _ _ p
      to true false true p q e = cc
      to true false false p q e = cc
      to false true b p q e = cc
      to false false true p q e = same-told _ _ q
      to false false false p q e = cc

-- Of a sheet.

module _ (faces : List ℕ) (ws : List (List ℕ)) (ended : Bool) where
  pub opens_told : opens_with (sheet_of faces ws ended) ≡ true
  unfolding sheet_of
  opens_told = (opens_is (sheet_of faces ws ended)).1 (take_at (filled opening_word) _ line_size opening-line.size)

  last_line-told : last_line (sheet_of faces ws ended) ≡ filled (last_word ended)
  unfolding sheet_of
  last_line-told = ap last_line e ∙ drop_at (opening ++ list) l (length ((opening ++ list) ++ l) - line_size) (simp length-append (omega (arith, (last_line_lem ended).size)))
    where
      opening : List ℕ
      opening = filled opening_word

      list : List ℕ
      list = joined (list_lines faces 1 ws)

      l : List ℕ
      l = filled (last_word ended)

      e : sheet_of faces ws ended ≡ (opening ++ list) ++ l
      e =
          ap (λ (x : List ℕ). opening ++ x) (joined-append (list_lines faces 1 ws) (l ∷ []) ∙ ap (λ (x : List ℕ). list ++ x) (append-nil l))
          ∙ sym (append_assoc opening list l)

  pub last-told : last_word_in (sheet_of faces ws ended) ≡ Some (cond ended End More)
  last-told = (last_is_lem (sheet_of faces ws ended) ended).1 last_line-told
