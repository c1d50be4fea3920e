-- The letters of a row, letter after letter, and the lines of the defined classes, class after class: what is left of them from one on.
use Prim.Native.Nat.{ℕ, zero, suc, ◌+◌, ◌-◌, ◌*◌, ◌≤◌, ◌<◌}
use native.Mathlib.Omega.{arith}
use native.Mathlib.Numerals.{add-one}
use mathlib.Core.Path.{◌≡◌, refl, sym, ap, ◌∙◌}
use mathlib.Core.Bool.{Bool, true, false, not, cond}
use mathlib.Core.List.{List, [], ◌∷◌}
use lib.Dec.{ltb}
use lib.ListN.{length, get_or, take, drop, length-drop, drop_of_length-le}
use lib.Seq.{drop-cons, get_or-take, get_or-drop, length-take-le}
use borrow.Author.Tests.{lt-ltb, le-ltb, ltb-false, ne_eqb}
use Rattle.std.specs.Prelude.{Some, None, nat_eq}
use Rattle.std.specs.List.{position, position_or_len}
use Rattle.std.specs.Option.{unwrap_or}
use Rattle.table_format.specs.Classes.{class_count, row_width, letters_in, is_defined}
use Rattle.table_format.specs.Loaded.{class_cells, rows_in}
use Rattle.table_format.specs.Text.{class_bytes, class_lines}
use Rattle.table_format.proofs.Classes.{length-rows_in, row_at}

-- The letters of a row.

-- they reach to the first 0
pub letters_to : (row : List ℕ) → position_or_len (λ x. nat_eq x 0) row ≡ length (letters_in row)
letters_to [] = refl
letters_to (zero ∷ row) = refl
letters_to (suc x ∷ row) =
    ap (λ (b : Bool). cond (not b) (1 + position_or_len (λ x. nat_eq x 0) row) 0) (ne_eqb (suc x) 0 (λ e. omega arith)) ∙ omega (arith, letters_to row)

-- they open the row
pub letters-few : (row : List ℕ) → length (letters_in row) ≤ length row
letters-few [] = omega arith
letters-few (zero ∷ row) = omega arith
letters-few (suc x ∷ row) = omega (arith, letters-few row)

-- the place of the first 0, or else the end
pub letters_found : (row : List ℕ) → unwrap_or (position (λ x. nat_eq x 0) row) (length row) ≡ length (letters_in row)
letters_found row = go (ltb (position_or_len (λ x. nat_eq x 0) row) (length row)) refl
  where
    go : (b : Bool) → ltb (position_or_len (λ x. nat_eq x 0) row) (length row) ≡ b → unwrap_or (cond b (Some (position_or_len (λ x. nat_eq x 0) row)) None) (length row) ≡ length (letters_in row)
    go true e = letters_to row
    go false e = omega (arith, letters-few row, letters_to row, ltb-false (position_or_len (λ x. nat_eq x 0) row) (length row) e)

pub letters_open : (row : List ℕ) → take (length (letters_in row)) row ≡ letters_in row
letters_open [] = refl
letters_open (zero ∷ row) = refl
letters_open (suc x ∷ row) = ap (λ (l : List ℕ). suc x ∷ l) (letters_open row)

-- The lines of the defined classes.

-- the row of class c, as code cuts it out of the cells
abbrev pub row_from : ℕ → List ℕ → List ℕ
row_from c cells = take (row_width * c + row_width - row_width * c) (drop (row_width * c) cells)

-- the lines from class c on
abbrev pub lines_from : ℕ → List ℕ → List (List ℕ)
lines_from c cells = class_lines c (drop c (rows_in class_count cells))

module _ (cells : List ℕ) (c : ℕ) where
  -- its sixteen cells
  row_is : row_from c cells ≡ take row_width (drop (row_width * c) cells)
  row_is = ap (λ (n : ℕ). take n (drop (row_width * c) cells)) {x = row_width * c + row_width - row_width * c} {y = row_width} (omega arith)

  pub row-long : length cells ≡ class_cells → c < class_count → length (row_from c cells) ≡ row_width
  row-long e h = ap length row_is ∙ length-take-le row_width (drop (row_width * c) cells) (omega (arith, length-drop (row_width * c) cells))

  pub row-cell : (i : ℕ) → i < row_width → get_or (row_from c cells) i 0 ≡ get_or cells (row_width * c + i) 0
  row-cell i h = ap (λ (row : List ℕ). get_or row i 0) row_is ∙ get_or-take row_width (drop (row_width * c) cells) i 0 h ∙ get_or-drop (row_width * c) cells i 0

  -- by whether class c is defined
  lines_split : (b : Bool) → c < class_count → ltb 0 (get_or cells (row_width * c) 0) ≡ b
      → lines_from c cells ≡ cond b (class_bytes c (row_from c cells) ∷ lines_from (c + 1) cells) (lines_from (c + 1) cells)
  unfolding class_lines
  lines_split b h e =
      ap (class_lines c) (drop-cons (rows_in class_count cells) c [] (omega (arith, length-rows_in class_count cells)))
      ∙ ap (λ (row : List ℕ). cond (is_defined row) (class_bytes c row ∷ after) after) (row_at class_count cells c h ∙ sym row_is)
      ∙ ap (λ (d : Bool). cond d (class_bytes c (row_from c cells) ∷ after) after) (ap (ltb 0) first ∙ e)
      ∙ ap (λ (n : ℕ). cond b (class_bytes c (row_from c cells) ∷ class_lines n (drop n (rows_in class_count cells))) (class_lines n (drop n (rows_in class_count cells)))) (sym (add-one c))
    where
      after : List (List ℕ)
      after = class_lines (suc c) (drop (suc c) (rows_in class_count cells))

      first : get_or (row_from c cells) 0 0 ≡ get_or cells (row_width * c) 0
      first = row-cell 0 (omega arith) ∙ ap (λ (i : ℕ). get_or cells i 0) {x = row_width * c + 0} {y = row_width * c} (omega arith)

  -- its line is the first of those left, or there is none
  pub lines_defined : c < class_count → (get_or cells (row_width * c) 0 ≡ 0 → ⊥) → lines_from c cells ≡ class_bytes c (row_from c cells) ∷ lines_from (c + 1) cells
  lines_defined h n = lines_split true h (lt-ltb 0 (get_or cells (row_width * c) 0) (omega arith))

  pub lines_undefined : c < class_count → get_or cells (row_width * c) 0 ≡ 0 → lines_from c cells ≡ lines_from (c + 1) cells
  lines_undefined h e = lines_split false h (le-ltb 0 (get_or cells (row_width * c) 0) (omega arith))

  -- no class is left
  pub lines_none : class_count ≤ c → lines_from c cells ≡ []
  unfolding class_lines
  lines_none h = ap (class_lines c) (drop_of_length-le (rows_in class_count cells) {i = c} (omega (arith, length-rows_in class_count cells)))
