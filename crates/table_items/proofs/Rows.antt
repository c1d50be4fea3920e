-- The rows of the classes: in cells, with one put in its place, and the letters and the row of a class line.
use Prim.Native.Nat.{ℕ, zero, suc, ◌+◌, ◌-◌, ◌*◌, ◌≤◌, ◌<◌}
use native.Mathlib.Omega.{arith}
use native.Mathlib.Numerals.{add-one}
use mathlib.Core.Path.{◌≡◌, refl, sym, ap, ap₂, ◌∙◌}
use mathlib.Core.List.{List, [], ◌∷◌, ◌++◌, append_assoc, append-nil}
use lib.ListN.{length, get_or, take, drop, set, replicate, length-drop, drop_of_length-le}
use lib.Seq.{sets, sets-eq, drop-drop, length-take-le, take-suc, take_at, take-take, drop-append-le}
use borrow.Rule.Slice.PartMut.{put_mid}
use Rattle.table_format.specs.Classes.{class_count, row_width, row_with}
use Rattle.table_format.specs.Rules.{class_holds}
use Rattle.table_format.specs.Loaded.{classes_at, class_cells, rows_cells, rows_in, classes_in}
use Rattle.table_format.specs.Text.{line_bytes}
use Rattle.table_format.specs.Parse.{class_from, letters_from}
use Rattle.table_scanner.specs.Scan.{padded}
use Rattle.table_format.proofs.All.{All}
use Rattle.table_format.proofs.Stores.{sets-append}
use Rattle.table_format.proofs.Arcs.{at_equal}
use Rattle.table_scanner.proofs.Padded.{padded-short, byte_at}
use Rattle.table_items.proofs.Parts.{drop-take, sets-left, sets_right}

-- the cells of rows with a row put in its place
pub rows-set : (rows : List (List ℕ)) (c : ℕ) (row : List ℕ) → c < length rows → All (λ (r : List ℕ). length r ≡ row_width) rows → length row ≡ row_width
    → sets (rows_cells rows) (row_width * c) row ≡ rows_cells (set rows c row)
unfolding rows_cells
rows-set [] c row h a w = absurd (omega arith)
rows-set (first ∷ rows) zero row h a w =
    sets-left row first (rows_cells rows) 0 (omega (arith, a.0))
    ∙ ap (λ (l : List ℕ). l ++ rows_cells rows)
    (sets-eq row first 0 (omega (arith, a.0)) ∙ ap (λ (l : List ℕ). row ++ l) (drop_of_length-le first {i = 0 + length row} (omega (arith, a.0))) ∙ append-nil row)
rows-set (first ∷ rows) (suc c) row h a w =
    at_equal (λ n. sets (first ++ rows_cells rows) n row) (row_width * suc c) (length first + row_width * c) (omega (arith, a.0))
    ∙ sets_right first (rows_cells rows) row (row_width * c)
    ∙ ap (λ (l : List ℕ). first ++ l) (rows-set rows c row (omega arith) a.1 w)

-- a list stored cell by cell
pub stored_more : (cells : List ℕ) (at k : ℕ) (l : List ℕ) {v : ℕ} → k < length l → v ≡ get_or l k 0 → set (sets cells at (take k l)) (at + k) v ≡ sets cells at (take (k + 1) l)
stored_more cells at k l {v} h e =
    sets-append cells at (at + k) (take k l) (v ∷ []) (omega (arith, length-take-le k l (omega arith)))
    ∙ ap (sets cells at) (ap (λ (x : ℕ). take k l ++ (x ∷ [])) e ∙ sym (take-suc l k 0 h) ∙ ap (λ (n : ℕ). take n l) (sym (add-one k)))

-- a list put in the place of as many cells
pub part_set : (cells : List ℕ) (at k : ℕ) (part l : List ℕ) → k ≡ length l → part ≡ l → at + k ≤ length cells → put_mid at k cells part ≡ sets cells at l
part_set cells at k part l w e h =
    ap₂ (λ (x y : List ℕ). take at cells ++ (x ++ y)) e (drop-drop k at cells ∙ at_equal (λ n. drop n cells) (at + k) (at + length l) (omega arith))
    ∙ sym (append_assoc (take at cells) l (drop (at + length l) cells)) ∙ sym (sets-eq l cells at (omega arith))

-- rows are those of the cells that hold them
pub rows-front : (n : ℕ) (cells : List ℕ) → rows_in n (take (row_width * n) cells) ≡ rows_in n cells
unfolding rows_in
rows-front zero cells = refl
rows-front (suc n) cells =
    ap₂ (λ (r : List ℕ) (l : List ℕ). r ∷ rows_in n l) (take-take row_width (row_width * suc n) cells (omega arith))
    (drop-take row_width (row_width * suc n) cells ∙ at_equal (λ k. take k (drop row_width cells)) (row_width * suc n - row_width) (row_width * n) (omega arith))
    ∙ ap (λ (l : List (List ℕ)). take row_width cells ∷ l) (rows-front n (drop row_width cells))

-- The bytes of a class line in their array: its letters, and its row.

module _ (bytes b : List ℕ) (e : bytes ≡ padded b) (h : length b ≤ line_bytes) where
  pub letters_as : (count : ℕ) → count ≡ length b → 2 ≤ count → take (count - 2) (drop 2 bytes) ≡ letters_from b
  letters_as count w k =
      ap (λ (l : List ℕ). take (count - 2) (drop 2 l)) (e ∙ padded-short b h)
      ∙ ap (take (count - 2)) (drop-append-le 2 b _ (omega arith))
      ∙ take_at (drop 2 b) _ (count - 2) (omega (arith, length-drop 2 b))

  -- 34, as the code asks it
  pub class_told : (cells : List ℕ) (count : ℕ) → count ≡ length b → 2 ≤ count
      → class_holds (rows_in class_count (take class_cells (drop classes_at cells))) (get_or bytes 1 0) (take (count - 2) (drop 2 bytes)) ≡ class_holds (classes_in cells) (class_from b) (letters_from b)
  class_told cells count w k = λ i. class_holds (rows-front class_count (drop classes_at cells) i) (byte_at bytes b e 1 (omega arith) i) (letters_as count w k i)

  pub row_as : drop 2 bytes ≡ row_with (letters_from b)
  row_as = ap (drop 2) (e ∙ padded-short b h) ∙ go b
    where
      go : (b : List ℕ) → drop 2 (b ++ replicate (line_bytes - length b) 0) ≡ row_with (letters_from b)
      go [] = refl
      go (x ∷ []) = refl
      go (x ∷ y ∷ b) = at_equal (λ n. b ++ replicate n 0) (line_bytes - suc (suc (length b))) (row_width - length b) (omega arith)
