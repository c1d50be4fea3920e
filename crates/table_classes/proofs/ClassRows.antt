-- Laws of the loops over letters and rows: what the next letter, cell or row decides.
use Prim.Native.Nat.{ℕ, zero, suc, ◌+◌, ◌-◌, ◌*◌, ◌≤◌, ◌<◌}
use native.Mathlib.Omega.{arith}
use native.Mathlib.Numerals.{add-one}
use mathlib.Core.Path.{◌≡◌, refl, sym, ap, ap₂, ◌∙◌}
use mathlib.Core.Bool.{Bool, true, false, not, cond, ◌&&◌, ◌||◌, and_assoc, and-false, and-eq-true_iff}
use mathlib.Core.Option.{some, none}
use mathlib.Core.List.{List, [], ◌∷◌, ◌++◌}
use lib.Dec.{eqb, leb, ltb}
use lib.ListN.{length, get_or, take, drop, set, replicate, length-drop, drop_of_length-le}
use lib.Seq.{drop-cons, drop-drop, get_or-take, get_or-drop, take-suc, take-suc-set, take_all, length-take-le}
use borrow.Author.Tests.{leb-true, ltb-true, lt-ltb, le-ltb, lt-leb, eq-eqb, eqb-true, eqb-false}
use Rattle.std.specs.List.{list_all, range_with_len}
use Rattle.table_format.specs.Classes.{class_count, row_width, letters_in, is_defined}
use Rattle.table_format.specs.Rules.{any, each, letters_rise, class_holds, is_blank, row_holds, classes_keep, keeps_rules}
use Rattle.table_format.specs.Loaded.{classes_at, class_cells, initials_at, counts_in, extent, rows_cells, rows_in, classes_in, table_in, loaded}
use Rattle.table_format.proofs.Classes.{blank-zeros, length-rows_in, row_at, rows_of, cells-small}
use Rattle.table_format.proofs.Rules.{keeps-parts}
use Rattle.table_classes.proofs.Chains.{all_each}

-- Letters that rise.

-- x is a letter above m
abbrev pub is_next : ℕ → ℕ → Bool
is_next m x = ltb m x && leb x 63

module _ (m x : ℕ) (b : Bool) where
  pub next_low : x ≤ m → (is_next m x && b) ≡ false
  next_low h = ap (λ (t : Bool). (t && leb x 63) && b) (le-ltb m x h)

  pub next-high : 63 < x → (is_next m x && b) ≡ false
  next-high h = ap (λ (t : Bool). (ltb m x && t) && b) (lt-leb x 63 h) ∙ ap (λ (t : Bool). t && b) (and-false (ltb m x))

-- What a list shows from place k on, by the cell there.
module _ (l : List ℕ) (k : ℕ) (h : k < length l) where
  front : drop k l ≡ get_or l k 0 ∷ drop (k + 1) l
  front = drop-cons l k 0 h ∙ ap (λ (n : ℕ). get_or l k 0 ∷ drop n l) (sym (add-one k))

-- Rows.

-- letters above m, and then only 0
abbrev pub fills : ℕ → List ℕ → Bool
fills m row = letters_rise m (letters_in row) && is_blank (drop (length (letters_in row)) row)

pub row-fills : (row : List ℕ) → length row ≡ row_width → row_holds row ≡ fills 0 row
unfolding row_holds
row-fills row e = ap (λ (t : Bool). t && fills 0 row) (eq-eqb (length row) row_width e)

fills-cons : (m x : ℕ) (row : List ℕ) → 0 < x → fills m (x ∷ row) ≡ (is_next m x && fills x row)
fills-cons m zero row p = absurd (omega arith)
fills-cons m (suc x) row p = and_assoc (is_next m (suc x)) (letters_rise (suc x) (letters_in row)) (is_blank (drop (length (letters_in row)) row))

module _ (row : List ℕ) (k : ℕ) (h : k < length row) (m : ℕ) where
  pub fills-step : (get_or row k 0 ≡ 0 → ⊥) → fills m (drop k row) ≡ (is_next m (get_or row k 0) && fills (get_or row k 0) (drop (k + 1) row))
  fills-step ne = ap (fills m) (front row k h) ∙ fills-cons m (get_or row k 0) (drop (k + 1) row) (omega (arith, ne))

-- The rows in cells.

-- blank cells hold no class
pub blank-keeps : (cells : List ℕ) → length cells ≡ class_cells → is_blank cells ≡ true → classes_keep (rows_in class_count cells) ≡ true
unfolding rows_in classes_keep row_holds each
blank-keeps cells e b = ap (λ (l : List ℕ). classes_keep (rows_in class_count l)) (blank-zeros cells b ∙ ap (λ (n : ℕ). replicate n 0) e)

rows-keep : (cells : List ℕ) → classes_keep (rows_in class_count cells) ≡ each (λ before row. row_holds row) [] (rows_in class_count cells)
unfolding classes_keep
rows-keep cells = ap (λ (t : Bool). t && each (λ before row. row_holds row) [] (rows_in class_count cells)) (eq-eqb _ _ (length-rows_in class_count cells))

-- a row as a part of the cells, by its first cell and the cell after it
abbrev pub part : List ℕ → ℕ → List ℕ
part cells c = take (row_width * c + row_width - row_width * c) (drop (row_width * c) cells)

module _ (cells : List ℕ) (c : ℕ) (h : c < class_count) where
  width : row_width * c + row_width - row_width * c ≡ row_width
  width = omega arith

  pub part_length : length cells ≡ class_cells → length (part cells c) ≡ row_width
  part_length e = length-take-le _ (drop (row_width * c) cells) (simp length-drop (omega arith)) ∙ width

  part-row : get_or (rows_in class_count cells) c [] ≡ part cells c
  part-row = row_at class_count cells c h ∙ ap (λ (n : ℕ). take n (drop (row_width * c) cells)) (sym width)

-- each row holds, by its place
pub rows_all_hold : (cells : List ℕ) → list_all (λ c. row_holds (part cells c)) (range_with_len 0 class_count) ≡ classes_keep (rows_in class_count cells)
rows_all_hold cells =
    let size = length-rows_in class_count cells in
    ap (λ (n : ℕ). list_all (λ c. row_holds (part cells c)) (range_with_len 0 n)) (sym size)
    ∙ all_each row_holds [] (rows_in class_count cells) (λ c. row_holds (part cells c)) (λ c h. ap row_holds (sym (part-row cells c (omega arith))))
    ∙ sym (rows-keep cells)

-- a class is defined where its first cell holds a letter
pub defined_at : (cells : List ℕ) (c : ℕ) → c < class_count → is_defined (get_or (rows_in class_count cells) c []) ≡ ltb 0 (get_or cells (row_width * c) 0)
defined_at cells c h =
    ap is_defined (row_at class_count cells c h)
    ∙ ap (ltb 0) (get_or-take row_width (drop (row_width * c) cells) 0 0 (omega arith) ∙ get_or-drop (row_width * c) cells 0 0 ∙ ap (λ (n : ℕ). get_or cells n 0) {x = row_width * c + 0} {y = row_width * c} (omega arith))

-- that a class is not defined, by that cell
abbrev pub is_free : List ℕ → ℕ → Bool
is_free cells c = eqb (get_or cells (row_width * c) 0) 0

-- the rows from class c on hold no class where n cells of theirs show none
free_from : (cells : List ℕ) (n c : ℕ) → c + n ≡ class_count → not (any is_defined (drop c (rows_in class_count cells))) ≡ list_all (is_free cells) (range_with_len c n)
free_from cells zero c e = ap (λ (rows : List (List ℕ)). not (any is_defined rows)) (drop_of_length-le (rows_in class_count cells) {i = c} (omega (arith, length-rows_in class_count cells)))
free_from cells (suc n) c e =
    ap (λ (rows : List (List ℕ)). not (any is_defined rows)) (drop-cons (rows_in class_count cells) c [] (omega (arith, length-rows_in class_count cells)))
    ∙ ap (λ (b : Bool). not (b || any is_defined (drop (suc c) (rows_in class_count cells)))) (defined_at cells c (omega arith))
    ∙ go (is_free cells c) refl
    ∙ ap (λ (b : Bool). is_free cells c && b) (ap (λ (k : ℕ). not (any is_defined (drop k (rows_in class_count cells)))) (sym (add-one c)) ∙ free_from cells n (c + 1) (omega arith))
  where
    go : (b : Bool) → is_free cells c ≡ b → not (ltb 0 (get_or cells (row_width * c) 0) || any is_defined (drop (suc c) (rows_in class_count cells))) ≡ (b && not (any is_defined (drop (suc c) (rows_in class_count cells))))
    go true f = ap (λ (b : Bool). not (b || any is_defined (drop (suc c) (rows_in class_count cells)))) (le-ltb 0 (get_or cells (row_width * c) 0) (omega (arith, eqb-true (get_or cells (row_width * c) 0) 0 f)))
    go false f = ap (λ (b : Bool). not (b || any is_defined (drop (suc c) (rows_in class_count cells)))) (lt-ltb 0 (get_or cells (row_width * c) 0) (let n = eqb-false (get_or cells (row_width * c) 0) 0 f in omega arith))

pub class_by_cells : (cells : List ℕ) (class : ℕ) (letters : List ℕ)
    → class_holds (rows_in class_count cells) class letters ≡ ((ltb class class_count && list_all (is_free cells) (range_with_len class (class_count - class))) && letters_rise 0 letters)
unfolding class_holds
class_by_cells cells class letters = go (ltb class class_count) refl
  where
    go : (b : Bool) → ltb class class_count ≡ b
        → (b && (not (any is_defined (drop class (rows_in class_count cells))) && letters_rise 0 letters)) ≡ ((b && list_all (is_free cells) (range_with_len class (class_count - class))) && letters_rise 0 letters)
    go true e = ap (λ (t : Bool). t && letters_rise 0 letters) (free_from cells (class_count - class) class (omega (arith, ltb-true class class_count e)))
    go false e = refl

-- Elements copied one by one: one more, and all.

pub copy_more : {A : Type 0} (d : A) (to from : List A) (k : ℕ) (x : A) → k < length to → k < length from → take k to ≡ take k from → x ≡ get_or from k d
    → take (k + 1) (set to k x) ≡ take (k + 1) from
copy_more d to from k x h i e f =
    rw add-one
    (take-suc-set to k x h ∙ ap₂ (λ (l : List _) (y : _). l ++ (y ∷ [])) e f ∙ sym (take-suc from k d i))

pub copied : {A : Type 0} (to from : List A) (k n : ℕ) → length to ≡ n → k ≤ n → n ≤ k → take k to ≡ take k from → to ≡ take n from
copied to from k n e h i f = let same : k ≡ n = omega arith in sym (take_all k to (omega arith)) ∙ f ∙ ap (λ (j : ℕ). take j from) same

-- The classes of a loaded table.

module _ (table : List ℕ) (e : loaded table ≡ some (table_in table)) where
  holds : (leb (extent (counts_in table)) (length table) ≡ true) × (keeps_rules (table_in table) ≡ true)
  unfolding loaded
  holds = (and-eq-true_iff _ _).0 (go (leb (extent (counts_in table)) (length table) && keeps_rules (table_in table)) e)
    where
      go : (b : Bool) → cond b (some (table_in table)) none ≡ some (table_in table) → b ≡ true
      go true q = refl
      go false q = let z : ◌≡◌ {A = ℕ} 0 1 = cc in absurd (omega arith)

  -- it has all cells of its classes
  pub rows_inside : initials_at ≤ length table
  rows_inside = omega (arith, leb-true (extent (counts_in table)) (length table) holds.0)

  classes_keep_lem : classes_keep (classes_in table) ≡ true
  unfolding table_in
  classes_keep_lem = ((keeps-parts (table_in table)).0 holds.1).classes

  -- they are bytes
  pub row-bytes : (c : ℕ) → c < class_count → (i : ℕ) → i < row_width → get_or table (classes_at + row_width * c + i) 0 < 256
  row-bytes c h i j = omega (arith, cells-small (classes_in table) classes_keep_lem (row_width * c + i), same)
    where
      same : get_or (rows_cells (classes_in table)) (row_width * c + i) 0 ≡ get_or table (classes_at + row_width * c + i) 0
      same =
          ap (λ (l : List ℕ). get_or l (row_width * c + i) 0) (rows_of class_count (drop classes_at table) (simp length-drop (omega (arith, rows_inside))))
          ∙ get_or-take class_cells (drop classes_at table) (row_width * c + i) 0 (omega arith)
          ∙ get_or-drop classes_at table (row_width * c + i) 0
          ∙ ap (λ (n : ℕ). get_or table n 0) {x = classes_at + (row_width * c + i)} {y = classes_at + row_width * c + i} (omega arith)

-- a row of the classes in cells
pub row_in : (table : List ℕ) (c : ℕ) → c < class_count → get_or (classes_in table) c [] ≡ take row_width (drop (classes_at + row_width * c) table)
row_in table c h = row_at class_count (drop classes_at table) c h ∙ ap (take row_width) (drop-drop (row_width * c) classes_at table)

-- all of them
pub rows_all : (table : List ℕ) → take class_count (classes_in table) ≡ (table_in table).classes
unfolding table_in
rows_all table = take_all class_count (classes_in table) (omega (arith, length-rows_in class_count (drop classes_at table)))
