-- Laws of the rows of classes, in a list and in cells, and of arcs with a class.
use Prim.Native.Nat.{ℕ, zero, suc, ◌+◌, ◌-◌, ◌*◌, ◌≤◌, ◌<◌}
use native.Mathlib.Omega.{arith}
use mathlib.Core.Path.{◌≡◌, refl, sym, ap, ap₂, subst, ◌∙◌}
use mathlib.Core.Bool.{Bool, true, false, not, ◌&&◌, ◌||◌, and-eq-true_iff}
use mathlib.Core.Logic.{◌↔◌}
use mathlib.Core.List.{List, [], ◌∷◌, ◌++◌, append_assoc, Memᴰ}
use lib.Dec.{eqb, leb, ltb}
use lib.ListN.{length, get_or, take, drop, replicate, length-append, length-drop, length-replicate}
use lib.Seq.{drop-append_seam, drop_at, take_at, take-add, drop-drop}
use borrow.Author.Tests.{leb-true, ltb-true, ltb-false, eqb-true, le-leb, lt-ltb, eq-eqb}
use Rattle.table_format.specs.Table.{Arc}
use Rattle.table_format.specs.Classes.{class_count, row_width, first_class, row_with, letters_in, is_defined, no_classes, is_plain, row_of}
use Rattle.table_format.specs.Rules.{any, each, letter_holds, letters_rise, arc_class_holds, is_blank, row_holds, classes_keep}
use Rattle.table_format.specs.Ruled.{Rise, ClassRow}
use Rattle.table_format.specs.Loaded.{rows_cells, rows_in}
use Rattle.table_format.proofs.All.{All, all_append, all_get_d, all-mem, all_from, all-each}
use Rattle.table_format.proofs.Tests.{and_left, and_right, and_both, or_left, or_right}

-- Letters that rise.

-- a letter above m
abbrev Above : ℕ → ℕ → Type 0
Above m x = (m < x) × (x ≤ 63)

raise : (m n : ℕ) → m ≤ n → (l : List ℕ) → All (Above n) l → All (Above m) l
raise m n h [] a = tt
raise m n h (x ∷ l) a = let k : n < x = a.0.0 in ((omega arith, a.0.1), raise m n h l a.1)

rise-above : (m : ℕ) (l : List ℕ) → letters_rise m l ≡ true → All (Above m) l
rise-above m [] e = tt
rise-above m (x ∷ l) e =
    let h = (and-eq-true_iff (ltb m x && leb x 63) (letters_rise x l)).0 e in
    let i = (and-eq-true_iff (ltb m x) (leb x 63)).0 h.0 in
    let k : m < x = ltb-true m x i.0 in
    ((k, leb-true x 63 i.1), raise m x (omega arith) l (rise-above x l h.1))

rise_steps : (m : ℕ) (l : List ℕ) → letters_rise m l ≡ true → Rise l
rise_steps m [] e i h = absurd (omega arith)
rise_steps m (x ∷ []) e i h = absurd (omega arith)
rise_steps m (x ∷ y ∷ l) e zero h = (rise-above x (y ∷ l) (and_right (ltb m x && leb x 63) _ e)).0.0
rise_steps m (x ∷ y ∷ l) e (suc i) h = rise_steps x (y ∷ l) (and_right (ltb m x && leb x 63) _ e) i (omega arith)

-- the first one is below the others
first_below : (x : ℕ) (l : List ℕ) → Rise (x ∷ l) → All (λ y. x < y) l
first_below x [] r = tt
first_below x (y ∷ l) r =
    let h : x < y = r 0 (omega arith) in (h, lift l (first_below y l (λ i g. r (suc i) (omega arith))))
  where
    lift : (l : List ℕ) → All (λ z. y < z) l → All (λ z. x < z) l
    lift [] a = tt
    lift (z ∷ l) a = let h : x < y = r 0 (omega arith) in let k : y < z = a.0 in (omega arith, lift l a.1)

rise-from : (m : ℕ) (l : List ℕ) → All (Above m) l → Rise l → letters_rise m l ≡ true
rise-from m [] a r = refl
rise-from m (x ∷ l) a r =
    and_both (and_both (lt-ltb m x a.0.0) (le-leb x 63 a.0.1))
    (rise-from x l (joined l (first_below x l r) a.1) (λ i g. r (suc i) (omega arith)))
  where
    joined : (l : List ℕ) → All (λ y. x < y) l → All (Above m) l → All (Above x) l
    joined [] b c = tt
    joined (y ∷ l) b c = ((b.0, c.0.1), joined l b.1 c.1)

-- Rows.

letters-front : (row : List ℕ) → row ≡ letters_in row ++ drop (length (letters_in row)) row
letters-front [] = refl
letters-front (zero ∷ row) = refl
letters-front (suc x ∷ row) = ap (λ (l : List ℕ). suc x ∷ l) (letters-front row)

pub blank-zeros : (l : List ℕ) → is_blank l ≡ true → l ≡ replicate (length l) 0
blank-zeros [] e = refl
blank-zeros (x ∷ l) e = go (ltb 0 x) refl e (λ k. blank-zeros l k)
  where
    go : (b : Bool) → ltb 0 x ≡ b → not (b || any (λ y. ltb 0 y) l) ≡ true → (is_blank l ≡ true → l ≡ replicate (length l) 0) → x ∷ l ≡ replicate (suc (length l)) 0
    go true h k law = absurd (let z : ◌≡◌ {A = ℕ} 0 1 = cc in omega arith)
    go false h k law = let z : x ≡ 0 = omega (arith, ltb-false 0 x h) in ap₂ (λ (y : ℕ) (r : List ℕ). y ∷ r) z (law k)

pub zeros-blank : (n : ℕ) → is_blank (replicate n 0) ≡ true
zeros-blank zero = refl
zeros-blank (suc n) = zeros-blank n

-- the letters of a row that they fill
pub letters_of_lem : (letters : List ℕ) (n : ℕ) → All (λ x. 0 < x) letters → letters_in (letters ++ replicate n 0) ≡ letters
letters_of_lem [] zero a = refl
letters_of_lem [] (suc n) a = refl
letters_of_lem (zero ∷ l) n a = absurd (let h : 0 < 0 = a.0 in omega arith)
letters_of_lem (suc x ∷ l) n a = ap (λ (r : List ℕ). suc x ∷ r) (letters_of_lem l n a.1)

above_zero : (l : List ℕ) → All (Above 0) l → All (λ x. 0 < x) l
above_zero [] a = tt
above_zero (x ∷ l) a = (a.0.0, above_zero l a.1)

-- A row keeps the rules exactly where it is a class's.

row_class : (row : List ℕ) → row_holds row ≡ true → ClassRow row
unfolding row_holds
row_class row e =
    record {
      letters = letters_in row;
      row_is = letters-front row ∙ ap (λ (l : List ℕ). letters_in row ++ l) (blank-zeros behind blank ∙ ap (λ (n : ℕ). replicate n 0) size);
      few = omega (arith, long, front);
      letter_in_lem = λ x m. all-mem (λ x. (1 ≤ x) × (x ≤ 63)) (letters_in row) (rise-above 0 (letters_in row) rise) x m;
      rise = rise_steps 0 (letters_in row) rise;
    }
  where
    behind : List ℕ
    behind = drop (length (letters_in row)) row

    long : length row ≡ row_width
    long = eqb-true (length row) row_width (and_left (eqb (length row) row_width) _ e)

    rise : letters_rise 0 (letters_in row) ≡ true
    rise = and_left (letters_rise 0 (letters_in row)) _ (and_right (eqb (length row) row_width) _ e)

    blank : is_blank (drop (length (letters_in row)) row) ≡ true
    blank = and_right (letters_rise 0 (letters_in row)) _ (and_right (eqb (length row) row_width) _ e)

    front : length row ≡ length (letters_in row) + length (drop (length (letters_in row)) row)
    front = ap length (letters-front row) ∙ length-append (letters_in row) (drop (length (letters_in row)) row)

    size : length (drop (length (letters_in row)) row) ≡ row_width - length (letters_in row)
    size = length-drop (length (letters_in row)) row ∙ ap (λ (n : ℕ). n - length (letters_in row)) long

pub row-length : (letters : List ℕ) → length letters ≤ row_width → length (row_with letters) ≡ row_width
row-length letters few = length-append letters (replicate (row_width - length letters) 0) ∙ omega (arith, length-replicate {A = ℕ} (row_width - length letters) 0)

-- the row of letters that rise
pub row-filled : (letters : List ℕ) → length letters ≤ row_width → letters_rise 0 letters ≡ true → row_holds (row_with letters) ≡ true
unfolding row_holds
row-filled letters few rise =
    and_both (eq-eqb _ _ (row-length letters few))
    (and_both (ap (letters_rise 0) same ∙ rise)
    (ap is_blank (ap (λ (l : List ℕ). drop (length l) (row_with letters)) same ∙ drop-append_seam letters (replicate (row_width - length letters) 0))
    ∙ zeros-blank (row_width - length letters)))
  where
    same : letters_in (row_with letters) ≡ letters
    same = letters_of_lem letters (row_width - length letters) (above_zero letters (rise-above 0 letters rise))

class_row : (row : List ℕ) → ClassRow row → row_holds row ≡ true
class_row row R =
    ap row_holds R.row_is
    ∙ row-filled R.letters R.few (rise-from 0 R.letters (all_from (Above 0) R.letters R.letter_in_lem) R.rise)

pub row_is_class : (row : List ℕ) → (row_holds row ≡ true) ↔ ClassRow row
row_is_class row = (row_class row, class_row row)

-- the letters of a row that keeps the rules fill it, and rise
pub row_letters_lem : (row : List ℕ) → row_holds row ≡ true → (row_with (letters_in row) ≡ row) × ((length (letters_in row) ≤ row_width) × (letters_rise 0 (letters_in row) ≡ true))
unfolding row_holds row_class
row_letters_lem row e =
    let R = row_class row e in
    (sym R.row_is, (R.few, and_left (letters_rise 0 (letters_in row)) _ (and_right (eqb (length row) row_width) _ e)))

-- All rows.

rows-each : (before rows : List (List ℕ)) → All (λ (row : List ℕ). row_holds row ≡ true) rows → each (λ b row. row_holds row) before rows ≡ true
unfolding each
rows-each before [] a = refl
rows-each before (row ∷ rows) a = and_both a.0 (rows-each (before ++ (row ∷ [])) rows a.1)

-- each row of rows that keep the rules
pub rows_hold_lem : (rows : List (List ℕ)) → (classes_keep rows ≡ true) ↔ ((length rows ≡ class_count) × All (λ (row : List ℕ). row_holds row ≡ true) rows)
unfolding classes_keep
rows_hold_lem rows = (
  λ e. (
    eqb-true (length rows) class_count (and_left (eqb (length rows) class_count) _ e),
    all-each (λ (row : List ℕ). row_holds row ≡ true) (λ before row. row_holds row) (λ before row h. h) [] rows (and_right (eqb (length rows) class_count) _ e),
  ),
  λ h. and_both (eq-eqb (length rows) class_count h.0) (rows-each [] rows h.1),
)

pub classes-are : (rows : List (List ℕ)) → (classes_keep rows ≡ true) ↔ ((length rows ≡ class_count) × ((row : List ℕ) → Memᴰ row rows → ClassRow row))
classes-are rows = (
  λ e. let h = (rows_hold_lem rows).0 e in (h.0, λ row m. row_class row (all-mem (λ (row : List ℕ). row_holds row ≡ true) rows h.1 row m)),
  λ h. (rows_hold_lem rows).1 (h.0, all_from (λ (row : List ℕ). row_holds row ≡ true) rows (λ row m. class_row row (h.1 row m))),
)

-- a table without classes keeps them
pub no_classes-keep : classes_keep no_classes ≡ true
unfolding no_classes classes_keep row_holds each
no_classes-keep = refl

-- the shape of rows: eight of sixteen cells
abbrev pub Shaped : List (List ℕ) → Type 0
Shaped rows = (length rows ≡ class_count) × All (λ (row : List ℕ). length row ≡ row_width) rows

row-long : (row : List ℕ) → row_holds row ≡ true → length row ≡ row_width
unfolding row_holds
row-long row e = eqb-true (length row) row_width (and_left (eqb (length row) row_width) _ e)

pub keep-shaped : (rows : List (List ℕ)) → classes_keep rows ≡ true → Shaped rows
keep-shaped rows e = let h = (rows_hold_lem rows).0 e in (h.0, go rows h.1)
  where
    go : (rows : List (List ℕ)) → All (λ (row : List ℕ). row_holds row ≡ true) rows → All (λ (row : List ℕ). length row ≡ row_width) rows
    go [] a = tt
    go (row ∷ rows) a = (row-long row a.0, go rows a.1)

-- Letters of rows are at most 63.

zeros-small : (n : ℕ) → All (λ x. x ≤ 63) (replicate n 0)
zeros-small zero = tt
zeros-small (suc n) = (omega arith, zeros-small n)

row-cells : (row : List ℕ) → ClassRow row → All (λ x. x ≤ 63) row
row-cells row R =
    subst (All (λ x. x ≤ 63)) (sym R.row_is)
    (all_append (λ x. x ≤ 63) R.letters (replicate (row_width - length R.letters) 0) (all_from (λ x. x ≤ 63) R.letters (λ x m. (R.letter_in_lem x m).1))
    (zeros-small (row_width - length R.letters)))

rows-small : (rows : List (List ℕ)) → classes_keep rows ≡ true → All (All (λ x. x ≤ 63)) rows
rows-small rows e = all_from (All (λ x. x ≤ 63)) rows (λ row m. row-cells row (((classes-are rows).0 e).1 row m))

pub row_small : (rows : List (List ℕ)) → classes_keep rows ≡ true → (y x : ℕ) → Memᴰ x (row_of rows y) → x ≤ 63
row_small rows e y x m = all-mem (λ x. x ≤ 63) (row_of rows y) (all_get_d (All (λ x. x ≤ 63)) rows (y - first_class) [] tt (rows-small rows e)) x m

pub cells-small : (rows : List (List ℕ)) → classes_keep rows ≡ true → (i : ℕ) → get_or (rows_cells rows) i 0 ≤ 63
unfolding rows_cells
cells-small rows e i = all_get_d (λ x. x ≤ 63) (rows_cells rows) i 0 (omega arith) (go rows (rows-small rows e))
  where
    go : (rows : List (List ℕ)) → All (All (λ x. x ≤ 63)) rows → All (λ x. x ≤ 63) (rows_cells rows)
    go [] a = tt
    go (row ∷ rows) a = all_append (λ x. x ≤ 63) row (rows_cells rows) a.0 (go rows a.1)

-- Rows and their cells.

pub length-rows_in : (n : ℕ) (cells : List ℕ) → length (rows_in n cells) ≡ n
unfolding rows_in
length-rows_in zero cells = refl
length-rows_in (suc n) cells = ap suc (length-rows_in n (drop row_width cells))

pub row_at : (n : ℕ) (cells : List ℕ) (c : ℕ) → c < n → get_or (rows_in n cells) c [] ≡ take row_width (drop (row_width * c) cells)
unfolding rows_in
row_at zero cells c h = absurd (omega arith)
row_at (suc n) cells zero h = refl
row_at (suc n) cells (suc c) h =
    row_at n (drop row_width cells) c (omega arith)
    ∙ ap (take row_width) (drop-drop (row_width * c) row_width cells)
    ∙ ap (λ (k : ℕ). take row_width (drop k cells)) {x = row_width + row_width * c} {y = row_width * suc c} (omega arith)

pub rows_in_lem : (rows : List (List ℕ)) (rest : List ℕ) → All (λ (row : List ℕ). length row ≡ row_width) rows → rows_in (length rows) (rows_cells rows ++ rest) ≡ rows
unfolding rows_in rows_cells
rows_in_lem [] rest a = refl
rows_in_lem (row ∷ rows) rest a =
    ap (λ (l : List ℕ). take row_width l ∷ rows_in (length rows) (drop row_width l)) (append_assoc row (rows_cells rows) rest)
    ∙ ap₂ (λ (r l : List ℕ). r ∷ rows_in (length rows) l) (take_at row (rows_cells rows ++ rest) row_width a.0) (drop_at row (rows_cells rows ++ rest) row_width a.0)
    ∙ ap (λ (l : List (List ℕ)). row ∷ l) (rows_in_lem rows rest a.1)

pub length-rows_cells : (rows : List (List ℕ)) → All (λ (row : List ℕ). length row ≡ row_width) rows → length (rows_cells rows) ≡ row_width * length rows
unfolding rows_cells
length-rows_cells [] a = refl
length-rows_cells (row ∷ rows) a = length-append row (rows_cells rows) ∙ omega (arith, a.0, length-rows_cells rows a.1)

pub rows_of : (n : ℕ) (cells : List ℕ) → row_width * n ≤ length cells → rows_cells (rows_in n cells) ≡ take (row_width * n) cells
unfolding rows_in rows_cells
rows_of zero cells h = refl
rows_of (suc n) cells h =
    ap (λ (l : List ℕ). take row_width cells ++ l) (rows_of n (drop row_width cells) (simp length-drop (omega arith)))
    ∙ sym (take-add row_width (row_width * n) cells)
    ∙ ap (λ (k : ℕ). take k cells) {x = row_width + row_width * n} {y = row_width * suc n} (omega arith)

-- Arcs.

-- a plain arc needs no class
pub plain-holds : (rows : List (List ℕ)) (a : Arc) → is_plain a ≡ true → arc_class_holds rows a ≡ true
unfolding arc_class_holds
plain-holds rows a e = or_left (is_plain a) _ e

-- an arc that is not plain keeps 34 exactly where it has one defined class on both sides
pub class_holds_lem : (rows : List (List ℕ)) (a : Arc) → is_plain a ≡ false
    → (arc_class_holds rows a ≡ true) ↔ ((a.upper ≡ a.lower) × (is_defined (row_of rows a.upper) ≡ true))
unfolding arc_class_holds
class_holds_lem rows a e = (
  λ h.
      let k = sym (ap (λ (b : Bool). b || (eqb a.upper a.lower && is_defined (row_of rows a.upper))) e) ∙ h in
      (eqb-true a.upper a.lower (and_left (eqb a.upper a.lower) _ k), and_right (eqb a.upper a.lower) _ k),
  λ h. or_right (is_plain a) _ (and_both (eq-eqb a.upper a.lower h.0) h.1),
)

-- a defined row is one of the rows
defined_in : (rows : List (List ℕ)) (i : ℕ) → is_defined (get_or rows i []) ≡ true → i < length rows
defined_in [] i e = absurd (let z : 0 < 0 = ltb-true 0 0 e in omega arith)
defined_in (row ∷ rows) zero e = omega arith
defined_in (row ∷ rows) (suc i) e = let h : i < length rows = defined_in rows i e in omega arith

-- 34 kept shows that 5 is
pub class_letters : (rows : List (List ℕ)) (a : Arc) → length rows ≤ class_count → arc_class_holds rows a ≡ true → (letter_holds a.upper && letter_holds a.lower) ≡ true
class_letters rows a h e = go (is_plain a) refl
  where
    go : (b : Bool) → is_plain a ≡ b → (letter_holds a.upper && letter_holds a.lower) ≡ true
    go true p =
        let u : a.upper < 64 = ltb-true a.upper 64 (and_left (ltb a.upper 64) (ltb a.lower 64) p) in
        let l : a.lower < 64 = ltb-true a.lower 64 (and_right (ltb a.upper 64) (ltb a.lower 64) p) in
        and_both (lt-ltb a.upper 72 (omega arith)) (lt-ltb a.lower 72 (omega arith))
    go false p =
        let k = (class_holds_lem rows a p).0 e in
        let i : a.upper - 64 < length rows = defined_in rows (a.upper - 64) k.1 in
        let s : a.upper ≡ a.lower = k.0 in
        and_both (lt-ltb a.upper 72 (omega arith)) (lt-ltb a.lower 72 (omega arith))
