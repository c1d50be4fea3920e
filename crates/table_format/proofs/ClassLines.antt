-- The lines of classes: what a class line says, the lines of rows, and one class more.
use Prim.Native.Nat.{ℕ, zero, suc, ◌+◌, ◌-◌, ◌*◌, ◌≤◌, ◌<◌}
use native.Mathlib.Omega.{arith}
use mathlib.Core.Path.{◌≡◌, refl, sym, ap, ap₂, subst, ◌∙◌}
use mathlib.Core.Logic.{◌↔◌, ⊎_elim}
use mathlib.Core.Bool.{Bool, true, false, cond, ◌&&◌, and-eq-true_iff}
use mathlib.Core.List.Memᴰ
use mathlib.Core.List.{List, [], ◌∷◌, ◌++◌, map, Memᴰ}
use lib.Dec.{eqb, leb, ltb}
use lib.ListN.{length, get_or, drop, set, length-append, length-set}
use borrow.Author.Tests.{leb-true, ltb-true, lt-ltb, le-leb, eqb-true, not-true}
use Rattle.table_format.specs.Classes.{class_count, row_width, row_with, letters_in, is_defined}
use Rattle.table_format.specs.Rules.{any, letters_rise, class_holds, row_holds, classes_keep}
use Rattle.table_format.specs.Ruled.{Rise}
use Rattle.table_format.specs.Line.{chars_of, line_text, characters_of}
use Rattle.table_format.specs.Text.{class_bytes, line_bytes, class_lines, join_lines}
use Rattle.table_format.specs.Parse.{class, class_from, letters_from, is_of}
use Rattle.table_format.proofs.All.{All}
use Rattle.table_format.proofs.Tests.{and_left, and_right, and_both, neither}
use Rattle.table_format.proofs.Classes.{letters_of_lem, row-filled, row_letters_lem, rows_hold_lem}
use Rattle.table_format.proofs.Line.{IsByte, Bytes, length-chars}

-- a row keeps the rules
abbrev pub RowKeeps : List ℕ → Type 0
RowKeeps row = row_holds row ≡ true

-- Letters that rise are bytes above 0, and those of the row that they fill.

letters-some : (m : ℕ) (l : List ℕ) → letters_rise m l ≡ true → All (λ x. 0 < x) l
letters-some m [] e = tt
letters-some m (x ∷ l) e =
    let h = (and-eq-true_iff (ltb m x && leb x 63) (letters_rise x l)).0 e in
    let k : m < x = ltb-true m x (and_left (ltb m x) (leb x 63) h.0) in
    (omega arith, letters-some x l h.1)

letters-bytes : (m : ℕ) (l : List ℕ) → letters_rise m l ≡ true → All IsByte l
letters-bytes m [] e = tt
letters-bytes m (x ∷ l) e =
    let h = (and-eq-true_iff (ltb m x && leb x 63) (letters_rise x l)).0 e in
    let k : x ≤ 63 = leb-true x 63 (and_right (ltb m x) (leb x 63) h.0) in
    (omega arith, letters-bytes x l h.1)

pub letters-back : (letters : List ℕ) → letters_rise 0 letters ≡ true → letters_in (row_with letters) ≡ letters
letters-back letters e = letters_of_lem letters (row_width - length letters) (letters-some 0 letters e)

-- Defined rows.

-- a row that is not defined has no letter, and a defined one has some

none_in : (row : List ℕ) → is_defined row ≡ false → letters_in row ≡ []
none_in [] e = refl
none_in (zero ∷ row) e = refl
none_in (suc x ∷ row) e = absurd (let h = lt-ltb 0 (suc x) (omega arith) in let z : ◌≡◌ {A = ℕ} 0 1 = cc in omega arith)

pub some_in : (row : List ℕ) → is_defined row ≡ true → 0 < length (letters_in row)
some_in [] e = absurd (let h : 0 < 0 = ltb-true 0 0 e in omega arith)
some_in (zero ∷ row) e = absurd (let h : 0 < 0 = ltb-true 0 0 e in omega arith)
some_in (suc x ∷ row) e = omega arith

-- a row that keeps the rules and is not defined is filled with 0
pub undefined_blank : (row : List ℕ) → RowKeeps row → is_defined row ≡ false → row_with [] ≡ row
undefined_blank row k e = sym (ap row_with (none_in row e)) ∙ (row_letters_lem row k).0

-- letters from 1 on define their row
pub row_defined : (letters : List ℕ) → 0 < length letters → letters_rise 0 letters ≡ true → is_defined (row_with letters) ≡ true
row_defined [] h e = absurd (omega arith)
row_defined (x ∷ letters) h e = lt-ltb 0 x (letters-some 0 (x ∷ letters) e).0

-- What the bytes of a class line say.

-- the line of a row that keeps the rules says its class and its row
pub class_says : (c : ℕ) (row : List ℕ) → RowKeeps row → (class_from (class_bytes c row) ≡ c) × (row_with (letters_from (class_bytes c row)) ≡ row)
class_says c row k = (refl, (row_letters_lem row k).0)

-- and is a class's
pub class_kind : (c : ℕ) (row : List ℕ) → RowKeeps row → is_defined row ≡ true → is_of class (class_bytes c row) ≡ true
class_kind c row k d =
    let few : length (letters_in row) ≤ row_width = (row_letters_lem row k).1.0 in
    let some : 0 < length (letters_in row) = some_in row d in
    and_both (le-leb 3 (length (class_bytes c row)) (omega arith)) (le-leb (length (class_bytes c row)) line_bytes (omega arith))

-- the letters of a class line: 1 to 16
pub record ClassForm (b : List ℕ) : Type 0 where
  pub bytes : b ≡ 6 ∷ class_from b ∷ letters_from b
  pub some : 0 < length (letters_from b)
  pub few : length (letters_from b) ≤ row_width

pub class_form : (b : List ℕ) → is_of class b ≡ true → ClassForm b
class_form [] e = absurd (let z : ◌≡◌ {A = ℕ} 0 1 = cc in omega arith)
class_form (x ∷ []) e = absurd (let h : false ≡ true = and_right (eqb x 6) false e in let z : ◌≡◌ {A = ℕ} 0 1 = cc in omega arith)
class_form (x ∷ y ∷ l) e =
    let h = (and-eq-true_iff _ _).0 e in
    let k = (and-eq-true_iff _ _).0 h.1 in
    let least : 3 ≤ length (x ∷ y ∷ l) = leb-true 3 (length (x ∷ y ∷ l)) k.0 in
    let most : length (x ∷ y ∷ l) ≤ line_bytes = leb-true (length (x ∷ y ∷ l)) line_bytes k.1 in
    record { bytes = ap (λ (n : ℕ). n ∷ y ∷ l) (eqb-true x 6 h.0); some = omega arith; few = omega arith }

-- the bytes of a class line whose letters rise are those of what they say
pub class_only : (b : List ℕ) → is_of class b ≡ true → letters_rise 0 (letters_from b) ≡ true → b ≡ class_bytes (class_from b) (row_with (letters_from b))
class_only b e rise = (class_form b e).bytes ∙ ap (λ (l : List ℕ). 6 ∷ class_from b ∷ l) (sym (letters-back (letters_from b) rise))

-- The lines of rows.

-- a line in front of others, where its row is defined
abbrev with_line : ℕ → List ℕ → List (List ℕ) → Bool → List (List ℕ)
with_line k row ls d = cond d (class_bytes k row ∷ ls) ls

-- where none is defined there are none
pub no_lines : (k : ℕ) (rows : List (List ℕ)) → any is_defined rows ≡ false → class_lines k rows ≡ []
unfolding class_lines
no_lines k [] e = refl
no_lines k (row ∷ rows) e =
    let h = neither (is_defined row) (any is_defined rows) e in
    ap (with_line k row (class_lines (suc k) rows)) h.0 ∙ no_lines (suc k) rows h.1

-- at most one each
pub few-lines : (k : ℕ) (rows : List (List ℕ)) → length (class_lines k rows) ≤ length rows
unfolding class_lines
few-lines k [] = omega arith
few-lines k (row ∷ rows) = go (is_defined row) (few-lines (suc k) rows)
  where
    go : (d : Bool) → length (class_lines (suc k) rows) ≤ length rows → length (with_line k row (class_lines (suc k) rows) d) ≤ suc (length rows)
    go true h = omega arith
    go false h = omega arith

-- they say bytes
pub class_lines-bytes : (k : ℕ) (rows : List (List ℕ)) → k + length rows ≤ 256 → All RowKeeps rows → All Bytes (class_lines k rows)
unfolding class_lines
class_lines-bytes k [] h p = tt
class_lines-bytes k (row ∷ rows) h p = go (is_defined row) (class_lines-bytes (suc k) rows (omega arith) p.1)
  where
    go : (d : Bool) → All Bytes (class_lines (suc k) rows) → All Bytes (with_line k row (class_lines (suc k) rows) d)
    go true q =
        let small : All IsByte (letters_in row) = letters-bytes 0 (letters_in row) (row_letters_lem row p.0).1.1 in
        (record { some = refl; small = (omega arith, (omega arith, small)) }, q)
    go false q = q

-- they are those of the defined rows, each with its class
abbrev LineOf : ℕ → List (List ℕ) → List ℕ → Type 0
LineOf k rows b = (c : ℕ) × (c < length rows) × (is_defined (get_or rows c []) ≡ true) × (b ≡ class_bytes (k + c) (get_or rows c []))

line_of : (k : ℕ) (rows : List (List ℕ)) (b : List ℕ) → Memᴰ b (class_lines k rows) → LineOf k rows b
unfolding class_lines
line_of k [] b m = absurd (Memᴰ.not-nil m)
line_of k (row ∷ rows) b m = go (is_defined row) refl m (λ n. shift (line_of (suc k) rows b n))
  where
    shift : LineOf (suc k) rows b → LineOf k (row ∷ rows) b
    shift (c, h, d, e) = (suc c, omega arith, d, e ∙ ap (λ (n : ℕ). class_bytes n (get_or rows c [])) {x = suc k + c} {y = k + suc c} (omega arith))

    go : (x : Bool) → is_defined row ≡ x → Memᴰ b (with_line k row (class_lines (suc k) rows) x) → (Memᴰ b (class_lines (suc k) rows) → LineOf k (row ∷ rows) b)
        → LineOf k (row ∷ rows) b
    go true d n later = ⊎_elim (λ e. (0, omega arith, d, e ∙ ap (λ (n : ℕ). class_bytes n row) {x = k} {y = k + 0} (omega arith))) later (Memᴰ.cases_cons n)
    go false d n later = later n

of_line : (k : ℕ) (rows : List (List ℕ)) (c : ℕ) → c < length rows → is_defined (get_or rows c []) ≡ true → Memᴰ (class_bytes (k + c) (get_or rows c [])) (class_lines k rows)
unfolding class_lines
of_line k [] c h d = absurd (omega arith)
of_line k (row ∷ rows) zero h d =
    subst (λ (x : Bool). Memᴰ (class_bytes (k + 0) row) (with_line k row (class_lines (suc k) rows) x)) (sym d)
    (Memᴰ.head (ap (λ (n : ℕ). class_bytes n row) {x = k + 0} {y = k} (omega arith)))
of_line k (row ∷ rows) (suc c) h d =
    go (is_defined row)
    (subst (λ (n : ℕ). Memᴰ (class_bytes n (get_or rows c [])) (class_lines (suc k) rows)) {x = suc k + c} {y = k + suc c} (omega arith) (of_line (suc k) rows c (omega arith) d))
  where
    go : (x : Bool) → Memᴰ (class_bytes (k + suc c) (get_or rows c [])) (class_lines (suc k) rows)
        → Memᴰ (class_bytes (k + suc c) (get_or rows c [])) (with_line k row (class_lines (suc k) rows) x)
    go true m = Memᴰ.tail m
    go false m = m

pub lines_are : (rows : List (List ℕ)) (b : List ℕ)
    → Memᴰ b (class_lines 0 rows) ↔ ((c : ℕ) × (c < length rows) × (is_defined (get_or rows c []) ≡ true) × (b ≡ class_bytes c (get_or rows c [])))
lines_are rows b = (
  λ m. let r = line_of 0 rows b m in (r.0, r.1, r.2, r.3 ∙ zero-first r.0),
  λ r. subst (λ (x : List ℕ). Memᴰ x (class_lines 0 rows)) (sym (r.3 ∙ sym (zero-first r.0))) (of_line 0 rows r.0 r.1 r.2),
)
  where
    zero-first : (c : ℕ) → class_bytes (0 + c) (get_or rows c []) ≡ class_bytes c (get_or rows c [])
    zero-first c = ap (λ (n : ℕ). class_bytes n (get_or rows c [])) {x = 0 + c} {y = c} (omega arith)

-- by rising class

classes-from : (k : ℕ) (rows : List (List ℕ)) → All (λ n. k ≤ n) (map class_from (class_lines k rows))
unfolding class_lines
classes-from k [] = tt
classes-from k (row ∷ rows) = go (is_defined row) (lower (map class_from (class_lines (suc k) rows)) (classes-from (suc k) rows))
  where
    lower : (l : List ℕ) → All (λ n. suc k ≤ n) l → All (λ n. k ≤ n) l
    lower [] a = tt
    lower (n ∷ l) a = let h : suc k ≤ n = a.0 in (omega arith, lower l a.1)

    go : (x : Bool) → All (λ n. k ≤ n) (map class_from (class_lines (suc k) rows)) → All (λ n. k ≤ n) (map class_from (with_line k row (class_lines (suc k) rows) x))
    go true a = (omega arith, a)
    go false a = a

rise-cons : (k : ℕ) (l : List ℕ) → All (λ n. suc k ≤ n) l → Rise l → Rise (k ∷ l)
rise-cons k [] a r i h = absurd (omega arith)
rise-cons k (n ∷ l) a r zero h = a.0
rise-cons k (n ∷ l) a r (suc i) h = r i (omega arith)

pub lines-rise : (k : ℕ) (rows : List (List ℕ)) → Rise (map class_from (class_lines k rows))
unfolding class_lines
lines-rise k [] = λ i h. absurd (omega arith)
lines-rise k (row ∷ rows) = go (is_defined row) (lines-rise (suc k) rows)
  where
    go : (x : Bool) → Rise (map class_from (class_lines (suc k) rows)) → Rise (map class_from (with_line k row (class_lines (suc k) rows) x))
    go true r = rise-cons k (map class_from (class_lines (suc k) rows)) (classes-from (suc k) rows) r
    go false r = r

-- their characters
pub class_lines-size : (k : ℕ) (rows : List (List ℕ)) → All RowKeeps rows → length (join_lines (class_lines k rows)) ≤ characters_of line_bytes * length rows
unfolding class_lines join_lines
class_lines-size k [] p = omega arith
class_lines-size k (row ∷ rows) p = go (is_defined row) (class_lines-size (suc k) rows p.1)
  where
    go : (d : Bool) → length (join_lines (class_lines (suc k) rows)) ≤ characters_of line_bytes * length rows
        → length (join_lines (with_line k row (class_lines (suc k) rows) d)) ≤ characters_of line_bytes * suc (length rows)
    go true h =
        let few : length (letters_in row) ≤ row_width = (row_letters_lem row p.0).1.0 in
        omega (
          arith,
          length-append (line_text (class_bytes k row)) (join_lines (class_lines (suc k) rows)),
          length-append (chars_of (class_bytes k row)) (10 ∷ []),
          length-chars (class_bytes k row),
        )
    go false h = omega arith

-- One class more.

-- its line stands behind those of the classes before it
more-line-from : (k : ℕ) (rows : List (List ℕ)) (c : ℕ) (row : List ℕ) → c < length rows → any is_defined (drop c rows) ≡ false → is_defined row ≡ true
    → class_lines k (set rows c row) ≡ class_lines k rows ++ (class_bytes (k + c) row ∷ [])
unfolding class_lines
more-line-from k [] c row h e d = absurd (omega arith)
more-line-from k (first ∷ rows) zero row h e d =
    ap (with_line k row (class_lines (suc k) rows)) d
    ∙ ap (λ (ls : List (List ℕ)). class_bytes k row ∷ ls) (no_lines (suc k) rows (neither (is_defined first) (any is_defined rows) e).1)
    ∙ ap₂ (λ (ls : List (List ℕ)) (n : ℕ). ls ++ (class_bytes n row ∷ [])) {x = []} {y = class_lines k (first ∷ rows)} {u = k} {v = k + 0} (sym (no_lines k (first ∷ rows) e)) (omega arith)
more-line-from k (first ∷ rows) (suc c) row h e d = go (is_defined first) (more-line-from (suc k) rows c row (omega arith) e d ∙ here)
  where
    here : class_lines (suc k) rows ++ (class_bytes (suc k + c) row ∷ []) ≡ class_lines (suc k) rows ++ (class_bytes (k + suc c) row ∷ [])
    here = ap (λ (n : ℕ). class_lines (suc k) rows ++ (class_bytes n row ∷ [])) {x = suc k + c} {y = k + suc c} (omega arith)

    go : (b : Bool) → class_lines (suc k) (set rows c row) ≡ class_lines (suc k) rows ++ (class_bytes (k + suc c) row ∷ [])
        → with_line k first (class_lines (suc k) (set rows c row)) b ≡ with_line k first (class_lines (suc k) rows) b ++ (class_bytes (k + suc c) row ∷ [])
    go true p = ap (λ (ls : List (List ℕ)). class_bytes k first ∷ ls) p
    go false p = p

pub more-line : (rows : List (List ℕ)) (c : ℕ) (row : List ℕ) → c < length rows → any is_defined (drop c rows) ≡ false → is_defined row ≡ true
    → class_lines 0 (set rows c row) ≡ class_lines 0 rows ++ (class_bytes c row ∷ [])
more-line rows c row h e d =
    more-line-from 0 rows c row h e d ∙ ap (λ (n : ℕ). class_lines 0 rows ++ (class_bytes n row ∷ [])) {x = 0 + c} {y = c} (omega arith)

-- what a class line that keeps 34 says
pub record ClassKept (rows : List (List ℕ)) (c : ℕ) (letters : List ℕ) : Type 0 where
  pub below : c < class_count
  pub behind : any is_defined (drop c rows) ≡ false
  pub rise : letters_rise 0 letters ≡ true

pub class_kept : (rows : List (List ℕ)) (c : ℕ) (letters : List ℕ) → class_holds rows c letters ≡ true → ClassKept rows c letters
unfolding class_holds
class_kept rows c letters e =
    let h = (and-eq-true_iff _ _).0 e in
    let k = (and-eq-true_iff _ _).0 h.1 in
    record { below = ltb-true c class_count h.0; behind = not-true _ k.0; rise = k.1 }

all_set : {A : Type 0} (P : A → Type 0) (l : List A) (i : ℕ) (x : A) → P x → All P l → All P (set l i x)
all_set P [] i x p a = tt
all_set P (y ∷ l) zero x p a = (p, a.1)
all_set P (y ∷ l) (suc i) x p a = (a.0, all_set P l i x p a.1)

-- the rows with it keep the rules
pub keep-more : (rows : List (List ℕ)) (c : ℕ) (letters : List ℕ) → classes_keep rows ≡ true → length letters ≤ row_width → letters_rise 0 letters ≡ true
    → classes_keep (set rows c (row_with letters)) ≡ true
keep-more rows c letters e few rise =
    let h = (rows_hold_lem rows).0 e in
    (rows_hold_lem (set rows c (row_with letters))).1
    (length-set rows c (row_with letters) ∙ h.0, all_set RowKeeps rows c (row_with letters) (row-filled letters few rise) h.1)
