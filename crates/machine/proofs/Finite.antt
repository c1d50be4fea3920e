-- Report 6486's machine is locally finite, since its relations are partial functions (remark 2.1 of the report).
use Prim.Native.Nat.{ℕ, zero, suc, ◌+◌, ◌≤◌}
use native.Mathlib.Omega.{arith}
use mathlib.Core.Path.{◌≡◌, refl, sym, ap, ap₂, subst}
use mathlib.Core.Logic.{◌↔◌, ⊎_elim}
use mathlib.Core.Bool.{Bool, true, false}
use mathlib.Core.Option.{Option, none, some}
use mathlib.Core.List.Memᴰ
use mathlib.Core.List.{List, [], ◌∷◌, ◌++◌, map, Memᴰ}
use lib.ListN.{length, replicate, length-replicate}
use lib.Dec.{eqb, leb}
use borrow.Author.Tests.{eqb-true, eqb-false, leb-true, leb-false}
use Rattle.table_format.specs.Table.{Arc}
use Rattle.table_format.specs.Classes.{is_plain, row_of, with_letter}
use Rattle.machine.specs.Query.{Task, recognition, synthesis, analysis}
use Rattle.machine.specs.Report.{Rel, identity, ◌⊗◌, LocallyFinite, Word, L⁻¹, read_letter, write_letter, α, αIf, αOf, adds}
use Rattle.machine.proofs.Members.{mem-left, mem_right, mem_either}

-- PARTIAL FUNCTIONS: a datum is related to what stands in an option, and to nothing else.

abbrev Function : {A B : Type 0} → Rel A B → Type 0
Function {A} {B} ρ = (a : A) → (o : Option B) × ((b : B) → ρ a b ↔ (o ≡ some b))

function_finite : {A B : Type 0} (ρ : Rel A B) → Function ρ → LocallyFinite ρ
function_finite {A} {B} ρ F a = go (F a).0 (F a).1
  where
    go : (o : Option B) → ((b : B) → ρ a b ↔ (o ≡ some b)) → (l : List B) × ((b : B) → ρ a b ↔ Memᴰ b l)
    go none f = ([], λ b. (λ r. absurd (let e : none ≡ some b = (f b).0 r in let z : ◌≡◌ {A = ℕ} 0 1 = cc in omega arith), λ m. absurd (Memᴰ.not-nil m)))
    go (some c) f = (
      c ∷ [],
      λ b. (
        λ r. Memᴰ.head (let e : some c ≡ some b = (f b).0 r in let z : b ≡ c = cc in z),
        λ m. ⊎_elim (λ e. (f b).1 (ap some (sym e))) (λ n. absurd (Memᴰ.not-nil n)) (Memᴰ.cases_cons m),
      ),
    )

identity_function : {A : Type 0} → Function {A = A} identity
identity_function a = (some a, λ b. (λ e. ap some e, λ e. cc))

-- both sides
abbrev both : {A B : Type 0} → Option A → Option B → Option (A × B)
both none q = none
both (some a) none = none
both (some a) (some b) = some (a, b)

product_function : {A B C D : Type 0} (ρ : Rel A B) (σ : Rel C D) → Function ρ → Function σ → Function (ρ ⊗ σ)
product_function {A} {B} {C} {D} ρ σ F G x = (both (F x.0).0 (G x.1).0, λ y. go (F x.0).0 (G x.1).0 (F x.0).1 (G x.1).1 y)
  where
    go : (p : Option B) (q : Option D) → ((b : B) → ρ x.0 b ↔ (p ≡ some b)) → ((d : D) → σ x.1 d ↔ (q ≡ some d)) → (y : B × D) → (ρ x.0 y.0 × σ x.1 y.1) ↔ (both p q ≡ some y)
    go none q f g y = (λ r. absurd (let e : none ≡ some y.0 = (f y.0).0 r.0 in let z : ◌≡◌ {A = ℕ} 0 1 = cc in omega arith), λ e. absurd (let z : ◌≡◌ {A = ℕ} 0 1 = cc in omega arith))
    go (some b) none f g y = (λ r. absurd (let e : none ≡ some y.1 = (g y.1).0 r.1 in let z : ◌≡◌ {A = ℕ} 0 1 = cc in omega arith), λ e. absurd (let z : ◌≡◌ {A = ℕ} 0 1 = cc in omega arith))
    go (some b) (some d) f g y = (
      λ r.
          let e : some b ≡ some y.0 = (f y.0).0 r.0 in
          let h : some d ≡ some y.1 = (g y.1).0 r.1 in
          let u : b ≡ y.0 = cc in
          let v : d ≡ y.1 = cc in
          ap₂ (λ (m : B) (n : D). some (m, n)) u v,
      λ e. let z : ◌≡◌ {A = B × D} (b, d) y = cc in ((f y.0).1 (ap (λ (w : B × D). some w.0) z), (g y.1).1 (ap (λ (w : B × D). some w.1) z)),
    )

-- THE RELATIONS of the three tasks.

reading_function : (x : ℕ) → Function (read_letter x)
reading_function zero v = identity_function v
reading_function (suc σ) [] = (none, λ w. (λ e. absurd (let z : ◌≡◌ {A = ℕ} 0 1 = cc in omega arith), λ e. absurd (let z : ◌≡◌ {A = ℕ} 0 1 = cc in omega arith)))
reading_function (suc σ) (x ∷ v) = go (eqb x (suc σ)) refl
  where
    go : (b : Bool) → eqb x (suc σ) ≡ b → (o : Option Word) × ((w : Word) → L⁻¹ (suc σ) (x ∷ v) w ↔ (o ≡ some w))
    go true e = (some v, λ w. (λ z. cc, λ z. let h : x ≡ suc σ = eqb-true _ _ e in cc))
    go false e = (none, λ w. (λ z. absurd (eqb-false _ _ e (let h : x ≡ suc σ = cc in h)), λ z. absurd (let y : ◌≡◌ {A = ℕ} 0 1 = cc in omega arith)))

writing_function : (x : ℕ) → Function (write_letter x)
writing_function zero v = identity_function v
writing_function (suc γ) v = (some (v ++ (suc γ ∷ [])), λ w. (λ e. ap some (sym e), λ e. cc))

pub label_finite : (k : Task) (a : Arc) → LocallyFinite (α k a)
label_finite recognition a = function_finite (α recognition a) (product_function (read_letter a.upper) (read_letter a.lower) (reading_function a.upper) (reading_function a.lower))
label_finite synthesis a = function_finite (α synthesis a) (product_function (read_letter a.upper) (write_letter a.lower) (reading_function a.upper) (writing_function a.lower))
label_finite analysis a = function_finite (α analysis a) (product_function (write_letter a.upper) (read_letter a.lower) (writing_function a.upper) (reading_function a.lower))

-- the union of finite relations over the letters of a row
union_finite : {A B : Type 0} (ρ : ℕ → Rel A B) → ((x : ℕ) → LocallyFinite (ρ x)) → (row : List ℕ) → LocallyFinite {A = A} {B = B} (λ d e. (x : ℕ) × Memᴰ (suc x) row × ρ x d e)
union_finite ρ F [] d = ([], λ e. (λ r. absurd (Memᴰ.not-nil r.1), λ m. absurd (Memᴰ.not-nil m)))
union_finite ρ F (zero ∷ row) d =
    let U = union_finite ρ F row d in (
      U.0,
      λ e. (
        λ r. (U.1 e).0 (r.0, ⊎_elim (λ w. absurd (omega arith)) (λ w. w) (Memᴰ.cases_cons r.1), r.2),
        λ m. let r = (U.1 e).1 m in (r.0, Memᴰ.tail r.1, r.2),
      ),
    )
union_finite ρ F (suc y ∷ row) d =
    let U = union_finite ρ F row d in
    let G = F y d in (
      G.0 ++ U.0,
      λ e. (
        λ r. ⊎_elim
            (λ w. mem-left e G.0 U.0 ((G.1 e).0 (subst (λ (x : ℕ). ρ x d e) (let z : r.0 ≡ y = omega (arith, w) in z) r.2)))
            (λ w. mem_right e G.0 U.0 ((U.1 e).0 (r.0, w, r.2))) (Memᴰ.cases_cons r.1),
        λ m. ⊎_elim (λ w. (y, Memᴰ.head refl, (G.1 e).1 w)) (λ w. let r = (U.1 e).1 w in (r.0, Memᴰ.tail r.1, r.2)) (mem_either e G.0 U.0 m),
      ),
    )

-- the relation of an arc, plain or of a class
pub relation_finite : (rows : List (List ℕ)) (k : Task) (a : Arc) → LocallyFinite (αOf rows k a)
relation_finite rows k a = go (is_plain a)
  where
    go : (c : Bool) → LocallyFinite (αIf c (row_of rows a.upper) k a)
    go true = label_finite k a
    go false = union_finite (λ x. α k (with_letter a (suc x))) (λ x. label_finite k (with_letter a (suc x))) (row_of rows a.upper)

-- the relation of an arc under a ceiling: each datum of the other with the one sum, where that is within the ceiling
module _ {A : Type 0} (n : ℕ) where
  with_sum_lem : (l : List A) (y : A × ℕ) → Memᴰ y.0 l → y.1 ≡ n → Memᴰ y (map (λ e. (e, n)) l)
  with_sum_lem [] y m e = absurd (Memᴰ.not-nil m)
  with_sum_lem (x ∷ l) y m e = ⊎_elim (λ w. Memᴰ.head (λ i. (w i, e i))) (λ w. Memᴰ.tail (with_sum_lem l y w e)) (Memᴰ.cases_cons m)

  sum-with : (l : List A) (y : A × ℕ) → Memᴰ y (map (λ e. (e, n)) l) → Memᴰ y.0 l × (y.1 ≡ n)
  sum-with [] y m = absurd (Memᴰ.not-nil m)
  sum-with (x ∷ l) y m =
      ⊎_elim (λ w. (Memᴰ.head (ap (λ (z : A × ℕ). z.0) w), ap (λ (z : A × ℕ). z.1) w)) (λ w. let R = sum-with l y w in (Memᴰ.tail R.0, R.1)) (Memᴰ.cases_cons m)

pub under_finite : {A : Type 0} (ρ : Rel A A) → LocallyFinite ρ → (c p : ℕ) → LocallyFinite (ρ ⊗ adds c p)
under_finite {A} ρ F c p x = go (leb (x.1 + p) c) refl
  where
    go : (b : Bool) → leb (x.1 + p) c ≡ b → (l : List (A × ℕ)) × ((y : A × ℕ) → ◌⊗◌ ρ (adds c p) x y ↔ Memᴰ y l)
    go true e = (
      map (λ d. (d, x.1 + p)) (F x.0).0,
      λ y. (
        λ r. with_sum_lem (x.1 + p) (F x.0).0 y (((F x.0).1 y.0).0 r.0) r.1.0,
        λ m. let R = sum-with (x.1 + p) (F x.0).0 y m in (((F x.0).1 y.0).1 R.0, (R.1, subst (λ (s : ℕ). s ≤ c) (sym R.1) (leb-true _ _ e))),
      ),
    )
    go false e = ([], λ y. (λ r. absurd (omega (arith, leb-false (x.1 + p) c e, r.1.0, r.1.1)), λ m. absurd (Memᴰ.not-nil m)))

-- NOT LOCALLY FINITE is the relation of all words with all: a word is longer than all of a list.

abbrev total : List Word → ℕ
total [] = 0
total (w ∷ l) = length w + total l

short : (w : Word) (l : List Word) → Memᴰ w l → length w ≤ total l
short w [] m = absurd (Memᴰ.not-nil m)
short w (v ∷ l) m = ⊎_elim (λ e. omega (arith, ap length e)) (λ n. omega (arith, short w l n)) (Memᴰ.cases_cons m)

pub all_infinite : LocallyFinite {A = Word} {B = Word} (λ v w. Unit {0}) → ⊥
all_infinite F =
    let l = (F []).0 in
    let w : Word = replicate (suc (total l)) 1 in
    omega (arith, short w l (((F []).1 w).0 tt), length-replicate {A = ℕ} (suc (total l)) 1)
