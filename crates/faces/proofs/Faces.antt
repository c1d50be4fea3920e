-- Laws of faces: each is printable and tells its letter; the faces that were seen so far.
use Prim.Native.Nat.{ℕ, ◌+◌, ◌-◌, ◌<◌, ◌≤◌}
use native.Mathlib.Omega.{arith}
use native.Mathlib.Numerals.{add-one}
use mathlib.Core.Path.{◌≡◌, refl, sym, ap, ◌∙◌}
use mathlib.Core.Bool.{Bool, true, false, not, ◌&&◌, ◌||◌, and-false, or-false}
use mathlib.Core.List.{List, [], ◌∷◌}
use lib.Dec.{eqb, leb}
use lib.ListN.{length, get_or, take, set, replicate, length-set, length-replicate, get_or-replicate}
use lib.Seq.{get_or-set_same, get_or-set_other, take-suc}
use borrow.Author.Tests.{leb-true, le-leb, eqb-true, eqb-false, eq-eqb, ne_eqb, not-true}
use Rattle.table_format.specs.Rules.{any, each}
use Rattle.table_format.proofs.Tests.{and_left, and_right, and_both, or_right}
use Rattle.table_format.specs.Ruled.{Differ}
use Rattle.table_format.proofs.Ruled.{each-differ}
use Rattle.table_format.proofs.Each.{each_at, each_more, each-fails, each-done, any_append}
use Rattle.faces.specs.Faces.{face_count, face_holds, faces_hold, face_of}
use Rattle.faces.proofs.Lent.{IsLetter}

-- Faces that hold.

module _ (faces : List ℕ) (holds : faces_hold faces ≡ true) where
  pub face_count_lem : length faces ≡ face_count
  unfolding faces_hold
  face_count_lem = eqb-true _ _ (and_left _ _ holds)

  face-at : (k : ℕ) → k < face_count → face_holds (take k faces) (get_or faces k 0) ≡ true
  unfolding faces_hold
  face-at k h = each_at face_holds 0 faces (and_right (eqb (length faces) face_count) _ holds) k (let s = face_count_lem in omega arith)

  pub face_printable : (x : ℕ) → IsLetter x → (33 ≤ face_of faces x) × (face_of faces x ≤ 126)
  face_printable x h =
      let t = face-at (x - 1) (omega arith) in
      (leb-true _ _ (and_left _ _ t), leb-true _ _ (and_left _ _ (and_right (leb 33 (face_of faces x)) _ t)))

  pub faces-differ : Differ faces
  unfolding faces_hold
  faces-differ =
      each-differ (λ c. c) eqb face_holds eq-eqb (λ before c e. not-true _ (and_right (leb c 126) _ (and_right (leb 33 c) _ e))) faces
      (and_right (eqb (length faces) face_count) _ holds)

  pub face-tells : (x y : ℕ) → IsLetter x → IsLetter y → face_of faces x ≡ face_of faces y → x ≡ y
  face-tells x y h k e =
      let s = face_count_lem in
      let same : x - 1 ≡ y - 1 = faces-differ 0 (x - 1) (y - 1) (omega arith) (omega arith) e in
      omega arith

-- The faces, one after another.

pub faces-none : each face_holds [] [] ≡ true
unfolding each
faces-none = refl

module _ (faces : List ℕ) (k : ℕ) (h : k < length faces) where
  pub faces-more : each face_holds [] (take k faces) ≡ true → face_holds (take k faces) (get_or faces k 0) ≡ true → each face_holds [] (take (k + 1) faces) ≡ true
  faces-more so_far test = ap (λ (n : ℕ). each face_holds [] (take n faces)) (add-one k) ∙ each_more face_holds 0 faces k h so_far test

  pub face-fails : face_holds (take k faces) (get_or faces k 0) ≡ false → faces_hold faces ≡ false
  unfolding faces_hold
  face-fails f = ap (λ (b : Bool). eqb (length faces) face_count && b) (each-fails face_holds 0 faces k h f) ∙ and-false (eqb (length faces) face_count)

-- The faces seen, in a row of marks.

abbrev among : List ℕ → ℕ → ℕ → Bool
among faces k c = any (λ d. eqb d c) (take k faces)

pub record Seen (faces : List ℕ) (seen : List Bool) (k : ℕ) : Type 0 where
  pub size : length seen ≡ 127
  pub hold : each face_holds [] (take k faces) ≡ true
  pub told : (c : ℕ) → c < 127 → get_or seen c false ≡ among faces k c

pub seen_none : (faces : List ℕ) → Seen faces (replicate 127 false) 0
seen_none faces = record { size = length-replicate 127 false; hold = faces-none; told = λ c h. get_or-replicate 127 c false false h }

module _ (faces : List ℕ) (seen : List Bool) (k c : ℕ) (S : Seen faces seen k) (h : k < length faces) (is : c ≡ get_or faces k 0) where
  among-more : (b : ℕ) → among faces (k + 1) b ≡ (among faces k b || eqb c b)
  among-more b =
      ap (λ (n : ℕ). among faces n b) (add-one k)
      ∙ ap (any (λ d. eqb d b)) (take-suc faces k 0 h)
      ∙ any_append (λ d. eqb d b) (take k faces) (get_or faces k 0 ∷ [])
      ∙ ap (λ (x : ℕ). among faces k b || (eqb x b || false)) (sym is)
      ∙ ap (λ (x : Bool). among faces k b || x) (or-false (eqb c b))

  pub seen_more : 33 ≤ c → c ≤ 126 → get_or seen c false ≡ false → Seen faces (set seen c true) (k + 1)
  seen_more low high new = record {
    size = length-set seen c true ∙ S.size;
    hold = faces-more faces k h S.hold test;
    told = told;
  }
    where
      absent : among faces k c ≡ false
      absent = sym (S.told c (omega arith)) ∙ new

      test : face_holds (take k faces) (get_or faces k 0) ≡ true
      test = ap (face_holds (take k faces)) (sym is) ∙ and_both (le-leb 33 c low) (and_both (le-leb c 126 high) (ap not absent))

      told : (b : ℕ) → b < 127 → get_or (set seen c true) b false ≡ among faces (k + 1) b
      told b less = go (eqb c b) refl
        where
          go : (t : Bool) → eqb c b ≡ t → get_or (set seen c true) b false ≡ among faces (k + 1) b
          go true e =
              let same : c ≡ b = eqb-true _ _ e in
              ap (λ (x : ℕ). get_or (set seen c true) x false) (sym same)
              ∙ get_or-set_same seen c true false (omega (arith, S.size))
              ∙ sym (among-more b ∙ or_right (among faces k b) (eqb c b) e)
          go false e =
              get_or-set_other seen c b true false (λ (q : b ≡ c). eqb-false _ _ e (sym q))
              ∙ S.told b less
              ∙ sym (among-more b ∙ ap (λ (x : Bool). among faces k b || x) e ∙ or-false (among faces k b))

  fails : face_holds (take k faces) c ≡ false → faces_hold faces ≡ false
  fails f = face-fails faces k h (ap (face_holds (take k faces)) (sym is) ∙ f)

  pub face-outside : (33 ≤ c → c ≤ 126 → ⊥) → faces_hold faces ≡ false
  face-outside out = fails (go (leb 33 c) (leb c 126) refl refl)
    where
      go : (low high : Bool) → leb 33 c ≡ low → leb c 126 ≡ high → (low && (high && not (among faces k c))) ≡ false
      go false high e f = refl
      go true false e f = refl
      go true true e f = absurd (out (leb-true _ _ e) (leb-true _ _ f))

  pub face-again : 33 ≤ c → c ≤ 126 → get_or seen c false ≡ true → faces_hold faces ≡ false
  face-again low high old =
      let there : among faces k c ≡ true = sym (S.told c (omega arith)) ∙ old in fails (rw (le-leb 33 c low, le-leb c 126 high, there))

pub faces-other : (faces : List ℕ) → (length faces ≡ face_count → ⊥) → faces_hold faces ≡ false
unfolding faces_hold
faces-other faces h = ap (λ (b : Bool). b && each face_holds [] faces) (ne_eqb _ _ h)

pub faces_hold_lem : (faces : List ℕ) (k : ℕ) → each face_holds [] (take k faces) ≡ true → length faces ≡ face_count → length faces ≤ k → faces_hold faces ≡ true
unfolding faces_hold
faces_hold_lem faces k so_far e h = and_both (eq-eqb _ _ e) (each-done face_holds faces k h so_far)
