-- Every element of a list has a property; elements by their places.
use Prim.Native.Nat.{ℕ, zero, suc, ◌<◌}
use native.Mathlib.Omega.{arith}
use mathlib.Core.Path.{◌≡◌, refl, sym, subst}
use mathlib.Core.Logic.{⊎_elim}
use mathlib.Core.Bool.{Bool, true, and-eq-true_iff}
use mathlib.Core.List.Memᴰ
use mathlib.Core.List.{List, [], ◌∷◌, ◌++◌, map, Memᴰ}
use lib.ListN.{length, get_or}
use Rattle.table_format.specs.Rules.{each}

abbrev pub All : {A : Type 0} → (A → Type 0) → List A → Type 0
All P [] = Unit {0}
All P (x ∷ xs) = P x × All P xs

module _ {A : Type 0} (P : A → Type 0) where
  pub all_append : (xs ys : List A) → All P xs → All P ys → All P (xs ++ ys)
  all_append [] ys p q = q
  all_append (x ∷ xs) ys p q = (p.0, all_append xs ys p.1 q)

  -- the images of elements that have a property
  pub all_map : {B : Type 0} (Q : B → Type 0) (f : A → B) → ((x : A) → P x → Q (f x)) → (xs : List A) → All P xs → All Q (map f xs)
  all_map Q f law [] p = tt
  all_map Q f law (x ∷ xs) p = (law x p.0, all_map Q f law xs p.1)

  -- an element looked at, or what stands for one where there is none
  pub all_get_d : (xs : List A) (i : ℕ) (d : A) → P d → All P xs → P (get_or xs i d)
  all_get_d [] i d h p = h
  all_get_d (x ∷ xs) zero d h p = p.0
  all_get_d (x ∷ xs) (suc i) d h p = all_get_d xs i d h p.1

  -- the element at a place
  pub all-at : (xs : List A) (i : ℕ) (d : A) → All P xs → i < length xs → P (get_or xs i d)
  all-at [] i d p h = absurd (omega arith)
  all-at (x ∷ xs) zero d p h = p.0
  all-at (x ∷ xs) (suc i) d p h = all-at xs i d p.1 (omega arith)

  -- an element of the list
  pub all-mem : (xs : List A) → All P xs → (x : A) → Memᴰ x xs → P x
  all-mem [] p x m = absurd (Memᴰ.not-nil m)
  all-mem (y ∷ ys) p x m = ⊎_elim (λ u. subst P (sym u) p.0) (λ u. all-mem ys p.1 x u) (Memᴰ.cases_cons m)

  -- a property of all elements, from each
  pub all_from : (xs : List A) → ((x : A) → Memᴰ x xs → P x) → All P xs
  all_from [] h = tt
  all_from (x ∷ xs) h = (h x (Memᴰ.head refl), all_from xs (λ y m. h y (Memᴰ.tail m)))

  -- a test that each element passes gives the property
  pub all-each : (test : List A → A → Bool) → ((before : List A) (x : A) → test before x ≡ true → P x)
      → (before xs : List A) → each test before xs ≡ true → All P xs
  unfolding each
  all-each test law before [] e = tt
  all-each test law before (x ∷ xs) e =
      let p = (and-eq-true_iff (test before x) (each test (before ++ (x ∷ [])) xs)).0 e in
      (law before x p.0, all-each test law (before ++ (x ∷ [])) xs p.1)

-- the element at a place is one of the list
pub at_mem : {A : Type 0} (l : List A) (i : ℕ) (d : A) → i < length l → Memᴰ (get_or l i d) l
at_mem [] i d h = absurd (omega arith)
at_mem (x ∷ xs) zero d h = Memᴰ.head refl
at_mem (x ∷ xs) (suc i) d h = Memᴰ.tail (at_mem xs i d (omega arith))

-- the place of an element of a list
pub mem-at : {A : Type 0} (l : List A) (a d : A) → Memᴰ a l → (i : ℕ) × (i < length l) × (get_or l i d ≡ a)
mem-at [] a d m = absurd (Memᴰ.not-nil m)
mem-at {A} (x ∷ xs) a d m = ⊎_elim here (λ k. there (mem-at xs a d k)) (Memᴰ.cases_cons m)
  where
    here : a ≡ x → (i : ℕ) × (i < suc (length xs)) × (get_or (x ∷ xs) i d ≡ a)
    here e = (0, omega arith, sym e)

    there : (i : ℕ) × (i < length xs) × (get_or xs i d ≡ a) → (i : ℕ) × (i < suc (length xs)) × (get_or (x ∷ xs) i d ≡ a)
    there r = let h : r.0 < length xs = r.1 in (suc r.0, omega arith, r.2)
