-- Lists in which each element stands before all later ones: none stands there twice, and the members tell the list. `Sorted` is any property of
-- lists that says so of an order R.
use mathlib.Core.Path.{◌≡◌, refl, sym, ap₂, subst, ◌∙◌}
use mathlib.Core.Logic.{◌↔◌, ⊎_elim}
use mathlib.Core.List.Memᴰ
use mathlib.Core.List.{List, [], ◌∷◌, Memᴰ}
use Rattle.graph.specs.Lists.{Distinct}

-- what such a property says of a first element and of the others
abbrev pub Parts : {A : Type 0} → (A → A → Type 0) → (List A → Type 0) → Type 0
Parts {A} R Sorted = (x : A) (l : List A) → Sorted (x ∷ l) → ((y : A) → Memᴰ y l → R x y) × Sorted l

module _ {A : Type 0} (R : A → A → Type 0) (never : (x y : A) → R x y → R y x → ⊥) (Sorted : List A → Type 0) (parts : Parts R Sorted) where
  pub sorted-distinct : (l : List A) → Sorted l → Distinct l
  sorted-distinct [] S = tt
  sorted-distinct (x ∷ l) S = let P = parts x l S in (λ m. never x x (P.0 x m) (P.0 x m), sorted-distinct l P.1)

  -- the first elements are the same, so the later ones of one list are later ones of the other
  later : (a c : A) (l k : List A) → a ≡ c → Sorted (a ∷ l) → ((x : A) → Memᴰ x (a ∷ l) → Memᴰ x (c ∷ k)) → (x : A) → Memᴰ x l → Memᴰ x k
  later a c l k e S h x m =
      ⊎_elim (λ u. absurd (let r : R a a = subst (λ (z : A). R a z) (u ∙ sym e) ((parts a l S).0 x m) in never a a r r)) (λ u. u) (Memᴰ.cases_cons (h x (Memᴰ.tail m)))

  pub sorted_unique : (l k : List A) → Sorted l → Sorted k → ((x : A) → Memᴰ x l ↔ Memᴰ x k) → l ≡ k
  sorted_unique [] [] S T h = refl
  sorted_unique [] (c ∷ k) S T h = absurd (Memᴰ.not-nil ((h c).1 (Memᴰ.head refl)))
  sorted_unique (a ∷ l) [] S T h = absurd (Memᴰ.not-nil ((h a).0 (Memᴰ.head refl)))
  sorted_unique (a ∷ l) (c ∷ k) S T h =
      ap₂ (λ (x : A) (y : List A). x ∷ y) same
      (sorted_unique l k (parts a l S).1 (parts c k T).1 (λ x. (later a c l k same S (λ y. (h y).0) x, later c a k l (sym same) T (λ y. (h y).1) x)))
    where
      same : a ≡ c
      same =
          ⊎_elim (λ u. u)
          (λ u. ⊎_elim (λ v. sym v) (λ v. absurd (never a c ((parts a l S).0 c v) ((parts c k T).0 a u))) (Memᴰ.cases_cons ((h c).1 (Memᴰ.head refl))))
          (Memᴰ.cases_cons ((h a).0 (Memᴰ.head refl)))
