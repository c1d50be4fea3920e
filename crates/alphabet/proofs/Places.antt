-- The values of a function in a row, by which a rule is computed at each number below one; the first place of a number in a list.
use Prim.Native.Nat.{ℕ, zero, suc, ◌+◌, ◌-◌, ◌<◌, ◌≤◌}
use native.Mathlib.Omega.{arith}
use mathlib.Core.Path.{◌≡◌, refl, sym, ap, subst, ◌∙◌}
use mathlib.Core.Bool.{Bool, true, false, cond}
use mathlib.Core.List.{List, [], ◌∷◌}
use lib.Dec.{eqb}
use lib.ListN.{length, get_or}
use borrow.Author.Tests.{eqb-true, eq-eqb, ne_eqb}
use Rattle.std.specs.Prelude.{Option, Some, None, MatchOption}
use Rattle.alphabet.specs.Letters.{place_in}

-- the values at the numbers below one
abbrev pub values : {A : Type 0} → (ℕ → A) → ℕ → List A
values f zero = []
values f (suc n) = f 0 ∷ values (λ i. f (suc i)) n

pub value_at : {A : Type 0} (f : ℕ → A) (d : A) (n i : ℕ) → i < n → get_or (values f n) i d ≡ f i
value_at f d zero i h = absurd (omega arith)
value_at f d (suc n) zero h = refl
value_at f d (suc n) (suc i) h = value_at (λ k. f (suc k)) d n i (omega arith)

-- functions whose n values from m on are the same
pub same_from : {A : Type 0} (f g : ℕ → A) (m n : ℕ) → values (λ i. f (m + i)) n ≡ values (λ i. g (m + i)) n → (k : ℕ) → m ≤ k → k < m + n → f k ≡ g k
same_from {A} f g m n e k low high =
    let h : k - m < n = omega arith in
    let is : m + (k - m) ≡ k = omega arith in
    subst (λ (x : ℕ). f x ≡ g x) is
    (sym (value_at (λ i. f (m + i)) (f 0) n (k - m) h) ∙ ap (λ (l : List A). get_or l (k - m) (f 0)) e ∙ value_at (λ i. g (m + i)) (f 0) n (k - m) h)

-- Places.

module _ (x : ℕ) where
  pub place_is : (l : List ℕ) → place_in l x < length l → get_or l (place_in l x) 0 ≡ x
  place_is [] h = absurd (omega arith)
  place_is (y ∷ ys) h = go (eqb y x) refl h (place_is ys)
    where
      go : (b : Bool) → eqb y x ≡ b → cond b 0 (suc (place_in ys x)) < suc (length ys) → (place_in ys x < length ys → get_or ys (place_in ys x) 0 ≡ x)
          → get_or (y ∷ ys) (cond b 0 (suc (place_in ys x))) 0 ≡ x
      go true e k more = eqb-true _ _ e
      go false e k more = more (omega arith)

  -- the first place of a number: all before differ
  pub place_first : (l : List ℕ) (k : ℕ) → k < length l → get_or l k 0 ≡ x → ((i : ℕ) → i < k → get_or l i 0 ≡ x → ⊥) → k ≡ place_in l x
  place_first [] k h e n = absurd (omega arith)
  place_first (y ∷ ys) zero h e n = sym (ap (λ (b : Bool). cond b 0 (suc (place_in ys x))) (eq-eqb _ _ e))
  place_first (y ∷ ys) (suc k) h e n =
      ap suc (place_first ys k (omega arith) e (λ i below. n (suc i) (omega arith)))
      ∙ sym (ap (λ (b : Bool). cond b 0 (suc (place_in ys x))) (ne_eqb _ _ (n 0 (omega arith))))

  pub place_none : (l : List ℕ) → ((i : ℕ) → i < length l → get_or l i 0 ≡ x → ⊥) → length l ≤ place_in l x
  place_none [] n = omega arith
  place_none (y ∷ ys) n =
      omega (arith, place_none ys (λ i below. n (suc i) (omega arith)), ap (λ (b : Bool). cond b 0 (suc (place_in ys x))) (ne_eqb _ _ (n 0 (omega arith))))

  -- what a search tells
  abbrev pub FirstIs : List ℕ → Option ℕ → Type 0
  FirstIs l r =
      MatchOption r ((i : ℕ) → i < length l → get_or l i 0 ≡ x → ⊥)
      (λ k. (k < length l) × (get_or l k 0 ≡ x) × ((i : ℕ) → i < k → get_or l i 0 ≡ x → ⊥))

  pub place_found : (l : List ℕ) (r : Option ℕ) → FirstIs l r → MatchOption r (length l ≤ place_in l x) (λ k. (k < length l) × (k ≡ place_in l x))
  place_found l None F = place_none l F
  place_found l (Some k) F = (F.0, place_first l k F.0 F.1 F.2)
