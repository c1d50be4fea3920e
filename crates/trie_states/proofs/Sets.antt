-- Cells after a run of stores.
use Prim.Native.Nat.{ℕ, zero, suc, ◌+◌, ◌≤◌, ◌<◌}
use native.Mathlib.Omega.{arith}
use mathlib.Core.Path.{◌≡◌, refl, sym, ap, subst, ◌∙◌}
use mathlib.Core.Bool.{Bool, true, false}
use mathlib.Core.List.{List, [], ◌∷◌}
use lib.ListN.{length, get_or, set, length-set}
use lib.Dec.{eqb}
use borrow.Author.Tests.{eqb-true, eqb-false}
use lib.Seq.{sets, get_or-set_same, get_or-set_other}

module _ {A : Type 0} (d : A) where
  pub sets-before : (vs l : List A) (i k : ℕ) → k < i → get_or (sets l i vs) k d ≡ get_or l k d
  sets-before [] l i k h = refl
  sets-before (v ∷ vs) l i k h = sets-before vs (set l i v) (suc i) k (omega arith) ∙ get_or-set_other l i k v d (λ e. omega arith)

  pub sets-at : (vs l : List A) (i m : ℕ) → m < length vs → i + m < length l → get_or (sets l i vs) (i + m) d ≡ get_or vs m d
  sets-at [] l i m h k = absurd (omega arith)
  sets-at (v ∷ vs) l i zero h k =
      let e : i + 0 ≡ i = omega arith in
      ap (λ (n : ℕ). get_or (sets (set l i v) (suc i) vs) n d) e ∙ sets-before vs (set l i v) (suc i) i (omega arith) ∙ get_or-set_same l i v d (omega arith)
  sets-at (v ∷ vs) l i (suc m) h k =
      let e : i + suc m ≡ suc i + m = omega arith in
      ap (λ (n : ℕ). get_or (sets (set l i v) (suc i) vs) n d) e ∙ sets-at vs (set l i v) (suc i) m (omega arith) (omega (arith, length-set l i v))

  pub sets-after : (vs l : List A) (i k : ℕ) → i + length vs ≤ k → get_or (sets l i vs) k d ≡ get_or l k d
  sets-after [] l i k h = refl
  sets-after (v ∷ vs) l i k h = sets-after vs (set l i v) (suc i) k (omega arith) ∙ get_or-set_other l i k v d (λ e. omega arith)

-- a store of a value with the same field leaves that field everywhere
pub field-kept : {A B : Type 0} (d : A) (f : A → B) (l : List A) (k : ℕ) (v : A) → k < length l → f v ≡ f (get_or l k d) → (j : ℕ) → f (get_or (set l k v) j d) ≡ f (get_or l j d)
field-kept d f l k v h e j = go (eqb j k) refl
  where
    go : (t : Bool) → eqb j k ≡ t → f (get_or (set l k v) j d) ≡ f (get_or l j d)
    go true g =
        let s : k ≡ j = sym (eqb-true j k g) in
        subst (λ (i : ℕ). f (get_or (set l k v) i d) ≡ f (get_or l i d)) s (ap f (get_or-set_same l k v d h) ∙ e)
    go false g = ap f (get_or-set_other l k j v d (eqb-false j k g))
