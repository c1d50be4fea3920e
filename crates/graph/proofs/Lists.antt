-- Laws of lists.
use Prim.Native.Nat.{ℕ, zero, suc, ◌+◌, ◌<◌, ◌≤◌}
use native.Mathlib.Omega.{arith}
use native.Mathlib.Nat.{not-suc-le-zero}
use native.Mathlib.Numerals.{add-one}
use mathlib.Core.Path.{◌≡◌, refl, sym, ap, subst, ◌∙◌}
use mathlib.Core.Logic.{◌⊎◌, inl, inr, ⊎_elim}
use mathlib.Core.Bool.{Bool, true, false, cond, true≢false}
use mathlib.Core.List.Memᴰ
use mathlib.Core.List.{List, [], ◌∷◌, ◌++◌, Memᴰ}
use lib.Dec.{eqb, leb}
use lib.ListN.{length, get_or, set}
use borrow.Author.Tests.{eqb-true, eqb-false, eq-eqb, leb-true, leb-false}
use Rattle.table_format.proofs.Any.{any_found, any-mem}
use Rattle.graph.specs.Lists.{Before, member, keep, up_to, lowest, zeros}

pub same? : (a b : ℕ) → (a ≡ b) ⊎ (a ≡ b → ⊥)
same? a b = go (eqb a b) refl
  where
    go : (c : Bool) → eqb a b ≡ c → (a ≡ b) ⊎ (a ≡ b → ⊥)
    go true e = inl (eqb-true _ _ e)
    go false e = inr (eqb-false _ _ e)

pub zero? : (x : ℕ) → (x ≡ 0) ⊎ (0 < x)
zero? zero = inl refl
zero? (suc x) = inr (omega arith)

pub most? : (a b : ℕ) → (a ≤ b) ⊎ (b < a)
most? a b = go (leb a b) refl
  where
    go : (c : Bool) → leb a b ≡ c → (a ≤ b) ⊎ (b < a)
    go true e = inl (leb-true _ _ e)
    go false e = inr (leb-false _ _ e)

-- what holds of the numbers below n and of n holds below n + 1
pub below_more : (P : ℕ → Type 0) (n : ℕ) → ((i : ℕ) → i < n → P i) → P n → (i : ℕ) → i < n + 1 → P i
below_more P n f e i h = ⊎_elim (λ u. subst P (sym u) e) (λ d. f i (omega arith)) (same? i n)

pub among? : (s : ℕ) (l : List ℕ) → Memᴰ s l ⊎ (Memᴰ s l → ⊥)
among? s [] = inr (λ m. Memᴰ.not-nil m)
among? s (x ∷ l) =
    ⊎_elim (λ e. inl (Memᴰ.head e))
    (λ d. ⊎_elim (λ m. inl (Memᴰ.tail m)) (λ o. inr (λ m. ⊎_elim d o (Memᴰ.cases_cons m))) (among? s l))
    (same? s x)

pub member-mem : (s : ℕ) (l : List ℕ) → member s l ≡ true → Memᴰ s l
member-mem s l e = let R = any_found (λ x. eqb x s) l e in subst (λ (x : ℕ). Memᴰ x l) (eqb-true _ _ R.2) R.1

pub mem-member : (s : ℕ) (l : List ℕ) → Memᴰ s l → member s l ≡ true
mem-member s l m = any-mem (λ x. eqb x s) l s m (eq-eqb s s refl)

pub up_to-mem : (n s : ℕ) → s < n → Memᴰ s (up_to n)
up_to-mem zero s h = absurd (not-suc-le-zero h)
up_to-mem (suc n) s h = ⊎_elim (λ e. Memᴰ.head e) (λ d. Memᴰ.tail (up_to-mem n s (omega arith))) (same? s n)

pub mem-up_to : (n s : ℕ) → Memᴰ s (up_to n) → s < n
mem-up_to zero s h = absurd (Memᴰ.not-nil h)
mem-up_to (suc n) s h = ⊎_elim (λ w. omega arith) (λ w. let k : s < n = mem-up_to n s w in omega arith) (Memᴰ.cases_cons h)

module _ {A : Type 0} (p : A → Bool) where
  pub keep-mem : (l : List A) (s : A) → Memᴰ s (keep p l) → Memᴰ s l × (p s ≡ true)
  keep-mem [] s h = absurd (Memᴰ.not-nil h)
  keep-mem (x ∷ l) s h = go (p x) refl h (λ m. keep-mem l s m)
    where
      go : (b : Bool) → p x ≡ b → Memᴰ s (cond b (x ∷ keep p l) (keep p l)) → (Memᴰ s (keep p l) → Memᴰ s l × (p s ≡ true)) → Memᴰ s (x ∷ l) × (p s ≡ true)
      go true e m r = ⊎_elim (λ w. (Memᴰ.head w, ap p w ∙ e)) (λ w. (Memᴰ.tail (r w).0, (r w).1)) (Memᴰ.cases_cons m)
      go false e m r = (Memᴰ.tail (r m).0, (r m).1)

  pub mem-keep : (l : List A) (s : A) → Memᴰ s l → p s ≡ true → Memᴰ s (keep p l)
  mem-keep [] s h e = absurd (Memᴰ.not-nil h)
  mem-keep (x ∷ l) s h e = go (p x) refl (Memᴰ.cases_cons h) (λ m. mem-keep l s m e)
    where
      go : (b : Bool) → p x ≡ b → (s ≡ x) ⊎ Memᴰ s l → (Memᴰ s l → Memᴰ s (keep p l)) → Memᴰ s (cond b (x ∷ keep p l) (keep p l))
      go true eb m r = ⊎_elim (λ w. Memᴰ.head w) (λ w. Memᴰ.tail (r w)) m
      go false eb m r = ⊎_elim (λ w. absurd (true≢false (sym e ∙ ap p w ∙ eb))) r m

-- the lowest that passes
pub record Lowest (p : ℕ → Bool) (n x : ℕ) : Type 0 where
  pub passes : p x ≡ true
  pub below : x < n
  pub least : (i : ℕ) → p i ≡ true → x ≤ i

pub lowest-is : (p : ℕ → Bool) (n j : ℕ) → j < n → p j ≡ true → Lowest p n (lowest p n)
lowest-is p zero j h e = absurd (not-suc-le-zero h)
lowest-is p (suc n) j h e = go (p 0) refl j h e (λ i k f. lowest-is (λ i. p (suc i)) n i k f)
  where
    least-suc : p 0 ≡ false → Lowest (λ i. p (suc i)) n (lowest (λ i. p (suc i)) n) → (i : ℕ) → p i ≡ true → suc (lowest (λ i. p (suc i)) n) ≤ i
    least-suc z L zero f = absurd (true≢false (sym f ∙ z))
    least-suc z L (suc i) f = omega (arith, L.least i f)

    go : (b : Bool) → p 0 ≡ b → (j : ℕ) → j < suc n → p j ≡ true
        → ((i : ℕ) → i < n → p (suc i) ≡ true → Lowest (λ i. p (suc i)) n (lowest (λ i. p (suc i)) n))
        → Lowest p (suc n) (cond b 0 (suc (lowest (λ i. p (suc i)) n)))
    go true z j h e r = record { passes = z; below = omega arith; least = λ i f. omega arith }
    go false z zero h e r = absurd (true≢false (sym e ∙ z))
    go false z (suc j) h e r = let L = r j (omega arith) e in record { passes = L.passes; below = omega (arith, L.below); least = least-suc z L }

-- The order of words.

pub before_same : (l a b : List ℕ) → Before a b → Before (l ++ a) (l ++ b)
before_same [] a b h = h
before_same (x ∷ l) a b h = inr (refl, before_same l a b h)

pub before_trans : (a b c : List ℕ) → Before a b → Before b c → Before a c
before_trans [] [] c h k = absurd h
before_trans [] (y ∷ b) [] h k = absurd k
before_trans [] (y ∷ b) (z ∷ c) h k = tt
before_trans (x ∷ a) [] c h k = absurd h
before_trans (x ∷ a) (y ∷ b) [] h k = absurd k
before_trans (x ∷ a) (y ∷ b) (z ∷ c) h k =
    ⊎_elim (λ u. ⊎_elim (λ v. inl (omega arith)) (λ v. let e : y ≡ z = v.0 in inl (omega arith)) k)
    (λ u. let d : x ≡ y = u.0 in ⊎_elim (λ v. inl (omega arith)) (λ v. inr (d ∙ v.0, before_trans a b c u.1 v.1)) k) h

pub before-never : (a : List ℕ) → Before a a → ⊥
before-never [] h = h
before-never (x ∷ a) h = ⊎_elim (λ u. omega arith) (λ u. before-never a u.1) h

pub before-both : (a b : List ℕ) → Before a b → Before b a → ⊥
before-both a b h k = before-never a (before_trans a b a h k)

-- cells that are all 0
pub zeros-all : (l : List ℕ) → ((i : ℕ) → get_or l i 0 ≡ 0) → zeros l ≡ length l
zeros-all [] f = refl
zeros-all (zero ∷ xs) f = ap suc (zeros-all xs (λ i. f (suc i)))
zeros-all (suc x ∷ xs) f = absurd (let e : suc x ≡ 0 = f 0 in omega arith)

-- a cell of 0 that is written is one less
pub zeros-set : (l : List ℕ) (i v : ℕ) → i < length l → get_or l i 0 ≡ 0 → 0 < v → zeros (set l i v) + 1 ≡ zeros l
zeros-set [] i v h e p = absurd (omega arith)
zeros-set (zero ∷ xs) zero zero h e p = absurd (omega arith)
zeros-set (zero ∷ xs) zero (suc v) h e p = add-one (zeros xs)
zeros-set (suc x ∷ xs) zero v h e p = absurd (omega arith)
zeros-set (zero ∷ xs) (suc i) v h e p = let r = zeros-set xs i v (omega arith) e p in omega arith
zeros-set (suc x ∷ xs) (suc i) v h e p = zeros-set xs i v (omega arith) e p
