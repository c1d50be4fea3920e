-- A walk that each time takes the lowest state from which it can go on is the first of its length.
use Prim.Native.Nat.{ℕ, ◌≤◌}
use native.Mathlib.Omega.{arith}
use mathlib.Core.Path.{◌≡◌, refl, sym, subst}
use mathlib.Core.Logic.{◌⊎◌, inl, inr, ⊎_elim}
use mathlib.Core.List.{List, [], ◌∷◌}
use lib.ListN.{length}
use Rattle.graph.specs.Lists.{Before}
use Rattle.graph.specs.Walk.{Through}
use Rattle.graph.proofs.Lists.{same?}
use Rattle.graph.proofs.Walk.{WalkThrough}

module _ (E : ℕ → ℕ → Type 0) (s : ℕ) where
  -- y is the lowest state after x from which a walk through m states leads to s
  pub record LowestNext (m x y : ℕ) : Type 0 where
    pub edge : E x y
    pub lowest : (z : ℕ) → E x z → WalkThrough E s m z → y ≤ z

  -- from x through l to s, each time by the lowest
  abbrev pub Traced : ℕ → List ℕ → Type 0
  Traced x [] = E x s
  Traced x (y ∷ l) = LowestNext (length l) x y × Traced y l

  pub traced_through : (x : ℕ) (l : List ℕ) → Traced x l → Through E x l s
  traced_through x [] T = T
  traced_through x (y ∷ l) T = (T.0.edge, traced_through y l T.1)

  pub traced_first : (x : ℕ) (l : List ℕ) → Traced x l → (k : List ℕ) → Through E x k s → length k ≡ length l → (k ≡ l) ⊎ Before l k
  traced_first x [] T [] U e = inl refl
  traced_first x [] T (z ∷ k) U e = absurd (omega arith)
  traced_first x (y ∷ l) T [] U e = absurd (omega arith)
  traced_first x (y ∷ l) T (z ∷ k) U e =
      let h : length k ≡ length l = omega arith in
      let w : y ≤ z = T.0.lowest z U.0 (k, U.1, h) in
      ⊎_elim
      (λ u. ⊎_elim (λ v. inl (cc)) (λ v. inr (inr (sym u, v))) (traced_first y l T.1 k (subst (λ (j : ℕ). Through E j k s) u U.1) h))
      (λ d. inr (inl (omega arith)))
      (same? z y)
