-- Different numbers below n are at most n.
use Prim.Native.Nat.{ℕ, zero, suc, ◌≤◌}
use native.Mathlib.Omega.{arith}
use mathlib.Core.Path.{◌≡◌, refl, sym, ap, subst, ◌∙◌}
use mathlib.Core.Logic.{◌⊎◌, inl, inr, ⊎_elim}
use mathlib.Core.List.Memᴰ
use mathlib.Core.List.{List, [], ◌∷◌, Memᴰ}
use lib.ListN.{length}
use Rattle.graph.specs.Lists.{Distinct, AllBelow, up_to}
use Rattle.graph.proofs.Lists.{up_to-mem}

-- a list without one of its elements
record Without (x : ℕ) (k : List ℕ) : Type 0 where
  rest : List ℕ
  one_less : length k ≡ suc (length rest)
  others : (y : ℕ) → Memᴰ y k → (y ≡ x) ⊎ Memᴰ y rest

without : (x : ℕ) (k : List ℕ) → Memᴰ x k → Without x k
without x [] m = absurd (Memᴰ.not-nil m)
without x (z ∷ k) m =
    ⊎_elim (λ e. record { rest = k; one_less = refl; others = λ y j. ⊎_elim (λ w. inl (w ∙ sym e)) inr (Memᴰ.cases_cons j) })
    (λ i. more (without x k i))
    (Memᴰ.cases_cons m)
  where
    more : Without x k → Without x (z ∷ k)
    more W =
        record {
          rest = z ∷ W.rest;
          one_less = ap suc W.one_less;
          others = λ y j. ⊎_elim (λ w. inr (Memᴰ.head w)) (λ w. ⊎_elim inl (λ v. inr (Memᴰ.tail v)) (W.others y w)) (Memᴰ.cases_cons j);
        }

-- what stands in a list, none twice, is no longer than it
fits : (l k : List ℕ) → Distinct l → ((x : ℕ) → Memᴰ x l → Memᴰ x k) → length l ≤ length k
fits [] k D A = omega arith
fits (x ∷ l) k D A =
    let W = without x k (A x (Memᴰ.head refl)) in
    omega (
      arith,
      W.one_less,
      fits l W.rest D.1 (λ y m. ⊎_elim (λ e. absurd (D.0 (subst (λ (z : ℕ). Memᴰ z l) e m))) (λ j. j) (W.others y (A y (Memᴰ.tail m)))),
    )

up_to-length : (n : ℕ) → length (up_to n) ≡ n
up_to-length zero = refl
up_to-length (suc n) = ap suc (up_to-length n)

pub pigeon : (n : ℕ) (l : List ℕ) → Distinct l → AllBelow n l → length l ≤ n
pigeon n l D A = omega (arith, fits l (up_to n) D (λ x m. up_to-mem n x (A x m)), up_to-length n)
