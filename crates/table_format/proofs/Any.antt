-- Laws of the test for some element.
use Prim.Native.Nat.{ℕ}
use native.Mathlib.Omega.{arith}
use mathlib.Core.Path.{◌≡◌, refl, sym, ap, ◌∙◌}
use mathlib.Core.Logic.{⊎_elim}
use mathlib.Core.Bool.{Bool, true}
use mathlib.Core.List.Memᴰ
use mathlib.Core.List.{List, [], ◌∷◌, Memᴰ}
use Rattle.table_format.specs.Rules.{any}
use Rattle.table_format.proofs.Tests.{or_cases, or_left, or_right}

module _ {A : Type 0} (test : A → Bool) where
  pub any_found : (l : List A) → any test l ≡ true → (x : A) × Memᴰ x l × (test x ≡ true)
  any_found [] e = absurd (let z : ◌≡◌ {A = ℕ} 0 1 = cc in omega arith)
  any_found (x ∷ l) e = ⊎_elim (λ u. (x, Memᴰ.head refl, u)) (λ u. let R = any_found l u in (R.0, Memᴰ.tail R.1, R.2)) (or_cases (test x) (any test l) e)

  pub any-mem : (l : List A) (x : A) → Memᴰ x l → test x ≡ true → any test l ≡ true
  any-mem [] x m e = absurd (Memᴰ.not-nil m)
  any-mem (y ∷ l) x m e =
      ⊎_elim (λ u. or_left (test y) (any test l) (ap test (sym u) ∙ e)) (λ u. or_right (test y) (any test l) (any-mem l x u e)) (Memᴰ.cases_cons m)
