-- The lists under a ceiling: the accepting paths whose sum is within it, in the same order. So a higher ceiling's list holds a lower one's. A machine
-- that narrows another by its outputs does so under a ceiling.
use Prim.Native.Nat.{ℕ, ◌≤◌}
use native.Mathlib.Omega.{arith}
use mathlib.Core.Path.{◌≡◌, refl, sym, ap, ap₂, subst₂, ◌∙◌}
use mathlib.Core.Bool.{Bool, true, false, cond}
use mathlib.Core.List.{List, [], ◌∷◌, Memᴰ, Sublistᴰ}
use lib.Dec.{leb}
use borrow.Author.Tests.{leb-true, le-leb}
use Rattle.graph.specs.Lists.{keep}
use Rattle.machine.specs.Machine.{Machine, Path, output, Bounded}
use Rattle.machine.specs.Tour.{paths_in, tour, readings}
use Rattle.machine.specs.Order.{accepting, outputs, Narrows}
use Rattle.machine.specs.Ceiling.{sum_of, ceiled}
use Rattle.machine.proofs.Order.{readings-outputs, tour_lists}
use Rattle.machine.proofs.Narrow.{narrowed}
use Rattle.machine.proofs.Ceiling.{allowed-to, allowed-from, accepts-same, output-same, ceiled-bounded}

outputs-same : (M N : Machine) (ps : List Path) → ((p : Path) → Memᴰ p ps → output M p ≡ output N p) → outputs M ps ≡ outputs N ps
outputs-same M N [] h = refl
outputs-same M N (p ∷ ps) h = ap₂ (λ (x : List ℕ) (y : List (List ℕ)). x ∷ y) (h p (Memᴰ.head refl)) (outputs-same M N ps (λ r m. h r (Memᴰ.tail m)))

-- the outputs of the paths that pass a test, among those of all
kept-outputs : (M : Machine) (test : Path → Bool) (ps : List Path) → Sublistᴰ (outputs M (keep test ps)) (outputs M ps)
kept-outputs M test [] = Sublistᴰ.slnil
kept-outputs M test (p ∷ ps) = go (test p) (kept-outputs M test ps)
  where
    go : (b : Bool) → Sublistᴰ (outputs M (keep test ps)) (outputs M ps) → Sublistᴰ (outputs M (cond b (p ∷ keep test ps) (keep test ps))) (output M p ∷ outputs M ps)
    go true s = Sublistᴰ.cons-cons refl s
    go false s = Sublistᴰ.cons s

module _ (M : Machine) (penalty : ℕ → ℕ) where
  -- a path's sum is within a ceiling
  abbrev pub within : ℕ → Path → Bool
  within c p = leb (sum_of penalty p) c

  under : (c : ℕ) → Narrows (ceiled M penalty c) M (within c)
  under c p = (
    λ a. let L = allowed-to M penalty c p a.0 in ((L.0, sym (accepts-same M penalty c p a.0) ∙ a.1), le-leb (sum_of penalty p) c L.1),
    λ a. let A = allowed-from M penalty c p a.0.0 (leb-true _ _ a.1) in (A, accepts-same M penalty c p A ∙ a.0.1),
  )

  lower : (low high : ℕ) → low ≤ high → Narrows (ceiled M penalty low) (ceiled M penalty high) (within low)
  lower low high h p = (
    λ a. let L = allowed-to M penalty low p a.0 in
        let A = allowed-from M penalty high p L.0 (omega arith) in
        ((A, accepts-same M penalty high p A ∙ sym (accepts-same M penalty low p a.0) ∙ a.1), le-leb (sum_of penalty p) low L.1),
    λ a. let A = allowed-from M penalty low p (allowed-to M penalty high p a.0.0).0 (leb-true _ _ a.1) in
        (A, accepts-same M penalty low p A ∙ sym (accepts-same M penalty high p a.0.0) ∙ a.0.1),
  )

  module _ (B : Bounded M) where
    pub under-ceiling : (c : ℕ) → accepting (ceiled M penalty c) (paths_in (tour (ceiled M penalty c))) ≡ keep (within c) (accepting M (paths_in (tour M)))
    under-ceiling c = narrowed (ceiled M penalty c) M (within c) (under c) (ceiled-bounded M penalty c B) B

    module _ (low high : ℕ) (h : low ≤ high) where
      abbrev L : Machine
      L = ceiled M penalty low

      abbrev H : Machine
      H = ceiled M penalty high

      pub higher_paths : accepting L (paths_in (tour L)) ≡ keep (within low) (accepting H (paths_in (tour H)))
      higher_paths = narrowed L H (within low) (lower low high h) (ceiled-bounded M penalty low B) (ceiled-bounded M penalty high B)

      pub higher_readings : readings L (tour L) ≡ outputs H (keep (within low) (accepting H (paths_in (tour H))))
      higher_readings = readings-outputs L (tour L) ∙ outputs-same L H (accepting L (paths_in (tour L))) same ∙ ap (outputs H) higher_paths
        where
          same : (p : Path) → Memᴰ p (accepting L (paths_in (tour L))) → output L p ≡ output H p
          same p m =
              let A = (((tour_lists L (ceiled-bounded M penalty low B)).members p).0 m).0 in
              let P = allowed-to M penalty low p A in
              output-same M penalty low p A ∙ sym (output-same M penalty high p (allowed-from M penalty high p P.0 (omega (arith, P.1))))

      pub higher_holds : Sublistᴰ (readings L (tour L)) (readings H (tour H))
      higher_holds = subst₂ (λ (x y : List (List ℕ)). Sublistᴰ x y) (sym higher_readings) (sym (readings-outputs H (tour H))) (kept-outputs H (within low) (accepting H (paths_in (tour H))))

pub narrows-under : (R S : Machine) (penalty : ℕ → ℕ) (c : ℕ) (test : List ℕ → Bool) → Narrows R S (λ p. test (output S p))
    → Narrows (ceiled R penalty c) (ceiled S penalty c) (λ p. test (output (ceiled S penalty c) p))
narrows-under R S penalty c test narrows p = (
  λ a. let L = allowed-to R penalty c p a.0 in
      let N = (narrows p).0 (L.0, sym (accepts-same R penalty c p a.0) ∙ a.1) in
      let A = allowed-from S penalty c p N.0.0 L.1 in
      ((A, accepts-same S penalty c p A ∙ N.0.1), ap test (output-same S penalty c p A) ∙ N.1),
  λ a. let L = allowed-to S penalty c p a.0.0 in
      let N = (narrows p).1 ((L.0, sym (accepts-same S penalty c p a.0.0) ∙ a.0.1), ap test (sym (output-same S penalty c p a.0.0)) ∙ a.1) in
      let A = allowed-from R penalty c p N.0 L.1 in
      (A, accepts-same R penalty c p A ∙ N.1),
)
