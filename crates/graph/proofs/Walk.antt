-- Walks: joined, moved to another graph, and freed of repeats.
use Prim.Native.Nat.{ℕ, suc, ◌<◌, ◌≤◌}
use native.Mathlib.Omega.{arith}
use mathlib.Core.Path.{◌≡◌, refl, ap}
use mathlib.Core.Logic.{◌⊎◌, inl, inr, ⊎_elim}
use mathlib.Core.List.Memᴰ
use mathlib.Core.List.{List, [], ◌∷◌, ◌++◌, Memᴰ}
use lib.ListN.{length}
use Rattle.graph.specs.Lists.{Distinct, AllBelow}
use Rattle.graph.specs.Walk.{Through, Walk, CycleStates, Among}
use Rattle.graph.proofs.Lists.{among?}
use Rattle.graph.proofs.Pigeon.{pigeon}

pub through-map : {E F : ℕ → ℕ → Type 0} → ((s r : ℕ) → E s r → F s r) → (s : ℕ) (l : List ℕ) (r : ℕ) → Through E s l r → Through F s l r
through-map f s [] r T = f s r T
through-map f s (x ∷ l) r T = (f s x T.0, through-map f x l r T.1)

pub walk-map : {E F : ℕ → ℕ → Type 0} → ((s r : ℕ) → E s r → F s r) → (s r : ℕ) → Walk E s r → Walk F s r
walk-map f s r w = (w.0, through-map f s w.0 r w.1)

-- a walk from x through m states to s
abbrev pub WalkThrough : (ℕ → ℕ → Type 0) → ℕ → ℕ → ℕ → Type 0
WalkThrough E s m x = (l : List ℕ) × Through E x l s × (length l ≡ m)

module _ (E : ℕ → ℕ → Type 0) where
  pub through_join : (s : ℕ) (l : List ℕ) (x : ℕ) (k : List ℕ) (r : ℕ) → Through E s l x → Through E x k r → Through E s (l ++ x ∷ k) r
  through_join s [] x k r T U = (T, U)
  through_join s (y ∷ l) x k r T U = (T.0, through_join y l x k r T.1 U)

  pub walk_join : {s x r : ℕ} → Walk E s x → Walk E x r → Walk E s r
  walk_join {s} {x} {r} v w = (v.0 ++ x ∷ w.0, through_join s v.0 x w.0 r v.1 w.1)

  pub edge-walk : {s r : ℕ} → E s r → Walk E s r
  edge-walk g = ([], g)

  pub walk-then : {s x r : ℕ} → Walk E s x → E x r → Walk E s r
  walk-then w g = walk_join w (edge-walk g)

  -- walks lead from all of l to x; an edge from x lengthens them
  abbrev pub AllLead : ℕ → List ℕ → Type 0
  AllLead x l = (y : ℕ) → Memᴰ y l → Walk E y x

  pub all_lead_more : (x : ℕ) (l : List ℕ) (r : ℕ) → AllLead x l → E x r → AllLead r (x ∷ l)
  all_lead_more x l r L g y m = ⊎_elim (λ u. rw u (edge-walk g)) (λ u. walk-then (L y u) g) (Memᴰ.cases_cons m)

  -- a closed walk, begun one edge later
  pub rotated : (s : ℕ) → Walk E s s → (x : ℕ) × E s x × Walk E x x
  rotated s w = go w.0 w.1
    where
      go : (l : List ℕ) → Through E s l s → (x : ℕ) × E s x × Walk E x x
      go [] T = (s, T, ([], T))
      go (x ∷ l) T = (x, T.0, walk-then (l, T.1) T.0)

  -- a walk without repeats, begun at one of its states
  cut : (x : ℕ) (l : List ℕ) (r s : ℕ) → Through E x l r → Distinct (x ∷ l) → Memᴰ s (x ∷ l) → (k : List ℕ) × Through E s k r × Distinct (s ∷ k) × (length k ≤ length l)
  cut x [] r s T D m = ⊎_elim (λ e. ([], rw e T, (λ j. Memᴰ.not-nil j, tt), omega arith)) (λ j. absurd (Memᴰ.not-nil j)) (Memᴰ.cases_cons m)
  cut x (y ∷ l) r s T D m =
      ⊎_elim (λ e. (y ∷ l, rw e T, rw e D, omega arith))
      (λ j. let R = cut y l r s T.1 D.1 j in (R.0, R.1, R.2, omega (arith, R.3)))
      (Memᴰ.cases_cons m)

  -- a walk, freed of repeats: the same walk or one of fewer edges, that does not come back to its start on the way
  pub record Freed (s : ℕ) (l : List ℕ) (r : ℕ) : Type 0 where
    pub states : List ℕ
    pub leads : Through E s states r
    pub distinct : Distinct (s ∷ states)
    pub no_longer : (states ≡ l) ⊎ (length states < length l)

  pub freed : (s : ℕ) (l : List ℕ) (r : ℕ) → Through E s l r → Freed s l r
  freed s [] r T = record { states = []; leads = T; distinct = (λ j. Memᴰ.not-nil j, tt); no_longer = inl refl }
  freed s (x ∷ l) r T =
      let F = freed x l r T.1 in
      let k = F.states in
      let h : length k ≤ length l = ⊎_elim (λ e. rw e (omega arith)) (λ h. omega arith) F.no_longer in
      ⊎_elim
      (λ m. let R = cut x k r s F.leads F.distinct m in record { states = R.0; leads = R.1; distinct = R.2; no_longer = inr (omega (arith, R.3)) })
      (λ o. record { states = x ∷ k; leads = (T.0, F.leads); distinct = (o, F.distinct); no_longer = ⊎_elim (λ e. inl (ap (λ (z : List ℕ). x ∷ z) e)) (λ h. inr (omega arith)) F.no_longer })
      (among? s (x ∷ k))

  module _ (n : ℕ) (G : Among E n) where
    pub through-below : (s : ℕ) (l : List ℕ) (r : ℕ) → Through E s l r → AllBelow n (s ∷ l)
    through-below s [] r T x m = ⊎_elim (λ e. rw e (G s r T).0) (λ j. absurd (Memᴰ.not-nil j)) (Memᴰ.cases_cons m)
    through-below s (y ∷ l) r T x m = ⊎_elim (λ e. rw e (G s y T.0).0) (λ j. through-below y l r T.1 x j) (Memᴰ.cases_cons m)

    pub walk-below : (s r : ℕ) → Walk E s r → s < n
    walk-below s r w = through-below s w.0 r w.1 s (Memᴰ.head refl)

    -- a cycle without repeats has at most as many states as there are
    pub cycle-short : (c : List ℕ) → CycleStates E c → length c ≤ n
    cycle-short [] C = absurd C
    cycle-short (s ∷ l) C = pigeon n (s ∷ l) C.1 (through-below s l s C.0)

    -- and so has a walk freed of them
    pub freed-short : {s : ℕ} {l : List ℕ} {r : ℕ} (F : Freed s l r) → suc (length F.states) ≤ n
    freed-short {s} {l} {r} F = pigeon n (s ∷ F.states) F.distinct (through-below s F.states r F.leads)
