-- Laws of the layers: they grow until s leads to the outermost, and the way from layer to layer, each time to the lowest state, is the shortest and
-- first cycle through s.
use Prim.Native.Nat.{ℕ, suc, ◌+◌, ◌-◌, ◌<◌, ◌≤◌}
use native.Mathlib.Omega.{arith}
use mathlib.Core.Path.{◌≡◌, sym, ap, subst, ◌∙◌}
use mathlib.Core.Logic.{⊎_elim}
use mathlib.Core.List.{List, [], ◌∷◌}
use lib.ListN.{length}
use Rattle.graph.specs.Walk.{Through, Walk}
use Rattle.graph.specs.Shown.{FirstCycle}
use Rattle.graph.specs.Layers.{Layer, Layers}
use Rattle.graph.proofs.Lists.{same?, zero?, most?}
use Rattle.graph.proofs.First.{LowestNext, Traced, traced_through, traced_first}

module _ (E : ℕ → ℕ → Type 0) (s : ℕ) where
  -- at first s alone has a number
  pub layers-begin : (d : ℕ → ℕ) → d s ≡ 1 → ((x : ℕ) → (x ≡ s → ⊥) → d x ≡ 0) → Layers E s d 1
  layers-begin d e z =
      record {
        at-state = e;
        only-state = λ x h. ⊎_elim (λ u. u) (λ n. absurd (let k = z x n in omega arith)) (same? x s);
        bounded = λ x. ⊎_elim (λ u. let k : d x ≡ d s = ap d u in omega arith) (λ n. let k = z x n in omega arith) (same? x s);
        settled = λ x y g p h. absurd (omega arith);
        leads-on = λ x h. absurd (⊎_elim (λ u. let k : d x ≡ d s = ap d u in omega arith) (λ n. let k = z x n in omega arith) (same? x s));
        not_yet = λ y g p. omega arith;
      }

  -- x leads to a number and to no lower one
  pub record Due (d : ℕ → ℕ) (far at x : ℕ) : Type 0 where
    pub within : at ≤ far
    pub no_lower : (z : ℕ) → E x z → 0 < d z → at ≤ d z
    pub leads : (y : ℕ) × E x y × (d y ≡ at)

  module _ {d : ℕ → ℕ} {far : ℕ} (R : Layers E s d far) where
    some : 0 < d s
    some = let a = R.at-state in omega arith

    first-layer : 0 < far
    first-layer = let b = R.bounded s in omega (arith, some)

    -- a layer more, where s does not lead to the outermost
    pub layers-more : {after : ℕ → ℕ} → Layer E far d after → ((y : ℕ) → E s y → d y ≡ far → ⊥) → Layers E s after (suc far)
    layers-more {after} N none =
        record {
          at-state = N.kept s some ∙ R.at-state;
          only-state = λ x h. ⊎_elim (λ z. absurd (let A = N.added x z (omega arith) in let k = A.0 in omega (arith, first-layer))) (λ p. R.only-state x (sym (N.kept x p) ∙ h)) (zero? (d x));
          bounded = top;
          settled = settled';
          leads-on = leads_on';
          not_yet = λ y g p. ⊎_elim (λ z. let A = N.added y z p in let k = A.0 in omega arith) (λ q. let k = N.kept y q in let m = R.not_yet y g q in ⊎_elim (λ u. absurd (none y g u)) (λ n. omega arith) (same? (d y) far)) (zero? (d y));
        }
      where
        top : (x : ℕ) → after x ≤ suc far
        top x =
            ⊎_elim (λ z. ⊎_elim (λ e. omega arith) (λ p. let A = N.added x z p in let k = A.0 in omega arith) (zero? (after x)))
            (λ p. let k = N.kept x p in let b = R.bounded x in omega arith) (zero? (d x))

        settled' : (x y : ℕ) → E x y → 0 < after y → after y < suc far → (0 < after x) × (after x ≤ suc (after y))
        settled' x y g p h =
            ⊎_elim (λ z. absurd (let A = N.added y z p in let k = A.0 in omega arith))
            (λ q. let k = N.kept y q in
            ⊎_elim (λ u. (N.covered x y g u, let t = top x in omega arith))
            (λ n. let b = R.bounded y in let S = R.settled x y g q (omega arith) in let kx = N.kept x S.0 in (omega (arith, S.0), omega (arith, S.1)))
            (same? (d y) far))
            (zero? (d y))

        leads_on' : (x : ℕ) → 1 < after x → (y : ℕ) × E x y × (suc (after y) ≡ after x)
        leads_on' x h =
            ⊎_elim
            (λ z. let A = N.added x z (omega arith) in let e = A.0 in let q = A.1.2 in let k = N.kept A.1.0 (omega (arith, first-layer)) in (A.1.0, A.1.1, omega arith))
            (λ p. let e = N.kept x p in let L = R.leads-on x (omega arith) in let q = L.2 in let k = N.kept L.0 (omega arith) in (L.0, L.1, omega arith))
            (zero? (d x))

    -- a walk to s within the layers has a number
    near : (x : ℕ) (l : List ℕ) → Through E x l s → length l + 2 ≤ far → (0 < d x) × (d x ≤ length l + 2)
    near x [] T h = let a = R.at-state in let S = R.settled x s T (omega arith) (omega arith) in (S.0, omega (arith, S.1))
    near x (y ∷ l) T h = let I = near y l T.1 (omega arith) in let p = I.0 in let q = I.1 in let S = R.settled x y T.0 p (omega arith) in (S.0, omega (arith, S.1))

    no_shorter : (k : List ℕ) → Through E s k s → far ≤ suc (length k)
    no_shorter [] T = let a = R.at-state in let n = R.not_yet s T (omega arith) in omega arith
    no_shorter (y ∷ k) T =
        ⊎_elim (λ h. h) (λ h. let I = near y k T.1 (omega arith) in let q = I.1 in let n = R.not_yet y T.0 I.0 in omega arith) (most? far (suc (suc (length k))))

    -- where all that leads to a number has one, and s does not lead to the outermost, s is on no cycle
    pub layers-end : ((x y : ℕ) → E x y → d y ≡ far → 0 < d x) → ((y : ℕ) → E s y → d y ≡ far → ⊥) → Walk E s s → ⊥
    layers-end all none w = go w.0 w.1
      where
        back : (x y : ℕ) → E x y → 0 < d y → 0 < d x
        back x y g p = ⊎_elim (all x y g) (λ n. let b = R.bounded y in (R.settled x y g p (omega arith)).0) (same? (d y) far)

        numbered : (x : ℕ) (k : List ℕ) → Through E x k s → 0 < d x
        numbered x [] T = back x s T some
        numbered x (y ∷ k) T = back x y T.0 (numbered y k T.1)

        never : (y : ℕ) → E s y → 0 < d y → ⊥
        never y g p = none y g (let b = R.bounded y in let n = R.not_yet y g p in omega arith)

        go : (k : List ℕ) → Through E s k s → ⊥
        go [] T = never s T some
        go (y ∷ k) T = never y T.0 (numbered y k T.1)

    -- THE WAY BACK.
    pub due-state : (y : ℕ) → E s y → d y ≡ far → Due d far far s
    due-state y g e = record { within = omega arith; no_lower = R.not_yet; leads = (y, g, e) }

    pub due-next : (at x : ℕ) → Due d far at x → (y : ℕ) → d y ≡ at → 1 < at → Due d far (at - 1) y
    due-next at x D y e h =
        let L = R.leads-on y (omega arith) in
        let b = D.within in
        let q = L.2 in
        record {
          within = omega arith;
          no_lower = λ z g p. ⊎_elim (λ k. k) (λ k. let S = R.settled y z g p (omega arith) in let w = S.1 in omega arith) (most? (at - 1) (d z));
          leads = (L.0, L.1, omega arith);
        }

    -- the lowest state of the layer is the lowest from which the walk can go on
    pub due-lowest : (at x : ℕ) → Due d far at x → (y : ℕ) → E x y → ((z : ℕ) → E x z → d z ≡ at → y ≤ z) → (m : ℕ) → m + 2 ≡ at → LowestNext E s m x y
    due-lowest at x D y g low m e =
        record {
          edge = g;
          lowest = λ z f S. let b = D.within in let h = S.2 in let I = near z S.0 S.1 (omega arith) in let q = I.1 in let n = D.no_lower z f I.0 in low z f (omega arith);
        }

    pub due-last : (x : ℕ) → Due d far 1 x → E x s
    due-last x D = let L = D.leads in subst (E x) (R.only-state L.0 L.2) L.1

    -- each time by the lowest: the cycle through s
    pub layers-cycle : (l : List ℕ) → Traced E s s l → suc (length l) ≡ far → FirstCycle E s l
    layers-cycle l T h = record { closed = traced_through E s s l T; shortest = λ k U. let n = no_shorter k U in omega arith; first = traced_first E s s l T }
