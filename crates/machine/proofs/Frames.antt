-- Frames: the laws of a store, and refusal 21, which tells exactly what is a place in a search.
use Prim.Native.Nat.{ℕ, zero, suc, pred, ◌+◌, ◌<◌, ◌≤◌}
use native.Mathlib.Omega.{arith}
use mathlib.Core.Path.{◌≡◌, refl, ap}
use mathlib.Core.Bool.{Bool, true, false, ◌&&◌}
use mathlib.Core.Option.{Option, none, some}
use mathlib.Core.List.{List, [], ◌∷◌, ◌++◌}
use lib.ListN.{length, get_or}
use lib.Dec.{eqb, ltb, leb}
use borrow.Author.Tests.{eqb-true, ltb-true, leb-true, lt-ltb, le-leb, lt-leb, eq-eqb}
use Rattle.table_format.proofs.Tests.{and_left, and_right, and_both}
use Rattle.machine.specs.Machine.{Machine, more, size, datum, tested, accepts, output, Bounded}
use Rattle.machine.specs.Frames.{Frame, Store, Held, frames_of, walk_to, view_of, bottom_holds, next_holds, link_holds, chain_holds, frames_hold, place_holds}
use Rattle.machine.specs.Place.{Placed}

-- the machine's test of two data decides their equality
pub record SameIs (M : Machine) : Type 0 where
  pub same-eq : (d e : M.D) → M.same d e ≡ true → d ≡ e
  pub same_refl : (d : M.D) → M.same d d ≡ true

-- what a store must do
pub record StoreLaws {F : Type 0} (S : Store F) : Type 0 where
  pub room-put : (c : S.Cells) (i : ℕ) (f : F) → S.room (S.put c i f) ≡ S.room c
  pub look-same : (c : S.Cells) (i : ℕ) (f : F) → i < S.room c → S.look (S.put c i f) i ≡ f
  pub look-other : (c : S.Cells) (i j : ℕ) (f : F) → (i ≡ j → ⊥) → S.look (S.put c i f) j ≡ S.look c j

module _ {F : Type 0} (S : Store F) where
  pub frames-length : (c : S.Cells) (d : ℕ) → length (frames_of S c d) ≡ d
  frames-length c zero = refl
  frames-length c (suc d) = ap suc (frames-length c d)

  module _ (L : StoreLaws S) where
    frames-above : (c : S.Cells) (i d : ℕ) (f : F) → d ≤ i → frames_of S (S.put c i f) d ≡ frames_of S c d
    frames-above c i zero f h = refl
    frames-above c i (suc d) f h = rw (L.look-other c i d f (λ e. omega arith), frames-above c i d f (omega arith))

    pub frames-put : (c : S.Cells) (d : ℕ) (f : F) → d < S.room c → frames_of S (S.put c d f) (suc d) ≡ f ∷ frames_of S c d
    frames-put c d f h = rw (L.look-same c d f h, frames-above c d d f (omega arith))

module _ (M : Machine) where
  pub placed-started : (n : ℕ) (fs : List (Frame M.D)) → Placed M n fs → n ≤ length M.initials
  placed-started n [] P = P
  placed-started n (f ∷ fs) P = placed-started n fs P.below

  pub walk-size : (n : ℕ) (fs : List (Frame M.D)) → size (walk_to n fs) ≡ length fs
  walk-size n [] = refl
  walk-size n (f ∷ fs) = ap suc (walk-size n fs)

  -- the depth of a place is at most the bound
  pub depth_law : Bounded M → (n : ℕ) (fs : List (Frame M.D)) → Placed M n fs → length fs ≤ M.limit
  depth_law B n [] P = omega arith
  depth_law B n (f ∷ fs) P = omega (arith, walk-size n fs, B (walk_to n fs) P.allowed)

  -- the top frame tells whether its path accepts
  pub accepts-top : (n : ℕ) (f : Frame M.D) (fs : List (Frame M.D)) → Placed M n (f ∷ fs) → accepts M (walk_to n fs) ≡ (M.terminal f.state && M.done f.datum)
  accepts-top n f fs P = rw (P.datum-is, ← P.state-is)

  -- and what the arc that it just tried adds to the output
  pub output-top : (n : ℕ) (f : Frame M.D) (fs : List (Frame M.D)) → Placed M n (f ∷ fs)
      → output M (walk_to n (f ∷ fs)) ≡ output M (walk_to n fs) ++ M.writes (pred f.next) f.datum
  output-top n f fs P = rw P.datum-is

  module _ (I : SameIs M) where
    tested-same : (o : Option M.D) (e : M.D) → tested o (λ d. M.same d e) ≡ true → o ≡ some e
    tested-same none e h = cc
    tested-same (some d) e h = ap some (I.same-eq d e h)

    next-facts : (f : Frame M.D) → next_holds M f ≡ true → (M.first f.state ≤ f.next) × (f.next ≤ M.first f.state + M.arity f.state)
    next-facts f e = (leb-true _ _ (and_left _ _ e), leb-true _ _ (and_right (leb (M.first f.state) f.next) _ e))

    bottom-placed : (n : ℕ) (f : Frame M.D) → n ≤ length M.initials → 0 < n → next_holds M f ≡ true → bottom_holds M n f ≡ true → Placed M n (f ∷ [])
    bottom-placed n f high low e k =
        let N = next-facts f e in
        record {
          state-is = eqb-true _ _ (and_left _ _ k);
          datum-is = ap some (I.same-eq _ _ (and_right (eqb f.state (get_or M.initials (pred n) 0)) _ k));
          allowed = omega arith;
          low = N.0;
          high = N.1;
          link = low;
          below = high;
        }

    link-placed : (n : ℕ) (g f : Frame M.D) (fs : List (Frame M.D)) → Placed M n (g ∷ fs) → next_holds M f ≡ true → link_holds M g f ≡ true → Placed M n (f ∷ g ∷ fs)
    link-placed n g f fs P e k =
        let N = next-facts f e in
        let m = pred g.next in
        let a = ltb (M.first g.state) g.next in
        let b = eqb f.state (M.target m) in
        let c = tested (M.follow m g.datum) (λ d. M.same d f.datum) in
        let r = and_right a (b && c) k in
        let low : M.first g.state < g.next = ltb-true _ _ (and_left a (b && c) k) in
        let to : datum M (more (walk_to n fs) m) ≡ some f.datum = rw P.datum-is (tested-same _ f.datum (and_right b c r)) in
        record {
          state-is = eqb-true _ _ (and_left b c r);
          datum-is = to;
          allowed = (P.allowed, rw (← P.state-is) (omega arith, omega (arith, P.high)), (f.datum, to));
          low = N.0;
          high = N.1;
          link = low;
          below = P;
        }

    chain-placed : (n : ℕ) (fs : List (Frame M.D)) (f : Frame M.D) → n ≤ length M.initials → 0 < n → chain_holds M n fs f ≡ true → Placed M n (f ∷ fs)
    chain-placed n [] f h k e = bottom-placed n f h k (and_left _ _ e) (and_right (next_holds M f) _ e)
    chain-placed n (g ∷ fs) f h k e =
        let r = and_right (next_holds M f) (link_holds M g f && chain_holds M n fs g) e in
        link-placed n g f fs (chain-placed n fs g h k (and_right (link_holds M g f) (chain_holds M n fs g) r)) (and_left (next_holds M f) (link_holds M g f && chain_holds M n fs g) e)
        (and_left (link_holds M g f) (chain_holds M n fs g) r)

    frames-placed : (n : ℕ) (fs : List (Frame M.D)) → n ≤ length M.initials → frames_hold M n fs ≡ true → Placed M n fs
    frames-placed n [] h e = h
    frames-placed n (f ∷ fs) h e = chain-placed n fs f h (ltb-true _ _ (and_left _ _ e)) (and_right (ltb 0 n) _ e)

    -- and back
    placed-chain : (n : ℕ) (fs : List (Frame M.D)) (f : Frame M.D) → Placed M n (f ∷ fs) → (0 < n) × (chain_holds M n fs f ≡ true)
    placed-chain n [] f P = (P.link, and_both (and_both (le-leb _ _ P.low) (le-leb _ _ P.high)) (and_both (eq-eqb _ _ P.state-is) same))
      where
        same : M.same M.d₀ f.datum ≡ true
        same = let e : M.d₀ ≡ f.datum = cc P.datum-is in rw e (I.same_refl f.datum)
    placed-chain n (g ∷ fs) f P =
        let R = placed-chain n fs g P.below in
        (R.0, and_both (and_both (le-leb _ _ P.low) (le-leb _ _ P.high)) (and_both (and_both (lt-ltb _ _ P.link) (and_both (eq-eqb _ _ P.state-is) fits)) R.1))
      where
        followed : M.follow (pred g.next) g.datum ≡ some f.datum
        followed = rw P.below.datum-is at P.datum-is

        fits : tested (M.follow (pred g.next) g.datum) (λ d. M.same d f.datum) ≡ true
        fits = rw followed (I.same_refl f.datum)

    placed-frames : (n : ℕ) (fs : List (Frame M.D)) → Placed M n fs → frames_hold M n fs ≡ true
    placed-frames n [] P = refl
    placed-frames n (f ∷ fs) P = let R = placed-chain n fs f P in and_both (lt-ltb _ _ R.0) R.1

    module _ (S : Store (Frame M.D)) (h : Held S.Cells) where
      -- 21 is not given exactly where the used frames are there and are a place in a search
      pub place-placed : place_holds M S h ≡ true → (h.depth ≤ S.room h.cells) × Placed M h.started (view_of M S h)
      unfolding place_holds
      place-placed e =
          let d = leb h.depth (S.room h.cells) in
          let f = frames_hold M h.started (view_of M S h) in
          let r = and_right (leb h.started (length M.initials)) (d && f) e in
          (leb-true _ _ (and_left d f r), frames-placed h.started (view_of M S h) (leb-true _ _ (and_left _ _ e)) (and_right d f r))

      pub placed-place : h.depth ≤ S.room h.cells → Placed M h.started (view_of M S h) → place_holds M S h ≡ true
      unfolding place_holds
      placed-place k P = and_both (le-leb _ _ (placed-started h.started (view_of M S h) P)) (and_both (le-leb _ _ k) (placed-frames h.started (view_of M S h) P))

      -- "A shorter stack gives 21 whatever it holds."
      pub short-place : S.room h.cells < h.depth → place_holds M S h ≡ false
      unfolding place_holds
      short-place k = go (leb h.started (length M.initials))
        where
          go : (b : Bool) → b && (leb h.depth (S.room h.cells) && frames_hold M h.started (view_of M S h)) ≡ false
          go true = ap (λ (v : Bool). v && frames_hold M h.started (view_of M S h)) (lt-leb _ _ k)
          go false = refl
