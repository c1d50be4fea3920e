-- What follows a path unrolls as document 01 says, whatever the fuel; the tour's length is the search tree's size.
use Prim.Native.Nat.{ℕ, zero, suc, ◌+◌, ◌-◌, ◌<◌}
use mathlib.Core.Path.{◌≡◌, refl, ap, ◌∙◌}
use mathlib.Core.Option.{Option, none, some}
use mathlib.Core.List.{List, [], ◌∷◌, ◌++◌}
use native.Mathlib.Omega.{arith}
use native.Mathlib.Nat.{sub-zero}
use lib.ListN.{length, length-append}
use Rattle.machine.specs.Machine.{Machine, Path, start, more, final, datum, size, Allowed, Bounded}
use Rattle.machine.specs.Tour.{Entry, trail, branch, following, after, tour_from, tour, nodes_if, longer, paths_from, paths_of, weight, tree_size}

module _ (M : Machine) where
  -- g says what follows each path that the words allow
  abbrev pub Unrolls : (Path → List Entry) → Type 0
  Unrolls g = (p : Path) → Allowed M p → g p ≡ trail M g p (M.first (final M p)) (M.arity (final M p))

  trail-same : (g h : Path → List Entry) (p : Path) (n k : ℕ) → ((m : ℕ) → g (more p m) ≡ h (more p m)) → trail M g p n k ≡ trail M h p n k
  trail-same g h p n zero e = refl
  trail-same g h p n (suc k) e = go (datum M (more p n)) (trail-same g h p (suc n) k e)
    where
      go : (o : Option M.D) → trail M g p (suc n) k ≡ trail M h p (suc n) k
          → branch o g (more p n) (trail M g p (suc n) k) ≡ branch o h (more p n) (trail M h p (suc n) k)
      go none r = rw r
      go (some d) r = rw (e n, r)

  unroll : (c : ℕ) (p : Path) → c ≡ M.limit - size p → 0 < c → following M c p ≡ trail M (after M) p (M.first (final M p)) (M.arity (final M p))
  unfolding following
  unroll zero p e h = absurd (omega arith)
  unroll (suc c) p e h = trail-same (λ r. following M c r) (after M) p (M.first (final M p)) (M.arity (final M p)) (λ m. ap (λ (k : ℕ). following M k (more p m)) less)
    where
      less : c ≡ M.limit - suc (size p)
      less = omega arith

  pub unrolls : Bounded M → Unrolls (after M)
  unrolls B p A = unroll (M.limit - size p) p refl (let h : size p < M.limit = B p A in omega arith)

  tour-same : (i k : ℕ) → tour_from M (after M) i k ≡ tour_from M (following M M.limit) i k
  tour-same i zero = refl
  tour-same i (suc k) = rw (sub-zero, tour-same (suc i) k)

  -- the tour, with all the fuel at each initial state
  pub tour-is : tour M ≡ tour_from M (following M M.limit) 0 (length M.initials)
  unfolding tour
  tour-is = tour-same 0 (length M.initials)

  weight-append : (a b : List Path) → weight M (a ++ b) ≡ weight M a + weight M b
  weight-append [] b = omega arith
  weight-append (p ∷ a) b = omega (arith, weight-append a b)

  length-trail : (g : Path → List Entry) (h : Path → List Path) (p : Path) (n k : ℕ) → ((m : ℕ) → length (g (more p m)) ≡ weight M (h (more p m)))
      → length (trail M g p n k) ≡ (k + 1) + weight M (longer M h p n k)
  length-trail g h p n zero e = omega arith
  length-trail g h p n (suc k) e = go (datum M (more p n)) (length-trail g h p (suc n) k e)
    where
      go : (o : Option M.D) → length (trail M g p (suc n) k) ≡ (k + 1) + weight M (longer M h p (suc n) k)
          → length (branch o g (more p n) (trail M g p (suc n) k)) ≡ (suc k + 1) + weight M (nodes_if o (h (more p n)) (longer M h p (suc n) k))
      go none r = omega arith
      go (some d) r = rw (length-append, weight-append) (omega (arith, e n))

  length-following : (c : ℕ) (p : Path) → length (following M c p) ≡ weight M (paths_from M c p)
  unfolding following
  length-following zero p = refl
  length-following (suc c) p =
      length-trail (λ r. following M c r) (λ r. paths_from M c r) p (M.first (final M p)) (M.arity (final M p)) (λ m. length-following c (more p m))

  length-tour : (c i k : ℕ) → length (tour_from M (following M c) i k) ≡ k + weight M (paths_of M c i k)
  length-tour c i zero = omega arith
  length-tour c i (suc k) = rw (length-append, weight-append) (omega (arith, length-tour c (suc i) k, length-following c (start i)))

  -- the tour has as many entries as the search tree's size
  pub tree_law : length (tour M) ≡ tree_size M
  tree_law = ap length tour-is ∙ length-tour M.limit 0 (length M.initials)
