-- The paths of the tour are exactly those that the words allow, each once, in the order of specs/Order.
use Prim.Native.Nat.{ℕ, zero, suc, ◌+◌, ◌≤◌, ◌<◌}
use native.Mathlib.Omega.{arith}
use mathlib.Core.Path.{◌≡◌, refl, sym, ap, ap₂, subst, subst₂, ◌∙◌}
use mathlib.Core.Logic.{◌↔◌, ◌⊎◌, inl, inr, ⊎_elim}
use mathlib.Core.Bool.{Bool, true, false, cond}
use mathlib.Core.Option.{Option, none, some}
use mathlib.Core.List.Memᴰ
use mathlib.Core.List.{List, [], ◌∷◌, ◌++◌, append_assoc, Memᴰ}
use lib.ListN.{length}
use lib.Dec.{eqb}
use borrow.Author.Tests.{eqb-true, eqb-false}
use Rattle.graph.specs.Lists.{keep, Before}
use Rattle.graph.proofs.Sorted.{sorted_unique}
use Rattle.graph.proofs.Lists.{keep-mem, mem-keep, before_same, before-both}
use Rattle.machine.specs.Machine.{Machine, Path, start, more, size, numbers, final, datum, accepts, output, Allowed, Bounded}
use Rattle.machine.specs.Tour.{Entry, branch, trail, following, after, tour_from, tour, reading_if, readings, paths_in, nodes_if, longer, paths_from, paths_of, allowed_paths}
use Rattle.machine.specs.Order.{Rising, accepting, outputs, ListsAllowed, Lists}
use Rattle.machine.proofs.Tour.{unrolls, tour-is}

-- Rising lists.

rising-append : (a b : List Path) → Rising a → Rising b → ((p r : Path) → Memᴰ p a → Memᴰ r b → Before (numbers p) (numbers r)) → Rising (a ++ b)
rising-append [] b A B h = B
rising-append (p ∷ a) b A B h = (
  λ r m. ⊎_elim (λ u. A.0 r u) (λ u. h p r (Memᴰ.head refl) u) (Memᴰ.append_cases a m),
  rising-append a b A.1 B (λ x r m k. h x r (Memᴰ.tail m) k),
)

-- those that pass a test rise too
pub rising-keep : (test : Path → Bool) (ps : List Path) → Rising ps → Rising (keep test ps)
rising-keep test [] R = tt
rising-keep test (p ∷ ps) R = go (test p) (rising-keep test ps R.1)
  where
    go : (b : Bool) → Rising (keep test ps) → Rising (cond b (p ∷ keep test ps) (keep test ps))
    go true S = (λ r m. R.0 r (keep-mem test ps r m).0, S)
    go false S = S

-- a rising list is told by its members
pub rising_unique : (a b : List Path) → Rising a → Rising b → ((p : Path) → Memᴰ p a ↔ Memᴰ p b) → a ≡ b
rising_unique = sorted_unique (λ p r. Before (numbers p) (numbers r)) (λ p r. before-both (numbers p) (numbers r)) Rising (λ p ps R. R)

paths_append : (a b : List Entry) → paths_in (a ++ b) ≡ paths_in a ++ paths_in b
paths_append [] b = refl
paths_append (none ∷ a) b = paths_append a b
paths_append (some p ∷ a) b = ap (λ (l : List Path). p ∷ l) (paths_append a b)

-- a path of joined entries is one of either; r₀ stands in front
paths_cases : (r : Path) (a b : List Entry) → Memᴰ r (paths_in (a ++ b)) → Memᴰ r (paths_in a) ⊎ Memᴰ r (paths_in b)
paths_cases r a b m = Memᴰ.append_cases (paths_in a) (subst (λ (l : List Path). Memᴰ r l) (paths_append a b) m)

paths_left : (r r₀ : Path) (a b : List Entry) → Memᴰ r (r₀ ∷ paths_in a) → Memᴰ r (r₀ ∷ paths_in (a ++ b))
paths_left r r₀ a b m = subst (λ (l : List Path). Memᴰ r (r₀ ∷ l)) (sym (paths_append a b)) (Memᴰ.append_left (paths_in b) m)

paths_right : (r r₀ : Path) (a b : List Entry) → Memᴰ r (paths_in b) → Memᴰ r (r₀ ∷ paths_in (a ++ b))
paths_right r r₀ a b m = Memᴰ.tail (subst (λ (l : List Path). Memᴰ r l) (sym (paths_append a b)) (Memᴰ.append_right (paths_in a) m))

-- r goes on from the numbers l by an arc n or later
pub record Under (l : List ℕ) (n : ℕ) (r : Path) : Type 0 where
  pub next : ℕ
  pub rest : List ℕ
  pub is : numbers r ≡ l ++ (next ∷ rest)
  pub high : n ≤ next

under-less : (l : List ℕ) (n m : ℕ) (r : Path) → n ≤ m → Under l m r → Under l n r
under-less l n m r h U = record { next = U.next; rest = U.rest; is = U.is; high = (let k : m ≤ U.next = U.high in omega arith) }

deep_is : (l : List ℕ) (n m : ℕ) (r : Path) → Under (l ++ (n ∷ [])) m r → (rest : List ℕ) × (numbers r ≡ l ++ (n ∷ rest))
deep_is l n m r U = (U.next ∷ U.rest, U.is ∙ append_assoc l (n ∷ []) (U.next ∷ U.rest))

-- the path l n and those that go on from it stand before those that go on from l by a later arc
before-later : (l : List ℕ) (n : ℕ) (p r : Path) (rest : List ℕ) → numbers p ≡ l ++ (n ∷ rest) → Under l (suc n) r → Before (numbers p) (numbers r)
before-later l n p r rest e U =
    let k : n < U.next = U.high in
    subst₂ (λ (a b : List ℕ). Before a b) (sym e) (sym U.is) (before_same l (n ∷ rest) (U.next ∷ U.rest) (inl k))

before-under : (p r : Path) (m : ℕ) → Under (numbers p) m r → Before (numbers p) (numbers r)
before-under p r m U = subst (λ (b : List ℕ). Before (numbers p) b) (sym U.is) (go (numbers p))
  where
    go : (l : List ℕ) → Before l (l ++ (U.next ∷ U.rest))
    go [] = tt
    go (x ∷ l) = inr (refl, go l)

-- a segment: a path, what follows it, and what stands after, later by l's next number
pub record Segment (l : List ℕ) (n : ℕ) (ps : List Path) : Type 0 where
  pub rising : Rising ps
  pub under : (r : Path) → Memᴰ r ps → Under l n r

nothing : (l : List ℕ) (n : ℕ) → Segment l n []
nothing l n = record { rising = tt; under = λ r m. absurd (Memᴰ.not-nil m) }

joined : (l : List ℕ) (n : ℕ) (p : Path) → numbers p ≡ l ++ (n ∷ []) → (a b : List Path) → Segment (numbers p) 0 a → Segment l (suc n) b → Segment l n (p ∷ (a ++ b))
joined l n p e a b A B =
    record {
      rising = (
        λ r m. ⊎_elim (λ u. before-under p r 0 (A.under r u)) (λ u. before-later l n p r [] e (B.under r u)) (Memᴰ.append_cases a m),
        rising-append a b A.rising B.rising (λ x r m k. before-later l n x r (deep x m).0 (deep x m).1 (B.under r k)),
      );
      under = λ r m. ⊎_elim (λ u. subst (λ (x : Path). Under l n x) (sym u) here) (λ u. ⊎_elim (inside r) (later r) (Memᴰ.append_cases a u)) (Memᴰ.cases_cons m);
    }
  where
    here : Under l n p
    here = record { next = n; rest = []; is = e; high = omega arith }

    deep : (x : Path) → Memᴰ x a → (rest : List ℕ) × (numbers x ≡ l ++ (n ∷ rest))
    deep x m = deep_is l n 0 x (subst (λ (z : List ℕ). Under z 0 x) e (A.under x m))

    inside : (x : Path) → Memᴰ x a → Under l n x
    inside x m = record { next = n; rest = (deep x m).0; is = (deep x m).1; high = omega arith }

    later : (x : Path) → Memᴰ x b → Under l n x
    later x m = under-less l n (suc n) x (omega arith) (B.under x m)

module _ (M : Machine) where
  trail_segment : (g : Path → List Entry) (p : Path) → ((n : ℕ) → Segment (numbers (more p n)) 0 (paths_in (g (more p n)))) → (n k : ℕ) → Segment (numbers p) n (paths_in (trail M g p n k))
  trail_segment g p G n zero = nothing (numbers p) n
  trail_segment g p G n (suc k) = go (datum M (more p n)) (trail_segment g p G (suc n) k)
    where
      go : (o : Option M.D) → Segment (numbers p) (suc n) (paths_in (trail M g p (suc n) k)) → Segment (numbers p) n (paths_in (branch o g (more p n) (trail M g p (suc n) k)))
      go none B = record { rising = B.rising; under = λ r m. under-less (numbers p) n (suc n) r (omega arith) (B.under r m) }
      go (some d) B =
          subst (λ (l : List Path). Segment (numbers p) n (more p n ∷ l)) (sym (paths_append (g (more p n)) (trail M g p (suc n) k)))
          (joined (numbers p) n (more p n) refl (paths_in (g (more p n))) (paths_in (trail M g p (suc n) k)) (G n) B)

  following_segment : (c : ℕ) (p : Path) → Segment (numbers p) 0 (paths_in (following M c p))
  unfolding following
  following_segment zero p = nothing (numbers p) 0
  following_segment (suc c) p =
      let S = trail_segment (λ r. following M c r) p (λ n. following_segment c (more p n)) (M.first (final M p)) (M.arity (final M p)) in
      record { rising = S.rising; under = λ r m. under-less (numbers p) 0 (M.first (final M p)) r (omega arith) (S.under r m) }

  tour_segment : (c i k : ℕ) → Segment [] i (paths_in (tour_from M (following M c) i k))
  tour_segment c i zero = nothing [] i
  tour_segment c i (suc k) =
      subst (λ (l : List Path). Segment [] i (start i ∷ l)) (sym (paths_append (following M c (start i)) (tour_from M (following M c) (suc i) k)))
      (joined [] i (start i) refl (paths_in (following M c (start i))) (paths_in (tour_from M (following M c) (suc i) k)) (following_segment c (start i)) (tour_segment c (suc i) k))

  -- the paths of the tour stand in order
  pub tour-rising : Rising (paths_in (tour M))
  tour-rising = subst (λ (es : List Entry). Rising (paths_in es)) (sym (tour-is M)) (tour_segment M.limit 0 (length M.initials)).rising

  -- every path of the tour is allowed
  trail-allowed : (g : Path → List Entry) (p : Path) → Allowed M p → ((n : ℕ) → Allowed M (more p n) → (r : Path) → Memᴰ r (paths_in (g (more p n))) → Allowed M r)
      → (n k : ℕ) → M.first (final M p) ≤ n → n + k ≤ M.first (final M p) + M.arity (final M p) → (r : Path) → Memᴰ r (paths_in (trail M g p n k)) → Allowed M r
  trail-allowed g p A G n zero h j r m = absurd (Memᴰ.not-nil m)
  trail-allowed g p A G n (suc k) h j r m = go (datum M (more p n)) refl (λ x. trail-allowed g p A G (suc n) k (omega arith) (omega arith) r x) m
    where
      go : (o : Option M.D) → datum M (more p n) ≡ o → (Memᴰ r (paths_in (trail M g p (suc n) k)) → Allowed M r)
          → Memᴰ r (paths_in (branch o g (more p n) (trail M g p (suc n) k))) → Allowed M r
      go none e B x = B x
      go (some d) e B x =
          let here : Allowed M (more p n) = (A, (h, omega arith), (d, e)) in
          ⊎_elim (λ u. subst (λ (z : Path). Allowed M z) (sym u) here)
          (λ u. ⊎_elim (G n here r) B (paths_cases r (g (more p n)) (trail M g p (suc n) k) u))
          (Memᴰ.cases_cons x)

  following-allowed : (c : ℕ) (p : Path) → Allowed M p → (r : Path) → Memᴰ r (paths_in (following M c p)) → Allowed M r
  unfolding following
  following-allowed zero p A r m = absurd (Memᴰ.not-nil m)
  following-allowed (suc c) p A r m =
      trail-allowed (λ x. following M c x) p A (λ n B. following-allowed c (more p n) B) (M.first (final M p)) (M.arity (final M p)) (omega arith) (omega arith) r m

  tour-allowed : (c i k : ℕ) → i + k ≤ length M.initials → (r : Path) → Memᴰ r (paths_in (tour_from M (following M c) i k)) → Allowed M r
  tour-allowed c i zero h r m = absurd (Memᴰ.not-nil m)
  tour-allowed c i (suc k) h r m =
      let here : i < length M.initials = omega arith in
      ⊎_elim (λ u. subst (λ (z : Path). Allowed M z) (sym u) here)
      (λ u. ⊎_elim (following-allowed c (start i) here r) (tour-allowed c (suc i) k (omega arith) r) (paths_cases r (following M c (start i)) (tour_from M (following M c) (suc i) k) u))
      (Memᴰ.cases_cons m)

  -- every path that is allowed is in the tour, with all that follows it
  trail-holds : (g : Path → List Entry) (p : Path) (n : ℕ) (d : M.D) → datum M (more p n) ≡ some d → (i k : ℕ) → i ≤ n → n < i + k
      → (r : Path) → Memᴰ r (more p n ∷ paths_in (g (more p n))) → Memᴰ r (paths_in (trail M g p i k))
  trail-holds g p n d e i zero h j r m = absurd (omega arith)
  trail-holds g p n d e i (suc k) h j r m = by_place (eqb i n) refl (λ x. trail-holds g p n d e (suc i) k x (omega arith) r m)
    where
      later : (o : Option M.D) → Memᴰ r (paths_in (trail M g p (suc i) k)) → Memᴰ r (paths_in (branch o g (more p i) (trail M g p (suc i) k)))
      later none x = x
      later (some c) x = paths_right r (more p i) (g (more p i)) (trail M g p (suc i) k) x

      now : (o : Option M.D) → o ≡ some d → Memᴰ r (paths_in (branch o g (more p n) (trail M g p (suc n) k)))
      now none x = absurd (let z : ◌≡◌ {A = ℕ} 0 1 = cc in omega arith)
      now (some c) x = paths_left r (more p n) (g (more p n)) (trail M g p (suc n) k) m

      by_place : (b : Bool) → eqb i n ≡ b → (suc i ≤ n → Memᴰ r (paths_in (trail M g p (suc i) k))) → Memᴰ r (paths_in (branch (datum M (more p i)) g (more p i) (trail M g p (suc i) k)))
      by_place true x B = subst (λ (j : ℕ). Memᴰ r (paths_in (branch (datum M (more p j)) g (more p j) (trail M g p (suc j) k)))) (sym (eqb-true i n x)) (now (datum M (more p n)) e)
      by_place false x B = later (datum M (more p i)) (B (let y : i ≡ n → ⊥ = eqb-false i n x in omega arith))

  tour-holds : (g : Path → List Entry) (n i k : ℕ) → i ≤ n → n < i + k → (r : Path) → Memᴰ r (start n ∷ paths_in (g (start n))) → Memᴰ r (paths_in (tour_from M g i k))
  tour-holds g n i zero h j r m = absurd (omega arith)
  tour-holds g n i (suc k) h j r m = by_place (eqb i n) refl (λ x. tour-holds g n (suc i) k x (omega arith) r m)
    where
      by_place : (b : Bool) → eqb i n ≡ b → (suc i ≤ n → Memᴰ r (paths_in (tour_from M g (suc i) k))) → Memᴰ r (start i ∷ paths_in (g (start i) ++ tour_from M g (suc i) k))
      by_place true x B = paths_left r (start i) (g (start i)) (tour_from M g (suc i) k) (subst (λ (j : ℕ). Memᴰ r (start j ∷ paths_in (g (start j)))) (sym (eqb-true i n x)) m)
      by_place false x B = paths_right r (start i) (g (start i)) (tour_from M g (suc i) k) (B (let y : i ≡ n → ⊥ = eqb-false i n x in omega arith))

  whole_in : Bounded M → (p : Path) → Allowed M p → (r : Path) → Memᴰ r (p ∷ paths_in (after M p)) → Memᴰ r (paths_in (tour_from M (after M) 0 (length M.initials)))
  whole_in B (start i) A r m = tour-holds (after M) i 0 (length M.initials) (omega arith) (omega arith) r m
  whole_in B (more p n) A r m =
      whole_in B p A.0 r
      (Memᴰ.tail (subst (λ (es : List Entry). Memᴰ r (paths_in es)) (sym (unrolls M B p A.0))
      (trail-holds (after M) p n A.2.0 A.2.1 (M.first (final M p)) (M.arity (final M p)) A.1.0 A.1.1 r m)))

  pub tour_paths : Bounded M → (p : Path) → Memᴰ p (paths_in (tour M)) ↔ Allowed M p
  unfolding tour
  tour_paths B p = (
    λ m. tour-allowed M.limit 0 (length M.initials) (omega arith) p (subst (λ (es : List Entry). Memᴰ p (paths_in es)) (tour-is M) m),
    λ A. whole_in B p A p (Memᴰ.head refl),
  )

  -- the paths that the search tree is counted by are those of the tour
  longer-same : (g : Path → List Entry) (h : Path → List Path) (p : Path) → Allowed M p → ((n : ℕ) → Allowed M (more p n) → more p n ∷ paths_in (g (more p n)) ≡ h (more p n))
      → (n k : ℕ) → M.first (final M p) ≤ n → n + k ≤ M.first (final M p) + M.arity (final M p) → paths_in (trail M g p n k) ≡ longer M h p n k
  longer-same g h p A e n zero i j = refl
  longer-same g h p A e n (suc k) i j = go (datum M (more p n)) refl (longer-same g h p A e (suc n) k (omega arith) (omega arith))
    where
      go : (o : Option M.D) → datum M (more p n) ≡ o → paths_in (trail M g p (suc n) k) ≡ longer M h p (suc n) k
          → paths_in (branch o g (more p n) (trail M g p (suc n) k)) ≡ nodes_if o (h (more p n)) (longer M h p (suc n) k)
      go none d r = r
      go (some x) d r =
          ap (λ (l : List Path). more p n ∷ l) (paths_append (g (more p n)) (trail M g p (suc n) k))
          ∙ ap₂ (λ (a b : List Path). a ++ b) (e n (A, (i, omega arith), (x, d))) r

  from-same : Bounded M → (c : ℕ) (p : Path) → Allowed M p → M.limit ≤ c + size p → p ∷ paths_in (following M c p) ≡ paths_from M c p
  unfolding following
  from-same B zero p A h = absurd (omega (arith, B p A))
  from-same B (suc c) p A h =
      ap (λ (l : List Path). p ∷ l)
      (longer-same (λ r. following M c r) (λ r. paths_from M c r) p A (λ n a. from-same B c (more p n) a (omega arith)) (M.first (final M p)) (M.arity (final M p)) (omega arith) (omega arith))

  of_same : Bounded M → (i k : ℕ) → i + k ≤ length M.initials → paths_in (tour_from M (following M M.limit) i k) ≡ paths_of M M.limit i k
  of_same B i zero h = refl
  of_same B i (suc k) h =
      ap (λ (l : List Path). start i ∷ l) (paths_append (following M M.limit (start i)) (tour_from M (following M M.limit) (suc i) k))
      ∙ ap₂ (λ (a b : List Path). a ++ b) (from-same B M.limit (start i) (omega arith) (omega arith)) (of_same B (suc i) k (omega arith))

  pub paths_listed : Bounded M → ListsAllowed M (allowed_paths M)
  paths_listed B = subst (λ (l : List Path). ListsAllowed M l) (ap paths_in (tour-is M) ∙ of_same B 0 (length M.initials) (omega arith)) (record { rising = tour-rising; members = tour_paths B })

  -- the readings are the outputs of the accepting paths
  pub readings-outputs : (es : List Entry) → readings M es ≡ outputs M (accepting M (paths_in es))
  unfolding readings
  readings-outputs [] = refl
  readings-outputs (none ∷ es) = readings-outputs es
  readings-outputs (some p ∷ es) = go (accepts M p) (readings-outputs es)
    where
      go : (b : Bool) → readings M es ≡ outputs M (accepting M (paths_in es)) → reading_if M b (output M p) ++ readings M es ≡ outputs M (cond b (p ∷ accepting M (paths_in es)) (accepting M (paths_in es)))
      go true e = ap (λ (l : List (List ℕ)). output M p ∷ l) e
      go false e = e

  -- The tour lists the accepting paths, and there is no other list of them.
  pub tour_lists : Bounded M → Lists M (accepting M (paths_in (tour M)))
  tour_lists B =
      record {
        rising = rising-keep (accepts M) (paths_in (tour M)) tour-rising;
        members = λ p. (
          λ m. let x = keep-mem (accepts M) (paths_in (tour M)) p m in ((tour_paths B p).0 x.0, x.1),
          λ m. mem-keep (accepts M) (paths_in (tour M)) p ((tour_paths B p).1 m.0) m.1,
        );
      }

  pub lists_same : (a b : List Path) → Lists M a → Lists M b → a ≡ b
  lists_same a b A B = rising_unique a b A.rising B.rising (λ p. (λ m. (B.members p).1 ((A.members p).0 m), λ m. (A.members p).1 ((B.members p).0 m)))
