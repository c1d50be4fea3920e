-- The computed cycle is the one to be shown: there is one exactly where a reached state is on a cycle, there is only one, and none stands
-- in it twice.
use Prim.Native.Nat.{ℕ, zero, suc, ◌≤◌}
use native.Mathlib.Omega.{arith}
use mathlib.Core.Path.{◌≡◌, refl, sym, ap, subst, ◌∙◌}
use mathlib.Core.Logic.{⊎_elim, ◌↔◌}
use mathlib.Core.Bool.{Bool, true, false, ◌&&◌, true≢false}
use mathlib.Core.List.{List, [], ◌∷◌, Memᴰ}
use lib.ListN.{length}
use Rattle.table_format.proofs.Tests.{and_left, and_right, and_both}
use Rattle.table_format.proofs.Any.{any_found, any-mem}
use Rattle.graph.specs.Lists.{Distinct, AllBelow, member, up_to, lowest}
use Rattle.graph.specs.Walk.{Through, Walk, CycleStates, Among, Decides}
use Rattle.graph.specs.Cycle.{enough, back_in, back_after, on_cycle}
use Rattle.graph.specs.Reached.{Reached, NoReachedCycle, ReachedCycle, reached}
use Rattle.graph.specs.Shown.{FirstCycle, ShownFrom, Shown, next_through, first_through, cycle_from, looped, has_reached_cycle, shown_cycle}
use Rattle.graph.proofs.Lists.{member-mem, mem-member, up_to-mem, mem-up_to, Lowest, lowest-is, before_trans, before-never}
use Rattle.graph.proofs.Walk.{WalkThrough, through-map, walk-map, freed, walk-below}
use Rattle.graph.proofs.Cycle.{back-steps, steps_back, walk-on}
use Rattle.graph.proofs.Reached.{reached-map, reached-is}
use Rattle.graph.proofs.First.{Traced, traced_through, traced_first}

-- Only one, and none twice.
pub first-only : (E : ℕ → ℕ → Type 0) (s : ℕ) (l k : List ℕ) → FirstCycle E s l → FirstCycle E s k → l ≡ k
first-only E s l k P Q =
    let h : length k ≡ length l = omega (arith, P.shortest k Q.closed, Q.shortest l P.closed) in
    ⊎_elim sym (λ u. ⊎_elim (λ v. v) (λ v. absurd (before-never l (before_trans l k l u v))) (Q.first l P.closed (sym h))) (P.first k Q.closed h)

first-distinct : (E : ℕ → ℕ → Type 0) (s : ℕ) (l : List ℕ) → FirstCycle E s l → CycleStates E (s ∷ l)
first-distinct E s l P =
    let F = freed E s l s P.closed in
    (P.closed, ⊎_elim (λ u. subst (λ (x : List ℕ). Distinct (s ∷ x)) u F.distinct) (λ u. absurd (let h : length l ≤ length F.states = P.shortest F.states F.leads in omega arith)) F.no_longer)

module _ (A E : ℕ → ℕ → Type 0) (starts : List ℕ) where
  pub shown-only : (c d : List ℕ) → Shown A E starts c → Shown A E starts d → c ≡ d
  shown-only [] d P Q = absurd P
  shown-only (s ∷ l) [] P Q = absurd Q
  shown-only (s ∷ l) (r ∷ k) P Q =
      let h : r ≡ s = omega (arith, P.lowest-state r Q.is-reached (k, Q.cycle.closed), Q.lowest-state s P.is-reached (l, P.cycle.closed)) in
      let Q' : FirstCycle E s k = subst (λ (x : ℕ). FirstCycle E x k) h Q.cycle in
      rw h (ap (λ (x : List ℕ). s ∷ x) (first-only E s l k P.cycle Q'))

  pub shown-distinct : (c : List ℕ) → Shown A E starts c → CycleStates E c
  shown-distinct [] P = absurd P
  shown-distinct (s ∷ l) P = first-distinct E s l P.cycle

  -- so it is a cycle that is reached
  pub shown_cycle_lem : (c : List ℕ) → Shown A E starts c → ReachedCycle A E starts c
  shown_cycle_lem [] P = P
  shown_cycle_lem (s ∷ l) P = (P.is-reached, shown-distinct (s ∷ l) P)

-- the same of another graph that has the same starts and edges
module _ {A E B F : ℕ → ℕ → Type 0} {starts others : List ℕ} (same : (s : ℕ) → Memᴰ s starts ↔ Memᴰ s others) (to : (s r : ℕ) → A s r ↔ B s r) (on : (s r : ℕ) → E s r ↔ F s r) where
  pub shown-map : (c : List ℕ) → Shown A E starts c → Shown B F others c
  shown-map [] P = P
  shown-map (s ∷ l) P =
      record {
        is-reached = reached-map (λ x. (same x).0) (λ x y. (to x y).0) P.is-reached;
        lowest-state = λ r R w. P.lowest-state r (reached-map (λ x. (same x).1) (λ x y. (to x y).1) R) (walk-map (λ x y. (on x y).1) r r w);
        cycle =
            record {
              closed = through-map (λ x y. (on x y).0) s l s P.cycle.closed;
              shortest = λ k T. P.cycle.shortest k (through-map (λ x y. (on x y).1) s k s T);
              first = λ k T. P.cycle.first k (through-map (λ x y. (on x y).1) s k s T);
            };
      }

-- The first walk of m states from x to s.
module _ (E : ℕ → ℕ → Type 0) (e : ℕ → ℕ → Bool) (n : ℕ) (D : Decides E e) (G : Among E n) (s : ℕ) where
  abbrev goes_on : ℕ → ℕ → ℕ → Bool
  goes_on m x y = e x y && member y (back_in e n s m)

  abbrev FirstIs : ℕ → ℕ → Type 0
  FirstIs m x = Traced E s x (first_through e n s m x) × (length (first_through e n s m x) ≡ m)

  first_step : (m x y : ℕ) → Lowest (goes_on m x) n y → FirstIs m y → Traced E s x (y ∷ first_through e n s m y) × (suc (length (first_through e n s m y)) ≡ suc m)
  first_step m x y L F = (
    (
      record {
        edge = (D x y).0 (and_left (e x y) (member y (back_in e n s m)) L.passes);
        lowest = λ z g S. L.least z (and_both ((D x z).1 g) (mem-member z (back_in e n s m) (steps_back E e n D G s m z (subst (λ (i : ℕ). WalkThrough E s i z) F.1 S))));
      },
      F.0,
    ),
    ap suc F.1,
  )

  first-is : (m x : ℕ) → WalkThrough E s m x → FirstIs m x
  first-is zero x S = (go S.0 S.1 S.2, refl)
    where
      go : (l : List ℕ) → Through E x l s → length l ≡ 0 → E x s
      go [] T h = T
      go (y ∷ l) T h = absurd (omega arith)
  first-is (suc m) x S = go S.0 S.1 S.2 (λ y Y. first-is m y Y)
    where
      go : (l : List ℕ) → Through E x l s → length l ≡ suc m → ((y : ℕ) → WalkThrough E s m y → FirstIs m y) → FirstIs (suc m) x
      go [] T h r = absurd (omega arith)
      go (z ∷ l) T h r =
          let y = next_through e n s m x in
          let L : Lowest (goes_on m x) n (next_through e n s m x) = lowest-is (goes_on m x) n z (G x z T.0).1 (and_both ((D x z).1 T.0) (mem-member z (back_in e n s m) (steps_back E e n D G s m z (l, T.1, omega arith)))) in
          first_step m x y L (r y (back-steps E e n D s m y (member-mem y (back_in e n s m) (and_right (e x y) (member y (back_in e n s m)) L.passes))))

  -- on a cycle, the length of the shortest, and the first of it
  module _ (h : on_cycle e n s ≡ true) where
    abbrev size : ℕ
    size = lowest (back_after e n s) n

    least_size : Lowest (back_after e n s) n size
    least_size = let R = any_found (back_after e n s) (enough n) h in lowest-is (back_after e n s) n R.0 (mem-up_to n R.0 R.1) R.2

    of_size : FirstIs size s
    of_size = first-is size s (back-steps E e n D s size s (member-mem s (back_in e n s size) least_size.passes))

    no_shorter : (k : List ℕ) → Through E s k s → size ≤ length k
    no_shorter k T = least_size.least (length k) (mem-member s (back_in e n s (length k)) (steps_back E e n D G s (length k) s (k, T, refl)))

    first-cycle : FirstCycle E s (first_through e n s size s)
    first-cycle =
        record {
          closed = traced_through E s s (first_through e n s size s) of_size.0;
          shortest = λ k T. omega (arith, of_size.1, no_shorter k T);
          first = traced_first E s s (first_through e n s size s) of_size.0;
        }

  -- the computed one is the only one
  pub cycle_from_lem : (l : List ℕ) → FirstCycle E s l → cycle_from e n s ≡ s ∷ l
  cycle_from_lem l F = ap (λ (x : List ℕ). s ∷ x) (first-only E s (first_through e n s (lowest (back_after e n s) n) s) l (first-cycle (walk-on E e n D G s (l, F.closed))) F)

-- tests tell the edges, which lead among the states below n, and the starts are such states
pub record Tested (A E : ℕ → ℕ → Type 0) (a e : ℕ → ℕ → Bool) (n : ℕ) (starts : List ℕ) : Type 0 where
  pub reach_told : Decides A a
  pub cycle-told : Decides E e
  pub reach_among : Among A n
  pub cycle-among : Among E n
  pub starts-below : AllBelow n starts

module _ {A E : ℕ → ℕ → Type 0} {a e : ℕ → ℕ → Bool} {n : ℕ} {starts : List ℕ} (G : Tested A E a e n starts) where
  reached-told : (s : ℕ) → Memᴰ s (reached a n starts) ↔ Reached A starts s
  reached-told = reached-is A a n starts G.reach_told G.reach_among G.starts-below

  on_cycle_lem : (s : ℕ) → Walk E s s → on_cycle e n s ≡ true
  on_cycle_lem = walk-on E e n G.cycle-told G.cycle-among

  first-told : (s : ℕ) → on_cycle e n s ≡ true → FirstCycle E s (first_through e n s (lowest (back_after e n s) n) s)
  first-told = first-cycle E e n G.cycle-told G.cycle-among

  looped-true : (s : ℕ) → Reached A starts s → Walk E s s → looped a e n starts s ≡ true
  looped-true s R w = and_both (mem-member s (reached a n starts) ((reached-told s).1 R)) (on_cycle_lem s w)

  has : (s : ℕ) → Reached A starts s → Walk E s s → has_reached_cycle a e n starts ≡ true
  has s R w = any-mem (looped a e n starts) (up_to n) s (up_to-mem n s (walk-below E n G.cycle-among s s w)) (looped-true s R w)

  from_is : (s : ℕ) → Lowest (looped a e n starts) n s → ShownFrom A E starts s (first_through e n s (lowest (back_after e n s) n) s)
  from_is s L =
      record {
        is-reached = (reached-told s).0 (member-mem s (reached a n starts) (and_left (member s (reached a n starts)) (on_cycle e n s) L.passes));
        lowest-state = λ r R w. L.least r (looped-true r R w);
        cycle = first-told s (and_right (member s (reached a n starts)) (on_cycle e n s) L.passes);
      }

  -- where the test says so, the computed cycle is the one to be shown, and else there is none
  pub shown-test : has_reached_cycle a e n starts ≡ true → Shown A E starts (shown_cycle a e n starts)
  unfolding shown_cycle
  shown-test h =
      let R = any_found (looped a e n starts) (up_to n) h in
      rw h (from_is (lowest (looped a e n starts) n) (lowest-is (looped a e n starts) n R.0 (mem-up_to n R.0 R.1) R.2))

  pub none-test : has_reached_cycle a e n starts ≡ false → NoReachedCycle A E starts × (shown_cycle a e n starts ≡ [])
  unfolding shown_cycle
  none-test h = (λ s R w. true≢false (sym (has s R w) ∙ h), rw h)

  pub shown-none : NoReachedCycle A E starts → shown_cycle a e n starts ≡ []
  shown-none N = go (has_reached_cycle a e n starts) refl
    where
      clash : (c : List ℕ) → ReachedCycle A E starts c → ⊥
      clash [] C = C
      clash (s ∷ l) C = N s C.0 (l, C.1.0)

      go : (b : Bool) → has_reached_cycle a e n starts ≡ b → shown_cycle a e n starts ≡ []
      go true h = absurd (clash (shown_cycle a e n starts) (shown_cycle_lem A E starts (shown_cycle a e n starts) (shown-test h)))
      go false h = (none-test h).1

  -- whatever is to be shown is what is computed
  pub shown_equal : (c : List ℕ) → Shown A E starts c → shown_cycle a e n starts ≡ c
  shown_equal [] P = absurd P
  shown_equal (s ∷ l) P = shown-only A E starts (shown_cycle a e n starts) (s ∷ l) (shown-test (has s P.is-reached (l, P.cycle.closed))) P

  -- from the lowest reached state on a cycle it is the one through that state
  pub shown-through : (s : ℕ) → Reached A starts s → Walk E s s → ((r : ℕ) → Reached A starts r → Walk E r r → s ≤ r) → shown_cycle a e n starts ≡ cycle_from e n s
  shown-through s R w low = shown_equal (cycle_from e n s) (record { is-reached = R; lowest-state = low; cycle = first-told s (on_cycle_lem s w) })
