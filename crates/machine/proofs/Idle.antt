-- The test for an idle cycle that is reached is right, and where it says so the computed cycle is the one to be shown. Recognition has no idle cycle that
-- another task has not, and tables whose arcs are idle alike have the same ones.
use Prim.Native.Nat.{ℕ, ◌<◌}
use native.Mathlib.Omega.{arith}
use mathlib.Core.Path.{◌≡◌, refl, sym, subst, ◌∙◌}
use mathlib.Core.Logic.{◌↔◌}
use mathlib.Core.Bool.{Bool, true, false, ◌&&◌, ◌||◌}
use mathlib.Core.List.{List, [], ◌∷◌, map, Memᴰ}
use lib.ListN.{length}
use lib.Dec.{eqb}
use borrow.Author.Tests.{eqb-true, eq-eqb}
use Rattle.table_format.specs.Table.{Arc, Table}
use Rattle.table_format.proofs.Tests.{and_left, and_right, and_both}
use Rattle.table_format.proofs.Any.{any_found, any-mem}
use Rattle.table_format.proofs.Ruled.{Ruled}
use Rattle.graph.specs.Walk.{Among, Decides}
use Rattle.graph.specs.Shown.{has_reached_cycle, shown_cycle}
use Rattle.graph.proofs.Walk.{walk-map}
use Rattle.graph.proofs.Reached.{cycle-reached}
use Rattle.graph.proofs.Shown as graphs
use Rattle.machine.specs.Query.{Task, recognition, upper_side, lower_side, reads}
use Rattle.machine.specs.Idle.{side_idle, idle, Leads, leads_by, always, AnyArc, StateReached, IdleArc, IdleWalk, NoIdleCycle, CycleStates, has_idle_cycle, ShownIdle, shown_idle}

-- the test tells the arcs
pub tells : (arcs : List Arc) (test : Arc → Bool) → Decides (Leads arcs test) (leads_by arcs test)
tells arcs test s r = (
  λ e. let R = any_found (λ a. test a && (eqb a.source s && eqb a.target r)) arcs e in
      let a : Arc = R.0 in
      let h : (eqb a.source s && eqb a.target r) ≡ true = and_right (test a) (eqb a.source s && eqb a.target r) R.2 in
      record {
        arc = a;
        listed = R.1;
        from = eqb-true _ _ (and_left (eqb a.source s) (eqb a.target r) h);
        to = eqb-true _ _ (and_right (eqb a.source s) (eqb a.target r) h);
        passes = and_left (test a) (eqb a.source s && eqb a.target r) R.2;
      },
  λ A. any-mem (λ a. test a && (eqb a.source s && eqb a.target r)) arcs A.arc A.listed (and_both A.passes (and_both (eq-eqb _ _ A.from) (eq-eqb _ _ A.to))),
)

-- arcs lead among the states
pub among : (t : Table) → Ruled t → (test : Arc → Bool) → Among (Leads t.arcs test) t.states
among t U test s r A = (
  subst (λ (x : ℕ). x < t.states) A.from (U.source_in A.arc A.listed),
  subst (λ (x : ℕ). x < t.states) A.to (U.target_in A.arc A.listed),
)

-- an arc that passes a test is an arc
pub any-arc : {arcs : List Arc} {test : Arc → Bool} (s r : ℕ) → Leads arcs test s r → AnyArc arcs s r
any-arc s r A = record { arc = A.arc; listed = A.listed; from = A.from; to = A.to; passes = refl }

-- and one of another list that has all arcs of the first
leads-map : {arcs others : List Arc} {test : Arc → Bool} → ((a : Arc) → Memᴰ a arcs → Memᴰ a others) → (s r : ℕ) → Leads arcs test s r → Leads others test s r
leads-map i s r A = record { arc = A.arc; listed = i A.arc A.listed; from = A.from; to = A.to; passes = A.passes }

leads-same : {arcs others : List Arc} {test : Arc → Bool} → ((a : Arc) → Memᴰ a arcs ↔ Memᴰ a others) → (s r : ℕ) → Leads arcs test s r ↔ Leads others test s r
leads-same f s r = (leads-map (λ a. (f a).0) s r, leads-map (λ a. (f a).1) s r)

module _ (t : Table) (k : Task) where
  pub told-reached : (c : List ℕ) → CycleStates t k c → (s : ℕ) → Memᴰ s c → StateReached t s
  told-reached = cycle-reached (AnyArc t.arcs) (IdleArc t k) t.initials any-arc

  -- only one is to be shown, and its states are those of an idle cycle that is reached, none twice
  pub shown-only : (c d : List ℕ) → ShownIdle t k c → ShownIdle t k d → c ≡ d
  shown-only = graphs.shown-only (AnyArc t.arcs) (IdleArc t k) t.initials

  pub shown-states : (c : List ℕ) → ShownIdle t k c → CycleStates t k c
  shown-states = graphs.shown_cycle_lem (AnyArc t.arcs) (IdleArc t k) t.initials

  -- so a reached state is on one, and there is a state to tell
  pub shown-walk : (c : List ℕ) → ShownIdle t k c → (s : ℕ) × StateReached t s × IdleWalk t k s s
  shown-walk [] C = absurd C
  shown-walk (s ∷ l) C = (s, C.is-reached, (l, C.cycle.closed))

  pub shown-some : (c : List ℕ) → ShownIdle t k c → length c ≡ 0 → ⊥
  shown-some [] C e = C
  shown-some (s ∷ l) C e = omega arith

  module _ (U : Ruled t) where
    tested : graphs.Tested (AnyArc t.arcs) (IdleArc t k) (leads_by t.arcs always) (leads_by t.arcs (idle k)) t.states t.initials
    tested =
        record {
          reach_told = tells t.arcs always;
          cycle-told = tells t.arcs (idle k);
          reach_among = among t U always;
          cycle-among = among t U (idle k);
          starts-below = U.initial_in;
        }

    pub shown-there : has_idle_cycle t k ≡ true → ShownIdle t k (shown_idle t k)
    unfolding has_idle_cycle
    shown-there = graphs.shown-test tested

    by-none : has_idle_cycle t k ≡ false → NoIdleCycle t k × (shown_idle t k ≡ [])
    unfolding has_idle_cycle
    by-none = graphs.none-test tested

    pub shown-none : has_idle_cycle t k ≡ false → shown_idle t k ≡ []
    shown-none e = (by-none e).1

    -- whatever is to be shown is what is computed
    pub shown-is : (c : List ℕ) → ShownIdle t k c → shown_idle t k ≡ c
    shown-is = graphs.shown_equal tested

    pub none_found : has_idle_cycle t k ≡ false → NoIdleCycle t k
    none_found e = (by-none e).0

    pub cycle-there : (x : ℕ) → StateReached t x → IdleWalk t k x x → has_idle_cycle t k ≡ true
    cycle-there x R w = go (has_idle_cycle t k) refl
      where
        go : (b : Bool) → has_idle_cycle t k ≡ b → b ≡ true
        go true e = refl
        go false e = absurd (none_found e x R w)

    pub none-there : NoIdleCycle t k → has_idle_cycle t k ≡ false
    none-there N = go (has_idle_cycle t k) refl
      where
        go : (b : Bool) → has_idle_cycle t k ≡ b → b ≡ false
        go true e = absurd (let W = shown-walk (shown_idle t k) (shown-there e) in N W.0 W.1 W.2)
        go false e = refl

-- Tables with the same initial states and the same arcs, in any order, show the same cycle.
shown_too : (t u : Table) → ((s : ℕ) → Memᴰ s t.initials ↔ Memᴰ s u.initials) → ((a : Arc) → Memᴰ a t.arcs ↔ Memᴰ a u.arcs) → (k : Task) (c : List ℕ)
    → ShownIdle t k c → ShownIdle u k c
shown_too t u i f k = graphs.shown-map i (leads-same f) (leads-same f)

module _ (t u : Table) (U : Ruled t) (O : Ruled u) (i : (s : ℕ) → Memᴰ s t.initials ↔ Memᴰ s u.initials) (f : (a : Arc) → Memᴰ a t.arcs ↔ Memᴰ a u.arcs) (k : Task) where
  pub same-shown : shown_idle t k ≡ shown_idle u k
  same-shown = go (has_idle_cycle t k) (has_idle_cycle u k) refl refl
    where
      go : (a b : Bool) → has_idle_cycle t k ≡ a → has_idle_cycle u k ≡ b → shown_idle t k ≡ shown_idle u k
      go true b h g = sym (shown-is u k O (shown_idle t k) (shown_too t u i f k (shown_idle t k) (shown-there t k U h)))
      go false true h g = shown-is t k U (shown_idle u k) (shown_too u t (λ s. ((i s).1, (i s).0)) (λ a. ((f a).1, (f a).0)) k (shown_idle u k) (shown-there u k O g))
      go false false h g = shown-none t k U h ∙ sym (shown-none u k O g)

-- An arc that is idle for recognition is so for any task: where a task has no idle cycle that is reached, recognition has none.

idle-any : (k : Task) (a : Arc) → idle recognition a ≡ true → idle k a ≡ true
idle-any k a e =
    and_both (side (reads k upper_side) a.upper (and_left (side_idle true a.upper) (side_idle true a.lower) e)) (side (reads k lower_side) a.lower (and_right (side_idle true a.upper) (side_idle true a.lower) e))
  where
    side : (r : Bool) (x : ℕ) → side_idle true x ≡ true → side_idle r x ≡ true
    side true x h = h
    side false x h = refl

pub recognition_none : (t : Table) (k : Task) → NoIdleCycle t k → NoIdleCycle t recognition
recognition_none t k none s R w = none s R (walk-map (λ x y L. record { arc = L.arc; listed = L.listed; from = L.from; to = L.to; passes = idle-any k L.arc L.passes }) s s w)

-- A table whose arcs are another's under f, which keeps sources and targets: where f a is idle for j exactly when a is for k, the idle cycles are the
-- same.
module _ (t : Table) (f : Arc → Arc) (j k : Task) (from : (a : Arc) → (f a).source ≡ a.source) (to : (a : Arc) → (f a).target ≡ a.target) (same : (a : Arc) → idle j (f a) ≡ idle k a) where
  abbrev made : Table
  made = record { states = t.states; classes = t.classes; initials = t.initials; terminals = t.terminals; arcs = map f t.arcs }

  leads-made : (test other : Arc → Bool) → ((a : Arc) → other (f a) ≡ test a) → (l : List Arc) (s r : ℕ) → leads_by (map f l) other s r ≡ leads_by l test s r
  leads-made test other h [] s r = refl
  leads-made test other h (a ∷ l) s r =
      λ i. (h a i && (eqb (from a i) s && eqb (to a i) r)) || leads-made test other h l s r i

  pub cycle-made : has_idle_cycle made j ≡ has_idle_cycle t k
  unfolding has_idle_cycle
  cycle-made = λ i. has_reached_cycle (λ s r. leads-made always always (λ a. refl) t.arcs s r i) (λ s r. leads-made (idle k) (idle j) same t.arcs s r i) t.states t.initials

  pub shown-made : shown_idle made j ≡ shown_idle t k
  shown-made = λ i. shown_cycle (λ s r. leads-made always always (λ a. refl) t.arcs s r i) (λ s r. leads-made (idle k) (idle j) same t.arcs s r i) t.states t.initials
