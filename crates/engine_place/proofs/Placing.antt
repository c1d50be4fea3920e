-- Refusal 21: the tests of the code on the frames, from the bottom up, are those of the definition, from the top down.
use Prim.Native.Nat.{ℕ, zero, suc, pred, ◌+◌, ◌-◌, ◌*◌, ◌<◌, ◌≤◌}
use native.Mathlib.Omega.{arith}
use mathlib.Core.Path.{◌≡◌, refl, sym, ap, ap₂, subst, ◌∙◌}
use mathlib.Core.Bool.{Bool, true, false, cond, ◌&&◌, ◌||◌, and-true, and-false, or-false}
use mathlib.Core.Option.{Option, none, some}
use mathlib.Core.List.{List, [], ◌∷◌}
use lib.Dec.{eqb, ltb, leb}
use lib.ListN.{length, get_or}
use borrow.Author.Tests.{eqb-true, ne_eqb, ltb-true, ltb-false, leb-false, lt-ltb, le-ltb, le-leb, lt-leb}
use Rattle.table_format.proofs.Tests.{and_left, and_right, and_both, or_left, or_right}
use Rattle.table_format.specs.Table.{Arc, Table, no_arc}
use Rattle.table_format.specs.Classes.{first_class, is_plain}
use Rattle.table_format.specs.Index.{below}
use Rattle.table_format.specs.Cells.{arc_count, arc_of, arcs_as}
use Rattle.machine.specs.Query.{Query, upper_side}
use Rattle.machine.specs.Machine.{Machine, bind, somewhen, tested}
use Rattle.machine.specs.Frames as F
use Rattle.machine.specs.Frames.{frames_of, next_holds, bottom_holds, link_holds, chain_holds, frames_hold, place_holds}
use Rattle.machine.specs.Transducer.{arc_at, Passed, follow_at, plain_machine, penalty_at, machine}
use Rattle.machine.specs.Stack.{frame_width, room_in, look_at, store}
use Rattle.machine.proofs.Ceiling.{chain-ceiling}
use Rattle.machine.proofs.Frames.{frames-length, place-placed}
use Rattle.machine.specs.Place.{Placed}
use Rattle.machine.proofs.Range.{below-rises, InRange, in_range}
use Rattle.machine.proofs.Stack.{same-is}
use Rattle.machine.proofs.Transducer.{at_mem}
use Rattle.engine_frames.specs.declared.Setup.{Setup}
use Rattle.engine_frames.specs.declared.Frame.{Frame}
use Rattle.engine_frames.specs.Frames.{frame_of}
use Rattle.engine_frames.specs.Sides.{passed_of, follow_by, follow_in, class_fits}
use Rattle.engine_frames.proofs.Narrowing.{plain-followed, class_followed}
use Rattle.engine_step.specs.Setting.{Alike, query_by, table_by, machine_by, held, Prepared}
use Rattle.engine_place.specs.Place.{next_by, bottom_by, link_by, class_link_by, Linkable, linked_at, bound_of, unlimited}
use Rattle.engine_push.proofs.Cells.{pred_suc}
use Rattle.engine_step.proofs.Fits.{plain-on, class_stuck}
use Rattle.engine_step.proofs.Moves.{follow-is}
use Rattle.engine_step.proofs.Bounds.{rules, arcs-count, arc-is, arc-alike, first-length, first-at}
use Rattle.engine_place.proofs.Links.{fails-first, fails-second, holds-first}

pub positive : (k : ℕ) → (k ≡ 0 → ⊥) → 0 < k
positive zero h = absurd (h refl)
positive (suc k) h = omega arith

-- an arc of a class that fits or not, after the test whether it leads to the frame's state
by_class_alone : (fits led : Bool) (d : Passed) (same : Passed → Bool)
    → (led && tested (cond fits (some d) none) same) ≡ ((led && false) || (fits && (led && same d)))
by_class_alone true true d same = refl
by_class_alone true false d same = refl
by_class_alone false true d same = refl
by_class_alone false false d same = refl

-- a frame that is not linked by the sides with its next arc its state's, nor by its class
neither-linked : (a b n : Bool) → (a && n) ≡ false → b ≡ false → ((a || b) && n) ≡ false
neither-linked true b n e h = e
neither-linked false b n e h = ap (λ (v : Bool). v && n) h

cell-bound : (c : List ℕ) (j : ℕ) → get_or c j 0 ≤ bound_of c
unfolding bound_of
cell-bound [] j = omega arith
cell-bound (x ∷ c) zero = omega arith
cell-bound (x ∷ c) (suc j) = omega (arith, cell-bound c j)

-- under a ceiling that a frame's sum is within, a link tests the sums only for equality
sum-only : (o : Option Passed) (test : Passed → Bool) (x y k : ℕ) → y ≤ k
    → tested {A = Passed × ℕ} (bind o (λ e. somewhen (leb x k) (e, x))) (λ d. test d.0 && eqb d.1 y) ≡ tested o (λ e. test e && eqb x y)
sum-only none test x y k h = refl
sum-only (some e) test x y k h = go (leb x k) refl
  where
    go : (b : Bool) → leb x k ≡ b → tested {A = Passed × ℕ} (somewhen b (e, x)) (λ d. test d.0 && eqb d.1 y) ≡ (test e && eqb x y)
    go true p = refl
    go false p = fails-second (test e) (eqb x y) (ne_eqb x y (λ z. omega (arith, leb-false x k p)))

module _ {s : Setup} {classes : List (List ℕ)} {first initials terminals arcs upper lower : List ℕ} (R : Prepared s classes first initials terminals arcs upper lower) (n : ℕ) (c : List ℕ) where
  -- a ceiling that no cell is above
  abbrev k : ℕ
  k = s.ceiling + bound_of c

  abbrev t : Table
  t = table_by s classes initials terminals arcs

  abbrev q : Query
  q = query_by (unlimited s c) upper lower

  abbrev M : Machine
  M = machine t q

  -- the definition's tests by the cells
  next-is : (f : F.Frame (Passed × ℕ)) → f.state < s.states → next_holds M f ≡ next_by first f.state f.next
  next-is f h =
      let a = first-at R f.state (omega arith) in
      let b = first-at R (f.state + 1) (omega arith) in
      let e : below (f.state + 1) (arcs_as arcs) ≡ below (suc f.state) (arcs_as arcs) = ap (λ (k : ℕ). below k (arcs_as arcs)) (let z : f.state + 1 ≡ suc f.state = omega arith in z) in
      let r = below-rises f.state (arcs_as arcs) in
      ap₂ (λ (x y : ℕ). leb x f.next && leb f.next y) (sym a)
      (let z : below f.state (arcs_as arcs) + (below (suc f.state) (arcs_as arcs) - below f.state (arcs_as arcs)) ≡ get_or first (f.state + 1) 0 = omega arith in z)

  bottom-is : (f : F.Frame (Passed × ℕ)) → bottom_holds M n f ≡ bottom_by initials n (frame_of f)
  bottom-is f = ap (λ (i : ℕ). eqb f.state (get_or initials i 0) && ((eqb 0 f.datum.0.up && eqb 0 f.datum.0.low) && eqb 0 f.datum.1)) (let z : pred n ≡ n - 1 = omega arith in z)

  -- an arc makes a frame where it does so by the rules of the sides or by its class
  module _ (a : Arc) (d : Passed) (led : Bool) (u l : ℕ) (summed : Bool) where
    abbrev same : Passed → Bool
    same e = (eqb e.up u && eqb e.low l) && summed

    abbrev makes : Option Passed → Bool
    makes o = led && tested o same

    abbrev fits : Bool
    fits = class_fits s classes a.upper (get_or upper d.up 0) (get_or lower d.low 0)

    abbrev makes-by_class : Bool → ℕ → ℕ → Bool
    makes-by_class classed x y = classed && (fits && (led && ((eqb x u && eqb y l) && summed)))

    sides_or_class : Alike a → makes (follow_in s classes upper lower a d) ≡ (makes (follow_by s upper lower a d) || makes-by_class (leb first_class a.upper) (d.up + 1) (d.low + 1))
    sides_or_class A = go (is_plain a) refl
      where
        go : (b : Bool) → is_plain a ≡ b → makes (follow_in s classes upper lower a d) ≡ (makes (follow_by s upper lower a d) || makes-by_class (leb first_class a.upper) (d.up + 1) (d.low + 1))
        go true p =
            ap makes (plain-followed s classes upper lower a d p) ∙ sym (or-false (makes (follow_by s upper lower a d)))
            ∙ ap (λ (b : Bool). makes (follow_by s upper lower a d) || makes-by_class b (d.up + 1) (d.low + 1))
            (sym (lt-leb first_class a.upper (ltb-true _ _ (sym (plain-on a A upper_side) ∙ p))))
        go false p =
            ap makes (class_followed s classes upper lower a d R.reads-some p)
            ∙ by_class_alone fits led (passed_of (suc d.up) (suc d.low)) same
            ∙ ap₂ (λ (x y : ℕ). makes none || makes-by_class true x y) (let z : suc d.up ≡ d.up + 1 = omega arith in z) (let z : suc d.low ≡ d.low + 1 = omega arith in z)
            ∙ ap₂ (λ (o : Option Passed) (b : Bool). makes o || makes-by_class b (d.up + 1) (d.low + 1))
            (sym (class_stuck s classes upper lower a d A R.words_small R.reads-some p))
            (sym (le-leb first_class a.upper (ltb-false _ _ (sym (plain-on a A upper_side) ∙ p))))

  -- f is linked with g below it, by the rules of the sides or by its class
  abbrev linked_by : Frame → Frame → Bool
  linked_by g f = link_by s (get_or first g.state 0) arcs upper lower g f || class_link_by s classes first arcs upper lower g f

  link-is : (g f : F.Frame (Passed × ℕ)) → g.state < s.states → g.next ≤ arc_count arcs → f.datum.1 ≤ k → link_holds M g f ≡ linked_by (frame_of g) (frame_of f)
  link-is g f in_states next-most within =
      ap (λ (m : ℕ). ltb m g.next && rest) (sym (first-at R g.state (omega arith))) ∙ go (ltb (get_or first g.state 0) g.next) refl
    where
      a : Arc
      a = arc_of arcs (g.next - 1)

      led : Bool
      led = eqb f.state a.target

      summed : Bool
      summed = eqb (g.datum.1 + a.penalty) f.datum.1

      passes : Passed → Bool
      passes d = eqb d.up f.datum.0.up && eqb d.low f.datum.0.low

      -- the arc leads to f, by what it makes of the counts
      leads : Arc → Option Passed → Bool
      leads x o =
          eqb f.state x.target
          && tested {A = Passed × ℕ} (bind o (λ e. somewhen (leb (g.datum.1 + x.penalty) k) (e, g.datum.1 + x.penalty))) (λ d. passes d.0 && eqb d.1 f.datum.1)

      rest : Bool
      rest = leads (arc_at t (pred g.next)) (follow_at t q (arc_at t (pred g.next)) g.datum.0)

      by-sides : Bool
      by-sides = led && tested (follow_by s upper lower a g.datum.0) (λ d. passes d && summed)

      by_class : Bool
      by_class = makes-by_class a g.datum.0 led f.datum.0.up f.datum.0.low summed (leb first_class a.upper) (g.datum.0.up + 1) (g.datum.0.low + 1)

      arc-was : 0 < g.next → arc_at t (pred g.next) ≡ a
      arc-was h = arc-is R (pred g.next) (omega arith) ∙ ap (arc_of arcs) (let z : pred g.next ≡ g.next - 1 = omega arith in z)

      go : (b : Bool) → ltb (get_or first g.state 0) g.next ≡ b → (b && rest) ≡ ((b && by-sides) || (b && by_class))
      go false e = refl
      go true e =
          let h : 0 < g.next = omega (arith, ltb-true (get_or first g.state 0) g.next e) in
          ap (λ (x : Arc). leads x (follow_at t q x g.datum.0)) (arc-was h)
          ∙ ap (leads a) (follow-is (unlimited s c) R.reads-some t upper lower a g.datum.0)
          ∙ ap (λ (b : Bool). led && b) (sum-only (follow_in s classes upper lower a g.datum.0) passes (g.datum.1 + a.penalty) f.datum.1 k within)
          ∙ sides_or_class a g.datum.0 led f.datum.0.up f.datum.0.low summed (arc-alike R (g.next - 1) (omega arith))

  module _ (some-started : 0 < n) (few-started : n ≤ length initials) where
    -- the lowest i + 1 frames hold
    abbrev pub chain : ℕ → Bool
    chain i = chain_holds M n (frames_of store c i) (look_at c i)

    chain-falls : (m j : ℕ) → chain (j + m) ≡ true → chain m ≡ true
    chain-falls m zero e = ap chain (let z : m ≡ 0 + m = omega arith in z) ∙ e
    chain-falls m (suc j) e =
        let w : chain (suc (j + m)) ≡ true = ap chain (let z : suc (j + m) ≡ suc j + m = omega arith in z) ∙ e in
        chain-falls m j (and_right (link_holds M (look_at c (j + m)) (look_at c (suc (j + m)))) (chain (j + m)) (and_right (next_holds M (look_at c (suc (j + m)))) (link_holds M (look_at c (j + m)) (look_at c (suc (j + m))) && chain (j + m)) w))

    -- where some frame does not hold, they do not
    pub chain-fails : (i m : ℕ) → i ≤ m → chain i ≡ false → false ≡ chain m
    chain-fails i m h e = go (chain m) refl
      where
        go : (b : Bool) → chain m ≡ b → false ≡ b
        go false w = refl
        go true w = sym e ∙ chain-falls i (m - i) (ap chain (let z : (m - i) + i ≡ m = omega arith in z) ∙ w)

    placed_at : (i : ℕ) → i < room_in c → chain i ≡ true → Placed M n (frames_of store c (suc i))
    unfolding place_holds
    placed_at i h e = (place-placed M (same-is t q) store (held n (suc i) c) (and_both (le-leb n (length initials) few-started) (and_both (le-leb (suc i) (room_in c) h) (and_both (lt-ltb 0 n some-started) e)))).1

    range_at : (i : ℕ) → i < room_in c → chain i ≡ true → InRange t q (rules R) (length (frames_of store c i)) (look_at c i)
    range_at i h e = in_range t q (rules R) n (look_at c i) (frames_of store c i) (placed_at i h e)

    -- the bottom frame
    module _ (b : Frame) (E : b ≡ frame_of (look_at c 0)) where
      bottom_as : bottom_holds M n (look_at c 0) ≡ bottom_by initials n b
      bottom_as = bottom-is (look_at c 0) ∙ ap (bottom_by initials n) (sym E)

      pub bottom-fails : bottom_by initials n b ≡ false → chain 0 ≡ false
      bottom-fails e = sym (fails-second (next_holds M (look_at c 0)) (bottom_holds M n (look_at c 0)) (bottom_as ∙ e))

      module _ (e : bottom_by initials n b ≡ true) where
        bottom-state : b.state < s.states
        bottom-state =
            let z : b.state ≡ get_or initials (n - 1) 0 = eqb-true b.state (get_or initials (n - 1) 0) (and_left (eqb b.state (get_or initials (n - 1) 0)) ((eqb 0 b.passed.up && eqb 0 b.passed.low) && eqb 0 b.sum) e) in
            subst (λ (k : ℕ). k < s.states) (sym z) ((rules R).initial_in _ (at_mem initials (n - 1) 0 (omega arith)))

        pub bottom-indexed : b.state + 1 < length first
        bottom-indexed = omega (arith, bottom-state, first-length R, (rules R).few-states)

        bottom-next : next_holds M (look_at c 0) ≡ next_by first b.state b.next
        bottom-next =
            next-is (look_at c 0) (subst (λ (f : Frame). f.state < s.states) E bottom-state) ∙ ap (λ (f : Frame). next_by first f.state f.next) (sym E)

        pub first-fails : next_by first b.state b.next ≡ false → chain 0 ≡ false
        first-fails h = sym (fails-first (next_holds M (look_at c 0)) (bottom_holds M n (look_at c 0)) (bottom-next ∙ h))

        pub first_holds : next_by first b.state b.next ≡ true → chain 0 ≡ true
        first_holds h = and_both (bottom-next ∙ h) (bottom_as ∙ e)

    -- the frame at i, above others that hold
    module _ (i : ℕ) (some_below : 0 < i) (room : i - 1 < room_in c) (held-so-far : chain (i - 1) ≡ true) where
      abbrev j : ℕ
      j = i - 1

      at_suc : i ≡ suc j
      at_suc = omega arith

      B : InRange t q (rules R) (length (frames_of store c j)) (look_at c j)
      B = range_at j room held-so-far

      next-most : (look_at c j).next ≤ arc_count arcs
      next-most = omega (arith, B.next_in, arcs-count R)

      up-state : link_holds M (look_at c j) (look_at c (suc j)) ≡ true → (look_at c (suc j)).state < s.states
      up-state e =
          let tried = ltb (below (look_at c j).state (arcs_as arcs)) (look_at c j).next in
          let led = eqb (look_at c (suc j)).state (M.target (pred (look_at c j).next)) in
          let made = tested (M.follow (pred (look_at c j).next) (look_at c j).datum) (λ d. M.same d (look_at c (suc j)).datum) in
          let h : below (look_at c j).state (arcs_as arcs) < (look_at c j).next = ltb-true _ _ (and_left tried (led && made) e) in
          let z : (look_at c (suc j)).state ≡ M.target (pred (look_at c j).next) = eqb-true _ _ (and_left led made (and_right tried (led && made) e)) in
          let w = next-most in
          subst (λ (k : ℕ). k < s.states) (sym z) ((rules R).target_in _ (at_mem (arcs_as arcs) (pred (look_at c j).next) no_arc (omega (arith, arcs-count R))))

      -- by the frames that the code looked at: g, and f on it
      module _ (g f : Frame) (Eg : g ≡ frame_of (look_at c (i - 1))) (Ef : f ≡ frame_of (look_at c i)) where
        abbrev linked : Bool
        linked = linked_by g f

        Es : f ≡ frame_of (look_at c (suc j))
        Es = Ef ∙ ap (λ (k : ℕ). frame_of (look_at c k)) at_suc

        pub below-indexed : g.state + 1 < length first
        below-indexed = subst (λ (x : Frame). x.state + 1 < length first) (sym Eg) (omega (arith, B.state_in_lem, first-length R, (rules R).few-states))

        pub linkable : Linkable arcs g
        linkable =
            let x : Linkable arcs (frame_of (look_at c j)) = record { next-most = next-most; counts-small = λ side. omega (arith, B.passed_in_lem side, frames-length store c j) } in
            subst (Linkable arcs) (sym Eg) x

        link_as : link_holds M (look_at c j) (look_at c (suc j)) ≡ linked
        link_as =
            link-is (look_at c j) (look_at c (suc j)) B.state_in_lem next-most (let h = cell-bound c (suc j * frame_width + 4) in omega arith) ∙ ap₂ linked_by (sym Eg) (sym Es)

        state_in_lem : linked ≡ true → f.state < s.states
        state_in_lem e = subst (λ (x : Frame). x.state < s.states) (sym Es) (up-state (link_as ∙ e))

        pub up-indexed : linked ≡ true → f.state + 1 < length first
        up-indexed e = omega (arith, state_in_lem e, first-length R, (rules R).few-states)

        -- they hold where it is linked and its next arc is its state's
        chain-is : chain i ≡ (linked && next_by first f.state f.next)
        chain-is =
            ap chain at_suc ∙ ap₂ (λ (x y : Bool). next_holds M (look_at c (suc j)) && (x && y)) link_as held-so-far ∙ go linked refl
          where
            go : (b : Bool) → linked ≡ b → (next_holds M (look_at c (suc j)) && (b && true)) ≡ (b && next_by first f.state f.next)
            go false e = and-false (next_holds M (look_at c (suc j)))
            go true e =
                and-true (next_holds M (look_at c (suc j))) ∙ next-is (look_at c (suc j)) (up-state (link_as ∙ e))
                ∙ ap (λ (x : Frame). next_by first x.state x.next) (sym Es)

        pub link-fails : linked_at s first arcs upper lower c i ≡ false → class_link_by s classes first arcs upper lower g f ≡ false → chain i ≡ false
        link-fails e h =
            chain-is ∙ neither-linked (link_by s (get_or first g.state 0) arcs upper lower g f) (class_link_by s classes first arcs upper lower g f) (next_by first f.state f.next)
            (ap₂ (λ (x y : Frame). link_by s (get_or first x.state 0) arcs upper lower x y && next_by first y.state y.next) Eg Ef ∙ e) h

        pub next-fails : next_by first f.state f.next ≡ false → chain i ≡ false
        next-fails h = chain-is ∙ ap (λ (b : Bool). linked && b) h ∙ and-false linked

        next_more : linked ≡ true → next_by first f.state f.next ≡ true → chain i ≡ true
        next_more e h = chain-is ∙ and_both e h

        module _ (e : class_link_by s classes first arcs upper lower g f ≡ true) where
          by_class : linked ≡ true
          by_class = or_right (link_by s (get_or first g.state 0) arcs upper lower g f) _ e

          pub class_indexed : f.state + 1 < length first
          class_indexed = up-indexed by_class

          pub class_more : next_by first f.state f.next ≡ true → chain ((i + 1) - 1) ≡ true
          class_more h = ap chain (let z : (i + 1) - 1 ≡ i = omega arith in z) ∙ next_more by_class h

      linked-more : linked_at s first arcs upper lower c i ≡ true → chain i ≡ true
      linked-more e =
          let a = link_by s (get_or first (look_at c (i - 1)).state 0) arcs upper lower (frame_of (look_at c (i - 1))) (frame_of (look_at c i)) in
          let b = next_by first (look_at c i).state (look_at c i).next in
          next_more (frame_of (look_at c (i - 1))) (frame_of (look_at c i)) refl refl (or_left a _ (and_left a b e)) (and_right a b e)

    -- frames linked by the rules of the sides, on others that hold
    pub linked-all : (from k : ℕ) → 0 < from → from + k ≤ room_in c → chain (from - 1) ≡ true
        → ((i : ℕ) → from ≤ i → i < from + k → linked_at s first arcs upper lower c i ≡ true) → chain ((from + k) - 1) ≡ true
    linked-all from zero h r e l = ap chain (let z : (from + 0) - 1 ≡ from - 1 = omega arith in z) ∙ e
    linked-all from (suc k) h r e l =
        let w : chain ((from + k) - 1) ≡ true = linked-all from k h (omega arith) e (λ i a b. l i a (omega arith)) in
        ap chain (let z : (from + suc k) - 1 ≡ from + k = omega arith in z)
        ∙ linked-more (from + k) (omega arith) (omega arith) w (l (from + k) (omega arith) (omega arith))

    -- under the run's own ceiling: the top frame's sum shows whether all are within it
    module _ (f : Frame) (m : ℕ) (Ef : f ≡ frame_of (look_at c m)) where
      abbrev under-own : Bool
      under-own = chain_holds (machine_by s classes initials terminals arcs upper lower) n (frames_of store c m) (look_at c m)

      by-top : under-own ≡ (chain m && leb f.sum s.ceiling)
      by-top =
          chain-ceiling (plain_machine t q) (penalty_at t) s.ceiling k n (frames_of store c m) (look_at c m) (omega arith)
          ∙ ap (λ (x : Frame). chain m && leb x.sum s.ceiling) (sym Ef)

      pub over-ceiling : s.ceiling < f.sum → false ≡ under-own
      over-ceiling h = fails-second (chain m) _ (lt-leb f.sum s.ceiling h) ∙ sym by-top

      pub as_chain : f.sum ≤ s.ceiling → (b : Bool) → b ≡ chain m → b ≡ under-own
      as_chain h b e = e ∙ sym (ap (λ (v : Bool). chain m && v) (le-leb f.sum s.ceiling h) ∙ and-true (chain m)) ∙ sym by-top

-- Starts, depth and room, then the frames.

module _ (t : Table) (q : Query) (n d : ℕ) (c : List ℕ) where
  abbrev frames-seen : Bool
  frames-seen = frames_hold (machine t q) n (frames_of store c d)

  pub over-list : length t.initials < n → false ≡ place_holds (machine t q) store (held n d c)
  unfolding place_holds
  over-list h = fails-first (leb n (length t.initials)) (leb d (room_in c) && frames-seen) (lt-leb n (length t.initials) h)

  pub over-room : room_in c < d → false ≡ place_holds (machine t q) store (held n d c)
  unfolding place_holds
  over-room h = fails-second (leb n (length t.initials)) (leb d (room_in c) && frames-seen) (sym (fails-first (leb d (room_in c)) frames-seen (lt-leb d (room_in c) h)))

  module _ (few : n ≤ length t.initials) (room : d ≤ room_in c) where
    by_frames : (v : Bool) → v ≡ frames-seen → v ≡ place_holds (machine t q) store (held n d c)
    unfolding place_holds
    by_frames v e = holds-first (leb n (length t.initials)) (leb d (room_in c) && frames-seen) v (le-leb n (length t.initials) few) (holds-first (leb d (room_in c)) frames-seen v (le-leb d (room_in c) room) e)

    pub no_frames : d ≡ 0 → true ≡ place_holds (machine t q) store (held n d c)
    no_frames e = by_frames true (ap (λ (k : ℕ). frames_hold (machine t q) n (frames_of store c k)) (sym e))

    some-frames : (d ≡ 0 → ⊥) → frames_hold (machine t q) n (frames_of store c (suc (d - 1))) ≡ frames-seen
    some-frames h = ap (λ (k : ℕ). frames_hold (machine t q) n (frames_of store c k)) (sym (pred_suc d h))

    pub no_start : (d ≡ 0 → ⊥) → n ≡ 0 → false ≡ place_holds (machine t q) store (held n d c)
    no_start h e = by_frames false (fails-first (ltb 0 n) (chain_holds (machine t q) n (frames_of store c (d - 1)) (look_at c (d - 1))) (le-ltb 0 n (omega arith)) ∙ some-frames h)

    pub chain_decides : (d ≡ 0 → ⊥) → 0 < n → (v : Bool) → v ≡ chain_holds (machine t q) n (frames_of store c (d - 1)) (look_at c (d - 1)) → v ≡ place_holds (machine t q) store (held n d c)
    chain_decides h k v e = by_frames v (holds-first (ltb 0 n) (chain_holds (machine t q) n (frames_of store c (d - 1)) (look_at c (d - 1))) v (lt-ltb 0 n k) e ∙ some-frames h)
