-- A table keeps the rules exactly where it is as document 01 says.
use Prim.Native.Nat.{ℕ, zero, suc, ◌≤◌, ◌<◌}
use native.Mathlib.Omega.{arith}
use mathlib.Core.Path.{◌≡◌, refl, sym, ap, ◌∙◌}
use mathlib.Core.Bool.{Bool, true, false, not}
use mathlib.Core.Logic.{◌↔◌}
use mathlib.Core.List.{List, [], ◌∷◌, ◌++◌, Memᴰ}
use lib.ListN.{length, get_or, take}
use lib.Seq.{get_or-take, length-take-le}
use lib.Dec.{eqb, leb, ltb}
use borrow.Author.Tests.{leb-true, ltb-true, ltb-false, eqb-true, le-leb, lt-ltb, eq-eqb, not-true}
use Rattle.table_format.specs.Table.{Arc, Table, no_arc, without_penalty, counts_of}
use Rattle.table_format.specs.Rules.{any, last_is, each, counts_hold, state_holds, arc_class_holds, initial_is_new, terminal_rises, source_holds, same_arc, penalty_holds, penalties_keep, keeps_rules}
pub use Rattle.table_format.specs.Ruled.{DifferBy, Differ, Rise, AtLeast, ClassRow, Ruled}
use Rattle.table_format.proofs.Tests.{and_left, and_right, and_both, and_four}
use Rattle.table_format.proofs.All.{all-mem, all-each, at_mem}
use Rattle.table_format.proofs.Each.{any_none, any_some, last_snoc, last-take, each_at, each_last, each_from, each_weaken}
use Rattle.table_format.specs.Classes.{is_plain}
use Rattle.table_format.proofs.Classes.{classes-are, plain-holds, class_holds_lem}
use Rattle.table_format.proofs.Rules.{initial_passes, terminal_passes, arc_passes, initial-clear, terminal-clear, arc-parts, Keeps, keeps-parts, Bounded, table-bounded, ArcBounded, initials-below, terminals-below, arcs-bounded, penalties-bounded, arcs_rise_lem}

-- Elements that are none of those before them differ, and the other way round.

module _ {A B : Type 0} (f : A → B) (same : A → A → Bool) where
  module _ (test : List A → A → Bool) (same_by : (x y : A) → f x ≡ f y → same x y ≡ true) (new : (before : List A) (x : A) → test before x ≡ true → any (λ y. same y x) before ≡ false) where
    apart : (xs : List A) → each test [] xs ≡ true → (d : A) (i j : ℕ) → i < j → j < length xs → f (get_or xs i d) ≡ f (get_or xs j d) → ⊥
    apart xs e d i j h k s =
        let p : any (λ y. same y (get_or xs j d)) (take j xs) ≡ false = new (take j xs) (get_or xs j d) (each_at test d xs e j k) in
        let q : any (λ y. same y (get_or xs j d)) (take j xs) ≡ true =
        any_some (λ y. same y (get_or xs j d)) d (take j xs) i (omega (arith, length-take-le j xs (omega arith)))
        (same_by (get_or (take j xs) i d) (get_or xs j d) (ap f (get_or-take j xs i d h) ∙ s)) in
        let z : ◌≡◌ {A = ℕ} 0 1 = cc in
        omega arith

    pub each-differ : (xs : List A) → each test [] xs ≡ true → DifferBy f xs
    each-differ xs e d i j h k s = go (ltb i j) (ltb j i) refl refl
      where
        go : (a b : Bool) → ltb i j ≡ a → ltb j i ≡ b → i ≡ j
        go true b p q = absurd (apart xs e d i j (ltb-true _ _ p) k s)
        go false true p q = absurd (apart xs e d j i (ltb-true _ _ q) h (sym s))
        go false false p q = omega (arith, ltb-false i j p, ltb-false j i q)

  pub differ_new : ((x y : A) → same x y ≡ true → f x ≡ f y) → (xs : List A) → DifferBy f xs → (d : A) (k : ℕ) → k < length xs
      → any (λ y. same y (get_or xs k d)) (take k xs) ≡ false
  differ_new law xs D d k h = any_none (λ y. same y (get_or xs k d)) d (take k xs) (λ j g. go j g (same (get_or (take k xs) j d) (get_or xs k d)) refl)
    where
      go : (j : ℕ) → j < length (take k xs) → (b : Bool) → same (get_or (take k xs) j d) (get_or xs k d) ≡ b → b ≡ false
      go j g true e =
          let below : j < k = omega (arith, length-take-le k xs (omega arith)) in
          let one : j ≡ k = D d j k (omega arith) h (ap f (sym (get_or-take k xs j d below)) ∙ law _ _ e) in
          absurd (omega arith)
      go j g false e = refl

-- what holds of each element and the next holds of the last one before
last-from : {A : Type 0} (test : A → A → Bool) (d : A) (xs : List A) → ((i : ℕ) → suc i < length xs → test (get_or xs i d) (get_or xs (suc i) d) ≡ true)
    → (k : ℕ) → k < length xs → last_is (λ y. test y (get_or xs k d)) (take k xs) ≡ true
last-from test d xs f zero h = refl
last-from test d xs f (suc i) h = last-take (λ y. test y (get_or xs (suc i) d)) d xs i (omega arith) ∙ f i h

-- What keeps the rules is new, and sources rise from the first on.

initial-new : (states : ℕ) (before : List ℕ) (s : ℕ) → initial_passes states before s ≡ true → any (λ r. eqb r s) before ≡ false
initial-new states before s e = not-true _ (and_right (state_holds states s) (initial_is_new before s) (sym (initial-clear states before s) ∙ e))

arc_new : (states : ℕ) (rows : List (List ℕ)) (before : List Arc) (a : Arc) → arc_passes states rows before a ≡ true → any (λ b. same_arc b a) before ≡ false
arc_new states rows before a e = not-true _ ((arc-parts states rows before a).0 e).new

-- an arc's class holds
class_kept : (t : Table) → keeps_rules t ≡ true → (a : Arc) → Memᴰ a t.arcs → arc_class_holds t.classes a ≡ true
class_kept t e =
    all-mem (λ a. arc_class_holds t.classes a ≡ true) t.arcs
    (all-each _ (arc_passes t.states t.classes) (λ before a k. ((arc-parts t.states t.classes before a).0 k).class_holds_lem) [] t.arcs ((keeps-parts t).0 e).arcs)

pub same_arc-by : (a b : Arc) → without_penalty a ≡ without_penalty b → same_arc a b ≡ true
same_arc-by a b e =
    and_both (eq-eqb a.source b.source (ap (λ (x : Arc). x.source) e))
    (and_both (eq-eqb a.upper b.upper (ap (λ (x : Arc). x.upper) e))
    (and_both (eq-eqb a.lower b.lower (ap (λ (x : Arc). x.lower) e)) (eq-eqb a.target b.target (ap (λ (x : Arc). x.target) e))))

terminals-up : (states : ℕ) (xs : List ℕ) → each (terminal_passes states) [] xs ≡ true → each terminal_rises [] xs ≡ true
terminals-up states xs e =
    each_weaken (terminal_passes states) terminal_rises
    (λ before s k. and_right (state_holds states s) (terminal_rises before s) (sym (terminal-clear states before s) ∙ k)) [] xs e

rises : (m : ℕ) (before xs : List Arc) → ((a : Arc) → source_holds before a ≡ true → m ≤ a.source) → each source_holds before xs ≡ true → AtLeast m xs
unfolding each
rises m before [] h e = tt
rises m before (a ∷ bs) h e =
    (h a (and_left (source_holds before a) _ e), rises a.source (before ++ (a ∷ [])) bs last (and_right (source_holds before a) _ e))
  where
    last : (c : Arc) → source_holds (before ++ (a ∷ [])) c ≡ true → a.source ≤ c.source
    last c k = leb-true _ _ (sym (last_snoc (λ b. leb b.source c.source) before a) ∙ k)

pub ruled : (t : Table) → keeps_rules t ≡ true → Ruled t
ruled t e =
    record {
      some-state = b.some-state;
      few-states = b.states;
      some-initial = b.some-initial;
      few-initials = b.initials;
      few-terminals = b.terminals;
      few-arcs = b.arcs;
      initial_in = all-mem (λ s. s < t.states) t.initials (initials-below t e);
      terminal_in = all-mem (λ s. s < t.states) t.terminals (terminals-below t e);
      terminals_rise_lem = λ i h. ltb-true _ _ (each_last ltb 0 t.terminals (terminals-up t.states t.terminals k.terminals) i h);
      source_in = λ a m. (arc a m).source;
      target_in = λ a m. (arc a m).target;
      upper_in = λ a m. (arc a m).upper;
      lower_in = λ a m. (arc a m).lower;
      eight-rows = ((classes-are t.classes).0 k.classes).0;
      row_in = ((classes-are t.classes).0 k.classes).1;
      class_alike = λ a m p. ((class_holds_lem t.classes a p).0 (class_kept t e a m)).0;
      class_defined = λ a m p. ((class_holds_lem t.classes a p).0 (class_kept t e a m)).1;
      rising = rises 0 [] t.arcs (λ a h. omega arith) (arcs_rise_lem t.states t.classes t.arcs k.arcs);
      penalty_in = all-mem (λ a. a.penalty ≤ 255) t.arcs (penalties-bounded t e);
      arcs-differ = each-differ without_penalty same_arc _ same_arc-by (arc_new t.states t.classes) t.arcs k.arcs;
      initials-differ = each-differ (λ s. s) eqb _ eq-eqb (initial-new t.states) t.initials k.initials;
    }
  where
    b : Bounded (counts_of t)
    b = table-bounded t e

    k : Keeps t
    k = (keeps-parts t).0 e

    arc : (a : Arc) → Memᴰ a t.arcs → ArcBounded t.states a
    arc = all-mem (ArcBounded t.states) t.arcs (arcs-bounded t e)

-- What is as document 01 says keeps the rules.

pub same_arc-eq : (a b : Arc) → same_arc a b ≡ true → without_penalty a ≡ without_penalty b
same_arc-eq a b e =
    let h = and_four (eqb a.source b.source) (eqb a.upper b.upper) (eqb a.lower b.lower) (eqb a.target b.target) e in
    λ i.
    record {
      source = eqb-true a.source b.source h.0 i;
      upper = eqb-true a.upper b.upper h.1 i;
      lower = eqb-true a.lower b.lower h.2 i;
      target = eqb-true a.target b.target h.3 i;
      penalty = 0;
    }

source-next : (d : Arc) (m : ℕ) (xs : List Arc) → AtLeast m xs → (i : ℕ) → suc i < length xs → (get_or xs i d).source ≤ (get_or xs (suc i) d).source
source-next d m [] A i h = absurd (omega arith)
source-next d m (a ∷ []) A i h = absurd (omega arith)
source-next d m (a ∷ b ∷ bs) A zero h = A.1.0
source-next d m (a ∷ b ∷ bs) A (suc i) h = source-next d a.source (b ∷ bs) A.1 i (omega arith)

module _ (t : Table) (R : Ruled t) where
  counts-kept : counts_hold (counts_of t) ≡ true
  unfolding counts_hold
  counts-kept =
      and_both (le-leb _ _ R.some-state)
      (and_both (le-leb _ _ R.few-states)
      (and_both (le-leb _ _ R.some-initial)
      (and_both (le-leb _ _ R.few-initials) (and_both (le-leb _ _ R.few-terminals) (le-leb _ _ R.few-arcs)))))

  initials-kept : each (initial_passes t.states) [] t.initials ≡ true
  initials-kept =
      each_from (initial_passes t.states) 0 t.initials
      (λ k h.
      let s = get_or t.initials k 0 in
      initial-clear t.states (take k t.initials) s
      ∙ and_both (lt-ltb _ _ (R.initial_in s (at_mem t.initials k 0 h))) (ap not (differ_new (λ s. s) eqb eqb-true t.initials R.initials-differ 0 k h)))

  terminals-kept : each (terminal_passes t.states) [] t.terminals ≡ true
  terminals-kept =
      each_from (terminal_passes t.states) 0 t.terminals
      (λ k h.
      let s = get_or t.terminals k 0 in
      terminal-clear t.states (take k t.terminals) s
      ∙ and_both (lt-ltb _ _ (R.terminal_in s (at_mem t.terminals k 0 h)))
      (last-from ltb 0 t.terminals (λ i g. lt-ltb _ _ (R.terminals_rise_lem i g)) k h))

  class_of : (a : Arc) → Memᴰ a t.arcs → arc_class_holds t.classes a ≡ true
  class_of a m = go (is_plain a) refl
    where
      go : (b : Bool) → is_plain a ≡ b → arc_class_holds t.classes a ≡ true
      go true p = plain-holds t.classes a p
      go false p = (class_holds_lem t.classes a p).1 (R.class_alike a m p, R.class_defined a m p)

  arcs-kept : each (arc_passes t.states t.classes) [] t.arcs ≡ true
  arcs-kept =
      each_from (arc_passes t.states t.classes) no_arc t.arcs
      (λ k h.
      let a = get_or t.arcs k no_arc in
      let m = at_mem t.arcs k no_arc h in
      let u : a.upper ≤ 71 = R.upper_in a m in
      let l : a.lower ≤ 71 = R.lower_in a m in
      (arc-parts t.states t.classes (take k t.arcs) a).1
      (record {
        states-hold = and_both (lt-ltb _ _ (R.source_in a m)) (lt-ltb _ _ (R.target_in a m));
        letters_hold_lem = and_both (lt-ltb a.upper 72 (omega arith)) (lt-ltb a.lower 72 (omega arith));
        class_holds_lem = class_of a m;
        source_holds_lem = last-from (λ b c. leb b.source c.source) no_arc t.arcs (λ i g. le-leb _ _ (source-next no_arc 0 t.arcs R.rising i g)) k h;
        new = ap not (differ_new without_penalty same_arc same_arc-eq t.arcs R.arcs-differ no_arc k h);
      }))

  penalties-kept : penalties_keep t.arcs ≡ true
  penalties-kept = each_from (λ before a. penalty_holds a) no_arc t.arcs (λ k h. le-leb _ _ (R.penalty_in (get_or t.arcs k no_arc) (at_mem t.arcs k no_arc h)))

pub kept : (t : Table) → Ruled t → keeps_rules t ≡ true
kept t R =
    (keeps-parts t).1
    (record {
      counts = counts-kept t R;
      classes = (classes-are t.classes).1 (R.eight-rows, R.row_in);
      initials = initials-kept t R;
      terminals = terminals-kept t R;
      arcs = arcs-kept t R;
      penalties = penalties-kept t R;
    })

-- Both together.
pub rules-are : (t : Table) → (keeps_rules t ≡ true) ↔ Ruled t
rules-are t = (ruled t, kept t)
