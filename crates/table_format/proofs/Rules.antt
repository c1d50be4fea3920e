-- What a header and an item that earn no refusal keep to, and the bounds of a table that keeps the rules.
use Prim.Native.Nat.{ℕ, ◌≤◌, ◌<◌}
use mathlib.Core.Path.{◌≡◌, refl, sym, ◌∙◌}
use mathlib.Core.Bool.{Bool, true, false, ◌&&◌, and-eq-true_iff}
use mathlib.Core.Logic.{◌↔◌}
use mathlib.Core.List.{List, [], ◌++◌}
use native.Mathlib.Omega.{arith}
use borrow.Author.Tests.{leb-true, ltb-true}
use Rattle.refusal.specs.declared.InputCause.{InputCause}
use Rattle.refusal.specs.declared.InputCause.TheVariants.{CountLimit, ClassFault}
use Rattle.table_format.specs.Table.{Arc, Table, Counts, counts_of}
use Rattle.table_format.specs.Rules.{is_empty, each, counts_hold, state_holds, letter_holds, class_holds, arc_class_holds, initial_is_new, terminal_rises, source_holds, arc_is_new, unless, header_faults, class_faults, initial_faults, terminal_faults, arc_faults, classes_keep, arcs_keep, penalty_holds, penalties_keep, keeps_rules}
use Rattle.table_format.proofs.All.{All, all-each}
use Rattle.table_format.proofs.Tests.{and_both}
use Rattle.table_format.proofs.Each.{each_weaken}

-- No refusal is earned where every test is passed.

pub clear-last : (b : Bool) (cause : InputCause) → is_empty (unless b cause) ≡ b
clear-last true cause = refl
clear-last false cause = refl

pub clear-more : (b : Bool) (cause : InputCause) (faults : List InputCause) → is_empty (unless b cause ++ faults) ≡ (b && is_empty faults)
clear-more true cause faults = refl
clear-more false cause faults = refl

pub header_clear : (c : Counts) → is_empty (header_faults c) ≡ counts_hold c
unfolding header_faults
header_clear c = clear-last (counts_hold c) CountLimit

module _ (states : ℕ) where
  pub initial-clear : (before : List ℕ) (s : ℕ) → is_empty (initial_faults states before s) ≡ (state_holds states s && initial_is_new before s)
  unfolding initial_faults
  initial-clear before s = simp (clear-more, clear-last)

  pub terminal-clear : (before : List ℕ) (s : ℕ) → is_empty (terminal_faults states before s) ≡ (state_holds states s && terminal_rises before s)
  unfolding terminal_faults
  terminal-clear before s = simp (clear-more, clear-last)

  pub arc-clear : (rows : List (List ℕ)) (before : List Arc) (a : Arc)
      → is_empty (arc_faults states rows before a)
      ≡ ((state_holds states a.source && state_holds states a.target)
      && ((letter_holds a.upper && letter_holds a.lower) && (arc_class_holds rows a && (source_holds before a && arc_is_new before a))))
  unfolding arc_faults
  arc-clear rows before a = simp (clear-more, clear-last)

pub class_clear : (rows : List (List ℕ)) (c : ℕ) (letters : List ℕ) → is_empty (class_faults rows c letters) ≡ class_holds rows c letters
unfolding class_faults
class_clear rows c letters = clear-last (class_holds rows c letters) ClassFault

-- The parts of the rules that a table keeps: each item earns no refusal.

abbrev pub initial_passes : ℕ → List ℕ → ℕ → Bool
initial_passes states before s = is_empty (initial_faults states before s)

abbrev pub terminal_passes : ℕ → List ℕ → ℕ → Bool
terminal_passes states before s = is_empty (terminal_faults states before s)

abbrev pub arc_passes : ℕ → List (List ℕ) → List Arc → Arc → Bool
arc_passes states rows before a = is_empty (arc_faults states rows before a)

-- what an arc that earns no refusal keeps
pub record ArcKeeps (states : ℕ) (rows : List (List ℕ)) (before : List Arc) (a : Arc) : Type 0 where
  pub states-hold : (state_holds states a.source && state_holds states a.target) ≡ true
  pub letters_hold_lem : (letter_holds a.upper && letter_holds a.lower) ≡ true
  pub class_holds_lem : arc_class_holds rows a ≡ true
  pub source_holds_lem : source_holds before a ≡ true
  pub new : arc_is_new before a ≡ true

pub arc-parts : (states : ℕ) (rows : List (List ℕ)) (before : List Arc) (a : Arc) → (arc_passes states rows before a ≡ true) ↔ ArcKeeps states rows before a
arc-parts states rows before a = (to, from)
  where
    to : arc_passes states rows before a ≡ true → ArcKeeps states rows before a
    to e =
        let h = (and-eq-true_iff _ _).0 (sym (arc-clear states rows before a) ∙ e) in
        let i = (and-eq-true_iff _ _).0 h.1 in
        let j = (and-eq-true_iff _ _).0 i.1 in
        let k = (and-eq-true_iff _ _).0 j.1 in
        record { states-hold = h.0; letters_hold_lem = i.0; class_holds_lem = j.0; source_holds_lem = k.0; new = k.1 }

    from : ArcKeeps states rows before a → arc_passes states rows before a ≡ true
    from k =
        arc-clear states rows before a
        ∙ and_both k.states-hold (and_both k.letters_hold_lem (and_both k.class_holds_lem (and_both k.source_holds_lem k.new)))

pub record Keeps (t : Table) : Type 0 where
  pub counts : counts_hold (counts_of t) ≡ true
  pub classes : classes_keep t.classes ≡ true
  pub initials : each (initial_passes t.states) [] t.initials ≡ true
  pub terminals : each (terminal_passes t.states) [] t.terminals ≡ true
  pub arcs : each (arc_passes t.states t.classes) [] t.arcs ≡ true
  pub penalties : penalties_keep t.arcs ≡ true

pub keeps-parts : (t : Table) → (keeps_rules t ≡ true) ↔ Keeps t
unfolding keeps_rules
keeps-parts t = (to, from)
  where
    to : keeps_rules t ≡ true → Keeps t
    to e =
        let h = (and-eq-true_iff _ _).0 e in
        let i = (and-eq-true_iff _ _).0 h.1 in
        let j = (and-eq-true_iff _ _).0 i.1 in
        let k = (and-eq-true_iff _ _).0 j.1 in
        let l = (and-eq-true_iff _ _).0 k.1 in
        record { counts = sym (header_clear (counts_of t)) ∙ h.0; classes = i.0; initials = j.0; terminals = k.0; arcs = l.0; penalties = l.1 }

    from : Keeps t → keeps_rules t ≡ true
    from k = simp (header_clear, k.counts, k.classes, k.initials, k.terminals, k.arcs, k.penalties)

-- Bounds.

-- the counts within their limits
pub record Bounded (c : Counts) : Type 0 where
  pub some-state : 1 ≤ c.states
  pub states : c.states ≤ 256
  pub some-initial : 1 ≤ c.initials
  pub initials : c.initials ≤ c.states
  pub terminals : c.terminals ≤ c.states
  pub arcs : c.arcs ≤ 1024

pub counts-bounded : (c : Counts) → counts_hold c ≡ true → Bounded c
unfolding counts_hold
counts-bounded c e =
    let h = (and-eq-true_iff _ _).0 e in
    let i = (and-eq-true_iff _ _).0 h.1 in
    let j = (and-eq-true_iff _ _).0 i.1 in
    let k = (and-eq-true_iff _ _).0 j.1 in
    let l = (and-eq-true_iff _ _).0 k.1 in
    record {
      some-state = leb-true _ _ h.0;
      states = leb-true _ _ i.0;
      some-initial = leb-true _ _ j.0;
      initials = leb-true _ _ k.0;
      terminals = leb-true _ _ l.0;
      arcs = leb-true _ _ l.1;
    }

-- an arc between states, with letters up to 71
pub record ArcBounded (states : ℕ) (a : Arc) : Type 0 where
  pub source : a.source < states
  pub target : a.target < states
  pub upper : a.upper ≤ 71
  pub lower : a.lower ≤ 71

pub arcs-inside : (states : ℕ) (rows : List (List ℕ)) (arcs : List Arc) → arcs_keep states rows arcs ≡ true → All (ArcBounded states) arcs
arcs-inside states rows arcs e = all-each _ (arc_passes states rows) one [] arcs e
  where
    one : (before : List Arc) (a : Arc) → arc_passes states rows before a ≡ true → ArcBounded states a
    one before a e =
        let k = (arc-parts states rows before a).0 e in
        let s = (and-eq-true_iff _ _).0 k.states-hold in
        let l = (and-eq-true_iff _ _).0 k.letters_hold_lem in
        let u : a.upper < 72 = ltb-true _ _ l.0 in
        let d : a.lower < 72 = ltb-true _ _ l.1 in
        record { source = ltb-true _ _ s.0; target = ltb-true _ _ s.1; upper = omega arith; lower = omega arith }

-- penalties within their limit
pub penalties-inside : (arcs : List Arc) → penalties_keep arcs ≡ true → All (λ a. a.penalty ≤ 255) arcs
penalties-inside arcs e = all-each _ (λ before a. penalty_holds a) (λ before a k. leb-true _ _ k) [] arcs e

-- arcs that keep the rules have sources that rise
pub arcs_rise_lem : (n : ℕ) (rows : List (List ℕ)) (arcs : List Arc) → arcs_keep n rows arcs ≡ true → each source_holds [] arcs ≡ true
arcs_rise_lem n rows arcs e = each_weaken (arc_passes n rows) source_holds (λ before a k. ((arc-parts n rows before a).0 k).source_holds_lem) [] arcs e

module _ (t : Table) (keeps : keeps_rules t ≡ true) where
  parts : Keeps t
  parts = (keeps-parts t).0 keeps

  pub table-bounded : Bounded (counts_of t)
  table-bounded = counts-bounded (counts_of t) parts.counts

  pub initials-below : All (λ s. s < t.states) t.initials
  initials-below =
      all-each _ (initial_passes t.states)
      (λ before s e. ltb-true _ _ ((and-eq-true_iff _ _).0 (sym (initial-clear t.states before s) ∙ e)).0) [] t.initials parts.initials

  pub terminals-below : All (λ s. s < t.states) t.terminals
  terminals-below =
      all-each _ (terminal_passes t.states)
      (λ before s e. ltb-true _ _ ((and-eq-true_iff _ _).0 (sym (terminal-clear t.states before s) ∙ e)).0) [] t.terminals parts.terminals

  pub arcs-bounded : All (ArcBounded t.states) t.arcs
  arcs-bounded = arcs-inside t.states t.classes t.arcs parts.arcs

  pub penalties-bounded : All (λ a. a.penalty ≤ 255) t.arcs
  penalties-bounded = penalties-inside t.arcs parts.penalties
