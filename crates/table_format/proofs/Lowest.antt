-- "within it the lowest number", and 34 "right after 5": the refusals that a line earns stand by rising rank.
use Prim.Native.Nat.{ℕ, ◌<◌}
use native.Mathlib.Nat.{lt_trans}
use mathlib.Core.Path.{◌≡◌, refl, sym, subst}
use mathlib.Core.Logic.{⊎_elim}
use mathlib.Core.Bool.{Bool, true, false, cond, ◌&&◌}
use mathlib.Core.List.Memᴰ
use mathlib.Core.List.{List, [], ◌∷◌, ◌++◌, Memᴰ}
use lib.Dec.{eqb, ltb}
use borrow.Author.Tests.{ltb-true}
use Rattle.refusal.specs.declared.InputCause.{InputCause}
use Rattle.refusal.specs.declared.InputCause.TheVariants.{Malformed, CountLimit, StateNumber, StateOrder, LineCount, ClassFault}
use Rattle.table_format.specs.Table.{Table}
use Rattle.table_format.specs.Rules.{unless, counts_hold, state_holds, letter_holds, class_holds, arc_class_holds, initial_is_new, terminal_rises, source_holds, arc_is_new, header_faults, class_faults, initial_faults, terminal_faults, arc_earns, arc_faults}
use Rattle.table_format.specs.Line.{Line, malformed, bytes_of}
use Rattle.table_format.specs.Text.{lines_before}
use Rattle.table_format.specs.Parse.{in_place, is_header, LineKind, class, initial, terminal, arc, end, number_at, counts_from, arc_from, class_from, letters_from, is_of, due, Progress, opening, within, closed, item_faults, bytes_faults, line_faults}
use Rattle.table_format.specs.FirstBad.{rank_of}
use Rattle.table_format.proofs.Tests.{and_left, and_right}

-- each refusal's rank is below the next one's
abbrev pub ranks_rise : List InputCause → Bool
ranks_rise [] = true
ranks_rise (f ∷ []) = true
ranks_rise (f ∷ g ∷ fs) = ltb (rank_of f) (rank_of g) && ranks_rise (g ∷ fs)

one : (a : Bool) (f : InputCause) → ranks_rise (unless a f) ≡ true
one true f = refl
one false f = refl

two : (a b : Bool) → ranks_rise (unless a StateNumber ++ unless b StateOrder) ≡ true
two true true = refl
two true false = refl
two false true = refl
two false false = refl

-- a test that both truth values pass
abbrev both : (Bool → Bool) → Bool
both test = test true && test false

both_pass : (test : Bool → Bool) → both test ≡ true → (x : Bool) → test x ≡ true
both_pass test e true = and_left (test true) (test false) e
both_pass test e false = and_right (test true) (test false) e

abbrev arc_rises : Bool → Bool → Bool → Bool → Bool → Bool
arc_rises a b c d e = ranks_rise (arc_earns a b c d e)

-- an arc's refusals, in all cases
five : (a b c d e : Bool) → arc_rises a b c d e ≡ true
five a b c d =
    both_pass (arc_rises a b c d)
    (both_pass (λ d. both (arc_rises a b c d))
    (both_pass (λ c. both (λ d. both (arc_rises a b c d)))
    (both_pass (λ b. both (λ c. both (λ d. both (arc_rises a b c d))))
    (both_pass (λ a. both (λ b. both (λ c. both (λ d. both (arc_rises a b c d))))) refl a) b) c) d)

item-rise : (k : LineKind) (t : Table) (b : List ℕ) → ranks_rise (item_faults k t b) ≡ true
unfolding item_faults class_faults initial_faults terminal_faults arc_faults
item-rise class t b = one (class_holds t.classes (class_from b) (letters_from b)) ClassFault
item-rise initial t b = two (state_holds t.states (number_at b 1)) (initial_is_new t.initials (number_at b 1))
item-rise terminal t b = two (state_holds t.states (number_at b 1)) (terminal_rises t.terminals (number_at b 1))
item-rise arc t b =
    let a = arc_from b in
    five (state_holds t.states a.source && state_holds t.states a.target) (letter_holds a.upper && letter_holds a.lower)
    (arc_class_holds t.classes a) (source_holds t.arcs a) (arc_is_new t.arcs a)
item-rise end t b = one (eqb (number_at b 1) (lines_before t)) LineCount

place-rise : (x : Bool) (faults : List InputCause) → ranks_rise faults ≡ true → ranks_rise (in_place x faults) ≡ true
place-rise true faults h = h
place-rise false faults h = refl

bytes-rise : (p : Progress) (b : List ℕ) → ranks_rise (bytes_faults p b) ≡ true
unfolding bytes_faults header_faults
bytes-rise opening b = place-rise (is_header b) _ (one (counts_hold (counts_from b)) CountLimit)
bytes-rise (within c t) b = place-rise (is_of (due c t b) b) _ (item-rise (due c t b) t b)
bytes-rise (closed t) b = refl

pub faults-rise : (p : Progress) (l : Line) → ranks_rise (line_faults p l) ≡ true
unfolding line_faults
faults-rise p l = go (malformed l)
  where
    go : (x : Bool) → ranks_rise (cond x (Malformed ∷ []) (bytes_faults p (bytes_of l.chars))) ≡ true
    go true = refl
    go false = bytes-rise p (bytes_of l.chars)

-- so the first one's rank is below the others'
pub first-lowest : (f : InputCause) (fs : List InputCause) → ranks_rise (f ∷ fs) ≡ true → (c : InputCause) → Memᴰ c fs → rank_of f < rank_of c
first-lowest f [] e c m = absurd (Memᴰ.not-nil m)
first-lowest f (g ∷ gs) e c m =
    let less : rank_of f < rank_of g = ltb-true _ _ (and_left (ltb (rank_of f) (rank_of g)) (ranks_rise (g ∷ gs)) e) in
    let rest = and_right (ltb (rank_of f) (rank_of g)) (ranks_rise (g ∷ gs)) e in
    ⊎_elim (λ u. subst (λ (x : InputCause). rank_of f < rank_of x) (sym u) less) (λ u. lt_trans less (first-lowest g gs rest c u)) (Memᴰ.cases_cons m)
