-- The machine is noetherian, as document 004 says it, exactly where no idle cycle is reached.
use Prim.Native.Nat.{ℕ, zero, suc, ◌<◌}
use native.Mathlib.Omega.{arith}
use mathlib.Core.Path.{◌≡◌, refl, sym, ap, subst, ◌∙◌}
use mathlib.Core.Bool.{Bool, true, false}
use mathlib.Core.Logic.{⊎_elim}
use mathlib.Core.List.Memᴰ
use mathlib.Core.List.{List, [], ◌∷◌, ◌++◌, append-nil}
use lib.ListN.{length}
use Rattle.table_format.specs.Table.{Arc, Table}
use Rattle.table_format.proofs.Tests.{and_left, and_right}
use Rattle.table_format.proofs.Ruled.{Ruled}
use Rattle.graph.specs.Reached.{initial, by_edge}
use Rattle.graph.proofs.Walk.{rotated}
use Rattle.graph.proofs.Reached.{reached-from}
use Rattle.machine.specs.Query.{Task, Side, upper_side, lower_side, reads, letter, Query}
use Rattle.machine.specs.Machine.{Path, start, more, size}
use Rattle.machine.specs.Transducer.{side_writes, nothing_passed, plain_machine}
use Rattle.machine.specs.Idle.{side_idle, idle, AnyArc, StateReached, IdleArc, IdleWalk, NoIdleCycle}
use Rattle.machine.specs.Report.{Word, Cell, Edge, InitialCell, Noetherian, αOf, kernel}
use Rattle.machine.specs.Agree.{arcs_back}
use Rattle.machine.proofs.Classes.{PlainOf, some-plain, idle-plain}
use Rattle.machine.proofs.Bound.{bounded}
use Rattle.machine.proofs.Traces.{side_data, side_rel, on, from-sides, relation-plain, relation-from, PathOf, extend}

size_is : (t : Table) (p : Path) → size p ≡ length (arcs_back t p)
size_is t (start i) = refl
size_is t (more p n) = ap suc (size_is t p)

whole : (r : Bool) (w : Word) → side_data r w 0 w ≡ w
whole true w = refl
whole false w = refl

module _ (t : Table) (k : Task) (U : Ruled t) where
  -- An endless trace would be a path of any length, in the table that starts where the trace does.
  module _ (c : ℕ → Cell (kernel t k)) (E : (n : ℕ) → Edge (kernel t k) (c n) (c (suc n))) where
    abbrev t' : Table
    t' = record { states = t.states; classes = t.classes; initials = (c 0).1 ∷ []; terminals = t.terminals; arcs = t.arcs }

    abbrev q' : Query
    q' = record { task = k; upper_word = (c 0).0.0; lower_word = (c 0).0.1; ceiling = 0 }

    abbrev v : Side → Word
    v s = on s (c 0).0

    U' : Ruled t'
    U' =
        record {
          some-state = U.some-state;
          few-states = U.few-states;
          some-initial = omega arith;
          few-initials = U.some-state;
          few-terminals = U.few-terminals;
          few-arcs = U.few-arcs;
          initial_in = λ s m. ⊎_elim (λ u. subst (λ (x : ℕ). x < t.states) ((E 0).from ∙ sym u) (U.source_in (E 0).arc (E 0).listed)) (λ u. absurd (Memᴰ.not-nil u)) (Memᴰ.cases_cons m);
          terminal_in = U.terminal_in;
          terminals_rise_lem = U.terminals_rise_lem;
          source_in = U.source_in;
          target_in = U.target_in;
          upper_in = U.upper_in;
          lower_in = U.lower_in;
          rising = U.rising;
          eight-rows = U.eight-rows;
          row_in = U.row_in;
          class_alike = U.class_alike;
          class_defined = U.class_defined;
          penalty_in = U.penalty_in;
          arcs-differ = U.arcs-differ;
          initials-differ = λ d i j h m e. omega arith;
        }

    abbrev edges : ℕ → List Arc
    edges zero = []
    edges (suc n) = (E n).arc ∷ edges n

    edges-length : (n : ℕ) → length (edges n) ≡ n
    edges-length zero = refl
    edges-length (suc n) = ap suc (edges-length n)

    path : (n : ℕ) → PathOf t' q' v 0 (c n) (edges n)
    path zero =
        record {
          path = start 0;
          passed_is = nothing_passed;
          allowed = omega arith;
          from = refl;
          datum-is = refl;
          data_is = λ i. (whole (reads k upper_side) (c 0).0.0 i, whole (reads k lower_side) (c 0).0.1 i);
          state-is = refl;
          arcs-are = refl;
        }
    path (suc n) =
        extend t' q' v U' 0 (c n) (c (suc n)) (edges n) (path n)
        (record { arc = (E n).arc; listed = (E n).listed; from = (E n).from; to = (E n).to; related = (E n).related })

    never : InitialCell (kernel t k) (c 0) → NoIdleCycle t k → ⊥
    never I N =
        let n : ℕ = (plain_machine t' q').limit in
        let P = path n in
        let h : size P.path < n = bounded t' q' (λ s R w. N s (reached-from (AnyArc t.arcs) t.initials (initial I) R) w) U' P.path P.allowed in
        let e : size P.path ≡ n = size_is t' P.path ∙ ap length P.arcs-are ∙ edges-length n in
        omega (arith, h, e)

  -- An idle cycle is an endless trace, with any data at its beginning.
  abbrev side_moved : Bool → ℕ → Word → Word
  side_moved true x w = w
  side_moved false x w = w ++ side_writes false x

  side_idle_lem : (r : Bool) (x : ℕ) (w : Word) → side_idle r x ≡ true → side_rel r x w (side_moved r x w)
  side_idle_lem true zero w e = refl
  side_idle_lem true (suc x) w e = absurd (let z : ◌≡◌ {A = ℕ} 0 1 = cc in omega arith)
  side_idle_lem false zero w e = sym (append-nil w)
  side_idle_lem false (suc x) w e = refl

  abbrev moved_by : Arc → Word × Word → Word × Word
  moved_by a d = (side_moved (reads k upper_side) a.upper d.0, side_moved (reads k lower_side) a.lower d.1)

  idle-related : (a : Arc) (d : Word × Word) → idle k a ≡ true → (s : Side) → side_rel (reads k s) (letter s a) (on s d) (on s (moved_by a d))
  idle-related a d e upper_side = side_idle_lem (reads k upper_side) a.upper d.0 (and_left (side_idle (reads k upper_side) a.upper) (side_idle (reads k lower_side) a.lower) e)
  idle-related a d e lower_side = side_idle_lem (reads k lower_side) a.lower d.1 (and_right (side_idle (reads k upper_side) a.upper) (side_idle (reads k lower_side) a.lower) e)

  module _ (s : ℕ) (w : IdleWalk t k s s) (u : Word × Word) where
    abbrev turn : ℕ → (x : ℕ) × IdleWalk t k x x
    turn zero = (s, w)
    turn (suc n) = ((rotated (IdleArc t k) (turn n).0 (turn n).1).0, (rotated (IdleArc t k) (turn n).0 (turn n).1).2)

    abbrev arc_after : (n : ℕ) → IdleArc t k (turn n).0 (turn (suc n)).0
    arc_after n = (rotated (IdleArc t k) (turn n).0 (turn n).1).1

    abbrev data_at : ℕ → Word × Word
    data_at zero = u
    data_at (suc n) = moved_by (arc_after n).arc (data_at n)

    related : (n : ℕ) → αOf t.classes k (arc_after n).arc (data_at n) (data_at (suc n))
    related n =
        let A = arc_after n in
        (relation-plain t.classes k A.arc (data_at n) (data_at (suc n)) (idle-plain t U A.arc A.listed k A.passes)).1
        (from-sides k A.arc (data_at n) (data_at (suc n)) (idle-related A.arc (data_at n) A.passes))

    endless : (n : ℕ) → Edge (kernel t k) (data_at n, (turn n).0) (data_at (suc n), (turn (suc n)).0)
    endless n =
        let A = arc_after n in
        record { arc = A.arc; listed = A.listed; from = A.from; to = A.to; related = related n }

  -- An endless trace from a state: on a written side the word at its beginning is given, on a read side it is free.
  abbrev Given : Bool → Word → Word → Type 0
  Given true v w = Unit {0}
  Given false v w = v ≡ w

  record EndlessFrom (s : ℕ) (u : Word × Word) : Type 0 where
    cells : ℕ → Cell (kernel t k)
    edges_of : (n : ℕ) → Edge (kernel t k) (cells n) (cells (suc n))
    at : (cells 0).1 ≡ s
    given : (x : Side) → Given (reads k x) (on x (cells 0).0) (on x u)

  -- An arc to that state, put before it: its letter, for a class some letter of it, is read first, or was written last.
  abbrev side_before : Bool → ℕ → Word → Word → Word
  side_before true zero u w = w
  side_before true (suc x) u w = suc x ∷ w
  side_before false x u w = u

  before-related : (r : Bool) (x : ℕ) (u w : Word) → Given r w (u ++ side_writes false x) → side_rel r x (side_before r x u w) w
  before-related true zero u w e = refl
  before-related true (suc x) u w e = refl
  before-related false zero u w e = sym (e ∙ append-nil u)
  before-related false (suc x) u w e = e

  before-given : (r : Bool) (x : ℕ) (u w : Word) → Given r (side_before r x u w) u
  before-given true x u w = tt
  before-given false x u w = refl

  given-same : (r : Bool) (u : Word) → Given r u u
  given-same true u = tt
  given-same false u = refl

  abbrev written_after : Arc → Word × Word → Word × Word
  written_after a u = (u.0 ++ side_writes false a.upper, u.1 ++ side_writes false a.lower)

  abbrev plain_for : {s r : ℕ} (g : AnyArc t.arcs s r) → (x : ℕ) × (b : Arc) × PlainOf t.classes g.arc x b
  plain_for g = some-plain t U g.arc g.listed

  put-before : (s r : ℕ) (g : AnyArc t.arcs s r) (u : Word × Word) → EndlessFrom r (written_after (plain_for g).1 u) → EndlessFrom s u
  put-before s r g u W = record { cells = cells'; edges_of = edge; at = refl; given = given' }
    where
      b : Arc
      b = (plain_for g).1

      d : Word × Word
      d = (side_before (reads k upper_side) b.upper u.0 (W.cells 0).0.0, side_before (reads k lower_side) b.lower u.1 (W.cells 0).0.1)

      cells' : ℕ → Cell (kernel t k)
      cells' zero = (d, s)
      cells' (suc n) = W.cells n

      sides : (x : Side) → side_rel (reads k x) (letter x b) (on x d) (on x (W.cells 0).0)
      sides upper_side = before-related (reads k upper_side) b.upper u.0 (W.cells 0).0.0 (W.given upper_side)
      sides lower_side = before-related (reads k lower_side) b.lower u.1 (W.cells 0).0.1 (W.given lower_side)

      edge : (n : ℕ) → Edge (kernel t k) (cells' n) (cells' (suc n))
      edge zero =
          record {
            arc = g.arc;
            listed = g.listed;
            from = g.from;
            to = g.to ∙ sym W.at;
            related = relation-from t.classes k g.arc d (W.cells 0).0 (plain_for g).0 b (plain_for g).2 (from-sides k b d (W.cells 0).0 sides);
          }
      edge (suc n) = W.edges_of n

      given' : (x : Side) → Given (reads k x) (on x d) (on x u)
      given' upper_side = before-given (reads k upper_side) b.upper u.0 (W.cells 0).0.0
      given' lower_side = before-given (reads k lower_side) b.lower u.1 (W.cells 0).0.1

  around : (s : ℕ) → IdleWalk t k s s → (u : Word × Word) → EndlessFrom s u
  around s w u = record { cells = λ n. (data_at s w u n, (turn s w u n).0); edges_of = endless s w u; at = refl; given = λ x. given-same (reads k x) (on x u) }

  -- so one from a reached state becomes one from an initial cell
  ends : Noetherian (kernel t k) → {s : ℕ} → StateReached t s → ((u : Word × Word) → EndlessFrom s u) → ⊥
  ends N (initial m) W = let X = W ([], []) in N X.cells (rw X.at m) X.edges_of
  ends N (by_edge {s} {r} R g) W = ends N R (λ u. put-before s r g u (W (written_after (plain_for g).1 u)))

  pub noetherian : NoIdleCycle t k → Noetherian (kernel t k)
  noetherian N c I E = never c E I N

  pub no_idle-cycle : Noetherian (kernel t k) → NoIdleCycle t k
  no_idle-cycle N s R w = ends N R (around s w)
