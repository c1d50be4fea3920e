-- The accepting paths are report 6486's accepting traces, one to one, and the readings what φ₋ ∘ ‖M‖ ∘ φ₊ gives.
use Prim.Native.Nat.{ℕ, ◌-◌, ◌≤◌, ◌<◌}
use native.Mathlib.Omega.{arith}
use mathlib.Core.Path.{◌≡◌, refl, sym, ap, ap₂, subst, subst₂, ◌∙◌}
use mathlib.Core.Logic.{◌↔◌}
use mathlib.Core.Bool.{Bool, true, false}
use mathlib.Core.Option.{Option, some}
use mathlib.Core.List.{List, [], ◌∷◌, ◌++◌, append-nil}
use lib.ListN.{length, get_or, length-drop}
use lib.Seq.{drop-length}
use borrow.Author.Tests.{eqb-true, eq-eqb}
use Rattle.table_format.specs.Table.{Arc, Table}
use Rattle.table_format.proofs.Tests.{and_left, and_right, and_both}
use Rattle.table_format.proofs.Ruled.{Ruled}
use Rattle.machine.specs.Query.{Task, recognition, synthesis, analysis, Side, upper_side, lower_side, reads, Query}
use Rattle.machine.specs.Transducer.{member, side_writes, side_done, side_to_read, Passed, writes_arc, done_on, plain_machine, penalty_at, machine}
use Rattle.machine.specs.Machine.{Path, start, more, final, datum, listed, tested, accepts, output, Allowed}
use Rattle.machine.specs.Report.{Kernel, Cell, Trace, null, thence, KernelPath, empty_path, longer_path, label, arcs_of, Word, kernel, kernel_under, Output, both_empty, φ₋, φ₊, Solves}
use Rattle.machine.specs.Agree.{place, arcs_back, input_of, output_of, TraceFor, Same, penalties, Lowered}
use Rattle.machine.proofs.Transducer.{at_mem, mem-at, step-parts}
use Rattle.machine.proofs.Ceiling as ceiling
use Rattle.machine.proofs.Penalties.{allowed-plain, output-plain}
use Rattle.machine.proofs.Lift.{sum-arcs, lift, lower}
use Rattle.machine.proofs.Bound.{count_if, within, has-datum}
use Rattle.graph.proofs.Lists.{member-mem, mem-member}
use Rattle.machine.proofs.Traces.{side_data, trace-end, letters, letters-step, data_of, begin, begin_at, TraceOf, PathOf, path-trace, trace-path, path_unique}

-- a path that accepts with the reading x
pub record AcceptingPath (t : Table) (q : Query) (x : Output q.task) : Type 0 where
  pub path : Path
  pub allowed : Allowed (machine t q) path
  pub accepted : accepts (machine t q) path ≡ true
  pub told : output_of q.task (output (machine t q) path) ≡ x

-- Paths of the kernel with their labels are traces.

module _ (K : Kernel) where
  label-trace : {q r : ℕ} (w : KernelPath K q r) (d e : K.Data) → label K w d e → Trace K (d, q) (e, r)
  label-trace {q} empty_path d e l = subst (λ (x : K.Data). Trace K (d, q) (x, q)) l null
  label-trace (longer_path w a m f g) d e l = thence (label-trace w d l.0 l.1) (record { arc = a; listed = m; from = f; to = g; related = l.2 })

  trace-label : {q : ℕ} {d : K.Data} {c : Cell K} → Trace K (d, q) c → (w : KernelPath K q c.1) × label K w d c.0
  trace-label null = (empty_path, refl)
  trace-label (thence T E) = let W = trace-label T in (longer_path W.0 E.arc E.listed E.from E.to, (_, W.1, E.related))

-- One side at the end: a side that is read has nothing left, a side that is written tells its word.

abbrev finished : Bool → Word → Type 0
finished true v = v ≡ []
finished false v = Unit {0}

abbrev outcome : Bool → Word → Word
outcome true v = []
outcome false v = v

done-to : (r : Bool) (w : Word) (n : ℕ) (v : Word) → side_done r w n ≡ true → finished r (side_data r w n v)
done-to true w n v e = rw (eqb-true n (length w) e) (drop-length w)
done-to false w n v e = tt

done-from : (r : Bool) (w : Word) (n : ℕ) (v : Word) → count_if r n ≤ side_to_read r w → finished r (side_data r w n v) → side_done r w n ≡ true
done-from true w n v h e = eq-eqb n (length w) (let k : length w - n ≡ 0 = sym (length-drop n w) ∙ ap length e in omega arith)
done-from false w n v h e = refl

told_more : (k : Task) (wu wl vu vl : Word) (i j m n x y : ℕ)
    → outcome (reads k upper_side) (side_data (reads k upper_side) wu m (vu ++ side_writes false x)) ++ outcome (reads k lower_side) (side_data (reads k lower_side) wl n (vl ++ side_writes false y))
    ≡ (outcome (reads k upper_side) (side_data (reads k upper_side) wu i vu) ++ outcome (reads k lower_side) (side_data (reads k lower_side) wl j vl)) ++ (side_writes (reads k upper_side) x ++ side_writes (reads k lower_side) y)
told_more recognition wu wl vu vl i j m n x y = refl
told_more synthesis wu wl vu vl i j m n x y = refl
told_more analysis wu wl vu vl i j m n x y = append-nil (vu ++ side_writes false x) ∙ sym (ap₂ (λ (a b : Word). a ++ b) (append-nil vu) (append-nil (side_writes false x)))

told_none : (k : Task) (wu wl : Word) → outcome (reads k upper_side) (side_data (reads k upper_side) wu 0 []) ++ outcome (reads k lower_side) (side_data (reads k lower_side) wl 0 []) ≡ []
told_none recognition wu wl = refl
told_none synthesis wu wl = refl
told_none analysis wu wl = refl

-- the data at the end of a path that accepts
pub record Ends (k : Task) (e : Word × Word) (o : Word) : Type 0 where
  pub up_done : finished (reads k upper_side) e.0
  pub low-done : finished (reads k lower_side) e.1
  pub told : outcome (reads k upper_side) e.0 ++ outcome (reads k lower_side) e.1 ≡ o

-- The interface of the three tasks.

empty-both : (v w : Word) → both_empty v w ≡ true → (v ≡ []) × (w ≡ [])
empty-both [] [] e = (refl, refl)
empty-both [] (x ∷ w) e = (refl, cc)
empty-both (x ∷ v) [] e = (cc, refl)
empty-both (x ∷ v) (y ∷ w) e = (cc, cc)

abbrev begin_of : Task → Word → Word → Word × Word
begin_of k u l = (side_data (reads k upper_side) u 0 [], side_data (reads k lower_side) l 0 [])

fed-to : (k : Task) (u l : Word) (d : Word × Word) → φ₋ k (input_of k u l) d → begin_of k u l ≡ d
fed-to recognition u l d h = h
fed-to synthesis u l d h = λ i. (sym h.0 i, sym h.1 i)
fed-to analysis u l d h = λ i. (sym h.0 i, sym h.1 i)

fed-from : (k : Task) (u l : Word) → φ₋ k (input_of k u l) (begin_of k u l)
fed-from recognition u l = refl
fed-from synthesis u l = (refl, refl)
fed-from analysis u l = (refl, refl)

told-to : (k : Task) (e : Word × Word) (v : Word) → φ₊ k e (output_of k v) → (o : Word) × Ends k e o × (output_of k o ≡ output_of k v)
told-to recognition e v h = let z = empty-both e.0 e.1 h in ([], record { up_done = z.0; low-done = z.1; told = refl }, refl)
told-to synthesis e v h = (v, record { up_done = h.0; low-done = tt; told = h.1 }, refl)
told-to analysis e v h = (v, record { up_done = tt; low-done = h.1; told = append-nil e.0 ∙ h.0 }, refl)

told-from : (k : Task) (e : Word × Word) (o : Word) → Ends k e o → φ₊ k e (output_of k o)
told-from recognition e o E = ap₂ both_empty E.up_done E.low-done
told-from synthesis e o E = (E.up_done, E.told)
told-from analysis e o E = (sym (append-nil e.0) ∙ E.told, E.low-done)

-- A path's data at its end.

abbrev unwritten : Side → Word
unwritten s = []

module _ (t : Table) (q : Query) where
  -- report 6486's machine under the query's ceiling
  abbrev K : Kernel
  K = kernel_under t q.task q.ceiling

  abbrev told_by : Word × Word → Word
  told_by e = outcome (reads q.task upper_side) e.0 ++ outcome (reads q.task lower_side) e.1

  abbrev end_of : Path → Passed → Word × Word
  end_of p d = data_of t q unwritten p d

  abbrev letters_of : Side → Path → Word
  letters_of s p = letters t q unwritten s p

  -- the output is what the data tell
  output-is : (p : Path) (d : Passed) → datum (plain_machine t q) p ≡ some d → told_by (end_of p d) ≡ output (plain_machine t q) p
  output-is (start i) d e = subst (λ (x : Passed). told_by (end_of (start i) x) ≡ []) (cc) (told_none q.task q.upper_word q.lower_word)
  output-is (more p n) d e =
      let P = step-parts t q p n d e in
      let b : Arc = P.1 in
      ap₂ (λ (u l : Word). told_by (side_data (reads q.task upper_side) q.upper_word d.up u, side_data (reads q.task lower_side) q.lower_word d.low l))
      (letters-step t q unwritten upper_side p n P.0 b P.2 P.3) (letters-step t q unwritten lower_side p n P.0 b P.2 P.3)
      ∙ told_more q.task q.upper_word q.lower_word (letters_of upper_side p) (letters_of lower_side p) P.0.up P.0.low d.up d.low b.upper b.lower
      ∙ ap₂ (λ (x y : Word). x ++ y) (output-is p P.0 P.2)
      (sym (ap (λ (o : Option Passed). listed o ((plain_machine t q).writes n)) P.2 ∙ ap (λ (o : Option Arc). listed o (writes_arc q)) P.3))

  ends-to : (p : Path) (d : Passed) → datum (plain_machine t q) p ≡ some d → (plain_machine t q).done d ≡ true → Ends q.task (end_of p d) (output (plain_machine t q) p)
  ends-to p d e h =
      record {
        up_done = done-to (reads q.task upper_side) q.upper_word d.up (letters_of upper_side p) (and_left (done_on q upper_side d) (done_on q lower_side d) h);
        low-done = done-to (reads q.task lower_side) q.lower_word d.low (letters_of lower_side p) (and_right (done_on q upper_side d) (done_on q lower_side d) h);
        told = output-is p d e;
      }

  ends-from : (p : Path) (d : Passed) → datum (plain_machine t q) p ≡ some d → (o : Word) → Ends q.task (end_of p d) o → ((plain_machine t q).done d ≡ true) × (output (plain_machine t q) p ≡ o)
  ends-from p d e o E = (
    and_both (done-from (reads q.task upper_side) q.upper_word d.up (letters_of upper_side p) (within t q p d e upper_side) E.up_done)
        (done-from (reads q.task lower_side) q.lower_word d.low (letters_of lower_side p) (within t q p d e lower_side) E.low-done),
    sym (output-is p d e) ∙ E.told,
  )

  place_in : (p : Path) → Allowed (plain_machine t q) p → place p < length t.initials
  place_in (start i) A = A
  place_in (more p n) A = place_in p A.0

  -- its sum is that of its arcs, and an accepting path under the ceiling is one without it
  module _ (p : Path) (A : Allowed (machine t q) p) where
    within-ceiling : penalties (arcs_back t p) ≤ q.ceiling
    within-ceiling = subst (λ (s : ℕ). s ≤ q.ceiling) (sum-arcs t p) (ceiling.allowed-to (plain_machine t q) (penalty_at t) q.ceiling p A).1

    accepts-plain : accepts (machine t q) p ≡ accepts (plain_machine t q) p
    accepts-plain = ceiling.accepts-same (plain_machine t q) (penalty_at t) q.ceiling p A

  module _ (U : Ruled t) where
    -- the trace of an accepting path
    pub trace_of : (x : Output q.task) (P : AcceptingPath t q x) → (T : TraceFor t q x) × Same t q x P.path T
    trace_of x P = (
      record {
        from = get_or t.initials (place p) 0;
        to = final (plain_machine t q) p;
        begin = (begin_of q.task q.upper_word q.lower_word, 0);
        end = (end_of p d, penalties (arcs_of T.0));
        initial = at_mem t.initials (place p) 0 (place_in p A);
        fed = (fed-from q.task q.upper_word q.lower_word, refl);
        trace = L.0;
        terminal = member-mem _ _ (and_left b c accepted);
        told = subst (λ (y : Output q.task). φ₊ q.task (end_of p d) y) told (told-from q.task (end_of p d) (output (plain_machine t q) p) (ends-to p d D.1 (rw D.1 at (and_right b c accepted))));
      },
      record { from_is = refl; arcs-are = sym (L.1 ∙ T.1) },
    )
      where
        p : Path
        p = P.path

        A : Allowed (plain_machine t q) p
        A = allowed-plain t q p P.allowed

        accepted : accepts (plain_machine t q) p ≡ true
        accepted = sym (accepts-plain p P.allowed) ∙ P.accepted

        told : output_of q.task (output (plain_machine t q) p) ≡ x
        told = ap (output_of q.task) (sym (output-plain t q p P.allowed)) ∙ P.told

        D : (d : Passed) × (datum (plain_machine t q) p ≡ some d)
        D = has-datum t q p A

        d : Passed
        d = D.0

        b : Bool
        b = member (final (plain_machine t q) p) t.terminals

        c : Bool
        c = tested (datum (plain_machine t q) p) (plain_machine t q).done

        T : TraceOf t q unwritten p d
        T = path-trace t q unwritten U p A d D.1

        L : (S : Trace (kernel_under t q.task q.ceiling) ((begin t q unwritten, 0), get_or t.initials (place p) 0) ((end_of p d, penalties (arcs_of T.0)), final (plain_machine t q) p))
            × (arcs_of S ≡ arcs_of T.0)
        L = lift t q.task q.ceiling T.0 (subst (λ (l : List Arc). penalties l ≤ q.ceiling) (sym T.1) (within-ceiling p P.allowed))

    -- the path of an accepting trace
    pub path_of_lem : (v : Word) (T : TraceFor t q (output_of q.task v)) → (P : AcceptingPath t q (output_of q.task v)) × Same t q (output_of q.task v) P.path T
    path_of_lem v T = (
      record {
        path = P.path;
        allowed = A;
        accepted = accepts-plain P.path A
            ∙ and_both (ap (λ (s : ℕ). member s t.terminals) P.state-is ∙ mem-member T.to t.terminals T.terminal) (ap (λ (o : Option Passed). tested o (plain_machine t q).done) P.datum-is ∙ E.0);
        told = ap (output_of q.task) (output-plain t q P.path A ∙ E.1) ∙ O.2;
      },
      record { from_is = ap (λ (i : ℕ). get_or t.initials i 0) P.from ∙ I.2; arcs-are = arcs },
    )
      where
        I : (i : ℕ) × (i < length t.initials) × (get_or t.initials i 0 ≡ T.from)
        I = mem-at t.initials T.from 0 T.initial

        S : Lowered t q.task q.ceiling T.trace
        S = lower t q.task q.ceiling T.trace T.fed.1

        -- the trace, from the cell where the machine begins
        moved : (M : Trace (kernel t q.task) (begin_at t q unwritten I.0) (T.end.0, T.to)) × (arcs_of M ≡ arcs_of T.trace)
        moved = carry (fed-to q.task q.upper_word q.lower_word T.begin.0 T.fed.0) I.2
          where
            carry : {c : Word × Word} {s : ℕ} → c ≡ T.begin.0 → s ≡ T.from → (M : Trace (kernel t q.task) (c, s) (T.end.0, T.to)) × (arcs_of M ≡ arcs_of T.trace)
            carry e f =
                subst₂ (λ (c : Word × Word) (s : ℕ). (M : Trace (kernel t q.task) (c, s) (T.end.0, T.to)) × (arcs_of M ≡ arcs_of T.trace)) (sym e) (sym f) (S.trace, S.arcs-are)

        P : PathOf t q unwritten I.0 (T.end.0, T.to) (arcs_of moved.0)
        P = trace-path t q unwritten U I.0 I.1 moved.0

        arcs : arcs_back t P.path ≡ arcs_of T.trace
        arcs = P.arcs-are ∙ moved.1

        A : Allowed (machine t q) P.path
        A =
            ceiling.allowed-from (plain_machine t q) (penalty_at t) q.ceiling P.path P.allowed
            (subst (λ (s : ℕ). s ≤ q.ceiling) (sym (sum-arcs t P.path ∙ ap penalties arcs)) S.sum-within)

        O : (o : Word) × Ends q.task T.end.0 o × (output_of q.task o ≡ output_of q.task v)
        O = told-to q.task T.end.0 v T.told

        E : ((plain_machine t q).done P.passed_is ≡ true) × (output (plain_machine t q) P.path ≡ O.0)
        E = ends-from P.path P.passed_is P.datum-is O.0 (subst (λ (e : Word × Word). Ends q.task e O.0) (sym P.data_is) O.1)

    -- no two paths have one trace
    pub one-path : (x : Output q.task) (p r : Path) → Allowed (machine t q) p → Allowed (machine t q) r → (T : TraceFor t q x) → Same t q x p T → Same t q x r T → p ≡ r
    one-path x p r A B T e f =
        let C = allowed-plain t q p A in
        let D = allowed-plain t q r B in
        path_unique t q U p r C D (U.initials-differ 0 (place p) (place r) (place_in p C) (place_in r D) (e.from_is ∙ sym f.from_is)) (e.arcs-are ∙ sym f.arcs-are)

    -- no two traces have one path: they have the same cells at both ends and the same arcs
    pub one-trace : (x y : Output q.task) (p : Path) (T : TraceFor t q x) (S : TraceFor t q y) → Same t q x p T → Same t q y p S
        → (◌≡◌ {A = Cell K} (T.begin, T.from) (S.begin, S.from)) × (arcs_of T.trace ≡ arcs_of S.trace) × (◌≡◌ {A = Cell K} (T.end, T.to) (S.end, S.to))
    one-trace x y p T S e f = (λ i. (((begun i).0, (T.fed.1 ∙ sym S.fed.1) i), (begun i).1), arcs, λ i. (((ended i).0, sums i), (ended i).1))
      where
        begun : ◌≡◌ {A = Cell (kernel t q.task)} (T.begin.0, T.from) (S.begin.0, S.from)
        begun = λ i. (
          (sym (fed-to q.task q.upper_word q.lower_word T.begin.0 T.fed.0) ∙ fed-to q.task q.upper_word q.lower_word S.begin.0 S.fed.0) i,
          (sym e.from_is ∙ f.from_is) i,
        )

        arcs : arcs_of T.trace ≡ arcs_of S.trace
        arcs = sym e.arcs-are ∙ f.arcs-are

        -- without the sums
        first : Lowered t q.task q.ceiling T.trace
        first = lower t q.task q.ceiling T.trace T.fed.1

        second : Lowered t q.task q.ceiling S.trace
        second = lower t q.task q.ceiling S.trace S.fed.1

        ended : ◌≡◌ {A = Cell (kernel t q.task)} (T.end.0, T.to) (S.end.0, S.to)
        ended = trace-end t q.task first.trace second.trace begun (first.arcs-are ∙ arcs ∙ sym second.arcs-are)

        sums : T.end.1 ≡ S.end.1
        sums = first.sum_is ∙ ap penalties arcs ∙ sym second.sum_is

    -- the readings are the report's relation
    pub solves : (v : Word) → AcceptingPath t q (output_of q.task v) ↔ Solves t q.task q.ceiling (input_of q.task q.upper_word q.lower_word) (output_of q.task v)
    solves v = (to, from)
      where
        to : AcceptingPath t q (output_of q.task v) → Solves t q.task q.ceiling (input_of q.task q.upper_word q.lower_word) (output_of q.task v)
        to P =
            let T = (trace_of (output_of q.task v) P).0 in
            (T.end, (T.begin, T.fed, (T.from, T.to, T.initial, T.terminal, trace-label K T.trace)), T.told)

        from : Solves t q.task q.ceiling (input_of q.task q.upper_word q.lower_word) (output_of q.task v) → AcceptingPath t q (output_of q.task v)
        from S =
            let C = S.1.2 in
            (path_of_lem v
            (record {
              from = C.0;
              to = C.1;
              begin = S.1.0;
              end = S.0;
              initial = C.2;
              fed = S.1.1;
              trace = label-trace K C.4.0 S.1.0 S.0 C.4.1;
              terminal = C.3;
              told = S.2;
            })
            ).0
