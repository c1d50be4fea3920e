-- The theorems that carry the mission, stated together. What each one means is in specs/; how it is shown is in the files that it names.
use Prim.Native.Nat.{ℕ, suc, ◌+◌, ◌*◌, ◌<◌, ◌≤◌}
use native.Mathlib.Nat.{zero-add}
use native.Mathlib.Omega.{arith}
use mathlib.Core.Path.{◌≡◌, refl, sym, ap, subst, ◌∙◌}
use mathlib.Core.Logic.{◌↔◌}
use mathlib.Core.Bool.{Bool, true, false}
use mathlib.Core.Option.{some}
use mathlib.Core.List.{List, [], ◌∷◌, Memᴰ, Sublistᴰ}
use lib.ListN.{length, take, drop, replicate}
use lib.Dec.{T, leb}
use Rattle.table_format.specs.Table.{Arc, Table, no_arc, without_penalties}
use Rattle.table_format.specs.Classes.{is_plain, row_of, with_letter}
use Rattle.table_format.specs.Rules.{keeps_rules}
use Rattle.table_format.specs.Loaded.{loaded}
use Rattle.table_format.specs.Parse.{accepted, parsed}
use Rattle.refusal.specs.declared.Refusal.TheVariants.{State}
use Rattle.refusal.specs.declared.Refusal.TheVariants as refusals
use Rattle.refusal.specs.declared.InputCause.TheVariants.{CeilingLimit}
use Rattle.refusal.specs.declared.StateCause.TheVariants.{Place}
use Rattle.table_format.proofs.Ruled.{Ruled, ruled}
use Rattle.table_format.proofs.All.{all_get_d, all_from}
use Rattle.graph.specs.Lists.{keep}
use Rattle.machine.specs.declared.Run.{Run}
use Rattle.machine.specs.declared.Answer.TheVariants.{Found, Refused}
use Rattle.machine.specs.declared.StartAnswer.TheVariants.{Ready}
use Rattle.machine.specs.declared.StartAnswer.TheVariants as S
use Rattle.machine.specs.declared.Started.{Started}
use Rattle.machine.specs.Query.{Task, Query, most_ceiling, with_ceiling}
use Rattle.machine.specs.Machine.{Machine, Path, size, final, datum, output, ArcOf, Allowed, Bounded}
use Rattle.machine.specs.Tour.{paths_in, trail, after, tour, readings, allowed_paths, tree_size}
use Rattle.machine.specs.Place.{Placed, InSearch}
use Rattle.machine.specs.Frames.{Frame, Store, Held, walk_to}
use Rattle.machine.specs.Call.{Replied, Steps, Stops}
use Rattle.machine.specs.Order.{accepting, outputs, ListsAllowed, Lists, Narrows}
use Rattle.machine.specs.Ceiling.{sum_of}
use Rattle.machine.specs.Denotation.{state_tells, initials_tell}
use Rattle.machine.specs.Transducer.{arc_at, Passed, follow_arc, writes_arc, letters_to_read, written_by, plain_machine, penalty_at, machine}
use Rattle.machine.specs.Classes.{Fits, one_more, letter_written}
use Rattle.machine.specs.Idle.{idle, StateReached, IdleWalk, NoIdleCycle, CycleStates, has_idle_cycle, ShownIdle, shown_idle}
use Rattle.machine.specs.Stack.{most_frames, frames_in}
use Rattle.refusal.specs.Told.{found_kind, refused_kind}
use Rattle.machine.specs.Asked.{Asked, runs, asked}
use Rattle.machine.specs.Start.{first_run, no_run, started_with, started, start_told_by, StartedIs}
use Rattle.machine.specs.Reading.{Outcome, told_by, outcome, CallBy, RefusedLeaves}
use Rattle.machine.specs.Demand.{Lent, CallTells, Ample, AmpleCalls, other, Handed, received, steps_told, unended, LastEnds, Demand3}
use Rattle.machine.specs.Report.{LocallyFinite, ◌∘◌, Word, α, upper_alone, lower_alone, αOf, Input, Output, Cell, Trace, arcs_of, kernel, kernel_under, Noetherian, Finite, Solves}
use Rattle.machine.specs.Expand.{expanded}
use Rattle.machine.specs.Agree.{input_of, output_of, TraceFor, Same, penalties, with_sum, without_sum, Lowered}
use Rattle.machine.specs.Cases.{Ask, lent_all, AsksAmple, table_k, text_k, ask, rows, rows_hold}
use Rattle.machine.proofs.Tour as tours
use Rattle.machine.proofs.Order as order
use Rattle.machine.proofs.Narrow as narrow
use Rattle.machine.proofs.Denotation as denotation
use Rattle.machine.proofs.Transducer as transducer
use Rattle.machine.proofs.Idle as idles
use Rattle.machine.proofs.Classes as classes
use Rattle.machine.proofs.Bound as bounds
use Rattle.machine.proofs.Penalties as lifted
use Rattle.machine.proofs.Ceiling as ceilings
use Rattle.machine.proofs.Higher as higher
use Rattle.machine.proofs.Free as frees
use Rattle.machine.proofs.CyclesIgnore as ignores
use Rattle.machine.proofs.ThirtyNine as limits
use Rattle.machine.proofs.Asked as asks
use Rattle.machine.proofs.Start as starts
use Rattle.machine.proofs.Reading as calls
use Rattle.machine.proofs.Demand as demand
use Rattle.machine.proofs.Stops as stops
use Rattle.machine.proofs.Live as live
use Rattle.machine.proofs.Handed as handed
use Rattle.machine.proofs.Full as full
use Rattle.machine.proofs.Traces as traces
use Rattle.machine.proofs.Lift as lifts
use Rattle.machine.proofs.Agree as agree
use Rattle.machine.proofs.Expand as expand
use Rattle.machine.proofs.ExpandedReadings as written
use Rattle.machine.proofs.Noether as noether
use Rattle.machine.proofs.Finite as finite
use Rattle.machine.proofs.Cases as cases
use Rattle.machine.proofs.Refuted as refuted

-- THE TOUR of any machine.

-- "The tour has as many entries as the search tree's size."
pub tree : (M : Machine) → length (tour M) ≡ tree_size M
tree = tours.tree_law

-- "The readings of its accepting paths, in order": the outputs of the accepting paths that it holds.
pub readings-are : (M : Machine) → readings M (tour M) ≡ outputs M (accepting M (paths_in (tour M)))
readings-are M = order.readings-outputs M (tour M)

-- They are also told by recursion on states and data, without paths.
pub tour-tells : (M : Machine) → readings M (tour M) ≡ initials_tell M M.initials
tour-tells = denotation.tour-tells

-- Where the limit is above the arcs of every path that the words allow; nothing but this bound is used.
module _ (M : Machine) (B : Bounded M) where
  -- What follows a path is as document 01 says; the fuel of its definition plays no part.
  pub following-is : (p : Path) → Allowed M p → after M p ≡ trail M (after M) p (M.first (final M p)) (M.arity (final M p))
  following-is = tours.unrolls M B

  -- The paths by which the search tree is counted are those that the words allow, each once.
  pub tree_paths : ListsAllowed M (allowed_paths M)
  tree_paths = order.paths_listed M B

  -- The accepting paths of the tour are all accepting paths, each once, by place of the initial state, then arc number at the first
  -- difference, a path before its continuations (`Rising`); no other list is.
  pub listed : Lists M (accepting M (paths_in (tour M)))
  listed = order.tour_lists M B

  pub no_other : (ps : List Path) → Lists M ps → ps ≡ accepting M (paths_in (tour M))
  no_other ps P = order.lists_same M ps (accepting M (paths_in (tour M))) P listed

-- A machine that narrows another lists the other's accepting paths that pass the test, in the same order.
pub narrowed : (M N : Machine) (test : Path → Bool) → Narrows M N test → Bounded M → Bounded N → accepting M (paths_in (tour M)) ≡ keep test (accepting N (paths_in (tour N)))
narrowed = narrow.narrowed

-- REPORT 6486: the relation of an arc with two letters is the composition of those of each letter, as for a morphism.

pub label_is : (k : Task) (a : Arc) (d e : Word × Word) → α k a d e ↔ ◌∘◌ (α k (upper_alone a)) (α k (lower_alone a)) d e
label_is = traces.label_is

-- They are locally finite, for any arc and task. Not every relation is: that of all words with all is not.
pub label_finite : (k : Task) (a : Arc) → LocallyFinite (α k a)
label_finite = finite.label_finite

pub all_infinite : LocallyFinite {A = Word} {B = Word} (λ v w. Unit {0}) → ⊥
all_infinite = finite.all_infinite

-- and a machine with it on an arc is not finite
pub all-not_finite : (t : Table) (a : Arc) → Memᴰ a t.arcs → Finite (record { Data = Word; table = t; relation = λ b v w. Unit {0} }) → ⊥
all-not_finite t a m F = finite.all_infinite (F.locally_finite a m)

-- LETTER CLASSES (document 02, slip 6). An arc without a class does what its letters say; for one with a class, for any table and task, by its
-- letters (`penalty-fits`, below, says what its penalty does):

module _ (t : Table) (q : Query) (n : ℕ) (d : Passed) where
  pub plain-arc : is_plain (arc_at t n) ≡ true → ((plain_machine t q).follow n d ≡ follow_arc q (arc_at t n) d) × ((plain_machine t q).writes n d ≡ writes_arc q (arc_at t n))
  plain-arc p = (classes.plain_follows t q (arc_at t n) d p, classes.plain-writes t q (arc_at t n) d p)

  module _ (class : is_plain (arc_at t n) ≡ false) where
    -- "It fits if the next letter is in the class; in recognition both words must have that same letter next": it fits exactly where one letter of
    -- its row is the next of every word that the task reads.
    pub class_fits_lem : ((e : Passed) × ((plain_machine t q).follow n d ≡ some e)) ↔ ((x : ℕ) × Fits (row_of t.classes (arc_at t n).upper) q d x)
    class_fits_lem = classes.class_fits_lem t q (arc_at t n) d class

    -- "Letters 64 to 71 on an arc shall mean one letter": one letter more is passed on both sides.
    pub class_passes : (e : Passed) → (plain_machine t q).follow n d ≡ some e → one_more d ≡ e
    class_passes = classes.class_passes t q (arc_at t n) d class

    -- "in synthesis or analysis the letter read is written", and in recognition nothing.
    pub class_writes : (x : ℕ) → Fits (row_of t.classes (arc_at t n).upper) q d x → (plain_machine t q).writes n d ≡ letter_written q.task x
    class_writes = classes.class_writes t q (arc_at t n) d class

-- Report 6486's relation of a class is the union of those of its letters: it is related by the plain arc of some letter of its row. DEMAND 2 below
-- holds for these relations.
pub class_union : (rows : List (List ℕ)) (k : Task) (a : Arc) → is_plain a ≡ false → (d e : Word × Word)
    → αOf rows k a d e ↔ ((x : ℕ) × Memᴰ (suc x) (row_of rows a.upper) × α k (with_letter a (suc x)) d e)
class_union rows k a class d e = traces.relation_class rows k a d e class

pub plain-relation : (rows : List (List ℕ)) (k : Task) (a : Arc) → is_plain a ≡ true → (d e : Word × Word) → αOf rows k a d e ↔ α k a d e
plain-relation rows k a plain d e = traces.relation-plain rows k a d e plain

module _ (t : Table) (rules : keeps_rules t ≡ true) where
  -- "A class arc is never idle."
  pub class_not-idle : (k : Task) (a : Arc) → Memᴰ a t.arcs → is_plain a ≡ false → idle k a ≡ false
  class_not-idle k a m = classes.class_not-idle t (ruled t rules) a m k

  -- No class stands in a reading: its letters are 1 to 63.
  pub reading-letters : (q : Query) (p : Path) (x : ℕ) → Memᴰ x (output (machine t q) p) → (1 ≤ x) × (x ≤ 63)
  reading-letters = classes.reading-letters t (ruled t rules)

  -- "Tables repeat an arc for each vowel": the table with a plain arc for each letter of a class, and none of a class, solves the same, under any ceiling.
  pub expands : (k : Task) (c : ℕ) (x : Input k) (y : Output k) → Solves t k c x y ↔ Solves (expanded t) k c x y
  expands = expand.expands t (ruled t rules)

  -- Its readings of any query are the same list: each as often, and in the same order. So it is of each state, after anything passed and written,
  -- to any number of arcs, and so also where an idle cycle is reached.
  pub expanded-readings : (q : Query) → readings (machine t q) (tour (machine t q)) ≡ readings (machine (expanded t) q) (tour (machine (expanded t) q))
  expanded-readings = written.expanded-readings t (ruled t rules)

  pub expanded-states : (q : Query) (c s : ℕ) (d : Passed × ℕ) (o : List ℕ) → state_tells (machine t q) c s d o ≡ state_tells (machine (expanded t) q) c s d o
  expanded-states = written.state-same t (ruled t rules)

  pub expanded-plain : (a : Arc) → Memᴰ a (expanded t).arcs → is_plain a ≡ true
  expanded-plain = expand.expanded-plain t (ruled t rules)

-- IDLE CYCLES, for any table that keeps the rules and any task.

module _ (t : Table) (rules : keeps_rules t ≡ true) (k : Task) where
  -- The test says whether one is reached.
  pub cycle-test : (has_idle_cycle t k ≡ false) ↔ NoIdleCycle t k
  cycle-test = (idles.none_found t k (ruled t rules), idles.none-there t k (ruled t rules))

  -- Of a cycle that is told, every state is reached.
  pub told-reached : (c : List ℕ) → CycleStates t k c → (s : ℕ) → Memᴰ s c → StateReached t s
  told-reached = idles.told-reached t k

  -- "Report 6487 calls a machine without infinite paths noetherian; here the two agree." As document 004 says it: no computation from an initial
  -- cell is endless.
  pub noetherian-is : NoIdleCycle t k ↔ Noetherian (kernel t k)
  noetherian-is = (noether.noetherian t k (ruled t rules), noether.no_idle-cycle t k (ruled t rules))

  -- "Readings of a word from a finite Eilenberg machine": a finite machine is locally finite and noetherian, and here it is that exactly where no
  -- idle cycle is reached. (Report 6486's definition 1.1 asks more: no endless trace from any cell.)
  pub finite_is : NoIdleCycle t k ↔ Finite (kernel t k)
  finite_is = (λ none. record { locally_finite = λ a m. finite.relation_finite t.classes k a; noetherian = noetherian-is.0 none }, λ F. noetherian-is.1 F.noetherian)

  -- It is finite then under any ceiling (slip 10).
  pub finite_under : NoIdleCycle t k → (c : ℕ) → Finite (kernel_under t k c)
  finite_under none c =
      record {
        locally_finite = λ a m. finite.under_finite (αOf t.classes k a) (finite.relation_finite t.classes k a) c a.penalty;
        noetherian = λ x i E. noetherian-is.0 none (λ n. without_sum t k c (x n)) i (λ n. lifts.edge-without t k c (E n));
      }

-- THE BOUND: a path that the words allow has fewer than (letters to read + 1) × states arcs.

module _ (t : Table) (rules : keeps_rules t ≡ true) (q : Query) (none : NoIdleCycle t q.task) where
  pub bound : (p : Path) → Allowed (machine t q) p → size p < (letters_to_read q + 1) * t.states
  bound = lifted.bounded t q none (ruled t rules)

  -- DEMAND 2: the accepting entries are report 6486's accepting traces from initial cells, one to one, and tell what it solves.

  abbrev M : Machine
  M = machine t q

  abbrev entries : List Path
  entries = accepting M (paths_in (tour M))

  -- every accepting entry is an accepting trace
  pub entry_trace : (p : Path) → Memᴰ p entries → (T : TraceFor t q (output_of q.task (output M p))) × Same t q (output_of q.task (output M p)) p T
  entry_trace p m =
      let A = ((listed M bound).members p).0 m in
      agree.trace_of t q (ruled t rules) (output_of q.task (output M p)) (record { path = p; allowed = A.0; accepted = A.1; told = refl })

  -- every accepting trace gives one entry
  pub trace_entry : (v : Word) (T : TraceFor t q (output_of q.task v))
      → (p : Path) × Memᴰ p entries × (output_of q.task (output M p) ≡ output_of q.task v) × Same t q (output_of q.task v) p T
  trace_entry v T =
      let P = agree.path_of_lem t q (ruled t rules) v T in
      (P.0.path, ((listed M bound).members P.0.path).1 (P.0.allowed, P.0.accepted), P.0.told, P.1)

  pub one_entry : (x : Output q.task) (p r : Path) → Memᴰ p entries → Memᴰ r entries → (T : TraceFor t q x) → Same t q x p T → Same t q x r T → p ≡ r
  one_entry x p r m n = agree.one-path t q (ruled t rules) x p r (((listed M bound).members p).0 m).0 (((listed M bound).members r).0 n).0

  pub one-trace : (x y : Output q.task) (p : Path) (T : TraceFor t q x) (S : TraceFor t q y) → Same t q x p T → Same t q y p S
      → (◌≡◌ {A = Cell (kernel_under t q.task q.ceiling)} (T.begin, T.from) (S.begin, S.from)) × (arcs_of T.trace ≡ arcs_of S.trace) × (◌≡◌ {A = Cell (kernel_under t q.task q.ceiling)} (T.end, T.to) (S.end, S.to))
  one-trace = agree.one-trace t q (ruled t rules)

  -- a reading is told exactly when the report's machine solves it
  pub solved : (v : Word) → ((p : Path) × Memᴰ p entries × (output_of q.task (output M p) ≡ output_of q.task v))
      ↔ Solves t q.task q.ceiling (input_of q.task q.upper_word q.lower_word) (output_of q.task v)
  solved v = (
    λ E. let A = ((listed M bound).members E.0).0 E.1 in (agree.solves t q (ruled t rules) v).0 (record { path = E.0; allowed = A.0; accepted = A.1; told = E.2 }),
    λ S. let P = (agree.solves t q (ruled t rules) v).1 S in (P.path, ((listed M bound).members P.path).1 (P.allowed, P.accepted), P.told),
  )

-- THE ARCS OF A STATE are those whose source it is: the numbers from its first arc on, as many as it has.

pub arcs_of_lem : (t : Table) → keeps_rules t ≡ true → (q : Query) (s n : ℕ) → ArcOf (machine t q) s n ↔ ((n < length t.arcs) × ((arc_at t n).source ≡ s))
arcs_of_lem t rules q = transducer.arc_of_lem t q (ruled t rules).rising

-- THE OUTPUT'S LENGTH is what was passed on the written side.

pub written-length : (t : Table) (q : Query) (p : Path) (d : Passed × ℕ) → datum (machine t q) p ≡ some d → length (output (machine t q) p) ≡ written_by q d.0
written-length = lifted.written-length

-- THE CYCLE SHOWN (document 02, slip 8), for any table that keeps the rules and any task: where an idle cycle is reached, what is computed is what
-- is to be shown, nothing else is, and it is a reached one, none twice. The order in which a table lists its arcs and initial states plays no part.

module _ (t : Table) (k : Task) where
  module _ (rules : keeps_rules t ≡ true) where
    pub shown-there : (x : ℕ) → StateReached t x → IdleWalk t k x x → ShownIdle t k (shown_idle t k)
    shown-there x R w = idles.shown-there t k (ruled t rules) (idles.cycle-there t k (ruled t rules) x R w)

    pub shown-is : (c : List ℕ) → ShownIdle t k c → shown_idle t k ≡ c
    shown-is = idles.shown-is t k (ruled t rules)

  pub shown-only : (c d : List ℕ) → ShownIdle t k c → ShownIdle t k d → c ≡ d
  shown-only = idles.shown-only t k

  pub shown-states : (c : List ℕ) → ShownIdle t k c → CycleStates t k c
  shown-states = idles.shown-states t k

pub same-shown : (t u : Table) → keeps_rules t ≡ true → keeps_rules u ≡ true → ((s : ℕ) → Memᴰ s t.initials ↔ Memᴰ s u.initials)
    → ((a : Arc) → Memᴰ a t.arcs ↔ Memᴰ a u.arcs) → (k : Task) → shown_idle t k ≡ shown_idle u k
same-shown t u rules others = idles.same-shown t u (ruled t rules) (ruled u others)

-- THE START: what it ensures has one solution; 12, after 20, 11, 10 and 39, exactly where an idle cycle is reached, with the one that is to be shown.

pub start_is : (x s : Started) → StartedIs x s → s ≡ x
start_is x s = starts.start_is

module _ (cells : List ℕ) (task : ℕ) (upper lower : List ℕ) (ceiling : ℕ) where
  module _ (s : Started) (S : StartedIs (started cells task upper lower ceiling) s) where
    pub twelve : ((start_told_by s).number ≡ 12) ↔ ((t : Table) × (q : Query) × (asked cells task upper lower ceiling ≡ runs t q) × ((x : ℕ) × StateReached t x × IdleWalk t q.task x x))
    twelve = starts.twelve cells task upper lower ceiling s S

    pub twelve-tells : (t : Table) (q : Query) → asked cells task upper lower ceiling ≡ runs t q → (start_told_by s).number ≡ 12
        → (take (start_told_by s).length s.cycle ≡ shown_idle t q.task) × ShownIdle t q.task (shown_idle t q.task)
    twelve-tells t q a = starts.twelve-tells cells task upper lower ceiling t q (ruled t (asks.asked-facts cells task upper lower ceiling t q a).keeps_rules_lem) a s S

    pub cycle_cells_lem : length s.cycle ≡ 256
    cycle_cells_lem = starts.cycle_cells_lem cells task upper lower ceiling s S

  -- DEMAND 3: a start without a refusal, and any list of calls after it, each with any cells that hold the start's table, any stack, allowance and
  -- buffer.

  -- from the bound alone
  pub demand-three-bounded : (t : Table) (q : Query) → Bounded (machine t q) → (letters_to_read q + 1) * t.states ≤ most_frames → asked cells task upper lower ceiling ≡ runs t q
      → (xs : List Lent) → Handed upper lower cells (first_run task ceiling) [] xs → Demand3 upper lower t q (first_run task ceiling) xs
  demand-three-bounded t q B F = demand.demand_3 t q B F cells upper lower task ceiling

  -- from what a start without a refusal ensures
  pub demand-three : (s : Started) → StartedIs (started cells task upper lower ceiling) s → s.answer ≡ Ready
      → (t : Table) × (q : Query) × (asked cells task upper lower ceiling ≡ runs t q)
      × ((xs : List Lent) → Handed upper lower cells s.run [] xs → Demand3 upper lower t q s.run xs)
  demand-three s S e = (
    t,
    q,
    R.is,
    subst (λ (r : Run). (xs : List Lent) → Handed upper lower cells r [] xs → Demand3 upper lower t q r xs) (sym R.run_is)
        (demand-three-bounded t q (bound t F.keeps_rules_lem q (idles.none_found t q.task U R.no_cycle)) (asks.enough-frames t q U F.words_hold_lem) R.is),
  )
    where
      R : starts.ReadyFacts (asked cells task upper lower ceiling) (first_run task ceiling) s
      R = starts.ready-facts cells task upper lower ceiling s S e

      t : Table
      t = R.table

      q : Query
      q = R.query

      F : asks.AskedFacts cells t q task upper lower ceiling
      F = asks.asked-facts cells task upper lower ceiling t q R.is

      U : Ruled t
      U = ruled t F.keeps_rules_lem

-- Where the steps told add up to the tree's size, all readings were received.
pub whole-list : (upper lower : List ℕ) (t : Table) (q : Query) (r : Run) (xs : List Lent) → Demand3 upper lower t q r xs
    → steps_told upper lower r xs ≡ tree_size (machine t q) → received upper lower r xs ≡ readings (machine t q) (tour (machine t q))
whole-list = demand.whole-list

-- Where the last call answers Ended, all readings were received.
pub ended-whole : (upper lower : List ℕ) (t : Table) (q : Query) (r : Run) (xs : List Lent) → Demand3 upper lower t q r xs → LastEnds upper lower r xs
    → received upper lower r xs ≡ readings (machine t q) (tour (machine t q))
ended-whole upper lower t q r xs D e =
    whole-list upper lower t q r xs D (sym (zero-add (steps_told upper lower r xs)) ∙ demand.ended-steps upper lower t q xs 0 r D.tells e)

-- What Demand 3 says of one call has one solution.
pub call-tells-one : (t : Table) (q : Query) (n : ℕ) (r : Run) (x : Lent) (o v : Outcome) → CallTells t q n r x o → CallTells t q n r x v → o ≡ v
call-tells-one = demand.call-tells-one

-- FROM THE START TO THE END: what was received is the outputs of the accepting paths, which are report 6486's accepting traces (DEMAND 2), each
-- once and in order.
module _ (cells : List ℕ) (task : ℕ) (upper lower : List ℕ) (ceiling : ℕ) (s : Started) (S : StartedIs (started cells task upper lower ceiling) s) where
  pub start-to-end : s.answer ≡ Ready
      → (t : Table) × (q : Query) × (asked cells task upper lower ceiling ≡ runs t q) × (keeps_rules t ≡ true) × NoIdleCycle t q.task
      × ((xs : List Lent) → Handed upper lower cells s.run [] xs → LastEnds upper lower s.run xs
      → received upper lower s.run xs ≡ outputs (machine t q) (accepting (machine t q) (paths_in (tour (machine t q)))))
  unfolding demand-three
  start-to-end e =
      let D = demand-three cells task upper lower ceiling s S e in
      let R = starts.ready-facts cells task upper lower ceiling s S e in
      let F = asks.asked-facts cells task upper lower ceiling R.table R.query R.is in (
        R.table,
        R.query,
        R.is,
        F.keeps_rules_lem,
        idles.none_found R.table R.query.task (ruled R.table F.keeps_rules_lem) R.no_cycle,
        λ xs H L. ended-whole upper lower R.table R.query s.run xs (D.3 xs H) L ∙ order.readings-outputs (machine R.table R.query) (tour (machine R.table R.query)),
      )

  -- a start is ready exactly where 20, 11, 10 and 39 are not given and no idle cycle is reached
  pub ready-is : (s.answer ≡ Ready) ↔ ((t : Table) × (q : Query) × (asked cells task upper lower ceiling ≡ runs t q) × NoIdleCycle t q.task)
  ready-is = (
    λ e. let E = start-to-end e in (E.0, E.1, E.2, E.4),
    λ w. starts.ready_where cells task upper lower ceiling s S w.0 w.1 w.2 (idles.none-there w.0 w.1.task (ruled w.0 (asks.asked-facts cells task upper lower ceiling w.0 w.1 w.2).keeps_rules_lem) w.3),
  )

-- THE END COMES, after a start without a refusal: of calls with room enough, no more than the tree's size do not answer Ended; so the last of a
-- longer list does, and all readings were received. Calls between them that are refused, have less room or are allowed no step change nothing of
-- that: a refused call can be repeated with a longer stack. And there are such lists: any number of calls, with any allowances, stacks and
-- buffers, can be handed on as demand 3 says.

module _ (cells upper lower : List ℕ) where
  pub handed-there : (asks : List Ask) (r : Run) → r.depth ≡ 0 → Handed upper lower cells r [] (lent_all cells upper lower r [] asks)
  handed-there asks r e = handed.handed-there cells upper lower asks r [] (omega arith)

  module _ (task ceiling : ℕ) (s : Started) (S : StartedIs (started cells task upper lower ceiling) s) where
    -- what is claimed of a table and a query
    pub record EndComes (t : Table) (q : Query) : Type 0 where
      pub asked_is : asked cells task upper lower ceiling ≡ runs t q
      -- m of the calls have room enough: those that do not answer Ended are no more than the tree's size and the others
      pub few : (xs : List Lent) → Handed upper lower cells s.run [] xs → (m : ℕ) → AmpleCalls t q m xs → m + unended upper lower s.run xs ≤ length xs + tree_size (machine t q)
      pub ends : (xs : List Lent) → Handed upper lower cells s.run [] xs → (m : ℕ) → AmpleCalls t q m xs → tree_size (machine t q) < m
          → LastEnds upper lower s.run xs × (received upper lower s.run xs ≡ readings (machine t q) (tour (machine t q)))
      -- whatever is lent to it, a call can stand between the others
      pub between : (x : Lent) (xs : List Lent) (m : ℕ) → AmpleCalls t q m xs → AmpleCalls t q m (x ∷ xs)
      -- room enough by numbers alone: no reading has (letters to read + 1) × states letters; and lists of calls that have it
      pub by_size : (x : Lent) → (letters_to_read q + 1) * t.states ≤ frames_in x.stack → 0 < x.allowance → (letters_to_read q + 1) * t.states ≤ length x.buffer + 1 → Ample t q x
      pub asks-end : (ks : List Ask) → AsksAmple ((letters_to_read q + 1) * t.states) ks → tree_size (machine t q) < length ks
          → LastEnds upper lower s.run (lent_all cells upper lower s.run [] ks)
          × (received upper lower s.run (lent_all cells upper lower s.run [] ks) ≡ readings (machine t q) (tour (machine t q)))

    pub end-comes : s.answer ≡ Ready → (t : Table) × (q : Query) × EndComes t q
    unfolding demand-three start-to-end
    end-comes e = (
      t,
      q,
      record { asked_is = (start-to-end cells task upper lower ceiling s S e).2; few = few; ends = ends; between = λ x xs m C. other C; by_size = live.ample-by_size t q B; asks-end = asks-end },
    )
      where
        t : Table
        t = (start-to-end cells task upper lower ceiling s S e).0

        q : Query
        q = (start-to-end cells task upper lower ceiling s S e).1

        B : Bounded (machine t q)
        B = let E = start-to-end cells task upper lower ceiling s S e in bound t E.3 q E.4

        D : (xs : List Lent) → Handed upper lower cells s.run [] xs → Demand3 upper lower t q s.run xs
        D = (demand-three cells task upper lower ceiling s S e).3

        few : (xs : List Lent) → Handed upper lower cells s.run [] xs → (m : ℕ) → AmpleCalls t q m xs → m + unended upper lower s.run xs ≤ length xs + tree_size (machine t q)
        few xs H m A = live.few-unended t q upper lower s.run xs (D xs H) m A

        ends : (xs : List Lent) → Handed upper lower cells s.run [] xs → (m : ℕ) → AmpleCalls t q m xs → tree_size (machine t q) < m
            → LastEnds upper lower s.run xs × (received upper lower s.run xs ≡ readings (machine t q) (tour (machine t q)))
        ends xs H m A k = let L = live.comes-to-end t q upper lower s.run xs (D xs H) m A k in (L, ended-whole upper lower t q s.run xs (D xs H) L)

        asks-end : (ks : List Ask) → AsksAmple ((letters_to_read q + 1) * t.states) ks → tree_size (machine t q) < length ks
            → LastEnds upper lower s.run (lent_all cells upper lower s.run [] ks)
            × (received upper lower s.run (lent_all cells upper lower s.run [] ks) ≡ readings (machine t q) (tour (machine t q)))
        asks-end ks A =
            ends (lent_all cells upper lower s.run [] ks) (handed-there ks s.run (ap (λ (r : Run). r.depth) (starts.ready-facts cells task upper lower ceiling s S e).run_is)) (length ks) (handed.asks-ample t q B cells upper lower ks s.run [] A)

-- An instance: table K, synthesis of 01 02, three calls. The start is ready, the calls are handed on as demand 3 says, and the last answers Ended.
pub instance_k : ((started cases.cells_k 2 (1 ∷ 2 ∷ []) [] most_ceiling).answer ≡ Ready) × Handed (1 ∷ 2 ∷ []) [] cases.cells_k (first_run 2 most_ceiling) [] cases.lent_k × LastEnds (1 ∷ 2 ∷ []) [] (first_run 2 most_ceiling) cases.lent_k
instance_k = (cases.ready-k, cases.handed-k, cases.ends-k)

-- On table K, calls that are just enough, any number of them; and calls of every kind, of which five do not answer Ended: Paused, Found, 22, 21 and
-- Found again, before the last two do.
pub least-k : (n : ℕ) → AsksAmple ((letters_to_read refuted.query_k + 1) * (table_k []).states) (replicate n (ask 1 9 8))
least-k = cases.least-k

pub story_k_lem : (unended (1 ∷ 2 ∷ []) [] (first_run 2 most_ceiling) cases.story_k ≡ 5) × LastEnds (1 ∷ 2 ∷ []) [] (first_run 2 most_ceiling) cases.story_k
story_k_lem = (cases.unended-k, cases.story_ends-k)

-- A CALL IS ITS STEPS, FOR ANY RUN, STACK, ALLOWANCE AND BUFFER: where 20, 11, 10 and 39 are not given, the outcome is the one that the step rule tells
-- (`CallBy`, of `Steps` and `Stops`), with every field of the run, every cell of the stack and of the buffer.

pub call-is : (cells upper lower : List ℕ) (run : Run) (stack : List ℕ) (n : ℕ) (buffer : List ℕ) (t : Table) (q : Query) → asked cells run.task upper lower run.ceiling ≡ runs t q → (o : Outcome)
    → CallBy t q run stack n buffer o ↔ (o ≡ outcome cells upper lower run stack n buffer)
call-is = calls.call-is

-- steps lead to one place, and stop in one way; for any machine and any store
module _ (M : Machine) (C : Store (Frame M.D)) (l : ℕ) where
  pub steps-one : (k : ℕ) (h d e : Held C.Cells) → Steps M C l k h d → Steps M C l k h e → d ≡ e
  steps-one k h d e a b = stops.steps-one M C l a b

  pub stops-one : (n : ℕ) (h : Held C.Cells) (a b : Replied C.Cells) → Stops M C l n h a → Stops M C l n h b → a ≡ b
  stops-one n h a b x y = stops.stops-one M C l x y

-- "EVERY CALL GETS THE START'S TABLE": of the cells, the loaded table alone counts; what stands behind it does not.

module _ (c d : List ℕ) (e : loaded c ≡ loaded d) where
  pub same_start : (task : ℕ) (upper lower : List ℕ) (ceiling : ℕ) → started c task upper lower ceiling ≡ started d task upper lower ceiling
  same_start = starts.same-started c d e

  pub same-call : (upper lower : List ℕ) (run : Run) (stack : List ℕ) (n : ℕ) (buffer : List ℕ) → outcome c upper lower run stack n buffer ≡ outcome d upper lower run stack n buffer
  same-call = calls.same_outcome c d e

-- 21, FOR ANY RUN, STACK, ALLOWANCE AND BUFFER: after 20, 11, 10 and 39, exactly where "The run or its used frames are not a place in a search"; no
-- step is made then, and all is as it was.

module _ (cells upper lower : List ℕ) (run : Run) (stack : List ℕ) (n : ℕ) (buffer : List ℕ) where
  pub twenty_one : ((told_by (outcome cells upper lower run stack n buffer)).number ≡ 21)
      ↔ ((t : Table) × (q : Query) × (asked cells run.task upper lower run.ceiling ≡ runs t q) × (InSearch t q run stack → ⊥))
  twenty_one = calls.twenty_one cells upper lower run stack n buffer

  pub twenty_one-leaves : (told_by (outcome cells upper lower run stack n buffer)).number ≡ 21
      → outcome cells upper lower run stack n buffer ≡ record { called = record { answer = Refused 0 (State Place); run = run }; stack = stack; output = buffer }
  twenty_one-leaves = calls.twenty_one-leaves cells upper lower run stack n buffer

-- THE BUFFER: only Found writes output, and it leaves what stands behind it.

module _ (cells upper lower : List ℕ) (run : Run) (stack : List ℕ) (n : ℕ) (buffer : List ℕ) where
  pub buffer-left : ((told_by (outcome cells upper lower run stack n buffer)).kind ≡ found_kind → ⊥) → (outcome cells upper lower run stack n buffer).output ≡ buffer
  buffer-left = calls.buffer-left cells upper lower run stack n buffer

  pub found_left : let o = outcome cells upper lower run stack n buffer in (told_by o).kind ≡ found_kind → drop (told_by o).length o.output ≡ drop (told_by o).length buffer
  found_left = calls.found_left cells upper lower run stack n buffer

-- A REFUSED CALL leaves everything as it was before the refused step, or before the call; for any run, stack and buffer.

pub refused-leaves : (cells upper lower : List ℕ) (run : Run) (stack : List ℕ) (n : ℕ) (buffer : List ℕ)
    → (told_by (outcome cells upper lower run stack n buffer)).kind ≡ refused_kind → RefusedLeaves (asked cells run.task upper lower run.ceiling) run stack buffer (outcome cells upper lower run stack n buffer)
refused-leaves = calls.refused-leaves

-- What it says has one solution.
pub refused-leaves-one : (w : Asked) (run : Run) (stack buffer : List ℕ) (o v : Outcome) → RefusedLeaves w run stack buffer o → RefusedLeaves w run stack buffer v → o ≡ v
refused-leaves-one = calls.refused-leaves-one

-- AFTER 23 a buffer of as many letters as frames are in use is enough for the refused step: the next call finds the reading with its first step.

pub after_23 : (cells upper lower : List ℕ) (run : Run) (stack : List ℕ) (n : ℕ) (buffer : List ℕ) (t : Table) (q : Query) → asked cells run.task upper lower run.ceiling ≡ runs t q
    → (told_by (outcome cells upper lower run stack n buffer)).number ≡ 23
    → (b : List ℕ) (m : ℕ) → (outcome cells upper lower run stack n buffer).called.run.depth ≤ length b → 0 < m
    → (k : ℕ) × ((outcome cells upper lower (outcome cells upper lower run stack n buffer).called.run (outcome cells upper lower run stack n buffer).stack m b).called.answer ≡ Found 1 k)
after_23 = full.after_23

-- THE SCHOOL WILL NOT TAKE "one that refuses all words": refusing each call for its buffer, with nothing changed, is not what demand 3 says of the
-- first call on table K; nor is a refused call that clears the run's task what `refused-leaves` says of any.

pub refuses_all_lem : (n : ℕ) → CallTells (table_k []) refuted.query_k n (first_run 2 most_ceiling) refuted.first_k (refuted.refuses_all (first_run 2 most_ceiling) refuted.first_k) → ⊥
refuses_all_lem = refuted.refuses_all_lem

pub clears_task : (t : Table) (q : Query) (run : Run) (stack buffer : List ℕ) (o : Outcome) → (run.task ≡ 0 → ⊥) → RefusedLeaves (runs t q) run stack buffer (refuted.task_cleared o) → ⊥
clears_task = refuted.clears_task

-- PENALTIES (document 02, slip 10).

module _ (t : Table) (q : Query) where
  -- "An arc that would lift the sum over the ceiling does not fit": one fits where it does by its letters and the sum with it is within the ceiling;
  -- and what it writes is by its letters alone.
  pub penalty-fits : (n : ℕ) (d e : Passed) (s r : ℕ) → ((machine t q).follow n (d, s) ≡ some (e, r)) ↔ (((plain_machine t q).follow n d ≡ some e) × (r ≡ s + (arc_at t n).penalty) × (r ≤ q.ceiling))
  penalty-fits n d e s r = ceilings.step-under (plain_machine t q) (penalty_at t) q.ceiling n d e s r

  pub penalty-writes : (n : ℕ) (d : Passed) (s : ℕ) → (machine t q).writes n (d, s) ≡ (plain_machine t q).writes n d
  penalty-writes n d s = refl

  -- "Every frame carries the sum of penalties on its path, 0 at the bottom": in any place in a search, and it is within the ceiling.
  pub sum_is : (n : ℕ) (f : Frame (Passed × ℕ)) (fs : List (Frame (Passed × ℕ))) → Placed (machine t q) n (f ∷ fs)
      → (f.datum.1 ≡ sum_of (penalty_at t) (walk_to n fs)) × (f.datum.1 ≤ q.ceiling)
  sum_is n f fs P = let D = lifted.datum-sum t q (walk_to n fs) f.datum P.datum-is in (D.0, subst (λ (s : ℕ). s ≤ q.ceiling) (sym D.0) D.1)

  pub bottom-sum : (n : ℕ) (f : Frame (Passed × ℕ)) → Placed (machine t q) n (f ∷ []) → f.datum.1 ≡ 0
  bottom-sum n f P = (sum_is n f [] P).0

  -- With penalties of 0 everywhere all is as it is without them: the tour, its accepting paths and the readings, under any ceiling, also where an
  -- idle cycle is reached.
  module _ (free : (a : Arc) → Memᴰ a t.arcs → a.penalty ≡ 0) where
    none-there : (n : ℕ) → penalty_at t n ≡ 0
    none-there n = all_get_d (λ (a : Arc). a.penalty ≡ 0) t.arcs n no_arc refl (all_from (λ (a : Arc). a.penalty ≡ 0) t.arcs free)

    pub no_penalties : (tour (machine t q) ≡ tour (plain_machine t q))
        × (accepting (machine t q) (paths_in (tour (machine t q))) ≡ accepting (plain_machine t q) (paths_in (tour (plain_machine t q))))
        × (readings (machine t q) (tour (machine t q)) ≡ readings (plain_machine t q) (tour (plain_machine t q)))
    no_penalties = (
      frees.tour_free (plain_machine t q) (penalty_at t) none-there q.ceiling,
      frees.accepting_free (plain_machine t q) (penalty_at t) none-there q.ceiling,
      frees.readings_free (plain_machine t q) (penalty_at t) none-there q.ceiling,
    )

  -- "Paths .. go by this narrower meaning of fitting": those that the words allow are the ones without a ceiling whose sum is within it.
  pub allowed-under : (p : Path) → Allowed (machine t q) p ↔ (Allowed (plain_machine t q) p × (sum_of (penalty_at t) p ≤ q.ceiling))
  allowed-under p = (ceilings.allowed-to (plain_machine t q) (penalty_at t) q.ceiling p, λ a. ceilings.allowed-from (plain_machine t q) (penalty_at t) q.ceiling p a.0 a.1)

  module _ (rules : keeps_rules t ≡ true) (none : NoIdleCycle t q.task) where
    -- The accepting ones are those whose sum is within the ceiling, in the same order.
    pub under-ceiling : accepting (machine t q) (paths_in (tour (machine t q)))
        ≡ keep (λ p. leb (sum_of (penalty_at t) p) q.ceiling) (accepting (plain_machine t q) (paths_in (tour (plain_machine t q))))
    under-ceiling = higher.under-ceiling (plain_machine t q) (penalty_at t) (bounds.bounded t q none (ruled t rules)) q.ceiling

    -- "A higher ceiling's list holds all the readings of a lower one's in the same order": the lower one's accepting paths are the higher one's whose
    -- sum is within the lower ceiling, with the same outputs; so what a lower ceiling lists is left of the higher one's list when others are struck out.
    module _ (c : ℕ) (less : c ≤ q.ceiling) where
      abbrev Lower : Machine
      Lower = machine t (with_ceiling q c)

      abbrev Higher : Machine
      Higher = machine t q

      pub higher_paths : accepting Lower (paths_in (tour Lower)) ≡ keep (λ p. leb (sum_of (penalty_at t) p) c) (accepting Higher (paths_in (tour Higher)))
      higher_paths = higher.higher_paths (plain_machine t q) (penalty_at t) (bounds.bounded t q none (ruled t rules)) c q.ceiling less

      pub higher_readings : readings Lower (tour Lower) ≡ outputs Higher (keep (λ p. leb (sum_of (penalty_at t) p) c) (accepting Higher (paths_in (tour Higher))))
      higher_readings = higher.higher_readings (plain_machine t q) (penalty_at t) (bounds.bounded t q none (ruled t rules)) c q.ceiling less

      pub higher_ceiling : Sublistᴰ (readings Lower (tour Lower)) (readings Higher (tour Higher))
      higher_ceiling = higher.higher_holds (plain_machine t q) (penalty_at t) (bounds.bounded t q none (ruled t rules)) c q.ceiling less

-- "also demand 2's": report 6486's traces under a ceiling, from the sum 0, are its traces without one whose penalties add up to no more than the ceiling.
module _ (t : Table) (k : Task) (c : ℕ) where
  pub trace-under : {x y : Cell (kernel t k)} (T : Trace (kernel t k) x y) → penalties (arcs_of T) ≤ c
      → (S : Trace (kernel_under t k c) (with_sum t k c x 0) (with_sum t k c y (penalties (arcs_of T)))) × (arcs_of S ≡ arcs_of T)
  trace-under = lifts.lift t k c

  pub trace-without : {x y : Cell (kernel_under t k c)} (T : Trace (kernel_under t k c) x y) → x.0.1 ≡ 0 → Lowered t k c T
  trace-without = lifts.lower t k c

-- "the refusal for loops ignores penalties": tables that are the same without them have the same idle cycles, and the same one is shown. So where 20,
-- 11, 10 and 39 are not given, starts of one task on them tell the same, 12 with its cycle, whatever the words and the ceilings.
module _ (t u : Table) (same : without_penalties t ≡ without_penalties u) where
  pub cycles_ignore : (k : Task) → (has_idle_cycle t k ≡ has_idle_cycle u k) × (shown_idle t k ≡ shown_idle u k)
  cycles_ignore k = (ignores.same-cycle t u same k, ignores.same-shown t u same k)

  pub twelve_ignores : (c d : List ℕ) (task : ℕ) (v w x y : List ℕ) (m n : ℕ) (q r : Query) → asked c task v w m ≡ runs t q → asked d task x y n ≡ runs u r
      → (start_told_by (started c task v w m) ≡ start_told_by (started d task x y n)) × ((started c task v w m).cycle ≡ (started d task x y n).cycle)
  twelve_ignores = ignores.same-told t u same

-- "A ceiling over 100,000 is refused at a start or call with 39, after 10 and before 12 or 21": exactly where 20, 11 and 10 are not given, as the ceiling
-- 0 shows; and all is then as it was.
pub thirty_nine_start : (cells : List ℕ) (task : ℕ) (upper lower : List ℕ) (ceiling : ℕ) (s : Started) → StartedIs (started cells task upper lower ceiling) s
    → ((start_told_by s).number ≡ 39) ↔ ((t : Table) × (q : Query) × (asked cells task upper lower 0 ≡ runs t q) × (most_ceiling < ceiling))
thirty_nine_start = limits.thirty_nine_start

pub thirty_nine_start-leaves : (cells : List ℕ) (task : ℕ) (upper lower : List ℕ) (ceiling : ℕ) (s : Started) → StartedIs (started cells task upper lower ceiling) s
    → (start_told_by s).number ≡ 39 → s ≡ started_with (S.Refused (refusals.Input CeilingLimit)) no_run []
thirty_nine_start-leaves = limits.start-leaves

module _ (cells upper lower : List ℕ) (run : Run) (stack : List ℕ) (n : ℕ) (buffer : List ℕ) where
  pub thirty_nine_call : ((told_by (outcome cells upper lower run stack n buffer)).number ≡ 39)
      ↔ ((t : Table) × (q : Query) × (asked cells run.task upper lower 0 ≡ runs t q) × (most_ceiling < run.ceiling))
  thirty_nine_call = limits.thirty_nine_call cells upper lower run stack n buffer

  pub thirty_nine_call-leaves : (told_by (outcome cells upper lower run stack n buffer)).number ≡ 39
      → outcome cells upper lower run stack n buffer ≡ record { called = record { answer = Refused 0 (refusals.Input CeilingLimit); run = run }; stack = stack; output = buffer }
  thirty_nine_call-leaves = limits.call-leaves cells upper lower run stack n buffer

-- "a run has a ceiling fixed at its start .. under the run's ceiling": any call leaves the run its task and its ceiling, and a call or start is asked
-- with the ceiling that it is given.
module _ (cells upper lower : List ℕ) (run : Run) (stack : List ℕ) (n : ℕ) (buffer : List ℕ) where
  pub run_keeps : ((outcome cells upper lower run stack n buffer).called.run.task ≡ run.task) × ((outcome cells upper lower run stack n buffer).called.run.ceiling ≡ run.ceiling)
  run_keeps = calls.run_keeps cells upper lower run stack n buffer

pub asked_ceiling_lem : (cells : List ℕ) (task : ℕ) (upper lower : List ℕ) (ceiling : ℕ) (t : Table) (q : Query) → asked cells task upper lower ceiling ≡ runs t q → q.ceiling ≡ ceiling
asked_ceiling_lem cells task upper lower ceiling t q a = (asks.asked-facts cells task upper lower ceiling t q a).ceiling-is

-- Askings that differ in their ceilings alone have one table, and queries that differ in them alone: so `higher_ceiling` is about two starts.
pub same-query : (cells : List ℕ) (task : ℕ) (upper lower : List ℕ) (c d : ℕ) (t u : Table) (q r : Query) → asked cells task upper lower c ≡ runs t q → asked cells task upper lower d ≡ runs u r
    → (t ≡ u) × (with_ceiling r c ≡ q)
same-query = asks.same-query

-- THE STARRED CASES, and document 02's, one theorem over the table of rows; and "Table K" as document 01 prints it is the table of the rows.

pub cases_hold : T (rows_hold rows)
cases_hold = cases.cases_hold

pub text_k_lem : parsed text_k ≡ accepted (table_k [])
text_k_lem = cases.text_k_lem
