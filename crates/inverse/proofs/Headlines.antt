-- The theorems on a table and its inverse and on the three tasks, stated together: document 02, slip 3, "Our two keys ought to match", under one
-- ceiling (slip 10). What each one means is in specs/; how it is shown is in the files that it names.
use Prim.Native.Nat.{ℕ}
use mathlib.Core.Path.{◌≡◌, refl, sym, ap, ◌∙◌}
use mathlib.Core.Logic.{◌↔◌}
use mathlib.Core.Bool.{true, false}
use mathlib.Core.Option.{some, map}
use mathlib.Core.List.{List, [], ◌++◌, Memᴰ}
use lib.ListN.{length, take, length-map}
use lib.Seq.{drop-append_seam}
use Rattle.table_format.specs.Table.{Arc, Table}
use Rattle.table_format.specs.Classes.{is_plain}
use Rattle.table_format.specs.Rules.{keeps_rules}
use Rattle.table_format.specs.Loaded.{cells_of, loaded}
use Rattle.table_format.specs.Text.{text_of}
use Rattle.table_format.specs.Parse.{accepted, parsed}
use Rattle.table_format.proofs.Headlines.{determines, loads}
use Rattle.graph.specs.Lists.{keep}
use Rattle.machine.specs.declared.Started.{Started}
use Rattle.machine.specs.declared.StartAnswer.TheVariants.{Ready}
use Rattle.machine.specs.Query.{Task, recognition, synthesis, analysis, Query, word_holds, same_word, recognition_of, synthesis_of, analysis_of}
use Rattle.machine.specs.Machine.{Machine, Path, accepts, output}
use Rattle.machine.specs.Tour.{tour, readings, tree_size}
use Rattle.machine.specs.Order.{outputs, Lists}
use Rattle.machine.specs.Transducer.{arc_at, machine}
use Rattle.machine.specs.Idle.{NoIdleCycle, has_idle_cycle, shown_idle}
use Rattle.machine.specs.Asked.{runs, asked}
use Rattle.machine.specs.Start.{started, StartedIs}
use Rattle.machine.specs.Demand.{Lent, Handed, received, steps_told, LastEnds}
use Rattle.machine.proofs.Words as words
use Rattle.machine.proofs.Idle as idles
use Rattle.machine.proofs.Morphism.{Morphism, tour-same, tree-same, accepts-same, output-same, accepting-same, readings-same}
use Rattle.machine.proofs.Headlines as machines
use Rattle.inverse.specs.Inverse.{inverse_arc, inverse, inverse_task, inverse_number, inverse_query, inverse_started}
use Rattle.inverse.specs.Readings.{accepting_paths, readings_of, occurrences}
use Rattle.inverse.specs.Search.{Search, received_by, steps, Ended}
use Rattle.inverse.proofs.Table as tables
use Rattle.inverse.proofs.Machine.{inverse_morphism}
use Rattle.inverse.proofs.Starts as starts
use Rattle.inverse.proofs.Counts as counts
use Rattle.inverse.proofs.Caller as caller
use Rattle.inverse.proofs.Searches as searches

-- THE INVERSE: "the table with upper and lower letters exchanged and arc numbers kept". Classes, penalties and all else stay.

pub letters-exchanged : (a : Arc)
    → ((inverse_arc a).source ≡ a.source) × ((inverse_arc a).upper ≡ a.lower) × ((inverse_arc a).lower ≡ a.upper) × ((inverse_arc a).target ≡ a.target) × ((inverse_arc a).penalty ≡ a.penalty)
letters-exchanged a = (refl, refl, refl, refl, refl)

pub arc-numbers : (t : Table) → (length (inverse t).arcs ≡ length t.arcs) × ((n : ℕ) → arc_at (inverse t) n ≡ inverse_arc (arc_at t n))
arc-numbers t = (length-map t.arcs inverse_arc, tables.arc_at_lem t)

pub rest-stays : (t : Table) → ((inverse t).states ≡ t.states) × ((inverse t).classes ≡ t.classes) × ((inverse t).initials ≡ t.initials) × ((inverse t).terminals ≡ t.terminals)
rest-stays t = (refl, refl, refl, refl)

-- It keeps the rules exactly where the table does, and its inverse is the table.
pub keeps_rules_lem : (t : Table) → keeps_rules (inverse t) ≡ keeps_rules t
keeps_rules_lem = tables.keeps

pub inverse-twice : (t : Table) → inverse (inverse t) ≡ t
inverse-twice = tables.twice

-- It has a text where the table keeps the rules; and where cells hold a table, there are cells that hold its inverse, whatever stands behind them.
pub inverse-text : (t : Table) → keeps_rules t ≡ true → parsed (text_of (inverse t)) ≡ accepted (inverse t)
inverse-text t rules = (determines (text_of (inverse t)) (inverse t)).1 (tables.keeps t ∙ rules, refl)

pub inverse-loads : (c : List ℕ) (t : Table) → loaded c ≡ some t → (rest : List ℕ) → loaded (cells_of (inverse t) ++ rest) ≡ map inverse (loaded c)
inverse-loads c t e rest =
    (loads (cells_of (inverse t) ++ rest) (inverse t)).1 (tables.keeps t ∙ ((loads c t).0 e).0, ap (λ (l : List ℕ). cells_of (inverse t) ++ l) (sym (drop-append_seam (cells_of (inverse t)) rest)))
    ∙ ap (map inverse) (sym e)

-- THE SAME PATHS IN THE SAME ORDER, for any question and the question with its sides exchanged, recognition too, also where an idle cycle is reached. A path
-- is the place of its initial state and the numbers of its arcs.

-- All that is asked of the table is what its rules say of classes: one stands on both sides of its arc.
module _ (t : Table) (alike : (a : Arc) → Memᴰ a t.arcs → is_plain a ≡ false → a.upper ≡ a.lower) (q : Query) where
  abbrev M : Machine
  M = machine t q

  abbrev N : Machine
  N = machine (inverse t) (inverse_query q)

  F : Morphism M N
  F = inverse_morphism t alike q

  pub inverse-tour : tour N ≡ tour M
  inverse-tour = tour-same M N F

  pub inverse-tree : tree_size N ≡ tree_size M
  inverse-tree = tree-same M N F

  pub inverse-accepts : (p : Path) → accepts N p ≡ accepts M p
  inverse-accepts = accepts-same M N F

  pub inverse-output : (p : Path) → output N p ≡ output M p
  inverse-output = output-same M N F

  pub inverse_paths : accepting_paths (inverse t) (inverse_query q) ≡ accepting_paths t q
  inverse_paths = accepting-same M N F

  pub inverse-readings : readings_of (inverse t) (inverse_query q) ≡ readings_of t q
  inverse-readings = readings-same M N F

-- What each task is asked.
pub questions : (u l : List ℕ) (c : ℕ)
    → (recognition_of u l c ≡ record { task = recognition; upper_word = u; lower_word = l; ceiling = c })
    × (synthesis_of u c ≡ record { task = synthesis; upper_word = u; lower_word = []; ceiling = c })
    × (analysis_of l c ≡ record { task = analysis; upper_word = []; lower_word = l; ceiling = c })
questions u l c = (refl, refl, refl)

-- "analysis on a table gives the same paths in the same order as synthesis on the table with upper and lower letters exchanged", "under one ceiling", with
-- the same tour and the same readings; for tables that are accepted, and any word.
pub analysis_is_synthesis : (t : Table) → keeps_rules t ≡ true → (w : List ℕ) (c : ℕ)
    → (tour (machine t (analysis_of w c)) ≡ tour (machine (inverse t) (synthesis_of w c)))
    × (accepting_paths t (analysis_of w c) ≡ accepting_paths (inverse t) (synthesis_of w c))
    × (readings_of t (analysis_of w c) ≡ readings_of (inverse t) (synthesis_of w c))
analysis_is_synthesis t rules w c = (
  sym (inverse-tour t (tables.rules-alike t rules) (analysis_of w c)),
  sym (inverse_paths t (tables.rules-alike t rules) (analysis_of w c)),
  sym (inverse-readings t (tables.rules-alike t rules) (analysis_of w c)),
)

-- These paths are the accepting ones, each once and in order, where no idle cycle is reached; the readings are their outputs.
pub paths_listed : (t : Table) → keeps_rules t ≡ true → (q : Query) → NoIdleCycle t q.task → Lists (machine t q) (accepting_paths t q)
paths_listed t rules q none = machines.listed (machine t q) (machines.bound t rules q none)

pub readings-are : (t : Table) (q : Query) → readings_of t q ≡ outputs (machine t q) (accepting_paths t q)
readings-are t q = machines.readings-are (machine t q)

-- THE SAME ANSWER OF A START, for any cells, task number, words and ceiling: each refusal, 12 with its cycle, or none; the run is that of the other task.

pub inverse-cycle : (t : Table) (k : Task) → (has_idle_cycle (inverse t) (inverse_task k) ≡ has_idle_cycle t k) × (shown_idle (inverse t) (inverse_task k) ≡ shown_idle t k)
inverse-cycle t k = (starts.same-cycle t k, starts.same-shown t k)

pub inverse-start : (c d : List ℕ) → loaded d ≡ map inverse (loaded c) → (task : ℕ) (upper lower : List ℕ) (ceiling : ℕ)
    → started d (inverse_number task) lower upper ceiling ≡ inverse_started (started c task upper lower ceiling)
inverse-start = starts.same-started

-- AS MANY PATHS: "recognition of a pair accepts exactly as many paths as synthesis of its upper word has readings equal to its lower word, and the like
-- for analysis". As lists, they are the accepting paths whose output is the other word, in the same order.

pub same_word_lem : (v w : List ℕ) → (same_word v w ≡ true) ↔ (v ≡ w)
same_word_lem v w = (words.same_word_lem v w, words.word_same v w)

-- On tables on which the other task is not refused for a cycle; recognition is not then either.
module _ (t : Table) (rules : keeps_rules t ≡ true) (u l : List ℕ) (c : ℕ) where
  module _ (none : NoIdleCycle t synthesis) where
    pub synthesis_paths : accepting_paths t (recognition_of u l c) ≡ keep (λ p. same_word (output (machine t (synthesis_of u c)) p) l) (accepting_paths t (synthesis_of u c))
    synthesis_paths = counts.synthesis_paths t rules u l c none

    pub synthesis_count : length (accepting_paths t (recognition_of u l c)) ≡ occurrences l (readings_of t (synthesis_of u c))
    synthesis_count = counts.synthesis_count t rules u l c none

  module _ (none : NoIdleCycle t analysis) where
    pub analysis_paths : accepting_paths t (recognition_of u l c) ≡ keep (λ p. same_word (output (machine t (analysis_of l c)) p) u) (accepting_paths t (analysis_of l c))
    analysis_paths = counts.analysis_paths t rules u l c none

    pub analysis_count : length (accepting_paths t (recognition_of u l c)) ≡ occurrences u (readings_of t (analysis_of l c))
    analysis_count = counts.analysis_count t rules u l c none

pub recognition_no_cycle : (t : Table) (k : Task) → NoIdleCycle t k → NoIdleCycle t recognition
recognition_no_cycle = idles.recognition_none

-- "for words and tables that all tasks concerned accept": a start of analysis is refused exactly where the start of synthesis on the inverse is
-- (`inverse-start`); and where any task starts on a table, recognition of any two words that 10 does not refuse does, under the same ceiling.
pub recognition_ready : (c : List ℕ) (task : ℕ) (v w : List ℕ) (ceiling : ℕ) → (started c task v w ceiling).answer ≡ Ready
    → (u l : List ℕ) → word_holds u ≡ true → word_holds l ≡ true → (started c 1 u l ceiling).answer ≡ Ready
recognition_ready = starts.recognition_ready

-- WHAT A CALLER RECEIVES. A search is any start without a refusal and any calls after it that are handed on as demand 3 says; what it received is what
-- demand 3 says, and calls that come to their end are there.
pub any-calls : (c : List ℕ) (task : ℕ) (u l : List ℕ) (ceiling : ℕ) (s : Started) → StartedIs (started c task u l ceiling) s → s.answer ≡ Ready
    → (xs : List Lent) → Handed u l c s.run [] xs
    → (X : Search c task u l ceiling) × (received_by X ≡ received u l s.run xs) × (steps X ≡ steps_told u l s.run xs) × (Ended X ↔ LastEnds u l s.run xs)
any-calls c task u l ceiling s S e xs H = (record { start = s; start_is = S; ready = e; calls = xs; handed = H }, refl, refl, (λ x. x, λ x. x))

pub search_told : (c : List ℕ) (task : ℕ) (u l : List ℕ) (ceiling : ℕ) (X : Search c task u l ceiling)
    → (t : Table) × (q : Query) × (asked c task u l ceiling ≡ runs t q) × (received_by X ≡ readings (machine t q) (take (steps X) (tour (machine t q)))) × (Ended X → received_by X ≡ readings_of t q)
search_told = searches.search_told

pub search_there : (c : List ℕ) (task : ℕ) (u l : List ℕ) (ceiling : ℕ) → (started c task u l ceiling).answer ≡ Ready → (X : Search c task u l ceiling) × Ended X
search_there = searches.search_there

-- Two searches, on a table and on its inverse with the sides of the question exchanged: after as many steps the same readings were received, whatever the
-- calls; where both came to their end, the steps are as many.
module _ (c d : List ℕ) (inverted : loaded d ≡ map inverse (loaded c)) (task : ℕ) (u l : List ℕ) (ceiling : ℕ)
    (X : Search c task u l ceiling) (Y : Search d (inverse_number task) l u ceiling) where
  pub same-so_far : steps X ≡ steps Y → received_by X ≡ received_by Y
  same-so_far = caller.same-so_far c d inverted task u l ceiling X Y

  pub same-at_end : Ended X → Ended Y → (steps X ≡ steps Y) × (received_by X ≡ received_by Y)
  same-at_end a b = let e = caller.same-steps c d inverted task u l ceiling X Y a b in (e, same-so_far e)

-- "Our two keys ought to match": the backward key on a table is the forward key on its inverse.
pub keys_match : (c d : List ℕ) → loaded d ≡ map inverse (loaded c) → (w : List ℕ) (ceiling : ℕ) (A : Search c 3 [] w ceiling) (S : Search d 2 w [] ceiling)
    → Ended A → Ended S → received_by A ≡ received_by S
keys_match c d inverted w ceiling A S a b = (same-at_end c d inverted 3 [] w ceiling A S a b).1

-- And on one table: recognition finds a pair as often as the forward key of its upper word has the lower one, and as the backward key of its lower word
-- has the upper one; so the two keys have each other's words as often.
module _ (c u l : List ℕ) (ceiling : ℕ) where
  pub forward-count : (R : Search c 1 u l ceiling) (S : Search c 2 u [] ceiling) → Ended R → Ended S → length (received_by R) ≡ occurrences l (received_by S)
  forward-count = caller.synthesis_count c u l ceiling

  pub backward-count : (R : Search c 1 u l ceiling) (A : Search c 3 [] l ceiling) → Ended R → Ended A → length (received_by R) ≡ occurrences u (received_by A)
  backward-count = caller.analysis_count c u l ceiling

  pub keys_agree : (S : Search c 2 u [] ceiling) (A : Search c 3 [] l ceiling) → Ended S → Ended A → occurrences l (received_by S) ≡ occurrences u (received_by A)
  keys_agree = caller.keys_agree c u l ceiling
