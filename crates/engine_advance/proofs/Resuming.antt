-- A call that 20, 11, 10 and 39 let pass: the parts of the loaded table and the flags of the task are the machine's.
use Prim.Native.Nat.{ℕ, zero, suc, ◌≤◌, ◌<◌}
use native.Mathlib.Omega.{arith}
use mathlib.Core.Path.{◌≡◌, refl, sym, ap, ap₂, subst, ◌∙◌}
use mathlib.Core.Bool.{Bool, true, false, ◌&&◌, ◌||◌}
use mathlib.Core.List.{List, [], ◌∷◌}
use lib.Dec.{leb}
use lib.ListN.{length, get_or}
use borrow.Author.Tests.{leb-true}
use Rattle.table_check.specs.declared.Layout.{Layout}
use Rattle.refusal.specs.declared.Refusal.{Refusal}
use Rattle.refusal.specs.declared.Refusal.TheVariants.{State}
use Rattle.refusal.specs.declared.StateCause.TheVariants.{Place}
use Rattle.table_format.specs.Table.{Table}
use Rattle.table_format.specs.Classes.{first_class}
use Rattle.table_format.specs.Rules.{keeps_rules}
use Rattle.table_format.specs.Cells.{arcs_as}
use Rattle.table_format.specs.Index.{first_index}
use Rattle.table_format.specs.Loaded.{counts_in, extent, table_in}
use Rattle.std.specs.Prelude.{Ok}
use Rattle.table_check.specs.declared.Checked.{Checked}
use Rattle.table_check.specs.Check.{LaidOut, layout_of, checked}
use Rattle.table_check.proofs.Passing.{indexed}
use Rattle.table_check.proofs.Parts.{laid_out}
use Rattle.table_check.proofs.Holding.{Holding, holding}
use Rattle.machine.specs.declared.Run.{Run}
use Rattle.machine.specs.declared.Called.{Called}
use Rattle.machine.specs.declared.Answer.TheVariants.{Refused}
use Rattle.table_format.proofs.Tests.{and_left, and_right}
use Rattle.machine.specs.Query.{Task, recognition, synthesis, analysis, upper_side, lower_side, reads, Query, letters_within, word_holds, most_ceiling}
use Rattle.machine.specs.Machine.{Machine}
use Rattle.machine.specs.Frames.{place_holds}
use Rattle.machine.specs.Call.{advance, call}
use Rattle.machine.specs.Place.{Good}
use Rattle.machine.specs.Transducer.{machine}
use Rattle.machine.specs.Stack.{room_in, store}
use Rattle.machine.specs.Answer.{told}
use Rattle.machine.specs.Asked.{Asked, turned, asked}
use Rattle.machine.specs.Reading.{Outcome, held_of, outcome_as, outcome_of, outcome, OutcomeIs}
use Rattle.machine.proofs.Asked.{AskedFacts, asked-facts}
use Rattle.machine.proofs.Reading.{called-outcome}
use Rattle.engine_frames.specs.declared.Setup.{Setup}
use Rattle.engine_step.specs.Setting.{task_by, query_by, table_by, machine_by, Prepared}
use Rattle.engine_search.specs.Searching.{called_with, SearchIs}
use Rattle.engine_admission.specs.Admission.{reads_at}
use Rattle.engine_admission.proofs.Words.{Asks, reads_of}
use Rattle.engine_advance.specs.Admitted.{Admitted}
use Rattle.engine_advance.proofs.Placed.{place_refused_lem, place-good, place_searched}

-- 20, 11, 10 and 39 leave all as it was
pub turned-outcome : (cells upper lower : List ℕ) (run : Run) (stack : List ℕ) (n : ℕ) (buffer : List ℕ) (r : Refusal) → asked cells run.task upper lower run.ceiling ≡ turned r
    → (d : Called) → d ≡ called_with (Refused 0 r) run → OutcomeIs (outcome cells upper lower run stack n buffer) (told d.answer) d.run stack buffer
unfolding outcome
turned-outcome cells upper lower run stack n buffer r e d k =
    subst (λ (w : Asked). OutcomeIs (outcome_of w run stack n buffer) (told d.answer) d.run stack buffer) (sym e) (called-outcome k refl refl)

by_flags : (k : Task) → task_by (reads k upper_side) (reads k lower_side) ≡ k
by_flags recognition = refl
by_flags synthesis = refl
by_flags analysis = refl

some_flag : (k : Task) → (reads k upper_side || reads k lower_side) ≡ true
some_flag recognition = refl
some_flag synthesis = refl
some_flag analysis = refl

-- a letter of a word that holds is at most 63
small : (w : List ℕ) → word_holds w ≡ true → (i : ℕ) → get_or w i 0 < first_class
small w e = letters w (and_right (leb (length w) 64) (letters_within w) e)
  where
    letters : (w : List ℕ) → letters_within w ≡ true → (i : ℕ) → get_or w i 0 < first_class
    letters [] h i = omega arith
    letters (x ∷ xs) h zero =
        let k : x ≤ 63 = leb-true x 63 (and_right (leb 1 x) (leb x 63) (and_left (leb 1 x && leb x 63) (letters_within xs) h)) in omega arith
    letters (x ∷ xs) h (suc i) = letters xs (and_right (leb 1 x && leb x 63) (letters_within xs) h) i

-- where the parts of a table that was admitted are
pub laid_whole : (cells upper lower first : List ℕ) (run : Run) → Admitted cells run.task upper lower run.ceiling first → (l : Layout) → l ≡ layout_of (counts_in cells) → LaidOut cells l
laid_whole cells upper lower first run P l E =
    let w : extent (counts_in cells) ≤ length cells = (holding cells P.loads).whole in
    laid_out cells l E (omega (arith, ap (λ (x : Layout). x.end) E))

module _ (cells upper lower first : List ℕ) (run : Run) (P : Admitted cells run.task upper lower run.ceiling first) (l : Layout) (E : l ≡ layout_of (counts_in cells))
    (classes : List (List ℕ)) (K : classes ≡ (table_in cells).classes) (initials terminals arcs : List ℕ) (I : initials ≡ (table_in cells).initials) (T : terminals ≡ (table_in cells).terminals)
    (A : arcs_as arcs ≡ (table_in cells).arcs) (u v : Bool) (U : u ≡ reads_at run.task upper_side) (Z : v ≡ reads_at run.task lower_side) where
  H : Holding cells
  H = holding cells P.loads

  L : LaidOut cells l
  L = laid_whole cells upper lower first run P l E

  up : u ≡ reads P.asks upper_side
  up = U ∙ reads_of run.task P.asks P.task-is upper_side

  low : v ≡ reads P.asks lower_side
  low = Z ∙ reads_of run.task P.asks P.task-is lower_side

  abbrev setup : Setup
  setup = record { states = l.states; up = u; low = v; ceiling = run.ceiling }

  abbrev query : Query
  query = record { task = P.asks; upper_word = upper; lower_word = lower; ceiling = run.ceiling }

  table_is : table_by setup classes initials terminals arcs ≡ table_in cells
  unfolding table_in
  table_is = λ i. record { states = L.states-is i; classes = K i; initials = I i; terminals = T i; arcs = A i }

  query-is : query_by setup upper lower ≡ query
  query-is =
      ap (λ (k : Task). record { task = k; upper_word = upper; lower_word = lower; ceiling = run.ceiling }) (ap₂ task_by up low ∙ by_flags P.asks)

  facts : AskedFacts cells (table_in cells) query run.task upper lower run.ceiling
  facts = asked-facts cells run.task upper lower run.ceiling (table_in cells) query P.runs-is

  index-is : first ≡ first_index l.states (arcs_as arcs)
  unfolding first_index table_in
  index-is = P.index ∙ sym (ap₂ first_index L.states-is A)

  pub prepared : Prepared setup classes first initials terminals arcs upper lower
  prepared =
      record {
        keeps = subst (λ (t : Table). keeps_rules t ≡ true) (sym table_is) H.keeps;
        index = index-is;
        reads-some = ap₂ ◌||◌ up low ∙ some_flag P.asks;
        words_small = record { upper-small = small upper (and_left (word_holds upper) (word_holds lower) facts.words_hold_lem); lower-small = small lower (and_right (word_holds upper) (word_holds lower) facts.words_hold_lem) };
        ceiling-small = leb-true run.ceiling most_ceiling facts.ceiling_holds_lem;
      }

  abbrev M : Machine
  M = machine_by setup classes initials terminals arcs upper lower

  outcome-is : (stack : List ℕ) (n : ℕ) (buffer : List ℕ) → outcome_as run buffer (call M store n (length buffer) (held_of run stack)) ≡ outcome cells upper lower run stack n buffer
  unfolding outcome
  outcome-is stack n buffer =
      ap₂ (λ (t : Table) (q : Query). outcome_as run buffer (call (machine t q) store n (length buffer) (held_of run stack))) table_is query-is
      ∙ ap (λ (w : Asked). outcome_of w run stack n buffer) (sym P.runs-is)

  call-outcome : (stack : List ℕ) (n : ℕ) (buffer : List ℕ) (r : Called) (c o : List ℕ)
      → SearchIs run buffer (call M store n (length buffer) (held_of run stack)) r c o → OutcomeIs (outcome cells upper lower run stack n buffer) (told r.answer) r.run c o
  call-outcome stack n buffer r c o S = subst (λ (x : Outcome). OutcomeIs x (told r.answer) r.run c o) (outcome-is stack n buffer) (called-outcome S.0 S.1 S.2)

  -- by whether the run is a place in a search
  module _ (stack : List ℕ) (n : ℕ) (buffer : List ℕ) where
    abbrev placed : Bool
    placed = place_holds (machine_by setup classes initials [] arcs upper lower) store (held_of run stack)

    pub refused-outcome : placed ≡ false → (r : Called) → r ≡ called_with (Refused 0 (State Place)) run → OutcomeIs (outcome cells upper lower run stack n buffer) (told r.answer) r.run stack buffer
    refused-outcome e r k = call-outcome stack n buffer r stack buffer (place_refused_lem setup classes initials terminals arcs upper lower run stack n buffer e r k)

    pub good-place : placed ≡ true → Good M store (room_in stack) (held_of run stack)
    good-place e = place-good setup classes initials terminals arcs upper lower run stack n buffer e

    pub search_outcome : placed ≡ true → (r : Called) (c o : List ℕ) → SearchIs run buffer (advance M store (length buffer) n (held_of run stack)) r c o
        → OutcomeIs (outcome cells upper lower run stack n buffer) (told r.answer) r.run c o
    search_outcome e r c o S = call-outcome stack n buffer r c o (place_searched setup classes initials terminals arcs upper lower run stack n buffer e r c o S)

-- what the table check and the query tell
pub admitted_by : (cells : List ℕ) (task : ℕ) (upper lower : List ℕ) (ceiling : ℕ) (r : Checked) → Asks cells task upper lower ceiling → Ok r ≡ checked cells → Admitted cells task upper lower ceiling r.first
admitted_by cells task upper lower ceiling r Q e =
    record { asks = Q.asks; task-is = Q.task-is; loads = Q.loads; runs-is = Q.runs-is; index = indexed cells r e }
