-- The opening, part by part: the length, the table, the query, the start.
use Prim.Native.Nat.{ℕ, ◌-◌, ◌≤◌, ◌<◌}
use native.Mathlib.Omega.{arith}
use mathlib.Core.Path.{◌≡◌, refl, sym, ap, ap₂, subst, ◌∙◌}
use mathlib.Core.Bool.{Bool, cond}
use mathlib.Core.List.{List, ◌++◌}
use lib.ListN.{length, take, drop, length-drop}
use lib.Seq.{take_at, take_all}
use borrow.Author.Tests.{lt-ltb, le-ltb}
use Rattle.std.specs.Prelude.{Ok, Err}
use Rattle.refusal.specs.declared.InputCause.{InputCause}
use Rattle.refusal.specs.declared.InputCause.TheVariants.{CountLimit}
use Rattle.refusal.specs.declared.Refusal.{Refusal}
use Rattle.refusal.specs.declared.Refusal.TheVariants.{Input}
use Rattle.table_format.specs.Table.{Table}
use Rattle.table_format.specs.Loaded.{most_cells, cells_of}
use Rattle.table_format.specs.Line.{Line, lines_of}
use Rattle.table_format.specs.Parse.{Parsed, accepted, turned_down, parsed}
use Rattle.table.specs.Calls.{read_as, read_answer, read_cells}
use Rattle.table_format.proofs.Rules.{keeps-parts, table-bounded}
use Rattle.table_format.proofs.Loaded.{length-cells}
use Rattle.table_format.proofs.Determine.{read-text}
use Rattle.table.proofs.Calls.{read_done, read_fits, read_length}
use Rattle.machine.specs.declared.StartAnswer.{StartAnswer}
use Rattle.machine.specs.declared.StartAnswer.TheVariants as T
use Rattle.machine.specs.declared.Started.{Started}
use Rattle.machine.specs.Start.{started, StartedIs}
use Rattle.machine.proofs.Start.{start_is}
use Rattle.session_query.specs.Parts.{table_text, query_text, table_size}
use Rattle.session_query.specs.declared.Question.{Question}
use Rattle.session_query.specs.Query.{task_in, upper_in, lower_in, query_of}
use Rattle.session_query.specs.Asking.{question_of}
use Rattle.session_query.proofs.Parts.{size-inside}
use Rattle.session_query.proofs.Queries.{fault-is, Asks, asks-is}
use Rattle.session_opening.specs.declared.SessionState.{SessionState}
use Rattle.session_opening.specs.Opened.{most_input, Opened, unopened, ready, opened_as, session_ceiling, started_on, opened_query, opened_table, opened}
use Rattle.session_opening.specs.Outcome.{OpeningTold, opening_told, OpeningOutcome, first_state, opening_outcome, OpeningOutcomeIs}

-- What is answered and left, by what an input gives.

pub opening-same : (x y : OpeningOutcome) (r : OpeningTold) (t q : List ℕ) → x ≡ y → OpeningOutcomeIs x r t q → OpeningOutcomeIs y r t q
opening-same x y r t q e i = subst (λ (z : OpeningOutcome). OpeningOutcomeIs z r t q) e i

pub opening-refused : (o : Opened) (table query : List ℕ) (r : Refusal) → o ≡ unopened r → OpeningOutcomeIs (opening_outcome o table query) (opening_told (Err r)) table query
opening-refused o table query r e = subst (λ (x : Opened). OpeningOutcomeIs (opening_outcome x table query) (opening_told (Err r)) table query) (sym e) (refl, refl, refl)

-- The query.

pub query-faults : (cells : List ℕ) (ls : List Line) (x : Question) (cause : InputCause) → x ≡ question_of (query_of ls) → x.asking ≡ Err cause
    → opened_query cells (query_of ls) ≡ unopened (Input cause)
query-faults cells ls x cause e f = ap (opened_query cells) (fault-is (query_of ls) x cause e f)

module _ (cells : List ℕ) (ls : List Line) (x : Question) (e : x ≡ question_of (query_of ls)) (f : x.asking ≡ Ok tt)
    (task : ℕ) (task-is : task ≡ task_in x.query.bytes) (upper lower : List ℕ) (upper_is : upper ≡ upper_in x.query.bytes) (lower-is : lower ≡ lower_in x.query.bytes)
    (s : Started) (S : StartedIs (started cells task upper lower session_ceiling) s) where
  asks : Asks ls x.query
  asks = asks-is ls x e f

  opened-start : opened_query cells (query_of ls) ≡ opened_as cells asks.query s.answer s.run
  unfolding started_on
  opened-start =
      let t = task-is ∙ asks.task-is in
      let u = upper_is ∙ asks.upper_is in
      let l = lower-is ∙ asks.lower-is in
      ap (opened_query cells) asks.is
      ∙ ap (λ (z : Started). opened_as cells asks.query z.answer z.run) (sym (start_is {s = s} S ∙ (λ i. started cells (t i) (u i) (l i) session_ceiling)))

  pub start-refused : (table query : List ℕ) (r : Refusal) → s.answer ≡ T.Refused r → OpeningOutcomeIs (opening_outcome (opened_query cells (query_of ls)) table query) (opening_told (Err r)) table query
  start-refused table query r g =
      opening-refused (opened_query cells (query_of ls)) table query r (opened-start ∙ ap (λ (a : StartAnswer). opened_as cells asks.query a s.run) g)

  pub start-ready : (table query : List ℕ) → s.answer ≡ T.Ready → (state : SessionState) (t : List ℕ) → state ≡ first_state s.run → t ≡ cells ++ drop (length cells) table
      → OpeningOutcomeIs (opening_outcome (opened_query cells (query_of ls)) table query) (opening_told (Ok state)) t x.query.bytes
  start-ready table query g state t k i =
      opening-same (opening_outcome (ready cells asks.query s.run) table query) (opening_outcome (opened_query cells (query_of ls)) table query) (opening_told (Ok state)) t x.query.bytes
      (sym (ap (λ (o : Opened). opening_outcome o table query) (opened-start ∙ ap (λ (a : StartAnswer). opened_as cells asks.query a s.run) g)))
      (ap (λ (s : SessionState). opening_told (Ok s)) k, i, asks.bytes-are)

-- The input.

pub opened-long : (input : List ℕ) → most_input < length input → opened input ≡ unopened (Input CountLimit)
unfolding opened
opened-long input h = ap (λ (b : Bool). cond b (unopened (Input CountLimit)) (opened_table (parsed (table_text input)) (lines_of (query_text input)))) (lt-ltb most_input (length input) h)

opened-by : (input : List ℕ) → length input ≤ most_input → opened input ≡ opened_table (parsed (table_text input)) (lines_of (query_text input))
unfolding opened
opened-by input h = ap (λ (b : Bool). cond b (unopened (Input CountLimit)) (opened_table (parsed (table_text input)) (lines_of (query_text input)))) (le-ltb most_input (length input) h)

-- a table that is turned down turns the input down, whatever the query
pub opened_turned_down : (input : List ℕ) (c : InputCause) → length input ≤ most_input → parsed (table_text input) ≡ turned_down c → opened input ≡ unopened (Input c)
opened_turned_down input c h e = opened-by input h ∙ ap (λ (p : Parsed). opened_table p (lines_of (query_text input))) e

-- a table that is read has no more cells than the largest
pub cells-most : (text : List ℕ) (t : Table) → parsed text ≡ accepted t → length (cells_of t) ≤ most_cells
cells-most text t e =
    let keeps = (read-text text t e).0 in
    let b = table-bounded t keeps in
    omega (arith, length-cells t ((keeps-parts t).0 keeps).classes, b.states, b.initials, b.terminals, b.arcs)

module _ (input : List ℕ) (end : ℕ) (end_is : end ≡ table_size input) (few : length input ≤ most_input) (zeros : List ℕ) (room : length zeros ≡ most_cells) where
  text-is : take end input ≡ table_text input
  text-is = ap (λ (n : ℕ). take n input) end_is

  pub end-inside : end ≤ length input
  end-inside = omega (arith, end_is, size-inside input)

  pub table-refused : (r : Refusal) → Err r ≡ read_answer (take end input) zeros → opened input ≡ unopened r
  unfolding read_answer
  table-refused r e = go (parsed (take end input)) refl e
    where
      go : (p : Parsed) → parsed (take end input) ≡ p → Err r ≡ read_as p zeros → opened input ≡ unopened r
      go (accepted t) q e =
          let w : read_as (accepted t) zeros ≡ Ok (length (cells_of t)) = sym (ap (λ (p : Parsed). read_as p zeros) q) ∙ (read_fits (take end input) zeros t q (omega (arith, cells-most (take end input) t q))).0 in
          absurd (let z : ◌≡◌ {A = ℕ} 0 1 = cc (e ∙ w) in omega arith)
      go (turned_down cause) q e =
          let same : r ≡ Input cause = cc in
          opened-by input few ∙ ap (λ (p : Parsed). opened_table p (lines_of (query_text input))) (ap parsed (sym text-is) ∙ q) ∙ ap unopened (sym same)

  module _ (count : ℕ) (cells : List ℕ) (e : Ok count ≡ read_answer (take end input) zeros) (c : cells ≡ read_cells (take end input) zeros) where
    pub count-inside : count ≤ length cells
    count-inside =
        let d = (read_done (take end input) zeros count (sym e)).2 in
        omega (arith, d.room, ap length c, read_length (take end input) zeros)

    pub table-read : opened input ≡ opened_query (take count cells) (query_of (lines_of (take (length input - end) (drop end input))))
    table-read =
        let w = read_done (take end input) zeros count (sym e) in
        let front : take count cells ≡ cells_of w.0 = ap (take count) (c ∙ w.2.left_is) ∙ take_at (cells_of w.0) (drop count zeros) count (sym w.2.size) in
        let rest : take (length input - end) (drop end input) ≡ query_text input = take_all (length input - end) (drop end input) (omega (arith, length-drop end input)) ∙ ap (λ (n : ℕ). drop n input) end_is in
        opened-by input few ∙ ap (λ (p : Parsed). opened_table p (lines_of (query_text input))) (ap parsed (sym text-is) ∙ w.1)
        ∙ ap₂ (λ (x y : List ℕ). opened_query x (query_of (lines_of y))) (sym front) (sym rest)
