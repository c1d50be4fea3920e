-- Demand 2: what it means that the accepting entries are report 6486's accepting traces.
use Rattle.std.specs.Prelude.{ℕ, ◌+◌, ◌≤◌, ◌≡◌, true, get_or}
use mathlib.Core.List.{List, [], ◌∷◌, Memᴰ}
use Rattle.table_format.specs.Table.{Arc, Table}
use Rattle.machine.specs.Query.{Task, recognition, synthesis, analysis, Query}
use Rattle.machine.specs.Machine.{Path, start, more}
use Rattle.machine.specs.Transducer.{arc_at}
use Rattle.machine.specs.Report.{Word, Cell, Trace, arcs_of, kernel, kernel_under, Input, Output, feeds, tells}

-- a path's place in the list of initial states
abbrev pub place : Path → ℕ
place (start i) = i
place (more p n) = place p

-- its arcs, the last one first
abbrev pub arcs_back : Table → Path → List Arc
arcs_back t (start i) = []
arcs_back t (more p n) = arc_at t n ∷ arcs_back t p

-- a query's words, as the report has them
abbrev pub input_of : (k : Task) → Word → Word → Input k
input_of recognition u l = (u, l)
input_of synthesis u l = u
input_of analysis u l = l

-- a reading, as the report has it; recognition tells ⊤
abbrev pub output_of : (k : Task) → Word → Output k
output_of recognition o = true
output_of synthesis o = o
output_of analysis o = o

-- a trace under a ceiling, from an initial cell that φ₋ feeds with w to a terminal cell of which φ₊ tells x
pub record AcceptingTrace (t : Table) (k : Task) (c : ℕ) (w : Input k) (x : Output k) : Type 0 where
  pub from : ℕ
  pub to : ℕ
  pub begin : (Word × Word) × ℕ
  pub end : (Word × Word) × ℕ
  pub initial : Memᴰ from t.initials
  pub fed : feeds k w begin
  pub trace : Trace (kernel_under t k c) (begin, from) (end, to)
  pub terminal : Memᴰ to t.terminals
  pub told : tells k end x

-- the traces that a query begins and that tell x
abbrev pub TraceFor : (t : Table) (q : Query) → Output q.task → Type 0
TraceFor t q x = AcceptingTrace t q.task q.ceiling (input_of q.task q.upper_word q.lower_word) x

-- a path and a trace have the same initial state and the same arcs
pub record Same (t : Table) (q : Query) (x : Output q.task) (p : Path) (T : TraceFor t q x) : Type 0 where
  pub from_is : get_or t.initials (place p) 0 ≡ T.from
  pub arcs-are : arcs_back t p ≡ arcs_of T.trace

-- Traces under a ceiling and without one (`trace-under`, `trace-without`).

-- the sum of the penalties of arcs, the last one first
abbrev pub penalties : List Arc → ℕ
penalties [] = 0
penalties (a ∷ l) = penalties l + a.penalty

module _ (t : Table) (k : Task) (c : ℕ) where
  -- a cell with a sum, and one without its sum
  abbrev pub with_sum : Cell (kernel t k) → ℕ → Cell (kernel_under t k c)
  with_sum x s = ((x.0, s), x.1)

  abbrev pub without_sum : Cell (kernel_under t k c) → Cell (kernel t k)
  without_sum x = (x.0.0, x.1)

  -- a trace from the sum 0, without the sums, and the sum at its end
  pub record Lowered {x y : Cell (kernel_under t k c)} (T : Trace (kernel_under t k c) x y) : Type 0 where
    pub trace : Trace (kernel t k) (without_sum x) (without_sum y)
    pub arcs-are : arcs_of trace ≡ arcs_of T
    pub sum_is : y.0.1 ≡ penalties (arcs_of T)
    pub sum-within : penalties (arcs_of T) ≤ c
