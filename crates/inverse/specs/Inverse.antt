-- Document 02, slip 3: "the table with upper and lower letters exchanged and arc numbers kept" (the inverse of a transducer), and what is asked of it
-- where the sides of a question are exchanged too.
use Rattle.std.specs.Prelude.{ℕ, cond, map, eqb}
use Rattle.table_format.specs.Table.{Arc, Table}
use Rattle.machine.specs.declared.Run.{Run}
use Rattle.machine.specs.declared.Started.{Started}
use Rattle.machine.specs.Query.{Task, recognition, synthesis, analysis, Query}

-- The table.

-- an arc "with upper and lower letters exchanged"; its states and its penalty stay
abbrev pub inverse_arc : Arc → Arc
inverse_arc a = record { source = a.source; upper = a.lower; lower = a.upper; target = a.target; penalty = a.penalty }

-- "and arc numbers kept": the arcs stay in their order
abbrev pub inverse : Table → Table
inverse t = record { states = t.states; classes = t.classes; initials = t.initials; terminals = t.terminals; arcs = map inverse_arc t.arcs }

-- What is asked.

-- synthesis for analysis and the other way; recognition reads both sides
abbrev pub inverse_task : Task → Task
inverse_task recognition = recognition
inverse_task synthesis = analysis
inverse_task analysis = synthesis

-- the same by the tasks' numbers; a number of no task stays
abbrev pub inverse_number : ℕ → ℕ
inverse_number n = cond (eqb n 2) 3 (cond (eqb n 3) 2 n)

-- a question with its sides exchanged, "under one ceiling"
abbrev pub inverse_query : Query → Query
inverse_query q = record { task = inverse_task q.task; upper_word = q.lower_word; lower_word = q.upper_word; ceiling = q.ceiling }

-- What a start gives back.

abbrev pub inverse_run : Run → Run
inverse_run r = record { task = inverse_number r.task; started = r.started; depth = r.depth; ceiling = r.ceiling }

-- the same answer and cycle, and the run of the other task
abbrev pub inverse_started : Started → Started
inverse_started s = record { answer = s.answer; run = inverse_run s.run; cycle = s.cycle; length = s.length }
