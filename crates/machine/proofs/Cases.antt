-- The cases of the rows hold, by computing.
use mathlib.Core.Path.{◌≡◌, refl}
use mathlib.Core.List.{List, [], ◌∷◌}
use Prim.Native.Nat.{ℕ, zero, suc}
use native.Mathlib.Omega.{arith}
use lib.ListN.{replicate}
use lib.Dec.{T}
use Rattle.hexadecimal.specs.Hex.{value_of, joined, decoded}
use Rattle.table_format.specs.Line.{lines_of, malformed, bytes_of}
use Rattle.table_format.specs.Parse.{accepted, item_faults, bytes_faults, line_faults, onward, parse_from, parsed}
use Rattle.table_format.specs.Classes.{no_classes}
use Rattle.table_format.specs.Text.{class_lines}
use Rattle.table_format.specs.Rules.{each, counts_hold, header_faults, initial_faults, terminal_faults, arc_class_holds, arc_faults, row_holds, classes_keep, keeps_rules}
use Rattle.table_format.specs.Loaded.{arcs_cells, rows_cells, cells_of, arcs_in, rows_in, table_in, loaded}
use Rattle.graph.specs.Shown.{shown_cycle}
use Rattle.machine.specs.declared.StartAnswer.TheVariants.{Ready}
use Rattle.machine.specs.Query.{most_ceiling}
use Rattle.machine.specs.Frames.{place_holds}
use Rattle.machine.specs.Step.{move, step}
use Rattle.machine.specs.Call.{advance, call}
use Rattle.machine.specs.Idle.{has_idle_cycle}
use Rattle.machine.specs.Asked.{asked}
use Rattle.machine.specs.Start.{started, first_run}
use Rattle.machine.specs.Reading.{outcome}
use Rattle.machine.specs.Demand.{Lent, Handed, unended, LastEnds}
use Rattle.machine.specs.Cases.{AsksAmple, rows, rows_hold, table_k, text_k, ask, big, lent_all}
use Rattle.machine.proofs.Handed.{handed-there}

pub cases_hold : T (rows_hold rows)
unfolding rows started outcome asked loaded table_in arcs_in rows_in cells_of arcs_cells rows_cells no_classes keeps_rules header_faults counts_hold classes_keep row_holds initial_faults terminal_faults arc_faults arc_class_holds each has_idle_cycle shown_cycle call place_holds advance step move
cases_hold = tt

-- Table K's text, and the table of the rows.
pub text_k_lem : parsed text_k ≡ accepted (table_k [])
unfolding no_classes class_lines arc_class_holds parsed parse_from onward line_faults bytes_faults item_faults lines_of malformed bytes_of decoded joined value_of header_faults counts_hold initial_faults terminal_faults arc_faults each
text_k_lem = refl

-- The first row's start and calls, to the end: demand 3's premises hold of them together.

abbrev pub cells_k : List ℕ
cells_k = cells_of (table_k [])

abbrev pub lent_k : List Lent
lent_k = lent_all cells_k (1 ∷ 2 ∷ []) [] (first_run 2 most_ceiling) [] (big ∷ big ∷ big ∷ [])

pub ready-k : (started cells_k 2 (1 ∷ 2 ∷ []) [] most_ceiling).answer ≡ Ready
unfolding started asked loaded table_in arcs_in rows_in cells_of arcs_cells rows_cells no_classes keeps_rules header_faults counts_hold classes_keep row_holds initial_faults terminal_faults arc_faults arc_class_holds each has_idle_cycle
ready-k = refl

pub handed-k : Handed (1 ∷ 2 ∷ []) [] cells_k (first_run 2 most_ceiling) [] lent_k
handed-k = handed-there cells_k (1 ∷ 2 ∷ []) [] (big ∷ big ∷ big ∷ []) (first_run 2 most_ceiling) [] refl

pub ends-k : LastEnds (1 ∷ 2 ∷ []) [] (first_run 2 most_ceiling) lent_k
unfolding outcome asked loaded table_in arcs_in rows_in cells_of arcs_cells rows_cells no_classes keeps_rules header_faults counts_hold classes_keep row_holds initial_faults terminal_faults arc_faults arc_class_holds each call place_holds advance step move
ends-k = refl

-- Calls that are just enough for it.
pub least-k : (n : ℕ) → AsksAmple 9 (replicate n (ask 1 9 8))
least-k zero = tt
least-k (suc n) = ((omega arith, omega arith, omega arith), least-k n)

-- Calls of every kind: Paused, Found, 22, 21, Found, Ended, Ended.
abbrev pub story_k : List Lent
story_k = lent_all cells_k (1 ∷ 2 ∷ []) [] (first_run 2 most_ceiling) [] (ask 0 9 8 ∷ ask 1000 3 8 ∷ ask 1000 3 8 ∷ ask 1000 2 8 ∷ ask 1000 9 8 ∷ ask 1000 9 8 ∷ ask 1 9 8 ∷ [])

pub unended-k : unended (1 ∷ 2 ∷ []) [] (first_run 2 most_ceiling) story_k ≡ 5
unfolding outcome asked loaded table_in arcs_in rows_in cells_of arcs_cells rows_cells no_classes keeps_rules header_faults counts_hold classes_keep row_holds initial_faults terminal_faults arc_faults arc_class_holds each call place_holds advance step move
unended-k = refl

pub story_ends-k : LastEnds (1 ∷ 2 ∷ []) [] (first_run 2 most_ceiling) story_k
unfolding outcome asked loaded table_in arcs_in rows_in cells_of arcs_cells rows_cells no_classes keeps_rules header_faults counts_hold classes_keep row_holds initial_faults terminal_faults arc_faults arc_class_holds each call place_holds advance step move
story_ends-k = refl
