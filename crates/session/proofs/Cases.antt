-- Document 01's example, by computing: "For K and `100202010200` it prints" three lines.
use mathlib.Core.Path.{◌≡◌, refl}
use mathlib.Core.List.{[], ◌∷◌, ◌++◌}
use Rattle.hexadecimal.specs.Hex.{value_of, joined, decoded, digit_of, encoded}
use Rattle.table_format.specs.Classes.{no_classes}
use Rattle.table_format.specs.Rules.{each, counts_hold, header_faults, initial_faults, terminal_faults, arc_class_holds, arc_faults, row_holds, classes_keep, keeps_rules}
use Rattle.table_format.specs.Loaded.{arcs_cells, rows_cells, cells_of, arcs_in, rows_in, table_in, loaded}
use Rattle.table_format.specs.Line.{lines_of, malformed, bytes_of, chars_of, line_text}
use Rattle.table_format.specs.Text.{class_lines, item_lines, join_lines, text_of}
use Rattle.table_format.specs.Parse.{item_faults, bytes_faults, line_faults, onward, parse_from, parsed}
use Rattle.machine.specs.Frames.{place_holds}
use Rattle.machine.specs.Step.{move, step}
use Rattle.machine.specs.Call.{advance, call}
use Rattle.machine.specs.Idle.{has_idle_cycle}
use Rattle.machine.specs.Asked.{asked}
use Rattle.machine.specs.Start.{started}
use Rattle.machine.specs.Reading.{outcome}
use Rattle.machine.specs.Cases.{table_k}
use Rattle.session_query.specs.Parts.{size_through}
use Rattle.session_query.specs.Query.{is_query, query_of}
use Rattle.session_opening.specs.Opened.{started_on, opened}
use Rattle.session.specs.Session.{lines_left, session_lines}

pub k-session : session_lines (text_of (table_k []) ++ line_text (16 ∷ 2 ∷ 2 ∷ 1 ∷ 2 ∷ 0 ∷ []))
    ≡ (32 ∷ 0 ∷ 1 ∷ 0 ∷ 2 ∷ 1 ∷ 2 ∷ []) ∷ (32 ∷ 0 ∷ 2 ∷ 0 ∷ 3 ∷ 1 ∷ 3 ∷ 2 ∷ []) ∷ (47 ∷ 0 ∷ 2 ∷ []) ∷ []
unfolding session_lines lines_left opened started_on query_of is_query size_through started outcome asked loaded table_in arcs_in rows_in cells_of arcs_cells rows_cells no_classes keeps_rules header_faults counts_hold classes_keep row_holds initial_faults terminal_faults arc_faults arc_class_holds each has_idle_cycle call place_holds advance step move parsed parse_from onward line_faults bytes_faults item_faults text_of join_lines item_lines class_lines lines_of malformed bytes_of chars_of encoded digit_of decoded joined value_of
k-session = refl
