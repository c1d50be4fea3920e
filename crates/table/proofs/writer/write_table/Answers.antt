-- The parts of the cells are the table's lists; their lines, one after the other, are the text.
use native.Mathlib.Omega.{arith}
use mathlib.Core.Path.{◌∙◌}
use Rattle.table.proofs.Written.{held-text, laid_at, arcs_bytes, initials_count, terminals_count, arcs_fit, end_fits, written}
use Rattle.table.proofs.writer.write_table.Goals as goal

pub slice_bounds-defined_count-end : goal.slice_bounds-defined_count-end
slice_bounds-defined_count-end c = let h = held-text c.args.cells.now c.requires.cells_value in omega arith

pub overflow_add-lines : goal.overflow_add-lines
overflow_add-lines c = let h = held-text c.args.cells.now c.requires.cells_value in omega arith

pub overflow_add-lines-2 : goal.overflow_add-lines-2
overflow_add-lines-2 c = let h = held-text c.args.cells.now c.requires.cells_value in omega arith

pub overflow_add-lines-3 : goal.overflow_add-lines-3
overflow_add-lines-3 c = let h = held-text c.args.cells.now c.requires.cells_value in omega arith

pub overflow_add-lines-4 : goal.overflow_add-lines-4
overflow_add-lines-4 c = let h = held-text c.args.cells.now c.requires.cells_value in omega arith

pub header_line-requires : goal.header_line-requires
header_line-requires c = let h = held-text c.args.cells.now c.requires.cells_value in omega arith

pub slice_bounds-class_lines-end : goal.slice_bounds-class_lines-end
slice_bounds-class_lines-end c = let h = held-text c.args.cells.now c.requires.cells_value in omega arith

pub class_lines-classes_end-requires : goal.class_lines-classes_end-requires
class_lines-classes_end-requires c = let h = held-text c.args.cells.now c.requires.cells_value in record { rows_len = (h.classes-length, h.letters); rows_in_bounds = omega arith }

pub initials-requires : goal.initials-requires
initials-requires c = laid_at c.args.cells.now _ c.layout_of-at.ensures c.requires.cells_value

pub terminals-requires : goal.terminals-requires
terminals-requires c = laid_at c.args.cells.now _ c.layout_of-at.ensures c.requires.cells_value

pub arcs-requires : goal.arcs-requires
arcs-requires c = laid_at c.args.cells.now _ c.layout_of-at.ensures c.requires.cells_value

pub state_lines-initials_end-requires : goal.state_lines-initials_end-requires
state_lines-initials_end-requires c =
    let h = held-text c.args.cells.now c.requires.cells_value in
    let i = initials_count c.args.cells.now h _ c.initials.ensures.table in
    omega arith

pub state_lines-terminals_end-requires : goal.state_lines-terminals_end-requires
state_lines-terminals_end-requires c =
    let h = held-text c.args.cells.now c.requires.cells_value in
    let i = initials_count c.args.cells.now h _ c.initials.ensures.table in
    let m = terminals_count c.args.cells.now h _ c.terminals.ensures.table in
    omega arith

pub arc_lines-arcs_end-requires : goal.arc_lines-arcs_end-requires
arc_lines-arcs_end-requires c =
    let cells = c.args.cells.now in
    let h = held-text cells c.requires.cells_value in
    let kept = c.state_lines-terminals_end.auto.text ∙ c.state_lines-initials_end.auto.text ∙ c.class_lines-classes_end.auto.text ∙ c.header_line.auto.text in
    record {
      arcs_in_bounds = arcs_fit cells h _ _ _ c.initials.ensures.table c.terminals.ensures.table c.arcs.ensures.table _ _ _ _ _ c.requires.cells_in_bounds kept c.class_lines-classes_end.ensures.0 c.state_lines-initials_end.ensures.0 c.state_lines-terminals_end.ensures.0;
      by_index = arcs_bytes cells _ _ (laid_at cells _ c.layout_of-at.ensures c.requires.cells_value) h c.arcs.ensures.part;
    }

pub number_line-requires : goal.number_line-requires
number_line-requires c =
    let cells = c.args.cells.now in
    let h = held-text cells c.requires.cells_value in
    let kept = c.arc_lines-arcs_end.auto.text ∙ c.state_lines-terminals_end.auto.text ∙ c.state_lines-initials_end.auto.text ∙ c.class_lines-classes_end.auto.text ∙ c.header_line.auto.text in
    end_fits cells h _ _ _ c.initials.ensures.table c.terminals.ensures.table c.arcs.ensures.table _ _ _ _ _ c.requires.cells_in_bounds kept c.class_lines-classes_end.ensures.0 c.state_lines-initials_end.ensures.0 c.state_lines-terminals_end.ensures.0 _ c.arc_lines-arcs_end.ensures.0

pub returns : goal.returns
returns c =
    let cells = c.args.cells.now in
    written cells (held-text cells c.requires.cells_value) _ _ _ c.initials.ensures.table c.terminals.ensures.table c.arcs.ensures.table c.args.text.now _ _ _ _ _ _ _ _ _ _ _ c.requires.cells_in_bounds c.defined_count-classes.ensures
    c.header_line.ensures
    c.class_lines-classes_end.ensures c.state_lines-initials_end.ensures c.state_lines-terminals_end.ensures c.arc_lines-arcs_end.ensures c.number_line.ensures
