-- The counts of cells that hold a table are those of the table, and its parts lie where the layout says.
use native.Mathlib.Omega.{arith}
use Rattle.table.proofs.Written.{held-text, laid_at, arcs_count, initials_count, terminals_count, arcs_characters}
use Rattle.table.proofs.writer.text_size.Goals as goal

pub slice_bounds-class_size-end : goal.slice_bounds-class_size-end
slice_bounds-class_size-end c = let h = held-text c.args.cells.now c.requires in omega arith

pub initials-requires : goal.initials-requires
initials-requires c = laid_at c.args.cells.now _ c.layout_of-at.ensures c.requires

pub terminals-requires : goal.terminals-requires
terminals-requires c = laid_at c.args.cells.now _ c.layout_of-at.ensures c.requires

pub arcs-requires : goal.arcs-requires
arcs-requires c = laid_at c.args.cells.now _ c.layout_of-at.ensures c.requires

pub arc_size-arcs-requires : goal.arc_size-arcs-requires
arc_size-arcs-requires c =
    let h = held-text c.args.cells.now c.requires in
    let n = arcs_count c.args.cells.now _ _ (laid_at c.args.cells.now _ c.layout_of-at.ensures c.requires) h c.arcs.ensures.part in
    omega arith

pub overflow_add-result : goal.overflow_add-result
overflow_add-result c =
    let h = held-text c.args.cells.now c.requires in
    let i = initials_count c.args.cells.now h _ c.initials.ensures.table in
    let m = terminals_count c.args.cells.now h _ c.terminals.ensures.table in
    let a = arcs_characters c.args.cells.now _ c.arcs.ensures.table in
    omega arith

pub overflow_mul-result : goal.overflow_mul-result
overflow_mul-result c =
    let h = held-text c.args.cells.now c.requires in
    let i = initials_count c.args.cells.now h _ c.initials.ensures.table in
    let m = terminals_count c.args.cells.now h _ c.terminals.ensures.table in
    let a = arcs_characters c.args.cells.now _ c.arcs.ensures.table in
    omega arith

pub overflow_add-result-2 : goal.overflow_add-result-2
overflow_add-result-2 c =
    let h = held-text c.args.cells.now c.requires in
    let i = initials_count c.args.cells.now h _ c.initials.ensures.table in
    let m = terminals_count c.args.cells.now h _ c.terminals.ensures.table in
    let a = arcs_characters c.args.cells.now _ c.arcs.ensures.table in
    omega arith

pub overflow_add-result-3 : goal.overflow_add-result-3
overflow_add-result-3 c =
    let h = held-text c.args.cells.now c.requires in
    let i = initials_count c.args.cells.now h _ c.initials.ensures.table in
    let m = terminals_count c.args.cells.now h _ c.terminals.ensures.table in
    let a = arcs_characters c.args.cells.now _ c.arcs.ensures.table in
    omega arith

pub overflow_add-result-4 : goal.overflow_add-result-4
overflow_add-result-4 c =
    let h = held-text c.args.cells.now c.requires in
    let i = initials_count c.args.cells.now h _ c.initials.ensures.table in
    let m = terminals_count c.args.cells.now h _ c.terminals.ensures.table in
    let a = arcs_characters c.args.cells.now _ c.arcs.ensures.table in
    omega arith

pub returns : goal.returns
returns c =
    let h = held-text c.args.cells.now c.requires in
    let i = initials_count c.args.cells.now h _ c.initials.ensures.table in
    let m = terminals_count c.args.cells.now h _ c.terminals.ensures.table in
    let a = arcs_characters c.args.cells.now _ c.arcs.ensures.table in
    omega arith
