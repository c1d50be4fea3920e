-- The length, the table's faults, then what follows the table.
use Prim.Native.Nat.{ℕ}
use mathlib.Core.Path.{sym, ap, ◌∙◌}
use lib.ListN.{replicate, length-replicate}
use lib.Seq.{length-take-le}
use native.Mathlib.Omega.{arith}
use Rattle.std.proofs.lemmas.Result.{err_from_is_err_and}
use Rattle.destination.proofs.Told.{stored_told-one}
use Rattle.table_format.specs.Loaded.{most_cells}
use Rattle.session_opening.specs.Opened.{Opened, opened}
use Rattle.session_opening.specs.Outcome.{opening_outcome}
use Rattle.session_opening.proofs.Outcome.{opening-refused, opening-same, opened-long, end-inside, table-refused, count-inside, table-read}
use Rattle.session_opening.proofs.begin.Goals as goal

pub returns-then-input-gt-MOST_INPUT : goal.returns-then-input-gt-MOST_INPUT
returns-then-input-gt-MOST_INPUT c = opening-refused (opened c.args.input.now) c.args.table.now c.args.query.now.bytes _ (opened-long c.args.input.now (omega arith))

pub slice_bounds-read-end : goal.slice_bounds-read-end
slice_bounds-read-end c = sym (length-take-le _ _ (end-inside c.args.input.now c.table_end-end.result c.table_end-end.ensures c.if-input-gt-MOST_INPUT.false (replicate most_cells 0) (length-replicate {A = ℕ} most_cells 0)))

pub slice_bounds-begin_query-count : goal.slice_bounds-begin_query-count
slice_bounds-begin_query-count c = let e = end-inside c.args.input.now c.table_end-end.result c.table_end-end.ensures c.if-input-gt-MOST_INPUT.false (replicate most_cells 0) (length-replicate {A = ℕ} most_cells 0) in omega arith

pub slice_bounds-begin_query-start : goal.slice_bounds-begin_query-start
slice_bounds-begin_query-start c = let e = end-inside c.args.input.now c.table_end-end.result c.table_end-end.ensures c.if-input-gt-MOST_INPUT.false (replicate most_cells 0) (length-replicate {A = ℕ} most_cells 0) in omega arith

pub slice_bounds-cells-end : goal.slice_bounds-cells-end
slice_bounds-cells-end c = count-inside c.args.input.now c.table_end-end.result c.table_end-end.ensures c.if-input-gt-MOST_INPUT.false (replicate most_cells 0) (length-replicate {A = ℕ} most_cells 0) c.in_ok-count.count c.read.new.destination (sym c.in_ok-count.was ∙ stored_told-one _ _ c.read.ensures.0) c.read.ensures.1

pub slice_bounds-begin_query-end-2 : goal.slice_bounds-begin_query-end-2
slice_bounds-begin_query-end-2 c = sym (length-take-le _ _ (count-inside c.args.input.now c.table_end-end.result c.table_end-end.ensures c.if-input-gt-MOST_INPUT.false (replicate most_cells 0) (length-replicate {A = ℕ} most_cells 0) c.in_ok-count.count c.read.new.destination (sym c.in_ok-count.was ∙ stored_told-one _ _ c.read.ensures.0) c.read.ensures.1))

pub begin_query-requires : goal.begin_query-requires
begin_query-requires c = let n = count-inside c.args.input.now c.table_end-end.result c.table_end-end.ensures c.if-input-gt-MOST_INPUT.false (replicate most_cells 0) (length-replicate {A = ℕ} most_cells 0) c.in_ok-count.count c.read.new.destination (sym c.in_ok-count.was ∙ stored_told-one _ _ c.read.ensures.0) c.read.ensures.1 in omega (arith, length-take-le c.in_ok-count.count c.read.new.destination n, c.read.auto)

pub returns-in_err-count : goal.returns-in_err-count
returns-in_err-count c =
    let p = err_from_is_err_and c.from_residual.result c.from_residual.ensures.1 in
    let refused = table-refused c.args.input.now c.table_end-end.result c.table_end-end.ensures c.if-input-gt-MOST_INPUT.false (replicate most_cells 0) (length-replicate {A = ℕ} most_cells 0) _ (sym c.in_err-count.was ∙ stored_told-one _ _ c.read.ensures.0) in
    rw (p.1, p.2) (opening-refused (opened c.args.input.now) c.args.table.now c.args.query.now.bytes _ refused)

pub returns : goal.returns
returns c = opening-same _ _ _ _ _ (ap (λ (o : Opened). opening_outcome o c.args.table.now c.args.query.now.bytes) (sym (table-read c.args.input.now c.table_end-end.result c.table_end-end.ensures c.if-input-gt-MOST_INPUT.false (replicate most_cells 0) (length-replicate {A = ℕ} most_cells 0) c.in_ok-count.count c.read.new.destination (sym c.in_ok-count.was ∙ stored_told-one _ _ c.read.ensures.0) c.read.ensures.1))) c.begin_query.ensures
