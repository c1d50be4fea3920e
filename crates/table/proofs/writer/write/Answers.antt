-- 20 where the check fails, 24 where the text does not fit, else the text.
use native.Mathlib.Omega.{arith}
use mathlib.Core.Path.{sym, ap, ◌∙◌}
use Rattle.std.specs.Prelude.{Ok}
use Rattle.destination.specs.Told.{stored_told}
use Rattle.table_format.specs.Loaded.{table_in}
use Rattle.table.proofs.Calls.{write_fits, write_short, write_broken, write_refused}
use Rattle.table_check.proofs.Passing.{passed, failed}
use Rattle.table.proofs.writer.write.Goals as goal

pub returns-in_default : goal.returns-in_default
returns-in_default c =
    let args = c.args in
    let broken = (write_broken args.cells.now args.text.now).1 (failed args.cells.now _ (sym c.in_default.is ∙ c.check.ensures)) in
    (ap stored_told (sym broken), sym (write_refused args.cells.now args.text.now _ broken))

pub text_size-size-requires : goal.text_size-size-requires
text_size-size-requires c = passed c.args.cells.now _ c.in-Ok.ensures

pub returns-then-text-size : goal.returns-then-text-size
returns-then-text-size c =
    let size = c.text_size-size.ensures in
    let args = c.args in
    let short = (write_short args.cells.now args.text.now).1 (table_in args.cells.now, passed c.args.cells.now _ c.in-Ok.ensures, omega arith) in
    (ap stored_told (sym short), sym (write_refused args.cells.now args.text.now _ short))

pub write_table-requires : goal.write_table-requires
write_table-requires c = let size = c.text_size-size.ensures in record { cells_value = passed c.args.cells.now _ c.in-Ok.ensures; cells_in_bounds = omega arith }

pub returns : goal.returns
returns c =
    let size = c.text_size-size.ensures in
    let args = c.args in
    let w = write_fits args.cells.now args.text.now (table_in args.cells.now) (passed c.args.cells.now _ c.in-Ok.ensures) (omega arith) in
    (ap stored_told (ap Ok size ∙ sym w.0), c.write_table.ensures ∙ sym w.1)
