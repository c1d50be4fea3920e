-- What the reader tells, in numbers; the cells are few.
use mathlib.Core.Path.{sym, ◌∙◌}
use Rattle.destination.proofs.Told.{stored_told-one}
use Rattle.capi.proofs.Sizes.{read_small}
use Rattle.capi.proofs.tables.rd_table_read.Goals as goal

pub stored_numbers-requires : goal.stored_numbers-requires
stored_numbers-requires c =
    let args = c.args in
    λ n e. read_small args.text.now args.table.now n (sym (stored_told-one _ _ c.read-answer.ensures.0) ∙ e)

pub returns : goal.returns
returns c = let read = c.read-answer.ensures in (c.stored_numbers.ensures ∙ read.0, read.1)
