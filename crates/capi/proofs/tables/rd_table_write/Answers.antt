-- What the writer tells, in numbers; the bytes are few.
use mathlib.Core.Path.{sym, ◌∙◌}
use Rattle.destination.proofs.Told.{stored_told-one}
use Rattle.capi.proofs.Sizes.{write_small}
use Rattle.capi.proofs.tables.rd_table_write.Goals as goal

pub stored_numbers-requires : goal.stored_numbers-requires
stored_numbers-requires c =
    let args = c.args in
    λ n e. write_small args.table.now args.text.now n (sym (stored_told-one _ _ c.write-answer.ensures.0) ∙ e)

pub returns : goal.returns
returns c = let write = c.write-answer.ensures in (c.stored_numbers.ensures ∙ write.0, write.1)
