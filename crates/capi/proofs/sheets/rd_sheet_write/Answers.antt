-- What the writer tells, in numbers; the bytes are few.
use native.Mathlib.Omega.{arith}
use mathlib.Core.Path.{sym, ◌∙◌}
use mathlib.Core.Bool.{not}
use lib.Dec.{eqb}
use Rattle.destination.proofs.Told.{stored_told-one}
use Rattle.faces.proofs.Lent.{bytes-all}
use Rattle.sheet.proofs.Calls.{written-most}
use Rattle.capi.proofs.sheets.rd_sheet_write.Goals as goal

pub stored_numbers-requires : goal.stored_numbers-requires
stored_numbers-requires c =
    let args = c.args in
    let bytes = bytes-all args.readings.now c.shared_slice_known-1.given in
    λ n e.
    let most = written-most args.readings.now args.faces.now (not (eqb args.ended 0)) args.sheet.now n bytes (sym (stored_told-one _ _ c.write-answer.ensures.0) ∙ e) in
    omega (arith, most)

pub returns : goal.returns
returns c = let write = c.write-answer.ensures in (c.stored_numbers.ensures ∙ write.0, write.1)
