-- The refusal of the start or of a call, or the sheet of the readings.
use Rattle.std.proofs.Common.{◌∙◌}
use Rattle.std.proofs.lemmas.Result.{err_from_is_err_and}
use Rattle.key_sheet.proofs.Calls.{start-refused, start-ready, told-refused, told-written}
use Rattle.key_sheet.proofs.write.Goals as goal

pub returns-in-Refused : goal.returns-in-Refused
returns-in-Refused c =
    let args = c.args in
    told-refused args.table.now args.word.now args.faces.now args.sheet.now (start-refused args.table.now args.word.now c.start-started.result c.start-started.ensures c.in-Refused.is)

pub returns-in_err-bytes : goal.returns-in_err-bytes
returns-in_err-bytes c =
    let args = c.args in
    let ready = start-ready args.table.now args.word.now c.start-started.result c.start-started.ensures c.in_default.is in
    let p = err_from_is_err_and c.from_residual.result c.from_residual.ensures.1 in
    rw (p.1, p.2) (told-refused args.table.now args.word.now args.faces.now args.sheet.now (ready ∙ c.in_err-bytes.ensures))

pub returns : goal.returns
returns c =
    let args = c.args in
    let ready = start-ready args.table.now args.word.now c.start-started.result c.start-started.ensures c.in_default.is in
    let G = c.in_ok-bytes.ensures in
    told-written args.table.now args.word.now args.faces.now args.sheet.now (ready ∙ G.1) G.3 c.write.result c.write.ensures
