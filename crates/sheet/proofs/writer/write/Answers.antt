-- 33, then 24, then the lines.
use native.Mathlib.Omega.{arith}
use mathlib.Core.Path.{sym, ap, ◌∙◌}
use Rattle.destination.specs.Told.{stored_told}
use Rattle.sheet.proofs.Calls.{write_is, write_leaves, write_fault, write_short, write_refused}
use Rattle.sheet.proofs.writer.write.Goals as goal

pub returns-then-not-holds : goal.returns-then-not-holds
returns-then-not-holds c =
    let args = c.args in
    let fault = (write_fault args.readings.now args.faces.now args.ended args.sheet.now).1 (sym c.holds.ensures ∙ c.if-not-holds.true) in
    (ap stored_told (sym fault), sym (write_refused args.readings.now args.faces.now args.ended args.sheet.now _ fault))

pub returns-then-sheet-size : goal.returns-then-sheet-size
returns-then-sheet-size c =
    let args = c.args in
    let holds = sym c.holds.ensures ∙ c.if-not-holds.false in
    let short = (write_short args.readings.now args.faces.now args.ended args.sheet.now).1 (holds, omega (arith, c.size_of-size.ensures, c.if-sheet-size.true)) in
    (ap stored_told (sym short), sym (write_refused args.readings.now args.faces.now args.ended args.sheet.now _ short))

pub returns : goal.returns
returns c =
    let args = c.args in
    let holds = sym c.holds.ensures ∙ c.if-not-holds.false in
    let size = c.size_of-size.ensures in
    let done = (write_is args.readings.now args.faces.now args.ended args.sheet.now _).1 (holds, size, c.if-sheet-size.false) in
    (ap stored_told (sym done), c.write_lines.ensures ∙ sym (write_leaves args.readings.now args.faces.now args.ended args.sheet.now holds (omega arith)))
