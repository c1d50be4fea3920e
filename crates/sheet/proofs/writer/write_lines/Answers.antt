-- The opening line, the readings, the last line.
use Rattle.faces.specs.Lent.{list_of}
use Rattle.sheet.proofs.Stored.{sheet-stored}
use Rattle.sheet.proofs.writer.write_lines.Goals as goal

pub returns : goal.returns
returns c =
    let args = c.args in
    let put = c.put_readings-end.ensures in
    sheet-stored args.faces.now (list_of args.readings.now) args.ended _ _ _ _ _ _ _ c.requires.readings_in_bounds c.opening_line.ensures c.put.ensures put.0 put.1 c.last_line.ensures c.put-2.ensures
