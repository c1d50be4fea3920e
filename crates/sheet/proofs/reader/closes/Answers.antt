-- The last line, compared.
use Rattle.sheet.proofs.Read.{closes_by}
use Rattle.sheet.proofs.reader.closes.Goals as goal

pub returns : goal.returns
returns c = closes_by c.args.text.now c.args.ended c.last_line.result c.ends_with.result c.last_line.ensures c.ends_with.ensures.value
