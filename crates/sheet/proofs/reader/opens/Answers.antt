-- The first line, compared.
use Rattle.sheet.proofs.Read.{opens_by}
use Rattle.sheet.proofs.reader.opens.Goals as goal

pub returns : goal.returns
returns c = opens_by c.args.text.now c.opening_line.result c.starts_with.result c.opening_line.ensures c.starts_with.ensures.value
