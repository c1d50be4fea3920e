-- The blanks, and the line feed after them.
use Rattle.sheet_lines.proofs.Stores.{end-stored}
use Rattle.sheet_lines.proofs.put_end.Goals as goal

pub returns : goal.returns
returns c = end-stored c.args.sheet.now c.args.at c.args.end _ c.requires.0 c.requires.1 (c.fill.ensures.after (λ y e. e))
