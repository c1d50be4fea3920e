-- The place of the first character that is no blank.
use Rattle.std.proofs.Common.{rules}
use Rattle.wordlist_lines.specs.Lines.{no_blank}
use Rattle.wordlist_lines.proofs.Lines.{FirstIs, unled_cut}
use Rattle.wordlist_lines.proofs.front.Goals as goal

pub returns : goal.returns
returns c = let first : FirstIs no_blank c.args.line.now c.position.result = search rules in unled_cut c.args.line.now c.position.result first c.unwrap_or.result (search rules)
