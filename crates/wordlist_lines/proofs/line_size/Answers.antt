-- The place of the first line feed.
use Rattle.std.proofs.Common.{rules}
use Rattle.wordlist_lines.specs.Lines.{is_feed}
use Rattle.wordlist_lines.proofs.Lines.{FirstIs, line_cut}
use Rattle.wordlist_lines.proofs.line_size.Goals as goal

pub returns : goal.returns
returns c = let first : FirstIs is_feed c.args.text.now c.position.result = search rules in line_cut c.args.text.now c.requires c.position.result first c.unwrap_or.result (search rules)
