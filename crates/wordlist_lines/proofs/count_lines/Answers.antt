-- The line feeds, counted.
use Rattle.std.proofs.Common.{◌≡◌, ◌∙◌, rules}
use Rattle.std.specs.List.{count_by}
use Rattle.wordlist_lines.specs.Lines.{is_feed}
use Rattle.wordlist_lines.proofs.Lines.{feeds-count}
use Rattle.wordlist_lines.proofs.count_lines.Goals as goal

pub returns : goal.returns
returns c = let e : c.count.result ≡ count_by is_feed c.args.text.now = search rules in e ∙ feeds-count c.args.text.now
