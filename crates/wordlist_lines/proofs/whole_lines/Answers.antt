-- The place of the last line feed.
use Rattle.std.proofs.Common.{length, ap, sym, ◌∙◌, rules, length-take-le}
use Rattle.wordlist_lines.specs.Lines.{is_feed}
use Rattle.wordlist_lines.proofs.Lines.{LastIs, last_some, last_missing}
use Rattle.wordlist_lines.proofs.whole_lines.Goals as goal

pub returns-in-Some : goal.returns-in-Some
returns-in-Some c =
    let text = c.args.text.now in
    let last : LastIs is_feed c.args.text.now c.rposition.result = search rules in
    let kept = last_some is_feed text c.rposition.result c.in-Some.k c.in-Some.is last in
    sym (length-take-le _ text kept.0) ∙ ap length kept.1

pub returns-in-None : goal.returns-in-None
returns-in-None c = let last : LastIs is_feed c.args.text.now c.rposition.result = search rules in ap length (last_missing is_feed c.args.text.now c.rposition.result c.in-None.is last)
