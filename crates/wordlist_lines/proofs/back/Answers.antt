-- The place of the last character that is no blank.
use Rattle.std.proofs.Common.{arith, rules}
use Rattle.wordlist_lines.specs.Lines.{no_blank}
use Rattle.wordlist_lines.proofs.Lines.{LastIs, last_some, last_missing}
use Rattle.wordlist_lines.proofs.back.Goals as goal

pub returns-in-Some : goal.returns-in-Some
returns-in-Some c = let last : LastIs no_blank c.args.line.now c.rposition.result = search rules in last_some no_blank c.args.line.now c.rposition.result c.in-Some.k c.in-Some.is last

pub returns-in-None : goal.returns-in-None
returns-in-None c = let last : LastIs no_blank c.args.line.now c.rposition.result = search rules in (omega arith, last_missing no_blank c.args.line.now c.rposition.result c.in-None.is last)
