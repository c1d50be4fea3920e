-- Some bytes, then the line of others.
use Rattle.session_replies.proofs.Lines.{line-stored}
use Rattle.session_replies.proofs.put_line.Goals as goal

pub returns : goal.returns
returns c = line-stored _ _ _ c.args.head.now c.args.tail.now _ c.requires c.put_bytes.ensures c.put_line.ensures.0 c.put_line.ensures.1
