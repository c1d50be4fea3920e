use Rattle.table_parser.proofs.ParseLine.{after-told}
use Rattle.table_parser.proofs.after_end.Goals as goal

pub returns-in-Ok : goal.returns-in-Ok
returns-in-Ok c = after-told _ _ c.scan.ensures.0 c.in-Ok.is

pub returns-in-Err : goal.returns-in-Err
returns-in-Err c = after-told _ _ c.scan.ensures.0 c.in-Err.is
