-- The bytes, then the line feed.
use native.Mathlib.Omega.{arith}
use Rattle.table_printer.proofs.Lines.{line-stored}
use Rattle.table_printer.proofs.put_line.Goals as goal

pub returns : goal.returns
returns c = (omega arith, line-stored _ _ c.args.bytes.now _ c.put_bytes.ensures)
