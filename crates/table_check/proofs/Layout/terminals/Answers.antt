use Rattle.table_check.proofs.Parts.{terminals_part_lem}
use Rattle.table_check.proofs.Layout.terminals.Goals as goal

pub returns-clause-table : goal.returns-clause-table
returns-clause-table c = terminals_part_lem c.args.cells.now c.args.self c.requires
