use Rattle.table_check.proofs.Parts.{initials_part_lem}
use Rattle.table_check.proofs.Layout.initials.Goals as goal

pub returns-clause-table : goal.returns-clause-table
returns-clause-table c = initials_part_lem c.args.cells.now c.args.self c.requires
