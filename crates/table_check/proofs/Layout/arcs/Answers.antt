use Rattle.table_check.proofs.Parts.{arcs_part_lem}
use Rattle.table_check.proofs.Layout.arcs.Goals as goal

pub returns-clause-table : goal.returns-clause-table
returns-clause-table c = arcs_part_lem c.args.cells.now c.args.self c.requires
