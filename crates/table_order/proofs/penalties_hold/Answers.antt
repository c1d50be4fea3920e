use mathlib.Core.Path.{◌∙◌}
use borrow.Author.Rules.{rules}
use borrow.Author.Tests.{tests}
use Rattle.std.proofs.lemmas.Iterator.{YieldsList-from_range}
use Rattle.std.proofs.lemmas.Iterator.Search.{all_from_yields_List}
use Rattle.table_format.specs.Rules.{penalty_holds}
use Rattle.table_format.specs.Cells.{arc_count, arc_of}
use Rattle.table_order.proofs.Ranges.{all_arcs}
use Rattle.table_order.proofs.penalties_hold.Goals as goal

pub returns : goal.returns
returns c =
    all_from_yields_List (λ k. penalty_holds (arc_of c.args.cells.now k)) _ _ c.all.result c.all.ensures.ran (YieldsList-from_range 0 (arc_count c.args.cells.now) (arc_count c.args.cells.now) (cc) (search rules)) (λ x b q k. search (rules, tests))
    ∙ all_arcs penalty_holds c.args.cells.now (arc_count c.args.cells.now)
