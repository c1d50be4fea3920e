use mathlib.Core.Path.{sym, ◌∙◌}
use borrow.Author.Rules.{rules}
use borrow.Author.Tests.{tests}
use Rattle.std.proofs.lemmas.Iterator.{YieldsList-from_range}
use Rattle.std.proofs.lemmas.Iterator.Search.{all_from_yields_List}
use Rattle.table_format.specs.Classes.{class_count}
use Rattle.table_format.specs.Rules.{row_holds}
use Rattle.table_classes.proofs.ClassRows.{blank-keeps, part, rows_all_hold}
use Rattle.table_classes.proofs.classes_hold.Goals as goal

pub returns-then-is_blank : goal.returns-then-is_blank
returns-then-is_blank c = c.if-is_blank.true ∙ sym (blank-keeps c.args.rows.now c.requires (sym c.is_blank.ensures ∙ c.if-is_blank.true))

pub returns-else-is_blank : goal.returns-else-is_blank
returns-else-is_blank c =
    all_from_yields_List (λ n. row_holds (part c.args.rows.now n)) _ _ c.all.result c.all.ensures.ran (YieldsList-from_range 0 class_count class_count (cc) (search rules)) (λ x b q k. search (rules, tests))
    ∙ rows_all_hold c.args.rows.now
