use native.Mathlib.Omega.{arith}
use mathlib.Core.Path.{sym, ap, ◌∙◌}
use borrow.Author.Rules.{rules}
use Rattle.table_format.specs.Cells.{arc_said}
use Rattle.table_scanner.proofs.Padded.{arc_as_lem}
use Rattle.table_items.proofs.LineKinds.{misplaced, placed}
use Rattle.table_items.proofs.Judged.{given-keep, given-top, given-judged}
use Rattle.table_items.proofs.Draft.arc_fault.Goals as goal

pub returns-then-not-is_arc : goal.returns-then-not-is_arc
returns-then-not-is_arc c = λ b p q. sym (misplaced _ (sym (c.is_arc.ensures b p q) ∙ c.if-not-is_arc.true))

pub arc_fault-requires : goal.arc_fault-requires
arc_fault-requires c =
    record {
      rows_len = search rules;
      before_value = given-keep c.requires _ (omega arith);
      before_bound = given-top c.requires _ (omega arith);
    }

pub returns : goal.returns
returns c =
    λ b p q.
    c.arc_fault.ensures
    ∙ given-judged c.requires _ (omega arith) (ap arc_said c.arc_in.ensures ∙ arc_as_lem c.args.line.bytes b p)
    ∙ sym (placed _ (sym (c.is_arc.ensures b p q) ∙ c.if-not-is_arc.false))
