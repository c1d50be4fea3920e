use native.Mathlib.Omega.{arith}
use mathlib.Core.Path.{sym, ◌∙◌}
use Rattle.table_scanner.proofs.Padded.{number_as}
use Rattle.table_items.proofs.LineKinds.{one-misplaced, one-said}
use Rattle.table_items.proofs.ItemLine.number.Goals as goal

pub returns-then-not-has_form : goal.returns-then-not-has_form
returns-then-not-has_form c = λ b p q. one-misplaced c.args.kind b (sym (c.has_form.ensures b p q) ∙ c.if-not-has_form.true)

pub returns : goal.returns
returns c =
    λ b p q. one-said c.args.kind b (sym (c.has_form.ensures b p q) ∙ c.if-not-has_form.false) (c.number_at.ensures ∙ number_as c.args.self.bytes b p 1 (omega arith))
