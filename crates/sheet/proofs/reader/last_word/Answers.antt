-- By what comparing tells.
use mathlib.Core.Path.{refl, sym, ◌∙◌}
use mathlib.Core.Bool.{true, false}
use Rattle.sheet.specs.Read.{closes_with}
use Rattle.sheet.proofs.Read.{last-by}
use Rattle.sheet.proofs.reader.last_word.Goals as goal

pub returns-then-closes : goal.returns-then-closes
returns-then-closes c = sym (last-by c.args.text.now true (closes_with c.args.text.now false) (sym c.closes.ensures ∙ c.if-closes.true) refl)

pub returns-then-closes-2 : goal.returns-then-closes-2
returns-then-closes-2 c = sym (last-by c.args.text.now false true (sym c.closes.ensures ∙ c.if-closes.false) (sym c.closes-else-closes.ensures ∙ c.if-closes-2.true))

pub returns-else-closes-2 : goal.returns-else-closes-2
returns-else-closes-2 c = sym (last-by c.args.text.now false false (sym c.closes.ensures ∙ c.if-closes.false) (sym c.closes-else-closes.ensures ∙ c.if-closes-2.false))
