-- Fewer bytes than two are left, or fewer than these say.
use mathlib.Core.Path.{refl, sym, subst, ◌∙◌}
use Rattle.faces.specs.Lent.{NextReading}
use Rattle.faces.proofs.Lent.{cut_few, cut_letters}
use Rattle.faces.proofs.list.ReadingsIterator.next.Goals as goal

pub returns-in_default-clause-steps : goal.returns-in_default-clause-steps
returns-in_default-clause-steps c = (refl, cut_few _ c.in_default.len_below)

pub returns-in_err-reading-clause-steps : goal.returns-in_err-reading-clause-steps
returns-in_err-reading-clause-steps c =
    let bytes = c.args.self.now.0.now in
    subst (λ r. NextReading (λ s. s.0.now) c.args.self.now r c.args.self.now) (sym c.from_residual.ensures)
    (refl, cut_letters bytes c.from.result c.in-len2-up.len_at_least (c.from.ensures ∙ c.from_be_bytes-letters.ensures) c.in_err-reading.ensures.cases)
