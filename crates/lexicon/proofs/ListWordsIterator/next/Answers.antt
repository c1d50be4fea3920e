-- No byte is left, or fewer than the length byte says.
use native.Mathlib.Omega.{arith}
use mathlib.Core.Path.{refl, sym, subst}
use Rattle.lexicon.specs.Lexicon.{NextWord}
use Rattle.lexicon.proofs.Lexicon.{cut_end, cut_front}
use Rattle.lexicon.proofs.ListWordsIterator.next.Goals as goal

pub returns-in_err-letters-clause-steps : goal.returns-in_err-letters-clause-steps
returns-in_err-letters-clause-steps c =
    subst (λ r. NextWord (λ s. s.0.now) c.args.self.now r c.args.self.now) (sym c.from_residual.ensures) (refl, cut_end _ c.in_err-letters.ensures.cases)

pub returns-in_err-word-clause-steps : goal.returns-in_err-word-clause-steps
returns-in_err-word-clause-steps c =
    subst (λ r. NextWord (λ s. s.0.now) c.args.self.now r c.args.self.now) (sym c.from_residual-in_err-word.ensures) (refl, cut_front _ _ _ c.in_ok-letters.ensures.cases.0 (omega (arith, c.in_err-word.ensures.cases, c.from.ensures)))
