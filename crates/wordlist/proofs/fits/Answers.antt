-- The check tells how many states there are, or that there are too many.
use Rattle.std.proofs.Common.{◌∙◌}
use Rattle.wordlist.proofs.Adding.{states-told}
use Rattle.wordlist.proofs.fits.Goals as goal

pub returns : goal.returns
returns c = λ ws e h. c.is_ok.ensures.value ∙ states-told ws _ c.check.result c.check.ensures e h
