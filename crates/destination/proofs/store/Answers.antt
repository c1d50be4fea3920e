-- What is stored from the front on is what the definition says.
use native.Mathlib.Omega.{arith}
use mathlib.Core.Path.{sym, ◌∙◌}
use Rattle.destination.proofs.Putting.{sets-front}
use Rattle.destination.proofs.Stored.{stored-fits}
use Rattle.destination.proofs.store.Goals as goal

pub returns-clause-left : goal.returns-clause-left
returns-clause-left g c =
    let args = c.args in
    c.put.ensures ∙ sets-front args.destination.now args.items.now (omega arith)
    ∙ sym (stored-fits args.items.now args.destination.now (omega arith)).1
