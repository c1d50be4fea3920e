-- At every turn, what is left of the room and what is left of the text differ as they did.
use native.Mathlib.Omega.{arith}
use mathlib.Core.Path.{refl, sym, ap}
use lib.ListN.{length}
use borrow.Author.Tests.{le-leb, lt-leb}
use Rattle.alphabet.specs.Shown.{shown}
use Rattle.alphabet.proofs.Shown.{next-length, shown-end}
use Rattle.alphabet.proofs.show.has_room.Goals as goal

pub loop-c-init : goal.loop-c-init
loop-c-init c = (omega arith, refl)

pub returns-then-left-size : goal.returns-then-left-size
returns-then-left-size c =
    let text = c.args.text.now in
    sym (lt-leb (length (shown text)) _ (omega (arith, next-length text c.loop-c.c-index (omega arith))))

pub loop-c-preserved : goal.loop-c-preserved
loop-c-preserved c = (omega arith, omega (arith, next-length c.args.text.now c.loop-c.c-index (omega arith)))

pub returns : goal.returns
returns c =
    let text = c.args.text.now in
    sym (le-leb (length (shown text)) _ (omega (arith, ap length (shown-end text c.loop-c.c-index c.loop-c-test.false))))
