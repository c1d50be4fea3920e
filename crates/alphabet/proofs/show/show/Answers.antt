-- 24 where the text as it is shown has no room; else, at every turn, the characters so far are shown.
use native.Mathlib.Omega.{arith}
use mathlib.Core.Path.{sym, ap, ◌∙◌}
use lib.ListN.{length}
use borrow.Author.Tests.{leb-true, leb-false}
use Rattle.std.specs.Prelude.{Ok}
use Rattle.destination.proofs.Stored.{stored-fits, stored_short, stored_refused}
use Rattle.alphabet.specs.Shown.{shown}
use Rattle.alphabet.proofs.Showing.{showing_none, showing_more, showing_done}
use Rattle.alphabet.proofs.Shown.{next-length}
use Rattle.alphabet.proofs.show.show.Goals as goal

pub returns-then-not-has_room : goal.returns-then-not-has_room
returns-then-not-has_room c =
    let out = shown c.args.text.now in
    let destination = c.args.destination.now in
    let short = (stored_short out destination).1 (leb-false _ _ (sym c.has_room.ensures ∙ c.if-not-has_room.true)) in
    (sym short, sym (stored_refused out destination _ short).1)

pub loop-c-init : goal.loop-c-init
loop-c-init c = showing_none c.args.text.now c.args.destination.now

pub put_shown-at-requires : goal.put_shown-at-requires
put_shown-at-requires c =
    let text = c.args.text.now in
    let room = leb-true (length (shown text)) _ (sym c.has_room.ensures ∙ c.if-not-has_room.false) in
    omega (arith, next-length text c.loop-c.c-index (omega arith))

pub loop-c-preserved : goal.loop-c-preserved
loop-c-preserved c =
    let args = c.args in
    showing_more args.text.now args.destination.now c.loop-c.destination c.loop-c.at c.loop-c.c-index c.loop-c.invariant (omega arith) _ c.put_shown-at.result c.put_shown-at.ensures.0 c.put_shown-at.ensures.1

pub shape_of-destination : goal.shape_of-destination
shape_of-destination c = c.loop-c.invariant.same

pub returns : goal.returns
returns c =
    let args = c.args in
    let out = shown args.text.now in
    let room = leb-true (length out) _ (sym c.has_room.ensures ∙ c.if-not-has_room.false) in
    let done = showing_done args.text.now args.destination.now c.loop-c.destination c.loop-c.at c.loop-c.c-index c.loop-c.invariant c.loop-c-test.false room in
    let fits = stored-fits out args.destination.now room in
    (ap Ok done.0 ∙ sym fits.0, done.1 ∙ sym fits.1)
