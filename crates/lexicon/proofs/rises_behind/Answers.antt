-- Both words have what they have in common.
use Rattle.std.proofs.Common.{arith}
use Rattle.lexicon.proofs.Comparing.{common-first, common-second}
use Rattle.lexicon.proofs.rises_behind.Goals as goal

pub slice_bounds-last-count : goal.slice_bounds-last-count
slice_bounds-last-count c = omega (arith, common-first c.args.before.now c.args.word.now)

pub slice_bounds-last-start : goal.slice_bounds-last-start
slice_bounds-last-start c = omega (arith, common-first c.args.before.now c.args.word.now)

pub slice_bounds-letters-count : goal.slice_bounds-letters-count
slice_bounds-letters-count c = omega (arith, common-second c.args.before.now c.args.word.now)

pub slice_bounds-letters-start : goal.slice_bounds-letters-start
slice_bounds-letters-start c = omega (arith, common-second c.args.before.now c.args.word.now)
