-- A turn's bytes are put behind those before it.
use Rattle.std.proofs.Common.{rules}
use Rattle.input.proofs.Turns.{Consumes-more}
use Rattle.input.proofs.read_all.Goals as goal

pub loop-at-preserved : goal.loop-at-preserved
loop-at-preserved g c =
    (search rules, Consumes-more _ _ _ _ _ _ _ _ c.loop-at.invariant.0 c.in_ok-more.ensures.bound.0 c.loop-at.invariant.1 c.in_ok-more.ensures.bytes.0)
