use Rattle.std.proofs.Common.{arith}
use Rattle.machine.specs.Query.{upper_side, lower_side}
use Rattle.engine_place.proofs.link_holds.Goals as goal

pub follow-requires : goal.follow-requires
follow-requires c = (omega (arith, c.requires.linkable.counts-small upper_side), omega (arith, c.requires.linkable.counts-small lower_side))
