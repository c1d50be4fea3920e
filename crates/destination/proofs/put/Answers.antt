-- The part that was copied over is the items, and the rest stays.
use Rattle.destination.proofs.Putting.{sets-part}
use Rattle.destination.proofs.put.Goals as goal

pub returns : goal.returns
returns g c = sets-part c.args.destination.now c.args.at c.args.items.now c.copy_from_slice.new.self c.requires c.copy_from_slice.ensures.after
