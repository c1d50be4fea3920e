-- Lines that were counted are within the text.
use Rattle.std.proofs.Common.{arith, take, length-take-le}
use Rattle.wordlist_lines.proofs.Sizes.{feeds-within}
use Rattle.keys.proofs.list.load.Goals as goal

pub overflow_add-count_lines : goal.overflow_add-count_lines
overflow_add-count_lines g c =
    omega (arith, feeds-within (take c.looked_at-limit.result c.args.text.now), length-take-le c.looked_at-limit.result c.args.text.now c.looked_at-limit.ensures)
