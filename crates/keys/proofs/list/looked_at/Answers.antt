-- Whole lines are within the text.
use Rattle.std.proofs.Common.{arith, sym, take, length-take-le}
use Rattle.wordlist_lines.proofs.Sizes.{whole-within}
use Rattle.keys.proofs.list.looked_at.Goals as goal

pub slice_bounds-whole_lines-end : goal.slice_bounds-whole_lines-end
slice_bounds-whole_lines-end c = sym (length-take-le 65536 c.args.text.now (omega arith))

pub returns-else-text-le-MOST_INPUT : goal.returns-else-text-le-MOST_INPUT
returns-else-text-le-MOST_INPUT c = omega (arith, whole-within (take 65536 c.args.text.now), length-take-le 65536 c.args.text.now (omega arith))
