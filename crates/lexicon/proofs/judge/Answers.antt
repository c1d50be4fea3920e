-- A word has as many letters as it has in common with another one.
use Rattle.lexicon.proofs.Comparing.{common-second}
use native.Mathlib.Omega.{arith}
use Rattle.lexicon.proofs.judge.Goals as goal

pub overflow_sub-grown : goal.overflow_sub-grown
overflow_sub-grown c = omega (arith, c.common-shared.ensures, common-second c.args.before.now c.args.word.now)
