-- One letter more.
use Rattle.std.proofs.Common.{arith}
use Rattle.std.proofs.lemmas.Grind.{common_steps}
use Rattle.std.proofs.lemmas.Bool.Decides.{nat_tests}
use Rattle.engine_admission.proofs.Words.{letters_next}
use Rattle.engine_admission.proofs.word_holds.Goals as goal

pub loop-x-preserved : goal.loop-x-preserved
loop-x-preserved c = (omega arith, grind (arith, nat_tests, common_steps, letters_next c.args.w.now c.loop-x.x-index c.loop-x-test.true))
