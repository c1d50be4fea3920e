use Rattle.engine_frames.specs.Output.{letters_up_to}
use Rattle.engine_frames.proofs.Gathered.{Filled}
use Rattle.engine_frames.proofs.Setting.gather.Given as goal

abbrev pub invariant-loop-i : goal.invariant-loop-i
invariant-loop-i l = Filled (letters_up_to l.self.setup l.self.arcs.now l.self.upper.now l.self.lower.now l.stack l.i) l.initial.output l.k l.output
