-- A state that is not met yet: there is room for it, and it comes behind the others.
use Rattle.std.proofs.Common.{arith, subst, ℕ, ◌+◌, true, set}
use Rattle.engine_reach.specs.Reach.{Listed}
use Rattle.engine_reach.proofs.Marks.{room, listed_more}
use Rattle.engine_reach.proofs.Visits.visit.Goals as goal

pub bounds-self-self : goal.bounds-self-self
bounds-self-self c = room _ _ _ _ c.args.self.now.listed (omega arith) c.if-not-self-at.true

pub invariant_of-self : goal.invariant_of-self
invariant_of-self c = record { listed = subst (λ (x : ℕ). Listed (set c.args.self.now.met c.from-at.result true) (set c.args.self.now.order c.args.self.now.count x) (c.args.self.now.count + 1)) c.from-at.ensures (listed_more _ _ _ _ c.args.self.now.listed (omega arith) c.if-not-self-at.true) }
