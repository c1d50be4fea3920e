-- The loop: the states below q had their turn.
use Rattle.std.proofs.Common.{arith, List, ℕ, ◌+◌, sym, subst, ◌∙◌}
use Rattle.engine_cycle.proofs.Rounds.{Turned, some-there, none-there, turned_none, turned-numbered, turned-leads-not, turned-adds, turned-all}
use Rattle.engine_cycle.proofs.layer.Goals as goal
use Rattle.engine_cycle.proofs.layer.Goals.{then-numbers-q-eq0+then-is_some, else-numbers-q-eq0, else-numbers-q-eq0-via-then-numbers-q-eq0+else-is_some, else-numbers-q-eq0-via-else-numbers-q-eq0}

pub loop-q-init : goal.loop-q-init
loop-q-init c = turned_none c.args.graph.now c.args.far c.args.numbers.now

pub loop-q-preserved : goal.loop-q-preserved
loop-q-preserved c =
    let g = c.args.graph.now in
    let T = λ (n : List ℕ). Turned g c.args.far c.args.numbers.now n (c.loop-q.q + 1) in
    elim c.if-numbers-q-eq0.branch [
      | then-numbers-q-eq0+then-is_some w ↦ (let S = some-there w.lowest.result (sym w.is_some.ensures ∙ w.if-is_some.true) in
          subst T (sym w.numbers-is) (turned-adds g c.loop-q.invariant w.lowest.result w.lowest.ensures c.requires.0 S.0 S.1 (let l = c.loop-q.invariant.same_length in omega (arith, c.told-numbers, g.graph.few)) w.if-numbers-q-eq0.true))
      | else-numbers-q-eq0 w ↦ subst T (sym w.numbers-is)
          (elim w.else-numbers-q-eq0.branch [
            | else-numbers-q-eq0-via-then-numbers-q-eq0+else-is_some w' ↦ turned-leads-not g c.loop-q.invariant w'.lowest.result w'.lowest.ensures c.requires.0 (none-there w'.lowest.result (sym w'.is_some.ensures ∙ w'.if-is_some.false))
            | else-numbers-q-eq0-via-else-numbers-q-eq0 w' ↦ turned-numbered g c.loop-q.invariant w'.if-numbers-q-eq0.false
          ])
    ]

pub returns : goal.returns
returns c = turned-all c.args.graph.now (omega arith) c.loop-q.invariant
