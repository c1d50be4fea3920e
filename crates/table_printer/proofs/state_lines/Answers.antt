-- At every turn, storing the lines of the states that are left gives what storing all of them gives.
use Prim.Native.Nat.{ℕ, ◌+◌}
use lib.ListN.{get_or}
use native.Mathlib.Omega.{arith}
use mathlib.Core.Path.{sym, ap, ◌∙◌}
use mathlib.Core.List.{◌∷◌}
use lib.Seq.{sets}
use Rattle.table_format.specs.Text.{number}
use Rattle.table_format.specs.Parse.{state_line}
use Rattle.table_printer.proofs.Lines.{length-line, lines-turn, lines_end}
use Rattle.table_printer.proofs.state_lines.Goals as goal

pub loop-state-preserved : goal.loop-state-preserved
loop-state-preserved c =
    let args = c.args in
    let loop = c.loop-state in (
      omega arith,
      lines-turn (λ s. args.kind ∷ number s) 0 loop.text _ loop.to (loop.to + state_line) args.list.now loop.state-index c.loop-state-test.true c.number_line.ensures (ap (λ (n : ℕ). loop.to + n) (sym (length-line (args.kind ∷ number (get_or args.list.now loop.state-index 0)))))
          ∙ loop.invariant.1,
    )

pub returns : goal.returns
returns c =
    let args = c.args in
    (omega arith, sym (ap (sets c.loop-state.text c.loop-state.to) (lines_end (λ s. args.kind ∷ number s) 0 args.list.now c.loop-state.state-index c.loop-state-test.false)) ∙ c.loop-state.invariant.1)
