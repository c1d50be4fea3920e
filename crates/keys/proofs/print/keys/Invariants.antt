-- At every turn each line so far took a character or more, and each word is on a line of its own.
use Rattle.std.proofs.Common.{◌+◌, ◌-◌, ◌*◌, ◌≤◌, length}
use Rattle.keys.specs.Printed.{sheet_lines}
use Rattle.keys.proofs.print.keys.Given as goal

abbrev pub invariant-loop-from : goal.invariant-loop-from
invariant-loop-from g l = (l.tally.words ≤ l.at) × (l.tally.refused ≤ l.at) × (l.tally.readings ≤ sheet_lines * l.at) × (l.number ≤ l.at + 1)

abbrev pub decreases-loop-from : goal.decreases-loop-from
decreases-loop-from g l = length l.text - l.at
