-- At every turn, the readings in the list before those still to come are those of the key.
use Rattle.std.proofs.Common.{◌-◌}
use Rattle.faces.specs.Lent.{most_readings}
use Rattle.session_calls.specs.Calls.{most_calls}
use Rattle.key_sheet.specs.Key.{key_from, first_stack, first_output}
use Rattle.key_sheet.proofs.Gathering.{Gathering}
use Rattle.key_sheet.proofs.gather.Given as goal

abbrev pub invariant-loop-read : goal.invariant-loop-read
invariant-loop-read l = Gathering l.table l.word (key_from l.table l.word most_readings most_calls l.initial.run first_stack first_output) l.initial.list l.list l.stack l.output l.run l.calls l.bytes (most_readings - l._read)
