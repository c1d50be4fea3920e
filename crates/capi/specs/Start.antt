-- What a start tells C: the answer in numbers with all 256 cells of the cycle, and the lent run.
use Rattle.std.specs.Prelude.{◌≡◌}
use Rattle.machine.specs.declared.Run.{Run}
use Rattle.machine.specs.declared.StartAnswer.{StartAnswer}
use Rattle.machine.specs.declared.StartAnswer.TheVariants.{Ready, Refused}
use Rattle.machine.specs.declared.Started.{Started}
use Rattle.machine.specs.Start.{start_told_by}
use Rattle.capi.specs.declared.StartReply.{StartReply}
use Rattle.capi_numbers.specs.Numbers.{reply_told}

-- "every lent buffer holds what it held .. before the call where no step was begun": the run that a start leaves is the one that it
-- begins where it passes, else the one that was there
abbrev pub start_run : StartAnswer → Run → Run → Run
start_run Ready begun before = begun
start_run (Refused refusal) begun before = before

abbrev pub run_left : Started → Run → Run
run_left s before = start_run s.answer s.run before

-- what C gets of a start's result: its answer in this paper's numbers, all cells of the cycle ("The answer itself, not a lent buffer, gives
-- the states"), and the run that it leaves
abbrev pub ReplyIs : Started → Run → StartReply → Run → Type 0
ReplyIs s before reply after = (reply_told reply.answer ≡ start_told_by s) × (reply.cycle ≡ s.cycle) × (after ≡ run_left s before)
