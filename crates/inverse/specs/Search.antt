-- What a caller does and receives: a start without a refusal and any calls after it, handed on as demand 3 says.
use Rattle.std.specs.Prelude.{ℕ, ◌≡◌, List, []}
use Rattle.machine.specs.declared.Started.{Started}
use Rattle.machine.specs.declared.StartAnswer.TheVariants.{Ready}
use Rattle.machine.specs.Start.{started, StartedIs}
use Rattle.machine.specs.Demand.{Lent, Handed, received, steps_told, LastEnds}

-- on the cells of a loaded table, with a task's number, an upper and a lower word and a ceiling
pub record Search (cells : List ℕ) (task : ℕ) (upper lower : List ℕ) (ceiling : ℕ) : Type 0 where
  pub start : Started
  pub start_is : StartedIs (started cells task upper lower ceiling) start
  pub ready : start.answer ≡ Ready
  pub calls : List Lent
  pub handed : Handed upper lower cells start.run [] calls

module _ {cells : List ℕ} {task : ℕ} {upper lower : List ℕ} {ceiling : ℕ} where
  -- the readings received; where the calls came to their end, a key
  abbrev pub received_by : Search cells task upper lower ceiling → List (List ℕ)
  received_by s = received upper lower s.start.run s.calls

  -- the steps told
  abbrev pub steps : Search cells task upper lower ceiling → ℕ
  steps s = steps_told upper lower s.start.run s.calls

  -- the calls came to their end
  abbrev pub Ended : Search cells task upper lower ceiling → Type 0
  Ended s = LastEnds upper lower s.start.run s.calls
