-- What the code of the side rules answers, in the terms of Transducer, where a flag says whether a side is read.
use Rattle.std.specs.Prelude.{ℕ, ◌+◌, Bool, true, cond, ◌&&◌, List, eqb, leb}
use Rattle.std.specs.Prelude as Code
use Rattle.std.specs.Prelude.{Some, None}
use Rattle.std.proofs.Math.Option.{Option, none, some}
use Rattle.table_format.specs.Table.{Arc}
use Rattle.table_format.specs.Classes.{row_of}
use Rattle.machine.specs.Query.{Side, upper_side, lower_side}
use Rattle.machine.specs.Machine.{bind, somewhen}
use Rattle.machine.specs.Transducer.{side_follow, side_done, side_written, Passed, both, next_letter, in_row, plain_by}
use Rattle.engine_frames.specs.declared.Setup.{Setup}
use Rattle.engine_frames.specs.declared.Passed as Counts

-- a side's count, or the sum, after an arc, if the arc fits there
abbrev pub count_of : Option ℕ → Code.Option ℕ
count_of none = None
count_of (some n) = Some n

-- both counts after an arc, if it fits
abbrev pub fit_of : Option Passed → Code.Option Counts.Passed
fit_of none = None
fit_of (some d) = Some (record { up = d.up; low = d.low })

-- what was passed on each side
abbrev pub passed_of : ℕ → ℕ → Passed
passed_of u l = record { up = u; low = l }

-- as the code holds it
abbrev pub passed_in : Counts.Passed → Passed
passed_in p = passed_of p.up p.low

-- of two things, the upper and the lower side's, that of a side
abbrev pub by_side : {A : Type 0} → A → A → Side → A
by_side x y upper_side = x
by_side x y lower_side = y

-- whether a side is read
abbrev pub setup_reads : Setup → Side → Bool
setup_reads s side = by_side s.up s.low side

-- a plain arc fits where it fits on both sides
abbrev pub follow_by : Setup → List ℕ → List ℕ → Arc → Passed → Option Passed
follow_by s upper lower a d = both (side_follow s.up upper a.upper d.up) (side_follow s.low lower a.lower d.low)

-- an arc of a class is the plain arc of the next letter, if that is in the class
abbrev pub follow_in : Setup → List (List ℕ) → List ℕ → List ℕ → Arc → Passed → Option Passed
follow_in s classes upper lower a d = bind (plain_by classes a (next_letter s.up upper lower d)) (λ b. follow_by s upper lower b d)

-- whether it fits, where x is the upper word's next letter and y the lower word's: that of every word that is read is one letter of the class
abbrev pub class_fits : Setup → List (List ℕ) → ℕ → ℕ → ℕ → Bool
class_fits s classes letter x y = cond s.up (cond s.low (eqb y x) true && in_row x (row_of classes letter)) (in_row y (row_of classes letter))

-- a sum with a penalty added: "An arc that would lift the sum over the ceiling does not fit"
abbrev pub summed : ℕ → ℕ → ℕ → Option ℕ
summed ceiling sum penalty = somewhen (leb (sum + penalty) ceiling) (sum + penalty)

-- "every given word is read to its end"
abbrev pub done_by : Setup → List ℕ → List ℕ → Passed → Bool
done_by s upper lower d = side_done s.up upper d.up && side_done s.low lower d.low

-- the output's length, from the counts
abbrev pub written_of : Setup → Passed → ℕ
written_of s d = side_written s.up d.up + side_written s.low d.low
