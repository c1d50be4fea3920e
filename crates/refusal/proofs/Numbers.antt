-- A refusal's number tells it.
use Prim.Native.Nat.{ℕ}
use mathlib.Core.Path.{◌≡◌, refl, sym, ap, ◌∙◌}
use mathlib.Core.Bool.{cond}
use lib.Dec.{eqb}
use Rattle.refusal.specs.declared.InputCause.TheVariants.{Malformed, Misplaced, CountLimit, StateNumber, LetterLimit, StateOrder, SourceOrder, ArcRepeated, LineCount, WordFault, TaskFault, IdleCycle, ListedWord, WordOrder, StateLimit, SheetFault, ClassFault, CeilingLimit}
use Rattle.refusal.specs.declared.StateCause.TheVariants.{LoadedTable, Place, StackFull, OutputFull, DestinationShort}
use Rattle.refusal.specs.declared.Refusal.{Refusal}
use Rattle.refusal.specs.declared.Refusal.TheVariants.{Input, State}
use Rattle.refusal.specs.Refusal.{number_of}

-- the refusal of a number
refusal_at : ℕ → Refusal
refusal_at n =
    cond (eqb n 1) (Input Malformed)
    (cond (eqb n 2) (Input Misplaced)
    (cond (eqb n 3) (Input CountLimit)
    (cond (eqb n 4) (Input StateNumber)
    (cond (eqb n 5) (Input LetterLimit)
    (cond (eqb n 6) (Input StateOrder)
    (cond (eqb n 7) (Input SourceOrder)
    (cond (eqb n 8) (Input ArcRepeated)
    (cond (eqb n 9) (Input LineCount)
    (cond (eqb n 10) (Input WordFault)
    (cond (eqb n 11) (Input TaskFault)
    (cond (eqb n 12) (Input IdleCycle)
    (cond (eqb n 20) (State LoadedTable)
    (cond (eqb n 21) (State Place)
    (cond (eqb n 22) (State StackFull)
    (cond (eqb n 23) (State OutputFull)
    (cond (eqb n 24) (State DestinationShort)
    (cond (eqb n 30) (Input ListedWord)
    (cond (eqb n 31) (Input WordOrder)
    (cond (eqb n 32) (Input StateLimit)
    (cond (eqb n 33) (Input SheetFault)
    (cond (eqb n 34) (Input ClassFault) (Input CeilingLimit))))))))))))))))))))))

number_at : (r : Refusal) → refusal_at (number_of r) ≡ r
unfolding refusal_at
number_at (Input Malformed) = refl
number_at (Input Misplaced) = refl
number_at (Input CountLimit) = refl
number_at (Input StateNumber) = refl
number_at (Input LetterLimit) = refl
number_at (Input StateOrder) = refl
number_at (Input SourceOrder) = refl
number_at (Input ArcRepeated) = refl
number_at (Input LineCount) = refl
number_at (Input WordFault) = refl
number_at (Input TaskFault) = refl
number_at (Input IdleCycle) = refl
number_at (Input ListedWord) = refl
number_at (Input WordOrder) = refl
number_at (Input StateLimit) = refl
number_at (Input SheetFault) = refl
number_at (Input ClassFault) = refl
number_at (Input CeilingLimit) = refl
number_at (State LoadedTable) = refl
number_at (State Place) = refl
number_at (State StackFull) = refl
number_at (State OutputFull) = refl
number_at (State DestinationShort) = refl

pub number-one : (a b : Refusal) → number_of a ≡ number_of b → a ≡ b
number-one a b e = sym (number_at a) ∙ ap refusal_at e ∙ number_at b
