-- Document 01, "Turned down for the input" and "Turned down for the state", and document 02: the number of each refusal.
use Rattle.std.specs.Prelude.{ℕ}
use Rattle.refusal.specs.declared.InputCause.{InputCause}
use Rattle.refusal.specs.declared.InputCause.TheVariants.{Malformed, Misplaced, CountLimit, StateNumber, LetterLimit, StateOrder, SourceOrder, ArcRepeated, LineCount, WordFault, TaskFault, IdleCycle, ListedWord, WordOrder, StateLimit, SheetFault, ClassFault, CeilingLimit}
use Rattle.refusal.specs.declared.StateCause.{StateCause}
use Rattle.refusal.specs.declared.StateCause.TheVariants.{LoadedTable, Place, StackFull, OutputFull, DestinationShort}
use Rattle.refusal.specs.declared.Refusal.{Refusal}
use Rattle.refusal.specs.declared.Refusal.TheVariants.{Input, State}

abbrev pub input_number : InputCause → ℕ
input_number Malformed = 1
input_number Misplaced = 2
input_number CountLimit = 3
input_number StateNumber = 4
input_number LetterLimit = 5
input_number StateOrder = 6
input_number SourceOrder = 7
input_number ArcRepeated = 8
input_number LineCount = 9
input_number WordFault = 10
input_number TaskFault = 11
input_number IdleCycle = 12
input_number ListedWord = 30
input_number WordOrder = 31
input_number StateLimit = 32
input_number SheetFault = 33
input_number ClassFault = 34
input_number CeilingLimit = 39

abbrev pub state_number : StateCause → ℕ
state_number LoadedTable = 20
state_number Place = 21
state_number StackFull = 22
state_number OutputFull = 23
state_number DestinationShort = 24

abbrev pub number_of : Refusal → ℕ
number_of (Input i) = input_number i
number_of (State s) = state_number s
