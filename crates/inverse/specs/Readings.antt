-- The accepting paths and the readings of a question, and how often a word is among readings.
use Rattle.std.specs.Prelude.{ℕ, List, length}
use Rattle.table_format.specs.Table.{Table}
use Rattle.graph.specs.Lists.{keep}
use Rattle.machine.specs.Query.{Query, same_word}
use Rattle.machine.specs.Machine.{Path}
use Rattle.machine.specs.Tour.{paths_in, tour, readings}
use Rattle.machine.specs.Order.{accepting}
use Rattle.machine.specs.Transducer.{machine}

-- the accepting paths, in the order of the tour
abbrev pub accepting_paths : Table → Query → List Path
accepting_paths t q = accepting (machine t q) (paths_in (tour (machine t q)))

-- their readings
abbrev pub readings_of : Table → Query → List (List ℕ)
readings_of t q = readings (machine t q) (tour (machine t q))

-- how many of the readings are "equal to" a word
abbrev pub occurrences : List ℕ → List (List ℕ) → ℕ
occurrences w vs = length (keep (λ v. same_word v w) vs)
