-- A count of bytes is within what was lent, and the bytes are the reader's.
use Rattle.std.specs.Prelude.{ℕ, ◌<◌, ◌≤◌, List, length, take, Option, Result, IfOk, MatchResult}
use Rattle.std.specs.Io.KnownBytes.{Consumes, IsAtEnd}

abbrev pub Within : {E : Type 0} → Result ℕ E → ℕ → Type 0
Within r size = IfOk r (λ n. n ≤ size)

-- all reads: so many stand at the front of the room, and fewer than there is room only where none are left; where one failed, what was
-- read before stands there
abbrev pub Reads : {E : Type 0} → Option (List ℕ) → Option (List ℕ) → Result ℕ E → List ℕ → Type 0
Reads old new r room = MatchResult r (λ n. Consumes old new (take n room) × (n < length room → IsAtEnd new)) (λ _. (n : ℕ) × Consumes old new (take n room))
