-- The answer of a call with a destination, in document 01's numbers.
use Rattle.std.specs.Prelude.{ℕ, Result, Ok, Err}
use Rattle.refusal.specs.declared.Refusal.{Refusal}
use Rattle.refusal.specs.Told.{Told, done_kind, answered, refused_told}

-- done, with how many cells or bytes were written; "A refusal carries its number"
abbrev pub stored_told : Result ℕ Refusal → Told
stored_told (Ok count) = answered done_kind 0 count
stored_told (Err refusal) = refused_told refusal 0 0
