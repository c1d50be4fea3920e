-- 24: "A destination for a loaded table or for text is shorter than what is to be written to it. A longer one is untouched beyond that."
use Rattle.std.specs.Prelude.{ℕ, cond, List, ◌++◌, leb, length, drop, Result, Ok, Err}
use Rattle.refusal.specs.declared.StateCause.TheVariants.{DestinationShort}
use Rattle.refusal.specs.declared.Refusal.{Refusal}
use Rattle.refusal.specs.declared.Refusal.TheVariants.{State}

-- the answer: how much is written, or 24
abbrev pub stored_answer : {A : Type 0} → List A → List A → Result ℕ Refusal
stored_answer out destination = cond (leb (length out) (length destination)) (Ok (length out)) (Err (State DestinationShort))

-- the destination: what is written, then what stood there; one that is too short is left as it was
abbrev pub stored_cells : {A : Type 0} → List A → List A → List A
stored_cells out destination = cond (leb (length out) (length destination)) (out ++ drop (length out) destination) destination
