-- What the code of the rules says, in the terms of Rules.
use Rattle.std.specs.Prelude.{ℕ, ◌+◌, ◌*◌, ◌≤◌, max, ◌≡◌, Bool, true, List, [], ◌∷◌, eqb, Result, Ok, Err}
use Rattle.refusal.specs.declared.InputCause.{InputCause}
use Rattle.table_format.specs.Table.{Arc}
use Rattle.table_format.specs.Rules.{any, each, source_holds, same_arc}
use Rattle.table_format.specs.Cells.{arcs_as}

-- whether an item is kept, or the first refusal of those that it earns
abbrev pub judged : List InputCause → Result (Unit {0}) InputCause
judged [] = Ok tt
judged (f ∷ fs) = Err f

abbrev pub has_state : List ℕ → ℕ → Bool
has_state list s = any (λ r. eqb r s) list

abbrev pub repeated : List Arc → Arc → Bool
repeated before a = any (λ b. same_arc b a) before

-- the largest key of a list, 0 where it is empty: an element with a larger key is none of the list's
unfoldable pub largest : {A : Type 0} → (A → ℕ) → List A → ℕ
largest key [] = 0
largest key (x ∷ xs) = max (key x) (largest key xs)

abbrev pub state_key : ℕ → ℕ
state_key s = s + 1

abbrev pub arc_key : Arc → ℕ
arc_key a = a.source * 4294967296 + a.lower * 16777216 + a.upper * 65536 + a.target + 1

-- the source of the last arc, 0 where there is none
abbrev pub last_source : List Arc → ℕ
last_source [] = 0
last_source (a ∷ []) = a.source
last_source (a ∷ b ∷ rest) = last_source (b ∷ rest)

-- rule 7 for a list of arcs and one more of that source
abbrev pub SourcesRise : List ℕ → ℕ → Type 0
SourcesRise cells source = (each source_holds [] (arcs_as cells) ≡ true) × (last_source (arcs_as cells) ≤ source)
