-- Arcs in order: from the last one back their keys fall, made of their sources and letters.
use Rattle.std.specs.Prelude.{ℕ, ◌+◌, ◌*◌, ◌/◌, ◌%◌, Bool, true, ◌&&◌, List, [], ◌∷◌, reverse, leb, ltb}
use Rattle.table_format.specs.Table.{Arc}
use Rattle.table_format.specs.Rules.{each, state_holds, arc_class_holds, penalties_keep}

-- the letters of an arc as one number; such numbers joined by `|` show whether none of those letters means a class
abbrev pub joined_letters : Arc → ℕ
joined_letters a = a.lower * 65536 + a.upper

unfoldable pub joined_plain : ℕ → Bool
joined_plain n = leb (n % 65536) 63 && leb (n / 65536) 63

-- a number for an arc by its source and letters: where it rises from arc to arc, sources do not fall and no arc stands twice
abbrev pub key_by : ℕ → ℕ → ℕ
key_by source letters = source * 4294967296 + letters

abbrev pub order_key : Arc → ℕ
order_key a = key_by a.source (joined_letters a)

-- a target that is a state and a key below `bound`
abbrev pub is_below : ℕ → ℕ → ℕ → ℕ → Bool
is_below states bound target key = state_holds states target && ltb key bound

-- each arc is of that kind, where the key of one is the bound of the next
unfoldable pub keys_fall : ℕ → ℕ → List Arc → Bool
keys_fall states bound [] = true
keys_fall states bound (a ∷ arcs) = is_below states bound a.target (order_key a) && keys_fall states (order_key a) arcs

-- 34, and so 5: the class of each arc
abbrev pub arc_classes_hold : List (List ℕ) → List Arc → Bool
arc_classes_hold rows = each (λ before a. arc_class_holds rows a) []

-- from the last arc back; the first bound shows that all sources are states
unfoldable pub arcs_rise : ℕ → List (List ℕ) → List Arc → Bool
arcs_rise states rows arcs = keys_fall states (states * 4294967296) (reverse arcs) && (penalties_keep arcs && arc_classes_hold rows arcs)
