-- What the calls for a key come to in the code: the readings as they are lent to the sheet's writer, at the front of a list of bytes.
use Rattle.std.specs.Prelude.{ℕ, ◌+◌, ◌*◌, ◌≤◌, ◌≡◌, Result, Ok, Err, List, length, take}
use Rattle.faces.specs.Lent.{most_readings, lent_bytes}
use Rattle.refusal.specs.declared.Refusal.{Refusal}
use Rattle.key_sheet.specs.declared.Readings.{Readings}
use Rattle.key_sheet.specs.Key.{Key, key, refused, output_letters}

-- bytes that are enough for the readings of every key
abbrev pub list_bytes : ℕ
list_bytes = (2 + output_letters) * most_readings

-- the key is of these readings, whose bytes stand at the front, or of this refusal
abbrev pub GatheredIs : Key → Result Readings Refusal → List ℕ → Type 0
GatheredIs k (Ok told) list = (rs : List (List ℕ)) × (k ≡ key rs told.ended) × (told.bytes ≤ length list) × (take told.bytes list ≡ lent_bytes rs)
GatheredIs k (Err r) list = k ≡ refused r
