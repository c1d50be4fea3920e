-- Document 02, the answer sheet: "Readings are lent one after another, each as its length (two bytes, high first) and its letters." Over
-- 1,000 of them, one cut short or a letter outside 1 to 63 give 33.
use Rattle.std.specs.Prelude.{ℕ, zero, suc, ◌≡◌, ◌<◌, ◌+◌, ◌*◌, Bool, true, false, ◌&&◌, List, [], ◌∷◌, ◌++◌, leb, length, Some, None}
use Rattle.std.specs.Prelude.{Option as Maybe}
use denote.Ref.{Bor}
use Rattle.std.proofs.Math.Option.{Option, none, some, map}
use Rattle.table_format.specs.Text.{number}

-- the bytes by which readings are lent
unfoldable pub lent_bytes : List (List ℕ) → List ℕ
lent_bytes [] = []
lent_bytes (w ∷ ws) = number (length w) ++ (w ++ lent_bytes ws)

-- a letter in front of the first reading
abbrev pub onto : ℕ → List (List ℕ) → List (List ℕ)
onto x [] = (x ∷ []) ∷ []
onto x (w ∷ ws) = (x ∷ w) ∷ ws

-- the readings in bytes, where n letters of the first are to come; none where one is cut short
unfoldable pub lent_from : ℕ → List ℕ → Option (List (List ℕ))
lent_from zero [] = some ([] ∷ [])
lent_from zero (h ∷ []) = none
lent_from zero (h ∷ l ∷ bytes) = map (λ ws. [] ∷ ws) (lent_from (h * 256 + l) bytes)
lent_from (suc n) [] = none
lent_from (suc n) (x ∷ bytes) = map (onto x) (lent_from n bytes)

unfoldable pub lent_in : List ℕ → Option (List (List ℕ))
lent_in [] = some []
lent_in (h ∷ []) = none
lent_in (h ∷ l ∷ bytes) = lent_from (h * 256 + l) bytes

-- each element passes the test
abbrev pub every : {A : Type 0} → (A → Bool) → List A → Bool
every test [] = true
every test (x ∷ xs) = test x && every test xs

abbrev pub is_letter : ℕ → Bool
is_letter x = leb 1 x && leb x 63

-- how many readings a sheet has room for
abbrev pub most_readings : ℕ
most_readings = 1000

unfoldable pub readings_hold : List (List ℕ) → Bool
readings_hold ws = leb (length ws) most_readings && every (every is_letter) ws

-- whether bytes lend readings that a sheet can have
abbrev pub held_as : Option (List (List ℕ)) → Bool
held_as none = false
held_as (some ws) = readings_hold ws

unfoldable pub list_holds : List ℕ → Bool
list_holds bytes = held_as (lent_in bytes)

-- the readings; those of bytes that lend none are not looked at
abbrev pub list_as : Option (List (List ℕ)) → List (List ℕ)
list_as none = []
list_as (some ws) = ws

unfoldable pub list_of : List ℕ → List (List ℕ)
list_of bytes = list_as (lent_in bytes)

-- what a call for the next reading does to the bytes that are left: it takes a reading, or it leaves them where none is whole at their front
pub data IsCut : List ℕ → Type 0 where
  at_end : IsCut []
  at_half : (h : ℕ) → IsCut (h ∷ [])
  at_short : (h l : ℕ) (bytes : List ℕ) → length bytes < h * 256 + l → IsCut (h ∷ l ∷ bytes)

abbrev pub NextReading : {S : Type 0} → (S → List ℕ) → S → Maybe (Bor (List ℕ)) → S → Type 0
NextReading bytes s None t = (bytes t ≡ bytes s) × IsCut (bytes s)
NextReading bytes s (Some w) t = bytes s ≡ number (length w.now) ++ (w.now ++ bytes t)
