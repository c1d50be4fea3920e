-- The theorems about letters and what is shown, stated together. What each one means is in specs/; how it is shown is in the files that it names.
use Prim.Native.Nat.{ℕ, ◌+◌, ◌*◌, ◌-◌, ◌<◌, ◌≤◌}
use native.Mathlib.Omega.{arith}
use mathlib.Core.Path.{◌≡◌, refl, sym, ap, ap₂, ◌∙◌}
use mathlib.Core.Logic.{◌⊎◌, inl, inr, ⊎_elim, ◌↔◌}
use mathlib.Core.Bool.{true, not}
use mathlib.Core.List.{List, [], ◌∷◌, ◌++◌, append_assoc}
use lib.Dec.{eqb, ltb}
use lib.ListN.{length, get_or, length-append}
use borrow.Author.Tests.{eqb-true, eq-eqb, not-true, ltb-true}
use Rattle.utf8.specs.Utf8.{is_scalar, encoded}
use Rattle.faces.specs.Faces.{faces_hold, face_of}
use Rattle.faces.proofs.Lent.{all-every}
use Rattle.table_format.specs.Rules.{any, each}
use Rattle.table_format.specs.Ruled.{Differ}
use Rattle.table_format.proofs.Ruled.{each-differ}
use Rattle.table_format.proofs.All.{All}
use Rattle.table_format.proofs.Tests.{or_cases, or_left, or_right}
use Rattle.alphabet.specs.Letters.{smalls, capitals, place_in, letter_of, small_of, capital_of}
use Rattle.alphabet.specs.Shown.{Ascii, face_table, code_shown, shown_as, shown}
use Rattle.alphabet.proofs.Places.{values, same_from, place_is}
use Rattle.alphabet.proofs.LetterOf.{small_count, capital_count, small-own, latin_none, letter_cases}
use Rattle.alphabet.proofs.Shown.{shown-itself, shown_scalar, size_range, first-tells}

-- Letters.

-- There are 61 small letters and as many capitals,
pub sizes : (length smalls ≡ 61) × (length capitals ≡ 61)
sizes = (small_count, capital_count)

-- and no two of their code points are the same.
pub code_points_differ : Differ (smalls ++ capitals)
unfolding smalls capitals each
code_points_differ =
    each-differ (λ x. x) eqb (λ before x. not (any (λ y. eqb y x) before)) eq-eqb (λ before x e. not-true _ e) (smalls ++ capitals) refl

-- The code points of a letter, small and capital, are its own,
pub letter_of-small : (l : ℕ) → 1 ≤ l → l ≤ 61 → letter_of (small_of l) ≡ l
letter_of-small = small-own

pub letter_of_capital : (l : ℕ) → 1 ≤ l → l ≤ 61 → letter_of (capital_of l) ≡ l
unfolding letter_of capital_of smalls capitals
letter_of_capital l h k = same_from (λ i. letter_of (capital_of i)) (λ i. i) 1 61 refl l h (omega arith)

-- and a code point that has a letter is the letter's small one or its capital.
pub letter-is : (c : ℕ) → 0 < letter_of c → (c ≡ small_of (letter_of c)) ⊎ (c ≡ capital_of (letter_of c))
unfolding small_of capital_of
letter-is c some =
    ⊎_elim (λ s. inl (found smalls s.1 (omega (arith, s.0, small_count))))
    (λ r. ⊎_elim (λ s. inr (found capitals s.1 (omega (arith, s.0, capital_count)))) (λ e. absurd (omega arith)) r)
    (letter_cases c)
  where
    found : (l : List ℕ) → letter_of c ≡ 1 + place_in l c → place_in l c < length l → c ≡ get_or l (letter_of c - 1) 0
    found l e h =
        let here : place_in l c ≡ letter_of c - 1 = omega arith in
        sym (place_is c l h) ∙ ap (λ (i : ℕ). get_or l i 0) here

-- There is no letter above 61.
pub letter-most : (c : ℕ) → letter_of c ≤ 61
letter-most c = ⊎_elim (λ s. omega (arith, s.0, s.1)) (λ r. ⊎_elim (λ s. omega (arith, s.0, s.1)) (λ e. omega arith) r) (letter_cases c)

-- Letters 1 to 26 are a to z,
pub a-to_z : (i : ℕ) → i < 26 → (small_of (1 + i) ≡ 97 + i) × (capital_of (1 + i) ≡ 65 + i)
unfolding small_of capital_of smalls capitals
a-to_z i h = (
  same_from (λ k. small_of (1 + k)) (λ k. 97 + k) 0 26 refl i (omega arith) (omega arith),
  same_from (λ k. capital_of (1 + k)) (λ k. 65 + k) 0 26 refl i (omega arith) (omega arith),
)

-- letters 27 to 30 are ä ö ü ß, and their capitals Ä Ö Ü ẞ,
pub umlauts : values (λ i. small_of (27 + i)) 4 ≡ 228 ∷ 246 ∷ 252 ∷ 223 ∷ []
unfolding small_of smalls
umlauts = refl

pub umlaut_capitals : values (λ i. capital_of (27 + i)) 4 ≡ 196 ∷ 214 ∷ 220 ∷ 7838 ∷ []
unfolding capital_of capitals
umlaut_capitals = refl

-- and letters 58 to 61 are ÿ œ š ž, and their capitals Ÿ Œ Š Ž.
pub last-letters : values (λ i. small_of (58 + i)) 4 ≡ 255 ∷ 339 ∷ 353 ∷ 382 ∷ []
unfolding small_of smalls
last-letters = refl

pub last-capitals : values (λ i. capital_of (58 + i)) 4 ≡ 376 ∷ 338 ∷ 352 ∷ 381 ∷ []
unfolding capital_of capitals
last-capitals = refl

-- The letters from à on stand as in Unicode.
pub rising : (l : ℕ) → 31 ≤ l → l < 61 → small_of l < small_of (1 + l)
unfolding small_of smalls
rising l h k = ltb-true _ _ (same_from (λ i. ltb (small_of i) (small_of (1 + i))) (λ i. true) 31 30 refl l h (omega arith))

-- From à to þ, letters 31 to 57, a capital stands 32 below its small letter.
pub latin_capitals : (l : ℕ) → 31 ≤ l → l ≤ 57 → capital_of l + 32 ≡ small_of l
unfolding small_of capital_of smalls capitals
latin_capitals l h k = same_from (λ i. capital_of i + 32) small_of 31 27 refl l h (omega arith)

-- Of the code points from À to ÿ, 192 to 255, only × and ÷ are no letters.
pub latin_1 : (c : ℕ) → 192 ≤ c → c ≤ 255 → (letter_of c ≡ 0) ↔ ((c ≡ 215) ⊎ (c ≡ 247))
latin_1 c h k =
    let none = latin_none c h k in (
      λ e. ⊎_elim (λ t. inl (eqb-true _ _ t)) (λ t. inr (eqb-true _ _ t)) (or_cases (eqb c 215) (eqb c 247) (sym none ∙ eq-eqb _ _ e)),
      λ s. eqb-true _ _ (none ∙ ⊎_elim (λ e. or_left (eqb c 215) (eqb c 247) (eq-eqb _ _ e)) (λ e. or_right (eqb c 215) (eqb c 247) (eq-eqb _ _ e)) s),
    )

-- Faces.

-- The faces are 63, printable and different.
pub faces_hold_lem : faces_hold face_table ≡ true
unfolding faces_hold face_table each
faces_hold_lem = refl

-- Letters a to z are their own faces,
pub own-faces : (l : ℕ) → 1 ≤ l → l ≤ 26 → face_of face_table l ≡ small_of l
unfolding face_table small_of smalls
own-faces l h k = same_from (λ i. face_of face_table i) small_of 1 26 refl l h (omega arith)

-- and the face of the cut is `|`.
pub cut-face : face_of face_table 63 ≡ 124
unfolding face_table
cut-face = refl

-- What is shown.

-- the characters of a sheet's own lines (line feed, blank, digits, and A D E G I M N O R S), a to z, and the cut
abbrev pub plain : List ℕ
plain =
    10 ∷ 32 ∷ values (λ i. 48 + i) 10 ++ (65 ∷ 68 ∷ 69 ∷ 71 ∷ 73 ∷ 77 ∷ 78 ∷ 79 ∷ 82 ∷ 83 ∷ values (λ i. 97 + i) 26 ++ (124 ∷ []))

-- They are shown as themselves.
pub shown-plain : All (λ c. shown_as c ≡ c ∷ []) plain
unfolding code_shown face_table small_of smalls
shown-plain = all-every (λ c. shown_as c ≡ c ∷ []) (λ c. eqb (code_shown c) 0) (λ c e. shown-itself c (eqb-true _ _ e)) plain refl

-- The mark of a letter above z is shown as the letter in UTF-8.
pub shown-letter : (l : ℕ) → 27 ≤ l → l ≤ 61 → shown_as (face_of face_table l) ≡ encoded (small_of l)
unfolding shown_as code_shown face_table encoded small_of smalls
shown-letter l h k = same_from (λ i. shown_as (face_of face_table i)) (λ i. encoded (small_of i)) 27 35 refl l h (omega arith)

-- A character of a sheet is shown as one character, so that columns stay columns.
pub shown-one : (c : ℕ) → Ascii c → (p : ℕ) × (is_scalar p ≡ true) × (shown_as c ≡ encoded p)
shown-one = shown_scalar

-- Text is shown character by character.
pub shown-append : (s t : List ℕ) → shown (s ++ t) ≡ shown s ++ shown t
unfolding shown
shown-append [] t = refl
shown-append (c ∷ s) t = ap (λ (l : List ℕ). shown_as c ++ l) (shown-append s t) ∙ sym (append_assoc (shown_as c) (shown s) (shown t))

-- Text takes at most twice its bytes.
pub shown-most : (s : List ℕ) → length (shown s) ≤ 2 * length s
unfolding shown
shown-most [] = omega arith
shown-most (c ∷ s) = omega (arith, length-append (shown_as c) (shown s), (size_range c).1, shown-most s)

-- What is shown tells the characters.
pub shown_injective : (s t : List ℕ) → All Ascii s → All Ascii t → shown s ≡ shown t → s ≡ t
unfolding shown
shown_injective [] [] h k e = refl
shown_injective [] (d ∷ t) h k e = absurd (omega (arith, ap length e, length-append (shown_as d) (shown t), (size_range d).0))
shown_injective (c ∷ s) [] h k e = absurd (omega (arith, ap length e, length-append (shown_as c) (shown s), (size_range c).0))
shown_injective (c ∷ s) (d ∷ t) h k e =
    let r = first-tells c d (shown s) (shown t) h.0 k.0 e in
    ap₂ (λ x xs. x ∷ xs) r.0 (shown_injective s t h.1 k.1 r.1)
