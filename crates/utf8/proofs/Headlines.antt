-- The theorems about UTF-8, stated together. What each one means is in specs/; how it is shown is in the files that it names.
use Prim.Native.Nat.{ℕ, ◌≤◌, ◌<◌}
use native.Mathlib.Omega.{arith}
use mathlib.Core.Path.{◌≡◌, refl, ap}
use mathlib.Core.Logic.{◌↔◌}
use mathlib.Core.Bool.{true}
use mathlib.Core.List.{List, [], ◌∷◌, ◌++◌, Memᴰ}
use lib.ListN.{length, length-append}
use Rattle.std.specs.Prelude.{None}
use Rattle.utf8.specs.Utf8.{scalar, is_scalar, encoded, several, character_in}
use Rattle.utf8.proofs.Bytes as bytes
use Rattle.utf8.proofs.Front as front

-- A character stands at the front exactly where the bytes begin with its encoding, which has so many of them.
pub character_is : (bytes : List ℕ) (c n : ℕ)
    → (character_in bytes ≡ scalar c n) ↔ ((is_scalar c ≡ true) × (n ≡ length (encoded c)) × ((rest : List ℕ) × (bytes ≡ encoded c ++ rest)))
character_is bytes c n = (front.encoding_only bytes c n, λ f. rw (f.2.1, f.1) (front.encoding_read c f.2.0 f.0))

-- An encoding has one to four numbers,
pub encoded-sizes : (c : ℕ) → (1 ≤ length (encoded c)) × (length (encoded c) ≤ 4)
encoded-sizes c = bytes.encoded_cases (λ (l : List ℕ). (1 ≤ length l) × (length l ≤ 4)) c (λ _. omega arith) (λ _ _. omega arith) (λ _ _. omega arith) (λ _. omega arith)

-- and a character's are bytes.
pub encoded-bytes : (c : ℕ) → is_scalar c ≡ true → (b : ℕ) → Memᴰ b (encoded c) → b < 256
encoded-bytes = bytes.encoded-bytes

-- So a character takes at least one byte and no more than there are.
pub character_sizes : (bytes : List ℕ) (c n : ℕ) → character_in bytes ≡ scalar c n → (1 ≤ n) × (n ≤ length bytes)
character_sizes bytes c n e =
    let f = (character_is bytes c n).0 e in
    let s = encoded-sizes c in
    let l = length-append (encoded c) f.2.0 in
    let m = ap length f.2.1 in
    omega arith

-- Characters of one to four bytes: a, ä, ẞ, 😀.
pub read_one : character_in (0x61 ∷ []) ≡ scalar 0x61 1
unfolding character_in
read_one = refl

pub read-two : character_in (0xC3 ∷ 0xA4 ∷ []) ≡ scalar 0xE4 2
unfolding character_in several
read-two = refl

pub read-three : character_in (0xE1 ∷ 0xBA ∷ 0x9E ∷ []) ≡ scalar 0x1E9E 3
unfolding character_in several
read-three = refl

pub read-four : character_in (0xF0 ∷ 0x9F ∷ 0x98 ∷ 0x80 ∷ []) ≡ scalar 0x1F600 4
unfolding character_in several
read-four = refl

-- The characters next to the surrogates, D7FF and E000, and the last one, 10FFFF.
pub before_surrogates : character_in (0xED ∷ 0x9F ∷ 0xBF ∷ []) ≡ scalar 0xD7FF 3
unfolding character_in several
before_surrogates = refl

pub after_surrogates : character_in (0xEE ∷ 0x80 ∷ 0x80 ∷ []) ≡ scalar 0xE000 3
unfolding character_in several
after_surrogates = refl

pub last : character_in (0xF4 ∷ 0x8F ∷ 0xBF ∷ 0xBF ∷ []) ≡ scalar 0x10FFFF 4
unfolding character_in several
last = refl

-- No character stands in two or three bytes where one is enough,
pub overlong_two : character_in (0xC1 ∷ 0xA1 ∷ []) ≡ None
unfolding character_in several
overlong_two = refl

pub overlong_three : character_in (0xE0 ∷ 0x81 ∷ 0xA1 ∷ []) ≡ None
unfolding character_in several
overlong_three = refl

-- at D800, which is a surrogate, or at 110000, above the last one,
pub surrogate : character_in (0xED ∷ 0xA0 ∷ 0x80 ∷ []) ≡ None
unfolding character_in several
surrogate = refl

pub above-last : character_in (0xF4 ∷ 0x90 ∷ 0x80 ∷ 0x80 ∷ []) ≡ None
unfolding character_in several
above-last = refl

-- nor in a byte that only goes on, or where the last byte is missing.
pub lone_tail : character_in (0x80 ∷ []) ≡ None
unfolding character_in
lone_tail = refl

pub cut : character_in (0xE1 ∷ 0xBA ∷ []) ≡ None
unfolding character_in several
cut = refl
