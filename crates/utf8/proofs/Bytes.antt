-- How tests decide: whether a code point is a character's, how many bytes it takes, and what a first byte begins.
use Prim.Native.Nat.{ℕ, ◌+◌, ◌-◌, ◌/◌, ◌%◌, ◌≤◌, ◌<◌}
use native.Mathlib.Omega.{arith}
use mathlib.Core.Path.{◌≡◌, refl, sym, ap, ap₂}
use mathlib.Core.Bool.{Bool, true, false, cond, ◌&&◌, ◌||◌}
use mathlib.Core.Logic.{⊎_elim}
use mathlib.Core.List.Memᴰ
use mathlib.Core.List.{List, [], ◌∷◌, Memᴰ}
use lib.Dec.{leb, ltb}
use lib.ListN.{length, get_or, drop}
use borrow.Author.Tests.{ltb-true, ltb-false, leb-true, lt-ltb, le-ltb, le-leb}
use Rattle.std.specs.Prelude.{Option, None, Some}
use Rattle.std.proofs.lemmas.Bool.Decides.{nat_tests}
use Rattle.std.specs.Char.{InScalarRange, OutOfScalarRange}
use Rattle.utf8.specs.declared.Character.{Character}
use Rattle.utf8.specs.Utf8.{scalar, is_scalar, encoded, is_tail, several, character_in}

-- A character tells its code point and in how many bytes it stands.

pub scalar-tells : (c n d m : ℕ) → scalar c n ≡ scalar d m → (c ≡ d) × (n ≡ m)
scalar-tells c n d m e = (ap (λ (x : Option Character). code_in x) e, ap (λ (x : Option Character). size_in x) e)
  where
    code_in : Option Character → ℕ
    code_in (Some x) = x.code
    code_in None = 0

    size_in : Option Character → ℕ
    size_in (Some x) = x.size
    size_in None = 0

-- Code points of characters.

pub scalar_in : (c : ℕ) → InScalarRange c → is_scalar c ≡ true
scalar_in c h = grind (arith, nat_tests)

pub scalar_out : (c : ℕ) → OutOfScalarRange c → is_scalar c ≡ false
scalar_out c h = grind (arith, nat_tests)

pub scalar_most : (c : ℕ) → is_scalar c ≡ true → c ≤ 1114111
scalar_most c = go (ltb c 55296) (leb 57344 c) (leb c 1114111) refl refl
  where
    go : (s t u : Bool) → ltb c 55296 ≡ s → leb c 1114111 ≡ u → (s || (t && u)) ≡ true → c ≤ 1114111
    go true t u e f h = omega (arith, ltb-true c 55296 e)
    go false t true e f h = leb-true c 1114111 f
    go false true false e f h = let z : ◌≡◌ {A = ℕ} 0 1 = cc in absurd (omega arith)
    go false false false e f h = let z : ◌≡◌ {A = ℕ} 0 1 = cc in absurd (omega arith)

-- Further bytes.

pub tail_is : (b : ℕ) → 128 ≤ b → b < 192 → is_tail b ≡ true
tail_is b h k = ap₂ (λ (s t : Bool). s && t) (le-leb 128 b h) (lt-ltb b 192 k)

pub not_tail : (b : ℕ) → (128 ≤ b → b < 192 → ⊥) → is_tail b ≡ false
not_tail b h = grind (arith, nat_tests)

pub tail_range : (b : ℕ) → is_tail b ≡ true → (128 ≤ b) × (b < 192)
tail_range b = go (leb 128 b) (ltb b 192) refl refl
  where
    go : (s t : Bool) → leb 128 b ≡ s → ltb b 192 ≡ t → (s && t) ≡ true → (128 ≤ b) × (b < 192)
    go true true e f h = (leb-true 128 b e, ltb-true b 192 f)
    go true false e f h = let z : ◌≡◌ {A = ℕ} 0 1 = cc in absurd (omega arith)
    go false t e f h = let z : ◌≡◌ {A = ℕ} 0 1 = cc in absurd (omega arith)

-- Encodings: what holds of each size holds of them all.

pub encoded_cases : (P : List ℕ → Type 0) (c : ℕ)
    → (c < 128 → P (c ∷ []))
    → (128 ≤ c → c < 2048 → P ((192 + c / 64) ∷ (128 + c % 64) ∷ []))
    → (2048 ≤ c → c < 65536 → P ((224 + c / 4096) ∷ (128 + c / 64 % 64) ∷ (128 + c % 64) ∷ []))
    → (65536 ≤ c → P ((240 + c / 262144) ∷ (128 + c / 4096 % 64) ∷ (128 + c / 64 % 64) ∷ (128 + c % 64) ∷ []))
    → P (encoded c)
unfolding encoded
encoded_cases P c one two three four = go (ltb c 128) (ltb c 2048) (ltb c 65536) refl refl refl
  where
    go : (r s t : Bool) → ltb c 128 ≡ r → ltb c 2048 ≡ s → ltb c 65536 ≡ t
        → P (cond r (c ∷ [])
        (cond s ((192 + c / 64) ∷ (128 + c % 64) ∷ [])
        (cond t ((224 + c / 4096) ∷ (128 + c / 64 % 64) ∷ (128 + c % 64) ∷ [])
        ((240 + c / 262144) ∷ (128 + c / 4096 % 64) ∷ (128 + c / 64 % 64) ∷ (128 + c % 64) ∷ []))))
    go true s t d e f = one (ltb-true c 128 d)
    go false true t d e f = two (ltb-false c 128 d) (ltb-true c 2048 e)
    go false false true d e f = three (ltb-false c 2048 e) (ltb-true c 65536 f)
    go false false false d e f = four (ltb-false c 65536 f)

-- a list of bytes, made from the first one
abbrev Bytes : List ℕ → Type 0
Bytes l = (b : ℕ) → Memᴰ b l → b < 256

no_bytes : Bytes []
no_bytes b m = absurd (Memᴰ.not-nil m)

byte_more : (x : ℕ) (l : List ℕ) → x < 256 → Bytes l → Bytes (x ∷ l)
byte_more x l h t b m = ⊎_elim (λ e. omega arith) (t b) (Memᴰ.cases_cons m)

pub encoded-bytes : (c : ℕ) → is_scalar c ≡ true → (b : ℕ) → Memᴰ b (encoded c) → b < 256
encoded-bytes c e =
    let most = scalar_most c e in
    encoded_cases Bytes c
    (λ h. byte_more c [] (omega arith) no_bytes)
    (λ h k. byte_more (192 + c / 64) _ (omega arith) (byte_more (128 + c % 64) _ (omega arith) no_bytes))
    (λ h k. byte_more (224 + c / 4096) _ (omega arith) (byte_more (128 + c / 64 % 64) _ (omega arith) (byte_more (128 + c % 64) _ (omega arith) no_bytes)))
    (λ h. byte_more (240 + c / 262144) _ (omega arith) (byte_more (128 + c / 4096 % 64) _ (omega arith) (byte_more (128 + c / 64 % 64) _ (omega arith) (byte_more (128 + c % 64) _ (omega arith) no_bytes))))

-- First bytes.

pub no_byte : (text : List ℕ) → length text ≡ 0 → character_in text ≡ None
unfolding character_in
no_byte [] h = refl
no_byte (x ∷ text) h = absurd (omega arith)

pub first_byte : (text : List ℕ) → 0 < length text → (b : ℕ) → b ≡ get_or text 0 b → character_in text ≡ character_in (b ∷ drop 1 text)
first_byte [] h b e = absurd (omega arith)
first_byte (x ∷ text) h b e = ap (λ (y : ℕ). character_in (y ∷ text)) (sym e)

module _ (b : ℕ) (bytes : List ℕ) where
  pub one_byte : b < 128 → character_in (b ∷ bytes) ≡ scalar b 1
  unfolding character_in
  one_byte h = rw (lt-ltb b 128 h)

  pub no_first : 128 ≤ b → b < 192 → character_in (b ∷ bytes) ≡ None
  unfolding character_in
  no_first h k = rw (le-ltb b 128 h, lt-ltb b 192 k)

  pub two_bytes : 192 ≤ b → b < 224 → character_in (b ∷ bytes) ≡ several 128 2 (b - 192) 1 bytes
  unfolding character_in
  two_bytes h k = rw (le-ltb b 128 (omega arith), le-ltb b 192 h, lt-ltb b 224 k)

  pub three-bytes : 224 ≤ b → b < 240 → character_in (b ∷ bytes) ≡ several 2048 3 (b - 224) 2 bytes
  unfolding character_in
  three-bytes h k = rw (le-ltb b 128 (omega arith), le-ltb b 192 (omega arith), le-ltb b 224 h, lt-ltb b 240 k)

  pub four_bytes : 240 ≤ b → b < 248 → character_in (b ∷ bytes) ≡ several 65536 4 (b - 240) 3 bytes
  unfolding character_in
  four_bytes h k = rw (le-ltb b 128 (omega arith), le-ltb b 192 (omega arith), le-ltb b 224 (omega arith), le-ltb b 240 h, lt-ltb b 248 k)

  pub too_high : 248 ≤ b → character_in (b ∷ bytes) ≡ None
  unfolding character_in
  too_high h = rw (le-ltb b 128 (omega arith), le-ltb b 192 (omega arith), le-ltb b 224 (omega arith), le-ltb b 240 (omega arith), le-ltb b 248 h)
