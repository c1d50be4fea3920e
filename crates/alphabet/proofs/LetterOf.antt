-- The letter of a code point: by its place among the small letters, or else among the capitals.
use Prim.Native.Nat.{ℕ, ◌+◌, ◌<◌, ◌≤◌}
use native.Mathlib.Omega.{arith}
use mathlib.Core.Path.{◌≡◌, refl, sym}
use mathlib.Core.Logic.{◌⊎◌, inl, inr}
use mathlib.Core.Bool.{Bool, true, false, ◌||◌}
use lib.Dec.{eqb, ltb}
use lib.ListN.{length}
use borrow.Author.Tests.{ltb-true, ltb-false, lt-ltb, le-ltb}
use Rattle.alphabet.specs.Letters.{letter_count, smalls, capitals, place_in, letter_of, small_of}
use Rattle.alphabet.proofs.Places.{same_from}

pub small_count : length smalls ≡ letter_count
unfolding smalls
small_count = refl

pub capital_count : length capitals ≡ letter_count
unfolding capitals
capital_count = refl

-- the letter of a letter's small form is the letter itself
pub small-own : (l : ℕ) → 1 ≤ l → l ≤ letter_count → letter_of (small_of l) ≡ l
unfolding letter_of small_of smalls capitals
small-own l h k = same_from (λ i. letter_of (small_of i)) (λ i. i) 1 letter_count refl l h (omega arith)

-- which code points from 192 to 255 are no letters
pub latin_none : (c : ℕ) → 192 ≤ c → c ≤ 255 → eqb (letter_of c) 0 ≡ (eqb c 215 || eqb c 247)
unfolding letter_of smalls capitals
latin_none c h k = same_from (λ i. eqb (letter_of i) 0) (λ i. eqb i 215 || eqb i 247) 192 64 refl c h (omega arith)

module _ (c : ℕ) where
  abbrev Small : Type 0
  Small = (place_in smalls c < letter_count) × (letter_of c ≡ 1 + place_in smalls c)

  abbrev Capital : Type 0
  Capital = (place_in capitals c < letter_count) × (letter_of c ≡ 1 + place_in capitals c)

  -- by the place among the small letters, and that among the capitals
  module _ (small : ℕ) (is-small : small ≡ place_in smalls c) where
    pub small-found : small < letter_count → 1 + small ≡ letter_of c
    unfolding letter_of
    small-found h = rw (← is-small, lt-ltb small letter_count h)

    module _ (capital : ℕ) (is-capital : capital ≡ place_in capitals c) (past : letter_count ≤ small) where
      pub capital_found : capital < letter_count → 1 + capital ≡ letter_of c
      unfolding letter_of
      capital_found h = rw (← is-small, ← is-capital, le-ltb small letter_count past, lt-ltb capital letter_count h)

      pub none_found : letter_count ≤ capital → 0 ≡ letter_of c
      unfolding letter_of
      none_found h = rw (← is-small, ← is-capital, le-ltb small letter_count past, le-ltb capital letter_count h)

  pub letter_cases : Small ⊎ (Capital ⊎ (letter_of c ≡ 0))
  letter_cases = go (ltb (place_in smalls c) letter_count) (ltb (place_in capitals c) letter_count) refl refl
    where
      go : (a b : Bool) → ltb (place_in smalls c) letter_count ≡ a → ltb (place_in capitals c) letter_count ≡ b → Small ⊎ (Capital ⊎ (letter_of c ≡ 0))
      go true b p q = let h = ltb-true _ _ p in inl (h, sym (small-found (place_in smalls c) refl h))
      go false true p q = let h = ltb-true _ _ q in inr (inl (h, sym (capital_found (place_in smalls c) refl (place_in capitals c) refl (ltb-false _ _ p) h)))
      go false false p q = inr (inr (sym (none_found (place_in smalls c) refl (place_in capitals c) refl (ltb-false _ _ p) (ltb-false _ _ q))))
