-- A character stands at the front exactly where its encoding does.
use Prim.Native.Nat.{ℕ, ◌+◌, ◌-◌, ◌/◌, ◌%◌, ◌≤◌, ◌<◌}
use native.Mathlib.Omega.{arith}
use mathlib.Core.Path.{◌≡◌, refl, sym, ap, ◌∙◌}
use mathlib.Core.Logic.{inl}
use mathlib.Core.Bool.{Bool, true, false, cond}
use mathlib.Core.List.{List, [], ◌∷◌, ◌++◌}
use lib.Dec.{ltb}
use lib.ListN.{length}
use borrow.Author.Tests.{ltb-true, ltb-false}
use Rattle.std.specs.Prelude.{None}
use Rattle.utf8.specs.Utf8.{scalar, is_scalar, encoded, several, character_in}
use Rattle.utf8.proofs.Bytes.{scalar-tells, scalar_in, scalar_most, encoded_cases, one_byte, two_bytes, three-bytes, four_bytes}
use Rattle.utf8.proofs.Further.{six_bits, no_more, six_bits_only, no_more-only}

-- An encoding gives its character,
pub encoding_read : (c : ℕ) (rest : List ℕ) → is_scalar c ≡ true → character_in (encoded c ++ rest) ≡ scalar c (length (encoded c))
encoding_read c rest e = encoded_cases (λ (l : List ℕ). character_in (l ++ rest) ≡ scalar c (length l)) c one two three four
  where
    one : c < 128 → character_in (c ∷ rest) ≡ scalar c 1
    one h = one_byte c rest h

    two : 128 ≤ c → c < 2048 → character_in ((192 + c / 64) ∷ (128 + c % 64) ∷ rest) ≡ scalar c 2
    two h k =
        let s : 192 + c / 64 - 192 ≡ c / 64 = omega arith in
        two_bytes (192 + c / 64) ((128 + c % 64) ∷ rest) (omega arith) (omega arith)
        ∙ ap (λ (x : ℕ). several 128 2 x 1 ((128 + c % 64) ∷ rest)) s
        ∙ six_bits 128 2 c 0 rest
        ∙ no_more 128 2 c rest h e

    three : 2048 ≤ c → c < 65536 → character_in ((224 + c / 4096) ∷ (128 + c / 64 % 64) ∷ (128 + c % 64) ∷ rest) ≡ scalar c 3
    three h k =
        let s : 224 + c / 4096 - 224 ≡ c / 64 / 64 = omega arith in
        three-bytes (224 + c / 4096) ((128 + c / 64 % 64) ∷ (128 + c % 64) ∷ rest) (omega arith) (omega arith)
        ∙ ap (λ (x : ℕ). several 2048 3 x 2 ((128 + c / 64 % 64) ∷ (128 + c % 64) ∷ rest)) s
        ∙ six_bits 2048 3 (c / 64) 1 ((128 + c % 64) ∷ rest)
        ∙ six_bits 2048 3 c 0 rest
        ∙ no_more 2048 3 c rest h e

    four : 65536 ≤ c → character_in ((240 + c / 262144) ∷ (128 + c / 4096 % 64) ∷ (128 + c / 64 % 64) ∷ (128 + c % 64) ∷ rest) ≡ scalar c 4
    four h =
        let most = scalar_most c e in
        let s : 240 + c / 262144 - 240 ≡ c / 4096 / 64 = omega arith in
        let t : c / 4096 ≡ c / 64 / 64 = omega arith in
        four_bytes (240 + c / 262144) ((128 + c / 4096 % 64) ∷ (128 + c / 64 % 64) ∷ (128 + c % 64) ∷ rest) (omega arith) (omega arith)
        ∙ ap (λ (x : ℕ). several 65536 4 x 3 ((128 + c / 4096 % 64) ∷ (128 + c / 64 % 64) ∷ (128 + c % 64) ∷ rest)) s
        ∙ six_bits 65536 4 (c / 4096) 2 ((128 + c / 64 % 64) ∷ (128 + c % 64) ∷ rest)
        ∙ ap (λ (x : ℕ). several 65536 4 x 2 ((128 + c / 64 % 64) ∷ (128 + c % 64) ∷ rest)) t
        ∙ six_bits 65536 4 (c / 64) 1 ((128 + c % 64) ∷ rest)
        ∙ six_bits 65536 4 c 0 rest
        ∙ no_more 65536 4 c rest h e

-- the bytes of a character at the front
abbrev Front : List ℕ → ℕ → ℕ → Type 0
Front bytes c n = (is_scalar c ≡ true) × (n ≡ length (encoded c)) × ((rest : List ℕ) × (bytes ≡ encoded c ++ rest))

-- and no other bytes do.
module _ (b : ℕ) (bytes : List ℕ) (c n : ℕ) where
  fits : (rest : List ℕ) → is_scalar c ≡ true → (n ≡ length (encoded c)) × (b ∷ bytes ≡ encoded c ++ rest) → Front (b ∷ bytes) c n
  fits rest e p = (e, p.0, (rest, p.1))

  from_one : b < 128 → scalar b 1 ≡ scalar c n → Front (b ∷ bytes) c n
  from_one h e =
      let t = scalar-tells b 1 c n e in
      let p : b ≡ c = t.0 in
      let q : n ≡ 1 = sym t.1 in
      fits bytes (scalar_in c (inl (omega arith)))
      (encoded_cases (λ (l : List ℕ). (n ≡ length l) × (b ∷ bytes ≡ l ++ bytes)) c
      (λ _. (q, cc))
      (λ u v. absurd (omega arith))
      (λ u v. absurd (omega arith))
      (λ u. absurd (omega arith)))

  from-two : 192 ≤ b → b < 224 → several 128 2 (b - 192) 1 bytes ≡ scalar c n → Front (b ∷ bytes) c n
  from-two h k e =
      let f = six_bits_only 128 2 (b - 192) 0 bytes c n e in
      let l = no_more-only 128 2 f.0 f.1 c n f.4 in
      let p : b ≡ 192 + c / 64 = omega arith in
      fits f.1 l.3
      (encoded_cases (λ (s : List ℕ). (n ≡ length s) × (b ∷ bytes ≡ s ++ f.1)) c
      (λ u. absurd (omega arith))
      (λ _ _. (l.1, cc))
      (λ u v. absurd (omega arith))
      (λ u. absurd (omega arith)))

  from-three : 224 ≤ b → b < 240 → several 2048 3 (b - 224) 2 bytes ≡ scalar c n → Front (b ∷ bytes) c n
  from-three h k e =
      let f = six_bits_only 2048 3 (b - 224) 1 bytes c n e in
      let g = six_bits_only 2048 3 f.0 0 f.1 c n f.4 in
      let l = no_more-only 2048 3 g.0 g.1 c n g.4 in
      let p : b ≡ 224 + c / 4096 = omega arith in
      fits g.1 l.3
      (encoded_cases (λ (s : List ℕ). (n ≡ length s) × (b ∷ bytes ≡ s ++ g.1)) c
      (λ u. absurd (omega arith))
      (λ u v. absurd (omega arith))
      (λ _ _. (l.1, cc))
      (λ u. absurd (omega arith)))

  from-four : 240 ≤ b → b < 248 → several 65536 4 (b - 240) 3 bytes ≡ scalar c n → Front (b ∷ bytes) c n
  from-four h k e =
      let f = six_bits_only 65536 4 (b - 240) 2 bytes c n e in
      let g = six_bits_only 65536 4 f.0 1 f.1 c n f.4 in
      let i = six_bits_only 65536 4 g.0 0 g.1 c n g.4 in
      let l = no_more-only 65536 4 i.0 i.1 c n i.4 in
      let p : b ≡ 240 + c / 262144 = omega arith in
      let q : f.0 ≡ c / 4096 = omega arith in
      fits i.1 l.3
      (encoded_cases (λ (s : List ℕ). (n ≡ length s) × (b ∷ bytes ≡ s ++ i.1)) c
      (λ u. absurd (omega arith))
      (λ u v. absurd (omega arith))
      (λ u v. absurd (omega arith))
      (λ _. (l.1, cc)))

pub encoding_only : (bytes : List ℕ) (c n : ℕ) → character_in bytes ≡ scalar c n → Front bytes c n
unfolding character_in
encoding_only [] c n e = let z : ◌≡◌ {A = ℕ} 0 1 = cc in absurd (omega arith)
encoding_only (b ∷ bytes) c n e =
    go (ltb b 128) (ltb b 192) (ltb b 224) (ltb b 240) (ltb b 248) refl refl refl refl refl e
  where
    go : (t u v w x : Bool) → ltb b 128 ≡ t → ltb b 192 ≡ u → ltb b 224 ≡ v → ltb b 240 ≡ w → ltb b 248 ≡ x
        → cond t (scalar b 1)
        (cond u None
        (cond v (several 128 2 (b - 192) 1 bytes)
        (cond w (several 2048 3 (b - 224) 2 bytes)
        (cond x (several 65536 4 (b - 240) 3 bytes) None)))) ≡ scalar c n
        → Front (b ∷ bytes) c n
    go true u v w x et eu ev ew ex e = from_one b bytes c n (ltb-true b 128 et) e
    go false true v w x et eu ev ew ex e = let z : ◌≡◌ {A = ℕ} 0 1 = cc in absurd (omega arith)
    go false false true w x et eu ev ew ex e = from-two b bytes c n (ltb-false b 192 eu) (ltb-true b 224 ev) e
    go false false false true x et eu ev ew ex e = from-three b bytes c n (ltb-false b 224 ev) (ltb-true b 240 ew) e
    go false false false false true et eu ev ew ex e = from-four b bytes c n (ltb-false b 240 ew) (ltb-true b 248 ex) e
    go false false false false false et eu ev ew ex e = let z : ◌≡◌ {A = ℕ} 0 1 = cc in absurd (omega arith)
