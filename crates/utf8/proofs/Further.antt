-- Further bytes: how code goes through them, and that each has six bits of the character.
use Prim.Native.Nat.{ℕ, suc, ◌+◌, ◌*◌, ◌-◌, ◌/◌, ◌%◌, ◌≤◌, ◌<◌}
use native.Mathlib.Omega.{arith}
use mathlib.Core.Path.{◌≡◌, refl, sym, ap, ap₂, ◌∙◌}
use mathlib.Core.Bool.{Bool, true, false, cond, ◌&&◌}
use mathlib.Core.List.{List, [], ◌∷◌}
use lib.Dec.{leb}
use lib.ListN.{length, get_or, drop, drop_of_length-le}
use lib.Seq.{drop-cons}
use borrow.Author.Tests.{leb-true, le-leb}
use Rattle.utf8.specs.declared.Character.{Character}
use Rattle.std.specs.Prelude.{Option, None}
use Rattle.utf8.specs.Utf8.{scalar, is_scalar, is_tail, several}
use Rattle.utf8.proofs.Bytes.{scalar-tells, tail_is, tail_range}

module _ (text : List ℕ) (least size code k : ℕ) {all : Option Character} (e : all ≡ several least size code (size - k) (drop k text)) where
  -- a byte is missing
  pub cut_short : k < size → length text ≤ k → all ≡ None
  unfolding several
  cut_short h l =
      let s : size - k ≡ suc (size - (k + 1)) = omega arith in
      e ∙ ap₂ (λ (n : ℕ) (l : List ℕ). several least size code n l) s (drop_of_length-le text l)

  -- the next byte decides
  pub next-byte : k < size → k < length text → (b : ℕ) → b ≡ get_or text k b → (t : Bool) → is_tail b ≡ t
      → all ≡ cond t (several least size (code * 64 + (b - 128)) (size - (k + 1)) (drop (k + 1) text)) None
  unfolding several
  next-byte h l b f t g =
      let s : size - k ≡ suc (size - (k + 1)) = omega arith in
      let m : suc k ≡ k + 1 = omega arith in
      e
      ∙ ap₂ (λ (n : ℕ) (l : List ℕ). several least size code n l) s (drop-cons text k b l)
      ∙ ap₂ (λ (b i : ℕ). cond (is_tail b) (several least size (code * 64 + (b - 128)) (size - (k + 1)) (drop i text)) None) (sym f) m
      ∙ ap (λ (t : Bool). cond t (several least size (code * 64 + (b - 128)) (size - (k + 1)) (drop (k + 1) text)) None) g

  -- after the last one the code point decides
  pub all_read : size ≤ k → (s t : Bool) → leb least code ≡ s → is_scalar code ≡ t → all ≡ cond (s && t) (scalar code size) None
  unfolding several
  all_read h s t f g =
      let z : size - k ≡ 0 = omega arith in
      e
      ∙ ap (λ (n : ℕ). several least size code n (drop k text)) z
      ∙ ap₂ (λ (s t : Bool). cond (s && t) (scalar code size) None) f g

-- Each further byte has the six bits after those before it,
pub six_bits : (least size x n : ℕ) (rest : List ℕ) → several least size (x / 64) (suc n) ((128 + x % 64) ∷ rest) ≡ several least size x n rest
unfolding several
six_bits least size x n rest =
    let s : x / 64 * 64 + (128 + x % 64 - 128) ≡ x = omega arith in
    ap₂ (λ (t : Bool) (c : ℕ). cond t (several least size c n rest) None) (tail_is (128 + x % 64) (omega arith) (omega arith)) s

pub no_more : (least size c : ℕ) (rest : List ℕ) → least ≤ c → is_scalar c ≡ true → several least size c 0 rest ≡ scalar c size
unfolding several
no_more least size c rest h e = ap₂ (λ (s t : Bool). cond (s && t) (scalar c size) None) (le-leb least c h) e

-- and no other bytes give a character.
pub six_bits_only : (least size code n : ℕ) (bytes : List ℕ) (c m : ℕ) → several least size code (suc n) bytes ≡ scalar c m
    → (x : ℕ) × (rest : List ℕ) × (code ≡ x / 64) × (bytes ≡ (128 + x % 64) ∷ rest) × (several least size x n rest ≡ scalar c m)
unfolding several
six_bits_only least size code n [] c m e = let z : ◌≡◌ {A = ℕ} 0 1 = cc in absurd (omega arith)
six_bits_only least size code n (b ∷ bytes) c m e = go (is_tail b) refl e
  where
    go : (t : Bool) → is_tail b ≡ t → cond t (several least size (code * 64 + (b - 128)) n bytes) None ≡ scalar c m
        → (x : ℕ) × (rest : List ℕ) × (code ≡ x / 64) × (b ∷ bytes ≡ (128 + x % 64) ∷ rest) × (several least size x n rest ≡ scalar c m)
    go true f e =
        let h = tail_range b f in
        let q : b ≡ 128 + (code * 64 + (b - 128)) % 64 = omega arith in
        (code * 64 + (b - 128), bytes, omega arith, ap (λ (a : ℕ). a ∷ bytes) q, e)
    go false f e = let z : ◌≡◌ {A = ℕ} 0 1 = cc in absurd (omega arith)

pub no_more-only : (least size code : ℕ) (bytes : List ℕ) (c m : ℕ) → several least size code 0 bytes ≡ scalar c m
    → (code ≡ c) × (m ≡ size) × (least ≤ c) × (is_scalar c ≡ true)
unfolding several
no_more-only least size code bytes c m = go (leb least code) (is_scalar code) refl refl
  where
    go : (s t : Bool) → leb least code ≡ s → is_scalar code ≡ t → cond (s && t) (scalar code size) None ≡ scalar c m
        → (code ≡ c) × (m ≡ size) × (least ≤ c) × (is_scalar c ≡ true)
    go true true f g e =
        let t = scalar-tells code size c m e in
        let p : code ≡ c = t.0 in
        (p, sym t.1, omega (arith, leb-true least code f), sym (ap is_scalar p) ∙ g)
    go true false f g e = let z : ◌≡◌ {A = ℕ} 0 1 = cc in absurd (omega arith)
    go false t f g e = let z : ◌≡◌ {A = ℕ} 0 1 = cc in absurd (omega arith)
