-- Digits and values determine each other, and so do bytes and their two digits.
use Prim.Native.Nat.{ℕ, ◌+◌, ◌-◌, ◌*◌, ◌/◌, ◌%◌, ◌<◌, ◌≤◌}
use native.Mathlib.Omega.{arith}
use mathlib.Core.Path.{◌≡◌, refl, sym, ap, ap₂, ◌∙◌}
use mathlib.Core.Bool.{Bool, true, false, cond}
use mathlib.Core.List.{[], ◌∷◌}
use lib.ListN.{get_or}
use lib.Dec.{leb, ltb}
use borrow.Author.Tests.{leb-true, leb-false, le-leb, lt-leb, ltb-true, ltb-false, lt-ltb, le-ltb}
use Rattle.std.specs.Prelude.{Option, Some, None}
use Rattle.hexadecimal.specs.Hex.{value_of, joined, decoded, digit_of, encoded}

-- The value of a character: of 0-9, of A-F, of any other.

pub value_low : (c : ℕ) → 48 ≤ c → c ≤ 57 → value_of c ≡ Some (c - 48)
unfolding value_of
value_low c h k = simp (le-leb 48 c h, le-leb c 57 k)

pub value_high : (c : ℕ) → 65 ≤ c → c ≤ 70 → value_of c ≡ Some (c - 55)
unfolding value_of
value_high c h k = simp (le-leb 48 c (omega arith), lt-leb c 57 (omega arith), le-leb 65 c h, le-leb c 70 k)

pub value_below : (c : ℕ) → c < 48 → value_of c ≡ None
unfolding value_of
value_below c h = simp (lt-leb 48 c h, lt-leb 65 c (omega arith))

pub value_between : (c : ℕ) → 57 < c → c < 65 → value_of c ≡ None
unfolding value_of
value_between c h k = simp (le-leb 48 c (omega arith), lt-leb c 57 h, lt-leb 65 c k)

pub value_above : (c : ℕ) → 70 < c → value_of c ≡ None
unfolding value_of
value_above c h = simp (le-leb 48 c (omega arith), lt-leb c 57 (omega arith), le-leb 65 c (omega arith), lt-leb c 70 h)

-- A value is below 16, and it and its digit determine each other.

pub digit_low : (v : ℕ) → v % 16 < 10 → digit_of v ≡ 48 + v % 16
unfolding digit_of
digit_low v h = simp (lt-ltb (v % 16) 10 h)

pub digit_high : (v : ℕ) → 10 ≤ v % 16 → digit_of v ≡ 55 + v % 16
unfolding digit_of
digit_high v h = simp (le-ltb (v % 16) 10 h)

pub value_digit : (v : ℕ) → value_of (digit_of v) ≡ Some (v % 16)
value_digit v = go (ltb (v % 16) 10) refl
  where
    go : (b : Bool) → ltb (v % 16) 10 ≡ b → value_of (digit_of v) ≡ Some (v % 16)
    go true e =
        let h : v % 16 < 10 = ltb-true _ _ e in
        let d = digit_low v h in
        value_low (digit_of v) (omega arith) (omega arith) ∙ ap Some (omega arith)
    go false e =
        let h : 10 ≤ v % 16 = ltb-false _ _ e in
        let d = digit_high v h in
        value_high (digit_of v) (omega arith) (omega arith) ∙ ap Some (omega arith)

digit_value : (c v : ℕ) → value_of c ≡ Some v → (v < 16) × (digit_of v ≡ c)
digit_value c v e = go (leb 48 c) refl
  where
    low : 48 ≤ c → c ≤ 57 → (v < 16) × (digit_of v ≡ c)
    low h k =
        let q : c - 48 ≡ v = cc (value_low c h k) in
        (omega arith, digit_low v (omega arith) ∙ omega arith)

    high : 65 ≤ c → c ≤ 70 → (v < 16) × (digit_of v ≡ c)
    high h k =
        let q : c - 55 ≡ v = cc (value_high c h k) in
        (omega arith, digit_high v (omega arith) ∙ omega arith)

    none : value_of c ≡ None → (v < 16) × (digit_of v ≡ c)
    none q = cc

    go₄ : 65 ≤ c → (b : Bool) → leb c 70 ≡ b → (v < 16) × (digit_of v ≡ c)
    go₄ h true k = high h (leb-true _ _ k)
    go₄ h false k = none (value_above c (leb-false _ _ k))

    go₃ : 57 < c → (b : Bool) → leb 65 c ≡ b → (v < 16) × (digit_of v ≡ c)
    go₃ h true k = go₄ (leb-true _ _ k) (leb c 70) refl
    go₃ h false k = none (value_between c h (leb-false _ _ k))

    go₂ : 48 ≤ c → (b : Bool) → leb c 57 ≡ b → (v < 16) × (digit_of v ≡ c)
    go₂ h true k = low h (leb-true _ _ k)
    go₂ h false k = go₃ (leb-false _ _ k) (leb 65 c) refl

    go : (b : Bool) → leb 48 c ≡ b → (v < 16) × (digit_of v ≡ c)
    go true h = go₂ (leb-true _ _ h) (leb c 57) refl
    go false h = none (value_below c (leb-false _ _ h))

pub value_small : (c v : ℕ) → value_of c ≡ Some v → v < 16
value_small c v e = (digit_value c v e).0

-- A byte and its two digits determine each other.

low_digit : (b v : ℕ) → b % 16 ≡ v % 16 → digit_of b ≡ digit_of v
unfolding digit_of
low_digit b v e = ap (λ (n : ℕ). cond (ltb n 10) (48 + n) (55 + n)) e

pub decoded_of : (h l u v : ℕ) → value_of h ≡ Some u → value_of l ≡ Some v → decoded h l ≡ Some (u * 16 + v)
unfolding decoded joined
decoded_of h l u v p q = ap₂ joined p q

pub decoded-encoded : (b : ℕ) → b < 256 → decoded (get_or (encoded b) 0 0) (get_or (encoded b) 1 0) ≡ Some b
unfolding encoded
decoded-encoded b h = decoded_of _ _ _ _ (value_digit (b / 16)) (value_digit b) ∙ ap Some (omega arith)

pub encoded-decoded : (h l b : ℕ) → decoded h l ≡ Some b → (b < 256) × (encoded b ≡ h ∷ l ∷ [])
unfolding decoded encoded joined
encoded-decoded h l b e = go (value_of h) (value_of l) refl refl
  where
    go : (x y : Option ℕ) → value_of h ≡ x → value_of l ≡ y → (b < 256) × (encoded b ≡ h ∷ l ∷ [])
    go None y p q = cc (sym e ∙ ap (λ (x : Option ℕ). joined x (value_of l)) p)
    go (Some u) None p q = cc (sym e ∙ ap₂ joined p q)
    go (Some u) (Some v) p q =
        let e₂ : u * 16 + v ≡ b = cc (sym e ∙ ap₂ joined p q) in
        let a = digit_value h u p in
        let d = digit_value l v q in
        let p₂ : b / 16 ≡ u = omega arith in
        let q₂ : digit_of b ≡ digit_of v = low_digit b v (omega arith) in
        (omega arith, ap₂ (λ (x y : ℕ). x ∷ y ∷ []) (ap digit_of p₂ ∙ a.1) (q₂ ∙ d.1))
