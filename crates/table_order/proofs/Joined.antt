-- Letters joined by `|`: where the joined number means no class, none of them does. Penalties joined so: the joined number is within their
-- limit where each of them is.
use Prim.Native.Nat.{ℕ, ◌/◌, ◌%◌, ◌<◌, ◌≤◌}
use native.Mathlib.Omega.{arith}
use mathlib.Core.Path.{◌≡◌, refl, ap, ◌∙◌}
use mathlib.Core.Bool.{Bool, true, false, ◌&&◌}
use lib.Bits.{bit_or, or_mod, or_shr, or_add_and, or_lt, and_le_l, and_le_r}
use lib.Dec.{leb}
use borrow.Author.Tests.{leb-true, leb-false, le-leb, lt-leb, lt-ltb}
use Rattle.table_format.specs.Table.{Arc}
use Rattle.table_format.specs.Classes.{first_class, is_plain}
use Rattle.table_format.proofs.Tests.{and_left, and_right, and_both}
use Rattle.table_order.specs.Order.{joined_letters, joined_plain}

-- a number joined with another is not above what they join to
or_above : (a b : ℕ) → (a ≤ bit_or a b) × (b ≤ bit_or a b)
or_above a b = (omega (arith, or_add_and a b, and_le_r a b), omega (arith, or_add_and a b, and_le_l a b))

-- the letters of one arc more
pub joined-more : (n : ℕ) (a : Arc) → a.upper < 65536 → joined_plain (bit_or n (joined_letters a)) ≡ true → (joined_plain n ≡ true) × (is_plain a ≡ true)
unfolding joined_plain
joined-more n a h e =
    let l = leb-true (bit_or n (joined_letters a) % 65536) 63 (and_left (leb (bit_or n (joined_letters a) % 65536) 63) _ e) in
    let u = leb-true (bit_or n (joined_letters a) / 65536) 63 (and_right (leb (bit_or n (joined_letters a) % 65536) 63) _ e) in
    let p = or_above (n % 65536) a.upper in
    let q = or_above (n / 65536) a.lower in
    (and_both (le-leb (n % 65536) 63 (omega (arith, low))) (le-leb (n / 65536) 63 (omega (arith, high))), and_both (lt-ltb a.upper first_class (omega (arith, low))) (lt-ltb a.lower first_class (omega (arith, high))))
  where
    low : bit_or n (joined_letters a) % 65536 ≡ bit_or (n % 65536) a.upper
    low = or_mod n (joined_letters a) 16 ∙ ap (bit_or (n % 65536)) {x = joined_letters a % 65536} {y = a.upper} (omega arith)

    high : bit_or n (joined_letters a) / 65536 ≡ bit_or (n / 65536) a.lower
    high = or_shr n (joined_letters a) 16 ∙ ap (bit_or (n / 65536)) {x = joined_letters a / 65536} {y = a.lower} (omega arith)

-- the penalty of one arc more
pub penalty-more : (n p : ℕ) → leb (bit_or n p) 255 ≡ (leb n 255 && leb p 255)
penalty-more n p = go (leb n 255) (leb p 255) refl refl
  where
    go : (x y : Bool) → leb n 255 ≡ x → leb p 255 ≡ y → leb (bit_or n p) 255 ≡ (x && y)
    go true true e f = le-leb (bit_or n p) 255 (omega (arith, or_lt 8 n p (omega (arith, leb-true n 255 e)) (omega (arith, leb-true p 255 f))))
    go true false e f = lt-leb (bit_or n p) 255 (omega (arith, leb-false p 255 f, (or_above n p).1))
    go false y e f = lt-leb (bit_or n p) 255 (omega (arith, leb-false n 255 e, (or_above n p).0))
