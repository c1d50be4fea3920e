-- A reading behind others: in the bytes that lend them, and in a key.
use Prim.Native.Nat.{ℕ, ◌+◌, ◌/◌, ◌%◌, ◌<◌, ◌≤◌}
use native.Mathlib.Omega.{arith}
use mathlib.Core.Path.{◌≡◌, refl, sym, ap, ◌∙◌}
use mathlib.Core.Bool.{Bool}
use mathlib.Core.List.{List, [], ◌∷◌, ◌++◌, append_assoc, append-nil}
use lib.ListN.{length, take, drop, length-append}
use lib.Seq.{append_snoc, length-take-le, sets, sets-eq, take_at}
use Rattle.std.specs.Int.{w16, to_be_bytes}
use Rattle.table_format.specs.Text.{number}
use Rattle.table_format.proofs.Stores.{sets-append}
use Rattle.faces.specs.Lent.{lent_bytes}
use Rattle.key_sheet.specs.Key.{Key, key, refused, onto}

-- its bytes
abbrev pub lent_one : List ℕ → List ℕ
lent_one r = number (length r) ++ r

pub lent-snoc : (rs : List (List ℕ)) (r : List ℕ) → lent_bytes (rs ++ (r ∷ [])) ≡ lent_bytes rs ++ lent_one r
unfolding lent_bytes
lent-snoc [] r = ap (λ (l : List ℕ). number (length r) ++ l) (append-nil r)
lent-snoc (w ∷ rs) r =
    ap (λ (l : List ℕ). number (length w) ++ (w ++ l)) (lent-snoc rs r)
    ∙ ap (λ (l : List ℕ). number (length w) ++ l) (sym (append_assoc w (lent_bytes rs) (lent_one r)))

-- stored in two steps: the length's bytes, then the letters
pub number-bytes : (n : ℕ) → n < 65536 → to_be_bytes w16 n ≡ number n
number-bytes n h = let high : n / 256 % 256 ≡ n / 256 = omega arith in ap (λ (b : ℕ). b ∷ n % 256 ∷ []) high

pub one-stored : (list middle after : List ℕ) (at : ℕ) (r bytes : List ℕ) → bytes ≡ number (length r)
    → middle ≡ sets list at bytes → after ≡ sets middle (at + 2) r → after ≡ sets list at (lent_one r)
one-stored list middle after at r bytes e m s =
    s
    ∙ ap (λ (l : List ℕ). sets l (at + 2) r) (m ∙ ap (sets list at) e)
    ∙ sets-append list at (at + 2) (number (length r)) r refl

-- what stands at the front of a list after a part is stored behind it
pub stored-front : (list part : List ℕ) (at n : ℕ) → n ≡ at + length part → n ≤ length list → take n (sets list at part) ≡ take at list ++ part
stored-front list part at n e room =
    let front : length (take at list) ≡ at = length-take-le at list (omega arith) in
    ap (take n) (sets-eq part list at (omega arith))
    ∙ take_at (take at list ++ part) (drop (at + length part) list) n (length-append (take at list) part ∙ omega arith)

-- readings before those of a key
abbrev pub before : List (List ℕ) → Key → Key
before rs (key ss ended) = key (rs ++ ss) ended
before rs (refused c) = refused c

pub before-onto : (rs : List (List ℕ)) (r : List ℕ) (k : Key) → before rs (onto r k) ≡ before (rs ++ (r ∷ [])) k
before-onto rs r (key ss ended) = ap (λ (l : List (List ℕ)). key l ended) (sym (append_snoc rs r ss))
before-onto rs r (refused c) = refl

pub before_last : (rs : List (List ℕ)) (ended : Bool) → before rs (key [] ended) ≡ key rs ended
before_last rs ended = ap (λ (l : List (List ℕ)). key l ended) (append-nil rs)

pub before-none : (k : Key) → before [] k ≡ k
before-none (key ss ended) = refl
before-none (refused c) = refl
