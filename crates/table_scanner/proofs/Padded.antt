-- The bytes of a table's line in their array: each, and the numbers, counts and arc that they say.
use Prim.Native.Nat.{ℕ, zero, suc, ◌+◌, ◌-◌, ◌*◌, ◌≤◌, ◌<◌}
use native.Mathlib.Omega.{arith}
use mathlib.Core.Path.{◌≡◌, refl, ap, ap₂, ◌∙◌}
use mathlib.Core.List.{List, [], ◌∷◌, ◌++◌}
use lib.ListN.{length, get_or, set, replicate, get_or-replicate}
use lib.Seq.{sets}
use Rattle.table_format.specs.Text.{line_bytes}
use Rattle.table_format.specs.Parse.{number_at, counts_from, arc_from}
use Rattle.table_scanner.specs.Scan.{padded}

pub sets_tail : (x : ℕ) (l : List ℕ) (i : ℕ) (vs : List ℕ) → sets (x ∷ l) (suc i) vs ≡ x ∷ sets l i vs
sets_tail x l i [] = refl
sets_tail x l i (v ∷ vs) = sets_tail x (set l i v) (suc i) vs

sets-at : (n : ℕ) (b : List ℕ) (i : ℕ) → i < n → get_or (sets (replicate n 0) 0 b) i 0 ≡ get_or b i 0
sets-at n [] i h = get_or-replicate n i 0 0 h
sets-at zero (v ∷ b) i h = absurd (omega arith)
sets-at (suc n) (v ∷ b) zero h = ap (λ (l : List ℕ). get_or l 0 0) (sets_tail v (replicate n 0) 0 b)
sets-at (suc n) (v ∷ b) (suc i) h = ap (λ (l : List ℕ). get_or l (suc i) 0) (sets_tail v (replicate n 0) 0 b) ∙ sets-at n b i (omega arith)

-- a line's bytes, and 0 after them
pub padded-short : (b : List ℕ) → length b ≤ line_bytes → padded b ≡ b ++ replicate (line_bytes - length b) 0
unfolding padded
padded-short b h = go line_bytes b h
  where
    go : (n : ℕ) (b : List ℕ) → length b ≤ n → sets (replicate n 0) 0 b ≡ b ++ replicate (n - length b) 0
    go n [] h = ap (λ (k : ℕ). replicate k 0) {x = n} {y = n - 0} (omega arith)
    go zero (v ∷ b) h = absurd (omega arith)
    go (suc n) (v ∷ b) h =
        sets_tail v (replicate n 0) 0 b
        ∙ ap (λ (l : List ℕ). v ∷ l) (go n b (omega arith) ∙ ap (λ (k : ℕ). b ++ replicate k 0) {x = n - length b} {y = suc n - suc (length b)} (omega arith))

module _ (bytes b : List ℕ) (e : bytes ≡ padded b) where
  pub byte_at : (i : ℕ) → i < line_bytes → get_or bytes i 0 ≡ get_or b i 0
  unfolding padded
  byte_at i h = ap (λ (l : List ℕ). get_or l i 0) e ∙ sets-at line_bytes b i h

  pub number_as : (i : ℕ) → i + 1 < line_bytes → number_at bytes i ≡ number_at b i
  number_as i h = ap₂ (λ (x y : ℕ). x * 256 + y) (byte_at i (omega arith)) (byte_at (i + 1) h)

  pub counts_as_lem : counts_from bytes ≡ counts_from b
  counts_as_lem = λ i. record { states = number_as 1 (omega arith) i; initials = number_as 3 (omega arith) i; terminals = number_as 5 (omega arith) i; arcs = number_as 7 (omega arith) i }

  pub arc_as_lem : arc_from bytes ≡ arc_from b
  arc_as_lem = λ i. record { source = number_as 1 (omega arith) i; upper = byte_at 3 (omega arith) i; lower = byte_at 4 (omega arith) i; target = number_as 5 (omega arith) i; penalty = byte_at 7 (omega arith) i }
