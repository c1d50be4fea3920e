-- Cells filled up with 0: how many they are, their front and its counts, and cells put behind it or in it.
use Prim.Native.Nat.{ℕ, zero, suc, ◌+◌, ◌-◌, ◌≤◌}
use native.Mathlib.Omega.{arith}
use mathlib.Core.Path.{◌≡◌, refl, sym, ap, ap₂, ◌∙◌}
use mathlib.Core.List.{List, ◌++◌, append_assoc}
use lib.ListN.{length, take, drop, replicate, length-append, length-replicate, replicate-append-replicate}
use lib.Seq.{sets, sets-eq, length-sets, take_at, take-append_seam, drop-append-add, drop-nil}
use Rattle.table_format.specs.Table.{Counts}
use Rattle.table_format.specs.Loaded.{most_cells, count_cells, counts_in}
use Rattle.table_items.specs.Draft.{filled_up}
use Rattle.table_format.proofs.Arcs.{at_equal}
use Rattle.table_items.proofs.Parts.{sets-left}

abbrev zeros : ℕ → List ℕ
zeros n = replicate n 0

drop-zeros : (k n : ℕ) → drop k (zeros n) ≡ zeros (n - k)
drop-zeros zero n = at_equal zeros n (n - 0) (omega arith)
drop-zeros (suc k) zero = drop-nil (suc k) ∙ at_equal zeros 0 (0 - suc k) (omega arith)
drop-zeros (suc k) (suc n) = drop-zeros k n ∙ at_equal zeros (n - k) (suc n - suc k) (omega arith)

pub length-filled : (d : List ℕ) → length d ≤ most_cells → length (filled_up d) ≡ most_cells
unfolding filled_up
length-filled d h = length-append d (zeros (most_cells - length d)) ∙ omega (arith, length-replicate {A = ℕ} (most_cells - length d) 0)

pub take-filled : (d : List ℕ) (n : ℕ) → n ≡ length d → take n (filled_up d) ≡ d
unfolding filled_up
take-filled d n e = take_at d (zeros (most_cells - length d)) n (omega arith)

pub counts-filled : (c : Counts) → counts_in (filled_up (count_cells c)) ≡ c
unfolding filled_up
counts-filled c = refl

pub sets-filled : (d more : List ℕ) → length d + length more ≤ most_cells → sets (filled_up d) (length d) more ≡ filled_up (d ++ more)
unfolding filled_up
sets-filled d more h =
    let rest : List ℕ = zeros (most_cells - length d) in
    sets-eq more (d ++ rest) (length d) (omega (arith, length-append d rest, length-replicate {A = ℕ} (most_cells - length d) 0))
    ∙ ap₂ (λ (x y : List ℕ). (x ++ more) ++ y) (take-append_seam d rest)
    (drop-append-add d rest (length more) ∙ drop-zeros (length more) (most_cells - length d)
    ∙ at_equal zeros (most_cells - length d - length more) (most_cells - length (d ++ more)) (omega (arith, length-append d more)))

-- cells put in the place of others before the 0
pub sets-within : (d : List ℕ) (i : ℕ) (vs : List ℕ) → i + length vs ≤ length d → sets (filled_up d) i vs ≡ filled_up (sets d i vs)
unfolding filled_up
sets-within d i vs h =
    sets-left vs d (zeros (most_cells - length d)) i h ∙ ap (λ (n : ℕ). sets d i vs ++ zeros (most_cells - n)) (sym (length-sets d i vs))

-- cells that end with 0
pub filled-zeros : (d : List ℕ) (n : ℕ) → length d + n ≤ most_cells → filled_up (d ++ zeros n) ≡ filled_up d
unfolding filled_up
filled-zeros d n h =
    let size : length (d ++ zeros n) ≡ length d + n = length-append d (zeros n) ∙ ap (λ (k : ℕ). length d + k) (length-replicate {A = ℕ} n 0) in
    append_assoc d (zeros n) (zeros (most_cells - length (d ++ zeros n)))
    ∙ ap (λ (l : List ℕ). d ++ l)
    (replicate-append-replicate n (most_cells - length (d ++ zeros n)) 0 ∙ at_equal zeros (n + (most_cells - length (d ++ zeros n))) (most_cells - length d) (omega arith))
