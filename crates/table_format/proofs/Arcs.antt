-- Laws of arcs in cells, five cells an arc.
use Prim.Native.Nat.{ℕ, zero, suc, ◌+◌, ◌*◌, ◌<◌, ◌≤◌}
use native.Mathlib.Omega.{arith}
use mathlib.Core.Path.{◌≡◌, refl, sym, ap, ap₂, ◌∙◌}
use mathlib.Core.List.{List, [], ◌∷◌, ◌++◌}
use lib.ListN.{length, get_or, take, drop}
use lib.Seq.{drop-drop, get_or-drop, get_or-take, length-take-le}
use mathlib.Core.Bool.{Bool, false}
use Rattle.table_format.specs.Table.{Arc, no_arc}
use Rattle.table_format.specs.Rules.{each}
use Rattle.table_format.specs.Loaded.{arc_width, arc_in, arcs_in}
use Rattle.table_format.specs.Cells.{arc_with, arc_count, arcs_as, arc_of}
use Rattle.table_format.proofs.Each.{each-fails}

-- a function at equal numbers
pub at_equal : {A : Type 0} (f : ℕ → A) (m n : ℕ) → m ≡ n → f m ≡ f n
at_equal f m n e = ap f e

-- the arc from a cell on
abbrev pub arc_here : List ℕ → ℕ → Arc
arc_here cells at = arc_with (get_or cells at 0) (get_or cells (at + 1) 0) (get_or cells (at + 2) 0) (get_or cells (at + 3) 0) (get_or cells (at + 4) 0)

pub length-arcs : (n : ℕ) (cells : List ℕ) → length (arcs_in n cells) ≡ n
unfolding arcs_in
length-arcs zero cells = refl
length-arcs (suc n) cells = ap suc (length-arcs n (drop arc_width cells))

pub arc_dropped : (cells : List ℕ) (at : ℕ) → arc_in (drop at cells) ≡ arc_here cells at
arc_dropped cells at =
    λ i. record {
      source = (get_or-drop at cells 0 0 ∙ at_equal (λ n. get_or cells n 0) (at + 0) at (omega arith)) i;
      upper = get_or-drop at cells 1 0 i;
      lower = get_or-drop at cells 2 0 i;
      target = get_or-drop at cells 3 0 i;
      penalty = get_or-drop at cells 4 0 i;
    }

pub get_d_arcs : (n : ℕ) (cells : List ℕ) (k : ℕ) (d : Arc) → k < n → get_or (arcs_in n cells) k d ≡ arc_of cells k
unfolding arcs_in
get_d_arcs zero cells k d h = absurd (omega arith)
get_d_arcs (suc n) cells zero d h = refl
get_d_arcs (suc n) cells (suc k) d h =
    get_d_arcs n (drop arc_width cells) k d (omega arith) ∙ sym (arc_dropped (drop arc_width cells) (arc_width * k))
    ∙ ap arc_in (drop-drop (arc_width * k) arc_width cells ∙ at_equal (λ m. drop m cells) (arc_width + arc_width * k) (arc_width * suc k) (omega arith)) ∙ arc_dropped cells (arc_width * suc k)

-- one arc more
pub arcs-snoc : (k : ℕ) (cells : List ℕ) → arcs_in (suc k) cells ≡ arcs_in k cells ++ (arc_of cells k ∷ [])
unfolding arcs_in
arcs-snoc zero cells = refl
arcs-snoc (suc k) cells =
    ap (λ (l : List Arc). arc_in cells ∷ l)
    (arcs-snoc k (drop arc_width cells)
    ∙ ap (λ (a : Arc). arcs_in k (drop arc_width cells) ++ (a ∷ []))
    (sym (arc_dropped (drop arc_width cells) (arc_width * k)) ∙ ap arc_in (drop-drop (arc_width * k) arc_width cells ∙ at_equal (λ m. drop m cells) (arc_width + arc_width * k) (arc_width * suc k) (omega arith)) ∙ arc_dropped cells (arc_width * suc k)))

pub arcs-next : (k : ℕ) (cells : List ℕ) → arcs_in (k + 1) cells ≡ arcs_in k cells ++ (arc_of cells k ∷ [])
arcs-next k cells = at_equal (λ n. arcs_in n cells) (k + 1) (suc k) (omega arith) ∙ arcs-snoc k cells

-- the arcs of a part from the front are the first ones
pub arcs-take : (k m : ℕ) (cells : List ℕ) → arc_width * k ≤ m → m ≤ length cells → arcs_in k (take m cells) ≡ arcs_in k cells
unfolding arcs_in
arcs-take zero m cells h g = refl
arcs-take (suc k) m cells h g =
    arcs-snoc k (take m cells) ∙ ap₂ (λ (l : List Arc) (a : Arc). l ++ (a ∷ [])) (arcs-take k m cells (omega arith) g) same ∙ sym (arcs-snoc k cells)
  where
    same : arc_of (take m cells) k ≡ arc_of cells k
    same =
        λ i. record {
          source = get_or-take m cells (arc_width * k) 0 (omega arith) i;
          upper = get_or-take m cells (arc_width * k + 1) 0 (omega arith) i;
          lower = get_or-take m cells (arc_width * k + 2) 0 (omega arith) i;
          target = get_or-take m cells (arc_width * k + 3) 0 (omega arith) i;
          penalty = get_or-take m cells (arc_width * k + 4) 0 (omega arith) i;
        }

-- the first k of n arcs
pub take-arcs : (n k : ℕ) (cells : List ℕ) → k ≤ n → take k (arcs_in n cells) ≡ arcs_in k cells
unfolding arcs_in
take-arcs n zero cells h = refl
take-arcs zero (suc k) cells h = absurd (omega arith)
take-arcs (suc n) (suc k) cells h = ap (λ (l : List Arc). arc_in cells ∷ l) (take-arcs n k (drop arc_width cells) (omega arith))

-- a test along the arcs of cells fails where it fails at one
pub arcs_fail : (test : List Arc → Arc → Bool) (cells : List ℕ) (n k : ℕ) → k < n → test (arcs_in k cells) (arc_of cells k) ≡ false → each test [] (arcs_in n cells) ≡ false
arcs_fail test cells n k h f =
    each-fails test no_arc (arcs_in n cells) k (omega (arith, length-arcs n cells))
    (ap₂ test (take-arcs n k cells (omega arith)) (get_d_arcs n cells k no_arc h) ∙ f)

-- the arcs of the cells before arc n
pub front : (cells : List ℕ) (n : ℕ) → n ≤ arc_count cells → arcs_as (take (arc_width * n) cells) ≡ arcs_in n cells
front cells n h =
    at_equal (λ k. arcs_in k (take (arc_width * n) cells)) (arc_count (take (arc_width * n) cells)) n (omega (arith, length-take-le (arc_width * n) cells (omega arith)))
    ∙ arcs-take n (arc_width * n) cells (omega arith) (omega arith)
