-- Laws of the first-arc index: arcs are counted by source, and the counts added up.
use Prim.Native.Nat.{ℕ, zero, suc, ◌+◌, ◌-◌, ◌<◌, ◌≤◌}
use native.Mathlib.Omega.{arith}
use mathlib.Core.Path.{◌≡◌, refl, sym, ap, subst, ◌∙◌}
use mathlib.Core.Bool.{Bool, true, false, cond}
use mathlib.Core.List.{List, [], ◌∷◌, ◌++◌}
use lib.Dec.{eqb, ltb, leb}
use lib.ListN.{length, get_or, set, drop, drop_of_length-le, length-append, length-replicate, get_or-replicate, replicate, get_or-append, length-set}
use lib.Seq.{ext_get_or, drop-cons, get_or-append-add, get_or-set_same, get_or-set_other}
use borrow.Author.Tests.{eqb-true, eqb-false, ltb-true, ltb-false, leb-true, leb-false, ne_eqb}
use Rattle.table_format.specs.Table.{Arc, no_arc}
use Rattle.table_format.specs.Rules.{arcs_keep}
use Rattle.table_format.specs.Index.{below, tabulate, first_index}
use Rattle.table_format.specs.Loaded.{arcs_in}
use Rattle.table_format.specs.Cells.{arc_of}
use Rattle.table_format.proofs.Rules.{ArcBounded, arcs-inside}
use Rattle.table_format.proofs.All.{All, all-at}
use Rattle.table_format.proofs.Arcs.{at_equal, get_d_arcs, length-arcs}

-- how many arcs have the source just below n
abbrev pub ending : List Arc → ℕ → ℕ
ending [] n = 0
ending (a ∷ rest) n = cond (eqb (a.source + 1) n) (suc (ending rest n)) (ending rest n)

pub ending-few : (arcs : List Arc) (n : ℕ) → ending arcs n ≤ length arcs
ending-few [] n = omega arith
ending-few (a ∷ rest) n = go (eqb (a.source + 1) n) (ending-few rest n)
  where
    go : (x : Bool) → ending rest n ≤ length rest → cond x (suc (ending rest n)) (ending rest n) ≤ suc (length rest)
    go true e = omega arith
    go false e = omega arith

pub below-few : (arcs : List Arc) (n : ℕ) → below n arcs ≤ length arcs
below-few [] n = omega arith
below-few (a ∷ rest) n = go (ltb a.source n) (below-few rest n)
  where
    go : (x : Bool) → below n rest ≤ length rest → cond x (suc (below n rest)) (below n rest) ≤ suc (length rest)
    go true e = omega arith
    go false e = omega arith

pub below-zero : (arcs : List Arc) → below 0 arcs ≡ 0
below-zero [] = refl
below-zero (a ∷ rest) = go (ltb a.source 0) refl (below-zero rest)
  where
    go : (x : Bool) → ltb a.source 0 ≡ x → below 0 rest ≡ 0 → cond x (suc (below 0 rest)) (below 0 rest) ≡ 0
    go true e f = absurd (omega (arith, ltb-true a.source 0 e))
    go false e f = f

-- one state more
pub below_more : (arcs : List Arc) (n : ℕ) → below (n + 1) arcs ≡ ending arcs (n + 1) + below n arcs
below_more [] n = refl
below_more (a ∷ rest) n = go (ltb a.source (n + 1)) (eqb (a.source + 1) (n + 1)) (ltb a.source n) refl refl refl (below_more rest n)
  where
    go : (x y z : Bool) → ltb a.source (n + 1) ≡ x → eqb (a.source + 1) (n + 1) ≡ y → ltb a.source n ≡ z → below (n + 1) rest ≡ ending rest (n + 1) + below n rest
        → cond x (suc (below (n + 1) rest)) (below (n + 1) rest) ≡ cond y (suc (ending rest (n + 1))) (ending rest (n + 1)) + cond z (suc (below n rest)) (below n rest)
    go true true true e f g h = absurd (omega (arith, eqb-true (a.source + 1) (n + 1) f, ltb-true a.source n g))
    go true true false e f g h = omega arith
    go true false true e f g h = omega arith
    go true false false e f g h = absurd (eqb-false (a.source + 1) (n + 1) f (omega (arith, ltb-true a.source (n + 1) e, ltb-false a.source n g)))
    go false true z e f g h = absurd (omega (arith, eqb-true (a.source + 1) (n + 1) f, ltb-false a.source (n + 1) e))
    go false false true e f g h = absurd (omega (arith, ltb-true a.source n g, ltb-false a.source (n + 1) e))
    go false false false e f g h = h

-- the cells of the index

length-tabulate : (f : ℕ → ℕ) (i n : ℕ) → length (tabulate f i n) ≡ n
length-tabulate f i zero = refl
length-tabulate f i (suc n) = ap suc (length-tabulate f (suc i) n)

get_d_tabulate : (f : ℕ → ℕ) (i n k : ℕ) → k < n → get_or (tabulate f i n) k 0 ≡ f (i + k)
get_d_tabulate f i zero k h = absurd (omega arith)
get_d_tabulate f i (suc n) zero h = at_equal f i (i + 0) (omega arith)
get_d_tabulate f i (suc n) (suc k) h = get_d_tabulate f (suc i) n k (omega arith) ∙ at_equal f (suc i + k) (i + suc k) (omega arith)

module _ (states : ℕ) (arcs : List Arc) where
  abbrev head : List ℕ
  head = tabulate (λ q. below q arcs) 0 (states + 1)

  pub length-index : states ≤ 256 → length (first_index states arcs) ≡ 257
  unfolding first_index
  length-index h =
      length-append head (replicate (256 - states) 0) ∙ omega (arith, length-tabulate (λ q. below q arcs) 0 (states + 1), length-replicate {A = ℕ} (256 - states) 0)

  pub index_at : (q : ℕ) → q ≤ states → get_or (first_index states arcs) q 0 ≡ below q arcs
  unfolding first_index
  index_at q h =
      get_or-append head (replicate (256 - states) 0) 0 q (omega (arith, length-tabulate (λ q. below q arcs) 0 (states + 1)))
      ∙ get_d_tabulate (λ q. below q arcs) 0 (states + 1) q (omega arith) ∙ at_equal (λ n. below n arcs) (0 + q) q (omega arith)

  index-above : (q : ℕ) → states < q → q < 257 → get_or (first_index states arcs) q 0 ≡ 0
  unfolding first_index
  index-above q h g =
      at_equal (λ n. get_or (head ++ replicate (256 - states) 0) n 0) q (length head + (q - (states + 1))) (omega (arith, length-tabulate (λ q. below q arcs) 0 (states + 1)))
      ∙ get_or-append-add head (replicate (256 - states) 0) (q - (states + 1)) 0 ∙ get_or-replicate (256 - states) (q - (states + 1)) 0 0 (omega arith)

-- no arc that keeps the rules ends above the states
ending-none : (states : ℕ) (arcs : List Arc) (n : ℕ) → All (ArcBounded states) arcs → states < n → ending arcs n ≡ 0
ending-none states [] n A h = refl
ending-none states (a ∷ rest) n A h = go (eqb (a.source + 1) n) refl (ending-none states rest n A.1 h)
  where
    go : (x : Bool) → eqb (a.source + 1) n ≡ x → ending rest n ≡ 0 → cond x (suc (ending rest n)) (ending rest n) ≡ 0
    go true e f = absurd (omega (arith, eqb-true (a.source + 1) n e, A.0.source))
    go false e f = f

-- The two loops: what the cells hold.

abbrev pub Counts : List Arc → List ℕ → Type 0
Counts arcs first = (length first ≡ 257) × ((n : ℕ) → n < 257 → get_or first n 0 ≡ ending arcs n)

pub record Sums (arcs : List Arc) (q : ℕ) (first : List ℕ) : Type 0 where
  pub long : length first ≡ 257
  pub summed : (n : ℕ) → n ≤ q → get_or first n 0 ≡ below n arcs
  pub counted : (n : ℕ) → q < n → n < 257 → get_or first n 0 ≡ ending arcs n

counts-none : Counts [] (replicate 257 0)
counts-none = (length-replicate {A = ℕ} 257 0, λ n h. get_or-replicate 257 n 0 0 h)

-- an arc that keeps the rules starts at a state
pub source-inside : (states : ℕ) (rows : List (List ℕ)) (cells : List ℕ) (m k : ℕ) → k < m → arcs_keep states rows (arcs_in m cells) ≡ true → (arc_of cells k).source < states
source-inside states rows cells m k h K =
    omega (arith, ap (λ (a : Arc). a.source) (get_d_arcs m cells k no_arc h), (all-at (ArcBounded states) (arcs_in m cells) k no_arc (arcs-inside states rows (arcs_in m cells) K) (omega (arith, length-arcs m cells))).source)

-- one arc is counted, before those that are
counts-more : (arcs : List Arc) (a : Arc) (first : List ℕ) → a.source < 256 → Counts arcs first
    → Counts (a ∷ arcs) (set first (a.source + 1) (get_or first (a.source + 1) 0 + 1))
counts-more arcs a first h C = (length-set first (a.source + 1) (get_or first (a.source + 1) 0 + 1) ∙ C.0, λ n g. cell n g (eqb (a.source + 1) n) refl)
  where
    cell : (n : ℕ) → n < 257 → (b : Bool) → eqb (a.source + 1) n ≡ b
        → get_or (set first (a.source + 1) (get_or first (a.source + 1) 0 + 1)) n 0 ≡ cond b (suc (ending arcs n)) (ending arcs n)
    cell n g true e =
        let q : a.source + 1 ≡ n = eqb-true (a.source + 1) n e in
        at_equal (λ m. get_or (set first (a.source + 1) (get_or first (a.source + 1) 0 + 1)) m 0) n (a.source + 1) (sym q)
        ∙ get_or-set_same first (a.source + 1) (get_or first (a.source + 1) 0 + 1) 0 (omega (arith, C.0))
        ∙ omega (arith, C.1 n g, at_equal (λ m. get_or first m 0) (a.source + 1) n q)
    cell n g false e =
        get_or-set_other first (a.source + 1) n (get_or first (a.source + 1) 0 + 1) 0 (λ z. eqb-false (a.source + 1) n e (sym z)) ∙ C.1 n g

-- from the last of m arcs back
module _ (cells : List ℕ) (m : ℕ) where
  pub counts-last : Counts (drop m (arcs_in m cells)) (replicate 257 0)
  counts-last = subst (λ (arcs : List Arc). Counts arcs (replicate 257 0)) (sym (drop_of_length-le (arcs_in m cells) {i = m} (omega (arith, length-arcs m cells)))) counts-none

  pub counts-back : (n : ℕ) (first : List ℕ) → 0 < n → n ≤ m → (arc_of cells (n - 1)).source < 256 → Counts (drop n (arcs_in m cells)) first
      → Counts (drop (n - 1) (arcs_in m cells)) (set first ((arc_of cells (n - 1)).source + 1) (get_or first ((arc_of cells (n - 1)).source + 1) 0 + 1))
  counts-back n first h g k C =
      subst (λ (arcs : List Arc). Counts arcs (set first ((arc_of cells (n - 1)).source + 1) (get_or first ((arc_of cells (n - 1)).source + 1) 0 + 1))) (sym one_more_lem)
      (counts-more (drop n (arcs_in m cells)) (arc_of cells (n - 1)) first k C)
    where
      one_more_lem : drop (n - 1) (arcs_in m cells) ≡ arc_of cells (n - 1) ∷ drop n (arcs_in m cells)
      one_more_lem =
          drop-cons (arcs_in m cells) (n - 1) no_arc (omega (arith, length-arcs m cells))
          ∙ ap (λ (a : Arc). a ∷ drop (suc (n - 1)) (arcs_in m cells)) (get_d_arcs m cells (n - 1) no_arc (omega arith))
          ∙ at_equal (λ k. arc_of cells (n - 1) ∷ drop k (arcs_in m cells)) (suc (n - 1)) n (omega arith)

-- nothing is added up yet
pub sums_none : (arcs : List Arc) (first : List ℕ) → Counts arcs first → Sums arcs 0 first
sums_none arcs first C =
    record {
      long = C.0;
      summed = λ n h. at_equal (λ m. get_or first m 0) n 0 (omega arith) ∙ C.1 0 (omega arith) ∙ none arcs ∙ sym (below-zero arcs) ∙ at_equal (λ m. below m arcs) 0 n (omega arith);
      counted = λ n h g. C.1 n g;
    }
  where
    none : (l : List Arc) → ending l 0 ≡ 0
    none [] = refl
    none (a ∷ rest) = ap (λ (b : Bool). cond b (suc (ending rest 0)) (ending rest 0)) (ne_eqb (a.source + 1) 0 (λ z. omega arith)) ∙ none rest

-- one state more is added up
pub sums-more : (arcs : List Arc) (q : ℕ) (first : List ℕ) → q < 256 → Sums arcs q first → Sums arcs (q + 1) (set first (q + 1) (get_or first (q + 1) 0 + get_or first q 0))
sums-more arcs q first h S =
    record { long = length-set first (q + 1) (get_or first (q + 1) 0 + get_or first q 0) ∙ S.long; summed = summed; counted = counted }
  where
    other : (n : ℕ) → (n ≡ q + 1 → ⊥) → get_or (set first (q + 1) (get_or first (q + 1) 0 + get_or first q 0)) n 0 ≡ get_or first n 0
    other n e = get_or-set_other first (q + 1) n (get_or first (q + 1) 0 + get_or first q 0) 0 e

    new : get_or (set first (q + 1) (get_or first (q + 1) 0 + get_or first q 0)) (q + 1) 0 ≡ below (q + 1) arcs
    new =
        get_or-set_same first (q + 1) (get_or first (q + 1) 0 + get_or first q 0) 0 (omega (arith, S.long))
        ∙ omega (arith, S.counted (q + 1) (omega arith) (omega arith), S.summed q (omega arith), below_more arcs q)

    summed : (n : ℕ) → n ≤ q + 1 → get_or (set first (q + 1) (get_or first (q + 1) 0 + get_or first q 0)) n 0 ≡ below n arcs
    summed n g = go (leb n q) refl
      where
        go : (b : Bool) → leb n q ≡ b → get_or (set first (q + 1) (get_or first (q + 1) 0 + get_or first q 0)) n 0 ≡ below n arcs
        go true e = let k : n ≤ q = leb-true n q e in other n (λ z. omega arith) ∙ S.summed n k
        go false e =
            let k : n ≡ q + 1 = omega (arith, leb-false n q e) in
            at_equal (λ m. get_or (set first (q + 1) (get_or first (q + 1) 0 + get_or first q 0)) m 0) n (q + 1) k ∙ new ∙ at_equal (λ m. below m arcs) (q + 1) n (sym k)

    counted : (n : ℕ) → q + 1 < n → n < 257 → get_or (set first (q + 1) (get_or first (q + 1) 0 + get_or first q 0)) n 0 ≡ ending arcs n
    counted n g k = other n (λ z. omega arith) ∙ S.counted n (omega arith) k

-- all are added up: the index
pub sums-all : (states : ℕ) (rows : List (List ℕ)) (arcs : List Arc) (first : List ℕ) → states ≤ 256 → arcs_keep states rows arcs ≡ true → Sums arcs states first → first ≡ first_index states arcs
sums-all states rows arcs first h K S = ext_get_or 0 first (first_index states arcs) (S.long ∙ sym (length-index states arcs h)) cell
  where
    cell : (n : ℕ) → n < length first → get_or first n 0 ≡ get_or (first_index states arcs) n 0
    cell n g = go (leb n states) refl
      where
        go : (b : Bool) → leb n states ≡ b → get_or first n 0 ≡ get_or (first_index states arcs) n 0
        go true e = let k : n ≤ states = leb-true n states e in S.summed n k ∙ sym (index_at states arcs n k)
        go false e =
            let k : states < n = leb-false n states e in
            let m : n < 257 = omega (arith, S.long) in
            S.counted n k m ∙ ending-none states arcs n (arcs-inside states rows arcs K) k ∙ sym (index-above states arcs n k m)
