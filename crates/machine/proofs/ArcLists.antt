-- What the arcs of a state tell, as a list of arcs and not by their numbers.
use Prim.Native.Nat.{ℕ, suc, ◌+◌, ◌≤◌, ◌<◌}
use native.Mathlib.Omega.{arith}
use mathlib.Core.Path.{◌≡◌, refl, sym, ap, ap₂, ◌∙◌}
use mathlib.Core.Logic.{⊎_elim}
use mathlib.Core.Bool.{Bool, true, false, cond}
use mathlib.Core.Option.{Option, none, some}
use mathlib.Core.List.{List, [], ◌∷◌, ◌++◌, append_assoc}
use lib.ListN.{length, get_or, length-append, drop_of_length-le}
use lib.Dec.{eqb, leb}
use lib.Seq.{get_or-append_seam}
use borrow.Author.Tests.{lt-ltb, le-ltb, eq-eqb, ne_eqb}
use Rattle.table_format.specs.Table.{Arc, Table, no_arc}
use Rattle.table_format.specs.Index.{below}
use Rattle.table_format.specs.Ruled.{AtLeast}
use Rattle.table_format.proofs.All.{All}
use Rattle.graph.specs.Lists.{keep}
use Rattle.graph.proofs.Lists.{same?, most?}
use Rattle.machine.specs.Query.{Query}
use Rattle.machine.specs.Machine.{bind, somewhen}
use Rattle.machine.specs.Transducer.{Passed, follow_at, writes_at, machine}
use Rattle.machine.specs.Denotation.{if_fits, arcs_tell}
use Rattle.machine.proofs.Transducer.{none_below}

-- what an arc with penalty p that fits by its letters makes of the sum s, under the ceiling c
abbrev pub lifted : ℕ → ℕ → ℕ → Option Passed → Option (Passed × ℕ)
lifted c p s o = bind o (λ e. somewhen (leb (s + p) c) (e, s + p))

-- an arc under the ceiling of a query; the machine's arcs follow so
abbrev pub follow_under : Table → Query → Arc → Passed × ℕ → Option (Passed × ℕ)
follow_under t q a d = lifted q.ceiling a.penalty d.1 (follow_at t q a d.0)

-- what the arcs of a list tell, with the classes of a table
abbrev pub list_tell : Table → Query → (ℕ → Passed × ℕ → List ℕ → List (List ℕ)) → Passed × ℕ → List ℕ → List Arc → List (List ℕ)
list_tell t q g d o [] = []
list_tell t q g d o (a ∷ l) = if_fits (follow_under t q a d) (λ e. g a.target e (o ++ writes_at t q a d.0)) ++ list_tell t q g d o l

module _ (t : Table) (q : Query) (d : Passed × ℕ) (o : List ℕ) where
  -- it is told by what g says of each state
  pub list_tell-same : (g h : ℕ → Passed × ℕ → List ℕ → List (List ℕ)) → ((s : ℕ) (e : Passed × ℕ) (w : List ℕ) → g s e w ≡ h s e w) → (l : List Arc) → list_tell t q g d o l ≡ list_tell t q h d o l
  list_tell-same g h same [] = refl
  list_tell-same g h same (a ∷ l) = ap₂ (λ (x y : List (List ℕ)). x ++ y) (go (follow_under t q a d)) (list_tell-same g h same l)
    where
      go : (f : Option (Passed × ℕ)) → if_fits f (λ e. g a.target e (o ++ writes_at t q a d.0)) ≡ if_fits f (λ e. h a.target e (o ++ writes_at t q a d.0))
      go none = refl
      go (some e) = same a.target e (o ++ writes_at t q a d.0)

module _ (t : Table) (q : Query) (g : ℕ → Passed × ℕ → List ℕ → List (List ℕ)) (d : Passed × ℕ) (o : List ℕ) where
  pub list_tell-append : (l k : List Arc) → list_tell t q g d o (l ++ k) ≡ list_tell t q g d o l ++ list_tell t q g d o k
  list_tell-append [] k = refl
  list_tell-append (a ∷ l) k = rw (list_tell-append l k, append_assoc)

  -- arcs that stand together
  part-tells : (l before after : List Arc) → t.arcs ≡ before ++ (l ++ after) → arcs_tell (machine t q) g d o (length before) (length l) ≡ list_tell t q g d o l
  part-tells [] before after e = refl
  part-tells (a ∷ l) before after e =
      let n : suc (length before) ≡ length (before ++ (a ∷ [])) = omega (arith, length-append before (a ∷ [])) in
      ap₂ (λ (x y : List (List ℕ)). x ++ y)
      (ap (λ (b : Arc). if_fits (follow_under t q b d) (λ f. g b.target f (o ++ writes_at t q b d.0)))
      (ap (λ (m : List Arc). get_or m (length before) no_arc) e ∙ get_or-append_seam before a (l ++ after) no_arc))
      (ap (λ (k : ℕ). arcs_tell (machine t q) g d o k (length l)) n ∙ part-tells l (before ++ (a ∷ [])) after (e ∙ sym (append_assoc before (a ∷ []) (l ++ after))))

-- Where sources do not fall, the arcs of a state stand together where the index says.

-- the arcs of a state
abbrev pub arcs_from : ℕ → List Arc → List Arc
arcs_from s l = keep (λ a. eqb a.source s) l

pub from-append : (s : ℕ) (l k : List Arc) → arcs_from s (l ++ k) ≡ arcs_from s l ++ arcs_from s k
from-append s [] k = refl
from-append s (a ∷ l) k = go (eqb a.source s) (from-append s l k)
  where
    go : (b : Bool) → arcs_from s (l ++ k) ≡ arcs_from s l ++ arcs_from s k → cond b (a ∷ arcs_from s (l ++ k)) (arcs_from s (l ++ k)) ≡ cond b (a ∷ arcs_from s l) (arcs_from s l) ++ arcs_from s k
    go true e = ap (λ (m : List Arc). a ∷ m) e
    go false e = e

-- arcs of one state are all its own, and none another's
module _ (s i : ℕ) where
  pub from-own : i ≡ s → (l : List Arc) → All (λ a. a.source ≡ i) l → arcs_from s l ≡ l
  from-own e [] h = refl
  from-own e (a ∷ l) h = rw (eq-eqb a.source s (h.0 ∙ e)) (ap (λ (k : List Arc). a ∷ k) (from-own e l h.1))

  pub from-other : (i ≡ s → ⊥) → (l : List Arc) → All (λ a. a.source ≡ i) l → arcs_from s l ≡ []
  from-other n [] h = refl
  from-other n (a ∷ l) h = rw (ne_eqb a.source s (λ e. n (sym h.0 ∙ e))) (from-other n l h.1)

-- sources that do not fall from n on do not from fewer
pub at_least-less : (m n : ℕ) (l : List Arc) → m ≤ n → AtLeast n l → AtLeast m l
at_least-less m n [] h A = tt
at_least-less m n (a ∷ l) h A = (let k : n ≤ a.source = A.0 in omega arith, A.1)

-- arcs of one state before others of higher ones
pub part-rises : (i m : ℕ) (l k : List Arc) → m ≤ i → All (λ a. a.source ≡ i) l → AtLeast i k → AtLeast m (l ++ k)
part-rises i m [] k h A R = at_least-less m i k h R
part-rises i m (a ∷ l) k h A R = (omega (arith, A.0), part-rises i a.source l k (omega (arith, A.0)) A.1 R)

record Stands (s : ℕ) (l : List Arc) : Type 0 where
  before : List Arc
  after : List Arc
  stand : l ≡ before ++ (arcs_from s l ++ after)
  first-is : below s l ≡ length before
  next-is : below (suc s) l ≡ length before + length (arcs_from s l)

with_first_lem : (s : ℕ) (a : Arc) (l : List Arc) → AtLeast a.source l → Stands s l → Stands s (a ∷ l)
with_first_lem s a l A P = ⊎_elim (λ h. ⊎_elim own (λ n. earlier (omega arith)) (same? a.source s)) later (most? a.source s)
  where
    earlier : a.source < s → Stands s (a ∷ l)
    earlier h =
        record {
          before = a ∷ P.before;
          after = P.after;
          stand = rw (ne_eqb a.source s (λ e. omega arith)) (ap (λ (k : List Arc). a ∷ k) P.stand);
          first-is = rw (lt-ltb a.source s h) (ap suc P.first-is);
          next-is = rw (lt-ltb a.source (suc s) (omega arith), ne_eqb a.source s (λ e. omega arith)) (omega (arith, P.next-is));
        }

    own : a.source ≡ s → Stands s (a ∷ l)
    own h =
        record {
          before = [];
          after = P.after;
          stand = rw (eq-eqb a.source s h) (ap (λ (k : List Arc). a ∷ k) (P.stand ∙ ap (λ (b : List Arc). b ++ (arcs_from s l ++ P.after)) (drop_of_length-le P.before {i = 0} (omega (arith, none)))));
          first-is = rw (le-ltb a.source s (omega arith)) here;
          next-is = rw (lt-ltb a.source (suc s) (omega arith), eq-eqb a.source s h) (omega (arith, P.next-is, none));
        }
      where
        here : below s l ≡ 0
        here = none_below s a.source l (omega arith) A

        none : length P.before ≡ 0
        none = sym P.first-is ∙ here

    later : s < a.source → Stands s (a ∷ l)
    later h =
        record {
          before = [];
          after = a ∷ l;
          stand = rw (ne_eqb a.source s (λ e. omega arith)) (ap (λ (k : List Arc). k ++ (a ∷ l)) (sym none));
          first-is = rw (le-ltb a.source s (omega arith)) (none_below s a.source l (omega arith) A);
          next-is = rw (le-ltb a.source (suc s) (omega arith), ne_eqb a.source s (λ e. omega arith)) (omega (arith, here, P.next-is));
        }
      where
        here : below (suc s) l ≡ 0
        here = none_below (suc s) a.source l (omega arith) A

        none : arcs_from s l ≡ []
        none = drop_of_length-le (arcs_from s l) {i = 0} (omega (arith, here, P.next-is))

stands : (s m : ℕ) (l : List Arc) → AtLeast m l → Stands s l
stands s m [] A = record { before = []; after = []; stand = refl; first-is = refl; next-is = refl }
stands s m (a ∷ l) A = with_first_lem s a l A.1 (stands s a.source l A.1)

-- so what the arcs of a state tell is what their list tells
pub state_tells_lem : (t : Table) (q : Query) → AtLeast 0 t.arcs → (g : ℕ → Passed × ℕ → List ℕ → List (List ℕ)) (d : Passed × ℕ) (o : List ℕ) (s : ℕ)
    → arcs_tell (machine t q) g d o ((machine t q).first s) ((machine t q).arity s) ≡ list_tell t q g d o (arcs_from s t.arcs)
state_tells_lem t q A g d o s =
    let P = stands s 0 t.arcs A in
    let F : (machine t q).first s ≡ length P.before = P.first-is in
    let N : (machine t q).arity s ≡ length (arcs_from s t.arcs) = omega (arith, P.first-is, P.next-is) in
    ap₂ (λ (n k : ℕ). arcs_tell (machine t q) g d o n k) F N ∙ part-tells t q g d o (arcs_from s t.arcs) P.before P.after P.stand
