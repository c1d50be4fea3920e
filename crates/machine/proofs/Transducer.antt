-- The machine of a table and a query: where sources do not fall, the arcs of a state are those whose numbers it gives; and the parts
-- of a step that is made.
use Prim.Native.Nat.{ℕ, zero, suc, ◌+◌, ◌≤◌, ◌<◌}
use native.Mathlib.Omega.{arith}
use native.Mathlib.Nat.{not-suc-le-zero}
use mathlib.Core.Path.{◌≡◌, refl, ap, subst, ◌∙◌}
use mathlib.Core.Bool.{Bool, true, false, cond}
use mathlib.Core.Logic.{◌↔◌}
use mathlib.Core.Option.{Option, none, some}
use mathlib.Core.List.{List, [], ◌∷◌}
use lib.ListN.{length, get_or, length-append}
use lib.Dec.{eqb, ltb}
use borrow.Author.Tests.{ltb-true, ltb-false, le-ltb}
use Rattle.table_format.specs.Table.{Arc, Table, no_arc}
use Rattle.table_format.specs.Index.{below}
pub use Rattle.table_format.proofs.All.{at_mem, mem-at}
use Rattle.table_format.proofs.Ruled.{AtLeast}
use Rattle.machine.specs.Query.{Side, upper_side, lower_side, reads, letter, word, Query}
use Rattle.machine.specs.Machine.{Path, start, more, size, listed, datum, output, ArcOf}
use Rattle.machine.specs.Transducer.{arc_at, side_follow, side_writes, side_written, Passed, passed, nothing_passed, both, follow_on, follow_arc, writes_on, writes_arc, plain_at, follow_at, written_on, written_by, plain_machine}
use Rattle.machine.proofs.Options.{bind-parts, somewhen-parts}

at_least : (m : ℕ) (l : List Arc) (i : ℕ) → AtLeast m l → i < length l → m ≤ (get_or l i no_arc).source
at_least m [] i A h = absurd (not-suc-le-zero h)
at_least m (a ∷ l) zero A h = A.0
at_least m (a ∷ l) (suc i) A h = let k : a.source ≤ (get_or l i no_arc).source = at_least a.source l i A.1 (omega arith) in omega arith

pub none_below : (s m : ℕ) (l : List Arc) → s ≤ m → AtLeast m l → below s l ≡ 0
none_below s m [] h A = refl
none_below s m (a ∷ l) h A = rw (le-ltb a.source s (omega arith)) (none_below s a.source l (omega arith) A.1)

below-to : (s m : ℕ) (l : List Arc) (i : ℕ) → AtLeast m l → i < below s l → (i < length l) × ((get_or l i no_arc).source < s)
below-to s m [] i A h = absurd (not-suc-le-zero h)
below-to s m (a ∷ l) i A h = go (ltb a.source s) refl i h (λ j k. below-to s a.source l j A.1 k)
  where
    go : (b : Bool) → ltb a.source s ≡ b → (i : ℕ) → i < cond b (suc (below s l)) (below s l) → ((j : ℕ) → j < below s l → (j < length l) × ((get_or l j no_arc).source < s))
        → (i < suc (length l)) × ((get_or (a ∷ l) i no_arc).source < s)
    go false e i k r = absurd (let z : below s l ≡ 0 = none_below s a.source l (ltb-false _ _ e) A.1 in omega arith)
    go true e zero k r = (omega arith, ltb-true _ _ e)
    go true e (suc j) k r = let x = r j (omega arith) in (omega arith, x.1)

below-from : (s m : ℕ) (l : List Arc) (i : ℕ) → AtLeast m l → i < length l → (get_or l i no_arc).source < s → i < below s l
below-from s m [] i A h k = absurd (not-suc-le-zero h)
below-from s m (a ∷ l) zero A h k = go (ltb a.source s) refl
  where
    go : (b : Bool) → ltb a.source s ≡ b → 0 < cond b (suc (below s l)) (below s l)
    go true e = omega arith
    go false e = absurd (let z : s ≤ a.source = ltb-false _ _ e in omega arith)
below-from s m (a ∷ l) (suc i) A h k = go (ltb a.source s) refl (below-from s a.source l i A.1 (omega arith) k)
  where
    go : (b : Bool) → ltb a.source s ≡ b → i < below s l → suc i < cond b (suc (below s l)) (below s l)
    go true e x = omega arith
    go false e x = absurd (let z : s ≤ a.source = ltb-false _ _ e in omega (arith, at_least a.source l i A.1 (omega arith)))

pub arc_of_lem : (t : Table) (q : Query) → AtLeast 0 t.arcs → (s n : ℕ) → ArcOf (plain_machine t q) s n ↔ ((n < length t.arcs) × ((arc_at t n).source ≡ s))
arc_of_lem t q A s n = (to, from)
  where
    to : ArcOf (plain_machine t q) s n → (n < length t.arcs) × ((arc_at t n).source ≡ s)
    to h =
        let x = below-to (suc s) 0 t.arcs n A (omega arith) in
        let y : (arc_at t n).source < s → n < below s t.arcs = λ k. below-from s 0 t.arcs n A x.0 k in
        (x.0, by_cases (ltb (arc_at t n).source s) refl x y h)
      where
        by_cases : (b : Bool) → ltb (arc_at t n).source s ≡ b → (n < length t.arcs) × ((arc_at t n).source < suc s) → ((arc_at t n).source < s → n < below s t.arcs) → ArcOf (plain_machine t q) s n → (arc_at t n).source ≡ s
        by_cases true e x y h = absurd (let z : n < below s t.arcs = y (ltb-true _ _ e) in omega arith)
        by_cases false e x y h = let z : s ≤ (arc_at t n).source = ltb-false _ _ e in omega arith

    from : (n < length t.arcs) × ((arc_at t n).source ≡ s) → ArcOf (plain_machine t q) s n
    from h = by_cases (ltb n (below s t.arcs)) refl (below-from (suc s) 0 t.arcs n A h.0 (omega arith))
      where
        by_cases : (b : Bool) → ltb n (below s t.arcs) ≡ b → n < below (suc s) t.arcs → ArcOf (plain_machine t q) s n
        by_cases true e x = absurd (let z : n < below s t.arcs = ltb-true _ _ e in omega (arith, (below-to s 0 t.arcs n A z).1))
        by_cases false e x = let z : below s t.arcs ≤ n = ltb-false _ _ e in (omega arith, omega arith)

-- the parts of a step that is made
pub both-parts : (x y : Option ℕ) (d : Passed) → both x y ≡ some d → (x ≡ some d.up) × (y ≡ some d.low)
both-parts none y d e = absurd (let z : ◌≡◌ {A = ℕ} 0 1 = cc in omega arith)
both-parts (some u) none d e = absurd (let z : ◌≡◌ {A = ℕ} 0 1 = cc in omega arith)
both-parts (some u) (some l) d e = let k : ◌≡◌ {A = Passed} (record { up = u; low = l }) d = cc in (ap (λ (x : Passed). some x.up) k, ap (λ (x : Passed). some x.low) k)

pub follow-parts : (q : Query) (a : Arc) (d e : Passed) → follow_arc q a d ≡ some e → (s : Side) → follow_on q s a d ≡ some (passed e s)
follow-parts q a d e h upper_side = (both-parts (follow_on q upper_side a d) (follow_on q lower_side a d) e h).0
follow-parts q a d e h lower_side = (both-parts (follow_on q upper_side a d) (follow_on q lower_side a d) e h).1

pub get_d_lt : (w : List ℕ) (n x : ℕ) → get_or w n 0 ≡ suc x → n < length w
get_d_lt [] n x e = omega arith
get_d_lt (y ∷ ys) zero x e = omega arith
get_d_lt (y ∷ ys) (suc n) x e = let h : n < length ys = get_d_lt ys n x e in omega arith

-- Counts: the output's length is what was passed on the written side, and no count is above the arcs of the path.

side_written_lem : (r : Bool) (w : List ℕ) (x n m : ℕ) → side_follow r w x n ≡ some m → side_written r m ≡ side_written r n + length (side_writes r x)
side_written_lem true w x n m e = refl
side_written_lem false w zero n m e = let k : n ≡ m = cc in omega arith
side_written_lem false w (suc x) n m e = let k : suc n ≡ m = cc in omega arith

side-passed : (r : Bool) (w : List ℕ) (x n m : ℕ) → side_follow r w x n ≡ some m → m ≤ suc n
side-passed r w zero n m e = let k : n ≡ m = cc in omega arith
side-passed true w (suc x) n m e = let k : suc n ≡ m = (somewhen-parts (eqb (get_or w n 0) (suc x)) (suc n) m e).1 in omega arith
side-passed false w (suc x) n m e = let k : suc n ≡ m = cc in omega arith

none_written : (q : Query) (s : Side) → written_on q s nothing_passed ≡ 0
none_written q s = go s (reads q.task s)
  where
    go : (s : Side) (r : Bool) → side_written r (passed nothing_passed s) ≡ 0
    go upper_side true = refl
    go upper_side false = refl
    go lower_side true = refl
    go lower_side false = refl

written_on_lem : (q : Query) (a : Arc) (d e : Passed) → follow_arc q a d ≡ some e → (s : Side) → written_on q s e ≡ written_on q s d + length (writes_on q s a)
written_on_lem q a d e h s = side_written_lem (reads q.task s) (word s q) (letter s a) (passed d s) (passed e s) (follow-parts q a d e h s)

module _ (t : Table) (q : Query) where
  -- the datum before a step, the plain arc that its arc is there, and the step
  pub step-parts : (p : Path) (n : ℕ) (e : Passed) → datum (plain_machine t q) (more p n) ≡ some e
      → (d : Passed) × (b : Arc) × (datum (plain_machine t q) p ≡ some d) × (plain_at t q (arc_at t n) d ≡ some b) × (follow_arc q b d ≡ some e)
  step-parts p n e h =
      let P = bind-parts (datum (plain_machine t q) p) (λ x. follow_at t q (arc_at t n) x) e h in
      let N = bind-parts (plain_at t q (arc_at t n) P.0) (λ b. follow_arc q b P.0) e P.2 in
      (P.0, N.0, P.1, N.1, N.2)

  pub written-length : (p : Path) (d : Passed) → datum (plain_machine t q) p ≡ some d → length (output (plain_machine t q) p) ≡ written_by q d
  written-length (start i) d e =
      let k : ◌≡◌ {A = Passed} nothing_passed d = cc in
      subst (λ (x : Passed). 0 ≡ written_by q x) k (omega (arith, none_written q upper_side, none_written q lower_side))
  written-length (more p n) d e =
      let P = step-parts p n d e in
      let a : Arc = P.1 in
      length-append (output (plain_machine t q) p) (listed (datum (plain_machine t q) p) ((plain_machine t q).writes n))
      ∙ ap (λ (o : Option Passed). length (output (plain_machine t q) p) + length (listed o ((plain_machine t q).writes n))) P.2
      ∙ ap (λ (o : Option Arc). length (output (plain_machine t q) p) + length (listed o (writes_arc q))) P.3
      ∙ omega (arith, written-length p P.0 P.2, written_on_lem q a P.0 d P.4 upper_side, written_on_lem q a P.0 d P.4 lower_side, length-append (writes_on q upper_side a) (writes_on q lower_side a))

  pub passed-size : (p : Path) (d : Passed) → datum (plain_machine t q) p ≡ some d → (s : Side) → passed d s ≤ size p
  passed-size (start i) d e s = let k : ◌≡◌ {A = Passed} nothing_passed d = cc in subst (λ (x : Passed). passed x s ≤ 0) k (go s)
    where
      go : (s : Side) → passed nothing_passed s ≤ 0
      go upper_side = omega arith
      go lower_side = omega arith
  passed-size (more p n) d e s =
      let P = step-parts p n d e in
      let h : passed P.0 s ≤ size p = passed-size p P.0 P.2 s in
      let k : passed d s ≤ suc (passed P.0 s) = side-passed (reads q.task s) (word s q) (letter s P.1) (passed P.0 s) (passed d s) (follow-parts q P.1 P.0 d P.4 s) in
      omega arith
