-- The paths of the machine and the traces of report 6486 are one to one, and so are their readings.
use Prim.Native.Nat.{ℕ, zero, suc, ◌<◌}
use native.Mathlib.Omega.{arith}
use mathlib.Core.Path.{◌≡◌, refl, sym, ap, ap₂, subst, subst₂, ◌∙◌}
use mathlib.Core.Logic.{◌↔◌}
use mathlib.Core.Bool.{Bool, true, false}
use mathlib.Core.Option.{Option, some}
use mathlib.Core.List.{List, [], ◌∷◌, ◌++◌, append-nil, nil≢cons, cons≢nil, Memᴰ}
use lib.ListN.{length, get_or, drop}
use lib.Seq.{drop-cons}
use lib.Dec.{eqb}
use borrow.Author.Tests.{eqb-true, eq-eqb}
use Rattle.table_format.specs.Table.{Arc, Table, no_arc}
use Rattle.table_format.specs.Classes.{is_plain, row_of, with_letter}
use Rattle.table_format.proofs.Ruled.{Ruled}
use Rattle.machine.specs.Query.{Task, recognition, synthesis, analysis, Side, upper_side, lower_side, reads, letter, word, Query}
use Rattle.machine.specs.Transducer.{arc_at, side_follow, side_writes, Passed, passed, nothing_passed, both, follow_on, follow_arc, next_letter, plain_by, plain_at, follow_at, plain_machine}
use Rattle.machine.specs.Machine.{Path, start, more, final, datum, bind, listed, Allowed}
use Rattle.machine.specs.Agree.{place, arcs_back}
use Rattle.machine.specs.Report.{Rel, identity, ◌∘◌, ◌⊗◌, upper_alone, lower_alone, Cell, Edge, Trace, null, thence, arcs_of, Word, read_letter, write_letter, α, αIf, αOf, kernel}
use Rattle.machine.proofs.Options.{somewhen-parts}
use Rattle.machine.proofs.Transducer.{arc_of_lem, at_mem, mem-at, step-parts, follow-parts, get_d_lt}
use Rattle.machine.proofs.Classes.{PlainOf, itself, by_letter, plain_by_lem, class_by, plain-parts, next_of}

pub drop_head : (w : Word) (n x : ℕ) (v : Word) → drop n w ≡ x ∷ v → get_or w n 0 ≡ x
drop_head [] zero x v e = absurd (nil≢cons e)
drop_head [] (suc n) x v e = absurd (nil≢cons e)
drop_head (y ∷ w) zero x v e = cc
drop_head (y ∷ w) (suc n) x v e = drop_head w n x v e

pub drop_tail : (w : Word) (n x : ℕ) (v : Word) → drop n w ≡ x ∷ v → drop (suc n) w ≡ v
drop_tail [] zero x v e = absurd (nil≢cons e)
drop_tail [] (suc n) x v e = absurd (nil≢cons e)
drop_tail (y ∷ w) zero x v e = cc
drop_tail (y ∷ w) (suc n) x v e = drop_tail w n x v e

-- One side: the relation of its letter, and the word that n letters passed and the letters v written stand for.

abbrev pub side_rel : Bool → ℕ → Rel Word Word
side_rel true = read_letter
side_rel false = write_letter

abbrev pub side_data : Bool → Word → ℕ → Word → Word
side_data true w n v = drop n w
side_data false w n v = v

side-to : (r : Bool) (w : Word) (x n m : ℕ) (v : Word) → side_follow r w x n ≡ some m → side_rel r x (side_data r w n v) (side_data r w m (v ++ side_writes false x))
side-to true w zero n m v e = let h : n ≡ m = cc in ap (λ (k : ℕ). drop k w) h
side-to true w (suc x) n m v e =
    let P = somewhen-parts (eqb (get_or w n 0) (suc x)) (suc n) m e in
    let h : get_or w n 0 ≡ suc x = eqb-true _ _ P.0 in
    drop-cons w n 0 (get_d_lt w n x h) ∙ ap₂ (λ (y : ℕ) (k : ℕ). y ∷ drop k w) h P.1
side-to false w zero n m v e = sym (append-nil v)
side-to false w (suc x) n m v e = refl

side-from : (r : Bool) (w : Word) (x n : ℕ) (v z : Word) → side_rel r x (side_data r w n v) z
    → (m : ℕ) × (side_follow r w x n ≡ some m) × (side_data r w m (v ++ side_writes false x) ≡ z)
side-from true w zero n v z e = (n, refl, e)
side-from true w (suc x) n v z e = (suc n, rw (drop_head w n (suc x) z e, eq-eqb (suc x) (suc x) refl), drop_tail w n (suc x) z e)
side-from false w zero n v z e = (n, refl, append-nil v ∙ e)
side-from false w (suc x) n v z e = (suc n, refl, sym e)

abbrev pub on : Side → Word × Word → Word
on upper_side d = d.0
on lower_side d = d.1

pub to-sides : (k : Task) (a : Arc) (d e : Word × Word) → α k a d e → (s : Side) → side_rel (reads k s) (letter s a) (on s d) (on s e)
to-sides recognition a d e h upper_side = h.0
to-sides recognition a d e h lower_side = h.1
to-sides synthesis a d e h upper_side = h.0
to-sides synthesis a d e h lower_side = h.1
to-sides analysis a d e h upper_side = h.0
to-sides analysis a d e h lower_side = h.1

pub from-sides : (k : Task) (a : Arc) (d e : Word × Word) → ((s : Side) → side_rel (reads k s) (letter s a) (on s d) (on s e)) → α k a d e
from-sides recognition a d e h = (h upper_side, h lower_side)
from-sides synthesis a d e h = (h upper_side, h lower_side)
from-sides analysis a d e h = (h upper_side, h lower_side)

-- The relation of an arc with two letters is the composition of those of each letter.

product_is : (ρ σ : Rel Word Word) (d e : Word × Word) → ◌⊗◌ ρ σ d e ↔ ◌∘◌ (◌⊗◌ ρ identity) (◌⊗◌ identity σ) d e
product_is ρ σ d e = (λ h. ((e.0, d.1), (h.0, refl), (refl, h.1)), λ h. (subst (λ (w : Word). ρ d.0 w) h.2.0 h.1.0, subst (λ (w : Word). σ w e.1) (sym h.1.1) h.2.1))

pub label_is : (k : Task) (a : Arc) (d e : Word × Word) → α k a d e ↔ ◌∘◌ (α k (upper_alone a)) (α k (lower_alone a)) d e
label_is recognition a = product_is (read_letter a.upper) (read_letter a.lower)
label_is synthesis a = product_is (read_letter a.upper) (write_letter a.lower)
label_is analysis a = product_is (write_letter a.upper) (read_letter a.lower)

-- A trace is told by its beginning and its arcs.

side_same : (r : Bool) (x : ℕ) (v w z : Word) → side_rel r x v w → side_rel r x v z → w ≡ z
side_same true zero v w z e f = cc
side_same true (suc x) v w z e f = cc
side_same false zero v w z e f = cc
side_same false (suc x) v w z e f = cc

-- a letter of a class is told by the word that is read
letter-same : (k : Task) (a : Arc) (x y : ℕ) (d e f : Word × Word) → α k (with_letter a (suc x)) d e → α k (with_letter a (suc y)) d f → x ≡ y
letter-same recognition a x y d e f h g = let u : d.0 ≡ suc x ∷ e.0 = h.0 in let v : d.0 ≡ suc y ∷ f.0 = g.0 in let z : suc x ≡ suc y = cc in omega arith
letter-same synthesis a x y d e f h g = let u : d.0 ≡ suc x ∷ e.0 = h.0 in let v : d.0 ≡ suc y ∷ f.0 = g.0 in let z : suc x ≡ suc y = cc in omega arith
letter-same analysis a x y d e f h g = let u : d.1 ≡ suc x ∷ e.1 = h.1 in let v : d.1 ≡ suc y ∷ f.1 = g.1 in let z : suc x ≡ suc y = cc in omega arith

relation-same : (row : List ℕ) (k : Task) (a : Arc) (c : Bool) (d e f : Word × Word) → αIf c row k a d e → αIf c row k a d f → (s : Side) → on s e ≡ on s f
relation-same row k a true d e f h g s = side_same (reads k s) (letter s a) (on s d) (on s e) (on s f) (to-sides k a d e h s) (to-sides k a d f g s)
relation-same row k a false d e f h g s =
    let b : Arc = with_letter a (suc h.0) in
    side_same (reads k s) (letter s b) (on s d) (on s e) (on s f) (to-sides k b d e h.2 s)
    (to-sides k b d f (subst (λ (x : ℕ). α k (with_letter a (suc x)) d f) (sym (letter-same k a h.0 g.0 d e f h.2 g.2)) g.2) s)

edge-end : (t : Table) (k : Task) (b c e f : Cell (kernel t k)) → b ≡ c → (E : Edge (kernel t k) b e) (F : Edge (kernel t k) c f) → E.arc ≡ F.arc → e ≡ f
edge-end t k b c e f h E F a = λ i. ((side upper_side i, side lower_side i), (sym E.to ∙ ap (λ (x : Arc). x.target) a ∙ F.to) i)
  where
    side : (s : Side) → on s e.0 ≡ on s f.0
    side s =
        relation-same (row_of t.classes E.arc.upper) k E.arc (is_plain E.arc) b.0 e.0 f.0 E.related
        (subst₂ (λ (x : Arc) (y : Cell (kernel t k)). αOf t.classes k x y.0 f.0) (sym a) (sym h) F.related) s

pub trace-end : (t : Table) (k : Task) {b c e f : Cell (kernel t k)} (T : Trace (kernel t k) b e) (S : Trace (kernel t k) c f) → b ≡ c → arcs_of T ≡ arcs_of S → e ≡ f
trace-end t k null null h a = h
trace-end t k null (thence S F) h a = absurd (nil≢cons a)
trace-end t k (thence T E) null h a = absurd (cons≢nil a)
trace-end t k (thence T E) (thence S F) h a = edge-end t k _ _ _ _ (trace-end t k T S h (cc)) E F (cc)

-- An arc's relation is the union of those of the plain arcs that it can be, and where the words stand it is that of one of them.

module _ (rows : List (List ℕ)) (k : Task) (a : Arc) (d e : Word × Word) where
  pub relation-plain : is_plain a ≡ true → αOf rows k a d e ↔ α k a d e
  relation-plain p = (λ r. subst (λ (z : Bool). αIf z (row_of rows a.upper) k a d e) p r, λ r. subst (λ (z : Bool). αIf z (row_of rows a.upper) k a d e) (sym p) r)

  pub relation_class : is_plain a ≡ false → αOf rows k a d e ↔ ((x : ℕ) × Memᴰ (suc x) (row_of rows a.upper) × α k (with_letter a (suc x)) d e)
  relation_class p = (λ r. subst (λ (z : Bool). αIf z (row_of rows a.upper) k a d e) p r, λ r. subst (λ (z : Bool). αIf z (row_of rows a.upper) k a d e) (sym p) r)

  pub relation-from : (x : ℕ) (b : Arc) → PlainOf rows a x b → α k b d e → αOf rows k a d e
  relation-from x b (itself p i) r = (relation-plain p).1 (subst (λ (c : Arc). α k c d e) (sym i) r)
  relation-from x b (by_letter y p n m i) r = (relation_class p).1 (y, m, subst (λ (c : Arc). α k c d e) (sym i) r)

  pub relation-parts : αOf rows k a d e → (x : ℕ) × (b : Arc) × PlainOf rows a x b × α k b d e
  relation-parts r = go (is_plain a) refl
    where
      go : (z : Bool) → is_plain a ≡ z → (x : ℕ) × (b : Arc) × PlainOf rows a x b × α k b d e
      go true p = (0, a, itself p refl, (relation-plain p).0 r)
      go false p = let R = (relation_class p).0 r in (suc R.0, with_letter a (suc R.0), by_letter R.0 p refl R.1 refl, R.2)

next-is : (k : Task) (wu wl u l : Word) (c : Passed) (x : ℕ) (a : Arc) (e : Word × Word)
    → α k (with_letter a (suc x)) (side_data (reads k upper_side) wu c.up u, side_data (reads k lower_side) wl c.low l) e
    → next_letter (reads k upper_side) wu wl c ≡ suc x
next-is recognition wu wl u l c x a e h = drop_head wu c.up (suc x) e.0 h.0
next-is synthesis wu wl u l c x a e h = drop_head wu c.up (suc x) e.0 h.0
next-is analysis wu wl u l c x a e h = drop_head wl c.low (suc x) e.1 h.1

relation-to : (rows : List (List ℕ)) (q : Query) (a : Arc) (c : Passed) (u l : Word) (e : Word × Word)
    → αOf rows q.task a (side_data (reads q.task upper_side) q.upper_word c.up u, side_data (reads q.task lower_side) q.lower_word c.low l) e
    → (b : Arc) × (plain_by rows a (next_of q c) ≡ some b) × α q.task b (side_data (reads q.task upper_side) q.upper_word c.up u, side_data (reads q.task lower_side) q.lower_word c.low l) e
relation-to rows q a c u l e h = go (is_plain a) refl h
  where
    at : Word × Word
    at = (side_data (reads q.task upper_side) q.upper_word c.up u, side_data (reads q.task lower_side) q.lower_word c.low l)

    go : (z : Bool) → is_plain a ≡ z → αIf z (row_of rows a.upper) q.task a at e → (b : Arc) × (plain_by rows a (next_of q c) ≡ some b) × α q.task b at e
    go true p r = (a, plain_by_lem rows a (next_of q c) p, r)
    go false p r =
        (with_letter a (suc r.0), class_by rows a (next_of q c) r.0 p (next-is q.task q.upper_word q.lower_word u l c r.0 a e r.2) r.1, r.2)

-- Paths and traces where the words v are written before.

module _ (t : Table) (q : Query) (v : Side → Word) where
  -- the letters written on a side along a path, and its data
  abbrev pub letters : Side → Path → Word
  letters s (start i) = v s
  letters s (more p n) = letters s p ++ listed (bind (datum (plain_machine t q) p) (plain_at t q (arc_at t n))) (λ b. side_writes false (letter s b))

  pub letters-step : (s : Side) (p : Path) (n : ℕ) (c : Passed) (b : Arc) → datum (plain_machine t q) p ≡ some c → plain_at t q (arc_at t n) c ≡ some b → letters s (more p n) ≡ letters s p ++ side_writes false (letter s b)
  letters-step s p n c b e f =
      ap (λ (o : Option Passed). letters s p ++ listed (bind o (plain_at t q (arc_at t n))) (λ x. side_writes false (letter s x))) e
      ∙ ap (λ (o : Option Arc). letters s p ++ listed o (λ x. side_writes false (letter s x))) f

  abbrev pub data_on : Side → Path → Passed → Word
  data_on s p d = side_data (reads q.task s) (word s q) (passed d s) (letters s p)

  abbrev pub data_of : Path → Passed → Word × Word
  data_of p d = (data_on upper_side p d, data_on lower_side p d)

  abbrev pub begin : Word × Word
  begin = data_of (start 0) (nothing_passed)

  abbrev pub begin_at : ℕ → Cell (kernel t q.task)
  begin_at i = (begin, get_or t.initials i 0)

  -- the trace of a path
  abbrev pub TraceOf : Path → Passed → Type 0
  TraceOf p d = (T : Trace (kernel t q.task) (begin_at (place p)) (data_of p d, final (plain_machine t q) p)) × (arcs_of T ≡ arcs_back t p)

  -- the path of a trace
  pub record PathOf (i : ℕ) (c : Cell (kernel t q.task)) (arcs : List Arc) : Type 0 where
    pub path : Path
    pub passed_is : Passed
    pub allowed : Allowed (plain_machine t q) path
    pub from : place path ≡ i
    pub datum-is : datum (plain_machine t q) path ≡ some passed_is
    pub data_is : data_of path passed_is ≡ c.0
    pub state-is : final (plain_machine t q) path ≡ c.1
    pub arcs-are : arcs_back t path ≡ arcs

  module _ (U : Ruled t) where
    pub path-trace : (p : Path) → Allowed (plain_machine t q) p → (d : Passed) → datum (plain_machine t q) p ≡ some d → TraceOf p d
    path-trace (start i) A d e = subst (λ (x : Passed). TraceOf (start i) x) (cc) (null, refl)
    path-trace (more p n) A d e =
        let P = step-parts t q p n d e in
        let T = path-trace p A.0 P.0 P.2 in
        let h = (arc_of_lem t q U.rising (final (plain_machine t q) p) n).0 A.1 in
        (thence T.0 (edge P.0 P.1 P.2 P.3 P.4 h), ap (λ (l : List Arc). arc_at t n ∷ l) T.1)
      where
        edge : (c : Passed) (b : Arc) → datum (plain_machine t q) p ≡ some c → plain_at t q (arc_at t n) c ≡ some b → follow_arc q b c ≡ some d
            → (n < length t.arcs) × ((arc_at t n).source ≡ final (plain_machine t q) p)
            → Edge (kernel t q.task) (data_of p c, final (plain_machine t q) p) (data_of (more p n) d, (arc_at t n).target)
        edge c b u z f h =
            record {
              arc = arc_at t n;
              listed = at_mem t.arcs n no_arc h.0;
              from = h.1;
              to = refl;
              related =
                  relation-from t.classes q.task (arc_at t n) (data_of p c) (data_of (more p n) d) (next_of q c) b (plain-parts t.classes (arc_at t n) (next_of q c) b z)
                  (from-sides q.task b (data_of p c) (data_of (more p n) d) sides);
            }
          where
            -- one side, in the data of a side
            side : (s : Side) → side_rel (reads q.task s) (letter s b) (data_on s p c) (data_on s (more p n) d)
            side s =
                subst (λ (w : Word). side_rel (reads q.task s) (letter s b) (data_on s p c) (side_data (reads q.task s) (word s q) (passed d s) w)) (sym (letters-step s p n c b u z))
                (side-to (reads q.task s) (word s q) (letter s b) (passed c s) (passed d s) (letters s p) (follow-parts q b c d f s))

            sides : (s : Side) → side_rel (reads q.task s) (letter s b) (on s (data_of p c)) (on s (data_of (more p n) d))
            sides upper_side = side upper_side
            sides lower_side = side lower_side

    pub extend : (i : ℕ) (c e : Cell (kernel t q.task)) (arcs : List Arc) → PathOf i c arcs → (E : Edge (kernel t q.task) c e) → PathOf i e (E.arc ∷ arcs)
    extend i c e arcs P E =
        record {
          path = more p n;
          passed_is = d;
          allowed = (P.allowed, (arc_of_lem t q U.rising (final (plain_machine t q) p) n).1 (N.1, ap (λ (a : Arc). a.source) N.2 ∙ E.from ∙ sym P.state-is), (d, follows));
          from = P.from;
          datum-is = follows;
          data_is = λ z. (side upper_side up.0 up.2 z, side lower_side low.0 low.2 z);
          state-is = ap (λ (a : Arc). a.target) N.2 ∙ E.to;
          arcs-are = ap₂ (λ (a : Arc) (l : List Arc). a ∷ l) N.2 P.arcs-are;
        }
      where
        p : Path
        p = P.path

        N : (n : ℕ) × (n < length t.arcs) × (get_or t.arcs n no_arc ≡ E.arc)
        N = mem-at t.arcs E.arc no_arc E.listed

        n : ℕ
        n = N.0

        B : (b : Arc) × (plain_at t q (arc_at t n) P.passed_is ≡ some b) × α q.task b (data_of p P.passed_is) e.0
        B =
            relation-to t.classes q (arc_at t n) P.passed_is (letters upper_side p) (letters lower_side p) e.0
            (subst₂ (λ (a : Arc) (x : Word × Word). αOf t.classes q.task a x e.0) (sym N.2) (sym P.data_is) E.related)

        b : Arc
        b = B.0

        step : (s : Side) → side_rel (reads q.task s) (letter s b) (on s (data_of p P.passed_is)) (on s e.0)
        step s = to-sides q.task b (data_of p P.passed_is) e.0 B.2 s

        up : (m : ℕ) × (follow_on q upper_side b P.passed_is ≡ some m) × (side_data (reads q.task upper_side) (word upper_side q) m (letters upper_side p ++ side_writes false (letter upper_side b)) ≡ e.0.0)
        up = side-from (reads q.task upper_side) (word upper_side q) (letter upper_side b) P.passed_is.up (letters upper_side p) e.0.0 (step upper_side)

        low : (m : ℕ) × (follow_on q lower_side b P.passed_is ≡ some m) × (side_data (reads q.task lower_side) (word lower_side q) m (letters lower_side p ++ side_writes false (letter lower_side b)) ≡ e.0.1)
        low = side-from (reads q.task lower_side) (word lower_side q) (letter lower_side b) P.passed_is.low (letters lower_side p) e.0.1 (step lower_side)

        side : (s : Side) (m : ℕ) {w : Word} → side_data (reads q.task s) (word s q) m (letters s p ++ side_writes false (letter s b)) ≡ w
            → side_data (reads q.task s) (word s q) m (letters s (more p n)) ≡ w
        side s m i = ap (side_data (reads q.task s) (word s q) m) (letters-step s p n P.passed_is b P.datum-is B.1) ∙ i

        d : Passed
        d = record { up = up.0; low = low.0 }

        follows : datum (plain_machine t q) (more p n) ≡ some d
        follows =
            ap (λ (o : Option Passed). bind o (λ x. follow_at t q (arc_at t n) x)) P.datum-is
            ∙ ap (λ (o : Option Arc). bind o (λ x. follow_arc q x P.passed_is)) B.1
            ∙ ap₂ both up.1 low.1

    pub trace-path : (i : ℕ) {c : Cell (kernel t q.task)} → i < length t.initials → (T : Trace (kernel t q.task) (begin_at i) c) → PathOf i c (arcs_of T)
    trace-path i h null =
        record { path = start i; passed_is = nothing_passed; allowed = h; from = refl; datum-is = refl; data_is = refl; state-is = refl; arcs-are = refl }
    trace-path i h (thence {e} {f} T E) = extend i e f (arcs_of T) (trace-path i h T) E

module _ (t : Table) (q : Query) (U : Ruled t) where
  -- a path is told by its place and its arcs
  pub path_unique : (p r : Path) → Allowed (plain_machine t q) p → Allowed (plain_machine t q) r → place p ≡ place r → arcs_back t p ≡ arcs_back t r → p ≡ r
  path_unique (start i) (start j) A B e f = ap start e
  path_unique (start i) (more r m) A B e f = absurd (nil≢cons f)
  path_unique (more p n) (start j) A B e f = absurd (cons≢nil f)
  path_unique (more p n) (more r m) A B e f =
      let h = (arc_of_lem t q U.rising (final (plain_machine t q) p) n).0 A.1 in
      let k = (arc_of_lem t q U.rising (final (plain_machine t q) r) m).0 B.1 in
      ap₂ more (path_unique p r A.0 B.0 e (cc)) (U.arcs-differ no_arc n m h.0 k.0 (cc))
