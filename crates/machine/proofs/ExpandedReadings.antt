-- A table with classes has the readings of the table with a plain arc for each letter of a class, as often and in the same order.
use Prim.Native.Nat.{ℕ, zero, suc, ◌-◌, ◌≤◌, ◌<◌}
use native.Mathlib.Omega.{arith}
use mathlib.Core.Path.{◌≡◌, refl, sym, ap, ap₂, subst, ◌∙◌}
use mathlib.Core.Logic.{⊎_elim}
use mathlib.Core.Bool.{Bool, true, false, cond, ◌&&◌, ◌||◌}
use mathlib.Core.Option.{Option, none, some}
use mathlib.Core.List.{List, [], ◌∷◌, ◌++◌, append-nil, Memᴰ}
use lib.ListN.{get_or, length, replicate}
use lib.Dec.{eqb, leb, ltb}
use borrow.Author.Tests.{ltb-true, eq-eqb, ne_eqb}
use Rattle.table_format.specs.Table.{Arc, Table}
use Rattle.table_format.specs.Classes.{first_class, row_width, letters_in, is_plain, row_of, with_letter}
use Rattle.table_format.specs.Rules.{letters_rise, row_holds}
use Rattle.table_format.specs.Ruled.{AtLeast, Ruled}
use Rattle.table_format.proofs.Tests.{and_left, and_right}
use Rattle.table_format.proofs.Classes.{row_letters_lem, rows_hold_lem, row_small}
use Rattle.table_format.proofs.ClassFaults.{plain-is}
use Rattle.table_format.proofs.All.{All, all_get_d}
use Rattle.graph.proofs.Lists.{same?}
use Rattle.machine.specs.Query.{Task, recognition, synthesis, analysis, upper_side, lower_side, reads, Query}
use Rattle.machine.specs.Machine.{bind, somewhen, listed}
use Rattle.machine.specs.Tour.{tour, readings, reading_if}
use Rattle.machine.specs.Transducer.{member, side_follow, Passed, both, follow_arc, writes_arc, class_arc, writes_at, machine}
use Rattle.machine.specs.Denotation.{if_fits, state_tells, initials_tell}
use Rattle.machine.specs.Expand.{for_each, plain_arcs, all_plain, expanded}
use Rattle.machine.proofs.Classes.{rows-keep, next_of, plain_follows, plain-writes}
use Rattle.machine.proofs.Denotation.{tour-tells}
use Rattle.machine.proofs.ArcLists.{lifted, follow_under, list_tell, list_tell-same, list_tell-append, arcs_from, from-append, from-own, from-other, part-rises, state_tells_lem}

-- The letters of a row rise, from above m on; 0 only fills it up.

abbrev RowRises : ℕ → List ℕ → Type 0
RowRises m [] = Unit {0}
RowRises m (zero ∷ row) = RowRises m row
RowRises m (suc x ∷ row) = (m < suc x) × RowRises (suc x) row

zeros-rise : (m n : ℕ) → RowRises m (replicate n 0)
zeros-rise m zero = tt
zeros-rise m (suc n) = zeros-rise m n

letters_rise_lem : (m : ℕ) (letters : List ℕ) (n : ℕ) → letters_rise m letters ≡ true → RowRises m (letters ++ replicate n 0)
letters_rise_lem m [] n e = zeros-rise m n
letters_rise_lem m (zero ∷ l) n e = absurd (let h : m < 0 = ltb-true m 0 (and_left (ltb m 0) (leb 0 63) (and_left (ltb m 0 && leb 0 63) (letters_rise 0 l) e)) in omega arith)
letters_rise_lem m (suc x ∷ l) n e = (
  ltb-true m (suc x) (and_left (ltb m (suc x)) (leb (suc x) 63) (and_left (ltb m (suc x) && leb (suc x) 63) (letters_rise (suc x) l) e)),
  letters_rise_lem (suc x) l n (and_right (ltb m (suc x) && leb (suc x) 63) (letters_rise (suc x) l) e),
)

row-rises : (t : Table) → Ruled t → (x : ℕ) → RowRises 0 (row_of t.classes x)
row-rises t U x = all_get_d (RowRises 0) t.classes (x - first_class) [] tt (go t.classes ((rows_hold_lem t.classes).0 (rows-keep t U)).1)
  where
    row : (r : List ℕ) → row_holds r ≡ true → RowRises 0 r
    row r h = let L = row_letters_lem r h in subst (RowRises 0) L.0 (letters_rise_lem 0 (letters_in r) (row_width - length (letters_in r)) L.1.1)

    go : (rows : List (List ℕ)) → All (λ (r : List ℕ). row_holds r ≡ true) rows → All (RowRises 0) rows
    go [] h = tt
    go (r ∷ rows) h = (row r h.0, go rows h.1)

-- The plain arc of another letter than the next one does not fit.

other-by : (k : Task) (wu wl : List ℕ) (u l y : ℕ) → (cond (reads k upper_side) (get_or wu u 0) (get_or wl l 0) ≡ suc y → ⊥)
    → both (side_follow (reads k upper_side) wu (suc y) u) (side_follow (reads k lower_side) wl (suc y) l) ≡ none
other-by recognition wu wl u l y h = ap (λ (b : Bool). both (somewhen b (suc u)) (side_follow true wl (suc y) l)) (ne_eqb (get_or wu u 0) (suc y) h)
other-by synthesis wu wl u l y h = ap (λ (b : Bool). both (somewhen b (suc u)) (side_follow false wl (suc y) l)) (ne_eqb (get_or wu u 0) (suc y) h)
other-by analysis wu wl u l y h = ap (λ (b : Bool). both (some (suc u)) (somewhen b (suc l))) (ne_eqb (get_or wl l 0) (suc y) h)

other-letter : (q : Query) (a : Arc) (d : Passed) (y : ℕ) → (next_of q d ≡ suc y → ⊥) → follow_arc q (with_letter a (suc y)) d ≡ none
other-letter q a d y h = other-by q.task q.upper_word q.lower_word d.up d.low y h

-- What the plain arcs of a class tell, at one place.

module _ (t : Table) (q : Query) (g : ℕ → Passed × ℕ → List ℕ → List (List ℕ)) (d : Passed × ℕ) (o : List ℕ) (a : Arc) where
  -- what an arc tells that is another one here, if it is one
  abbrev tells_as : Option Arc → List (List ℕ)
  tells_as b = if_fits (lifted q.ceiling a.penalty d.1 (bind b (λ c. follow_arc q c d.0))) (λ e. g a.target e (o ++ listed b (writes_arc q)))

  small_plain : (y : ℕ) → y ≤ 63 → is_plain (with_letter a y) ≡ true
  small_plain y h = (plain-is (with_letter a y)).1 (omega arith, omega arith)

  module _ (x : ℕ) (next : next_of q d.0 ≡ x) where
    -- the arc of another letter tells nothing
    other-tells : (y : ℕ) → suc y ≤ 63 → (x ≡ suc y → ⊥) → (l : List Arc) → list_tell t q g d o (with_letter a (suc y) ∷ l) ≡ list_tell t q g d o l
    other-tells y h n l =
        ap (λ (f : Option Passed). if_fits (lifted q.ceiling a.penalty d.1 f) (λ e. g a.target e (o ++ writes_at t q (with_letter a (suc y)) d.0)) ++ list_tell t q g d o l)
        (plain_follows t q (with_letter a (suc y)) d.0 (small_plain (suc y) h) ∙ other-letter q a d.0 y (λ e. n (sym next ∙ e)))

    -- letters above the next one tell nothing
    above-tell : (row : List ℕ) (m : ℕ) → x ≤ m → RowRises m row → ((y : ℕ) → Memᴰ y row → y ≤ 63) → list_tell t q g d o (for_each a row) ≡ []
    above-tell [] m h r s = refl
    above-tell (zero ∷ row) m h r s = above-tell row m h r (λ y i. s y (Memᴰ.tail i))
    above-tell (suc y ∷ row) m h r s =
        other-tells y (s (suc y) (Memᴰ.head refl)) (λ e. let k : m < suc y = r.0 in omega arith) (for_each a row)
        ∙ above-tell row (suc y) (let k : m < suc y = r.0 in omega arith) r.1 (λ z i. s z (Memᴰ.tail i))

  -- the arc of the next letter tells what it does
  letter-tells : (z : ℕ) → next_of q d.0 ≡ suc z → suc z ≤ 63 → (l : List Arc) → list_tell t q g d o l ≡ [] → list_tell t q g d o (with_letter a (suc z) ∷ l) ≡ tells_as (some (with_letter a (suc z)))
  letter-tells z next h l e =
      let b : Arc = with_letter a (suc z) in
      ap₂ (λ (f : Option Passed) (w : List ℕ). if_fits (lifted q.ceiling a.penalty d.1 f) (λ e. g a.target e (o ++ w)) ++ list_tell t q g d o l)
      (plain_follows t q b d.0 (small_plain (suc z) h)) (plain-writes t q b d.0 (small_plain (suc z) h))
      ∙ ap (λ (k : List (List ℕ)). tells_as (some b) ++ k) e
      ∙ append-nil (tells_as (some b))

  row-tells : (z : ℕ) → next_of q d.0 ≡ suc z → (row : List ℕ) (m : ℕ) → RowRises m row → ((y : ℕ) → Memᴰ y row → y ≤ 63)
      → list_tell t q g d o (for_each a row) ≡ tells_as (class_arc row a (suc z))
  row-tells z next [] m r s = refl
  row-tells z next (zero ∷ row) m r s =
      row-tells z next row m r (λ y i. s y (Memᴰ.tail i))
      ∙ ap (λ (b : Bool). tells_as (cond (b || member (suc z) row) (some (with_letter a (suc z))) none)) (sym (ne_eqb 0 (suc z) (λ e. omega arith)))
  row-tells z next (suc y ∷ row) m r s = ⊎_elim here (there (row-tells z next row (suc y) r.1 (λ v i. s v (Memᴰ.tail i)))) (same? (suc y) (suc z))
    where
      small : suc y ≤ 63
      small = s (suc y) (Memᴰ.head refl)

      here : suc y ≡ suc z → list_tell t q g d o (for_each a (suc y ∷ row)) ≡ tells_as (class_arc (suc y ∷ row) a (suc z))
      here e =
          ap (λ (v : ℕ). list_tell t q g d o (with_letter a v ∷ for_each a row)) e
          ∙ letter-tells z next (subst (λ (v : ℕ). v ≤ 63) e small) (for_each a row) (above-tell (suc z) next row (suc y) (omega arith) r.1 (λ v i. s v (Memᴰ.tail i)))
          ∙ ap (λ (b : Bool). tells_as (cond (b || member (suc z) row) (some (with_letter a (suc z))) none)) (sym (eq-eqb (suc y) (suc z) e))

      there : list_tell t q g d o (for_each a row) ≡ tells_as (class_arc row a (suc z)) → (suc y ≡ suc z → ⊥) → list_tell t q g d o (for_each a (suc y ∷ row)) ≡ tells_as (class_arc (suc y ∷ row) a (suc z))
      there rest n =
          other-tells (suc z) next y small (λ e. n (sym e)) (for_each a row)
          ∙ rest
          ∙ ap (λ (b : Bool). tells_as (cond (b || member (suc z) row) (some (with_letter a (suc z))) none)) (sym (ne_eqb (suc y) (suc z) n))

  -- all plain arcs of a row: the one of the next letter, if there is one
  class_tells : (row : List ℕ) → RowRises 0 row → ((y : ℕ) → Memᴰ y row → y ≤ 63) → list_tell t q g d o (for_each a row) ≡ tells_as (class_arc row a (next_of q d.0))
  class_tells row r s = go (next_of q d.0) refl
    where
      go : (x : ℕ) → next_of q d.0 ≡ x → list_tell t q g d o (for_each a row) ≡ tells_as (class_arc row a x)
      go zero next = above-tell 0 next row 0 (omega arith) r s
      go (suc z) next = row-tells z next row 0 r s

-- The arcs of the expanded table.

each_from : (a : Arc) (row : List ℕ) → All (λ b. b.source ≡ a.source) (for_each a row)
each_from a [] = tt
each_from a (zero ∷ row) = each_from a row
each_from a (suc x ∷ row) = (refl, each_from a row)

module _ (rows : List (List ℕ)) where
  plain-from : (a : Arc) → All (λ b. b.source ≡ a.source) (plain_arcs rows a)
  plain-from a = go (is_plain a)
    where
      go : (b : Bool) → All (λ c. c.source ≡ a.source) (cond b (a ∷ []) (for_each a (row_of rows a.upper)))
      go true = (refl, tt)
      go false = each_from a (row_of rows a.upper)

  plain-rise : (m : ℕ) (l : List Arc) → AtLeast m l → AtLeast m (all_plain rows l)
  plain-rise m [] A = tt
  plain-rise m (a ∷ l) A = part-rises a.source m (plain_arcs rows a) (all_plain rows l) A.0 (plain-from a) (plain-rise a.source l A.1)

  -- the arcs of a state are the plain ones of its arcs
  from_all : (s : ℕ) (l : List Arc) → arcs_from s (all_plain rows l) ≡ all_plain rows (arcs_from s l)
  from_all s [] = refl
  from_all s (a ∷ l) =
      from-append s (plain_arcs rows a) (all_plain rows l)
      ∙ ⊎_elim (λ e. own e (from_all s l)) (λ n. other n (from_all s l)) (same? a.source s)
    where
      rest : List Arc
      rest = arcs_from s (all_plain rows l)

      own : a.source ≡ s → rest ≡ all_plain rows (arcs_from s l) → arcs_from s (plain_arcs rows a) ++ rest ≡ all_plain rows (cond (eqb a.source s) (a ∷ arcs_from s l) (arcs_from s l))
      own e r = rw (eq-eqb a.source s e) (ap₂ (λ (x y : List Arc). x ++ y) (from-own s a.source e (plain_arcs rows a) (plain-from a)) r)

      other : (a.source ≡ s → ⊥) → rest ≡ all_plain rows (arcs_from s l) → arcs_from s (plain_arcs rows a) ++ rest ≡ all_plain rows (cond (eqb a.source s) (a ∷ arcs_from s l) (arcs_from s l))
      other n r = rw (ne_eqb a.source s n) (ap₂ (λ (x y : List Arc). x ++ y) (from-other s a.source n (plain_arcs rows a) (plain-from a)) r)

module _ (t : Table) (U : Ruled t) (q : Query) where
  abbrev t' : Table
  t' = expanded t

  module _ (g : ℕ → Passed × ℕ → List ℕ → List (List ℕ)) (d : Passed × ℕ) (o : List ℕ) where
    -- an arc tells what its plain arcs do
    arc-tells : (a : Arc) → list_tell t' q g d o (plain_arcs t.classes a) ≡ if_fits (follow_under t q a d) (λ e. g a.target e (o ++ writes_at t q a d.0))
    arc-tells a = go (is_plain a) refl
      where
        go : (b : Bool) → is_plain a ≡ b
            → list_tell t' q g d o (cond b (a ∷ []) (for_each a (row_of t.classes a.upper))) ≡ if_fits (follow_under t q a d) (λ e. g a.target e (o ++ writes_at t q a d.0))
        go true p =
            append-nil (if_fits (follow_under t' q a d) (λ e. g a.target e (o ++ writes_at t' q a d.0)))
            ∙ ap₂ (λ (f : Option Passed) (w : List ℕ). if_fits (lifted q.ceiling a.penalty d.1 f) (λ e. g a.target e (o ++ w))) (plain_follows t' q a d.0 p ∙ sym (plain_follows t q a d.0 p)) (plain-writes t' q a d.0 p ∙ sym (plain-writes t q a d.0 p))
        go false p =
            class_tells t' q g d o a (row_of t.classes a.upper) (row-rises t U a.upper) (row_small t.classes (rows-keep t U) a.upper)
            ∙ ap (λ (b : Bool). tells_as t' q g d o a (cond b (some a) (class_arc (row_of t.classes a.upper) a (next_of q d.0)))) (sym p)

    all_tell : (l : List Arc) → list_tell t q g d o l ≡ list_tell t' q g d o (all_plain t.classes l)
    all_tell [] = refl
    all_tell (a ∷ l) = ap₂ (λ (x y : List (List ℕ)). x ++ y) (sym (arc-tells a)) (all_tell l) ∙ sym (list_tell-append t' q g d o (plain_arcs t.classes a) (all_plain t.classes l))

  reading-same : (b : Bool) (o : List ℕ) → reading_if (machine t q) b o ≡ reading_if (machine t' q) b o
  reading-same true o = refl
  reading-same false o = refl

  -- a state tells the same in both tables, after anything passed and to any number of arcs
  pub state-same : (c s : ℕ) (d : Passed × ℕ) (o : List ℕ) → state_tells (machine t q) c s d o ≡ state_tells (machine t' q) c s d o
  unfolding state_tells
  state-same zero s d o = reading-same ((machine t q).terminal s && (machine t q).done d) o
  state-same (suc c) s d o =
      ap₂ (λ (x y : List (List ℕ)). x ++ y) (reading-same ((machine t q).terminal s && (machine t q).done d) o)
      (state_tells_lem t q U.rising (λ r e w. state_tells (machine t q) c r e w) d o s
      ∙ list_tell-same t q d o (λ r e w. state_tells (machine t q) c r e w) (λ r e w. state_tells (machine t' q) c r e w) (λ r e w. state-same c r e w) (arcs_from s t.arcs)
      ∙ all_tell (λ r e w. state_tells (machine t' q) c r e w) d o (arcs_from s t.arcs)
      ∙ ap (list_tell t' q (λ r e w. state_tells (machine t' q) c r e w) d o) (sym (from_all t.classes s t.arcs))
      ∙ sym (state_tells_lem t' q (plain-rise t.classes 0 t.arcs U.rising) (λ r e w. state_tells (machine t' q) c r e w) d o s))

  initials-same : (l : List ℕ) → initials_tell (machine t q) l ≡ initials_tell (machine t' q) l
  initials-same [] = refl
  initials-same (s ∷ l) = ap₂ (λ (x y : List (List ℕ)). x ++ y) (state-same (machine t q).limit s (machine t q).d₀ []) (initials-same l)

  -- both tables have the same readings
  pub expanded-readings : readings (machine t q) (tour (machine t q)) ≡ readings (machine t' q) (tour (machine t' q))
  expanded-readings = tour-tells (machine t q) ∙ initials-same t.initials ∙ sym (tour-tells (machine t' q))
