-- Recognition of a pair against synthesis of its upper word: the same paths with the same data, as far as what synthesis writes begins the lower word.
use Prim.Native.Nat.{ℕ, zero, suc}
use native.Mathlib.Omega.{arith}
use mathlib.Core.Path.{◌≡◌, refl, sym, ap, ap₂, subst, ◌∙◌}
use mathlib.Core.Bool.{Bool, true, false, ◌&&◌}
use mathlib.Core.Option.{Option, some}
use mathlib.Core.List.{List, [], ◌∷◌, ◌++◌, append-nil, append_assoc}
use lib.ListN.{length, get_or, length-append}
use lib.Seq.{get_or_at}
use lib.Dec.{eqb}
use borrow.Author.Tests.{eqb-true, eq-eqb}
use Rattle.table_format.specs.Table.{Arc, Table}
use Rattle.table_format.proofs.Tests.{and_left, and_right, and_both}
use Rattle.table_format.proofs.Ruled.{Ruled}
use Rattle.graph.specs.Lists.{keep}
use Rattle.machine.specs.Query.{synthesis, Query, same_word, recognition_of, synthesis_of}
use Rattle.machine.specs.Machine.{Machine, Path, start, more, bind, somewhen, listed, tested, final, datum, accepts, output, ArcOf, Allowed}
use Rattle.machine.specs.Order.{Narrows}
use Rattle.machine.specs.Transducer.{arc_at, side_follow, side_writes, Passed, both, follow_arc, writes_arc, plain_at, plain_machine, penalty_at, machine}
use Rattle.machine.specs.Idle.{NoIdleCycle}
use Rattle.machine.proofs.Options.{somewhen-parts}
use Rattle.machine.proofs.Transducer.{both-parts, get_d_lt, step-parts, written-length}
use Rattle.machine.proofs.Bound.{has-datum}
use Rattle.machine.proofs.Idle.{recognition_none}
use Rattle.machine.proofs.Higher.{narrows-under}
use Rattle.machine.proofs.Words.{same_word_lem, word_same}
use Rattle.machine.proofs.Penalties.{bounded}
use Rattle.machine.proofs.Narrow as narrow
use Rattle.inverse.specs.Readings.{accepting_paths}

-- One letter x of the lower side, where o was written and is as long as the letters passed.

module _ (l o : List ℕ) (n : ℕ) (passed : length o ≡ n) where
  side-to : (r : List ℕ) → o ++ r ≡ l → (x m : ℕ) → side_follow true l x n ≡ some m → (side_follow false [] x n ≡ some m) × ((v : List ℕ) × ((o ++ side_writes false x) ++ v ≡ l))
  side-to r e zero m f = (f, (r, ap (λ (z : List ℕ). z ++ r) (append-nil o) ∙ e))
  side-to r e (suc y) m f = let P = somewhen-parts (eqb (get_or l n 0) (suc y)) (suc n) m f in (ap (λ (k : ℕ). some k) P.1, left r e (eqb-true (get_or l n 0) (suc y) P.0))
    where
      left : (r : List ℕ) → o ++ r ≡ l → get_or l n 0 ≡ suc y → (v : List ℕ) × ((o ++ (suc y ∷ [])) ++ v ≡ l)
      left [] e g = absurd (omega (arith, get_d_lt l n y g, ap length e, length-append o []))
      left (z ∷ r) e g =
          let h : z ≡ suc y = sym (get_or_at o z r 0 n passed) ∙ ap (λ (w : List ℕ). get_or w n 0) e ∙ g in
          (r, append_assoc o (suc y ∷ []) r ∙ ap (λ (k : ℕ). o ++ (k ∷ r)) (sym h) ∙ e)

  side-from : (v : List ℕ) (x m : ℕ) → (o ++ side_writes false x) ++ v ≡ l → side_follow false [] x n ≡ some m → side_follow true l x n ≡ some m
  side-from v zero m e f = f
  side-from v (suc y) m e f =
      let g : get_or l n 0 ≡ suc y = ap (λ (w : List ℕ). get_or w n 0) (sym e ∙ append_assoc o (suc y ∷ []) v) ∙ get_or_at o (suc y) v 0 n passed in
      ap (λ (b : Bool). somewhen b (suc n)) (eq-eqb (get_or l n 0) (suc y) g) ∙ f

module _ (t : Table) (u l : List ℕ) (c : ℕ) where
  abbrev rec : Query
  rec = recognition_of u l c

  abbrev syn : Query
  syn = synthesis_of u c

  abbrev R : Machine
  R = plain_machine t rec

  abbrev S : Machine
  S = plain_machine t syn

  final-same : (p : Path) → final R p ≡ final S p
  final-same (start i) = refl
  final-same (more p n) = refl

  written : (p : Path) (d : Passed) → datum S p ≡ some d → length (output S p) ≡ d.low
  written p d e = omega (arith, written-length t syn p d e)

  -- what an arc writes, by the plain arc that it is
  wrote : (p : Path) (n : ℕ) (d : Passed) (b : Arc) → datum S p ≡ some d → plain_at t syn (arc_at t n) d ≡ some b → listed (datum S p) (S.writes n) ≡ side_writes false b.lower
  wrote p n d b e h = ap (λ (o : Option Passed). listed o (S.writes n)) e ∙ ap (λ (o : Option Arc). listed o (writes_arc syn)) h

  to : (p : Path) (d : Passed) → datum R p ≡ some d → (datum S p ≡ some d) × ((v : List ℕ) × (output S p ++ v ≡ l))
  to (start i) d e = (e, (l, refl))
  to (more p n) e h =
      let P = step-parts t rec p n e h in
      let d = P.0 in
      let b = P.1 in
      let I = to p d P.2 in
      let B = both-parts (side_follow true u b.upper d.up) (side_follow true l b.lower d.low) e P.4 in
      let L = side-to l (output S p) d.low (written p d I.0) I.1.0 I.1.1 b.lower e.low B.1 in (
        ap (λ (o : Option Passed). bind o (S.follow n)) I.0 ∙ ap (λ (o : Option Arc). bind o (λ x. follow_arc syn x d)) P.3 ∙ ap₂ both B.0 L.0,
        (L.1.0, ap (λ (w : List ℕ). (output S p ++ w) ++ L.1.0) (wrote p n d b I.0 P.3) ∙ L.1.1),
      )

  from : (p : Path) (d : Passed) → datum S p ≡ some d → (v : List ℕ) → output S p ++ v ≡ l → datum R p ≡ some d
  from (start i) d e v w = e
  from (more p n) e h v w =
      let P = step-parts t syn p n e h in
      let d = P.0 in
      let b = P.1 in
      let k : (output S p ++ side_writes false b.lower) ++ v ≡ l = ap (λ (z : List ℕ). (output S p ++ z) ++ v) (sym (wrote p n d b P.2 P.3)) ∙ w in
      let I = from p d P.2 (side_writes false b.lower ++ v) (sym (append_assoc (output S p) (side_writes false b.lower) v) ∙ k) in
      let B = both-parts (side_follow true u b.upper d.up) (side_follow false [] b.lower d.low) e P.4 in
      ap (λ (o : Option Passed). bind o (R.follow n)) I ∙ ap (λ (o : Option Arc). bind o (λ x. follow_arc rec x d)) P.3
      ∙ ap₂ both B.0 (side-from l (output S p) d.low (written p d P.2) v b.lower e.low k B.1)

  allowed-to : (p : Path) → Allowed R p → Allowed S p
  allowed-to (start i) A = A
  allowed-to (more p n) A = (allowed-to p A.0, subst (λ (s : ℕ). ArcOf S s n) (final-same p) A.1, (A.2.0, (to (more p n) A.2.0 A.2.1).0))

  allowed-from : (p : Path) (v : List ℕ) → output S p ++ v ≡ l → Allowed S p → Allowed R p
  allowed-from (start i) v w A = A
  allowed-from (more p n) v w A = (
    allowed-from p (listed (datum S p) (S.writes n) ++ v) (sym (append_assoc (output S p) (listed (datum S p) (S.writes n)) v) ∙ w) A.0,
    subst (λ (s : ℕ). ArcOf R s n) (sym (final-same p)) A.1,
    (A.2.0, from (more p n) A.2.0 A.2.1 v w),
  )

  -- the tests of a path that accepts, in parts
  accepts-by : (M : Machine) (p : Path) (d : M.D) → datum M p ≡ some d → accepts M p ≡ (M.terminal (final M p) && M.done d)
  accepts-by M p d e = ap (λ (o : Option M.D). M.terminal (final M p) && tested o M.done) e

  whole : (v : List ℕ) (d : Passed) (p : Path) → datum S p ≡ some d → output S p ++ v ≡ l → d.low ≡ length l → output S p ≡ l
  whole [] d p e w k = sym (append-nil (output S p)) ∙ w
  whole (x ∷ v) d p e w k = absurd (omega (arith, written p d e, ap length w, length-append (output S p) (x ∷ v)))

  abbrev read_all : Passed → Bool
  read_all d = eqb d.up (length u)

  narrows : Narrows R S (λ p. same_word (output S p) l)
  narrows p = (into, out)
    where
      terminal : Bool
      terminal = S.terminal (final S p)

      into : Allowed R p × (accepts R p ≡ true) → (Allowed S p × (accepts S p ≡ true)) × (same_word (output S p) l ≡ true)
      into (A, a) =
          let D = has-datum t rec p A in
          let d = D.0 in
          let T = to p d D.1 in
          let lower = eqb d.low (length l) in
          let b : (terminal && (read_all d && lower)) ≡ true = ap (λ (s : ℕ). S.terminal s && (read_all d && lower)) (sym (final-same p)) ∙ sym (accepts-by R p d D.1) ∙ a in
          let both_read = and_right terminal (read_all d && lower) b in (
            (allowed-to p A, accepts-by S p d T.0 ∙ and_both (and_left terminal (read_all d && lower) b) (and_both (and_left (read_all d) lower both_read) refl)),
            word_same (output S p) l (whole T.1.0 d p T.0 T.1.1 (eqb-true d.low (length l) (and_right (read_all d) lower both_read))),
          )

      out : (Allowed S p × (accepts S p ≡ true)) × (same_word (output S p) l ≡ true) → Allowed R p × (accepts R p ≡ true)
      out ((A, a), s) =
          let D = has-datum t syn p A in
          let d = D.0 in
          let w : output S p ≡ l = same_word_lem (output S p) l s in
          let v : output S p ++ [] ≡ l = append-nil (output S p) ∙ w in
          let b : (terminal && (read_all d && true)) ≡ true = sym (accepts-by S p d D.1) ∙ a in
          let read : read_all d ≡ true = and_left (read_all d) true (and_right terminal (read_all d && true) b) in (
            allowed-from p [] v A,
            accepts-by R p d (from p d D.1 [] v)
                ∙ ap (λ (x : ℕ). S.terminal x && (read_all d && eqb d.low (length l))) (final-same p)
                ∙ and_both (and_left terminal (read_all d && true) b) (and_both read (eq-eqb d.low (length l) (sym (written p d D.1) ∙ ap length w))),
          )

  pub recognition_paths : Ruled t → NoIdleCycle t synthesis → accepting_paths t rec ≡ keep (λ p. same_word (output (machine t syn) p) l) (accepting_paths t syn)
  recognition_paths U none =
      narrow.narrowed (machine t rec) (machine t syn) (λ p. same_word (output (machine t syn) p) l) (narrows-under R S (penalty_at t) c (λ w. same_word w l) narrows)
      (bounded t rec (recognition_none t synthesis none) U) (bounded t syn none U)
