-- Where no idle cycle is reached, a path that the words allow has fewer arcs than (letters to read + 1) × states.
use Prim.Native.Nat.{ℕ, zero, suc, ◌+◌, ◌<◌, ◌≤◌}
use mathlib.Core.Path.{◌≡◌, refl, subst}
use mathlib.Core.Bool.{Bool, true, false, ◌&&◌}
use mathlib.Core.Option.{some}
use mathlib.Core.List.{List, Memᴰ}
use native.Mathlib.Omega.{arith}
use native.Mathlib.Nat.{mul-le-mul_right}
use lib.ListN.{length, get_or}
use lib.Dec.{eqb}
use borrow.Author.Tests.{eqb-true}
use Rattle.table_format.specs.Table.{Arc, Table, no_arc}
use Rattle.table_format.proofs.Ruled.{Ruled}
use Rattle.graph.specs.Cost.{Costly, stay, freely, paying}
use Rattle.graph.proofs.Cost.{few-edges}
use Rattle.machine.specs.Query.{Side, upper_side, lower_side, reads, letter, word, Query}
use Rattle.machine.specs.Transducer.{arc_at, side_follow, side_to_read, Passed, passed, nothing_passed, follow_arc, plain_at, to_read_on, letters_to_read, plain_machine}
use Rattle.machine.specs.Machine.{Path, start, more, final, datum, size, Allowed, Bounded}
use Rattle.machine.specs.Idle.{side_idle, idle_on, idle, always, AnyArc, IdleArc, NoIdleCycle}
use Rattle.machine.proofs.Idle.{among, any-arc}
use Rattle.machine.proofs.Options.{somewhen-parts}
use Rattle.machine.proofs.Transducer.{arc_of_lem, at_mem, step-parts, follow-parts, get_d_lt}
use Rattle.machine.proofs.Classes.{next_of, narrow_idle}

abbrev pub count_if : Bool → ℕ → ℕ
count_if true n = n
count_if false n = 0

-- one side: what is read stays within the word, and a letter that is not idle is one more
pub record SideLaw (r : Bool) (w : List ℕ) (x n m : ℕ) : Type 0 where
  pub within : count_if r n ≤ side_to_read r w → count_if r m ≤ side_to_read r w
  pub grows : count_if r n ≤ count_if r m
  pub steps : side_idle r x ≡ false → suc (count_if r n) ≤ count_if r m

side_law : (r : Bool) (w : List ℕ) (x n m : ℕ) → side_follow r w x n ≡ some m → SideLaw r w x n m
side_law true w zero n m e = let k : n ≡ m = cc in record { within = λ h. omega arith; grows = omega arith; steps = λ z. let y : ◌≡◌ {A = ℕ} 0 1 = cc in omega arith }
side_law false w zero n m e = record { within = λ h. omega arith; grows = omega arith; steps = λ z. let y : ◌≡◌ {A = ℕ} 0 1 = cc in omega arith }
side_law true w (suc x) n m e =
    let P = somewhen-parts (eqb (get_or w n 0) (suc x)) (suc n) m e in
    let h : n < length w = get_d_lt w n x (eqb-true _ _ P.0) in
    record { within = λ k. omega arith; grows = omega arith; steps = λ k. omega arith }
side_law false w (suc x) n m e = record { within = λ h. omega arith; grows = omega arith; steps = λ z. let y : ◌≡◌ {A = ℕ} 0 1 = cc in omega arith }

other-false : (a b : Bool) → (a && b) ≡ false → a ≡ true → b ≡ false
other-false true b e h = e
other-false false b e h = cc

module _ (t : Table) (q : Query) where
  abbrev pub read_on : Side → Passed → ℕ
  read_on s d = count_if (reads q.task s) (passed d s)

  abbrev read_count : Passed → ℕ
  read_count d = read_on upper_side d + read_on lower_side d

  arc_law : (a : Arc) (d e : Passed) → follow_arc q a d ≡ some e → (s : Side) → SideLaw (reads q.task s) (word s q) (letter s a) (passed d s) (passed e s)
  arc_law a d e h s = side_law (reads q.task s) (word s q) (letter s a) (passed d s) (passed e s) (follow-parts q a d e h s)

  within-start : (s : Side) → count_if (reads q.task s) 0 ≤ to_read_on q s
  within-start s = go (reads q.task s)
    where
      go : (r : Bool) → count_if r 0 ≤ side_to_read r (word s q)
      go true = omega arith
      go false = omega arith

  pub within : (p : Path) (d : Passed) → datum (plain_machine t q) p ≡ some d → (s : Side) → read_on s d ≤ to_read_on q s
  within (start i) d e s = subst (λ (x : Passed). read_on s x ≤ to_read_on q s) (cc) (go s)
    where
      go : (s : Side) → read_on s (nothing_passed) ≤ to_read_on q s
      go upper_side = within-start upper_side
      go lower_side = within-start lower_side
  within (more p n) d e s =
      let P = step-parts t q p n d e in
      (arc_law P.1 P.0 d P.4 s).within (within p P.0 P.2 s)

  reads_more : (a : Arc) (d e : Passed) → follow_arc q a d ≡ some e → idle q.task a ≡ false → suc (read_count d) ≤ read_count e
  reads_more a d e h i = go (side_idle (reads q.task upper_side) (letter upper_side a)) refl
    where
      go : (b : Bool) → side_idle (reads q.task upper_side) (letter upper_side a) ≡ b → suc (read_count d) ≤ read_count e
      go true eb = omega (arith, (arc_law a d e h upper_side).grows, (arc_law a d e h lower_side).steps (other-false (idle_on q.task upper_side a) (idle_on q.task lower_side a) i eb))
      go false eb = omega (arith, (arc_law a d e h upper_side).steps eb, (arc_law a d e h lower_side).grows)

  pub has-datum : (p : Path) → Allowed (plain_machine t q) p → (d : Passed) × (datum (plain_machine t q) p ≡ some d)
  has-datum (start i) A = (nothing_passed, refl)
  has-datum (more p n) A = A.2

  module _ (none-idle : NoIdleCycle t q.task) (R : Ruled t) where
    -- an allowed path's last arc
    last-arc : (p : Path) (n : ℕ) → Allowed (plain_machine t q) (more p n) → Memᴰ (arc_at t n) t.arcs × ((arc_at t n).source ≡ final (plain_machine t q) p)
    last-arc p n A = let h = (arc_of_lem t q R.rising (final (plain_machine t q) p) n).0 A.1 in (at_mem t.arcs n no_arc h.0, h.1)

    -- a path is a walk whose idle arcs are free; its cost is at most what is read
    record CostOf (p : Path) (d : Passed) : Type 0 where
      from : ℕ
      initially : Memᴰ from t.initials
      cost : ℕ
      walk : Costly (AnyArc t.arcs) (IdleArc t q.task) from (final (plain_machine t q) p) (size p) cost
      within-read : cost ≤ read_count d

    cost_of : (p : Path) → Allowed (plain_machine t q) p → (d : Passed) → datum (plain_machine t q) p ≡ some d → CostOf p d
    cost_of (start i) A d e = record { from = get_or t.initials i 0; initially = at_mem t.initials i 0 A; cost = 0; walk = stay; within-read = omega arith }
    cost_of (more p n) A d e =
        let P = step-parts t q p n d e in
        go P.0 P.1 P.3 P.4 (idle q.task (arc_at t n)) refl (cost_of p A.0 P.0 P.2) (last-arc p n A)
      where
        go : (c : Passed) (a : Arc) → plain_at t q (arc_at t n) c ≡ some a → follow_arc q a c ≡ some d → (b : Bool) → idle q.task (arc_at t n) ≡ b → CostOf p c
            → Memᴰ (arc_at t n) t.arcs × ((arc_at t n).source ≡ final (plain_machine t q) p) → CostOf (more p n) d
        go c a z f true i C L =
            record {
              from = C.from;
              initially = C.initially;
              cost = C.cost;
              walk = freely C.walk (record { arc = arc_at t n; listed = L.0; from = L.1; to = refl; passes = i });
              within-read = omega (arith, C.within-read, (arc_law a c d f upper_side).grows, (arc_law a c d f lower_side).grows);
            }
        go c a z f false i C L =
            record {
              from = C.from;
              initially = C.initially;
              cost = suc C.cost;
              walk = paying C.walk (record { arc = arc_at t n; listed = L.0; from = L.1; to = refl; passes = refl });
              within-read = omega (arith, C.within-read, reads_more a c d f (narrow_idle t.classes (arc_at t n) (next_of q c) a z q.task i));
            }

    pub bounded : Bounded (plain_machine t q)
    bounded p A =
        let D = has-datum p A in
        let C = cost_of p A D.0 D.1 in
        let h : C.cost ≤ letters_to_read q = omega (arith, C.within-read, within p D.0 D.1 upper_side, within p D.0 D.1 lower_side) in
        omega (
          arith,
          mul-le-mul_right t.states h,
          few-edges (AnyArc t.arcs) (IdleArc t q.task) t.states t.initials any-arc (among t R always) none-idle R.initial_in C.from C.initially C.walk,
        )
