-- Calls with room enough come to the end: each that does not answer Ended makes a step.
use Prim.Native.Nat.{ℕ, zero, suc, ◌+◌, ◌*◌, ◌≤◌, ◌<◌}
use native.Mathlib.Omega.{arith}
use mathlib.Core.Path.{◌≡◌, refl, sym, ap, subst}
use mathlib.Core.Logic.{◌⊎◌, inl, inr, ⊎_elim}
use mathlib.Core.List.{List, [], ◌∷◌}
use lib.ListN.{length}
use Rattle.table_format.specs.Table.{Table}
use Rattle.machine.specs.declared.Run.{Run}
use Rattle.machine.specs.declared.Answer.{Answer}
use Rattle.machine.specs.declared.Answer.TheVariants.{Found, Paused, Ended, Refused}
use Rattle.machine.specs.Query.{Task, recognition, synthesis, analysis, upper_side, lower_side, reads, Query}
use Rattle.machine.specs.Machine.{Path, size, output, Allowed, Bounded}
use Rattle.machine.specs.Tour.{tree_size}
use Rattle.machine.specs.Call.{at_end_lem, at-reading, at-allowance, at-refusal}
use Rattle.machine.specs.Transducer.{Passed, passed, side_written, letters_to_read, machine}
use Rattle.machine.specs.Stack.{frames_in}
use Rattle.refusal.specs.Told.{ended_kind, refused_kind}
use Rattle.machine.specs.Answer.{told}
use Rattle.machine.specs.Reading.{Outcome, told_by, CallBy, no_place, goes_on}
use Rattle.machine.specs.Demand.{Lent, CallTells, Ample, AmpleCalls, none, ample, other, one_unless_ended, call_on, steps_on, run_after, steps_told, unended, LastEnds, Tells, Demand3}
use Rattle.machine.proofs.Penalties.{has-datum, written-length, passed-size}

module _ (t : Table) (q : Query) where
  -- a path writes at most a letter for each arc
  pub output-size : (p : Path) → Allowed (machine t q) p → length (output (machine t q) p) ≤ size p
  output-size p A =
      let D = has-datum t q p A in
      let u : D.0.0.up ≤ size p = passed-size t q p D.0 D.1 upper_side in
      let l : D.0.0.low ≤ size p = passed-size t q p D.0 D.1 lower_side in
      subst (λ (k : ℕ). k ≤ size p) (sym (written-length t q p D.0 D.1)) (go q.task D.0.0 u l)
    where
      go : (k : Task) (d : Passed) → d.up ≤ size p → d.low ≤ size p → side_written (reads k upper_side) (passed d upper_side) + side_written (reads k lower_side) (passed d lower_side) ≤ size p
      go recognition d u l = omega arith
      go synthesis d u l = omega arith
      go analysis d u l = omega arith

  -- so one letter fewer than (letters to read + 1) × states is enough
  enough-letters : Bounded (machine t q) → (n : ℕ) → (letters_to_read q + 1) * t.states ≤ n + 1 → (p : Path) → Allowed (machine t q) p → length (output (machine t q) p) ≤ n
  enough-letters B n h p A = omega (arith, output-size p A, B p A)

  pub ample-by_size : Bounded (machine t q) → (x : Lent) → (letters_to_read q + 1) * t.states ≤ frames_in x.stack → 0 < x.allowance → (letters_to_read q + 1) * t.states ≤ length x.buffer + 1 → Ample t q x
  ample-by_size B x f n l = record { frames = f; steps = n; letters = λ p A e. enough-letters B (length x.buffer) l p A }

  progress-by : (r : Run) (x : Lent) {o : Outcome} → Ample t q x → CallBy t q r x.stack x.allowance x.buffer o → ((told_by o).kind ≡ refused_kind → ⊥) → (0 < (told_by o).steps) ⊎ ((told_by o).kind ≡ ended_kind)
  progress-by r x A (no_place f) N = absurd (N refl)
  progress-by r x A (goes_on I (at_end_lem s k z)) N = inr refl
  progress-by r x A (goes_on I (at-reading o s k z)) N = inl (omega arith)
  progress-by r x A (goes_on I (at-allowance s z)) N = inl A.steps
  progress-by r x A (goes_on I (at-refusal c s k z)) N = absurd (N refl)

  -- a call with room enough makes a step or answers Ended
  pub progress : (n : ℕ) (r : Run) (x : Lent) (o : Outcome) → Ample t q x → CallTells t q n r x o → (0 < (told_by o).steps) ⊎ ((told_by o).kind ≡ ended_kind)
  progress n r x o A T = progress-by r x A T.by-steps none
    where
      none : (told_by o).kind ≡ refused_kind → ⊥
      none e = ⊎_elim (T.never-short A.frames).0 (⊎_elim (T.never-short A.frames).1 (T.never-full A.letters)) (T.refusals e)

  one_at_most : (a : Answer) → one_unless_ended (told a).kind ≤ 1
  one_at_most (Found steps length) = omega arith
  one_at_most (Paused steps) = omega arith
  one_at_most (Ended steps) = omega arith
  one_at_most (Refused steps refusal) = omega arith

  -- no more calls have room enough than there are
  pub no_more : {m : ℕ} {xs : List Lent} → AmpleCalls t q m xs → m ≤ length xs
  no_more none = omega arith
  no_more (ample A C) = omega (arith, no_more C)
  no_more (other C) = omega (arith, no_more C)

  module _ (upper lower : List ℕ) where
    -- where n steps were told before and m calls have room enough: as many steps are told as calls with room enough do not answer Ended
    steps-enough : (xs : List Lent) (n m : ℕ) (r : Run) → Tells upper lower t q n r xs → AmpleCalls t q m xs → m + unended upper lower r xs ≤ length xs + steps_told upper lower r xs
    steps-enough [] n zero r T none = omega arith
    steps-enough [] n (suc m) r T x4 = elim x4 [ ]
    steps-enough (x ∷ xs) n (suc m) r T (ample A C) =
        let k : one_unless_ended (told_by (call_on upper lower r x)).kind ≤ steps_on upper lower r x = ⊎_elim (λ h. omega (arith, one_at_most (call_on upper lower r x).called.answer)) (λ e. omega (arith, ap one_unless_ended e))
        (progress n r x (call_on upper lower r x) A T.0) in
        omega (arith, steps-enough xs (n + steps_on upper lower r x) m (run_after upper lower r x) T.1 C)
    steps-enough (x ∷ xs) n m r T (other C) =
        omega (arith, one_at_most (call_on upper lower r x).called.answer, steps-enough xs (n + steps_on upper lower r x) m (run_after upper lower r x) T.1 C)

    -- where n steps are the whole tree, every further call answers Ended, and so the last
    still-ends : (x : Lent) (xs : List Lent) (n : ℕ) (r : Run) → Tells upper lower t q n r (x ∷ xs) → n + steps_told upper lower r (x ∷ xs) ≤ tree_size (machine t q) → tree_size (machine t q) ≤ n
        → LastEnds upper lower r (x ∷ xs)
    still-ends x [] n r T i l = T.0.ended_is.1 (omega arith)
    still-ends x (y ∷ ys) n r T i l = still-ends y ys (n + steps_on upper lower r x) (run_after upper lower r x) T.1 (omega arith) (omega arith)

    -- where more calls have room enough than the tree has entries left, the last call answers Ended
    last-ends : (xs : List Lent) (n m : ℕ) (r : Run) → Tells upper lower t q n r xs → AmpleCalls t q m xs → n + steps_told upper lower r xs ≤ tree_size (machine t q) → tree_size (machine t q) < n + m
        → LastEnds upper lower r xs
    last-ends [] n m r T C i l = absurd (omega (arith, no_more C))
    last-ends (x ∷ []) n m r T C i l = T.0.ended_is.1 (omega (arith, no_more C))
    last-ends (x ∷ y ∷ ys) n (suc m) r T (ample A C) i l =
        ⊎_elim (λ h. last-ends (y ∷ ys) (n + steps_on upper lower r x) m (run_after upper lower r x) T.1 C (omega arith) (omega arith))
        (λ e. still-ends y ys (n + steps_on upper lower r x) (run_after upper lower r x) T.1 (omega arith) (omega (arith, T.0.ended_is.0 e)))
        (progress n r x (call_on upper lower r x) A T.0)
    last-ends (x ∷ y ∷ ys) n m r T (other C) i l = last-ends (y ∷ ys) (n + steps_on upper lower r x) m (run_after upper lower r x) T.1 C (omega arith) (omega arith)

    module _ (r : Run) (xs : List Lent) (D : Demand3 upper lower t q r xs) (m : ℕ) (A : AmpleCalls t q m xs) where
      pub few-unended : m + unended upper lower r xs ≤ length xs + tree_size (machine t q)
      few-unended = omega (arith, steps-enough xs 0 m r D.tells A, D.inside-tree)

      pub comes-to-end : tree_size (machine t q) < m → LastEnds upper lower r xs
      comes-to-end h = last-ends xs 0 m r D.tells A (omega (arith, D.inside-tree)) (omega arith)
