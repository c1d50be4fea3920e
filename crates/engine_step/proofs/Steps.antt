-- A step of the machine by what the code computes: the move, the run after it, and the answer of a push.
use Prim.Native.Nat.{ℕ, zero, suc, pred, ◌+◌, ◌-◌, ◌<◌, ◌≤◌}
use native.Mathlib.Omega.{arith}
use mathlib.Core.Path.{◌≡◌, refl, sym, ap, subst, ◌∙◌}
use mathlib.Core.Bool.{Bool, true, false, cond}
use mathlib.Core.Option.{Option, none, some}
use mathlib.Core.List.{List}
use lib.Dec.{ltb}
use lib.ListN.{length, get_or}
use borrow.Author.Tests.{ltb-false}
use Rattle.table_format.specs.Table.{Table}
use Rattle.refusal.specs.declared.StateCause.{StateCause}
use Rattle.refusal.specs.declared.StateCause.TheVariants.{StackFull, OutputFull}
use Rattle.refusal.specs.declared.Refusal.TheVariants.{State}
use Rattle.machine.specs.Query.{Query}
use Rattle.machine.specs.Machine.{accepts, output}
use Rattle.machine.specs.Frames as F
use Rattle.machine.specs.Frames.{Held, frames_of, path_of, entering, untried}
use Rattle.machine.specs.Step as S
use Rattle.machine.specs.Step.{Stepped, moves, finds, refuses, tried_of, try_arc, move_top, move_start, move_by, move, effect, arrived, offered, pushed, made, step}
use Rattle.machine.specs.Transducer.{Passed, nothing_passed, machine}
use Rattle.machine.specs.Stack.{room_in, look_at, put_at, store}
use Rattle.machine.proofs.Held.{RoomFor, move-good}
use Rattle.machine.specs.Place.{Good}
use Rattle.machine.proofs.Stack.{store_laws}
use Rattle.engine_step.specs.declared.Move.{Move}
use Rattle.engine_step.specs.declared.Move.TheVariants.{Drops, Skips, Pushes}
use Rattle.engine_push.specs.declared.NewFrame.{NewFrame}
use Rattle.std.specs.Prelude.{Some, None, Ok, Err}
use Rattle.engine_push.specs.Pushing.{verdict_of}
use Rattle.engine_step.specs.Setting.{held}
use Rattle.engine_step.specs.Stepping.{move_as, after_push}

-- The run after a move, and the step, by the move that the code tells.

module _ (t : Table) (q : Query) where
  abbrev pub effect_as : ℕ → ℕ → List ℕ → Move → Held (List ℕ)
  effect_as n d c Drops = held n (pred d) c
  effect_as n d c Skips = held n d (put_at c (pred d) (tried_of (look_at c (pred d))))
  effect_as n d c (Pushes e) = after_push t q d c e

  abbrev pub made_as : ℕ → ℕ → List ℕ → Move → Held (List ℕ) → Stepped (List ℕ)
  made_as l d c Drops e = moves e
  made_as l d c Skips e = moves e
  made_as l d c (Pushes x) e = pushed (machine t q) store (ltb d (room_in c)) l e

  module _ (n : ℕ) (c : List ℕ) where
    abbrev by : ℕ → S.Move (F.Frame (Passed × ℕ))
    by d = move_by (machine t q) n (frames_of store c d)

    effect-start : (k : ℕ) → 0 < k → effect (machine t q) store (move_start (machine t q) n k) (held n 0 c) ≡ effect_as n 0 c (move_as n 0 (move_start (machine t q) n k))
    effect-start zero h = absurd (omega arith)
    effect-start (suc k) h = ap (λ (m : ℕ). held m 1 (put_at c 0 (entering (machine t q) (get_or t.initials n 0) (nothing_passed, 0)))) (let e : suc n ≡ n + 1 = omega arith in e)

    effect-arc : (d : ℕ) (o : Option (Passed × ℕ)) → effect (machine t q) store (try_arc (machine t q) (look_at c d) o) (held n (suc d) c) ≡ effect_as n (suc d) c (move_as n (suc d) (try_arc (machine t q) (look_at c d) o))
    effect-arc d none = refl
    effect-arc d (some x) = refl

    effect-top : (d k : ℕ) → effect (machine t q) store (move_top (machine t q) (look_at c d) k) (held n (suc d) c) ≡ effect_as n (suc d) c (move_as n (suc d) (move_top (machine t q) (look_at c d) k))
    effect-top d zero = refl
    effect-top d (suc k) = effect-arc d ((machine t q).follow (look_at c d).next (look_at c d).datum)

    effect-by : (d : ℕ) → (d ≡ 0 → n < length t.initials) → effect (machine t q) store (by d) (held n d c) ≡ effect_as n d c (move_as n d (by d))
    effect-by zero h = effect-start (length t.initials - n) (let k : n < length t.initials = h refl in omega arith)
    effect-by (suc d) h = effect-top d (untried (machine t q) (look_at c d))

    not-over : (d : ℕ) → (d ≡ 0 → n < length t.initials) → by d ≡ S.over → ⊥
    not-over zero h = by-start (length t.initials - n) (let k : n < length t.initials = h refl in omega arith)
      where
        by-start : (k : ℕ) → 0 < k → move_start (machine t q) n k ≡ S.over → ⊥
        by-start zero h e = omega arith
        by-start (suc k) h e = let z : ◌≡◌ {A = ℕ} 0 1 = cc in omega arith
    not-over (suc d) h = by-top (untried (machine t q) (look_at c d))
      where
        by-arc : (o : Option (Passed × ℕ)) → try_arc (machine t q) (look_at c d) o ≡ S.over → ⊥
        by-arc none e = let z : ◌≡◌ {A = ℕ} 0 1 = cc in omega arith
        by-arc (some x) e = let z : ◌≡◌ {A = ℕ} 0 1 = cc in omega arith

        by-top : (k : ℕ) → move_top (machine t q) (look_at c d) k ≡ S.over → ⊥
        by-top zero e = let z : ◌≡◌ {A = ℕ} 0 1 = cc in omega arith
        by-top (suc k) e = by-arc ((machine t q).follow (look_at c d).next (look_at c d).datum) e

    made_by : (l d : ℕ) (m : S.Move (F.Frame (Passed × ℕ))) → (m ≡ S.over → ⊥) → made (machine t q) store l (held n d c) m ≡ made_as l d c (move_as n d m) (effect (machine t q) store m (held n d c))
    made_by l d S.over h = absurd (h refl)
    made_by l d S.drops h = refl
    made_by l d (S.begins g) h = refl
    made_by l d (S.skips f) h = refl
    made_by l d (S.pushes f g) h = refl

    module _ (d : ℕ) (h : d ≡ 0 → n < length t.initials) where
      pub effect_as_lem : effect (machine t q) store (move (machine t q) store (held n d c)) (held n d c) ≡ effect_as n d c (move_as n d (move (machine t q) store (held n d c)))
      unfolding move
      effect_as_lem = effect-by d h

      pub move-there : move (machine t q) store (held n d c) ≡ S.over → ⊥
      unfolding move
      move-there = not-over d h

      pub step_as : (l : ℕ) (r : Move) → r ≡ move_as n d (move (machine t q) store (held n d c)) → step (machine t q) store l (held n d c) ≡ made_as l d c r (effect_as n d c r)
      unfolding step move
      step_as l r e =
          made_by l d (by d) (not-over d h) ∙ ap (made_as l d c (move_as n d (by d))) (effect-by d h) ∙ ap (λ (x : Move). made_as l d c x (effect_as n d c x)) (sym e)

      room_for : (N : ℕ) → d < N → (m : S.Move (F.Frame (Passed × ℕ))) → RoomFor N d m
      room_for N k S.over = tt
      room_for N k S.drops = tt
      room_for N k (S.begins g) = k
      room_for N k (S.skips f) = tt
      room_for N k (S.pushes f g) = k

      -- the run after a push that finds room is a place in a search
      pub push_good : (N : ℕ) → Good (machine t q) store N (held n d c) → d < N → (x : NewFrame) → Pushes x ≡ move_as n d (move (machine t q) store (held n d c))
          → Good (machine t q) store N (after_push t q d c x)
      push_good N G h x e =
          subst (Good (machine t q) store N) (effect_as_lem ∙ ap (effect_as n d c) (sym e)) (move-good (machine t q) store store_laws N (held n d c) G (room_for N h (move (machine t q) store (held n d c))))

-- What a push comes to, by the verdict: the run after it, whether its path accepts, and its output.

module _ (t : Table) (q : Query) (e : Held (List ℕ)) (l w : ℕ) (a : Bool) where
  abbrev word : List ℕ
  word = output (machine t q) (path_of (machine t q) store e)

  -- what the counts tell of the new path
  abbrev pub PathIs : Type 0
  PathIs = (accepts (machine t q) (path_of (machine t q) store e) ≡ a) × (length word ≡ w)

  offer : (b : Bool) → length word ≡ w → ltb l w ≡ b → ltb l (length word) ≡ b
  offer b k h = ap (ltb l) k ∙ h

  pub refused-is : (b : Bool) → (b ≡ true → PathIs) → (cause : StateCause) → Err cause ≡ verdict_of b a l w → pushed (machine t q) store b l e ≡ refuses (State cause)
  refused-is false facts cause h = let k : StackFull ≡ cause = cc in ap (λ (x : StateCause). refuses (State x)) k
  refused-is true facts cause h = ap (λ (v : Bool). arrived (machine t q) store v l e) (facts refl).0 ∙ by_accept a h
    where
      by_length : (v : Bool) → ltb l w ≡ v → Err cause ≡ cond v (Err OutputFull) (Ok (Some w)) → offered (machine t q) store (ltb l (length word)) word e ≡ refuses (State cause)
      by_length true k h = ap (λ (v : Bool). offered (machine t q) store v word e) (offer true (facts refl).1 k) ∙ (let z : OutputFull ≡ cause = cc in ap (λ (x : StateCause). refuses (State x)) z)
      by_length false k h = absurd (let z : ◌≡◌ {A = ℕ} 0 1 = cc in omega arith)

      by_accept : (v : Bool) → Err cause ≡ verdict_of true v l w → arrived (machine t q) store v l e ≡ refuses (State cause)
      by_accept false h = absurd (let z : ◌≡◌ {A = ℕ} 0 1 = cc in omega arith)
      by_accept true h = by_length (ltb l w) refl h

  pub enters_are : (b : Bool) → (b ≡ true → PathIs) → Ok None ≡ verdict_of b a l w → (b ≡ true) × (pushed (machine t q) store b l e ≡ moves e)
  enters_are false facts h = absurd (let z : ◌≡◌ {A = ℕ} 0 1 = cc in omega arith)
  enters_are true facts h = (refl, ap (λ (v : Bool). arrived (machine t q) store v l e) (facts refl).0 ∙ by_accept a h)
    where
      by_length : (v : Bool) → Ok None ≡ cond v (Err OutputFull) (Ok (Some w)) → ⊥
      by_length true h = let z : ◌≡◌ {A = ℕ} 0 1 = cc in omega arith
      by_length false h = let z : ◌≡◌ {A = ℕ} 0 1 = cc in omega arith

      by_accept : (v : Bool) → Ok None ≡ verdict_of true v l w → arrived (machine t q) store v l e ≡ moves e
      by_accept false h = refl
      by_accept true h = absurd (by_length (ltb l w) h)

  pub record Found (b : Bool) (k : ℕ) : Type 0 where
    pub has_room : b ≡ true
    pub counted : k ≡ length word
    pub has_space : k ≤ l
    pub told : pushed (machine t q) store b l e ≡ finds e word

  pub accepts-are : (b : Bool) → (b ≡ true → PathIs) → (k : ℕ) → Ok (Some k) ≡ verdict_of b a l w → Found b k
  accepts-are false facts k h = absurd (let z : ◌≡◌ {A = ℕ} 0 1 = cc in omega arith)
  accepts-are true facts k h = by_accept a refl h
    where
      by_length : (v : Bool) → ltb l w ≡ v → a ≡ true → Ok (Some k) ≡ cond v (Err OutputFull) (Ok (Some w)) → Found true k
      by_length true z y h = absurd (let z : ◌≡◌ {A = ℕ} 0 1 = cc in omega arith)
      by_length false z y h =
          let kw : k ≡ w = cc in
          record {
            has_room = refl;
            counted = kw ∙ sym (facts refl).1;
            has_space = omega (arith, ltb-false l w z);
            told = ap (λ (v : Bool). arrived (machine t q) store v l e) ((facts refl).0 ∙ y) ∙ ap (λ (v : Bool). offered (machine t q) store v word e) (offer false (facts refl).1 z);
          }

      by_accept : (v : Bool) → a ≡ v → Ok (Some k) ≡ verdict_of true v l w → Found true k
      by_accept false y h = absurd (let z : ◌≡◌ {A = ℕ} 0 1 = cc in omega arith)
      by_accept true y h = by_length (ltb l w) refl y h
