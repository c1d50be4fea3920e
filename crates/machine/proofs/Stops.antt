-- The steps of a call and where it stops: the loop is the one solution of Stops, for any machine and any store.
use Prim.Native.Nat.{ℕ, zero, suc, ◌+◌, ◌-◌, ◌≤◌}
use native.Mathlib.Omega.{arith}
use mathlib.Core.Path.{◌≡◌, refl, sym, ap, subst, ◌∙◌}
use mathlib.Core.Logic.{◌⊎◌, inl, inr}
use mathlib.Core.Bool.{Bool, true, false}
use mathlib.Core.List.{List}
use lib.ListN.{length}
use lib.Dec.{ltb}
use Rattle.refusal.specs.declared.Refusal.{Refusal}
use Rattle.refusal.specs.declared.Refusal.TheVariants.{State}
use Rattle.refusal.specs.declared.StateCause.TheVariants.{StackFull, OutputFull}
use Rattle.machine.specs.Machine.{Machine, accepts, output}
use Rattle.machine.specs.Frames.{Frame, Store, Held, path_of}
use Rattle.machine.specs.Place.{Good}
use Rattle.machine.specs.Step.{Move, over, drops, begins, skips, pushes, Stepped, ends, moves, finds, refuses, move_start, move, effect, offered, arrived, pushed, made, step}
use Rattle.machine.specs.Call.{found, paused, ended, refused, Replied, still, one_more, tell, spent, advance, Steps, here, moved, AtEnd, Stops, at_end_lem, at-reading, at-allowance, at-refusal}
use Rattle.machine.proofs.Frames.{StoreLaws}
use Rattle.machine.proofs.Held.{Possible, possible, move_start_lem, GoodStep, step-good}
use Rattle.machine.proofs.Turn.{plus, plus_none, ended-turn, paused-turn, step-turn}

module _ (M : Machine) (S : Store (Frame M.D)) where
  -- THE END.

  pub over-end : (h : Held S.Cells) → move M S h ≡ over → AtEnd M S h
  over-end h e =
      let b : h.depth ≡ 0 = bottom h.depth (subst (λ (m : Move (Frame M.D)). Possible h.depth m) e (possible M S h)) in
      (b, none_left (length M.initials - h.started) refl (sym (move_start_lem M S h b) ∙ e))
    where
      bottom : (d : ℕ) → Possible {F = Frame M.D} d over → d ≡ 0
      bottom zero p = refl
      bottom (suc d) p = absurd p

      none_left : (k : ℕ) → length M.initials - h.started ≡ k → move_start M h.started k ≡ over → length M.initials ≤ h.started
      none_left zero z y = omega arith
      none_left (suc k) z y = absurd (let x : ◌≡◌ {A = ℕ} 0 1 = cc in omega arith)

  pub end-over : (h : Held S.Cells) → AtEnd M S h → move M S h ≡ over
  end-over h E = move_start_lem M S h E.0 ∙ ap (move_start M h.started) (let z : length M.initials - h.started ≡ 0 = omega (arith, E.1) in z)

  -- ONE STEP: it ends at the end alone, and gives 22 and 23 alone.

  abbrev pub FullOnly : Refusal → Type 0
  FullOnly c = (c ≡ State StackFull) ⊎ (c ≡ State OutputFull)

  module _ (E : Type 0) where
    abbrev Kinds : Stepped S.Cells → Type 0
    Kinds ends = E
    Kinds (moves d) = Unit {0}
    Kinds (finds d o) = Unit {0}
    Kinds (refuses c) = FullOnly c

    offered_kinds : (b : Bool) (o : List ℕ) (d : Held S.Cells) → Kinds (offered M S b o d)
    offered_kinds true o d = inr refl
    offered_kinds false o d = tt

    arrived_kinds : (b : Bool) (l : ℕ) (d : Held S.Cells) → Kinds (arrived M S b l d)
    arrived_kinds true l d = offered_kinds (ltb l (length (output M (path_of M S d)))) (output M (path_of M S d)) d
    arrived_kinds false l d = tt

    pushed_kinds : (b : Bool) (l : ℕ) (d : Held S.Cells) → Kinds (pushed M S b l d)
    pushed_kinds true l d = arrived_kinds (accepts M (path_of M S d)) l d
    pushed_kinds false l d = inl refl

  made_kinds : (l : ℕ) (h : Held S.Cells) (m : Move (Frame M.D)) → Kinds (m ≡ over) (made M S l h m)
  made_kinds l h over = refl
  made_kinds l h drops = tt
  made_kinds l h (begins g) = pushed_kinds (begins g ≡ over) (ltb h.depth (S.room h.cells)) l (effect M S (begins g) h)
  made_kinds l h (skips f) = tt
  made_kinds l h (pushes f g) = pushed_kinds (pushes f g ≡ over) (ltb h.depth (S.room h.cells)) l (effect M S (pushes f g) h)

  pub step-ends : (l : ℕ) (h : Held S.Cells) → step M S l h ≡ ends → AtEnd M S h
  unfolding step
  step-ends l h e = over-end h (subst (Kinds (move M S h ≡ over)) e (made_kinds l h (move M S h)))

  pub step-full : (l : ℕ) (h : Held S.Cells) (c : Refusal) → step M S l h ≡ refuses c → FullOnly c
  unfolding step
  step-full l h c e = subst (Kinds (move M S h ≡ over)) e (made_kinds l h (move M S h))

  module _ (l : ℕ) where
    -- STEPS lead to one place, and keep a place in a search.

    pub steps-one : {k : ℕ} {h d e : Held S.Cells} → Steps M S l k h d → Steps M S l k h e → d ≡ e
    steps-one here here = refl
    steps-one {e = e} (moved {k = k} {e = a} p s) (moved {e = b} r u) = let z : a ≡ b = cc in steps-one {e = e} s (subst (λ (x : Held S.Cells). Steps M S l k x e) (sym z) u)

    pub steps-good : StoreLaws S → (N : ℕ) {k : ℕ} {h d : Held S.Cells} → Steps M S l k h d → Good M S N h → Good M S N d
    steps-good L N here G = G
    steps-good L N (moved {h = h} p s) G = steps-good L N s (subst (GoodStep M S L N l) p (step-good M S L N l h G))

    pub stops-good : StoreLaws S → (N : ℕ) {n : ℕ} {h : Held S.Cells} {r : Replied S.Cells} → Stops M S l n h r → Good M S N h → Good M S N r.after
    stops-good L N (at_end_lem s k z) G = steps-good L N s G
    stops-good L N (at-reading {e = e} o s k z) G = (subst (GoodStep M S L N l) z (step-good M S L N l e (steps-good L N s G))).0
    stops-good L N (at-allowance s z) G = steps-good L N s G
    stops-good L N (at-refusal c s k z) G = steps-good L N s G

    -- THE LOOP stops as Stops says.

    one_later : {n : ℕ} {h d : Held S.Cells} {r : Replied S.Cells} → step M S l h ≡ moves d → Stops M S l n d r → Stops M S l (suc n) h (one_more r)
    one_later e (at_end_lem s k z) = at_end_lem (moved e s) (omega arith) z
    one_later e (at-reading o s k z) = at-reading o (moved e s) (omega arith) z
    one_later e (at-allowance s z) = at-allowance (moved e s) z
    one_later e (at-refusal c s k z) = at-refusal c (moved e s) (omega arith) z

    pub advance-stops : (n : ℕ) (h : Held S.Cells) → Stops M S l n h (advance M S l n h)
    unfolding advance
    advance-stops zero h = go (move M S h) refl
      where
        not-over : (m : Move (Frame M.D)) → move M S h ≡ m → (m ≡ over → ⊥) → AtEnd M S h → ⊥
        not-over m e f E = f (sym e ∙ end-over h E)

        go : (m : Move (Frame M.D)) → move M S h ≡ m → Stops M S l 0 h (still (spent m) h)
        go over e = at_end_lem here (omega arith) (over-end h e)
        go drops e = at-allowance here (not-over drops e (λ z. let y : ◌≡◌ {A = ℕ} 0 1 = cc in omega arith))
        go (begins g) e = at-allowance here (not-over (begins g) e (λ z. let y : ◌≡◌ {A = ℕ} 0 1 = cc in omega arith))
        go (skips f) e = at-allowance here (not-over (skips f) e (λ z. let y : ◌≡◌ {A = ℕ} 0 1 = cc in omega arith))
        go (pushes f g) e = at-allowance here (not-over (pushes f g) e (λ z. let y : ◌≡◌ {A = ℕ} 0 1 = cc in omega arith))
    advance-stops (suc n) h = go (step M S l h) refl (λ d. advance-stops n d)
      where
        go : (s : Stepped S.Cells) → step M S l h ≡ s → ((d : Held S.Cells) → Stops M S l n d (advance M S l n d)) → Stops M S l (suc n) h (tell h s (λ d. advance M S l n d))
        go ends e R = at_end_lem here (omega arith) (step-ends l h e)
        go (moves d) e R = one_later e (R d)
        go (finds d o) e R = at-reading o here (omega arith) e
        go (refuses c) e R = at-refusal c here (omega arith) e

    -- And nothing else does.

    advance-steps : {k : ℕ} {h d : Held S.Cells} → Steps M S l k h d → (n m : ℕ) → n ≡ k + m → advance M S l n h ≡ plus k (advance M S l m d)
    advance-steps {h = h} here n m e = ap (λ (j : ℕ). advance M S l j h) (let z : n ≡ m = omega arith in z) ∙ sym (plus_none (advance M S l m h))
    advance-steps {h = h} (moved {k = k} {e = a} {d = d} p s) n m e =
        ap (λ (j : ℕ). advance M S l j h) (let z : n ≡ suc (k + m) = omega arith in z)
        ∙ step-turn M S l h (k + m) (moves a) p
        ∙ ap one_more (advance-steps s (k + m) m refl)
        ∙ ap (λ (j : ℕ). record { reply = (advance M S l m d).reply; steps = j; after = (advance M S l m d).after }) (let z : suc (k + (advance M S l m d).steps) ≡ suc k + (advance M S l m d).steps = omega arith in z)

    -- k steps, then what is told where they lead, with some steps left
    then : {n k : ℕ} {h d : Held S.Cells} → Steps M S l k h d → (m : ℕ) → n ≡ k + m → (r : Replied S.Cells) → advance M S l m d ≡ r → (j : ℕ) → k + r.steps ≡ j
        → record { reply = r.reply; steps = j; after = r.after } ≡ advance M S l n h
    then {n} {k} s m e r x j y = sym (advance-steps s n m e ∙ ap (plus k) x ∙ ap (λ (i : ℕ). record { reply = r.reply; steps = i; after = r.after }) y)

    pub stops-advance : {n : ℕ} {h : Held S.Cells} {r : Replied S.Cells} → Stops M S l n h r → r ≡ advance M S l n h
    stops-advance {n} (at_end_lem {k} {d} s b z) = then s (n - k) (omega arith) (still ended d) (ended-turn M S l d (n - k) (end-over d z)) k (omega arith)
    stops-advance {n} (at-reading {k} {e} {d} o s b z) =
        let i : n ≡ k + suc (n - suc k) = omega arith in
        then s (suc (n - suc k)) i (record { reply = found o; steps = 1; after = d }) (step-turn M S l e (n - suc k) (finds d o) z) (suc k) (omega arith)
    stops-advance {n} (at-allowance {d} s z) = then s 0 (omega arith) (still paused d) (paused-turn M S l d (λ e. z (over-end d e))) n (omega arith)
    stops-advance {n} (at-refusal {k} {d} c s b z) =
        let i : n ≡ k + suc (n - suc k) = omega arith in then s (suc (n - suc k)) i (still (refused c) d) (step-turn M S l d (n - suc k) (refuses c) z) k (omega arith)

    pub stops-one : {n : ℕ} {h : Held S.Cells} {r u : Replied S.Cells} → Stops M S l n h r → Stops M S l n h u → r ≡ u
    stops-one a b = stops-advance a ∙ sym (stops-advance b)
