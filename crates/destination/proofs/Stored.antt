-- What a destination takes: all that is to be written, or nothing.
use Prim.Native.Nat.{ℕ, ◌≤◌, ◌<◌}
use native.Mathlib.Omega.{arith}
use mathlib.Core.Path.{◌≡◌, refl, sym, ap}
use mathlib.Core.Bool.{Bool, true, false, cond}
use mathlib.Core.Logic.{◌↔◌}
use mathlib.Core.List.{List, ◌++◌}
use lib.Dec.{leb}
use lib.ListN.{length, drop, length-append, length-drop}
use borrow.Author.Tests.{leb-true, leb-false, le-leb, lt-leb}
use Rattle.refusal.specs.declared.StateCause.TheVariants.{DestinationShort}
use Rattle.refusal.specs.declared.Refusal.{Refusal}
use Rattle.refusal.specs.declared.Refusal.TheVariants.{State}
use Rattle.std.specs.Prelude.{Ok, Err}
use Rattle.destination.specs.Stored.{stored_answer, stored_cells}

module _ {A : Type 0} (out destination : List A) where
  -- what was stored where the answer tells so many
  pub record Stored (n : ℕ) (left : List A) : Type 0 where
    pub size : n ≡ length out
    pub room : n ≤ length destination
    pub left_is : left ≡ out ++ drop n destination

  pub stored-done : (n : ℕ) → stored_answer out destination ≡ Ok n → Stored n (stored_cells out destination)
  stored-done n e = go (leb (length out) (length destination)) refl e
    where
      go : (b : Bool) → leb (length out) (length destination) ≡ b
          → cond b (Ok (length out)) (Err (State DestinationShort)) ≡ Ok n
          → Stored n (cond b (out ++ drop (length out) destination) destination)
      go true h k =
          let size : n ≡ length out = cc in
          let room : length out ≤ length destination = leb-true _ _ h in
          record { size = size; room = omega arith; left_is = ap (λ (i : ℕ). out ++ drop i destination) (sym size) }
      go false h k = cc

  pub stored-fits : length out ≤ length destination
      → (stored_answer out destination ≡ Ok (length out)) × (stored_cells out destination ≡ out ++ drop (length out) destination)
  stored-fits h =
      let e : leb (length out) (length destination) ≡ true = le-leb _ _ h in (
        ap (λ (b : Bool). cond b (Ok (length out)) (Err (State DestinationShort))) e,
        ap (λ (b : Bool). cond b (out ++ drop (length out) destination) destination) e,
      )

  pub stored_short : (stored_answer out destination ≡ Err (State DestinationShort)) ↔ (length destination < length out)
  stored_short = (λ e. to (leb (length out) (length destination)) refl e, λ h. ap (λ (b : Bool). cond b (Ok (length out)) (Err (State DestinationShort))) (lt-leb _ _ h))
    where
      to : (b : Bool) → leb (length out) (length destination) ≡ b → cond b (Ok (length out)) (Err (State DestinationShort)) ≡ Err (State DestinationShort)
          → length destination < length out
      to true h k = cc
      to false h k = leb-false _ _ h

  -- 24 is the only refusal, and leaves the destination as it was
  pub stored_refused : (r : Refusal) → stored_answer out destination ≡ Err r → (r ≡ State DestinationShort) × (stored_cells out destination ≡ destination)
  stored_refused r e = go (leb (length out) (length destination)) e
    where
      go : (b : Bool) → cond b (Ok (length out)) (Err (State DestinationShort)) ≡ Err r
          → (r ≡ State DestinationShort) × (cond b (out ++ drop (length out) destination) destination ≡ destination)
      go true k = cc
      go false k = let same : r ≡ State DestinationShort = cc in (same, refl)

  pub stored-length : length (stored_cells out destination) ≡ length destination
  stored-length = go (leb (length out) (length destination)) refl
    where
      go : (b : Bool) → leb (length out) (length destination) ≡ b
          → length (cond b (out ++ drop (length out) destination) destination) ≡ length destination
      go true h = let k : length out ≤ length destination = leb-true _ _ h in simp (length-append, length-drop) (omega arith)
      go false h = refl
