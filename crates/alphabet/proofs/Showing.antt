-- Text shown character by character, from the front of a destination.
use Prim.Native.Nat.{ℕ, ◌+◌, ◌≤◌, ◌<◌}
use native.Mathlib.Omega.{arith}
use native.Mathlib.Nat.{zero-add}
use mathlib.Core.Path.{◌≡◌, refl, sym, ap, ◌∙◌}
use mathlib.Core.List.{List, ◌++◌}
use lib.ListN.{length, get_or, drop}
use lib.Seq.{sets, sets-eq, length-sets}
use Rattle.table_format.proofs.Stores.{sets-append}
use Rattle.alphabet.specs.Shown.{shown_as, shown}
use Rattle.alphabet.proofs.Shown.{shown-next, shown-end, next-length}

-- k characters of text are shown: to store the others from `at` on gives what storing all of it gives
pub record Showing (text old destination : List ℕ) (at k : ℕ) : Type 0 where
  pub within : k ≤ length text
  pub same : length destination ≡ length old
  pub place : at + length (shown (drop k text)) ≡ length (shown text)
  pub stored : sets destination at (shown (drop k text)) ≡ sets old 0 (shown text)

pub showing_none : (text old : List ℕ) → Showing text old old 0 0
showing_none text old = record { within = omega arith; same = refl; place = zero-add (length (shown text)); stored = refl }

module _ (text old destination : List ℕ) (at k : ℕ) (S : Showing text old destination at k) where
  pub showing_more : k < length text → (left : List ℕ) (to : ℕ) → to ≡ at + length (shown_as (get_or text k 0)) → left ≡ sets destination at (shown_as (get_or text k 0))
      → Showing text old left to (k + 1)
  showing_more h left to e f =
      let c = shown_as (get_or text k 0) in
      record {
        within = omega arith;
        same = ap length f ∙ length-sets destination at c ∙ S.same;
        place = omega (arith, S.place, next-length text k h);
        stored =
            ap (λ (l : List ℕ). sets l to (shown (drop (k + 1) text))) f
            ∙ sets-append destination at to c (shown (drop (k + 1) text)) e
            ∙ ap (sets destination at) (sym (shown-next text k h))
            ∙ S.stored;
      }

  pub showing_done : length text ≤ k → length (shown text) ≤ length old → (at ≡ length (shown text)) × (destination ≡ shown text ++ drop (length (shown text)) old)
  showing_done h room =
      let none = shown-end text k h in (
        omega (arith, S.place, ap length none),
        ap (sets destination at) (sym none)
            ∙ S.stored
            ∙ sets-eq (shown text) old 0 (omega arith)
            ∙ ap (λ (n : ℕ). shown text ++ drop n old) (zero-add (length (shown text))),
      )
