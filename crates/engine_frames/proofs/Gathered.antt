-- The output gathered frame by frame.
use Prim.Native.Nat.{ℕ, zero, suc, pred, ◌+◌, ◌-◌, ◌<◌, ◌≤◌}
use native.Mathlib.Omega.{arith}
use mathlib.Core.Path.{◌≡◌, refl, sym, ap, ap₂, subst, ◌∙◌}
use mathlib.Core.List.{List, [], ◌∷◌, ◌++◌, append_assoc, append-nil}
use lib.ListN.{length, get_or, set, drop, length-append, length-drop}
use lib.Seq.{drop-cons, set_at}
use Rattle.table_format.specs.declared.Arc as Held
use Rattle.table_format.specs.Cells.{arc_held, arc_of, arc_said}
use Rattle.machine.specs.Stack.{look_at}
use Rattle.engine_frames.specs.declared.Setup.{Setup}
use Rattle.engine_frames.specs.declared.Frame.{Frame}
use Rattle.engine_frames.specs.Frames.{frame_of}
use Rattle.engine_frames.specs.Sides.{passed_in}
use Rattle.engine_frames.specs.Output.{letter_in, written_letter, letter_at, letters_up_to}

-- what the buffer holds after n letters
abbrev pub Filled : List ℕ → List ℕ → ℕ → List ℕ → Type 0
Filled letters buffer k out = (k ≡ length letters) × (out ≡ letters ++ drop k buffer)

module _ (s : Setup) (arcs upper lower stack buffer : List ℕ) where
  abbrev up_to : ℕ → List ℕ
  up_to i = letters_up_to s arcs upper lower stack i

  one_more_lem : (i : ℕ) → up_to (i + 1) ≡ up_to i ++ letter_in (letter_at s arcs upper lower stack i)
  unfolding letters_up_to
  one_more_lem i = ap up_to (let e : i + 1 ≡ suc i = omega arith in e)

  pub up_to-grows : (i n : ℕ) → i ≤ n → length (up_to i) ≤ length (up_to n)
  unfolding letters_up_to
  up_to-grows i zero h = let e : i ≡ 0 = omega arith in subst (λ (j : ℕ). length (up_to j) ≤ 0) (sym e) (omega arith)
  up_to-grows i (suc n) h = by_cases (suc n - i) refl (λ k. up_to-grows i n k)
    where
      by_cases : (k : ℕ) → suc n - i ≡ k → (i ≤ n → length (up_to i) ≤ length (up_to n)) → length (up_to i) ≤ length (up_to (suc n))
      by_cases zero e r = let z : i ≡ suc n = omega arith in subst (λ (j : ℕ). length (up_to i) ≤ length (up_to j)) z (omega arith)
      by_cases (suc k) e r = omega (arith, r (omega arith), length-append (up_to n) (letter_in (letter_at s arcs upper lower stack n)))

  pub filled_none : Filled (up_to 0) buffer 0 buffer
  unfolding letters_up_to
  filled_none = (refl, refl)

  pub no_letter-there : (i k m : ℕ) (out o : List ℕ) → Filled (up_to i) buffer k out → letter_at s arcs upper lower stack i ≡ 0 → m ≡ k → o ≡ out → Filled (up_to (i + 1)) buffer m o
  no_letter-there i k m out o F e h z = (h ∙ F.0 ∙ ap length (sym same), z ∙ F.1 ∙ ap₂ (λ (l : List ℕ) (n : ℕ). l ++ drop n buffer) (sym same) (sym h))
    where
      same : up_to (i + 1) ≡ up_to i
      same = one_more_lem i ∙ ap (λ (x : ℕ). up_to i ++ letter_in x) e ∙ append-nil (up_to i)

  pub letter-there : (i k x m : ℕ) (out o : List ℕ) → Filled (up_to i) buffer k out → letter_at s arcs upper lower stack i ≡ x → (x ≡ 0 → ⊥) → k < length buffer → m ≡ k + 1 → o ≡ set out k x
      → Filled (up_to (i + 1)) buffer m o
  letter-there i k zero m out o F e h b y z = absurd (h refl)
  letter-there i k (suc x) m out o F e h b y z = (
    omega (arith, ap length more, length-append (up_to i) (suc x ∷ [])),
    z ∙ ap (λ (l : List ℕ). set l k (suc x)) (F.1 ∙ ap (λ (l : List ℕ). up_to i ++ l) (drop-cons buffer k 0 b))
        ∙ set_at (up_to i) (get_or buffer k 0) (drop (suc k) buffer) (suc x) k (sym F.0)
        ∙ sym (append_assoc (up_to i) (suc x ∷ []) (drop (suc k) buffer))
        ∙ ap₂ (λ (l : List ℕ) (n : ℕ). l ++ drop n buffer) (sym more) (let w : suc k ≡ m = omega arith in w),
  )
    where
      more : up_to (i + 1) ≡ up_to i ++ (suc x ∷ [])
      more = one_more_lem i ∙ ap (λ (y : ℕ). up_to i ++ letter_in y) e

  pub filled-length : (i n k : ℕ) (out : List ℕ) → i ≤ n → length (up_to n) ≤ length buffer → Filled (up_to i) buffer k out → length out ≡ length buffer
  filled-length i n k out h m F =
      ap length F.1 ∙ length-append (up_to i) (drop k buffer) ∙ omega (arith, F.0, length-drop k buffer, up_to-grows i n h)

  -- there is room for one letter more
  pub room-left : (i n k x : ℕ) (out : List ℕ) → i < n → length (up_to n) ≤ length buffer → Filled (up_to i) buffer k out → letter_at s arcs upper lower stack i ≡ x → (x ≡ 0 → ⊥) → k < length buffer
  room-left i n k zero out h m F e z = absurd (z refl)
  room-left i n k (suc x) out h m F e z =
      omega (arith, F.0, up_to-grows (i + 1) n (omega arith), ap length (one_more_lem i ∙ ap (λ (y : ℕ). up_to i ++ letter_in y) e), length-append (up_to i) (suc x ∷ []))

  -- the letter of the frame and the arc that were looked at
  pub letter_of_lem : (i x : ℕ) (f : Frame) (r : Held.Arc) → f ≡ frame_of (look_at stack i) → r ≡ arc_held (arc_of arcs (f.next - 1)) → x ≡ written_letter s upper lower (arc_said r) (passed_in f.passed)
      → letter_at s arcs upper lower stack i ≡ x
  letter_of_lem i x f r E A h =
      ap (λ (g : Frame). written_letter s upper lower (arc_of arcs (pred g.next)) (passed_in g.passed)) (sym E)
      ∙ ap (λ (m : ℕ). written_letter s upper lower (arc_of arcs m) (passed_in f.passed)) (let z : pred f.next ≡ f.next - 1 = omega arith in z)
      ∙ ap (λ (y : Held.Arc). written_letter s upper lower (arc_said y) (passed_in f.passed)) (sym A)
      ∙ sym h
