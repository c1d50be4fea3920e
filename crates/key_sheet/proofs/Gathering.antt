-- Calls for readings, one after another: a turn of the loop, by what its calls come to.
use Prim.Native.Nat.{ℕ, zero, suc, ◌+◌, ◌-◌, ◌*◌, ◌≤◌, ◌<◌}
use native.Mathlib.Omega.{arith}
use mathlib.Core.Path.{◌≡◌, refl, sym, ap, ap₂, ◌∙◌}
use mathlib.Core.Bool.{Bool, true, false}
use mathlib.Core.List.{List, [], ◌∷◌, ◌++◌}
use lib.ListN.{length, take}
use lib.Seq.{length-take-le, sets, length-sets}
use Rattle.refusal.specs.declared.Refusal.{Refusal}
use Rattle.machine.specs.declared.Run.{Run}
use Rattle.machine.specs.Stack.{frame_width}
use Rattle.faces.specs.Lent.{lent_bytes}
use Rattle.session_calls.specs.declared.CallResult.{CallResult}
use Rattle.session_calls.specs.declared.CallResult.TheVariants as C
use Rattle.session_calls.specs.Calls.{CallsOutcome, calls_outcome, CallsOutcomeIs}
use Rattle.session_calls.proofs.Fitting.{result_fits, fits-reading}
use Rattle.std.specs.Prelude.{Result, Ok, Err}
use Rattle.key_sheet.specs.declared.Readings.{Readings}
use Rattle.key_sheet.specs.Key.{Key, key, key_by, key_from, stack_frames, output_letters}
use Rattle.key_sheet.specs.Gathered.{GatheredIs}
use Rattle.key_sheet.proofs.Lists.{lent_one, lent-snoc, stored-front, before, before-onto, before_last, before-none}

abbrev so_many : ℕ → Bool → Readings
so_many bytes ended = record { bytes = bytes; ended = ended }

-- what is known at the head of the loop: the readings in the list, before those that the calls left give, are those of the whole key
pub record Gathering (cells word : List ℕ) (whole : Key) (list₀ list stack output : List ℕ) (run : Run) (calls bytes left : ℕ) : Type 0 where
  pub readings : List (List ℕ)
  pub is : before readings (key_from cells word left calls run stack output) ≡ whole
  pub spelled : take bytes list ≡ lent_bytes readings
  pub room : bytes + (2 + output_letters) * left ≤ length list
  pub same-list : length list ≡ length list₀
  pub same-stack : length stack ≡ stack_frames * frame_width
  pub letters : length output ≡ output_letters

pub gathering_none : (cells word list stack output : List ℕ) (run : Run) (calls left : ℕ) → (2 + output_letters) * left ≤ length list → length stack ≡ stack_frames * frame_width → length output ≡ output_letters
    → Gathering cells word (key_from cells word left calls run stack output) list list stack output run calls 0 left
unfolding lent_bytes
gathering_none cells word list stack output run calls left room same letters =
    record { readings = []; is = before-none _; spelled = refl; room = omega arith; same-list = refl; same-stack = same; letters = letters }

module _ {cells word : List ℕ} {whole : Key} {list₀ list stack output : List ℕ} {run : Run} {calls bytes left : ℕ}
    (G : Gathering cells word whole list₀ list stack output run calls bytes left) where
  -- no reading more
  closed : (ended : Bool) → before G.readings (key [] ended) ≡ whole → GatheredIs whole (Ok (so_many bytes ended)) list
  closed ended e = (G.readings, sym e ∙ before_last G.readings ended, omega (arith, G.room), G.spelled)

  pub gathered-all : left ≤ 0 → GatheredIs whole (Ok (so_many bytes false)) list
  unfolding key_from
  gathered-all z = go left refl G.is
    where
      go : (n : ℕ) → left ≡ n → before G.readings (key_from cells word n calls run stack output) ≡ whole → GatheredIs whole (Ok (so_many bytes false)) list
      go zero q e = closed false e
      go (suc n) q e = absurd (omega arith)

  abbrev O : CallsOutcome
  O = calls_outcome cells word [] calls run stack output

  -- calls, whose result the code has in hand
  module _ {result : Result CallResult Refusal} {s o : List ℕ} (some_left : 0 < left) (made : CallsOutcomeIs O result s o) where
    after : CallsOutcome
    after = record { result = result; stack = s; output = o }

    turn : (x : Result CallResult Refusal) → result ≡ x → before G.readings (key_by x after (λ c r s o. key_from cells word (left - 1) c r s o)) ≡ whole
    unfolding key_from after
    turn x e = go left refl
      where
        go : (n : ℕ) → left ≡ n → before G.readings (key_by x after (λ c r s o. key_from cells word (left - 1) c r s o)) ≡ whole
        go zero z = absurd (omega arith)
        go (suc n) z =
            let less : left - 1 ≡ n = omega arith in
            let same : after ≡ O = λ i. record { result = made.0 i; stack = made.1 i; output = made.2 i } in
            ap (λ (k : ℕ). before G.readings (key_by x after (λ c r s o. key_from cells word k c r s o))) less
            ∙ ap₂ (λ (y : Result CallResult Refusal) (p : CallsOutcome). before G.readings (key_by y p (λ c r s o. key_from cells word n c r s o))) (sym e ∙ made.0) same
            ∙ sym (ap (λ (k : ℕ). before G.readings (key_from cells word k calls run stack output)) z)
            ∙ G.is

    pub gathered-ended : result ≡ Ok C.Ended → GatheredIs whole (Ok (so_many bytes true)) list
    gathered-ended e = closed true (turn (Ok C.Ended) e)

    pub gathered-spent : result ≡ Ok C.Spent → GatheredIs whole (Ok (so_many bytes false)) list
    gathered-spent e = closed false (turn (Ok C.Spent) e)

    pub gathered-refused : {c : Refusal} → result ≡ Err c → GatheredIs whole (Err c) list
    gathered-refused {c} e = sym (turn (Err c) e)

    -- a reading is within the output, and has room in the list
    module _ {n : ℕ} {next : Run} {more : ℕ} (e : result ≡ Ok (C.Reading n next more)) (same : length s ≡ length stack) (kept : length o ≡ length output) where
      pub reading-inside : n ≤ length o
      reading-inside = fits-reading o e (result_fits cells word [] calls run stack output result o made.0 made.2)

      pub reading-length : length (take n o) ≡ n
      reading-length = length-take-le n o reading-inside

      pub reading-short : length (take n o) ≤ output_letters
      reading-short = let inside = reading-inside in omega (arith, reading-length, G.letters)

      pub reading-room : bytes + 2 + length (take n o) ≤ length list
      reading-room = let short = reading-short in omega (arith, G.room)

      pub gathering_more : {list₁ : List ℕ} {bytes₁ : ℕ} → bytes₁ ≡ bytes + 2 + length (take n o) → list₁ ≡ sets list bytes (lent_one (take n o))
          → Gathering cells word whole list₀ list₁ s o next more bytes₁ (left - 1)
      unfolding after
      gathering_more {list₁} {bytes₁} b l =
          let short = reading-short in
          let fits = reading-room in
          let size : length list₁ ≡ length list = ap length l ∙ length-sets list bytes (lent_one (take n o)) in
          record {
            readings = G.readings ++ (take n o ∷ []);
            is = sym (before-onto G.readings (take n o) (key_from cells word (left - 1) more next s o)) ∙ turn (Ok (C.Reading n next more)) e;
            spelled = ap (take bytes₁) l ∙ stored-front list (lent_one (take n o)) bytes bytes₁ (omega arith) (omega arith)
                ∙ ap (λ (f : List ℕ). f ++ lent_one (take n o)) G.spelled ∙ sym (lent-snoc G.readings (take n o));
            room = omega (arith, G.room);
            same-list = size ∙ G.same-list;
            same-stack = same ∙ G.same-stack;
            letters = kept ∙ G.letters;
          }
