-- What the call tells and leaves, by the key: a refusal of its start or its calls, or what the sheet's writer tells and leaves.
use Prim.Native.Nat.{ℕ, ◌≤◌}
use native.Mathlib.Omega.{arith}
use mathlib.Core.Path.{◌≡◌, refl, sym, ap, ap₂, ◌∙◌}
use mathlib.Core.Logic.{◌↔◌}
use mathlib.Core.Bool.{Bool, true, ◌&&◌}
use mathlib.Core.Option.{some}
use mathlib.Core.List.{List, ◌++◌}
use lib.ListN.{length, take, drop}
use Rattle.refusal.specs.declared.Refusal.{Refusal}
use Rattle.std.specs.Prelude.{Result, Ok, Err}
use Rattle.destination.specs.Told.{stored_told}
use Rattle.machine.specs.declared.StartAnswer.TheVariants as S
use Rattle.machine.specs.declared.Started.{Started}
use Rattle.machine.specs.Start.{StartedIs}
use Rattle.machine.proofs.Start.{start_is}
use Rattle.faces.specs.Faces.{faces_hold}
use Rattle.faces.specs.Lent.{most_readings, lent_bytes, readings_hold, held_as, list_holds, list_as, list_of}
use Rattle.faces.proofs.Lent.{spelled-lent}
use Rattle.session_calls.specs.Calls.{most_calls}
use Rattle.sheet.specs.Sheet.{sheet_of, sheet_size}
use Rattle.sheet.specs.Calls.{sheet_holds, write_answer, write_sheet}
use Rattle.sheet.proofs.Calls.{write_is, write_leaves, write_refused, written_one}
use Rattle.key_sheet.specs.Key.{Key, key, refused, key_from, first_stack, first_output, key_started, start_of, key_of}
use Rattle.key_sheet.specs.Calls.{answer_for, sheet_for, key_answer, key_sheet}

-- the key by what the start gives
module _ (cells word : List ℕ) (s : Started) (I : StartedIs (start_of cells word) s) where
  key_started_lem : key_of cells word ≡ key_started cells word s.answer s.run
  unfolding key_of
  key_started_lem =
      let same : s ≡ start_of cells word = start_is I in
      sym (ap (λ (x : Started). key_started cells word x.answer x.run) same)

  pub start-refused : {r : Refusal} → s.answer ≡ S.Refused r → key_of cells word ≡ refused r
  start-refused e = key_started_lem ∙ ap (λ a. key_started cells word a s.run) e

  pub start-ready : s.answer ≡ S.Ready → key_of cells word ≡ key_from cells word most_readings most_calls s.run first_stack first_output
  start-ready e = key_started_lem ∙ ap (λ a. key_started cells word a s.run) e

-- what the call promises of an answer and of the destination at exit
module _ (cells word faces destination : List ℕ) where
  abbrev Is : Result ℕ Refusal → List ℕ → Type 0
  Is a after = (stored_told a ≡ stored_told (key_answer cells word faces destination)) × (after ≡ key_sheet cells word faces destination)

  by_key : {k : Key} (a : Result ℕ Refusal) {after : List ℕ} → key_of cells word ≡ k → (stored_told a ≡ stored_told (answer_for k faces destination)) × (after ≡ sheet_for k faces destination) → Is a after
  unfolding key_answer key_sheet
  by_key a e (p, q) = (
    p ∙ ap (λ (x : Key). stored_told (answer_for x faces destination)) (sym e),
    q ∙ ap (λ (x : Key). sheet_for x faces destination) (sym e),
  )

  pub told-refused : {r : Refusal} → key_of cells word ≡ refused r → Is (Err r) destination
  told-refused {r} e = by_key (Err r) e (refl, refl)

  -- the readings' bytes, handed to the sheet's writer
  pub told-written : {rs : List (List ℕ)} {ended : Bool} → key_of cells word ≡ key rs ended → {bytes : List ℕ} → bytes ≡ lent_bytes rs → (a : Result ℕ Refusal) {after : List ℕ}
      → (stored_told a ≡ stored_told (write_answer bytes faces ended destination)) × (after ≡ write_sheet bytes faces ended destination) → Is a after
  told-written {rs} {ended} e b a (p, q) =
      by_key a e
      (p ∙ ap (λ (x : List ℕ). stored_told (write_answer x faces ended destination)) b, q ∙ ap (λ (x : List ℕ). write_sheet x faces ended destination) b)

-- what is known where the call is done: a key, and a writer that is done with its bytes
pub record Written (cells word faces destination : List ℕ) (n : ℕ) : Type 0 where
  pub readings : List (List ℕ)
  pub ended : Bool
  pub is : key_of cells word ≡ key readings ended
  pub done : write_answer (lent_bytes readings) faces ended destination ≡ Ok n
  pub leaves : key_sheet cells word faces destination ≡ write_sheet (lent_bytes readings) faces ended destination

-- the readings in the bytes that lend a key's are these
pub list-spelled : (rs : List (List ℕ)) → list_of (lent_bytes rs) ≡ rs
unfolding list_of
list-spelled rs = ap list_as (spelled-lent rs)

module _ (cells word faces destination : List ℕ) where
  -- the answer and the sheet of a key
  pub answer-by : {rs : List (List ℕ)} {ended : Bool} → key_of cells word ≡ key rs ended
      → key_answer cells word faces destination ≡ write_answer (lent_bytes rs) faces ended destination
  unfolding key_answer
  answer-by e = ap (λ (k : Key). answer_for k faces destination) e

  pub sheet-by : {rs : List (List ℕ)} {ended : Bool} → key_of cells word ≡ key rs ended
      → key_sheet cells word faces destination ≡ write_sheet (lent_bytes rs) faces ended destination
  unfolding key_sheet
  sheet-by e = ap (λ (k : Key). sheet_for k faces destination) e

  pub key-written : (n : ℕ) → key_answer cells word faces destination ≡ Ok n → Written cells word faces destination n
  unfolding key_answer
  key-written n a = go (key_of cells word) refl a
    where
      go : (k : Key) → key_of cells word ≡ k → answer_for k faces destination ≡ Ok n → Written cells word faces destination n
      go (key rs ended) e w = record { readings = rs; ended = ended; is = e; done = w; leaves = sheet-by e }
      go (refused r) e w = let z : ◌≡◌ {A = ℕ} 0 1 = cc in absurd (omega arith)

  -- a refusal leaves the destination as it was
  pub key-refused : (r : Refusal) → key_answer cells word faces destination ≡ Err r → key_sheet cells word faces destination ≡ destination
  unfolding key_answer key_sheet
  key-refused r a = go (key_of cells word) a
    where
      go : (k : Key) → answer_for k faces destination ≡ Err r → sheet_for k faces destination ≡ destination
      go (key rs ended) w = write_refused (lent_bytes rs) faces ended destination r w
      go (refused c) w = refl

  module _ {rs : List (List ℕ)} {ended : Bool} (e : key_of cells word ≡ key rs ended) where
    size-by : sheet_size (list_of (lent_bytes rs)) ≡ sheet_size rs
    size-by = ap sheet_size (list-spelled rs)

    pub done_by_lem : (n : ℕ) → (key_answer cells word faces destination ≡ Ok n) ↔ ((sheet_holds (lent_bytes rs) faces ≡ true) × (n ≡ sheet_size rs) × (n ≤ length destination))
    done_by_lem n = (
      λ a. let w = (write_is (lent_bytes rs) faces ended destination n).0 (sym (answer-by e) ∙ a) in (w.0, w.1 ∙ size-by, w.2),
      λ h. answer-by e ∙ (write_is (lent_bytes rs) faces ended destination n).1 (h.0, h.1 ∙ sym size-by, h.2),
    )

    pub leaves_by : (n : ℕ) → key_answer cells word faces destination ≡ Ok n → key_sheet cells word faces destination ≡ sheet_of faces rs ended ++ drop n destination
    leaves_by n a =
        let h = (done_by_lem n).0 a in
        let told : n ≡ sheet_size rs = h.1 in
        let room : n ≤ length destination = h.2 in
        sheet-by e
        ∙ write_leaves (lent_bytes rs) faces ended destination h.0 (omega (arith, size-by))
        ∙ ap₂ (λ (ws : List (List ℕ)) (k : ℕ). sheet_of faces ws ended ++ drop k destination) (list-spelled rs) (size-by ∙ sym told)

  pub key-done : (n : ℕ) → (key_answer cells word faces destination ≡ Ok n)
      ↔ ((rs : List (List ℕ)) × (ended : Bool) × (key_of cells word ≡ key rs ended) × (sheet_holds (lent_bytes rs) faces ≡ true) × (n ≡ sheet_size rs) × (n ≤ length destination))
  key-done n = (
    λ a. let w = key-written n a in let h = (done_by_lem w.is n).0 a in (w.readings, w.ended, w.is, h.0, h.1, h.2),
    λ h. (done_by_lem h.2 n).1 (h.3, h.4, h.5),
  )

-- what a writer holds, of a key's readings
pub holds_by : (rs : List (List ℕ)) (faces : List ℕ) → sheet_holds (lent_bytes rs) faces ≡ (faces_hold faces && readings_hold rs)
unfolding list_holds
holds_by rs faces = ap (λ b. faces_hold faces && b) (ap held_as (spelled-lent rs))

-- equal sheets over the same faces are those of equal keys
pub key_one : (faces cells₁ word₁ cells₂ word₂ d₁ d₂ : List ℕ) (n m : ℕ) → key_answer cells₁ word₁ faces d₁ ≡ Ok n → key_answer cells₂ word₂ faces d₂ ≡ Ok m
    → take n (key_sheet cells₁ word₁ faces d₁) ≡ take m (key_sheet cells₂ word₂ faces d₂) → key_of cells₁ word₁ ≡ key_of cells₂ word₂
key_one faces cells₁ word₁ cells₂ word₂ d₁ d₂ n m p q same =
    let a = key-written cells₁ word₁ faces d₁ n p in
    let b = key-written cells₂ word₂ faces d₂ m q in
    let w = written_one faces (lent_bytes a.readings) (lent_bytes b.readings) a.ended b.ended d₁ d₂ n m a.done b.done (ap (take n) (sym a.leaves) ∙ same ∙ ap (take m) b.leaves) in
    let list : some a.readings ≡ some b.readings = sym (spelled-lent a.readings) ∙ w.0 ∙ spelled-lent b.readings in
    let rs : a.readings ≡ b.readings = cc in
    a.is ∙ ap₂ (λ (l : List (List ℕ)) (t : Bool). key l t) rs w.1 ∙ sym b.is
