-- What the reader and the writer leave: the one's cells put to the other give the text back, and the other way round.
use Prim.Native.Nat.{ℕ, ◌≤◌, ◌<◌}
use native.Mathlib.Omega.{arith}
use mathlib.Core.Path.{◌≡◌, refl, sym, ap, ap₂, subst, ◌∙◌}
use mathlib.Core.Bool.{true}
use mathlib.Core.Logic.{◌↔◌}
use mathlib.Core.Option.{Option, none, some}
use mathlib.Core.List.{List, ◌++◌}
use lib.ListN.{length, take, drop}
use lib.Seq.{take_at}
use Rattle.refusal.specs.declared.InputCause.{InputCause}
use Rattle.refusal.specs.declared.StateCause.TheVariants.{LoadedTable, DestinationShort}
use Rattle.refusal.specs.declared.Refusal.{Refusal}
use Rattle.refusal.specs.declared.Refusal.TheVariants.{Input, State}
use Rattle.std.specs.Prelude.{Ok, Err}
use Rattle.table_format.specs.Table.{Table, counts_of}
use Rattle.table_format.specs.Rules.{keeps_rules}
use Rattle.table_format.specs.Loaded.{cells_of, counts_in, extent, loaded}
use Rattle.table_format.specs.Text.{text_of}
use Rattle.table_format.specs.Parse.{Parsed, accepted, turned_down, parsed}
use Rattle.table.specs.Calls.{read_as, read_cells_as, read_answer, read_cells, written_as, written_text_as, write_answer, write_text}
use Rattle.table_format.proofs.Rules.{keeps-parts}
use Rattle.table_format.proofs.Loaded.{length-cells, counts_in_lem, loaded-cells, cells-loaded}
use Rattle.table_format.proofs.Determine.{text-read, read-text}
use Rattle.destination.proofs.Stored.{Stored, stored-done, stored-fits, stored_short, stored_refused, stored-length}

-- The reader, and the writer.

module _ (text destination : List ℕ) where
  pub read_done : (n : ℕ) → read_answer text destination ≡ Ok n
      → (t : Table) × (parsed text ≡ accepted t) × Stored (cells_of t) destination n (read_cells text destination)
  unfolding read_answer read_cells
  read_done n e = go (parsed text) refl e
    where
      go : (p : Parsed) → parsed text ≡ p → read_as p destination ≡ Ok n
          → (t : Table) × (parsed text ≡ accepted t) × Stored (cells_of t) destination n (read_cells_as p destination)
      go (accepted t) h k = (t, h, stored-done (cells_of t) destination n k)
      go (turned_down cause) h k = let z : ◌≡◌ {A = ℕ} 0 1 = cc in absurd (omega arith)

  pub read_fits : (t : Table) → parsed text ≡ accepted t → length (cells_of t) ≤ length destination
      → (read_answer text destination ≡ Ok (length (cells_of t))) × (read_cells text destination ≡ cells_of t ++ drop (length (cells_of t)) destination)
  unfolding read_answer read_cells
  read_fits t h k =
      let s = stored-fits (cells_of t) destination k in
      (ap (λ (p : Parsed). read_as p destination) h ∙ s.0, ap (λ (p : Parsed). read_cells_as p destination) h ∙ s.1)

  pub read-leaves : (t : Table) → keeps_rules t ≡ true → text ≡ text_of t → length (cells_of t) ≤ length destination
      → read_cells text destination ≡ cells_of t ++ drop (length (cells_of t)) destination
  read-leaves t k e room = (read_fits t (ap parsed e ∙ text-read t k) room).1

  -- done, exactly where the text is that of a table that keeps the rules and its cells have room
  pub read_is : (n : ℕ) → (read_answer text destination ≡ Ok n)
      ↔ ((t : Table) × (keeps_rules t ≡ true) × (text ≡ text_of t) × (n ≡ length (cells_of t)) × (n ≤ length destination))
  read_is n = (to, from)
    where
      to : read_answer text destination ≡ Ok n → (t : Table) × (keeps_rules t ≡ true) × (text ≡ text_of t) × (n ≡ length (cells_of t)) × (n ≤ length destination)
      to a = let s = read_done n a in let r = read-text text s.0 s.1 in (s.0, r.0, r.1, s.2.size, s.2.room)

      from : (t : Table) × (keeps_rules t ≡ true) × (text ≡ text_of t) × (n ≡ length (cells_of t)) × (n ≤ length destination) → read_answer text destination ≡ Ok n
      from (t, k, e, size, room) = (read_fits t (ap parsed e ∙ text-read t k) (omega arith)).0 ∙ ap Ok (sym size)

  -- 24 comes where the text is a table's, and the destination is too short for its cells
  pub read_short : (read_answer text destination ≡ Err (State DestinationShort))
      ↔ ((t : Table) × (keeps_rules t ≡ true) × (text ≡ text_of t) × (length destination < length (cells_of t)))
  unfolding read_answer
  read_short = (λ e. to (parsed text) refl e, from)
    where
      to : (p : Parsed) → parsed text ≡ p → read_as p destination ≡ Err (State DestinationShort)
          → (t : Table) × (keeps_rules t ≡ true) × (text ≡ text_of t) × (length destination < length (cells_of t))
      to (accepted t) h k = let r = read-text text t h in (t, r.0, r.1, (stored_short (cells_of t) destination).0 k)
      to (turned_down cause) h k = let z : ◌≡◌ {A = ℕ} 0 1 = cc in absurd (omega arith)

      from : (t : Table) × (keeps_rules t ≡ true) × (text ≡ text_of t) × (length destination < length (cells_of t))
          → read_as (parsed text) destination ≡ Err (State DestinationShort)
      from (t, k, e, l) = ap (λ (p : Parsed). read_as p destination) (ap parsed e ∙ text-read t k) ∙ (stored_short (cells_of t) destination).1 l

  -- the text's own refusals come first
  pub read-turned : (c : InputCause) → (read_answer text destination ≡ Err (Input c)) ↔ (parsed text ≡ turned_down c)
  unfolding read_answer
  read-turned c = (λ e. to (parsed text) e, λ h. ap (λ (p : Parsed). read_as p destination) h)
    where
      to : (p : Parsed) → read_as p destination ≡ Err (Input c) → p ≡ turned_down c
      to (accepted t) e = let s = stored_refused (cells_of t) destination (Input c) e in cc
      to (turned_down d) e = let same : d ≡ c = cc in ap turned_down same

  -- a refusal leaves the destination as it was
  pub read-refused : (r : Refusal) → read_answer text destination ≡ Err r → read_cells text destination ≡ destination
  unfolding read_answer read_cells
  read-refused r e = go (parsed text) e
    where
      go : (p : Parsed) → read_as p destination ≡ Err r → read_cells_as p destination ≡ destination
      go (accepted t) k = (stored_refused (cells_of t) destination r k).1
      go (turned_down cause) k = refl

  pub read_length : length (read_cells text destination) ≡ length destination
  unfolding read_cells
  read_length = go (parsed text)
    where
      go : (p : Parsed) → length (read_cells_as p destination) ≡ length destination
      go (accepted t) = stored-length (cells_of t) destination
      go (turned_down cause) = refl

module _ (cells destination : List ℕ) where
  pub write_done : (n : ℕ) → write_answer cells destination ≡ Ok n
      → (t : Table) × (loaded cells ≡ some t) × Stored (text_of t) destination n (write_text cells destination)
  unfolding write_answer write_text
  write_done n e = go (loaded cells) refl e
    where
      go : (p : Option Table) → loaded cells ≡ p → written_as p destination ≡ Ok n
          → (t : Table) × (loaded cells ≡ some t) × Stored (text_of t) destination n (written_text_as p destination)
      go (some t) h k = (t, h, stored-done (text_of t) destination n k)
      go none h k = let z : ◌≡◌ {A = ℕ} 0 1 = cc in absurd (omega arith)

  pub write_fits : (t : Table) → loaded cells ≡ some t → length (text_of t) ≤ length destination
      → (write_answer cells destination ≡ Ok (length (text_of t))) × (write_text cells destination ≡ text_of t ++ drop (length (text_of t)) destination)
  unfolding write_answer write_text
  write_fits t h k =
      let s = stored-fits (text_of t) destination k in
      (ap (λ (p : Option Table). written_as p destination) h ∙ s.0, ap (λ (p : Option Table). written_text_as p destination) h ∙ s.1)

  pub write_is : (n : ℕ) → (write_answer cells destination ≡ Ok n) ↔ ((t : Table) × (loaded cells ≡ some t) × (n ≡ length (text_of t)) × (n ≤ length destination))
  write_is n = (
    λ a. let s = write_done n a in (s.0, s.1, s.2.size, s.2.room),
    λ h. let size : n ≡ length (text_of h.0) = h.2 in let room : n ≤ length destination = h.3 in (write_fits h.0 h.1 (omega arith)).0 ∙ ap Ok (sym size),
  )

  pub write_short : (write_answer cells destination ≡ Err (State DestinationShort)) ↔ ((t : Table) × (loaded cells ≡ some t) × (length destination < length (text_of t)))
  unfolding write_answer
  write_short = (λ e. to (loaded cells) refl e, from)
    where
      to : (p : Option Table) → loaded cells ≡ p → written_as p destination ≡ Err (State DestinationShort)
          → (t : Table) × (loaded cells ≡ some t) × (length destination < length (text_of t))
      to (some t) h k = (t, h, (stored_short (text_of t) destination).0 k)
      to none h k = let z : ◌≡◌ {A = ℕ} 0 1 = cc in absurd (omega arith)

      from : (t : Table) × (loaded cells ≡ some t) × (length destination < length (text_of t)) → written_as (loaded cells) destination ≡ Err (State DestinationShort)
      from (t, h, l) = ap (λ (p : Option Table). written_as p destination) h ∙ (stored_short (text_of t) destination).1 l

  -- 20 comes where the cells hold no table
  pub write_broken : (write_answer cells destination ≡ Err (State LoadedTable)) ↔ (loaded cells ≡ none)
  unfolding write_answer
  write_broken = (λ e. to (loaded cells) e, λ h. ap (λ (p : Option Table). written_as p destination) h)
    where
      to : (p : Option Table) → written_as p destination ≡ Err (State LoadedTable) → p ≡ none
      to (some t) e = let s = stored_refused (text_of t) destination (State LoadedTable) e in cc
      to none e = refl

  pub write_refused : (r : Refusal) → write_answer cells destination ≡ Err r → write_text cells destination ≡ destination
  unfolding write_answer write_text
  write_refused r e = go (loaded cells) e
    where
      go : (p : Option Table) → written_as p destination ≡ Err r → written_text_as p destination ≡ destination
      go (some t) k = (stored_refused (text_of t) destination r k).1
      go none k = refl

-- A text that is read is written back from the cells that reading leaves.
pub read-written : (x d e : List ℕ) (n : ℕ) → read_answer x d ≡ Ok n → length x ≤ length e
    → (write_answer (read_cells x d) e ≡ Ok (length x)) × (write_text (read_cells x d) e ≡ x ++ drop (length x) e)
read-written x d e n a room = go (read_done x d n a)
  where
    go : (t : Table) × (parsed x ≡ accepted t) × Stored (cells_of t) d n (read_cells x d)
        → (write_answer (read_cells x d) e ≡ Ok (length x)) × (write_text (read_cells x d) e ≡ x ++ drop (length x) e)
    go (t, p, s) =
        let r = read-text x t p in
        let l : loaded (read_cells x d) ≡ some t = ap loaded s.left_is ∙ loaded-cells t (drop n d) r.0 in
        let w = write_fits (read_cells x d) e t l (subst (λ (y : List ℕ). length y ≤ length e) r.1 room) in
        (w.0 ∙ ap (λ (y : List ℕ). Ok (length y)) (sym r.1), w.1 ∙ ap (λ (y : List ℕ). y ++ drop (length y) e) (sym r.1))

-- Cells that are written are read back from the text that writing leaves.
pub written-text : (c e : List ℕ) (n : ℕ) (t : Table) → write_answer c e ≡ Ok n → loaded c ≡ some t → take n (write_text c e) ≡ text_of t
written-text c e n t a l = go (write_done c e n a)
  where
    go : (u : Table) × (loaded c ≡ some u) × Stored (text_of u) e n (write_text c e) → take n (write_text c e) ≡ text_of t
    go (u, k, s) =
        let same : u ≡ t = cc in
        ap (take n) s.left_is ∙ take_at (text_of u) (drop n e) n (sym s.size) ∙ ap text_of same

pub written_read : (c e : List ℕ) (n : ℕ) (t : Table) → write_answer c e ≡ Ok n → loaded c ≡ some t → parsed (take n (write_text c e)) ≡ accepted t
written_read c e n t a l = ap parsed (written-text c e n t a l) ∙ text-read t (cells-loaded c t l).0

pub written-cells : (c e d : List ℕ) (n : ℕ) → write_answer c e ≡ Ok n → extent (counts_in c) ≤ length d
    → (read_answer (take n (write_text c e)) d ≡ Ok (extent (counts_in c)))
    × (read_cells (take n (write_text c e)) d ≡ take (extent (counts_in c)) c ++ drop (extent (counts_in c)) d)
written-cells c e d n a room = go (write_done c e n a)
  where
    m : ℕ
    m = extent (counts_in c)

    go : (t : Table) × (loaded c ≡ some t) × Stored (text_of t) e n (write_text c e)
        → (read_answer (take n (write_text c e)) d ≡ Ok m) × (read_cells (take n (write_text c e)) d ≡ take m c ++ drop m d)
    go (t, l, s) =
        let k = cells-loaded c t l in
        let keep = ((keeps-parts t).0 k.0).classes in
        let rest = drop (length (cells_of t)) c in
        let counts : counts_in c ≡ counts_of t = ap counts_in k.1 ∙ counts_in_lem t keep rest in
        let size : m ≡ length (cells_of t) = ap extent counts ∙ sym (length-cells t keep) in
        let front : take m c ≡ cells_of t = ap (take m) k.1 ∙ take_at (cells_of t) rest m (sym size) in
        let r = read_fits (take n (write_text c e)) d t (written_read c e n t a l) (omega arith) in
        (r.0 ∙ ap Ok (sym size), r.1 ∙ ap₂ (λ (y : List ℕ) (i : ℕ). y ++ drop i d) (sym front) (sym size))
