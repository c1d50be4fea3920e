-- What the reader answers, from what it made of the text.
use Prim.Native.Nat.{ℕ, ◌≤◌}
use native.Mathlib.Omega.{arith}
use mathlib.Core.Path.{◌≡◌, refl, sym, ap, ◌∙◌}
use mathlib.Core.List.{List}
use lib.ListN.{length, take}
use Rattle.refusal.specs.declared.InputCause.{InputCause}
use Rattle.refusal.specs.declared.Refusal.TheVariants.{Input}
use Rattle.refusal.specs.declared.Refusal.{Refusal}
use Rattle.std.specs.Prelude.{Result, Ok, Err}
use Rattle.destination.specs.Told.{stored_told}
use Rattle.destination.specs.Stored.{stored_answer, stored_cells}
use Rattle.table_parser.specs.declared.Gathered.{Gathered}
use Rattle.table_format.specs.Table.{Table}
use Rattle.table_format.specs.Loaded.{most_cells, cells_of}
use Rattle.table_format.specs.Parse.{Parsed, accepted, turned_down, parsed}
use Rattle.table_items.specs.Draft.{filled_up}
use Rattle.table_parser.specs.Gathered.{gathered}
use Rattle.table.specs.Calls.{read_as, read_cells_as, read_answer, read_cells}
use Rattle.table_format.proofs.Rules.{keeps-parts, table-bounded}
use Rattle.table_format.proofs.Loaded.{length-cells}
use Rattle.table_format.proofs.Determine.{read-text}
use Rattle.table_items.proofs.Filled.{length-filled, take-filled}

module _ (text destination : List ℕ) where
  -- the answer and the destination as the reader leaves them
  abbrev pub Left : Result ℕ Refusal → List ℕ → Type 0
  Left r d = (stored_told r ≡ stored_told (read_answer text destination)) × (d ≡ read_cells text destination)

  from-parsed : (p : Parsed) (r : Result ℕ Refusal) (d : List ℕ) → parsed text ≡ p → r ≡ read_as p destination → d ≡ read_cells_as p destination → Left r d
  unfolding read_answer read_cells
  from-parsed p r d e f g = (ap stored_told (f ∙ ap (λ (q : Parsed). read_as q destination) (sym e)), g ∙ ap (λ (q : Parsed). read_cells_as q destination) (sym e))

  module _ (g : Gathered) (made : g ≡ gathered (parsed text)) where
    as_parsed : (p : Parsed) → parsed text ≡ p → g ≡ gathered p
    as_parsed p h = made ∙ ap gathered h

    pub left-fault : (f : InputCause) → g.read ≡ Err f → Left (Err (Input f)) destination
    left-fault f e = go (parsed text) refl
      where
        go : (p : Parsed) → parsed text ≡ p → Left (Err (Input f)) destination
        go (accepted t) h = let z : ◌≡◌ {A = ℕ} 0 1 = cc (sym e ∙ ap (λ (x : Gathered). x.read) (as_parsed (accepted t) h)) in absurd (omega arith)
        go (turned_down cause) h =
            let q : f ≡ cause = cc (sym e ∙ ap (λ (x : Gathered). x.read) (as_parsed (turned_down cause) h)) in
            from-parsed (turned_down cause) (Err (Input f)) destination h (ap (λ (x : InputCause). Err (Input x)) q) refl

    module _ (n : ℕ) (e : g.read ≡ Ok n) where
      -- the text is a table's, and these are its cells
      found : (t : Table) × (parsed text ≡ accepted t) × (n ≡ length (cells_of t))
      found = go (parsed text) refl
        where
          go : (p : Parsed) → parsed text ≡ p → (t : Table) × (parsed text ≡ accepted t) × (n ≡ length (cells_of t))
          go (accepted t) h = (t, h, cc (sym e ∙ ap (λ (x : Gathered). x.read) (as_parsed (accepted t) h)))
          go (turned_down cause) h = let z : ◌≡◌ {A = ℕ} 0 1 = cc (sym e ∙ ap (λ (x : Gathered). x.read) (as_parsed (turned_down cause) h)) in absurd (omega arith)

      cells-found : g.cells ≡ filled_up (cells_of found.0)
      cells-found = ap (λ (x : Gathered). x.cells) (as_parsed (accepted found.0) found.1)

      few : n ≤ most_cells
      few =
          let t = found.0 in
          let keeps = (read-text text t found.1).0 in
          let b = table-bounded t keeps in
          omega (arith, found.2, length-cells t ((keeps-parts t).0 keeps).classes, b.states, b.initials, b.terminals, b.arcs)

      pub read-room : n ≤ length g.cells
      read-room = omega (arith, few, found.2, ap length cells-found, length-filled (cells_of found.0) (omega (arith, few, found.2)))

      held : take n g.cells ≡ cells_of found.0
      held = ap (take n) cells-found ∙ take-filled (cells_of found.0) n found.2

      -- the cells are stored
      pub left-stored : (r : Result ℕ Refusal) (d : List ℕ) → r ≡ stored_answer (take n g.cells) destination → d ≡ stored_cells (take n g.cells) destination → Left r d
      left-stored r d a b =
          from-parsed (accepted found.0) r d found.1 (a ∙ ap (λ (l : List ℕ). stored_answer l destination) held) (b ∙ ap (λ (l : List ℕ). stored_cells l destination) held)
