-- The table so far: what its cells hold, which line is due, and the items before that line's.
use Prim.Native.Nat.{ℕ, zero, suc, ◌+◌, ◌-◌, ◌*◌, ◌/◌, ◌<◌, ◌≤◌}
use native.Mathlib.Omega.{arith}
use mathlib.Core.Path.{◌≡◌, refl, sym, ap, ap₂, subst, ◌∙◌}
use mathlib.Core.Bool.{Bool, true, false, ◌&&◌}
use mathlib.Core.List.{List, [], ◌∷◌, ◌++◌, append_assoc, append-nil}
use lib.Dec.{eqb, ltb}
use lib.ListN.{length, get_or, take, drop, length-append}
use lib.Seq.{get_or-take, drop_at, drop-drop}
use borrow.Author.Tests.{ltb-true, ltb-false, eq-eqb, ne_eqb}
use Rattle.table_format.specs.Table.{Arc, Table, Counts}
use Rattle.table_format.specs.Classes.{class_count}
use Rattle.table_format.specs.Rules.{is_empty}
use Rattle.table_format.specs.Loaded.{arc_width, initials_at, most_cells, count_cells, rows_cells, arcs_cells, cells_of, counts_in, rows_in, classes_in, arcs_in, terminals_at, arcs_at}
use Rattle.table_format.specs.Cells.{arcs_as}
use Rattle.table_format.specs.Parse.{LineKind, class, initial, terminal, arc, end, code_of, due}
use Rattle.table_items.specs.Draft.{filled_up, draft_cells, taken_as_class, kind_after, Tracks, arcs_held}
use Rattle.table_format.proofs.Tests.{and_left, empty-nil}
use Rattle.table_format.proofs.Arcs.{at_equal}
use Rattle.table_format.proofs.Rules.{Bounded, counts-bounded}
use Rattle.table_format.proofs.Loaded.{classes-length, classes_in_lem, arcs_in_lem, length-arcs_cells}
use Rattle.table_format.proofs.Parse.{as_class, due_class, due-initial, due-terminal, due-arc, due-end}
use Rattle.table_items.proofs.LineKinds.{after_class, after-initial, after-terminal, after-arc, after_end_lem}
use Rattle.table_items.proofs.Parts.{drop-take}
use Rattle.table_items.proofs.Filled.{length-filled, take-filled}

-- Lists.

none_left : {A : Type 0} (xs : List A) → length xs ≡ 0 → xs ≡ []
none_left [] e = refl
none_left (x ∷ xs) e = absurd (omega arith)

-- what a kind that is due says of the lists so far: each is full before the next begins
abbrev pub Lists : Counts → Table → LineKind → Type 0
Lists c t class = (t.initials ≡ []) × (t.terminals ≡ []) × (t.arcs ≡ [])
Lists c t initial = (length t.initials < c.initials) × (t.terminals ≡ []) × (t.arcs ≡ [])
Lists c t terminal = (length t.initials ≡ c.initials) × (length t.terminals < c.terminals) × (t.arcs ≡ [])
Lists c t arc = (length t.initials ≡ c.initials) × (length t.terminals ≡ c.terminals) × (length t.arcs < c.arcs)
Lists c t end = (length t.initials ≡ c.initials) × (length t.terminals ≡ c.terminals) × (length t.arcs ≡ c.arcs)

module _ {c : Counts} {t : Table} {lines filled top : ℕ} {cells : List ℕ} (T : Tracks c t lines filled top cells) where
  pub bounded : Bounded c
  bounded = counts-bounded c T.counts

  pub filled_at : filled ≡ initials_at + length t.initials + length t.terminals + arc_width * length t.arcs
  unfolding draft_cells
  filled_at =
      omega (
        arith,
        T.filled_is,
        classes-length t.classes T.classes_keep_lem,
        length-append (rows_cells t.classes) (t.initials ++ (t.terminals ++ arcs_cells t.arcs)),
        length-append t.initials (t.terminals ++ arcs_cells t.arcs),
        length-append t.terminals (arcs_cells t.arcs),
        length-arcs_cells t.arcs,
      )

  filled-most : filled ≤ most_cells
  filled-most =
      let b = bounded in
      omega (arith, filled_at, T.initials-most, T.terminals-most, T.arcs-most, b.states, b.initials, b.terminals, b.arcs)

  pub cells-long : length cells ≡ most_cells
  cells-long = ap length T.cells_are ∙ length-filled (draft_cells c t) (omega (arith, T.filled_is, filled-most))

  front : take filled cells ≡ draft_cells c t
  front = ap (take filled) T.cells_are ∙ take-filled (draft_cells c t) filled T.filled_is

  count-cell : (i : ℕ) → i < initials_at → get_or cells i 0 ≡ get_or (draft_cells c t) i 0
  count-cell i h = sym (get_or-take filled cells i 0 (omega (arith, filled_at))) ∙ ap (λ (l : List ℕ). get_or l i 0) front

  pub counts-held : counts_in cells ≡ c
  unfolding draft_cells
  counts-held = λ i. record { states = count-cell 0 (omega arith) i; initials = count-cell 1 (omega arith) i; terminals = count-cell 2 (omega arith) i; arcs = count-cell 3 (omega arith) i }

  pub classes-held : classes_in cells ≡ t.classes
  unfolding filled_up draft_cells
  classes-held =
      ap classes_in T.cells_are
      ∙ ap (rows_in class_count) (append_assoc (rows_cells t.classes) (t.initials ++ (t.terminals ++ arcs_cells t.arcs)) _)
      ∙ classes_in_lem t.classes T.classes_keep_lem _

  -- the cells of the items from a place on
  part : (k : ℕ) → take (filled - (initials_at + k)) (drop (initials_at + k) cells) ≡ drop k (t.initials ++ (t.terminals ++ arcs_cells t.arcs))
  unfolding draft_cells
  part k =
      sym (drop-take (initials_at + k) filled cells) ∙ ap (drop (initials_at + k)) front
      ∙ sym (drop-drop k initials_at (draft_cells c t))
      ∙ ap (drop k)
      (drop_at (count_cells c ++ rows_cells t.classes) (t.initials ++ (t.terminals ++ arcs_cells t.arcs)) initials_at (omega (arith, classes-length t.classes T.classes_keep_lem)))

  -- The line that is due.

  no_more : length t.initials < c.initials → length t.terminals + length t.arcs ≡ 0
  no_more h = go (length t.terminals + length t.arcs) refl
    where
      go : (n : ℕ) → length t.terminals + length t.arcs ≡ n → n ≡ 0
      go zero e = refl
      go (suc n) e = absurd (omega (arith, T.initials-full (omega arith)))

  no_arcs : length t.terminals < c.terminals → length t.arcs ≡ 0
  no_arcs h = go (length t.arcs) refl
    where
      go : (n : ℕ) → length t.arcs ≡ n → n ≡ 0
      go zero e = refl
      go (suc n) e = absurd (omega (arith, T.terminals-full (omega arith)))

  first_cell : eqb filled initials_at ≡ is_empty t.initials
  first_cell = go t.initials refl
    where
      go : (is : List ℕ) → t.initials ≡ is → eqb filled initials_at ≡ is_empty is
      go [] e = let n = ap length e in eq-eqb filled initials_at (omega (arith, filled_at, no_more (omega (arith, bounded.some-initial))))
      go (s ∷ is) e = let n = ap length e in ne_eqb filled initials_at (λ z. omega (arith, filled_at))

  -- the code takes a line for what it is, by the cells so far
  pub taken : (b : List ℕ) → taken_as_class filled (get_or b 0 0) ≡ as_class t b
  taken b = ap (λ (x : Bool). x && eqb (get_or b 0 0) (code_of class)) first_cell

  -- the kind that is due, as the code finds it, and what it says of the lists
  module _ (b : List ℕ) where
    abbrev Here : LineKind → Type 0
    Here k = (kind_after c filled (get_or b 0 0) ≡ k) × Lists c t k

    here : Here (due c t b)
    here = go (as_class t b) refl
      where
        at : (k : LineKind) → due c t b ≡ k → Here k → Here (due c t b)
        at k e h = subst Here (sym e) h

        go₃ : as_class t b ≡ false → c.initials ≤ length t.initials → c.terminals ≤ length t.terminals → (z : Bool) → ltb (length t.arcs) c.arcs ≡ z → Here (due c t b)
        go₃ n h k true e =
            let l = ltb-true (length t.arcs) c.arcs e in
            at arc (due-arc c t b n h k l)
            (after-arc c filled (get_or b 0 0) (taken b ∙ n) (omega (arith, filled_at)) (omega (arith, filled_at, T.initials-most, T.terminals-most)), (omega (arith, T.initials-most), omega (arith, T.terminals-most), l))
        go₃ n h k false e =
            let l = ltb-false (length t.arcs) c.arcs e in
            at end (due-end c t b n h k l)
            (after_end_lem c filled (get_or b 0 0) (taken b ∙ n) (omega (arith, filled_at)), (omega (arith, T.initials-most), omega (arith, T.terminals-most), omega (arith, T.arcs-most)))

        go₂ : as_class t b ≡ false → c.initials ≤ length t.initials → (y : Bool) → ltb (length t.terminals) c.terminals ≡ y → Here (due c t b)
        go₂ n h true e =
            let k = ltb-true (length t.terminals) c.terminals e in
            at terminal (due-terminal c t b n h k)
            (after-terminal c filled (get_or b 0 0) (taken b ∙ n) (omega (arith, filled_at)) (omega (arith, filled_at, T.initials-most, no_arcs k)), (omega (arith, T.initials-most), k, none_left t.arcs (no_arcs k)))
        go₂ n h false e = go₃ n h (ltb-false (length t.terminals) c.terminals e) (ltb (length t.arcs) c.arcs) refl

        go₁ : as_class t b ≡ false → (x : Bool) → ltb (length t.initials) c.initials ≡ x → Here (due c t b)
        go₁ n true e =
            let h = ltb-true (length t.initials) c.initials e in
            at initial (due-initial c t b n h)
            (after-initial c filled (get_or b 0 0) (taken b ∙ n) (omega (arith, filled_at, no_more h)), (h, none_left t.terminals (omega (arith, no_more h)), none_left t.arcs (omega (arith, no_more h))))
        go₁ n false e = go₂ n (ltb-false (length t.initials) c.initials e) (ltb (length t.terminals) c.terminals) refl

        go : (a : Bool) → as_class t b ≡ a → Here (due c t b)
        go true e =
            let none = empty-nil t.initials (and_left (is_empty t.initials) _ e) in
            let rest = no_more (omega (arith, ap length none, bounded.some-initial)) in
            at class (due_class c t b e) (after_class c filled (get_or b 0 0) (taken b ∙ e), (none, none_left t.terminals (omega arith), none_left t.arcs (omega arith)))
        go false e = go₁ e (ltb (length t.initials) c.initials) refl

    pub kind-due : kind_after c filled (get_or b 0 0) ≡ due c t b
    kind-due = here.0

    pub lists_due : {k : LineKind} → due c t b ≡ k → Lists c t k
    lists_due e = subst (Lists c t) e here.1

  -- The items before the one that is due, as parts of the cells.

  module _ (b : List ℕ) where
    pub initials-before : due c t b ≡ initial → take (filled - initials_at) (drop initials_at cells) ≡ t.initials
    unfolding arcs_cells
    initials-before e =
        let l = lists_due b e in
        at_equal (λ n. take (filled - n) (drop n cells)) initials_at (initials_at + 0) (omega arith)
        ∙ part 0 ∙ ap₂ (λ (x : List ℕ) (y : List Arc). t.initials ++ (x ++ arcs_cells y)) l.1 l.2 ∙ append-nil t.initials

    pub terminals-before : due c t b ≡ terminal → take (filled - terminals_at c) (drop (terminals_at c) cells) ≡ t.terminals
    unfolding arcs_cells
    terminals-before e =
        let l = lists_due b e in
        part c.initials
        ∙ drop_at t.initials (t.terminals ++ arcs_cells t.arcs) c.initials l.0
        ∙ ap (λ (y : List Arc). t.terminals ++ arcs_cells y) l.2 ∙ append-nil t.terminals

    arc_cells-before : due c t b ≡ arc → take (filled - arcs_at c) (drop (arcs_at c) cells) ≡ arcs_cells t.arcs
    arc_cells-before e =
        let l = lists_due b e in
        at_equal (λ n. take (filled - n) (drop n cells)) (arcs_at c) (initials_at + (c.initials + c.terminals)) (omega arith)
        ∙ part (c.initials + c.terminals)
        ∙ ap (drop (c.initials + c.terminals)) (sym (append_assoc t.initials t.terminals (arcs_cells t.arcs)))
        ∙ drop_at (t.initials ++ t.terminals) (arcs_cells t.arcs) (c.initials + c.terminals) (omega (arith, l.0, l.1, length-append t.initials t.terminals))

    pub arcs-before : due c t b ≡ arc → arcs_held cells filled ≡ t.arcs
    arcs-before e =
        ap (λ (x : Counts). arcs_as (take (filled - arcs_at x) (drop (arcs_at x) cells))) counts-held
        ∙ ap arcs_as (arc_cells-before e)
        ∙ at_equal (λ n. arcs_in n (arcs_cells t.arcs)) (length (arcs_cells t.arcs) / arc_width) (length t.arcs) (omega (arith, length-arcs_cells t.arcs))
        ∙ ap (arcs_in (length t.arcs)) (sym (append-nil (arcs_cells t.arcs))) ∙ arcs_in_lem t.arcs []

    -- the places of the parts
    pub terminals-from : due c t b ≡ terminal → terminals_at (counts_in cells) ≤ filled
    terminals-from e = let l = lists_due b e in omega (arith, filled_at, l.0, ap (λ (x : Counts). x.initials) counts-held)

    pub arcs-start : due c t b ≡ arc → arcs_at (counts_in cells) ≤ filled
    arcs-start e =
        let l = lists_due b e in
        omega (arith, filled_at, l.0, l.1, ap (λ (x : Counts). x.initials) counts-held, ap (λ (x : Counts). x.terminals) counts-held)

    pub end-cells : due c t b ≡ end → draft_cells c t ≡ cells_of t
    unfolding draft_cells cells_of
    end-cells e =
        let l = lists_due b e in
        ap (λ (x : Counts). count_cells x ++ (rows_cells t.classes ++ (t.initials ++ (t.terminals ++ arcs_cells t.arcs))))
        (λ i. record { states = sym T.states-is i; initials = sym l.0 i; terminals = sym l.1 i; arcs = sym l.2 i })

  pub states-held : get_or cells 0 0 ≡ t.states
  states-held = ap (λ (x : Counts). x.states) counts-held ∙ sym T.states-is

  pub cells-enough : filled ≤ length cells
  cells-enough = omega (arith, filled-most, cells-long)
