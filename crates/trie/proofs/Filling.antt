-- The cells of the whole table.
use Prim.Native.Nat.{ℕ, zero, suc, ◌+◌, ◌-◌, ◌*◌, ◌/◌, ◌≤◌, ◌<◌}
use native.Mathlib.Omega.{arith}
use mathlib.Core.Path.{◌≡◌, refl, sym, ap, ap₂, ◌∙◌}
use mathlib.Core.Bool.{Bool, cond}
use mathlib.Core.List.{List, [], ◌∷◌, ◌++◌, map}
use lib.ListN.{length, get_or, set, take}
use lib.Seq.{sets, set_comm, length-sets, length-take-le}
use Rattle.std.proofs.lemmas.List.{get_or-take}
use Rattle.table_format.specs.Table.{Arc, Table}
use Rattle.table_format.specs.Classes.{no_classes}
use Rattle.table_format.specs.Loaded.{arc_width, most_cells, arcs_cells, rows_cells, cells_of}
use Rattle.table_format.proofs.Classes.{no_classes-keep}
use Rattle.table_format.proofs.Loaded.{length-cells}
use Rattle.table_format.proofs.Stores.{then}
use Rattle.lexicon.specs.Words.{Word, listed}
use Rattle.lexicon.specs.Beginnings.{beginnings}
use Rattle.lexicon.specs.Lexicon.{most_states, words, TakenAs}
use Rattle.lexicon.specs.FirstBad.{Kept}
use Rattle.lexicon.proofs.Beginnings.{beginnings-rise}
use Rattle.trie_format.specs.Trie.{by_state, letter_arcs, cut_arc, trie_table}
use Rattle.trie_states.specs.declared.tree.State.{State}
use Rattle.trie_states.specs.declared.children.Links.{Links}
use Rattle.trie_states.specs.Tree.{Tree, state_at, parent_of, letter_of, ends_at, over_states, children, Linked, child_arc}
use Rattle.trie_states.proofs.Rows.{children-are}
use Rattle.trie.specs.Cells.{Chains, marked, state_arcs, terminals_begin, front, counts_before}
use Rattle.trie_format.proofs.Headlines.{trie_cells}

-- a store before a run of them
store-first : (vs l : List ℕ) (i k v : ℕ) → k < i → set (sets l i vs) k v ≡ sets (set l k v) i vs
store-first [] l i k v h = refl
store-first (x ∷ vs) l i k v h =
    store-first vs (set l i x) (suc i) k v (omega arith) ∙ ap (λ (c : List ℕ). sets c (suc i) vs) (set_comm l i k x v (λ e. omega arith))

-- what stands before a run, stored after it
store-before : (xs vs l : List ℕ) (at i : ℕ) → i ≡ at + length xs → sets (sets l i vs) at xs ≡ sets l at (xs ++ vs)
store-before [] vs l at i e = let f : i ≡ at = omega arith in ap (λ (k : ℕ). sets l k vs) f
store-before (x ∷ xs) vs l at i e =
    ap (λ (m : List ℕ). sets m (suc at) xs) (store-first vs l i at x (omega arith)) ∙ store-before xs vs (set l at x) (suc at) i (omega arith)

-- by beginnings, or by numbers alone
by_over : {A : Type 0} (g : ℕ → Word → List A) (f : ℕ → List A) (bs : List Word) (i : ℕ) → ((s k : ℕ) → s ≡ i + k → k < length bs → g s (get_or bs k []) ≡ f s) → by_state g i bs ≡ over_states f i (length bs)
by_over g f [] i h = refl
by_over g f (b ∷ bs) i h = ap₂ (λ (x y : List _). x ++ y) (h i 0 (omega arith) (omega arith)) (by_over g f bs (suc i) (λ s k e l. h s (suc k) (omega arith) (omega arith)))

-- the same by functions that agree below a number
over-same : {A : Type 0} (f g : ℕ → List A) (n i : ℕ) → ((j : ℕ) → i ≤ j → j < i + n → f j ≡ g j) → over_states f i n ≡ over_states g i n
over-same f g zero i h = refl
over-same f g (suc n) i h = ap₂ (λ (x y : List _). x ++ y) (h i (omega arith) (omega arith)) (over-same f g n (suc i) (λ j a b. h j (omega arith) (omega arith)))

pub states-some : (ws : List Word) → 0 < length (beginnings ws)
unfolding beginnings
states-some ws = omega arith

module _ {ws : List Word} (K : Kept ws) {tree : List State} {links : List Links} {states : ℕ} (states-are : states ≡ length (beginnings ws))
    (T : Tree ws (beginnings ws) tree) (L : Linked tree states links) where
  abbrev t : Table
  t = trie_table ws

  abbrev below : ℕ → List ℕ
  below i = children (parent_of tree) i 1 (states - 1)

  chains : Chains links states below
  chains i h = L.chains i (omega (arith, states-are, K.few))

  abbrev terminals : List ℕ
  terminals = marked tree 0 states

  abbrev arcs : List Arc
  arcs = over_states (state_arcs tree below) 0 states

  terminals-are : t.terminals ≡ terminals
  terminals-are =
      by_over (λ i b. cond (listed ws b) (i ∷ []) []) (λ i. cond (ends_at tree i) (i ∷ []) []) (beginnings ws) 0
      (λ s k e h. ap (λ (x : Bool). cond x (s ∷ []) []) (sym (T.marks k h) ∙ ap (ends_at tree) (omega arith)))
      ∙ ap (marked tree 0) (sym states-are)

  arcs-are : t.arcs ≡ arcs
  arcs-are = by_over (λ i b. letter_arcs (beginnings ws) i b 1 62 ++ cond (listed ws b) (cut_arc i ∷ []) []) (state_arcs tree below) (beginnings ws) 0 here ∙ ap (over_states (state_arcs tree below) 0) (sym states-are)
    where
      here : (s k : ℕ) → s ≡ 0 + k → k < length (beginnings ws)
          → letter_arcs (beginnings ws) s (get_or (beginnings ws) k []) 1 62 ++ cond (listed ws (get_or (beginnings ws) k [])) (cut_arc s ∷ []) [] ≡ state_arcs tree below s
      here s k e h =
          let f : k ≡ s = omega arith in
          ap₂ (λ (x : List Arc) (y : Bool). x ++ cond y (cut_arc s ∷ []) [])
          (ap (λ (j : ℕ). letter_arcs (beginnings ws) s (get_or (beginnings ws) j []) 1 62) f
          ∙ children-are (parent_of tree) (letter_of tree) (beginnings ws) T.rows (beginnings-rise ws K.holds) s (omega arith)
          ∙ ap (λ (n : ℕ). map (child_arc (letter_of tree) s) (children (parent_of tree) s 1 (n - 1))) (sym states-are))
          (sym (T.marks k h) ∙ ap (ends_at tree) f)

  cells_are : cells_of t ≡ front states (length terminals) (length arcs) ++ (terminals ++ arcs_cells arcs)
  unfolding cells_of rows_cells no_classes
  cells_are =
      ap₂ (λ (u : List ℕ) (v : List Arc). front (length (beginnings ws)) (length u) (length v) ++ (u ++ arcs_cells v)) terminals-are arcs-are
      ∙ ap (λ (n : ℕ). front n (length terminals) (length arcs) ++ (terminals ++ arcs_cells arcs)) (sym states-are)

  size : length (cells_of t) ≡ terminals_begin + length terminals + arc_width * length arcs
  size = length-cells t no_classes-keep ∙ ap₂ (λ (u : List ℕ) (v : List Arc). terminals_begin + length u + arc_width * length v) terminals-are arcs-are

  pub room : terminals_begin + length terminals + arc_width * length arcs ≤ 2938
  room = omega (arith, size, trie_cells ws K)

  pub few : states ≤ most_states
  few = omega (arith, states-are, K.few)

  -- the rows of the states alone
  abbrev front_rows : List State
  front_rows = take states tree

  front-length : length front_rows ≡ states
  front-length = length-take-le states tree (omega (arith, few, T.states_all))

  front-same : (i : ℕ) → i < states → state_at front_rows i ≡ state_at tree i
  front-same i h = get_or-take states tree i _ (omega arith)

  pub terminals-front : marked front_rows 0 (length front_rows) ≡ terminals
  terminals-front = ap (marked front_rows 0) front-length ∙ over-same (λ i. cond (ends_at front_rows i) (i ∷ []) []) (λ i. cond (ends_at tree i) (i ∷ []) []) states 0 (λ i a h. ap (λ (x : State). cond x.is_end (i ∷ []) []) (front-same i (omega arith)))

  pub terminals-room : (cells : List ℕ) → length cells ≡ most_cells
      → (length front_rows ≤ most_states) × (terminals_begin + length (marked front_rows 0 (length front_rows)) ≤ length cells)
  terminals-room cells all = (omega (arith, front-length, few), omega (arith, room, ap length terminals-front, all))

  -- what the terminal states leave, and what the arcs then may take
  module _ (cells cells' : List ℕ) (to : ℕ)
      (put : (to ≡ terminals_begin + length (marked front_rows 0 (length front_rows))) × (cells' ≡ sets cells terminals_begin (marked front_rows 0 (length front_rows))))
      (all : length cells ≡ most_cells) where
    told : (to ≡ terminals_begin + length terminals) × (cells' ≡ sets cells terminals_begin terminals)
    told = (put.0 ∙ ap (λ (l : List ℕ). terminals_begin + length l) terminals-front, put.1 ∙ ap (sets cells terminals_begin) terminals-front)

    cells-length : length cells' ≡ most_cells
    cells-length = ap length told.1 ∙ length-sets cells terminals_begin terminals ∙ all

    pub arcs-lent : (below : ℕ → List ℕ) × Chains links states below × (to + arc_width * length (over_states (state_arcs tree below) 0 states) ≤ length cells')
    arcs-lent = (below, chains, omega (arith, room, told.0, cells-length))

    -- what the arcs leave
    module _ (cells'' : List ℕ) (end : ℕ)
        (arcs-put : (below : ℕ → List ℕ) → Chains links states below
        → (end ≡ to + arc_width * length (over_states (state_arcs tree below) 0 states)) × (cells'' ≡ sets cells' to (arcs_cells (over_states (state_arcs tree below) 0 states)))) where
      laid : (end ≡ to + arc_width * length arcs) × (cells'' ≡ sets cells' to (arcs_cells arcs))
      laid = arcs-put below chains

      pub record Sizes : Type 0 where
        pub terminals_at_lem : terminals_begin ≤ to
        pub arcs_at_lem : to ≤ end
        pub most : end ≤ 2938
        pub cells-all : length cells'' ≡ most_cells

      pub sizes : Sizes
      sizes =
          record {
            terminals_at_lem = omega (arith, told.0);
            arcs_at_lem = omega (arith, laid.0);
            most = omega (arith, room, told.0, laid.0);
            cells-all = ap length laid.1 ∙ length-sets cells' to (arcs_cells arcs) ∙ cells-length;
          }

      pub filled : (cells''' : List ℕ) → cells''' ≡ sets cells'' 0 (counts_before states to end) → (end ≡ length (cells_of t)) × (cells''' ≡ sets cells 0 (cells_of t))
      filled cells''' e =
          let T-is : to - terminals_begin ≡ length terminals = omega (arith, told.0) in
          let A-is : (end - to) / arc_width ≡ length arcs = omega (arith, laid.0) in (
            omega (arith, size, told.0, laid.0),
            e ∙ ap₂ (λ (x y : ℕ). sets cells'' 0 (front states x y)) T-is A-is
                ∙ ap (λ (m : List ℕ). sets m 0 (front states (length terminals) (length arcs)))
                (then cells cells' cells'' terminals_begin to terminals (arcs_cells arcs) told.1 told.0 laid.1)
                ∙ store-before (front states (length terminals) (length arcs)) (terminals ++ arcs_cells arcs) cells 0 terminals_begin refl ∙ ap (sets cells 0) (sym cells_are),
          )

-- bytes are taken as one list of words
pub taken-one : (bytes : List ℕ) (ws vs : List Word) → TakenAs bytes ws → TakenAs bytes vs → ws ≡ vs
taken-one bytes ws vs e f = let g : words ws ≡ words vs = sym e ∙ f in cc
