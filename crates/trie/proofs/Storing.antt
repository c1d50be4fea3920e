-- Cells laid out state by state.
use Prim.Native.Nat.{ℕ, zero, suc, ◌+◌, ◌-◌, ◌*◌, ◌≤◌, ◌<◌}
use native.Mathlib.Omega.{arith}
use mathlib.Core.Path.{◌≡◌, refl, sym, ap, ◌∙◌}
use mathlib.Core.Bool.{Bool, true, false, cond}
use mathlib.Core.List.{List, [], ◌∷◌, ◌++◌, map, append_assoc, append-nil}
use lib.ListN.{length, set, length-append, length-map}
use Rattle.std.specs.Prelude.{Option, Some, None, IfSome}
use lib.Seq.{sets, length-sets}
use Rattle.table_format.specs.Table.{Arc}
use Rattle.table_format.specs.Loaded.{arc_width, arc_cells, arcs_cells}
use Rattle.table_format.proofs.Loaded.{length-arcs_cells}
use Rattle.table_format.proofs.Stores.{sets-append, then}
use Rattle.lexicon.specs.Lexicon.{most_states}
use Rattle.trie_states.specs.declared.tree.State.{State}
use Rattle.trie_states.specs.declared.children.Links.{Links}
use Rattle.trie_states.specs.Tree.{letter_of, ends_at, first_of, next_of, over_states, Chain, child_arc}
use Rattle.trie.specs.Cells.{Chains, cut_arcs, state_arcs}
use Rattle.trie_states.proofs.Linking.{chain-none, chain-step}

-- the states from one on: it, then the others
over-next : {A : Type 0} (f : ℕ → List A) (state states : ℕ) → state < states → over_states f state (states - state) ≡ f state ++ over_states f (state + 1) (states - (state + 1))
over-next f state states h =
    let e : states - state ≡ suc (states - (state + 1)) = omega arith in
    let g : suc state ≡ state + 1 = omega arith in
    ap (over_states f state) e ∙ ap (λ (i : ℕ). f state ++ over_states f i (states - (state + 1))) g

over_none : {A : Type 0} (f : ℕ → List A) (state states : ℕ) → states ≤ state → over_states f state (states - state) ≡ []
over_none f state states h = let e : states - state ≡ 0 = omega arith in ap (over_states f state) e

-- the cells of states to come stand behind those that are there
pub record Laying (f : ℕ → List ℕ) (old : List ℕ) (at states : ℕ) (cells : List ℕ) (to state : ℕ) : Type 0 where
  pub same : length cells ≡ length old
  pub within : state ≤ states
  pub left : to + length (over_states f state (states - state)) ≡ at + length (over_states f 0 states)
  pub stored : sets cells to (over_states f state (states - state)) ≡ sets old at (over_states f 0 states)

module _ (f : ℕ → List ℕ) (old : List ℕ) (at states : ℕ) (cells : List ℕ) (to state : ℕ) (L : Laying f old at states cells to state) where
  pub laying_room : state < states → to + length (f state) ≤ at + length (over_states f 0 states)
  laying_room h = omega (arith, L.left, ap length (over-next f state states h), length-append (f state) (over_states f (state + 1) (states - (state + 1))))

  pub laying_more : state < states → (cells' : List ℕ) (to' : ℕ) → cells' ≡ sets cells to (f state) → to' ≡ to + length (f state) → Laying f old at states cells' to' (state + 1)
  laying_more h cells' to' e g =
      record {
        same = ap length e ∙ length-sets cells to (f state) ∙ L.same;
        within = omega arith;
        left = omega (arith, L.left, ap length (over-next f state states h), length-append (f state) (over_states f (state + 1) (states - (state + 1))));
        stored = ap (λ (c : List ℕ). sets c to' (over_states f (state + 1) (states - (state + 1)))) e ∙ sets-append cells to to' (f state) (over_states f (state + 1) (states - (state + 1))) g
            ∙ ap (sets cells to) (sym (over-next f state states h)) ∙ L.stored;
      }

  pub laying_done : states ≤ state → (to ≡ at + length (over_states f 0 states)) × (cells ≡ sets old at (over_states f 0 states))
  laying_done h = (omega (arith, L.left, ap length (over_none f state states h)), ap (sets cells to) (sym (over_none f state states h)) ∙ L.stored)

-- what stands where a word ends, and where none does
pub when_true : {A : Type 0} (x y : A) {b : Bool} → b ≡ true → cond b x y ≡ x
when_true x y e = rw e

pub when_false : {A : Type 0} (x y : A) {b : Bool} → b ≡ false → cond b x y ≡ y
when_false x y e = rw e

-- Arcs.

pub arc-stored : (l : List ℕ) (at a b c d v : ℕ) → set (set (set (set (set l at a) (at + 1) b) (at + 2) c) (at + 3) d) (at + 4) v ≡ sets l at (a ∷ b ∷ c ∷ d ∷ v ∷ [])
arc-stored l at a b c d v =
    let e : at + 1 ≡ suc at = omega arith in
    let f : at + 2 ≡ suc (suc at) = omega arith in
    let g : at + 3 ≡ suc (suc (suc at)) = omega arith in
    let h : at + 4 ≡ suc (suc (suc (suc at))) = omega arith in
    λ i. set (set (set (set (set l at a) (e i) b) (f i) c) (g i) d) (h i) v

cells-append : (xs ys : List Arc) → arcs_cells (xs ++ ys) ≡ arcs_cells xs ++ arcs_cells ys
unfolding arcs_cells
cells-append [] ys = refl
cells-append (x ∷ xs) ys = ap (λ (l : List ℕ). arc_cells x ++ l) (cells-append xs ys) ∙ sym (append_assoc (arc_cells x) (arcs_cells xs) (arcs_cells ys))

-- arcs state by state are cells state by state
pub cells_over : (f : ℕ → List Arc) (i n : ℕ) → arcs_cells (over_states f i n) ≡ over_states (λ j. arcs_cells (f j)) i n
unfolding arcs_cells
cells_over f i zero = refl
cells_over f i (suc n) = cells-append (f i) (over_states f (suc i) n) ∙ ap (λ (l : List ℕ). arcs_cells (f i) ++ l) (cells_over f (suc i) n)

pub one-cells : (a : Arc) → arcs_cells (a ∷ []) ≡ arc_cells a
unfolding arcs_cells
one-cells a = append-nil (arc_cells a)

pub none-cells : arcs_cells [] ≡ []
unfolding arcs_cells
none-cells = refl

-- To children.

-- at a turn: the children to come from a child on, for any list of them from the first on
pub record Going (arc : ℕ → Arc) (after : ℕ → Option ℕ) (old : List ℕ) (at : ℕ) (cells : List ℕ) (to : ℕ) (child : Option ℕ) (l : List ℕ) : Type 0 where
  pub rest : List ℕ
  pub chain : Chain after child rest
  pub left : to + arc_width * length rest ≡ at + arc_width * length l
  pub stored : sets cells to (arcs_cells (map arc rest)) ≡ sets old at (arcs_cells (map arc l))

pub record GoingAll (arc : ℕ → Arc) (after : ℕ → Option ℕ) (old : List ℕ) (at : ℕ) (first : Option ℕ) (cells : List ℕ) (to : ℕ) (child : Option ℕ) : Type 0 where
  pub same : length cells ≡ length old
  pub each : (l : List ℕ) → Chain after first l → Going arc after old at cells to child l

module _ {arc : ℕ → Arc} {after : ℕ → Option ℕ} {old : List ℕ} {at : ℕ} {first : Option ℕ} {cells : List ℕ} {to : ℕ} {child : Option ℕ}
    (G : GoingAll arc after old at first cells to child) where
  -- a child is there: the next one comes later, and there is room for its arc
  pub going_on : {k : ℕ} → child ≡ Some k → (l : List ℕ) → Chain after first l → (k < most_states) × IfSome (after k) (λ n. k < n) × (to + arc_width ≤ at + arc_width * length l)
  going_on {k} h l C =
      let g = G.each l C in
      let S = chain-step after child k g.rest g.chain h in
      (S.low, S.above, omega (arith, g.left, ap length S.is))

  pub going_more : {k : ℕ} → child ≡ Some k → {cells' : List ℕ} → cells' ≡ sets cells to (arc_cells (arc k)) → GoingAll arc after old at first cells' (to + arc_width) (after k)
  unfolding arcs_cells
  going_more {k} h {cells'} e =
      record {
        same = ap length e ∙ length-sets cells to (arc_cells (arc k)) ∙ G.same;
        each = λ l C.
            let g = G.each l C in
            let S = chain-step after child k g.rest g.chain h in
            record {
              rest = S.rest;
              chain = S.chain;
              left = omega (arith, g.left, ap length S.is);
              stored = ap (λ (c : List ℕ). sets c (to + arc_width) (arcs_cells (map arc S.rest))) e
                  ∙ sets-append cells to (to + arc_width) (arc_cells (arc k)) (arcs_cells (map arc S.rest)) refl
                  ∙ ap (λ (k : List ℕ). sets cells to (arcs_cells (map arc k))) (sym S.is) ∙ g.stored;
            };
      }

  pub going_done : child ≡ None → (l : List ℕ) → Chain after first l → (to ≡ at + arc_width * length l) × (cells ≡ sets old at (arcs_cells (map arc l)))
  unfolding arcs_cells
  going_done h l C =
      let g = G.each l C in
      let e = chain-none after child g.rest g.chain h in
      (omega (arith, g.left, ap length e), ap (λ (k : List ℕ). sets cells to (arcs_cells (map arc k))) (sym e) ∙ g.stored)

-- the states that may still come
abbrev pub steps_left : Option ℕ → ℕ
steps_left None = 0
steps_left (Some k) = most_states - k

pub steps-fewer : (o : Option ℕ) (k : ℕ) → k < most_states → IfSome o (λ n. k < n) → steps_left o < steps_left (Some k)
steps-fewer None k h l = omega arith
steps-fewer (Some n) k h l = omega arith

-- The arcs of all states.

abbrev pub state_cells : List State → (ℕ → List ℕ) → ℕ → List ℕ
state_cells tree below i = arcs_cells (state_arcs tree below i)

pub record LayingAll (tree : List State) (links : List Links) (old : List ℕ) (at states : ℕ) (cells : List ℕ) (to state : ℕ) : Type 0 where
  pub same : length cells ≡ length old
  pub each : (below : ℕ → List ℕ) → Chains links states below → Laying (state_cells tree below) old at states cells to state

module _ {tree : List State} {links : List Links} {old : List ℕ} {at states : ℕ} {cells : List ℕ} {to state : ℕ} (L : LayingAll tree links old at states cells to state) where
  module _ (below : ℕ → List ℕ) (C : Chains links states below) (h : state < states) where
    abbrev arcs : List Arc
    arcs = map (child_arc (letter_of tree) state) (below state)

    abbrev cuts : List Arc
    cuts = cut_arcs state (ends_at tree state)

    arcs-length : length arcs ≡ length (below state)
    arcs-length = length-map (below state) (child_arc (letter_of tree) state)

    parts : length (state_cells tree below state) ≡ arc_width * length (below state) + arc_width * length cuts
    parts = omega (arith, length-arcs_cells (arcs ++ cuts), length-append arcs cuts, arcs-length)

    -- room for a state's arcs, where there is for all
    pub arcs-room : at + arc_width * length (over_states (state_arcs tree below) 0 states) ≤ length old
        → (to + arc_width * length (below state) + arc_width * length cuts ≤ length cells)
    arcs-room r =
        omega (
          arith,
          parts,
          laying_room (state_cells tree below) old at states cells to state (L.each below C) h,
          L.same,
          length-arcs_cells (over_states (state_arcs tree below) 0 states),
          ap length (cells_over (state_arcs tree below) 0 states),
        )

    -- and then for the one back to the root
    pub cut-room : at + arc_width * length (over_states (state_arcs tree below) 0 states) ≤ length old
        → {cells' : List ℕ} {to' : ℕ} → (to' ≡ to + arc_width * length (below state)) × (cells' ≡ sets cells to (arcs_cells arcs)) → to' + arc_width * length cuts ≤ length cells'
    cut-room r put = omega (arith, arcs-room r, put.0, ap length put.1, length-sets cells to (arcs_cells arcs))

    -- a state's arcs: to its children, then back to the root
    arcs-more : {cells' cells'' : List ℕ} {to' to'' : ℕ} → (to' ≡ to + arc_width * length (below state)) × (cells' ≡ sets cells to (arcs_cells arcs))
        → (to'' ≡ to' + arc_width * length cuts) × (cells'' ≡ sets cells' to' (arcs_cells cuts))
        → Laying (state_cells tree below) old at states cells'' to'' (state + 1)
    arcs-more {cells'} {cells''} {to'} {to''} put cut =
        laying_more (state_cells tree below) old at states cells to state (L.each below C) h cells'' to''
        (then cells cells' cells'' to to' (arcs_cells arcs) (arcs_cells cuts) put.1 (omega (arith, put.0, length-arcs_cells arcs, arcs-length)) cut.1 ∙ ap (sets cells to) (sym (cells-append arcs cuts)))
        (omega (arith, parts, put.0, cut.0))

  pub arcs-all : (below : ℕ → List ℕ) → Chains links states below → state < states → {cells' cells'' : List ℕ} {to' to'' : ℕ}
      → ((l : List ℕ) → Chain (next_of links) (first_of links state) l
      → (to' ≡ to + arc_width * length l) × (cells' ≡ sets cells to (arcs_cells (map (child_arc (letter_of tree) state) l))))
      → (to'' ≡ to' + arc_width * length (cut_arcs state (ends_at tree state))) × (cells'' ≡ sets cells' to' (arcs_cells (cut_arcs state (ends_at tree state))))
      → LayingAll tree links old at states cells'' to'' (state + 1)
  arcs-all below C h {cells'} {cells''} {to'} {to''} put cut = record { same = (more below C).same; each = more }
    where
      more : (b : ℕ → List ℕ) → Chains links states b → Laying (state_cells tree b) old at states cells'' to'' (state + 1)
      more b D = arcs-more b D h (put (b state) (D state h)) cut

  pub laid-all : states ≤ state → (below : ℕ → List ℕ) → Chains links states below
      → (to ≡ at + arc_width * length (over_states (state_arcs tree below) 0 states)) × (cells ≡ sets old at (arcs_cells (over_states (state_arcs tree below) 0 states)))
  laid-all h below C =
      let D = laying_done (state_cells tree below) old at states cells to state (L.each below C) h in
      let e = cells_over (state_arcs tree below) 0 states in
      (omega (arith, D.0, ap length e, length-arcs_cells (over_states (state_arcs tree below) 0 states)), D.1 ∙ ap (sets old at) (sym e))
