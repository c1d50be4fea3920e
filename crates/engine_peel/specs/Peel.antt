-- What peeling says, of the graph of a table's idle arcs.
use Rattle.std.specs.Prelude.{ℕ, ◌+◌, ◌<◌, ◌≤◌, ◌≡◌, Bool, true, false, cond, eqb, List, [], ◌∷◌, length, get_or}
use Rattle.graph.specs.Walk.{Walk}
use Rattle.engine_graph.specs.declared.IdleGraph.{IdleGraph}
use Rattle.engine_graph.specs.Edge.{EdgeIn}

-- a state is alive: its cell is 1
abbrev pub Lives : List ℕ → ℕ → Type 0
Lives alive s = get_or alive s 0 ≡ 1

-- how many are
unfoldable pub living : List ℕ → ℕ
living [] = 0
living (x ∷ l) = cond (eqb x 1) 1 0 + living l

module _ (g : IdleGraph) where
  -- every state on a cycle is alive
  abbrev pub Cyclic : List ℕ → Type 0
  Cyclic alive = (s : ℕ) → Walk (EdgeIn g) s s → Lives alive s

  -- an idle arc leads from every state that is alive to one that is
  abbrev pub Stable : List ℕ → Type 0
  Stable alive = (s : ℕ) → s < g.states → Lives alive s → (r : ℕ) × EdgeIn g s r × Lives alive r

  -- whether no idle arc leads from q to a state that is alive
  pub record Leaf (alive : List ℕ) (q : ℕ) (r : Bool) : Type 0 where
    pub leads-on : r ≡ false → (x : ℕ) × EdgeIn g q x × Lives alive x
    pub leads_nowhere : r ≡ true → (x : ℕ) → EdgeIn g q x → Lives alive x → ⊥

  -- a round, and whether a state died in it
  pub record Peeled (before after : List ℕ) (died : Bool) : Type 0 where
    pub same_length : length after ≡ length before
    pub keeps : Cyclic before → Cyclic after
    pub no_more : living after ≤ living before
    pub fewer : died ≡ true → living after < living before
    pub stable : died ≡ false → Stable after

  -- all rounds; that nothing more can die (`stable`) says that they are all, and what is shown does not lean on it
  pub record Settled (before after : List ℕ) : Type 0 where
    pub same_length : length after ≡ length before
    pub keeps : Cyclic before → Cyclic after
    pub stable : Stable after
