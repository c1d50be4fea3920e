-- Report 6486, sections 1 and 2.2, on its own terms, but for noetherian, which is document 004's; of the rest of this crate it uses only the names
-- of the tasks.
use Rattle.std.specs.Prelude.{ℕ, zero, suc, ◌+◌, ◌≤◌, ◌≡◌, ◌↔◌, Bool, true, false}
use mathlib.Core.List.{List, [], ◌∷◌, ◌++◌, Memᴰ}
use Rattle.table_format.specs.Table.{Arc, Table}
use Rattle.table_format.specs.Classes.{is_plain, row_of, with_letter}
use Rattle.machine.specs.Query.{Task, recognition, synthesis, analysis}

infixl 60 ◌∘◌
infixl 70 ◌⊗◌
-- Section 1: relations, the identity, composition; the product of section 2.2.

-- a relation from one set to another
abbrev pub Rel : Type 0 → Type 0 → Type 1
Rel A B = A → B → Type 0

-- id
abbrev pub identity : {A : Type 0} → Rel A A
identity a b = a ≡ b

-- composition, ρ first
abbrev pub ◌∘◌ : {A B C : Type 0} → Rel A B → Rel B C → Rel A C
◌∘◌ {B = B} ρ σ a c = (b : B) × ρ a b × σ b c

-- product
abbrev pub ◌⊗◌ : {A B C D : Type 0} → Rel A B → Rel C D → Rel (A × C) (B × D)
◌⊗◌ ρ σ x y = ρ x.0 y.0 × σ x.1 y.1

-- definition 1.1: a relation is locally finite where "for all data d .. the set ρ(d) is finite": a list has what d is related to, and nothing else
abbrev pub LocallyFinite : {A B : Type 0} → Rel A B → Type 0
LocallyFinite {A} {B} ρ = (a : A) → (l : List B) × ((b : B) → ρ a b ↔ Memᴰ b l)

-- Section 1: the kernel of a machine is an automaton, here a table, labelled with relations on the data.

-- the kernel of a machine on data
pub record Kernel : Type 1 where
  pub Data : Type 0
  pub table : Table
  pub relation : Arc → Rel Data Data

module _ (K : Kernel) where
  -- "a pair c = (d, q)"
  abbrev pub Cell : Type 0
  Cell = K.Data × ℕ

  -- "An edge is a triple ((d, q), φ, (d', q'))": (φ, q') is in δ(q) and d' in φ(d)
  pub record Edge (c e : Cell) : Type 0 where
    pub arc : Arc
    pub listed : Memᴰ arc K.table.arcs
    pub from : arc.source ≡ c.1
    pub to : arc.target ≡ e.1
    pub related : K.relation arc c.0 e.0

  -- "A trace is a sequence of consecutive edges"; each cell "defines a null trace"
  pub data Trace (c : Cell) : Cell → Type 0 where
    null : Trace c c
    thence : {e f : Cell} → Trace c e → Edge e f → Trace c f

  -- a path, and its label, "the composition of relations"
  pub data KernelPath (q : ℕ) : ℕ → Type 0 where
    empty_path : KernelPath q q
    longer_path : {r s : ℕ} → KernelPath q r → (a : Arc) → Memᴰ a K.table.arcs → a.source ≡ r → a.target ≡ s → KernelPath q s

  -- "the label of a path .. is the composition of relations"
  abbrev pub label : {q r : ℕ} → KernelPath q r → Rel K.Data K.Data
  label empty_path = identity
  label (longer_path w a m e f) = label w ∘ K.relation a

  -- "The path p is successful when q₀ ∈ I and qₙ ∈ T"; the characteristic relation is the union of the labels of all successful paths
  abbrev pub Characteristic : Rel K.Data K.Data
  Characteristic d e = (q : ℕ) × (r : ℕ) × Memᴰ q K.table.initials × Memᴰ r K.table.terminals × ((w : KernelPath q r) × label w d e)

  -- document 004: "La cellule est dite initiale .. si q est un état initial"
  abbrev pub InitialCell : Cell → Type 0
  InitialCell c = Memᴰ c.1 K.table.initials

  -- document 004: "noëthérienne si tous ses calculs sont finis", where a computation begins at an initial cell. Report 6486 has more: "no infinite
  -- trace", from any cell.
  abbrev pub Noetherian : Type 0
  Noetherian = (c : ℕ → Cell) → InitialCell (c 0) → ((n : ℕ) → Edge (c n) (c (suc n))) → ⊥

  -- a machine is locally finite where every relation of its arcs is (definition 1.1), and finite, in document 004 as in report 6486, where it is
  -- locally finite and noetherian
  pub record Finite : Type 0 where
    pub locally_finite : (a : Arc) → Memᴰ a K.table.arcs → LocallyFinite (K.relation a)
    pub noetherian : Noetherian

-- the arcs of a trace, the last one first
abbrev pub arcs_of : {K : Kernel} {c e : Cell K} → Trace K c e → List Arc
arcs_of null = []
arcs_of (thence T E) = E.arc ∷ arcs_of T

-- Section 2: L⁻¹ takes a letter off the left of a word, R puts one on the right.

-- a word over letters
abbrev pub Word : Type 0
Word = List ℕ

-- { (σw, w) }
abbrev pub L⁻¹ : ℕ → Rel Word Word
L⁻¹ σ v w = v ≡ σ ∷ w

-- { (w, wγ) }
abbrev pub R : ℕ → Rel Word Word
R γ v w = w ≡ v ++ (γ ∷ [])

-- a letter that is read; 0 is the empty word ε
abbrev pub read_letter : ℕ → Rel Word Word
read_letter zero = identity
read_letter (suc σ) = L⁻¹ (suc σ)

-- a letter that is written, the same
abbrev pub write_letter : ℕ → Rel Word Word
write_letter zero = identity
write_letter (suc γ) = R (suc γ)

-- Section 2.2: the relabelling α of each task, and its interface.

-- an arc's label (σ, γ) is (σ, ε) (ε, γ), and α is a morphism: α (σ, γ) is the product of both sides' relations (label_is)
abbrev pub α : Task → Arc → Rel (Word × Word) (Word × Word)
α recognition a = read_letter a.upper ⊗ read_letter a.lower
α synthesis a = read_letter a.upper ⊗ write_letter a.lower
α analysis a = write_letter a.upper ⊗ read_letter a.lower

-- the arc with its upper letter alone, (σ, ε)
abbrev pub upper_alone : Arc → Arc
upper_alone a = record { source = a.source; upper = a.upper; lower = 0; target = a.target; penalty = a.penalty }

-- and with its lower letter alone, (ε, γ)
abbrev pub lower_alone : Arc → Arc
lower_alone a = record { source = a.source; upper = 0; lower = a.lower; target = a.target; penalty = a.penalty }

-- Slip 6: the relation of an arc is α of it where it is plain; for a class it is the union of those of the plain arcs of its letters
abbrev pub αIf : Bool → List ℕ → Task → Arc → Rel (Word × Word) (Word × Word)
αIf true row k a d e = α k a d e
αIf false row k a d e = (x : ℕ) × Memᴰ (suc x) row × α k (with_letter a (suc x)) d e

abbrev pub αOf : List (List ℕ) → Task → Arc → Rel (Word × Word) (Word × Word)
αOf rows k a = αIf (is_plain a) (row_of rows a.upper) k a

-- the machine α(A) of a table and a task, whatever the penalties: "the refusal for loops ignores penalties"
abbrev pub kernel : Table → Task → Kernel
kernel t k = record { Data = Word × Word; table = t; relation = αOf t.classes k }

-- Slip 10: a penalty p is added to the sum of those before it, where that stays within the ceiling c
abbrev pub adds : ℕ → ℕ → Rel ℕ ℕ
adds c p s r = (r ≡ s + p) × (r ≤ c)

-- "Paths, also demand 2's, .. go by this narrower meaning of fitting": the machine under a ceiling, whose data have the sum beside the words
abbrev pub kernel_under : Table → Task → ℕ → Kernel
kernel_under t k c = record { Data = (Word × Word) × ℕ; table = t; relation = λ a. αOf t.classes k a ⊗ adds c a.penalty }

-- D₋, the input set
abbrev pub Input : Task → Type 0
Input recognition = Word × Word
Input synthesis = Word
Input analysis = Word

-- D₊, the output set: the Boolean set for recognition, words for synthesis and analysis
abbrev pub Output : Task → Type 0
Output recognition = Bool
Output synthesis = Word
Output analysis = Word

-- "φ₊ (ε, ε) = ⊤ or ⊥ otherwise"
abbrev pub both_empty : Word → Word → Bool
both_empty [] [] = true
both_empty [] (x ∷ w) = false
both_empty (x ∷ v) [] = false
both_empty (x ∷ v) (y ∷ w) = false

-- recognition: id; synthesis: { (w, (w, ε)) }; analysis the same with the sides exchanged
abbrev pub φ₋ : (k : Task) → Rel (Input k) (Word × Word)
φ₋ recognition v d = v ≡ d
φ₋ synthesis w d = (d.0 ≡ w) × (d.1 ≡ [])
φ₋ analysis w d = (d.0 ≡ []) × (d.1 ≡ w)

-- recognition: both_empty; synthesis: { ((ε, w'), w') }; analysis the same with the sides exchanged
abbrev pub φ₊ : (k : Task) → Rel (Word × Word) (Output k)
φ₊ recognition d b = both_empty d.0 d.1 ≡ b
φ₊ synthesis d w = (d.0 ≡ []) × (d.1 ≡ w)
φ₊ analysis d w = (d.0 ≡ w) × (d.1 ≡ [])

-- the interface of the machine under a ceiling: the sum is 0 at first, and none is asked for at last
abbrev pub feeds : (k : Task) → Rel (Input k) ((Word × Word) × ℕ)
feeds k w d = φ₋ k w d.0 × (d.1 ≡ 0)

abbrev pub tells : (k : Task) → Rel ((Word × Word) × ℕ) (Output k)
tells k d x = φ₊ k d.0 x

-- "A machine kernel with its interface defines a relation": φ₋ ∘ ‖M‖ ∘ φ₊, here with the sum (`feeds`, `tells`)
abbrev pub Solves : (t : Table) (k : Task) (c : ℕ) → Rel (Input k) (Output k)
Solves t k c = feeds k ∘ Characteristic (kernel_under t k c) ∘ tells k
