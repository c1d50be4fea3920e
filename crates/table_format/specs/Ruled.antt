-- What document 01 and slips 6 and 10 of document 02 say of a table, as facts on its counts and items. A table keeps the rules of Rules exactly where
-- these hold.
use Rattle.std.specs.Prelude.{ℕ, suc, ◌≤◌, ◌<◌, ◌≡◌, true, false, length, get_or}
use mathlib.Core.List.{List, [], ◌∷◌, Memᴰ}
use Rattle.table_format.specs.Table.{Arc, Table, without_penalty}
use Rattle.table_format.specs.Classes.{class_count, row_width, row_with, is_defined, is_plain, row_of}

-- elements of which a function makes the same have one place
abbrev pub DifferBy : {A B : Type 0} → (A → B) → List A → Type 0
DifferBy {A} f l = (d : A) (i j : ℕ) → i < length l → j < length l → f (get_or l i d) ≡ f (get_or l j d) → i ≡ j

-- equal elements have one place
abbrev pub Differ : {A : Type 0} → List A → Type 0
Differ {A} l = DifferBy (λ (x : A). x) l

-- each number is above the one before it
abbrev pub Rise : List ℕ → Type 0
Rise l = (i : ℕ) → suc i < length l → get_or l i 0 < get_or l (suc i) 0

-- sources do not fall, from s on
abbrev pub AtLeast : ℕ → List Arc → Type 0
AtLeast s [] = Unit {0}
AtLeast s (a ∷ bs) = (s ≤ a.source) × AtLeast a.source bs

-- a class's row: "1 to 16 letters from 1 to 63, rising"; with none, the class is not defined
pub record ClassRow (row : List ℕ) : Type 0 where
  pub letters : List ℕ
  pub row_is : row ≡ row_with letters
  pub few : length letters ≤ row_width
  pub letter_in_lem : (x : ℕ) → Memᴰ x letters → (1 ≤ x) × (x ≤ 63)
  pub rise : Rise letters

pub record Ruled (t : Table) : Type 0 where
  -- "1 to 256 states numbered from 0"
  pub some-state : 1 ≤ t.states
  pub few-states : t.states ≤ 256
  -- "an ordered list of 1 or more different initial states", "1 to states"
  pub some-initial : 1 ≤ length t.initials
  pub few-initials : length t.initials ≤ t.states
  pub initial_in : (s : ℕ) → Memᴰ s t.initials → s < t.states
  pub initials-differ : Differ t.initials
  -- "a set of terminal states (it may be empty)", "rising", "0 to states"
  pub few-terminals : length t.terminals ≤ t.states
  pub terminal_in : (s : ℕ) → Memᴰ s t.terminals → s < t.states
  pub terminals_rise_lem : Rise t.terminals
  -- "0 to 1,024 arcs", "by rising source"
  pub few-arcs : length t.arcs ≤ 1024
  pub rising : AtLeast 0 t.arcs
  -- "class 0 to 7, and each class lists 1 to 16 letters from 1 to 63, rising"
  pub eight-rows : length t.classes ≡ class_count
  pub row_in : (row : List ℕ) → Memᴰ row t.classes → ClassRow row
  -- "a source state, an upper letter, a lower letter and a target state. Letters are 1 to 63; 0 on an arc means no letter", "Refusal 5 begins
  -- at 72"
  pub source_in : (a : Arc) → Memᴰ a t.arcs → a.source < t.states
  pub target_in : (a : Arc) → Memᴰ a t.arcs → a.target < t.states
  pub upper_in : (a : Arc) → Memᴰ a t.arcs → a.upper ≤ 71
  pub lower_in : (a : Arc) → Memᴰ a t.arcs → a.lower ≤ 71
  -- "An arc with a class carries the same class on both sides", "an undefined class or unlike sides give 34"
  pub class_alike : (a : Arc) → Memᴰ a t.arcs → is_plain a ≡ false → a.upper ≡ a.lower
  pub class_defined : (a : Arc) → Memᴰ a t.arcs → is_plain a ≡ false → is_defined (row_of t.classes a.upper) ≡ true
  -- "An arc may carry a penalty of 0 to 255"
  pub penalty_in : (a : Arc) → Memᴰ a t.arcs → a.penalty ≤ 255
  -- "No two arcs agree in all four fields.", "Arcs are still compared for equality without it"
  pub arcs-differ : DifferBy without_penalty t.arcs
