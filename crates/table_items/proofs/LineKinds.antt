-- The kinds of the lines after the header's: which one is due, what a line of each adds, and what it earns.
use Prim.Native.Nat.{ℕ, ◌+◌, ◌<◌, ◌≤◌}
use native.Mathlib.Omega.{arith}
use mathlib.Core.Path.{◌≡◌, refl, sym, ap, ap₂, ◌∙◌}
use mathlib.Core.Logic.{⊎_elim}
use mathlib.Core.Bool.{Bool, true, false, cond, not, ◌&&◌, ◌||◌, and-false, or-false}
use mathlib.Core.List.{List, [], ◌∷◌}
use lib.Dec.{eqb, leb}
use lib.ListN.{length, get_or}
use borrow.Author.Tests.{leb-true, eqb-true, eq-eqb, ne_eqb, le-leb, lt-leb, lt-ltb, le-ltb}
use Rattle.refusal.specs.declared.InputCause.{InputCause}
use Rattle.refusal.specs.declared.InputCause.TheVariants.{Misplaced}
use Rattle.std.specs.Prelude.{Result, Ok, Err}
use Rattle.table_format.specs.Table.{Table, Counts}
use Rattle.table_format.specs.Loaded.{initials_at, terminals_at, arcs_at, extent}
use Rattle.table_format.specs.Text.{line_bytes}
use Rattle.table_rules.specs.Judge.{judged}
use Rattle.table_format.specs.Parse.{has_form, in_place, LineKind, class, initial, terminal, arc, end, code_of, width_of, penalty_kind, penalty_width, number_at, class_from, letters_from, is_of, item_faults, kind_faults}
use Rattle.table_items.specs.declared.LineKind.{LineKind as CodedKind}
use Rattle.table_items.specs.declared.LineKind.TheVariants as Coded
use Rattle.table_items.specs.Draft.{kind_said, taken_as_class, kind_after, one_number, IsItem, place_of, filled_after, item_cells, item_key}
use Rattle.table_format.proofs.Tests.{and_left, and_right, and_both, or_cases}
use Rattle.table_format.proofs.Parse.{judges_class}
use Rattle.table_format.proofs.ClassLines.{ClassForm, class_form, ClassKept, class_kept}
use Rattle.table_rules.proofs.Turn.{kept-empty}

-- The kind after some cells.

not_class : (filled first : ℕ) → (first ≡ code_of class → ⊥) → taken_as_class filled first ≡ false
not_class filled first n = ap (λ (x : Bool). eqb filled initials_at && x) (ne_eqb first (code_of class) n) ∙ and-false (eqb filled initials_at)

pub not_taken : (filled first : ℕ) → (filled ≡ initials_at → first ≡ code_of class → ⊥) → taken_as_class filled first ≡ false
not_taken filled first n = go (eqb filled initials_at) refl
  where
    go : (x : Bool) → eqb filled initials_at ≡ x → taken_as_class filled first ≡ false
    go true e = not_class filled first (n (eqb-true filled initials_at e))
    go false e = ap (λ (x : Bool). x && eqb first (code_of class)) e

module _ (c : Counts) (filled first : ℕ) where
  pub after_class : taken_as_class filled first ≡ true → kind_after c filled first ≡ class
  unfolding kind_after
  after_class h = simp h

  module _ (none : taken_as_class filled first ≡ false) where
    pub after-initial : filled < terminals_at c → kind_after c filled first ≡ initial
    unfolding kind_after
    after-initial h = simp (none, lt-ltb filled (terminals_at c) h)

    pub after-terminal : terminals_at c ≤ filled → filled < arcs_at c → kind_after c filled first ≡ terminal
    unfolding kind_after
    after-terminal h k = simp (none, le-ltb filled (terminals_at c) h, lt-ltb filled (arcs_at c) k)

    pub after-arc : arcs_at c ≤ filled → filled < extent c → kind_after c filled first ≡ arc
    unfolding kind_after
    after-arc h k = simp (none, le-ltb filled (terminals_at c) (omega arith), le-ltb filled (arcs_at c) h, lt-ltb filled (extent c) k)

    pub after_end_lem : extent c ≤ filled → kind_after c filled first ≡ end
    unfolding kind_after
    after_end_lem h = simp (none, le-ltb filled (terminals_at c) (omega arith), le-ltb filled (arcs_at c) (omega arith), le-ltb filled (extent c) h)

-- The kinds as code holds them.

abbrev pub kind_held : LineKind → CodedKind
kind_held class = Coded.Class
kind_held initial = Coded.Initial
kind_held terminal = Coded.Terminal
kind_held arc = Coded.Arc
kind_held end = Coded.End

kind_held-said : (h : CodedKind) → kind_held (kind_said h) ≡ h
kind_held-said Coded.Class = refl
kind_held-said Coded.Initial = refl
kind_held-said Coded.Terminal = refl
kind_held-said Coded.Arc = refl
kind_held-said Coded.End = refl

pub kind_held_at : {h : CodedKind} (k : LineKind) → kind_said h ≡ k → h ≡ kind_held k
kind_held_at {h} k e = sym (kind_held-said h) ∙ ap kind_held e

-- The form of a line.

module _ (code width : ℕ) (b : List ℕ) where
  pub has_form_lem : get_or b 0 0 ≡ code → length b ≡ width → has_form code width b ≡ true
  has_form_lem e f = ap₂ ◌&&◌ (eq-eqb (get_or b 0 0) code e) (eq-eqb (length b) width f)

  pub not_code : (get_or b 0 0 ≡ code → ⊥) → has_form code width b ≡ false
  not_code n = ap (λ (x : Bool). x && eqb (length b) width) (ne_eqb (get_or b 0 0) code n)

  pub not_wide : (length b ≡ width → ⊥) → has_form code width b ≡ false
  not_wide n = ap (λ (x : Bool). eqb (get_or b 0 0) code && x) (ne_eqb (length b) width n) ∙ and-false (eqb (get_or b 0 0) code)

-- of a class line, which has no one length
module _ (b : List ℕ) where
  pub class_is : get_or b 0 0 ≡ code_of class → width_of class ≤ length b → length b ≤ line_bytes → is_of class b ≡ true
  class_is e h k = and_both (eq-eqb (get_or b 0 0) (code_of class) e) (and_both (le-leb (width_of class) (length b) h) (le-leb (length b) line_bytes k))

  pub class_other : (get_or b 0 0 ≡ code_of class → ⊥) → is_of class b ≡ false
  class_other n = ap (λ (x : Bool). x && (leb (width_of class) (length b) && leb (length b) line_bytes)) (ne_eqb (get_or b 0 0) (code_of class) n)

  pub class_short : length b < width_of class → is_of class b ≡ false
  class_short h =
      ap (λ (x : Bool). eqb (get_or b 0 0) (code_of class) && (x && leb (length b) line_bytes)) (lt-leb (width_of class) (length b) h)
      ∙ and-false (eqb (get_or b 0 0) (code_of class))

  pub class_long : line_bytes < length b → is_of class b ≡ false
  class_long h =
      ap (λ (x : Bool). eqb (get_or b 0 0) (code_of class) && (leb (width_of class) (length b) && x)) (lt-leb (length b) line_bytes h)
      ∙ ap (λ (x : Bool). eqb (get_or b 0 0) (code_of class) && x) (and-false (leb (width_of class) (length b)))
      ∙ and-false (eqb (get_or b 0 0) (code_of class))

-- of an arc line, whose first byte and length are two by its penalty
module _ (b : List ℕ) where
  pub arc-plain : get_or b 0 0 ≡ code_of arc → is_of arc b ≡ eqb (length b) (width_of arc)
  arc-plain e =
      ap₂ (λ (x y : Bool). (x && eqb (length b) (width_of arc)) || ((y && eqb (length b) penalty_width) && not (eqb (get_or b 7 0) 0)))
      (eq-eqb (get_or b 0 0) (code_of arc) e) (ne_eqb (get_or b 0 0) penalty_kind (λ z. omega arith))
      ∙ or-false (eqb (length b) (width_of arc))

  module _ (n : get_or b 0 0 ≡ code_of arc → ⊥) where
    penalised : {x : Bool} → has_form penalty_kind penalty_width b ≡ x → is_of arc b ≡ (x && not (eqb (get_or b 7 0) 0))
    penalised e = ap₂ (λ (x y : Bool). x || (y && not (eqb (get_or b 7 0) 0))) (not_code (code_of arc) (width_of arc) b n) e

    pub arc-neither : (get_or b 0 0 ≡ penalty_kind → ⊥) → is_of arc b ≡ false
    arc-neither h = penalised (not_code penalty_kind penalty_width b h)

    pub arc_unsized : (length b ≡ penalty_width → ⊥) → is_of arc b ≡ false
    arc_unsized h = penalised (not_wide penalty_kind penalty_width b h)

    pub arc-penalised : get_or b 0 0 ≡ penalty_kind → length b ≡ penalty_width → is_of arc b ≡ not (eqb (get_or b 7 0) 0)
    arc-penalised e w = penalised (has_form_lem penalty_kind penalty_width b e w)

-- the array of a line has room for each of its bytes

few : (code width : ℕ) (b : List ℕ) → width ≤ line_bytes → has_form code width b ≡ true → length b ≤ line_bytes
few code width b h e = let w = eqb-true (length b) width (and_right (eqb (get_or b 0 0) code) _ e) in omega arith

pub form_short : (k : LineKind) (b : List ℕ) → is_of k b ≡ true → length b ≤ line_bytes
form_short class b e = leb-true (length b) line_bytes (and_right (leb (width_of class) (length b)) _ (and_right (eqb (get_or b 0 0) (code_of class)) _ e))
form_short initial b e = few (code_of initial) (width_of initial) b (omega arith) e
form_short terminal b e = few (code_of terminal) (width_of terminal) b (omega arith) e
form_short arc b e =
    ⊎_elim (few (code_of arc) (width_of arc) b (omega arith)) (λ f. few penalty_kind penalty_width b (omega arith) (and_left _ _ f))
    (or_cases (has_form (code_of arc) (width_of arc) b) _ e)
form_short end b e = few (code_of end) (width_of end) b (omega arith) e

-- Kinds that are none of the others.

pub item-only : (k : LineKind) → (k ≡ end → ⊥) → IsItem k
item-only class f = tt
item-only initial f = tt
item-only terminal f = tt
item-only arc f = tt
item-only end f = absurd (f refl)

-- What a line of an item adds to the cells, and its key.

pub cells-one : (k : LineKind) (b : List ℕ) (n filled : ℕ) → (k ≡ class → ⊥) → (k ≡ arc → ⊥) → IsItem k → n ≡ number_at b 1
    → (item_cells k b ≡ n ∷ []) × (place_of k b filled ≡ filled) × (filled_after k b filled ≡ filled + 1)
cells-one class b n filled g h i e = absurd (g refl)
cells-one initial b n filled g h i e = (ap (λ (m : ℕ). m ∷ []) (sym e), refl, refl)
cells-one terminal b n filled g h i e = (ap (λ (m : ℕ). m ∷ []) (sym e), refl, refl)
cells-one arc b n filled g h i e = absurd (h refl)
cells-one end b n filled g h i e = absurd i

pub key-none : (k : LineKind) (b : List ℕ) → (k ≡ initial → ⊥) → (k ≡ arc → ⊥) → IsItem k → item_key k b ≤ 0
key-none class b h g i = omega arith
key-none initial b h g i = absurd (h refl)
key-none terminal b h g i = omega arith
key-none arc b h g i = absurd (g refl)
key-none end b h g i = absurd i

-- What a line earns: misplaced, or what its item earns.

pub misplaced : {x : Bool} (faults : List InputCause) → x ≡ false → judged (in_place x faults) ≡ Err Misplaced
misplaced faults e = ap (λ (x : Bool). judged (in_place x faults)) e

pub placed : {x : Bool} (faults : List InputCause) → x ≡ true → judged (in_place x faults) ≡ judged faults
placed faults e = ap (λ (x : Bool). judged (in_place x faults)) e

pub kept_form : (k : LineKind) (t : Table) (b : List ℕ) → judged (kind_faults k t b) ≡ Ok tt → is_of k b ≡ true
kept_form k t b e = go (is_of k b) refl
  where
    go : (x : Bool) → is_of k b ≡ x → is_of k b ≡ true
    go true h = h
    go false h = cc (sym (misplaced (item_faults k t b) h) ∙ e)

pub kept-item : (k : LineKind) (t : Table) (b : List ℕ) → judged (kind_faults k t b) ≡ Ok tt → judged (item_faults k t b) ≡ Ok tt
kept-item k t b e = sym (placed (item_faults k t b) (kept_form k t b e)) ∙ e

-- the number of a line that is to have one
pub one-misplaced : (code : ℕ) (b : List ℕ) → has_form code (width_of initial) b ≡ false → Err Misplaced ≡ one_number code b
one-misplaced code b h = sym (ap (λ (x : Bool). cond {A = Result ℕ InputCause} x (Ok (number_at b 1)) (Err Misplaced)) h)

pub one-said : (code : ℕ) (b : List ℕ) {n : ℕ} → has_form code (width_of initial) b ≡ true → n ≡ number_at b 1 → Ok n ≡ one_number code b
one-said code b h e = ap Ok e ∙ sym (ap (λ (x : Bool). cond {A = Result ℕ InputCause} x (Ok (number_at b 1)) (Err Misplaced)) h)

-- what a line that is to have one number earns: misplaced, where it has none, or what its item earns
module _ (code : ℕ) (b : List ℕ) {r : Result ℕ InputCause} (told : r ≡ one_number code b) where
  pub one-none : {e : InputCause} → r ≡ Err e → (faults : List InputCause) → judged (in_place (has_form code (width_of initial) b) faults) ≡ Err e
  one-none {e} is faults = go (has_form code (width_of initial) b) refl
    where
      go : (x : Bool) → has_form code (width_of initial) b ≡ x → judged (in_place (has_form code (width_of initial) b) faults) ≡ Err e
      go true h = absurd (let z : ◌≡◌ {A = ℕ} 0 1 = cc (sym is ∙ told ∙ ap (λ (x : Bool). cond {A = Result ℕ InputCause} x (Ok (number_at b 1)) (Err Misplaced)) h) in omega arith)
      go false h = misplaced faults h ∙ ap Err (cc (sym is ∙ told ∙ ap (λ (x : Bool). cond {A = Result ℕ InputCause} x (Ok (number_at b 1)) (Err Misplaced)) h))

  pub one-some : {n : ℕ} → r ≡ Ok n → (has_form code (width_of initial) b ≡ true) × (n ≡ number_at b 1)
  one-some {n} is = go (has_form code (width_of initial) b) refl
    where
      go : (x : Bool) → has_form code (width_of initial) b ≡ x → (has_form code (width_of initial) b ≡ true) × (n ≡ number_at b 1)
      go true h = (h, cc (sym is ∙ told ∙ ap (λ (x : Bool). cond {A = Result ℕ InputCause} x (Ok (number_at b 1)) (Err Misplaced)) h))
      go false h = absurd (let z : ◌≡◌ {A = ℕ} 0 1 = cc (sym is ∙ told ∙ ap (λ (x : Bool). cond {A = Result ℕ InputCause} x (Ok (number_at b 1)) (Err Misplaced)) h) in omega arith)

-- what a class line that earns no refusal says
pub class_held : (t : Table) (b : List ℕ) → judged (kind_faults class t b) ≡ Ok tt → ClassForm b × ClassKept t.classes (class_from b) (letters_from b)
class_held t b e = (
  class_form b (kept_form class t b e),
  class_kept t.classes (class_from b) (letters_from b) (sym (judges_class t b) ∙ kept-empty (item_faults class t b) (kept-item class t b e)),
)
