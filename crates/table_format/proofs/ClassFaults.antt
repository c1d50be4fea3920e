-- What a line that begins as a class's earns, and an arc by its letters and its class.
use Prim.Native.Nat.{ℕ, ◌+◌, ◌-◌, ◌≤◌, ◌<◌}
use native.Mathlib.Omega.{arith}
use mathlib.Core.Path.{◌≡◌, refl, sym, ap, ap₂, ◌∙◌}
use mathlib.Core.Logic.{◌↔◌, ◌⊎◌, ⊎_elim}
use mathlib.Core.Bool.{Bool, true, false, cond, not, ◌&&◌, ◌||◌, and-false}
use mathlib.Core.List.{List, [], ◌∷◌, ◌++◌, Memᴰ}
use lib.Dec.{eqb, leb, ltb}
use lib.ListN.{length, get_or}
use borrow.Author.Tests.{ltb-true, lt-ltb, le-ltb, le-leb, lt-leb, eq-eqb, ne_eqb}
use Rattle.refusal.specs.declared.InputCause.{InputCause}
use Rattle.refusal.specs.declared.InputCause.TheVariants.{Misplaced, LetterLimit, SourceOrder, ArcRepeated, ClassFault}
use Rattle.table_format.specs.Table.{Arc, Table, Counts}
use Rattle.table_format.specs.Classes.{first_class, row_with, is_defined, is_plain, row_of}
use Rattle.table_format.specs.Rules.{is_empty, unless, letter_holds, class_holds, arc_class_holds, source_holds, arc_is_new, class_faults, arc_earns, arc_faults, keeps_rules}
use Rattle.table_format.specs.Ruled.{ClassRow}
use Rattle.table_format.specs.Text.{line_bytes}
use Rattle.table_format.specs.Parse.{class, initial, terminal, arc, end, code_of, width_of, arc_from, class_from, letters_from, has_form, in_place, penalty_kind, penalty_width, is_of, due, item_faults, kind_faults, within, bytes_faults}
use Rattle.table_format.proofs.Tests.{and_left, and_right, and_both}
use Rattle.table_format.proofs.Classes.{plain-holds, class_holds_lem}
use Rattle.table_format.proofs.Ruled.{ruled}
use Rattle.table_format.proofs.Parse.{due_class, due-item, no_class}

-- A line that begins as a class's.

module _ (c : Counts) (t : Table) (b : List ℕ) (begins : get_or b 0 0 ≡ code_of class) where
  -- before the initial states it is judged as a class's

  module _ (early : t.initials ≡ []) where
    here : due c t b ≡ class
    here = due_class c t b (and_both (ap is_empty early) (eq-eqb (get_or b 0 0) (code_of class) begins))

    judged-by : (x : Bool) → is_of class b ≡ x → bytes_faults (within c t) b ≡ in_place x (unless (class_holds t.classes (class_from b) (letters_from b)) ClassFault)
    unfolding bytes_faults item_faults class_faults
    judged-by x e = ap (λ k. kind_faults k t b) here ∙ ap (λ (y : Bool). in_place y (item_faults class t b)) e

    pub line-length : (length b < width_of class) ⊎ (line_bytes < length b) → bytes_faults (within c t) b ≡ Misplaced ∷ []
    line-length h =
        judged-by false
        (ap (λ (x : Bool). eqb (get_or b 0 0) (code_of class) && x)
        (⊎_elim (λ k. ap (λ (x : Bool). x && leb (length b) line_bytes) (lt-leb (width_of class) (length b) k))
        (λ k. ap (λ (x : Bool). leb (width_of class) (length b) && x) (lt-leb (length b) line_bytes k) ∙ and-false (leb (width_of class) (length b))) h)
        ∙ and-false (eqb (get_or b 0 0) (code_of class)))

    pub line_class : width_of class ≤ length b → length b ≤ line_bytes
        → bytes_faults (within c t) b ≡ unless (class_holds t.classes (class_from b) (letters_from b)) ClassFault
    line_class least most =
        judged-by true
        (and_both (eq-eqb (get_or b 0 0) (code_of class) begins)
        (and_both (le-leb (width_of class) (length b) least) (le-leb (length b) line_bytes most)))

  -- after one it is misplaced

  no_form : (code width : ℕ) → (code_of class ≡ code → ⊥) → has_form code width b ≡ false
  no_form code width h = ap (λ (x : Bool). x && eqb (length b) width) (ne_eqb (get_or b 0 0) code (λ e. h (sym begins ∙ e)))

  other : (code width : ℕ) → (code_of class ≡ code → ⊥) → (faults : List InputCause) → in_place (has_form code width b) faults ≡ Misplaced ∷ []
  other code width h faults = ap (λ (x : Bool). in_place x faults) (no_form code width h)

  no_arc_lem : is_of arc b ≡ false
  no_arc_lem = ap₂ (λ (x y : Bool). x || (y && not (eqb (arc_from b).penalty 0))) (no_form (code_of arc) (width_of arc) (λ e. omega arith)) (no_form penalty_kind penalty_width (λ e. omega arith))

  pub line_late : 0 < length t.initials → bytes_faults (within c t) b ≡ Misplaced ∷ []
  unfolding bytes_faults
  line_late late =
      ap (λ k. kind_faults k t b) (due-item c t b (no_class t b late))
      ∙ go (ltb (length t.initials) c.initials) (ltb (length t.terminals) c.terminals) (ltb (length t.arcs) c.arcs)
    where
      go : (x y z : Bool) → kind_faults (cond x initial (cond y terminal (cond z arc end))) t b ≡ Misplaced ∷ []
      go true y z = other (code_of initial) (width_of initial) (λ e. omega arith) (item_faults initial t b)
      go false true z = other (code_of terminal) (width_of terminal) (λ e. omega arith) (item_faults terminal t b)
      go false false true = ap (λ (x : Bool). in_place x (item_faults arc t b)) no_arc_lem
      go false false false = other (code_of end) (width_of end) (λ e. omega arith) (item_faults end t b)

-- What an arc without a class is, and which row a letter means.

pub plain-is : (a : Arc) → (is_plain a ≡ true) ↔ ((a.upper < 64) × (a.lower < 64))
plain-is a = (
  λ e. (ltb-true a.upper 64 (and_left (ltb a.upper 64) _ e), ltb-true a.lower 64 (and_right (ltb a.upper 64) _ e)),
  λ h. and_both (lt-ltb a.upper 64 h.0) (lt-ltb a.lower 64 h.1),
)

pub class_row : (rows : List (List ℕ)) (c : ℕ) → row_of rows (64 + c) ≡ get_or rows c []
class_row rows c = ap (λ (n : ℕ). get_or rows n []) {x = 64 + c - 64} {y = c} (omega arith)

-- An arc between states.

module _ (states : ℕ) (rows : List (List ℕ)) (before : List Arc) (a : Arc) (source_in : a.source < states) (target_in : a.target < states) where
  earns : (x y : Bool) → (letter_holds a.upper && letter_holds a.lower) ≡ x → arc_class_holds rows a ≡ y
      → arc_faults states rows before a ≡ arc_earns true x y (source_holds before a) (arc_is_new before a)
  unfolding arc_faults
  earns x y e f =
      λ i. arc_earns (and_both (lt-ltb a.source states source_in) (lt-ltb a.target states target_in) i) (e i) (f i) (source_holds before a) (arc_is_new before a)

  -- with a letter from 72 on
  pub letter-beyond : (72 ≤ a.upper) ⊎ (72 ≤ a.lower) → (fs : List InputCause) × (arc_faults states rows before a ≡ LetterLimit ∷ fs)
  letter-beyond h = (_, earns false (arc_class_holds rows a) beyond refl)
    where
      beyond : (letter_holds a.upper && letter_holds a.lower) ≡ false
      beyond =
          ⊎_elim (λ k. ap (λ (x : Bool). x && letter_holds a.lower) (le-ltb a.upper 72 k))
          (λ k. ap (λ (x : Bool). letter_holds a.upper && x) (le-ltb a.lower 72 k) ∙ and-false (letter_holds a.upper)) h

  module _ (upper_in : a.upper < 72) (lower_in : a.lower < 72) where
    letters : (letter_holds a.upper && letter_holds a.lower) ≡ true
    letters = and_both (lt-ltb a.upper 72 upper_in) (lt-ltb a.lower 72 lower_in)

    -- with a class that it may not have
    pub class_wrong : is_plain a ≡ false → (a.upper ≡ a.lower → is_defined (row_of rows a.upper) ≡ false)
        → arc_faults states rows before a ≡ ClassFault ∷ (unless (source_holds before a) SourceOrder ++ unless (arc_is_new before a) ArcRepeated)
    class_wrong p wrong = earns true false letters (go (arc_class_holds rows a) refl)
      where
        go : (x : Bool) → arc_class_holds rows a ≡ x → arc_class_holds rows a ≡ false
        go true e = let h = (class_holds_lem rows a p).0 e in absurd (let u = wrong h.0 in let d = h.1 in let z : ◌≡◌ {A = ℕ} 0 1 = cc in omega arith)
        go false e = e

    -- without a class, or with one that it may have
    pub class_right : (is_plain a ≡ false → (a.upper ≡ a.lower) × (is_defined (row_of rows a.upper) ≡ true))
        → arc_faults states rows before a ≡ unless (source_holds before a) SourceOrder ++ unless (arc_is_new before a) ArcRepeated
    class_right right = earns true true letters (go (is_plain a) refl)
      where
        go : (x : Bool) → is_plain a ≡ x → arc_class_holds rows a ≡ true
        go true e = plain-holds rows a e
        go false e = (class_holds_lem rows a e).1 (right e)

    -- with letter 64, where class 0 is not defined
    pub letter_64 : (a.upper ≡ first_class) ⊎ (a.lower ≡ first_class) → is_defined (get_or rows 0 []) ≡ false
        → arc_faults states rows before a ≡ ClassFault ∷ (unless (source_holds before a) SourceOrder ++ unless (arc_is_new before a) ArcRepeated)
    letter_64 h none = class_wrong not_plain (λ e. ap (λ (n : ℕ). is_defined (get_or rows n [])) {x = a.upper - first_class} {y = 0} (omega (arith, same e)) ∙ none)
      where
        same : a.upper ≡ a.lower → a.upper ≡ first_class
        same e = ⊎_elim (λ k. k) (λ k. e ∙ k) h

        not_plain : is_plain a ≡ false
        not_plain =
            ⊎_elim (λ k. ap (λ (x : Bool). x && ltb a.lower first_class) (le-ltb a.upper first_class (omega (arith, k))))
            (λ k. ap (λ (x : Bool). ltb a.upper first_class && x) (le-ltb a.lower first_class (omega (arith, k))) ∙ and-false (ltb a.upper first_class)) h

-- A defined class has letters.
pub class_lists : (t : Table) → keeps_rules t ≡ true → (row : List ℕ) → Memᴰ row t.classes → is_defined row ≡ true → (R : ClassRow row) × (1 ≤ length R.letters)
class_lists t keeps row m d = (R, go R.letters R.row_is)
  where
    R : ClassRow row
    R = (ruled t keeps).row_in row m

    go : (letters : List ℕ) → row ≡ row_with letters → 1 ≤ length letters
    go [] e = absurd (let h : 0 < 0 = ltb-true 0 0 (sym (ap is_defined e) ∙ d) in omega arith)
    go (x ∷ l) e = omega arith
