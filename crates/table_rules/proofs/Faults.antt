-- Laws of the rules: what an item earns, case by case, and when a key shows that an item is new.
use Prim.Native.Nat.{ℕ, zero, suc, ◌-◌, ◌<◌, ◌≤◌}
use native.Mathlib.Omega.{arith}
use mathlib.Core.Path.{◌≡◌, refl, ap, ◌∙◌}
use mathlib.Core.Bool.{Bool, true, false, ◌&&◌, ◌||◌, and-false, or-false}
use mathlib.Core.List.{List, [], ◌∷◌}
use lib.Dec.{eqb, leb, ltb}
use lib.ListN.{length, get_or}
use borrow.Author.Tests.{ltb-true, ltb-false, leb-true, eqb-true, lt-ltb, le-ltb, ne_eqb}
use Rattle.refusal.specs.declared.InputCause.TheVariants.{StateNumber, LetterLimit, StateOrder, SourceOrder, ArcRepeated, ClassFault}
use Rattle.std.specs.Prelude.{Some, None, Ok, Err, slice_get}
use Rattle.std.proofs.lemmas.Option.{slice_get_within, get_or_from_slice_get, slice_get-get_or}
use Rattle.table_format.specs.Table.{Arc, no_arc}
use Rattle.table_format.specs.Rules.{any, last_is, each, letter_holds, arc_class_holds, source_holds, same_arc, initial_faults, terminal_faults, arc_faults}
use Rattle.table_format.specs.Loaded.{arcs_in}
use Rattle.table_rules.specs.Judge.{judged, has_state, repeated, largest, state_key, arc_key, last_source, SourcesRise}
use Rattle.table_format.specs.Cells.{arc_count, arc_of, arcs_as}
use Rattle.table_format.proofs.Tests.{or_right}
use Rattle.table_format.proofs.Ruled.{same_arc-eq}
use Rattle.table_format.proofs.Each.{any_append, any_none, last-at, each_last}
use Rattle.table_format.proofs.Arcs.{at_equal, length-arcs, get_d_arcs, arcs-snoc}
use Rattle.table_rules.proofs.Sources.{last_source_lem}

-- An element that has a larger key than each of a list is none of them.

module _ {A : Type 0} (key : A → ℕ) (same : A → Bool) (k : ℕ) (same_key : (x : A) → same x ≡ true → key x ≡ k) where
  pub new-by_key : (xs : List A) → largest key xs < k → any same xs ≡ false
  unfolding largest
  new-by_key [] h = refl
  new-by_key (x ∷ xs) h = go (same x) refl (new-by_key xs (omega arith))
    where
      go : (b : Bool) → same x ≡ b → any same xs ≡ false → (b || any same xs) ≡ false
      go true e f = absurd (omega (arith, same_key x e))
      go false e f = f

pub new-state : (before : List ℕ) (s top : ℕ) → largest state_key before ≤ top → top < state_key s → has_state before s ≡ false
new-state before s top h g = new-by_key state_key (λ r. eqb r s) (state_key s) (λ r e. ap state_key (eqb-true r s e)) before (omega arith)

pub new-arc : (before : List Arc) (a : Arc) (top : ℕ) → largest arc_key before ≤ top → top < arc_key a → repeated before a ≡ false
new-arc before a top h g = new-by_key arc_key (λ b. same_arc b a) (arc_key a) (λ b e. ap arc_key (same_arc-eq b a e)) before (omega arith)

sources_differ : (a b : Arc) → (a.source ≡ b.source → ⊥) → same_arc a b ≡ false
sources_differ a b n =
    ap (λ (x : Bool). x && (eqb a.upper b.upper && (eqb a.lower b.lower && eqb a.target b.target))) (ne_eqb a.source b.source n)

-- Sources that rise, place by place; so an arc is looked for among the last ones, of its source.

module _ (arcs : List Arc) (R : each source_holds [] arcs ≡ true) where
  next-source : (j : ℕ) → suc j < length arcs → (get_or arcs j no_arc).source ≤ (get_or arcs (suc j) no_arc).source
  next-source j h = leb-true _ _ (each_last (λ b a. leb b.source a.source) no_arc arcs R j h)

  pub sources_rise : (i j : ℕ) → i ≤ j → j < length arcs → (get_or arcs i no_arc).source ≤ (get_or arcs j no_arc).source
  sources_rise i zero h g = at_or (ltb i 0) refl
    where
      at_or : (b : Bool) → ltb i 0 ≡ b → (get_or arcs i no_arc).source ≤ (get_or arcs 0 no_arc).source
      at_or true e = absurd (omega (arith, ltb-true i 0 e))
      at_or false e = omega (arith, at_equal (λ n. (get_or arcs n no_arc).source) i 0 (omega arith))
  sources_rise i (suc j) h g = go (ltb i (suc j)) refl (λ k. sources_rise i j k (omega arith))
    where
      go : (b : Bool) → ltb i (suc j) ≡ b → (i ≤ j → (get_or arcs i no_arc).source ≤ (get_or arcs j no_arc).source) → (get_or arcs i no_arc).source ≤ (get_or arcs (suc j) no_arc).source
      go true e f = omega (arith, next-source j g, f (omega (arith, ltb-true i (suc j) e)))
      go false e f = omega (arith, at_equal (λ n. (get_or arcs n no_arc).source) i (suc j) (omega (arith, ltb-false i (suc j) e)))

module _ (before : List ℕ) (a : Arc) where
  -- whether it is among the first n arcs
  abbrev pub Found : ℕ → Bool
  Found n = any (λ b. same_arc b a) (arcs_in n before)

  found-last : (n : ℕ) → 0 < n → Found n ≡ (Found (n - 1) || (same_arc (arc_of before (n - 1)) a || false))
  found-last n h =
      at_equal Found n (suc (n - 1)) (omega arith) ∙ ap (any (λ b. same_arc b a)) (arcs-snoc (n - 1) before)
      ∙ any_append (λ b. same_arc b a) (arcs_in (n - 1) before) (arc_of before (n - 1) ∷ [])

  pub found-hit : (n : ℕ) → 0 < n → same_arc (arc_of before (n - 1)) a ≡ true → Found n ≡ true
  found-hit n h f = found-last n h ∙ or_right (Found (n - 1)) _ (ap (λ (x : Bool). x || false) f)

  pub found-miss : (n : ℕ) → 0 < n → same_arc (arc_of before (n - 1)) a ≡ false → Found n ≡ Found (n - 1)
  found-miss n h f = found-last n h ∙ ap (λ (x : Bool). Found (n - 1) || (x || false)) f ∙ or-false (Found (n - 1))

  pub found_none : (n : ℕ) → n ≤ 0 → Found n ≡ false
  unfolding arcs_in
  found_none n h = at_equal Found n 0 (omega arith)

  pub found_stop : (n : ℕ) → SourcesRise before a.source → 0 < n → n ≤ arc_count before → ((arc_of before (n - 1)).source ≡ a.source → ⊥) → Found n ≡ false
  found_stop n S g h apart = any_none (λ b. same_arc b a) no_arc (arcs_in n before) none
    where
      count : ℕ
      count = arc_count before

      source-at : (k : ℕ) → k < count → (get_or (arcs_as before) k no_arc).source ≡ (arc_of before k).source
      source-at k q = ap (λ (b : Arc). b.source) (get_d_arcs count before k no_arc q)

      last_is_lem : (arc_of before (count - 1)).source ≤ a.source
      last_is_lem = omega (arith, S.1, at_equal (λ m. last_source (arcs_in m before)) count (suc (count - 1)) (omega arith), last_source_lem before (count - 1))

      none : (k : ℕ) → k < length (arcs_in n before) → same_arc (get_or (arcs_in n before) k no_arc) a ≡ false
      none k q =
          let q₁ : k < n = omega (arith, length-arcs n before) in
          let low = sources_rise (arcs_as before) S.0 k (n - 1) (omega arith) (omega (arith, length-arcs count before)) in
          let high = sources_rise (arcs_as before) S.0 (n - 1) (count - 1) (omega arith) (omega (arith, length-arcs count before)) in
          let differ : (arc_of before k).source ≡ a.source → ⊥ = λ z. apart (omega (arith, source-at k (omega arith), source-at (n - 1) (omega arith), source-at (count - 1) (omega arith), last_is_lem)) in
          ap (λ (b : Arc). same_arc b a) (get_d_arcs n before k no_arc q₁) ∙ sources_differ (arc_of before k) a differ

-- The last element, as code gets it.

pub last_got : (test : ℕ → Bool) (xs : List ℕ) (x : ℕ) → slice_get xs (length xs - 1) ≡ Some x → last_is test xs ≡ test x
last_got test xs x e = last-at test x xs (omega (arith, slice_get_within xs (length xs - 1) x e)) ∙ ap test (get_or_from_slice_get xs (length xs - 1) x x e)

pub last_missing : (test : ℕ → Bool) (xs : List ℕ) → slice_get xs (length xs - 1) ≡ None → last_is test xs ≡ true
last_missing test [] e = refl
last_missing test (x ∷ xs) e = let s = slice_get-get_or (x ∷ xs) (length (x ∷ xs) - 1) 0 (omega arith) in cc

-- What an item earns.

pub initial-out : (n s : ℕ) (before : List ℕ) → n ≤ s → judged (initial_faults n before s) ≡ Err StateNumber
unfolding initial_faults
initial-out n s before h = simp (le-ltb s n h)

pub initial-new : (n s : ℕ) (before : List ℕ) → s < n → has_state before s ≡ false → judged (initial_faults n before s) ≡ Ok tt
unfolding initial_faults
initial-new n s before h e = simp (lt-ltb s n h, e)

pub initial-old : (n s : ℕ) (before : List ℕ) → s < n → has_state before s ≡ true → judged (initial_faults n before s) ≡ Err StateOrder
unfolding initial_faults
initial-old n s before h e = simp (lt-ltb s n h, e)

module _ (n s : ℕ) (before : List ℕ) where
  pub terminal-out : n ≤ s → judged (terminal_faults n before s) ≡ Err StateNumber
  unfolding terminal_faults
  terminal-out h = simp (le-ltb s n h)

  pub terminal_rises_lem : s < n → last_is (λ r. ltb r s) before ≡ true → judged (terminal_faults n before s) ≡ Ok tt
  unfolding terminal_faults
  terminal_rises_lem h e = simp (lt-ltb s n h, e)

  pub terminal-falls : s < n → last_is (λ r. ltb r s) before ≡ false → judged (terminal_faults n before s) ≡ Err StateOrder
  unfolding terminal_faults
  terminal-falls h e = simp (lt-ltb s n h, e)

module _ (n : ℕ) (rows : List (List ℕ)) (before : List Arc) (a : Arc) where
  pub arc-source-out : n ≤ a.source → judged (arc_faults n rows before a) ≡ Err StateNumber
  unfolding arc_faults
  arc-source-out h = simp (le-ltb a.source n h)

  pub arc-target-out : a.source < n → n ≤ a.target → judged (arc_faults n rows before a) ≡ Err StateNumber
  unfolding arc_faults
  arc-target-out g h = simp (lt-ltb a.source n g, le-ltb a.target n h)

  module _ (g : a.source < n) (h : a.target < n) where
    pub arc-letter-out : (letter_holds a.upper && letter_holds a.lower) ≡ false → judged (arc_faults n rows before a) ≡ Err LetterLimit
    unfolding arc_faults
    arc-letter-out e = simp (lt-ltb a.source n g, lt-ltb a.target n h, e)

    pub arc_lower_out : 71 < a.lower → judged (arc_faults n rows before a) ≡ Err LetterLimit
    arc_lower_out e = arc-letter-out (ap (λ (b : Bool). letter_holds a.upper && b) (le-ltb a.lower 72 (omega arith)) ∙ and-false (letter_holds a.upper))

    module _ (l : (letter_holds a.upper && letter_holds a.lower) ≡ true) where
      pub arc_class_out : arc_class_holds rows a ≡ false → judged (arc_faults n rows before a) ≡ Err ClassFault
      unfolding arc_faults
      arc_class_out k = simp (lt-ltb a.source n g, lt-ltb a.target n h, l, k)

      module _ (k : arc_class_holds rows a ≡ true) where
        pub arc-falls : source_holds before a ≡ false → judged (arc_faults n rows before a) ≡ Err SourceOrder
        unfolding arc_faults
        arc-falls e = simp (lt-ltb a.source n g, lt-ltb a.target n h, l, k, e)

        pub arc_new : source_holds before a ≡ true → repeated before a ≡ false → judged (arc_faults n rows before a) ≡ Ok tt
        unfolding arc_faults
        arc_new e f = simp (lt-ltb a.source n g, lt-ltb a.target n h, l, k, e, f)

        pub arc-old : source_holds before a ≡ true → repeated before a ≡ true → judged (arc_faults n rows before a) ≡ Err ArcRepeated
        unfolding arc_faults
        arc-old e f = simp (lt-ltb a.source n g, lt-ltb a.target n h, l, k, e, f)
