-- One turn of a loop that judges the items of a list: the items so far keep the rules, and no key of theirs is above the top.
use Prim.Native.Nat.{ℕ, ◌+◌, ◌<◌, ◌≤◌, max}
use native.Mathlib.Omega.{arith}
use native.Mathlib.Numerals.{add-one}
use mathlib.Core.Path.{◌≡◌, refl, ap, ◌∙◌}
use mathlib.Core.Bool.{true, false}
use mathlib.Core.List.{List, [], ◌∷◌, ◌++◌}
use lib.ListN.{length, get_or, take}
use lib.Seq.{take-suc}
use Rattle.refusal.specs.declared.InputCause.{InputCause}
use Rattle.std.specs.Prelude.{Ok, is_err}
use Rattle.table_format.specs.Rules.{is_empty, each, arc_faults, arcs_keep}
use Rattle.table_format.specs.Loaded.{arcs_in}
use Rattle.table_rules.specs.Judge.{judged, largest, arc_key}
use Rattle.table_format.specs.Cells.{arc_of}
use Rattle.table_format.proofs.Tests.{and_both}
use Rattle.table_format.proofs.Arcs.{arcs-next, arcs_fail}
use Rattle.table_format.proofs.Each.{each_snoc, each-fails}

-- judged as kept, or not
pub kept-empty : (fs : List InputCause) → judged fs ≡ Ok tt → is_empty fs ≡ true
kept-empty [] e = refl
kept-empty (f ∷ fs) e = cc

pub kept-is : (fs : List InputCause) → is_err (judged fs) ≡ false → judged fs ≡ Ok tt
kept-is [] e = refl
kept-is (f ∷ fs) e = cc

pub broken-some : (fs : List InputCause) → is_err (judged fs) ≡ true → is_empty fs ≡ false
broken-some [] e = cc
broken-some (f ∷ fs) e = refl

-- the largest key, with one element more
pub largest-snoc : {A : Type 0} (key : A → ℕ) (xs : List A) (x : A) → largest key (xs ++ (x ∷ [])) ≡ max (largest key xs) (key x)
unfolding largest
largest-snoc key [] x = omega arith
largest-snoc key (y ∷ ys) x = let e = largest-snoc key ys x in omega arith

module _ {A : Type 0} (faults : List A → A → List InputCause) where
  abbrev pub Keep : List A → Type 0
  Keep xs = each (λ before x. is_empty (faults before x)) [] xs ≡ true

  -- one item more, after those of a list
  pub keep_snoc : (xs : List A) (x : A) → Keep xs → judged (faults xs x) ≡ Ok tt → Keep (xs ++ (x ∷ []))
  keep_snoc xs x K e = each_snoc (λ before y. is_empty (faults before y)) xs x ∙ and_both K (kept-empty (faults xs x) e)

  -- the same at place k of a list
  pub keep-more : (d : A) (xs : List A) (k : ℕ) → k < length xs → Keep (take k xs) → is_err (judged (faults (take k xs) (get_or xs k d))) ≡ false → Keep (take (k + 1) xs)
  keep-more d xs k h K e = ap (λ (l : List A). each (λ before y. is_empty (faults before y)) [] l) (ap (λ (n : ℕ). take n xs) (add-one k) ∙ take-suc xs k d h) ∙ keep_snoc (take k xs) (get_or xs k d) K (kept-is (faults (take k xs) (get_or xs k d)) e)

  pub keep-fails : (d : A) (xs : List A) (k : ℕ) → k < length xs → is_err (judged (faults (take k xs) (get_or xs k d))) ≡ true
      → each (λ before x. is_empty (faults before x)) [] xs ≡ false
  keep-fails d xs k h e = each-fails (λ before y. is_empty (faults before y)) d xs k h (broken-some (faults (take k xs) (get_or xs k d)) e)

module _ {A : Type 0} (key : A → ℕ) where
  pub top-snoc : (xs : List A) (x : A) (top : ℕ) → largest key xs ≤ top → key x ≤ top → largest key (xs ++ (x ∷ [])) ≤ top
  top-snoc xs x top h g = omega (arith, largest-snoc key xs x)

  pub top-more : (d : A) (xs : List A) (k top : ℕ) → k < length xs → largest key (take k xs) ≤ top → key (get_or xs k d) ≤ top → largest key (take (k + 1) xs) ≤ top
  top-more d xs k top h l g = omega (arith, ap (largest key) (ap (λ (n : ℕ). take n xs) (add-one k) ∙ take-suc xs k d h), largest-snoc key (take k xs) (get_or xs k d))

-- The same for arcs in cells, at arc k.

module _ (n : ℕ) (rows : List (List ℕ)) (cells : List ℕ) (k : ℕ) where
  pub keep-arc : arcs_keep n rows (arcs_in k cells) ≡ true → is_err (judged (arc_faults n rows (arcs_in k cells) (arc_of cells k))) ≡ false → arcs_keep n rows (arcs_in (k + 1) cells) ≡ true
  keep-arc K e = ap (arcs_keep n rows) (arcs-next k cells) ∙ keep_snoc (arc_faults n rows) (arcs_in k cells) (arc_of cells k) K (kept-is (arc_faults n rows (arcs_in k cells) (arc_of cells k)) e)

  pub fail_arc : (m : ℕ) → k < m → is_err (judged (arc_faults n rows (arcs_in k cells) (arc_of cells k))) ≡ true → arcs_keep n rows (arcs_in m cells) ≡ false
  fail_arc m h e = arcs_fail (λ before a. is_empty (arc_faults n rows before a)) cells m k h (broken-some (arc_faults n rows (arcs_in k cells) (arc_of cells k)) e)

  pub top-arc : (top : ℕ) → largest arc_key (arcs_in k cells) ≤ top → arc_key (arc_of cells k) ≤ top → largest arc_key (arcs_in (k + 1) cells) ≤ top
  top-arc top l g = omega (arith, ap (largest arc_key) (arcs-next k cells), top-snoc arc_key (arcs_in k cells) (arc_of cells k) top l g)
