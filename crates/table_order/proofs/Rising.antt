-- Arcs in the order of their keys: they keep the rules, and a loop goes through them from the last one back.
use Prim.Native.Nat.{ℕ, suc, ◌-◌, ◌*◌, ◌<◌, ◌≤◌}
use native.Mathlib.Omega.{arith}
use mathlib.Core.Path.{◌≡◌, refl, sym, ap, ap₂, ◌∙◌}
use mathlib.Core.Bool.{Bool, true, false, ◌&&◌, ◌||◌, and_assoc, and_comm, and-eq-true_iff}
use mathlib.Core.List.{List, [], ◌∷◌, ◌++◌, reverse, reverse-cons, reverse-append, reverse-reverse}
use lib.Bits.{bit_or}
use lib.Dec.{leb}
use lib.ListN.{length}
use borrow.Author.Tests.{ltb-true, le-leb}
use Rattle.table_format.specs.Table.{Arc}
use Rattle.table_format.specs.Classes.{class_count}
use Rattle.table_format.specs.Rules.{each, arc_class_holds, source_holds, same_arc, arc_faults, arcs_keep, penalty_holds, penalties_keep}
use Rattle.table_format.specs.Loaded.{arcs_in}
use Rattle.table_format.specs.Cells.{arc_of}
use Rattle.table_rules.specs.Judge.{largest, repeated}
use Rattle.table_order.specs.Order.{joined_letters, joined_plain, order_key, is_below, keys_fall, arc_classes_hold, arcs_rise}
use Rattle.table_format.proofs.Tests.{and_both}
use Rattle.table_format.proofs.Rules.{arc_passes}
use Rattle.table_format.proofs.Ruled.{same_arc-eq}
use Rattle.table_format.proofs.Classes.{plain-holds, class_letters}
use Rattle.table_format.proofs.Arcs.{at_equal, arcs-snoc}
use Rattle.table_format.proofs.Each.{each_snoc, last_snoc, any_append}
use Rattle.table_order.proofs.Joined.{joined-more, penalty-more}
use Rattle.table_rules.proofs.Turn.{kept-empty}
use Rattle.table_rules.proofs.Faults.{new-by_key, arc_new}

-- a test of each arc, with the last one apart
each_back : (test : List Arc → Arc → Bool) (a : Arc) (back : List Arc) → each test [] (reverse (a ∷ back)) ≡ (each test [] (reverse back) && test (reverse back) a)
each_back test a back = ap (each test []) (reverse-cons a back) ∙ each_snoc test (reverse back) a

module _ (n : ℕ) where
  -- what the last of arcs in order keeps to
  last-falls : (bound : ℕ) (a : Arc) (back : List Arc) → keys_fall n bound (a ∷ back) ≡ true → (a.target < n) × (order_key a < bound) × (keys_fall n (order_key a) back ≡ true)
  unfolding keys_fall
  last-falls bound a back e =
      let p = (and-eq-true_iff _ _).0 e in
      let q = (and-eq-true_iff _ _).0 p.0 in
      (ltb-true _ _ q.0, ltb-true _ _ q.1, p.1)

  -- an arc with letters shows rule 7 where the keys before it fall from its own
  source-held : (a : Arc) (back : List Arc) → a.upper < 72 → a.lower < 72 → keys_fall n (order_key a) back ≡ true → source_holds (reverse back) a ≡ true
  source-held a [] u l e = refl
  source-held a (b ∷ back) u l e =
      ap (λ (arcs : List Arc). source_holds arcs a) (reverse-cons b back) ∙ last_snoc (λ b. leb b.source a.source) (reverse back) b
      ∙ le-leb b.source a.source (omega (arith, (last-falls (order_key a) b back e).1))

  -- and rule 8
  arc_unseen : (a : Arc) (bound : ℕ) (back : List Arc) → bound ≤ order_key a → keys_fall n bound back ≡ true → repeated (reverse back) a ≡ false
  unfolding largest
  arc_unseen a bound [] h e = refl
  arc_unseen a bound (b ∷ back) h e =
      let f = last-falls bound b back e in
      ap (λ (arcs : List Arc). repeated arcs a) (reverse-cons b back) ∙ any_append (λ b. same_arc b a) (reverse back) (b ∷ [])
      ∙ ap₂ (λ (x y : Bool). x || y) (arc_unseen a (order_key b) back (omega arith) f.2)
      (new-by_key order_key (λ b. same_arc b a) (order_key a) (λ b e. ap order_key (same_arc-eq b a e)) (b ∷ []) (omega arith))

  module _ (rows : List (List ℕ)) (eight : length rows ≡ class_count) where
    -- the bound shows that the sources are states, and the classes that the letters are in their limit
    falling_keep : (bound : ℕ) (back : List Arc) → bound ≤ n * 4294967296 → keys_fall n bound back ≡ true → arc_classes_hold rows (reverse back) ≡ true → arcs_keep n rows (reverse back) ≡ true
    unfolding each
    falling_keep bound [] h e f = refl
    falling_keep bound (a ∷ back) h e f =
        let r = last-falls bound a back e in
        let c = (and-eq-true_iff _ _).0 (sym (each_back (λ before b. arc_class_holds rows b) a back) ∙ f) in
        let k = class_letters rows a (omega arith) c.1 in
        let l = (and-eq-true_iff _ _).0 k in
        each_back (arc_passes n rows) a back
        ∙ and_both (falling_keep (order_key a) back (omega arith) r.2 c.0)
        (kept-empty (arc_faults n rows (reverse back) a)
        (arc_new n rows (reverse back) a (omega arith) r.0 k c.1 (source-held a back (ltb-true _ _ l.0) (ltb-true _ _ l.1) r.2)
        (arc_unseen a (order_key a) back (omega arith) r.2)))

pub rising-keep : (n : ℕ) (rows : List (List ℕ)) (arcs : List Arc) → length rows ≡ class_count → arcs_rise n rows arcs ≡ true
    → (arcs_keep n rows arcs && penalties_keep arcs) ≡ true
unfolding arcs_rise
rising-keep n rows arcs eight e =
    let p = (and-eq-true_iff _ _).0 e in
    let q = (and-eq-true_iff _ _).0 p.1 in
    and_both
    (sym (ap (arcs_keep n rows) (reverse-reverse arcs))
    ∙ falling_keep n rows eight (n * 4294967296) (reverse arcs) (omega arith) p.0 (ap (arc_classes_hold rows) (reverse-reverse arcs) ∙ q.1)) q.0

-- One turn of a loop from the last of m arcs back.

module _ (cells : List ℕ) (m : ℕ) (some : 0 < m) where
  last-arc : arcs_in m cells ≡ arcs_in (m - 1) cells ++ (arc_of cells (m - 1) ∷ [])
  last-arc = at_equal (λ k. arcs_in k cells) m (suc (m - 1)) (omega arith) ∙ arcs-snoc (m - 1) cells

  -- the last arc's test, and those of the arcs left
  pub fall_turn : (n bound : ℕ) (b : Bool) → is_below n bound (arc_of cells (m - 1)).target (order_key (arc_of cells (m - 1))) ≡ b
      → keys_fall n bound (reverse (arcs_in m cells)) ≡ (b && keys_fall n (order_key (arc_of cells (m - 1))) (reverse (arcs_in (m - 1) cells)))
  unfolding keys_fall
  fall_turn n bound b e =
      ap (λ (arcs : List Arc). keys_fall n bound (reverse arcs)) last-arc ∙ ap (keys_fall n bound) (reverse-append (arcs_in (m - 1) cells) (arc_of cells (m - 1) ∷ []))
      ∙ ap (λ (x : Bool). x && keys_fall n (order_key (arc_of cells (m - 1))) (reverse (arcs_in (m - 1) cells))) e

  -- of a test that looks at each arc alone
  pub test-turn : (test : Arc → Bool) (b : Bool) → test (arc_of cells (m - 1)) ≡ b
      → each (λ before a. test a) [] (arcs_in m cells) ≡ (b && each (λ before a. test a) [] (arcs_in (m - 1) cells))
  test-turn test b e =
      ap (each (λ before a. test a) []) last-arc ∙ each_snoc (λ before a. test a) (arcs_in (m - 1) cells) (arc_of cells (m - 1))
      ∙ and_comm (each (λ before a. test a) [] (arcs_in (m - 1) cells)) _ ∙ ap (λ (x : Bool). x && each (λ before a. test a) [] (arcs_in (m - 1) cells)) e

  -- where the letters joined so far mean no class, the classes of all arcs hold if those of the arcs left do
  pub plain_turn : (rows : List (List ℕ)) (joined : ℕ) (all : Bool) → (joined_plain joined ≡ true → all ≡ arc_classes_hold rows (arcs_in m cells))
      → (arc_of cells (m - 1)).upper < 65536 → joined_plain (bit_or joined (joined_letters (arc_of cells (m - 1)))) ≡ true → all ≡ arc_classes_hold rows (arcs_in (m - 1) cells)
  plain_turn rows joined all J h e =
      let p = joined-more joined (arc_of cells (m - 1)) h e in
      J p.0 ∙ test-turn (arc_class_holds rows) true (plain-holds rows (arc_of cells (m - 1)) p.1)

  -- the penalties are within their limit where those joined so far and those of the arcs left are
  pub penalty-turn : (joined : ℕ)
      → (leb joined 255 && penalties_keep (arcs_in m cells)) ≡ (leb (bit_or joined (arc_of cells (m - 1)).penalty) 255 && penalties_keep (arcs_in (m - 1) cells))
  penalty-turn joined =
      let a = arc_of cells (m - 1) in
      ap (λ (x : Bool). leb joined 255 && x) (test-turn penalty_holds (penalty_holds a) refl)
      ∙ sym (and_assoc (leb joined 255) (penalty_holds a) (penalties_keep (arcs_in (m - 1) cells)))
      ∙ ap (λ (x : Bool). x && penalties_keep (arcs_in (m - 1) cells)) (sym (penalty-more joined a.penalty))
