-- Where the rows tell the beginnings, the arcs of a state by rising letter are those to its children by rising number.
use Prim.Native.Nat.{ℕ, zero, suc, ◌+◌, ◌-◌, ◌*◌, ◌≤◌, ◌<◌}
use native.Mathlib.Omega.{arith}
use mathlib.Core.Path.{◌≡◌, refl, sym, ap, subst, ◌∙◌}
use mathlib.Core.Logic.{inl, inr, ⊎_elim}
use mathlib.Core.Bool.{Bool, true, false, cond}
use mathlib.Core.List.Memᴰ
use mathlib.Core.List.{List, [], ◌∷◌, ◌++◌, map, Memᴰ}
use lib.ListN.{length, get_or}
use lib.Dec.{eqb}
use borrow.Author.Tests.{eqb-true, eq-eqb}
use Rattle.table_format.specs.Table.{Arc}
use Rattle.table_format.proofs.All.{all-mem, at_mem}
use Rattle.graph.specs.Lists.{Before}
use Rattle.graph.proofs.Lists.{same?}
use Rattle.lexicon.specs.Words.{Word}
use Rattle.lexicon.specs.Beginnings.{RisingWords}
use Rattle.lexicon.proofs.Beginnings.{rising-distinct}
use Rattle.trie_format.specs.Facts.{ByLetter, rank, Between}
use Rattle.trie_format.specs.Trie.{letter_arcs}
use Rattle.trie_states.specs.Tree.{children, child_arc, Rows}
use Rattle.trie_format.proofs.Names.{snoc-parts}
use Rattle.trie_format.proofs.Ranks.{distinct-differ, ranked_unique}
use Rattle.trie_format.proofs.Arcs.{place_here, letters_have}
use Rattle.trie_format.proofs.Shapes.{letters_from_lem, letter-above, letters_shape, letters-between}

-- Children.

module _ (parent : ℕ → ℕ) (i : ℕ) where
  pub child_to : (n j k : ℕ) → Memᴰ k (children parent i j n) → (j ≤ k) × (k < j + n) × (parent k ≡ i)
  child_to zero j k m = absurd (Memᴰ.not-nil m)
  child_to (suc n) j k m = go (eqb (parent j) i) refl m (λ l. child_to n (suc j) k l)
    where
      go : (t : Bool) → eqb (parent j) i ≡ t → Memᴰ k (cond t (j ∷ []) [] ++ children parent i (suc j) n)
          → (Memᴰ k (children parent i (suc j) n) → (suc j ≤ k) × (k < suc j + n) × (parent k ≡ i)) → (j ≤ k) × (k < j + suc n) × (parent k ≡ i)
      go true e m G =
          ⊎_elim (λ u. (omega arith, omega arith, ap parent u ∙ eqb-true (parent j) i e)) (λ u. let P = G u in (omega (arith, P.0), omega (arith, P.1), P.2))
          (Memᴰ.cases_cons m)
      go false e m G = let P = G m in (omega (arith, P.0), omega (arith, P.1), P.2)

  child_from : (n j k : ℕ) → j ≤ k → k < j + n → parent k ≡ i → Memᴰ k (children parent i j n)
  child_from zero j k h l e = absurd (omega arith)
  child_from (suc n) j k h l e =
      ⊎_elim (λ u. rw (eq-eqb (parent j) i (ap parent u ∙ e)) (Memᴰ.head (sym u)))
      (λ u. Memᴰ.append_right (cond (eqb (parent j) i) (j ∷ []) []) (child_from n (suc j) k (omega (arith, u)) (omega arith) e)) (same? j k)

-- Places of words that rise.

before-snoc : (b : Word) (x y : ℕ) → Before (b ++ (x ∷ [])) (b ++ (y ∷ [])) → x < y
before-snoc [] x y (inl l) = l
before-snoc [] x y (inr e) = absurd e.1
before-snoc (z ∷ b) x y (inl l) = absurd (omega arith)
before-snoc (z ∷ b) x y (inr e) = before-snoc b x y e.1

rising_places : (bs : List Word) → RisingWords bs → (i j : ℕ) → i < j → j < length bs → Before (get_or bs i []) (get_or bs j [])
rising_places [] R i j h k = absurd (omega arith)
rising_places (b ∷ bs) R i zero h k = absurd (omega arith)
rising_places (b ∷ bs) R zero (suc j) h k = R.0 (get_or bs j []) (at_mem bs j [] (omega arith))
rising_places (b ∷ bs) R (suc i) (suc j) h k = rising_places bs R.1 i j (omega arith) (omega arith)

module _ (parent letter : ℕ → ℕ) (bs : List Word) (W : Rows parent letter bs) (R : RisingWords bs) (i : ℕ) (i-in : i < length bs) where
  child_rise : (j k : ℕ) → 0 < j → j < k → k < length bs → parent j ≡ i → parent k ≡ i → letter j < letter k
  child_rise j k p h l e f =
      before-snoc (get_or bs i []) (letter j) (letter k)
      (subst (λ (z : Word). Before z (get_or bs i [] ++ (letter k ∷ []))) (W.row j p (omega arith) ∙ ap (λ (z : ℕ). get_or bs z [] ++ (letter j ∷ [])) e)
      (subst (λ (z : Word). Before (get_or bs j []) z) (W.row k (omega arith) l ∙ ap (λ (z : ℕ). get_or bs z [] ++ (letter k ∷ [])) f) (rising_places bs R j k h l)))

  -- the arcs to children among n states from j on
  abbrev child_arcs : ℕ → ℕ → List Arc
  child_arcs j n = map (child_arc letter i) (children parent i j n)

  child_between : (n j r : ℕ) → 0 < j → j + n ≤ length bs → r ≤ i * 64 + 63 → ((k : ℕ) → j ≤ k → k < length bs → parent k ≡ i → r ≤ i * 64 + letter k)
      → Between rank r (i * 64 + 63) (child_arcs j n)
  child_between zero j r p h l f = l
  child_between (suc n) j r p h l f = go (eqb (parent j) i) refl (λ r l f. child_between n (suc j) r (omega arith) (omega arith) l f)
    where
      go : (t : Bool) → eqb (parent j) i ≡ t
          → ((r : ℕ) → r ≤ i * 64 + 63 → ((k : ℕ) → suc j ≤ k → k < length bs → parent k ≡ i → r ≤ i * 64 + letter k) → Between rank r (i * 64 + 63) (child_arcs (suc j) n))
          → Between rank r (i * 64 + 63) (map (child_arc letter i) (cond t (j ∷ []) [] ++ children parent i (suc j) n))
      go true e G =
          let E : parent j ≡ i = eqb-true (parent j) i e in
          (f j (omega arith) (omega arith) E, G (suc (i * 64 + letter j)) (omega (arith, W.high j p (omega arith))) (λ k a b c. omega (arith, child_rise j k p a b E c)))
      go false e G = G r l (λ k a b c. f k (omega arith) b c)

  pub children-are : letter_arcs bs i (get_or bs i []) 1 62 ≡ map (child_arc letter i) (children parent i 1 (length bs - 1))
  children-are =
      ranked_unique rank (letter_arcs bs i (get_or bs i []) 1 62) (child_arcs 1 (length bs - 1)) (i * 64 + 1, i * 64 + 63, letters-between bs i (get_or bs i []) 62 1)
      (0, i * 64 + 63, child_between (length bs - 1) 1 0 (omega arith) (omega arith) (omega arith) (λ k a b c. omega arith)) (λ a. (to a, back a))
    where
      to : (a : Arc) → Memᴰ a (letter_arcs bs i (get_or bs i []) 1 62) → Memᴰ a (child_arcs 1 (length bs - 1))
      to a m =
          let S = all-mem (ByLetter bs) (letter_arcs bs i (get_or bs i []) 1 62) (letters_shape bs i i-in) a m in
          let F : a.source ≡ i = all-mem (λ a. a.source ≡ i) (letter_arcs bs i (get_or bs i []) 1 62) (letters_from_lem bs i (get_or bs i []) 62 1) a m in
          let k : ℕ = a.target in
          let P : 0 < k = letter-above bs W.root a S in
          let Q = snoc-parts (get_or bs (parent k) []) (get_or bs a.source []) (letter k) a.lower (sym (W.row k P S.target_in) ∙ S.step) in
          let E : parent k ≡ i = distinct-differ bs (rising-distinct bs R) [] (parent k) a.source (W.parent_in k P S.target_in) S.source_in Q.0 ∙ F in
          subst (λ (z : Arc). Memᴰ z (child_arcs 1 (length bs - 1))) (λ x. record { source = sym F x; upper = (Q.1 ∙ sym S.same) x; lower = Q.1 x; target = k; penalty = sym S.no_penalty x })
          (Memᴰ.map (child_arc letter i) (child_from parent i (length bs - 1) 1 k (omega arith) (omega (arith, S.target_in)) E))

      back : (a : Arc) → Memᴰ a (child_arcs 1 (length bs - 1)) → Memᴰ a (letter_arcs bs i (get_or bs i []) 1 62)
      back a m =
          let C = Memᴰ.of_map (child_arc letter i) (children parent i 1 (length bs - 1)) m in
          let k : ℕ = C.0 in
          let P = child_to parent i (length bs - 1) 1 k C.1 in
          let H : 0 < k = omega (arith, P.0) in
          let L : k < length bs = omega (arith, P.1) in
          subst (λ (z : Arc). Memᴰ z (letter_arcs bs i (get_or bs i []) 1 62)) C.2
          (letters_have bs i (get_or bs i []) (letter k) k 62 1 (W.low k H L) (omega (arith, W.high k H L))
          (place_here bs (rising-distinct bs R) (get_or bs i [] ++ (letter k ∷ [])) k L (W.row k H L ∙ ap (λ (z : ℕ). get_or bs z [] ++ (letter k ∷ [])) P.2)))
