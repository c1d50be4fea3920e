-- The ways to cut a word are the lists of listed words that make it, each once, the longer word first; no other list is so.
use native.Mathlib.Omega.{arith}
use mathlib.Core.Path.{◌≡◌, refl, sym, ap, subst}
use mathlib.Core.Logic.{inl, inr, ⊎_elim, ◌↔◌}
use mathlib.Core.Bool.{Bool, true, false, cond}
use mathlib.Core.List.Memᴰ
use mathlib.Core.List.{List, [], ◌∷◌, ◌++◌, map, append_assoc, append-nil, Memᴰ}
use lib.ListN.{length, length-append}
use Rattle.graph.specs.Lists.{Distinct}
use Rattle.graph.proofs.Sorted.{sorted-distinct, sorted_unique}
use Rattle.lexicon.specs.Words.{Word, listed}
use Rattle.lexicon.proofs.Words.{listed-mem, mem-listed}
use Rattle.segmentation.specs.Ways.{cuts_from, ways_to_cut, together, Way, Earlier, Falling}
use Rattle.segmentation.proofs.Ways.{test-mem, first_word}

module _ (ws : List Word) where
  -- Each is a way.

  way-none : Way ws [] []
  way-none = record { from_list = λ u n. absurd (Memᴰ.not-nil n); whole = refl }

  -- a listed word before a way
  way-more : (b v : Word) (z : List Word) → listed ws b ≡ true → Way ws v z → Way ws (b ++ v) (b ∷ z)
  way-more b v z e W =
      record {
        from_list = λ u n. ⊎_elim (λ f. subst (λ (c : Word). Memᴰ c ws) (sym f) (listed-mem ws b e)) (λ l. W.from_list u l) (Memᴰ.cases_cons n);
        whole = ap (λ (c : Word). b ++ c) W.whole;
      }

  cuts-to : (v b : Word) (z : List Word) → Memᴰ z (cuts_from ws b v) → Way ws (b ++ v) z
  unfolding cuts_from
  cuts-to [] b z m =
      let T = test-mem (listed ws b) ((b ∷ []) ∷ []) z m in
      subst (λ (y : List Word). Way ws (b ++ []) y) (sym (Memᴰ.eq_of_singleton T.1)) (way-more b [] [] T.0 way-none)
  cuts-to (x ∷ v) b z m =
      ⊎_elim (λ l. subst (λ (c : Word). Way ws c z) (append_assoc b (x ∷ []) v) (cuts-to v (b ++ (x ∷ [])) z l))
      (λ l. let T = test-mem (listed ws b) (map (λ z. b ∷ z) (cuts_from ws (x ∷ []) v)) z l in
      let R = Memᴰ.of_map (λ z. b ∷ z) (cuts_from ws (x ∷ []) v) T.1 in
      subst (λ (y : List Word). Way ws (b ++ (x ∷ v)) y) R.2 (way-more b (x ∷ v) R.0 T.0 (cuts-to v (x ∷ []) R.0 R.1)))
      (Memᴰ.append_cases (cuts_from ws (b ++ (x ∷ [])) v) m)

  ways-to : (w : Word) (z : List Word) → Memᴰ z (ways_to_cut ws w) → Way ws w z
  ways-to [] z m = subst (λ (y : List Word). Way ws [] y) (sym (Memᴰ.eq_of_singleton m)) way-none
  ways-to (x ∷ v) z m = cuts-to v (x ∷ []) z m

  -- Each way is there.

  -- along the letters u of a word, to the words z after it
  along : (z : List Word) → ((b : Word) → Memᴰ b ws → Memᴰ (b ∷ z) (cuts_from ws b (together z)))
      → (u b : Word) → Memᴰ (b ++ u) ws → Memᴰ ((b ++ u) ∷ z) (cuts_from ws b (u ++ together z))
  unfolding cuts_from
  along z B [] b m = subst (λ (c : Word). Memᴰ (c ∷ z) (cuts_from ws b (together z))) (sym (append-nil b)) (B b (subst (λ (c : Word). Memᴰ c ws) (append-nil b) m))
  along z B (y ∷ u) b m =
      let E = append_assoc b (y ∷ []) u in
      Memᴰ.append_left _
      (subst (λ (c : Word). Memᴰ (c ∷ z) (cuts_from ws (b ++ (y ∷ [])) (u ++ together z))) E (along z B u (b ++ (y ∷ [])) (subst (λ (c : Word). Memᴰ c ws) (sym E) m)))

  module _ (no_empty : Memᴰ [] ws → ⊥) where
    after : (z : List Word) → ((c : Word) → Memᴰ c z → Memᴰ c ws) → (b : Word) → Memᴰ b ws → Memᴰ (b ∷ z) (cuts_from ws b (together z))
    unfolding cuts_from
    after [] h b m = rw (mem-listed ws b m) (Memᴰ.head refl)
    after ([] ∷ z) h b m = absurd (no_empty (h [] (Memᴰ.head refl)))
    after ((y ∷ c) ∷ z) h b m =
        Memᴰ.append_right (cuts_from ws (b ++ (y ∷ [])) (c ++ together z))
        (rw (mem-listed ws b m) (Memᴰ.map (λ z. b ∷ z) (along z (after z (λ d k. h d (Memᴰ.tail k))) c (y ∷ []) (h (y ∷ c) (Memᴰ.head refl)))))

    there : (z : List Word) → ((c : Word) → Memᴰ c z → Memᴰ c ws) → Memᴰ z (ways_to_cut ws (together z))
    there [] h = Memᴰ.head refl
    there ([] ∷ z) h = absurd (no_empty (h [] (Memᴰ.head refl)))
    there ((y ∷ c) ∷ z) h = along z (after z (λ d k. h d (Memᴰ.tail k))) c (y ∷ []) (h (y ∷ c) (Memᴰ.head refl))

    pub ways-are : (w : Word) (z : List Word) → Memᴰ z (ways_to_cut ws w) ↔ Way ws w z
    ways-are w z = (ways-to w z, λ W. subst (λ (v : Word). Memᴰ z (ways_to_cut ws v)) W.whole (there z W.from_list))

  -- Their order.

  falling_append : (Y Z : List (List Word)) → Falling Y → Falling Z → ((y z : List Word) → Memᴰ y Y → Memᴰ z Z → Earlier y z) → Falling (Y ++ Z)
  falling_append [] Z F G h = G
  falling_append (y ∷ Y) Z F G h = (
    λ z m. ⊎_elim (λ l. F.0 z l) (λ l. h y z (Memᴰ.head refl) l) (Memᴰ.append_cases Y m),
    falling_append Y Z F.1 G (λ a z m n. h a z (Memᴰ.tail m) n),
  )

  falling_map : (b : Word) (Z : List (List Word)) → Falling Z → Falling (map (λ z. b ∷ z) Z)
  falling_map b [] F = tt
  falling_map b (z ∷ Z) F = (
    λ y m. let R = Memᴰ.of_map (λ z. b ∷ z) Z m in subst (λ (a : List Word). Earlier (b ∷ z) a) R.2 (inr (refl, F.0 R.0 R.1)),
    falling_map b Z F.1,
  )

  cuts_fall : (v b : Word) → Falling (cuts_from ws b v)
  unfolding cuts_from
  cuts_fall [] b = go (listed ws b)
    where
      go : (x : Bool) → Falling (cond x ((b ∷ []) ∷ []) [])
      go true = (λ y m. absurd (Memᴰ.not-nil m), tt)
      go false = tt
  cuts_fall (x ∷ v) b =
      falling_append (cuts_from ws (b ++ (x ∷ [])) v) _ (cuts_fall v (b ++ (x ∷ []))) (go (listed ws b) (cuts_fall v (x ∷ [])))
      (λ y z m n.
      let R = first_word ws v (b ++ (x ∷ [])) y m in
      let S = Memᴰ.of_map (λ z. b ∷ z) (cuts_from ws (x ∷ []) v) (test-mem (listed ws b) _ z n).1 in
      subst (λ (a : List Word). Earlier a z) (sym R.2) (subst (λ (a : List Word). Earlier (R.0 ∷ R.1) a) S.2 (inl (omega (arith, R.3, length-append b (x ∷ []))))))
    where
      go : (t : Bool) → Falling (cuts_from ws (x ∷ []) v) → Falling (cond t (map (λ z. b ∷ z) (cuts_from ws (x ∷ []) v)) [])
      go true F = falling_map b (cuts_from ws (x ∷ []) v) F
      go false F = tt

  pub ways_fall : (w : Word) → Falling (ways_to_cut ws w)
  ways_fall [] = (λ y m. absurd (Memᴰ.not-nil m), tt)
  ways_fall (x ∷ v) = cuts_fall v (x ∷ [])

-- So none stands there twice, and the members tell the list.

earlier-both : (z y : List Word) → Earlier z y → Earlier y z → ⊥
earlier-both [] y h k = h
earlier-both (b ∷ z) [] h k = h
earlier-both (b ∷ z) (c ∷ y) (inl h) (inl k) = omega arith
earlier-both (b ∷ z) (c ∷ y) (inl h) (inr k) = omega (arith, ap length k.0)
earlier-both (b ∷ z) (c ∷ y) (inr h) (inl k) = omega (arith, ap length h.0)
earlier-both (b ∷ z) (c ∷ y) (inr h) (inr k) = earlier-both z y h.1 k.1

pub falling_distinct : (Z : List (List Word)) → Falling Z → Distinct Z
falling_distinct = sorted-distinct Earlier earlier-both Falling (λ z Z F. F)

pub falling_unique : (Y Z : List (List Word)) → Falling Y → Falling Z → ((z : List Word) → Memᴰ z Y ↔ Memᴰ z Z) → Y ≡ Z
falling_unique = sorted_unique Earlier earlier-both Falling (λ z Z F. F)
