-- The ways to cut a word: their first words, and the readings that they are.
use Prim.Native.Nat.{◌≤◌}
use native.Mathlib.Omega.{arith}
use mathlib.Core.Path.{◌≡◌, refl, sym, ap, ap₂, ◌∙◌}
use mathlib.Core.Logic.{⊎_elim}
use mathlib.Core.Bool.{Bool, true, false, cond}
use mathlib.Core.List.Memᴰ
use mathlib.Core.List.{List, [], ◌∷◌, ◌++◌, map, append_assoc, append-nil, map-map, Memᴰ}
use lib.ListN.{length, length-append}
use Rattle.lexicon.specs.Words.{Word, listed}
use Rattle.segmentation.specs.Ways.{cuts_from, joined}

-- members of what stands under a test
pub test-mem : {A : Type 0} (x : Bool) (l : List A) (a : A) → Memᴰ a (cond x l []) → (x ≡ true) × Memᴰ a l
test-mem true l a m = (refl, m)
test-mem false l a m = absurd (Memᴰ.not-nil m)

-- functions that agree on the elements of a list
map_same : {A B : Type 0} (f g : A → B) (l : List A) → ((a : A) → Memᴰ a l → f a ≡ g a) → map f l ≡ map g l
map_same f g [] h = refl
map_same {A} {B} f g (x ∷ l) h = ap₂ (λ (a : B) (k : List B). a ∷ k) (h x (Memᴰ.head refl)) (map_same f g l (λ a m. h a (Memᴰ.tail m)))

module _ (ws : List Word) where
  -- none, where no listed word begins with c
  pub cuts-none : (v c : Word) → ((u : Word) → listed ws (c ++ u) ≡ false) → cuts_from ws c v ≡ []
  unfolding cuts_from
  cuts-none [] c h = rw (ap (listed ws) (sym (append-nil c)) ∙ h [])
  cuts-none (x ∷ v) c h = rw (cuts-none v (c ++ (x ∷ [])) (λ u. ap (listed ws) (append_assoc c (x ∷ []) u) ∙ h (x ∷ u)), ap (listed ws) (sym (append-nil c)) ∙ h [])

  -- each way has a first word, no shorter than what it begins with
  pub first_word : (v b : Word) (z : List Word) → Memᴰ z (cuts_from ws b v) → (c : Word) × (y : List Word) × (z ≡ c ∷ y) × (length b ≤ length c)
  unfolding cuts_from
  first_word [] b z m = (b, [], Memᴰ.eq_of_singleton (test-mem (listed ws b) ((b ∷ []) ∷ []) z m).1, omega arith)
  first_word (x ∷ v) b z m =
      ⊎_elim (λ l. let R = first_word v (b ++ (x ∷ [])) z l in (R.0, R.1, R.2, omega (arith, R.3, length-append b (x ∷ []))))
      (λ l. let R = Memᴰ.of_map (λ z. b ∷ z) (cuts_from ws (x ∷ []) v) (test-mem (listed ws b) _ z l).1 in (b, R.0, sym R.2, omega arith))
      (Memᴰ.append_cases (cuts_from ws (b ++ (x ∷ [])) v) m)

  -- a word before the ways to cut the rest, as readings
  pub cuts_join : (o b v c : Word) → map (λ z. ((o ++ b) ++ (63 ∷ [])) ++ joined z) (cuts_from ws c v) ≡ map (λ z. o ++ joined z) (map (λ z. b ∷ z) (cuts_from ws c v))
  cuts_join o b v c =
      map_same (λ z. ((o ++ b) ++ (63 ∷ [])) ++ joined z) (λ z. o ++ joined (b ∷ z)) (cuts_from ws c v)
      (λ z m. let R = first_word v c z m in one R.0 R.1 z R.2) ∙ sym (map-map (λ z. o ++ joined z) (λ z. b ∷ z) (cuts_from ws c v))
    where
      one : (d : Word) (y z : List Word) → z ≡ d ∷ y → ((o ++ b) ++ (63 ∷ [])) ++ joined z ≡ o ++ joined (b ∷ z)
      one d y z e = rw e (append_assoc (o ++ b) (63 ∷ []) (joined (d ∷ y)) ∙ append_assoc o b (63 ∷ joined (d ∷ y)))
