-- The place of a word among listed ones, word after word.
use Prim.Native.Nat.{ℕ, ◌+◌, ◌≤◌}
use native.Mathlib.Omega.{arith}
use mathlib.Core.Path.{◌≡◌, refl, sym, ap, subst, ◌∙◌}
use mathlib.Core.Bool.{true, false}
use mathlib.Core.List.{List, [], ◌∷◌, ◌++◌, append_assoc}
use lib.ListN.{length, length-append}
use Rattle.lexicon.specs.Words.{Word, rises}
use Rattle.lexicon.specs.Lexicon.{spelled, IsCut}
use Rattle.lexicon.proofs.Lexicon.{spelled-next, spelled-done}
use Rattle.std.specs.Prelude.{Some, None}
use Rattle.wordlist_sorted.specs.Sorted.{inserted}
use Rattle.wordlist_sorted.specs.Placed.{Cut, PlaceIs}
use Rattle.wordlist_sorted.proofs.Kept.{spelled-append}

-- a word behind the first one of a list, before it, or the same
module _ (w v : Word) (ws : List Word) where
  inserted-behind : rises v w ≡ true → inserted w (v ∷ ws) ≡ v ∷ inserted w ws
  unfolding inserted
  inserted-behind e = rw e

  inserted-front : rises v w ≡ false → rises w v ≡ true → inserted w (v ∷ ws) ≡ w ∷ v ∷ ws
  unfolding inserted
  inserted-front e f = rw (e, f)

  inserted_same : rises v w ≡ false → rises w v ≡ false → inserted w (v ∷ ws) ≡ v ∷ ws
  unfolding inserted
  inserted_same e f = rw (e, f)

-- the words before a place are below w, so that w goes among the others, whose bytes are left
pub record Gone (w : Word) (ws : List Word) (at : ℕ) (left : List ℕ) : Type 0 where
  pub cut : Cut ws at
  pub goes : inserted w ws ≡ cut.first ++ inserted w cut.others
  pub left_is : left ≡ spelled cut.others

pub gone_none : (w : Word) (ws : List Word) (list : List ℕ) → list ≡ spelled ws → Gone w ws 0 list
gone_none w ws list e = record { cut = record { first = []; others = ws; is = refl; size = refl }; goes = refl; left_is = e }

module _ (w : Word) (ws : List Word) (at : ℕ) (left : List ℕ) (G : Gone w ws at left) where
  abbrev first : List Word
  first = G.cut.first

  abbrev others : List Word
  others = G.cut.others

  -- so many bytes stand before them
  pub gone-within : at ≤ length (spelled ws)
  gone-within = omega (arith, ap length (ap spelled G.cut.is ∙ spelled-append first others), length-append (spelled first) (spelled others), G.cut.size)

  -- no word is left
  pub gone_all : IsCut left → PlaceIs w ws (Some at)
  unfolding inserted
  gone_all c =
      let none : others ≡ [] = spelled-done others (subst IsCut G.left_is c) in
      (G.cut, G.goes ∙ ap (λ (vs : List Word). first ++ inserted w vs) none ∙ ap (λ (vs : List Word). first ++ (w ∷ vs)) (sym none))

  -- the next word
  module _ (v : Word) (rest : List ℕ) (e : left ≡ length v ∷ (v ++ rest)) where
    N : (vs : List Word) × (others ≡ v ∷ vs) × (rest ≡ spelled vs)
    N = spelled-next others v rest (sym G.left_is ∙ e)

    -- w among the others, where it goes so before, behind or onto the next word
    among : (vs : List Word) → inserted w (v ∷ N.0) ≡ vs → inserted w ws ≡ first ++ vs
    among vs f = G.goes ∙ ap (λ (us : List Word). first ++ us) (ap (inserted w) N.1 ∙ f)

    pub gone_more : rises v w ≡ true → (to : ℕ) → to ≡ at + (1 + length v) → Gone w ws to rest
    gone_more f to t = record {
      cut = record {
        first = first ++ (v ∷ []);
        others = N.0;
        is = G.cut.is ∙ ap (λ (us : List Word). first ++ us) N.1 ∙ sym (append_assoc first (v ∷ []) N.0);
        size = omega (arith, ap length (spelled-append first (v ∷ [])), length-append (spelled first) (spelled (v ∷ [])), length-append v [], G.cut.size);
      };
      goes = among (v ∷ inserted w N.0) (inserted-behind w v N.0 f) ∙ sym (append_assoc first (v ∷ []) (inserted w N.0));
      left_is = N.2;
    }

    pub gone_here : rises v w ≡ false → rises w v ≡ true → PlaceIs w ws (Some at)
    gone_here f g = (G.cut, among (w ∷ others) (inserted-front w v N.0 f g ∙ ap (λ (us : List Word). w ∷ us) (sym N.1)))

    pub gone_listed : rises v w ≡ false → rises w v ≡ false → PlaceIs w ws None
    gone_listed f g = among others (inserted_same w v N.0 f g ∙ sym N.1) ∙ sym G.cut.is

    -- its bytes stand behind those before it
    pub next-within : at + (1 + length v) ≤ length (spelled ws)
    next-within = omega (
      arith,
      ap length (ap spelled G.cut.is ∙ spelled-append first others),
      length-append (spelled first) (spelled others),
      G.cut.size,
      ap length (ap spelled N.1),
      length-append v (spelled N.0),
    )
