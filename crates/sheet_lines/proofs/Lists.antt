-- Laws of lists: parts of a list whose elements have a property, and images that tell it.
use Prim.Native.Nat.{ℕ, zero, suc, ◌<◌, ◌≤◌}
use native.Mathlib.Omega.{arith}
use mathlib.Core.Path.{◌≡◌, refl, sym, ap, ap₂}
use mathlib.Core.List.{List, [], ◌∷◌, map, head-eq_of_cons-eq, tail-eq_of_cons-eq, nil≢cons}
use lib.ListN.{length, get_or, take, drop, replicate}
use Rattle.table_format.proofs.All.{All}

pub all_replicate : {A : Type 0} (P : A → Type 0) (n : ℕ) (x : A) → P x → All P (replicate n x)
all_replicate P zero x p = tt
all_replicate P (suc n) x p = (p, all_replicate P n x p)

pub take-most : (n : ℕ) (cs : List ℕ) → length (take n cs) ≤ n
take-most zero cs = omega arith
take-most (suc n) [] = omega arith
take-most (suc n) (c ∷ cs) = let k = take-most n cs in omega arith

pub all_take : (P : ℕ → Type 0) (n : ℕ) (cs : List ℕ) → All P cs → All P (take n cs)
all_take P zero cs h = tt
all_take P (suc n) [] h = tt
all_take P (suc n) (c ∷ cs) h = (h.0, all_take P n cs h.1)

pub all_drop : (P : ℕ → Type 0) (n : ℕ) (cs : List ℕ) → All P cs → All P (drop n cs)
all_drop P zero cs h = h
all_drop P (suc n) [] h = tt
all_drop P (suc n) (c ∷ cs) h = all_drop P n cs h.1

-- a map is told by its images, where it is so for each element
pub map_same : {A B : Type 0} (P : A → Type 0) (g : A → B) → ((x y : A) → P x → P y → g x ≡ g y → x ≡ y)
    → (xs ys : List A) → All P xs → All P ys → map g xs ≡ map g ys → xs ≡ ys
map_same P g law [] [] h k e = refl
map_same P g law [] (y ∷ ys) h k e = absurd (nil≢cons e)
map_same P g law (x ∷ xs) [] h k e = absurd (nil≢cons (sym e))
map_same P g law (x ∷ xs) (y ∷ ys) h k e =
    ap₂ (λ u us. u ∷ us) (law x y h.0 k.0 (head-eq_of_cons-eq e)) (map_same P g law xs ys h.1 k.1 (tail-eq_of_cons-eq e))

-- parts of images, and the image at a place
module _ (f : ℕ → ℕ) where
  pub map-take : (n : ℕ) (xs : List ℕ) → map f (take n xs) ≡ take n (map f xs)
  map-take zero xs = refl
  map-take (suc n) [] = refl
  map-take (suc n) (x ∷ xs) = ap (λ (l : List ℕ). f x ∷ l) (map-take n xs)

  pub map-drop : (n : ℕ) (xs : List ℕ) → map f (drop n xs) ≡ drop n (map f xs)
  map-drop zero xs = refl
  map-drop (suc n) [] = refl
  map-drop (suc n) (x ∷ xs) = map-drop n xs

pub map_at : (f : ℕ → ℕ) (xs : List ℕ) (k : ℕ) → k < length xs → f (get_or xs k 0) ≡ get_or (map f xs) k 0
map_at f [] k h = absurd (omega arith)
map_at f (x ∷ xs) zero h = refl
map_at f (x ∷ xs) (suc k) h = map_at f xs k (omega arith)
