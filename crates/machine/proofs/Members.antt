-- The members of two lists one after another.
use mathlib.Core.Logic.{◌⊎◌, inl, inr, ⊎_elim}
use mathlib.Core.List.Memᴰ
use mathlib.Core.List.{List, [], ◌∷◌, ◌++◌, Memᴰ}

pub mem-left : {A : Type 0} (x : A) (l r : List A) → Memᴰ x l → Memᴰ x (l ++ r)
mem-left x [] r m = absurd (Memᴰ.not-nil m)
mem-left x (y ∷ l) r m = ⊎_elim (λ w. Memᴰ.head w) (λ w. Memᴰ.tail (mem-left x l r w)) (Memᴰ.cases_cons m)

pub mem_right : {A : Type 0} (x : A) (l r : List A) → Memᴰ x r → Memᴰ x (l ++ r)
mem_right x [] r m = m
mem_right x (y ∷ l) r m = Memᴰ.tail (mem_right x l r m)

pub mem_either : {A : Type 0} (x : A) (l r : List A) → Memᴰ x (l ++ r) → Memᴰ x l ⊎ Memᴰ x r
mem_either x [] r m = inr m
mem_either x (y ∷ l) r m =
    ⊎_elim (λ w. inl (Memᴰ.head w)) (λ w. ⊎_elim (λ u. inl (Memᴰ.tail u)) (λ u. inr u) (mem_either x l r w)) (Memᴰ.cases_cons m)
