-- Laws of rows: one after another, how many, and that nothing is lost by cutting; pieces of one size are told by what they join to.
use Prim.Native.Nat.{ℕ, zero, suc, ◌+◌, ◌*◌, ◌-◌, ◌/◌, ◌<◌, ◌≤◌}
use native.Mathlib.Omega.{arith}
use mathlib.Core.Path.{◌≡◌, refl, sym, ap, ap₂, ◌∙◌}
use mathlib.Core.List.{List, [], ◌∷◌, ◌++◌, append_assoc}
use lib.ListN.{length, take, drop, length-append, length-drop, take-append-drop}
use lib.Seq.{take_at, drop_at}
use Rattle.table_format.proofs.All.{All}
use Rattle.sheet_lines.specs.Lines.{row_letters, cut, rows_of, lines_for, joined}

pub joined-append : (xs ys : List (List ℕ)) → joined (xs ++ ys) ≡ joined xs ++ joined ys
joined-append [] ys = refl
joined-append (x ∷ xs) ys = ap (λ (l : List ℕ). x ++ l) (joined-append xs ys) ∙ sym (append_assoc x (joined xs) (joined ys))

pub rows_none : (cs : List ℕ) → length cs ≡ 0 → rows_of cs ≡ []
unfolding rows_of
rows_none cs e = let n : (length cs + (row_letters - 1)) / row_letters ≡ 0 = omega arith in ap (λ (k : ℕ). cut k cs) n

pub rows-some : (cs : List ℕ) → 0 < length cs → rows_of cs ≡ take row_letters cs ∷ rows_of (drop row_letters cs)
unfolding rows_of
rows-some cs h =
    let n : (length cs + (row_letters - 1)) / row_letters ≡ suc ((length (drop row_letters cs) + (row_letters - 1)) / row_letters) = (let d : length (drop row_letters cs) ≡ length cs - row_letters = length-drop row_letters cs in omega arith) in
    ap (λ (k : ℕ). cut k cs) n

cut-count : (n : ℕ) (cs : List ℕ) → length (cut n cs) ≡ n
cut-count zero cs = refl
cut-count (suc n) cs = ap suc (cut-count n (drop row_letters cs))

-- the lines of a reading: the first, and one for each row after it
pub rows-count : (cs : List ℕ) → suc (length (rows_of (drop row_letters cs))) ≡ lines_for (length cs)
unfolding rows_of
rows-count cs =
    let k = cut-count ((length (drop row_letters cs) + (row_letters - 1)) / row_letters) (drop row_letters cs) in
    let d : length (drop row_letters cs) ≡ length cs - row_letters = length-drop row_letters cs in
    omega arith

cut-joined : (n : ℕ) (cs : List ℕ) → length cs ≤ row_letters * n → joined (cut n cs) ≡ cs
cut-joined zero [] h = refl
cut-joined zero (c ∷ cs) h = absurd (omega arith)
cut-joined (suc n) cs h =
    ap (λ (l : List ℕ). take row_letters cs ++ l) (cut-joined n (drop row_letters cs) (let d : length (drop row_letters cs) ≡ length cs - row_letters = length-drop row_letters cs in omega arith))
    ∙ take-append-drop row_letters cs

pub rows-joined : (cs : List ℕ) → joined (rows_of cs) ≡ cs
unfolding rows_of
rows-joined cs = cut-joined ((length cs + (row_letters - 1)) / row_letters) cs (omega arith)

-- pieces of one length, joined
module _ (P : List ℕ → Type 0) (k : ℕ) (size : (l : List ℕ) → P l → length l ≡ k) where
  pub pieces_length : (ls : List (List ℕ)) → All P ls → length (joined ls) ≡ k * length ls
  pieces_length [] h = omega arith
  pieces_length (l ∷ ls) h = let e = size l h.0 in let m = pieces_length ls h.1 in simp length-append (omega arith)

  pub pieces_same : 0 < k → (xs ys : List (List ℕ)) → All P xs → All P ys → joined xs ≡ joined ys → xs ≡ ys
  pieces_same some [] [] h m e = refl
  pieces_same some [] (y ∷ ys) h m e = let s = size y m.0 in absurd (omega (arith, simp length-append at (ap length e)))
  pieces_same some (x ∷ xs) [] h m e = let s = size x h.0 in absurd (omega (arith, simp length-append at (ap length e)))
  pieces_same some (x ∷ xs) (y ∷ ys) h m e =
      ap₂ (λ (l : List ℕ) (ls : List (List ℕ)). l ∷ ls)
      (sym (take_at x (joined xs) k (size x h.0)) ∙ ap (take k) e ∙ take_at y (joined ys) k (size y m.0))
      (pieces_same some xs ys h.1 m.1 (sym (drop_at x (joined xs) k (size x h.0)) ∙ ap (drop k) e ∙ drop_at y (joined ys) k (size y m.0)))
