-- Laws of the readings that are lent: one reading at a time; a list and the bytes that lend it determine each other.
use Prim.Native.Nat.{ℕ, zero, suc, ◌+◌, ◌-◌, ◌*◌, ◌<◌, ◌≤◌}
use native.Mathlib.Omega.{arith}
use native.Mathlib.Nat.{zero-add}
use mathlib.Core.Path.{◌≡◌, refl, sym, ap, ap₂, ◌∙◌}
use mathlib.Core.Bool.{Bool, true, false, cond, ◌&&◌, and-false, false≢true}
use mathlib.Core.Option.{Option, none, some, map}
use mathlib.Core.List.{List, [], ◌∷◌, ◌++◌}
use lib.Dec.{eqb, leb, leb-zero, leb-suc-zero, leb-suc-suc}
use lib.ListN.{length, get_or, take, drop, length-append}
use lib.Seq.{take_all, take-append_seam, drop-append_seam}
use borrow.Author.Tests.{le-leb, lt-leb, leb-true, eqb-true, eqb-false}
use mir.Syntax.{w8}
use mir.Val.{Fits}
use Rattle.table_format.proofs.All.{All}
use Rattle.table_format.proofs.Tests.{and_left, and_right}
use Rattle.table_format.specs.Text.{number}
use Rattle.table_format.proofs.Line.{IsByte}
use Rattle.table_format.proofs.Text.{number_value, number_exact}
use Rattle.faces.specs.Lent.{lent_bytes, onto, lent_from, lent_in, IsCut, at_end, at_half, at_short, every, is_letter, most_readings, readings_hold, held_as, list_holds, list_as, list_of}

-- what a slice of bytes knows of its elements
pub bytes-all : (l : List ℕ) → ((i : ℕ) → Fits w8 (get_or l i 0)) → All IsByte l
bytes-all [] f = tt
bytes-all (x ∷ xs) f = ((f 0).fits, bytes-all xs (λ i. f (suc i)))

-- Letters.

abbrev pub IsLetter : ℕ → Type 0
IsLetter x = (1 ≤ x) × (x ≤ 63)

pub is_letter_lem : (x : ℕ) → is_letter x ≡ true → IsLetter x
is_letter_lem x e = (leb-true _ _ (and_left _ _ e), leb-true _ _ (and_right (leb 1 x) _ e))

pub all-every : {A : Type 0} (P : A → Type 0) (test : A → Bool) → ((x : A) → test x ≡ true → P x) → (xs : List A) → every test xs ≡ true → All P xs
all-every P test law [] e = tt
all-every P test law (x ∷ xs) e = (law x (and_left _ _ e), all-every P test law xs (and_right (test x) _ e))

pub every_append : {A : Type 0} (test : A → Bool) (xs ys : List A) → every test (xs ++ ys) ≡ (every test xs && every test ys)
every_append test [] ys = refl
every_append test (x ∷ xs) ys = go (test x) (every_append test xs ys)
  where
    go : (b : Bool) → every test (xs ++ ys) ≡ (every test xs && every test ys) → (b && every test (xs ++ ys)) ≡ ((b && every test xs) && every test ys)
    go true e = e
    go false e = refl

-- One reading at a time.

-- the first n bytes are a reading, and those after it are readings
abbrev cut_at : ℕ → List ℕ → Option (List (List ℕ))
cut_at n bytes = cond (leb n (length bytes)) (map (λ ws. take n bytes ∷ ws) (lent_in (drop n bytes))) none

onto-cut : (x : ℕ) (b : Bool) (w : List ℕ) (o : Option (List (List ℕ)))
    → map (onto x) (cond b (map (λ ws. w ∷ ws) o) none) ≡ cond b (map (λ ws. (x ∷ w) ∷ ws) o) none
onto-cut x true w none = refl
onto-cut x true w (some ws) = refl
onto-cut x false w o = refl

lent_cut : (n : ℕ) (bytes : List ℕ) → lent_from n bytes ≡ cut_at n bytes
unfolding lent_from lent_in
lent_cut zero [] = refl
lent_cut zero (h ∷ []) = refl
lent_cut zero (h ∷ l ∷ bytes) = rw leb-zero
lent_cut (suc n) [] = rw leb-suc-zero
lent_cut (suc n) (x ∷ bytes) =
    ap (map (onto x)) (lent_cut n bytes)
    ∙ onto-cut x (leb n (length bytes)) (take n bytes) (lent_in (drop n bytes))
    ∙ rw leb-suc-suc

-- a reading in front of others, and none where it is cut short
pub lent-one : (w rest : List ℕ) → lent_in (number (length w) ++ (w ++ rest)) ≡ map (λ ws. w ∷ ws) (lent_in rest)
unfolding lent_in
lent-one w rest =
    ap (λ (n : ℕ). lent_from n (w ++ rest)) (number_value (length w))
    ∙ lent_cut (length w) (w ++ rest)
    ∙ rw (le-leb (length w) (length (w ++ rest)) (simp length-append (omega arith)), take-append_seam, drop-append_seam)

-- fewer than two bytes, and fewer letters than two bytes say, are cut short
pub cut_few : (bytes : List ℕ) → length bytes < 2 → IsCut bytes
cut_few [] h = at_end
cut_few (x ∷ []) h = at_half x
cut_few (x ∷ y ∷ bytes) h = absurd (omega arith)

pub cut_letters : (bytes : List ℕ) (n : ℕ) → 2 ≤ length bytes → n ≡ get_or bytes 0 0 * 256 + get_or bytes 1 0 → length (take (length bytes - 2) (drop 2 bytes)) < n → IsCut bytes
cut_letters [] n h e k = absurd (omega arith)
cut_letters (x ∷ []) n h e k = absurd (omega arith)
cut_letters (x ∷ y ∷ bytes) n h e k =
    let all : take (length (x ∷ y ∷ bytes) - 2) bytes ≡ bytes = take_all (length (x ∷ y ∷ bytes) - 2) bytes (omega arith) in
    at_short x y bytes (omega (arith, ap length all))

pub lent-short : (bytes : List ℕ) → IsCut bytes → (length bytes ≡ 0 → ⊥) → lent_in bytes ≡ none
unfolding lent_in
lent-short _ at_end h = absurd (h refl)
lent-short _ (at_half x) h = refl
lent-short _ (at_short x y bytes k) h =
    lent_cut (x * 256 + y) bytes
    ∙ ap (λ (b : Bool). cond b (map (λ ws. take (x * 256 + y) bytes ∷ ws) (lent_in (drop (x * 256 + y) bytes))) none) (lt-leb (x * 256 + y) (length bytes) k)

-- THE CHECK, reading by reading: what is left must hold, after so many readings.

abbrev holds_after : ℕ → Option (List (List ℕ)) → Bool
holds_after count none = false
holds_after count (some ws) = leb (count + length ws) most_readings && every (every is_letter) ws

pub record Held (bytes rest : List ℕ) (count : ℕ) : Type 0 where
  pub few : count ≤ most_readings
  pub is : list_holds bytes ≡ holds_after count (lent_in rest)

pub held_none : (bytes : List ℕ) → Held bytes bytes 0
unfolding list_holds readings_hold
held_none bytes = record { few = omega arith; is = same (lent_in bytes) }
  where
    same : (o : Option (List (List ℕ))) → held_as o ≡ holds_after 0 o
    same none = refl
    same (some ws) = ap (λ (n : ℕ). leb n most_readings && every (every is_letter) ws) (sym (zero-add (length ws)))

module _ (bytes rest : List ℕ) (count : ℕ) (H : Held bytes rest count) where
  -- where no reading is left, all bytes must be taken
  pub held-done : IsCut rest → (b : Bool) → b ≡ eqb (length rest) 0 → b ≡ list_holds bytes
  unfolding lent_in
  held-done c b e = go b rest c e H.is
    where
      go : (b : Bool) (l : List ℕ) → IsCut l → b ≡ eqb (length l) 0 → list_holds bytes ≡ holds_after count (lent_in l) → b ≡ list_holds bytes
      go true l d q is = sym (is ∙ ap (λ (m : List ℕ). holds_after count (lent_in m)) (nothing l (eqb-true _ _ (sym q))) ∙ end)
        where
          nothing : (m : List ℕ) → length m ≡ 0 → m ≡ []
          nothing [] z = refl
          nothing (x ∷ m) z = absurd (omega arith)

          end : holds_after count (lent_in []) ≡ true
          end = rw (le-leb (count + 0) most_readings (omega (arith, H.few)))
      go false l d q is = sym (is ∙ ap (holds_after count) (lent-short l d (eqb-false _ _ (sym q))))

  module _ (w after : List ℕ) (taken : rest ≡ number (length w) ++ (w ++ after)) where
    step : list_holds bytes ≡ holds_after count (map (λ ws. w ∷ ws) (lent_in after))
    step = H.is ∙ ap (λ (l : List ℕ). holds_after count (lent_in l)) taken ∙ ap (holds_after count) (lent-one w after)

    pub held_many : count ≡ most_readings → list_holds bytes ≡ false
    held_many full = step ∙ go (lent_in after)
      where
        go : (o : Option (List (List ℕ))) → holds_after count (map (λ ws. w ∷ ws) o) ≡ false
        go none = refl
        go (some ws) = rw (lt-leb (count + suc (length ws)) most_readings (omega arith))

    pub held-letters : every is_letter w ≡ false → list_holds bytes ≡ false
    held-letters bad = step ∙ go (lent_in after)
      where
        go : (o : Option (List (List ℕ))) → holds_after count (map (λ ws. w ∷ ws) o) ≡ false
        go none = refl
        go (some ws) =
            let full : Bool = leb (count + suc (length ws)) most_readings in
            ap (λ (b : Bool). full && (b && every (every is_letter) ws)) bad ∙ and-false full

    pub held_more : every is_letter w ≡ true → (count ≡ most_readings → ⊥) → Held bytes after (count + 1)
    held_more good less = record { few = omega (arith, H.few); is = step ∙ go (lent_in after) }
      where
        go : (o : Option (List (List ℕ))) → holds_after count (map (λ ws. w ∷ ws) o) ≡ holds_after (count + 1) o
        go none = refl
        go (some ws) =
            let shift : count + suc (length ws) ≡ count + 1 + length ws = omega arith in
            ap₂ (λ (n : ℕ) (b : Bool). leb n most_readings && (b && every (every is_letter) ws)) shift good

-- THE READINGS, one after another, where they hold.

none-some : {A : Type 0} {ws : List (List ℕ)} → none ≡ some ws → A
none-some e = let z : ◌≡◌ {A = ℕ} 0 1 = cc in absurd (omega arith)

-- what is left of the bytes lends these readings
pub record Left (rest : List ℕ) (ws : List (List ℕ)) : Type 0 where
  pub lent : lent_in rest ≡ some ws
  pub letters : every (every is_letter) ws ≡ true

held-some : (o : Option (List (List ℕ))) → held_as o ≡ true → (o ≡ some (list_as o)) × (readings_hold (list_as o) ≡ true)
held-some none e = absurd (false≢true e)
held-some (some ws) e = (refl, e)

module _ (bytes : List ℕ) (holds : list_holds bytes ≡ true) where
  pub list-lent : lent_in bytes ≡ some (list_of bytes)
  unfolding list_holds list_of
  list-lent = (held-some (lent_in bytes) holds).0

  pub list_holds_lem : readings_hold (list_of bytes) ≡ true
  unfolding list_holds list_of
  list_holds_lem = (held-some (lent_in bytes) holds).1

  pub left-all : Left bytes (list_of bytes)
  unfolding readings_hold
  left-all = record { lent = list-lent; letters = and_right (leb (length (list_of bytes)) most_readings) _ list_holds_lem }

  pub list-few : length (list_of bytes) ≤ most_readings
  unfolding readings_hold
  list-few = leb-true _ _ (and_left _ _ list_holds_lem)

-- the next reading, and those after it
pub record Next (w after : List ℕ) (ws : List (List ℕ)) : Type 0 where
  pub letters : every is_letter w ≡ true
  pub others : List (List ℕ)
  pub is : ws ≡ w ∷ others
  pub left : Left after others

module _ (rest : List ℕ) (ws : List (List ℕ)) (L : Left rest ws) where
  pub left-none : IsCut rest → ws ≡ []
  unfolding lent_in
  left-none c = go rest c L.lent
    where
      go : (l : List ℕ) → IsCut l → lent_in l ≡ some ws → ws ≡ []
      go _ at_end e = cc
      go _ (at_half x) e = none-some e
      go _ (at_short x y bytes k) e = none-some (sym (lent-short (x ∷ y ∷ bytes) (at_short x y bytes k) (λ z. omega arith)) ∙ e)

  pub left-next : (w after : List ℕ) → rest ≡ number (length w) ++ (w ++ after) → Next w after ws
  left-next w after taken = go (lent_in after) refl
    where
      step : map (λ us. w ∷ us) (lent_in after) ≡ some ws
      step = sym (ap lent_in taken ∙ lent-one w after) ∙ L.lent

      go : (o : Option (List (List ℕ))) → lent_in after ≡ o → Next w after ws
      go none q = none-some (sym (ap (map (λ us. w ∷ us)) q) ∙ step)
      go (some vs) q =
          let e : some (w ∷ vs) ≡ some ws = sym (ap (map (λ us. w ∷ us)) q) ∙ step in
          let is : ws ≡ w ∷ vs = cc in
          let good : every (every is_letter) (w ∷ vs) ≡ true = ap (every (every is_letter)) (sym is) ∙ L.letters in
          record { letters = and_left _ _ good; others = vs; is = is; left = record { lent = q; letters = and_right (every is_letter w) _ good } }

-- ONE SPELLING: bytes that lend readings are those by which they are lent.

abbrev pub Short : List ℕ → Type 0
Short w = length w < 65536

-- a reading of n letters and those after it, and their spelling
record Spelled (n : ℕ) (bytes : List ℕ) (ws : List (List ℕ)) : Type 0 where
  first : List ℕ
  others : List (List ℕ)
  is : ws ≡ first ∷ others
  size : length first ≡ n
  short : All Short others
  spelled : bytes ≡ first ++ lent_bytes others

spelled_from_lem : (n : ℕ) (bytes : List ℕ) (ws : List (List ℕ)) → All IsByte bytes → lent_from n bytes ≡ some ws → Spelled n bytes ws
unfolding lent_from lent_bytes
spelled_from_lem zero [] ws B e = record { first = []; others = []; is = (let s : some ([] ∷ []) ≡ some ws = e in cc); size = refl; short = tt; spelled = refl }
spelled_from_lem zero (h ∷ []) ws B e = none-some e
spelled_from_lem zero (h ∷ l ∷ bytes) ws B e = go (lent_from (h * 256 + l) bytes) refl (λ vs q. spelled_from_lem (h * 256 + l) bytes vs B.1.1 q)
  where
    go : (o : Option (List (List ℕ))) → lent_from (h * 256 + l) bytes ≡ o
        → ((vs : List (List ℕ)) → lent_from (h * 256 + l) bytes ≡ some vs → Spelled (h * 256 + l) bytes vs) → Spelled 0 (h ∷ l ∷ bytes) ws
    go none q f = none-some (sym (ap (map (λ vs. [] ∷ vs)) q) ∙ e)
    go (some vs) q f =
        let r = f vs q in
        let s : some ([] ∷ vs) ≡ some ws = sym (ap (map (λ us. [] ∷ us)) q) ∙ e in
        let t : ws ≡ [] ∷ vs = cc in
        let byte : l < 256 = B.1.0 in
        let top : h < 256 = B.0 in
        record {
          first = [];
          others = r.first ∷ r.others;
          is = t ∙ ap (λ (us : List (List ℕ)). [] ∷ us) r.is;
          size = refl;
          short = (omega (arith, r.size), r.short);
          spelled = ap₂ (λ (a b : List ℕ). a ++ b) (sym (ap number r.size ∙ number_exact h l byte)) r.spelled;
        }
spelled_from_lem (suc n) [] ws B e = none-some e
spelled_from_lem (suc n) (x ∷ bytes) ws B e = go (lent_from n bytes) refl (λ vs q. spelled_from_lem n bytes vs B.1 q)
  where
    go : (o : Option (List (List ℕ))) → lent_from n bytes ≡ o → ((vs : List (List ℕ)) → lent_from n bytes ≡ some vs → Spelled n bytes vs) → Spelled (suc n) (x ∷ bytes) ws
    go none q f = none-some (sym (ap (map (onto x)) q) ∙ e)
    go (some vs) q f =
        let r = f vs q in
        let s : some (onto x vs) ≡ some ws = sym (ap (map (onto x)) q) ∙ e in
        let t : ws ≡ onto x vs = cc in
        record {
          first = x ∷ r.first;
          others = r.others;
          is = t ∙ ap (onto x) r.is;
          size = ap suc r.size;
          short = r.short;
          spelled = ap (λ (l : List ℕ). x ∷ l) r.spelled;
        }

module _ (bytes : List ℕ) (ws : List (List ℕ)) (B : All IsByte bytes) (e : lent_in bytes ≡ some ws) where
  both : (bytes ≡ lent_bytes ws) × All Short ws
  unfolding lent_in lent_bytes
  both = go bytes B e
    where
      go : (bs : List ℕ) → All IsByte bs → lent_in bs ≡ some ws → (bs ≡ lent_bytes ws) × All Short ws
      go [] b q = let t : ws ≡ [] = (let s : some [] ≡ some ws = q in cc) in rw t (refl, tt)
      go (h ∷ []) b q = none-some q
      go (h ∷ l ∷ bs) b q =
          let r = spelled_from_lem (h * 256 + l) bs ws b.1.1 q in
          let byte : l < 256 = b.1.0 in
          let top : h < 256 = b.0 in
          rw r.is (ap₂ (λ (x y : List ℕ). x ++ y) (sym (ap number r.size ∙ number_exact h l byte)) r.spelled, (omega (arith, r.size), r.short))

  pub lent-spelled : bytes ≡ lent_bytes ws
  lent-spelled = both.0

  -- a length of two bytes is below 65,536
  pub lent-short-all : All Short ws
  lent-short-all = both.1

-- every list is read from its spelling
pub spelled-lent : (ws : List (List ℕ)) → lent_in (lent_bytes ws) ≡ some ws
unfolding lent_bytes lent_in
spelled-lent [] = refl
spelled-lent (w ∷ ws) = lent-one w (lent_bytes ws) ∙ ap (map (λ us. w ∷ us)) (spelled-lent ws)
