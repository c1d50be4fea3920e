-- What is computed of a line is what Facts of specs/ says of it, and nothing else is.
use Prim.Native.Nat.{ℕ, zero, suc, ◌+◌, ◌≤◌, ◌<◌}
use native.Mathlib.Omega.{arith}
use mathlib.Core.Path.{◌≡◌, refl, sym, ap, subst, ◌∙◌}
use mathlib.Core.Bool.{Bool, true, false}
use mathlib.Core.List.{List, [], ◌∷◌, ◌++◌, append-nil, append_assoc}
use lib.Dec.{eqb, leb}
use lib.ListN.{length, drop, length-append, length-drop}
use lib.Seq.{drop-append_seam}
use borrow.Author.Tests.{eqb-true, eqb-false, leb-true, leb-false}
use Rattle.utf8.specs.declared.Character.{Character}
use Rattle.std.specs.Prelude.{Option, Some, None}
use Rattle.utf8.specs.Utf8.{scalar, is_scalar, encoded, character_in}
use Rattle.utf8.proofs.Front.{encoding_read}
use Rattle.utf8.proofs.Headlines.{character_is, character_sizes, encoded-sizes}
use Rattle.alphabet.specs.Letters.{letter_of}
use Rattle.table_format.proofs.All.{All}
use Rattle.wordlist_spelling.specs.declared.FaultKind.TheVariants.{NoLetter, TooLong}
use Rattle.wordlist_spelling.specs.Spelled.{most_letters, Ending, Spelled, ended, spelled_from, spelled}
use Rattle.wordlist_spelling.specs.Facts.{Spells, NoCharacter, Foreign, Letter, Ends, SpelledAs}
use Rattle.wordlist_spelling.proofs.Turns.{turn_end, turn-broken, turn-other, turn-long, turn-letter}

-- Letters and the bytes that spell them.

pub spells-more : {w bytes : List ℕ} → Spells w bytes → (c : ℕ) → is_scalar c ≡ true → 0 < letter_of c → Spells (w ++ (letter_of c ∷ [])) (bytes ++ encoded c)
spells-more Spells.none c s h = rw append-nil at (Spells.one c s h Spells.none)
spells-more (Spells.one d t g r) c s h = rw append_assoc (Spells.one d t g (spells-more r c s h))

-- what the letter of each character has, the letters of a word have
pub spells-each : (P : ℕ → Type 0) → ((c : ℕ) → 0 < letter_of c → P (letter_of c)) → {w bytes : List ℕ} → Spells w bytes → All P w
spells-each P p Spells.none = tt
spells-each P p (Spells.one c s h r) = (p c h, spells-each P p r)

pub spells-some : {w bytes : List ℕ} → Spells w bytes → 0 < length bytes → 0 < length w
spells-some Spells.none h = h
spells-some (Spells.one c s g r) h = omega arith

-- What stands at a place.

module _ (c : ℕ) (rest : List ℕ) where
  sizes : (1 ≤ length (encoded c)) × (length (encoded c) ≤ length (encoded c ++ rest))
  sizes = let l = length-append (encoded c) rest in ((encoded-sizes c).0, omega arith)

module _ (bytes : List ℕ) where
  broken_no : character_in bytes ≡ None → NoCharacter bytes
  broken_no e c rest s r =
      let is = (character_is bytes c (length (encoded c))).1 (s, refl, (rest, r)) in
      let z : ◌≡◌ {A = ℕ} 0 1 = cc in
      omega arith

  no_broken : NoCharacter bytes → character_in bytes ≡ None
  no_broken n = go (character_in bytes) refl
    where
      go : (x : Option Character) → character_in bytes ≡ x → x ≡ None
      go None e = refl
      go (Some x) e = let f = (character_is bytes x.code x.size).0 e in absurd (n x.code f.2.0 f.0 f.2.1)

pub foreign_sizes : {rest : List ℕ} {size : ℕ} → Foreign rest size → (1 ≤ size) × (size ≤ length rest)
foreign_sizes (Foreign.other c rest s z) = sizes c rest
foreign_sizes (Foreign.broken bytes h n) = (omega arith, omega arith)

pub letter-sizes : {rest : List ℕ} {size : ℕ} → Letter rest size → (1 ≤ size) × (size ≤ length rest)
letter-sizes (Letter.letter c rest s h) = sizes c rest

pub ends-inside : (ending : Ending) (w rest : List ℕ) (size : ℕ) → Ends ending w rest size → size ≤ length rest
ends-inside None w rest size E = omega arith
ends-inside (Some NoLetter) w rest size E = (foreign_sizes E).1
ends-inside (Some TooLong) w rest size E = (letter-sizes E.1).1

-- What is computed is so.

-- letters w of the bytes before a place
record Reached (line w : List ℕ) (at : ℕ) (rest : List ℕ) : Type 0 where
  before : List ℕ
  cut : line ≡ before ++ rest
  place : at ≡ length before
  spells : Spells w before
  few : length w ≤ most_letters

module _ (line w : List ℕ) (at : ℕ) (bytes : List ℕ) (R : Reached line w at bytes) where
  as_ended : (ending : Ending) (size : ℕ) {s : Spelled} → s ≡ ended w ending at size → Ends ending w bytes size → SpelledAs line s
  as_ended ending size e E =
      rw e (record { before = R.before; rest = bytes; cut = R.cut; spells = R.spells; few = R.few; place = R.place; ends = E })

  module _ (c size : ℕ) (e : character_in bytes ≡ scalar c size) where
    front : (P : List ℕ → ℕ → Type 0) → ((rest : List ℕ) → is_scalar c ≡ true → P (encoded c ++ rest) (length (encoded c))) → P bytes size
    front P p =
        let f = (character_is bytes c size).0 e in
        subst (λ (l : List ℕ). P l size) (sym f.2.1) (subst (P (encoded c ++ f.2.0)) (sym f.1) (p f.2.0 f.0))

    reached-more : 0 < letter_of c → length w < most_letters → Reached line (w ++ (letter_of c ∷ [])) (at + size) (drop size bytes)
    reached-more h m =
        let f = (character_is bytes c size).0 e in
        let rest = front (λ l n. l ≡ encoded c ++ drop n l) (λ r s. ap (λ (l : List ℕ). encoded c ++ l) (sym (drop-append_seam (encoded c) r))) in
        record {
          before = R.before ++ encoded c;
          cut = R.cut ∙ ap (λ (l : List ℕ). R.before ++ l) rest ∙ sym (append_assoc R.before (encoded c) (drop size bytes));
          place = omega (arith, R.place, length-append R.before (encoded c), f.1);
          spells = spells-more R.spells c f.0 h;
          few = omega (arith, length-append w (letter_of c ∷ []));
        }

  module _ (f : ℕ) (some : 0 < length bytes) (enough : length bytes ≤ suc f)
      (more : (v : List ℕ) (to : ℕ) (rest : List ℕ) → Reached line v to rest → length rest ≤ f → SpelledAs line (spelled_from f v to rest)) where
    by_letter_lem : (c size : ℕ) → character_in bytes ≡ scalar c size → (other many : Bool) → eqb (letter_of c) 0 ≡ other → leb most_letters (length w) ≡ many
        → SpelledAs line (spelled_from (suc f) w at bytes)
    by_letter_lem c size e true many p q =
        let z = eqb-true (letter_of c) 0 p in
        as_ended (Some NoLetter) size (turn-other f w at bytes some c size e z) (front c size e Foreign (λ rest s. Foreign.other c rest s z))
    by_letter_lem c size e false true p q =
        let m = leb-true most_letters (length w) q in
        let n = eqb-false (letter_of c) 0 p in
        let h : 0 < letter_of c = omega arith in
        as_ended (Some TooLong) size (turn-long f w at bytes some c size e h m) (omega (arith, R.few), front c size e Letter (λ rest s. Letter.letter c rest s h))
    by_letter_lem c size e false false p q =
        let m = leb-false most_letters (length w) q in
        let n = eqb-false (letter_of c) 0 p in
        let h : 0 < letter_of c = omega arith in
        let fits = character_sizes bytes c size e in
        rw (turn-letter f w at bytes some c size e h m)
        (more (w ++ (letter_of c ∷ [])) (at + size) (drop size bytes) (reached-more c size e h m) (omega (arith, length-drop size bytes)))

    as_turn : SpelledAs line (spelled_from (suc f) w at bytes)
    as_turn = go (character_in bytes) refl
      where
        go : (x : Option Character) → character_in bytes ≡ x → SpelledAs line (spelled_from (suc f) w at bytes)
        go None e = as_ended (Some NoLetter) 1 (turn-broken f w at bytes some e) (Foreign.broken bytes some (broken_no bytes e))
        go (Some x) e = by_letter_lem x.code x.size e (eqb (letter_of x.code) 0) (leb most_letters (length w)) refl refl

as_from : (line : List ℕ) (f : ℕ) (w : List ℕ) (at : ℕ) (rest : List ℕ) → Reached line w at rest → length rest ≤ f → SpelledAs line (spelled_from f w at rest)
as_from line zero w at [] R h = as_ended line w at [] R None 0 (turn_end zero w at) (refl, refl)
as_from line zero w at (b ∷ l) R h = absurd (omega arith)
as_from line (suc f) w at [] R h = as_ended line w at [] R None 0 (turn_end (suc f) w at) (refl, refl)
as_from line (suc f) w at (b ∷ l) R h = as_turn line w at (b ∷ l) R f (omega arith) h (as_from line f)

pub spelled_as : (line : List ℕ) → SpelledAs line (spelled line)
unfolding spelled
spelled_as line = as_from line (length line) [] 0 line (record { before = []; cut = refl; place = refl; spells = Spells.none; few = omega arith }) (omega arith)

-- Nothing else is so.

foreign_ends : {rest : List ℕ} {size : ℕ} → Foreign rest size → (f : ℕ) (w : List ℕ) (at : ℕ) → spelled_from (suc f) w at rest ≡ ended w (Some NoLetter) at size
foreign_ends (Foreign.other c rest s z) f w at =
    let n = sizes c rest in
    turn-other f w at (encoded c ++ rest) (omega arith) c (length (encoded c)) (encoding_read c rest s) z
foreign_ends (Foreign.broken bytes h n) f w at = turn-broken f w at bytes h (no_broken bytes n)

letter-ends : {rest : List ℕ} {size : ℕ} → Letter rest size → (f : ℕ) (w : List ℕ) (at : ℕ) → most_letters ≤ length w → spelled_from (suc f) w at rest ≡ ended w (Some TooLong) at size
letter-ends (Letter.letter c rest s h) f w at m =
    let n = sizes c rest in
    turn-long f w at (encoded c ++ rest) (omega arith) c (length (encoded c)) (encoding_read c rest s) h m

only_end : (ending : Ending) (f : ℕ) (w : List ℕ) (at : ℕ) (rest : List ℕ) (size : ℕ) → length rest ≤ f → Ends ending w rest size
    → spelled_from f w at rest ≡ ended w ending at size
only_end None f w at rest size h E = rw (E.0, E.1) (turn_end f w at)
only_end (Some NoLetter) zero w at rest size h E = absurd (omega (arith, (foreign_sizes E).0, (foreign_sizes E).1))
only_end (Some NoLetter) (suc f) w at rest size h E = foreign_ends E f w at
only_end (Some TooLong) zero w at rest size h E = absurd (omega (arith, (letter-sizes E.1).0, (letter-sizes E.1).1))
only_end (Some TooLong) (suc f) w at rest size h E = letter-ends E.1 f w at (omega arith)

module _ (u rest : List ℕ) (ending : Ending) (to size : ℕ) (few : length u ≤ most_letters) (E : Ends ending u rest size) where
  only-from : {w bytes : List ℕ} → Spells w bytes → (f : ℕ) (v : List ℕ) (at : ℕ) (line : List ℕ) → u ≡ v ++ w → to ≡ at + length bytes
      → line ≡ bytes ++ rest → length line ≤ f → spelled_from f v at line ≡ ended u ending to size
  only-from Spells.none f v at line p q r h =
      let same : v ≡ u = sym (append-nil v) ∙ sym p in
      let here : at ≡ to = omega arith in
      rw (same, here, r) (only_end ending f u to rest size (omega (arith, ap length r)) E)
  only-from (Spells.one c {w} {bytes} s g more) zero v at line p q r h =
      absurd (let n = sizes c bytes in omega (arith, ap length r, length-append (encoded c ++ bytes) rest))
  only-from (Spells.one c {w} {bytes} s g more) (suc f) v at line p q r h =
      let n = sizes c (bytes ++ rest) in
      let l = length-append v (letter_of c ∷ w) in
      let k = ap length p in
      let cut : line ≡ encoded c ++ (bytes ++ rest) = r ∙ append_assoc (encoded c) bytes rest in
      let m = ap length cut ∙ length-append (encoded c) (bytes ++ rest) in
      rw (cut, turn-letter f v at (encoded c ++ (bytes ++ rest)) (omega arith) c (length (encoded c)) (encoding_read c (bytes ++ rest) s) g (omega arith), drop-append_seam)
      (only-from more f (v ++ (letter_of c ∷ [])) (at + length (encoded c)) (bytes ++ rest)
      (p ∙ sym (append_assoc v (letter_of c ∷ []) w))
      (omega (arith, length-append (encoded c) bytes))
      refl
      (omega arith))

pub spelled-only : (line : List ℕ) (s : Spelled) → SpelledAs line s → s ≡ spelled line
unfolding spelled
spelled-only line s A =
    sym (only-from s.letters A.rest s.ending s.at s.size A.few A.ends A.spells (length line) [] 0 line refl (omega (arith, A.place)) A.cut (omega arith))
