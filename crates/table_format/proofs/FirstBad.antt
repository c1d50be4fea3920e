-- A text is turned down for the first bad line, with the refusal of lowest rank that it earns, or for the missing end.
use Prim.Native.Nat.{ℕ, ◌≤◌, ◌<◌}
use native.Mathlib.Omega.{arith}
use native.Mathlib.Nat.{le_refl}
use mathlib.Core.Path.{◌≡◌, refl, sym, ap, subst, ◌∙◌}
use mathlib.Core.Bool.{true}
use mathlib.Core.Logic.{◌↔◌, ◌⊎◌, inl, inr, ⊎_elim}
use mathlib.Core.List.Memᴰ
use mathlib.Core.List.{List, [], ◌∷◌, ◌++◌, Memᴰ}
use Rattle.refusal.specs.declared.InputCause.{InputCause}
use Rattle.refusal.specs.declared.InputCause.TheVariants.{Misplaced}
use Rattle.table_format.specs.Table.{Table}
use Rattle.table_format.specs.Line.{Line, bytes_of}
use Rattle.table_format.specs.Parse.{Progress, opening, within, closed, line_faults, onward, turned_down, decide, at_end, parse_from}
use Rattle.table_format.specs.FirstBad.{rank_of, progress_after, Clear, FirstBad, LineMissing}
use Rattle.table_format.proofs.Lowest.{ranks_rise, faults-rise, first-lowest}

abbrev Bad : Progress → List Line → InputCause → Type 0
Bad p ls c = FirstBad p ls c ⊎ LineMissing p ls c

-- What turns a text down is of this kind.

at_end_lem : (p : Progress) (c : InputCause) → at_end p ≡ turned_down c → Bad p [] c
at_end_lem opening c e = inr (record { clear = tt; unfinished = λ t h. let z : ◌≡◌ {A = ℕ} 0 1 = cc in omega arith; cause_is = cc })
at_end_lem (within d t) c e = inr (record { clear = tt; unfinished = λ t h. let z : ◌≡◌ {A = ℕ} 0 1 = cc in omega arith; cause_is = cc })
at_end_lem (closed t) c e = let z : ◌≡◌ {A = ℕ} 0 1 = cc in absurd (omega arith)

-- one clear line more in front
more : (p : Progress) (l : Line) (ls : List Line) (c : InputCause) → line_faults p l ≡ [] → Bad (onward p (bytes_of l.chars)) ls c → Bad p (l ∷ ls) c
more p l ls c h =
    ⊎_elim
    (λ B.
    inl
    (record {
      before = l ∷ B.before;
      line = B.line;
      behind = B.behind;
      cut = ap (λ (x : List Line). l ∷ x) B.cut;
      clear = (h, B.clear);
      earned = B.earned;
      lowest = B.lowest;
    }))
    (λ B. inr (record { clear = (h, B.clear); unfinished = B.unfinished; cause_is = B.cause_is }))

first-least : (f : InputCause) (fs : List InputCause) → ranks_rise (f ∷ fs) ≡ true → (o : InputCause) → Memᴰ o (f ∷ fs) → rank_of f ≤ rank_of o
first-least f fs rise o m =
    ⊎_elim (λ u. subst (λ (x : InputCause). rank_of f ≤ rank_of x) (sym u) (le_refl _))
    (λ u. let less : rank_of f < rank_of o = first-lowest f fs rise o u in omega arith) (Memᴰ.cases_cons m)

down_bad : (p : Progress) (ls : List Line) (c : InputCause) → parse_from p ls ≡ turned_down c → Bad p ls c
unfolding parse_from
down_bad p [] c e = at_end_lem p c e
down_bad p (l ∷ ls) c e = go (λ k. down_bad (onward p (bytes_of l.chars)) ls c k) (line_faults p l) refl e (faults-rise p l)
  where
    go : (parse_from (onward p (bytes_of l.chars)) ls ≡ turned_down c → Bad (onward p (bytes_of l.chars)) ls c) → (fs : List InputCause)
        → line_faults p l ≡ fs → decide fs (parse_from (onward p (bytes_of l.chars)) ls) ≡ turned_down c → ranks_rise (line_faults p l) ≡ true → Bad p (l ∷ ls) c
    go later [] h k rise = more p l ls c h (later k)
    go later (f ∷ fs) h k rise =
        let same : f ≡ c = cc in
        let least = first-least f fs (ap ranks_rise (sym h) ∙ rise) in
        inl
        (record {
          before = [];
          line = l;
          behind = ls;
          cut = refl;
          clear = tt;
          earned = subst (λ (x : List InputCause). Memᴰ c x) (sym h) (Memᴰ.head (sym same));
          lowest =
              λ o m.
              subst (λ (x : InputCause). rank_of x ≤ rank_of o) same (least o (subst (λ (x : List InputCause). Memᴰ o x) h m));
        })

-- What is of this kind turns a text down.

bad_down : (p : Progress) (before : List Line) (l : Line) (behind : List Line) (c : InputCause) → Clear p before
    → Memᴰ c (line_faults (progress_after p before) l) → ((o : InputCause) → Memᴰ o (line_faults (progress_after p before) l) → rank_of c ≤ rank_of o)
    → parse_from p (before ++ (l ∷ behind)) ≡ turned_down c
unfolding parse_from
bad_down p [] l behind c clear earned lowest = go (line_faults p l) (faults-rise p l) earned lowest
  where
    go : (fs : List InputCause) → ranks_rise fs ≡ true → Memᴰ c fs → ((o : InputCause) → Memᴰ o fs → rank_of c ≤ rank_of o)
        → decide fs (parse_from (onward p (bytes_of l.chars)) behind) ≡ turned_down c
    go [] rise m low = absurd (Memᴰ.not-nil m)
    go (f ∷ fs) rise m low =
        ⊎_elim (λ u. ap turned_down (sym u))
        (λ u.
        let less : rank_of f < rank_of c = first-lowest f fs rise c u in
        let most : rank_of c ≤ rank_of f = low f (Memᴰ.head refl) in
        absurd (omega arith))
        (Memᴰ.cases_cons m)
bad_down p (k ∷ before) l behind c clear earned lowest =
    ap (λ (fs : List InputCause). decide fs (parse_from (onward p (bytes_of k.chars)) (before ++ (l ∷ behind)))) clear.0
    ∙ bad_down (onward p (bytes_of k.chars)) before l behind c clear.1 earned lowest

missing_down : (p : Progress) (ls : List Line) → Clear p ls → ((t : Table) → progress_after p ls ≡ closed t → ⊥) → parse_from p ls ≡ turned_down Misplaced
unfolding parse_from
missing_down opening [] clear un = refl
missing_down (within d t) [] clear un = refl
missing_down (closed t) [] clear un = absurd (un t refl)
missing_down p (l ∷ ls) clear un =
    ap (λ (fs : List InputCause). decide fs (parse_from (onward p (bytes_of l.chars)) ls)) clear.0
    ∙ missing_down (onward p (bytes_of l.chars)) ls clear.1 un

-- Both together.
pub decided : (p : Progress) (ls : List Line) (c : InputCause) → (parse_from p ls ≡ turned_down c) ↔ (FirstBad p ls c ⊎ LineMissing p ls c)
decided p ls c = (
  down_bad p ls c,
  ⊎_elim (λ B. ap (parse_from p) B.cut ∙ bad_down p B.before B.line B.behind c B.clear B.earned B.lowest)
      (λ B. missing_down p ls B.clear B.unfinished ∙ ap turned_down (sym B.cause_is)),
)
