-- A ceiling narrows a machine: its paths are those of the machine whose sum stays within the ceiling. So every bound stays, a higher ceiling's
-- list holds a lower one's, in the same order, and a stack is a place in a search under a lower ceiling where its top frame's sum is within it.
use Prim.Native.Nat.{ℕ, pred, ◌+◌, ◌≤◌}
use native.Mathlib.Omega.{arith}
use mathlib.Core.Path.{◌≡◌, refl, sym, ap, subst, ◌∙◌}
use mathlib.Core.Bool.{Bool, true, ◌&&◌}
use mathlib.Core.Logic.{◌↔◌}
use mathlib.Core.Option.{Option, none, some}
use mathlib.Core.List.{List, [], ◌∷◌, ◌++◌}
use lib.ListN.{get_or}
use lib.Dec.{eqb, ltb, leb}
use borrow.Author.Tests.{eqb-true, eq-eqb, leb-true, le-leb}
use Rattle.table_format.proofs.Tests.{and_left, and_right, and_both, both_ways}
use Rattle.machine.specs.Machine.{Machine, Path, start, more, bind, somewhen, listed, tested, final, datum, accepts, output, ArcOf, Allowed, Bounded}
use Rattle.machine.specs.Ceiling.{sum_of, ceiled}
use Rattle.machine.specs.Frames.{Frame, next_holds, bottom_holds, link_holds, chain_holds}
use Rattle.machine.proofs.Frames.{SameIs}
use Rattle.machine.proofs.Options.{bind-parts, somewhen-parts}

-- the datum of a test that holds
tested-parts : {A : Type 0} (o : Option A) (test : A → Bool) → tested o test ≡ true → (a : A) × (o ≡ some a) × (test a ≡ true)
tested-parts none test e = absurd (let z : ◌≡◌ {A = ℕ} 0 1 = cc in omega arith)
tested-parts (some a) test e = (a, refl, e)

module _ (M : Machine) (penalty : ℕ → ℕ) where
  -- "An arc that would lift the sum over the ceiling does not fit": the parts of a step under a ceiling
  pub step-under : (c n : ℕ) (d e : M.D) (s r : ℕ) → ((ceiled M penalty c).follow n (d, s) ≡ some (e, r)) ↔ ((M.follow n d ≡ some e) × (r ≡ s + penalty n) × (r ≤ c))
  step-under c n d e s r = (to, from)
    where
      to : (ceiled M penalty c).follow n (d, s) ≡ some (e, r) → (M.follow n d ≡ some e) × (r ≡ s + penalty n) × (r ≤ c)
      to h =
          let P = bind-parts (M.follow n d) (λ x. somewhen (leb (s + penalty n) c) (x, s + penalty n)) (e, r) h in
          let Q = somewhen-parts (leb (s + penalty n) c) (P.0, s + penalty n) (e, r) P.2 in
          let k : s + penalty n ≡ r = ap (λ (x : M.D × ℕ). x.1) Q.1 in (
            P.1 ∙ ap (λ (x : M.D × ℕ). some x.0) Q.1,
            sym k,
            subst (λ (x : ℕ). x ≤ c) k (leb-true _ _ Q.0),
          )

      from : (M.follow n d ≡ some e) × (r ≡ s + penalty n) × (r ≤ c) → (ceiled M penalty c).follow n (d, s) ≡ some (e, r)
      from (f, k, h) =
          ap (λ (o : Option M.D). bind o (λ x. somewhen (leb (s + penalty n) c) (x, s + penalty n))) f
          ∙ ap (λ (x : ℕ). somewhen (leb x c) (e, x)) (sym k)
          ∙ ap (λ (b : Bool). somewhen b (e, r)) (le-leb r c h)

  pub final-same : (c : ℕ) (p : Path) → final (ceiled M penalty c) p ≡ final M p
  final-same c (start i) = refl
  final-same c (more p n) = refl

  -- a path's datum under a ceiling: the machine's, and the sum, which is within the ceiling
  pub datum-to : (c : ℕ) (p : Path) (d : M.D × ℕ) → datum (ceiled M penalty c) p ≡ some d → (datum M p ≡ some d.0) × (d.1 ≡ sum_of penalty p) × (sum_of penalty p ≤ c)
  datum-to c (start i) d e = let h : ◌≡◌ {A = M.D × ℕ} (M.d₀, 0) d = cc in (ap (λ (x : M.D × ℕ). some x.0) h, sym (ap (λ (x : M.D × ℕ). x.1) h), omega arith)
  datum-to c (more p n) d e =
      let P = bind-parts (datum (ceiled M penalty c) p) ((ceiled M penalty c).follow n) d e in
      let S = (step-under c n P.0.0 d.0 P.0.1 d.1).0 P.2 in
      let H = datum-to c p P.0 P.1 in
      let k : d.1 ≡ sum_of penalty (more p n) = S.1 ∙ ap (λ (x : ℕ). x + penalty n) H.1 in
      (ap (λ (o : Option M.D). bind o (M.follow n)) H.0 ∙ S.0, k, subst (λ (x : ℕ). x ≤ c) k S.2)

  pub datum-from : (c : ℕ) (p : Path) (d : M.D) → datum M p ≡ some d → sum_of penalty p ≤ c → datum (ceiled M penalty c) p ≡ some (d, sum_of penalty p)
  datum-from c (start i) d e h = let k : M.d₀ ≡ d = cc in ap (λ (x : M.D). some (x, 0)) k
  datum-from c (more p n) d e h =
      let P = bind-parts (datum M p) (M.follow n) d e in
      ap (λ (o : Option (M.D × ℕ)). bind o ((ceiled M penalty c).follow n)) (datum-from c p P.0 P.1 (omega arith))
      ∙ (step-under c n P.0 d (sum_of penalty p) (sum_of penalty (more p n))).1 (P.2, refl, h)

  pub allowed-to : (c : ℕ) (p : Path) → Allowed (ceiled M penalty c) p → Allowed M p × (sum_of penalty p ≤ c)
  allowed-to c (start i) A = (A, omega arith)
  allowed-to c (more p n) A =
      let D = datum-to c (more p n) A.2.0 A.2.1 in
      (((allowed-to c p A.0).0, subst (λ (s : ℕ). ArcOf M s n) (final-same c p) A.1, (A.2.0.0, D.0)), D.2)

  pub allowed-from : (c : ℕ) (p : Path) → Allowed M p → sum_of penalty p ≤ c → Allowed (ceiled M penalty c) p
  allowed-from c (start i) A h = A
  allowed-from c (more p n) A h =
      (allowed-from c p A.0 (omega arith), subst (λ (s : ℕ). ArcOf M s n) (sym (final-same c p)) A.1, ((A.2.0, sum_of penalty (more p n)), datum-from c (more p n) A.2.0 A.2.1 h))

  -- every bound stays
  pub ceiled-bounded : (c : ℕ) → Bounded M → Bounded (ceiled M penalty c)
  ceiled-bounded c B p A = B p (allowed-to c p A).0

  pub has-datum : (N : Machine) (p : Path) → Allowed N p → (d : N.D) × (datum N p ≡ some d)
  has-datum N (start i) A = (N.d₀, refl)
  has-datum N (more p n) A = A.2

  pub accepts-same : (c : ℕ) (p : Path) → Allowed (ceiled M penalty c) p → accepts (ceiled M penalty c) p ≡ accepts M p
  accepts-same c p A =
      let D = has-datum (ceiled M penalty c) p A in
      ap (λ (o : Option (M.D × ℕ)). M.terminal (final (ceiled M penalty c) p) && tested o (λ d. M.done d.0)) D.1
      ∙ ap (λ (s : ℕ). M.terminal s && M.done D.0.0) (final-same c p)
      ∙ sym (ap (λ (o : Option M.D). M.terminal (final M p) && tested o M.done) (datum-to c p D.0 D.1).0)

  pub output-at : (c : ℕ) (p : Path) (d : M.D × ℕ) → datum (ceiled M penalty c) p ≡ some d → output (ceiled M penalty c) p ≡ output M p
  output-at c (start i) d e = refl
  output-at c (more p n) d e =
      let P = bind-parts (datum (ceiled M penalty c) p) ((ceiled M penalty c).follow n) d e in
      ap (λ (o : List ℕ). o ++ listed (datum (ceiled M penalty c) p) (λ x. M.writes n x.0)) (output-at c p P.0 P.1)
      ∙ ap (λ (o : Option (M.D × ℕ)). output M p ++ listed o (λ x. M.writes n x.0)) P.1
      ∙ sym (ap (λ (o : Option M.D). output M p ++ listed o (M.writes n)) (datum-to c p P.0 P.1).0)

  pub output-same : (c : ℕ) (p : Path) → Allowed (ceiled M penalty c) p → output (ceiled M penalty c) p ≡ output M p
  output-same c p A = let D = has-datum (ceiled M penalty c) p A in output-at c p D.0 D.1

  -- the test of two data, where the machine's is one
  pub ceiled-same : (c : ℕ) → SameIs M → SameIs (ceiled M penalty c)
  ceiled-same c I = record { same-eq = eq; same_refl = λ d. and_both (I.same_refl d.0) (eq-eqb d.1 d.1 refl) }
    where
      eq : (d e : M.D × ℕ) → M.same d.0 e.0 && eqb d.1 e.1 ≡ true → d ≡ e
      eq d e h = λ i. (a i, b i)
        where
          a : d.0 ≡ e.0
          a = I.same-eq d.0 e.0 (and_left (M.same d.0 e.0) (eqb d.1 e.1) h)

          b : d.1 ≡ e.1
          b = eqb-true d.1 e.1 (and_right (M.same d.0 e.0) (eqb d.1 e.1) h)

  -- Frames: a link lifts the sum, so that the top frame's sum shows whether all are within a ceiling.

  -- what a link under a ceiling shows, and the link under another one that the sum is within
  link-parts : (c : ℕ) (g f : Frame (M.D × ℕ)) → link_holds (ceiled M penalty c) g f ≡ true
      → (g.datum.1 ≤ f.datum.1) × (f.datum.1 ≤ c) × ((k : ℕ) → f.datum.1 ≤ k → link_holds (ceiled M penalty k) g f ≡ true)
  link-parts c g f h =
      (omega (arith, S.1, sum_is), subst (λ (x : ℕ). x ≤ c) sum_is S.2, λ k le. and_both (and_left tried (led && made c) h) (and_both (and_left led (made c) rest) (again k le)))
    where
      m : ℕ
      m = pred g.next

      tried : Bool
      tried = ltb (M.first g.state) g.next

      led : Bool
      led = eqb f.state (M.target m)

      test : M.D × ℕ → Bool
      test d = M.same d.0 f.datum.0 && eqb d.1 f.datum.1

      made : ℕ → Bool
      made k = tested ((ceiled M penalty k).follow m g.datum) test

      rest : (led && made c) ≡ true
      rest = and_right tried (led && made c) h

      T : (d : M.D × ℕ) × ((ceiled M penalty c).follow m g.datum ≡ some d) × (test d ≡ true)
      T = tested-parts ((ceiled M penalty c).follow m g.datum) test (and_right led (made c) rest)

      S : (M.follow m g.datum.0 ≡ some T.0.0) × (T.0.1 ≡ g.datum.1 + penalty m) × (T.0.1 ≤ c)
      S = (step-under c m g.datum.0 T.0.0 g.datum.1 T.0.1).0 T.1

      sum_is : T.0.1 ≡ f.datum.1
      sum_is = eqb-true _ _ (and_right (M.same T.0.0 f.datum.0) (eqb T.0.1 f.datum.1) T.2)

      again : (k : ℕ) → f.datum.1 ≤ k → made k ≡ true
      again k le =
          ap (λ (o : Option (M.D × ℕ)). tested o test)
          ((step-under k m g.datum.0 T.0.0 g.datum.1 T.0.1).1 (S.0, S.1, subst (λ (x : ℕ). x ≤ k) (sym sum_is) le))
          ∙ T.2

  chain-sum : (c n : ℕ) (fs : List (Frame (M.D × ℕ))) (f : Frame (M.D × ℕ)) → chain_holds (ceiled M penalty c) n fs f ≡ true → f.datum.1 ≤ c
  chain-sum c n [] f h =
      let b = bottom_holds (ceiled M penalty c) n f in
      let same = M.same M.d₀ f.datum.0 in
      let none_yet = eqb 0 f.datum.1 in
      let e : 0 ≡ f.datum.1 = eqb-true _ _ (and_right same none_yet (and_right (eqb f.state (get_or M.initials (pred n) 0)) (same && none_yet) (and_right (next_holds (ceiled M penalty c) f) b h))) in
      omega arith
  chain-sum c n (g ∷ fs) f h =
      let link = link_holds (ceiled M penalty c) g f in
      let chain = chain_holds (ceiled M penalty c) n fs g in
      (link-parts c g f (and_left link chain (and_right (next_holds (ceiled M penalty c) f) (link && chain) h))).1

  chain_lifts : (c k n : ℕ) (fs : List (Frame (M.D × ℕ))) (f : Frame (M.D × ℕ)) → f.datum.1 ≤ k → chain_holds (ceiled M penalty c) n fs f ≡ true
      → chain_holds (ceiled M penalty k) n fs f ≡ true
  chain_lifts c k n [] f le h = h
  chain_lifts c k n (g ∷ fs) f le h =
      let next = next_holds (ceiled M penalty c) f in
      let link = link_holds (ceiled M penalty c) g f in
      let chain = chain_holds (ceiled M penalty c) n fs g in
      let rest = and_right next (link && chain) h in
      let L = link-parts c g f (and_left link chain rest) in
      and_both (and_left next (link && chain) h) (and_both (L.2 k le) (chain_lifts c k n fs g (omega (arith, L.0)) (and_right link chain rest)))

  -- the frames hold under a lower ceiling where they hold under a higher one and the top frame's sum is within the lower
  pub chain-ceiling : (c k n : ℕ) (fs : List (Frame (M.D × ℕ))) (f : Frame (M.D × ℕ)) → c ≤ k
      → chain_holds (ceiled M penalty c) n fs f ≡ (chain_holds (ceiled M penalty k) n fs f && leb f.datum.1 c)
  chain-ceiling c k n fs f le =
      both_ways (chain_holds (ceiled M penalty c) n fs f) (chain_holds (ceiled M penalty k) n fs f && leb f.datum.1 c)
      (λ h. let s = chain-sum c n fs f h in and_both (chain_lifts c k n fs f (omega arith) h) (le-leb f.datum.1 c s))
      (λ h. chain_lifts k c n fs f (leb-true _ _ (and_right (chain_holds (ceiled M penalty k) n fs f) _ h)) (and_left (chain_holds (ceiled M penalty k) n fs f) _ h))
