-- A morphism of machines: states, arcs and letters written are the same, and what was passed is held in another way (`to`). Two machines with one have the
-- same tour, and its paths accept and write the same.
use Prim.Native.Nat.{ℕ, zero, suc, ◌+◌, ◌-◌}
use mathlib.Core.Path.{◌≡◌, refl, sym, ap, ap₂, ◌∙◌}
use mathlib.Core.Bool.{Bool, true, false, cond, ◌&&◌}
use mathlib.Core.Option.{Option, none, some, map}
use mathlib.Core.List.{List, [], ◌∷◌, ◌++◌}
use lib.ListN.{length, get_or}
use lib.Dec.{leb}
use Rattle.machine.specs.Machine.{Machine, Path, start, more, size, bind, somewhen, listed, tested, final, datum, accepts, output}
use Rattle.machine.specs.Tour.{Entry, branch, trail, following, after, tour_from, tour, paths_in, reading_if, readings, tree_size}
use Rattle.machine.specs.Order.{accepting}
use Rattle.machine.specs.Ceiling.{ceiled}
use Rattle.machine.proofs.Tour.{tree_law}

pub record Morphism (M N : Machine) : Type 0 where
  pub to : M.D → N.D
  pub initials-are : N.initials ≡ M.initials
  pub first-is : (s : ℕ) → N.first s ≡ M.first s
  pub arity-is : (s : ℕ) → N.arity s ≡ M.arity s
  pub target_is : (n : ℕ) → N.target n ≡ M.target n
  pub terminal-is : (s : ℕ) → N.terminal s ≡ M.terminal s
  pub limit_is : N.limit ≡ M.limit
  pub d₀_is : N.d₀ ≡ to M.d₀
  pub follow-is : (n : ℕ) (d : M.D) → N.follow n (to d) ≡ map to (M.follow n d)
  pub writes-is : (n : ℕ) (d : M.D) → N.writes n (to d) ≡ M.writes n d
  pub done-is : (d : M.D) → N.done (to d) ≡ M.done d

module _ (M N : Machine) (F : Morphism M N) where
  final-same : (p : Path) → final N p ≡ final M p
  final-same (start i) = ap (λ (l : List ℕ). get_or l i 0) F.initials-are
  final-same (more p n) = F.target_is n

  datum-same : (p : Path) → datum N p ≡ map F.to (datum M p)
  datum-same (start i) = ap (λ (d : N.D). some d) F.d₀_is
  datum-same (more p n) = ap (λ (o : Option N.D). bind o (N.follow n)) (datum-same p) ∙ go (datum M p)
    where
      go : (o : Option M.D) → bind (map F.to o) (N.follow n) ≡ map F.to (bind o (M.follow n))
      go none = refl
      go (some d) = F.follow-is n d

  -- The tour.

  branch_same : (g h : Path → List Entry) (p : Path) (r s : List Entry) → g p ≡ h p → r ≡ s → (o : Option M.D) → branch (map F.to o) g p r ≡ branch o h p s
  branch_same g h p r s e f none = ap (λ (l : List Entry). none ∷ l) f
  branch_same g h p r s e f (some d) = ap₂ (λ (x y : List Entry). some p ∷ (x ++ y)) e f

  trail-same : (g h : Path → List Entry) → ((p : Path) → g p ≡ h p) → (p : Path) (n k : ℕ) → trail N g p n k ≡ trail M h p n k
  trail-same g h e p n zero = refl
  trail-same g h e p n (suc k) =
      ap (λ (o : Option N.D). branch o g (more p n) (trail N g p (suc n) k)) (datum-same (more p n))
      ∙ branch_same g h (more p n) (trail N g p (suc n) k) (trail M h p (suc n) k) (e (more p n)) (trail-same g h e p (suc n) k) (datum M (more p n))

  following-same : (c : ℕ) (p : Path) → following N c p ≡ following M c p
  unfolding following
  following-same zero p = refl
  following-same (suc c) p =
      ap₂ (λ (n k : ℕ). trail N (λ r. following N c r) p n k) (F.first-is (final N p) ∙ ap M.first (final-same p)) (F.arity-is (final N p) ∙ ap M.arity (final-same p))
      ∙ trail-same (λ r. following N c r) (λ r. following M c r) (following-same c) p (M.first (final M p)) (M.arity (final M p))

  after_same : (p : Path) → after N p ≡ after M p
  after_same p = ap (λ (c : ℕ). following N (c - size p) p) F.limit_is ∙ following-same (M.limit - size p) p

  tours_same : (i k : ℕ) → tour_from N (after N) i k ≡ tour_from M (after M) i k
  tours_same i zero = refl
  tours_same i (suc k) = ap₂ (λ (x y : List Entry). some (start i) ∷ (x ++ y)) (after_same (start i)) (tours_same (suc i) k)

  pub tour-same : tour N ≡ tour M
  unfolding tour
  tour-same = ap (λ (l : List ℕ). tour_from N (after N) 0 (length l)) F.initials-are ∙ tours_same 0 (length M.initials)

  pub tree-same : tree_size N ≡ tree_size M
  tree-same = sym (tree_law N) ∙ ap length tour-same ∙ tree_law M

  -- What its paths tell.

  pub accepts-same : (p : Path) → accepts N p ≡ accepts M p
  accepts-same p =
      ap₂ (λ (a b : Bool). a && b) (F.terminal-is (final N p) ∙ ap M.terminal (final-same p)) (ap (λ (o : Option N.D). tested o N.done) (datum-same p) ∙ go (datum M p))
    where
      go : (o : Option M.D) → tested (map F.to o) N.done ≡ tested o M.done
      go none = refl
      go (some d) = F.done-is d

  pub output-same : (p : Path) → output N p ≡ output M p
  output-same (start i) = refl
  output-same (more p n) = ap₂ (λ (x y : List ℕ). x ++ y) (output-same p) (ap (λ (o : Option N.D). listed o (N.writes n)) (datum-same p) ∙ go (datum M p))
    where
      go : (o : Option M.D) → listed (map F.to o) (N.writes n) ≡ listed o (M.writes n)
      go none = refl
      go (some d) = F.writes-is n d

  kept_same : (ps : List Path) → accepting N ps ≡ accepting M ps
  kept_same [] = refl
  kept_same (p ∷ ps) = ap₂ (λ (b : Bool) (l : List Path). cond b (p ∷ l) l) (accepts-same p) (kept_same ps)

  pub accepting-same : accepting N (paths_in (tour N)) ≡ accepting M (paths_in (tour M))
  accepting-same = kept_same (paths_in (tour N)) ∙ ap (λ (es : List Entry). accepting M (paths_in es)) tour-same

  pub told_same : (es : List Entry) → readings N es ≡ readings M es
  unfolding readings
  told_same [] = refl
  told_same (none ∷ es) = told_same es
  told_same (some p ∷ es) = ap₂ (λ (x y : List (List ℕ)). x ++ y) (ap₂ (reading_if N) (accepts-same p) (output-same p) ∙ go (accepts M p)) (told_same es)
    where
      go : (b : Bool) → reading_if N b (output M p) ≡ reading_if M b (output M p)
      go true = refl
      go false = refl

  pub readings-same : readings N (tour N) ≡ readings M (tour M)
  readings-same = told_same (tour N) ∙ ap (readings M) tour-same

  -- Under one ceiling, with the same penalties.
  module _ (penalty other : ℕ → ℕ) (same : (n : ℕ) → other n ≡ penalty n) (c : ℕ) where
    abbrev to_summed : M.D × ℕ → N.D × ℕ
    to_summed d = (F.to d.0, d.1)

    follow-summed : (n : ℕ) (d : M.D × ℕ) → (ceiled N other c).follow n (to_summed d) ≡ map to_summed ((ceiled M penalty c).follow n d)
    follow-summed n d =
        ap₂ (λ (o : Option N.D) (x : ℕ). bind o (λ e. somewhen (leb (d.1 + x) c) (e, d.1 + x))) (F.follow-is n d.0) (same n) ∙ go (M.follow n d.0) (leb (d.1 + penalty n) c)
      where
        go : (o : Option M.D) (b : Bool) → bind (map F.to o) (λ e. somewhen b (e, d.1 + penalty n)) ≡ map to_summed (bind o (λ e. somewhen b (e, d.1 + penalty n)))
        go none b = refl
        go (some e) true = refl
        go (some e) false = refl

    pub ceiled_morphism : Morphism (ceiled M penalty c) (ceiled N other c)
    ceiled_morphism =
        record {
          to = to_summed;
          initials-are = F.initials-are;
          first-is = F.first-is;
          arity-is = F.arity-is;
          target_is = F.target_is;
          terminal-is = F.terminal-is;
          limit_is = F.limit_is;
          d₀_is = ap (λ (d : N.D). (d, 0)) F.d₀_is;
          follow-is = follow-summed;
          writes-is = λ n d. F.writes-is n d.0;
          done-is = λ d. F.done-is d.0;
        }
