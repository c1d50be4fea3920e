-- Proofs by hand: a walk of a function's MIR is taken to the function's contract. At exit a walk has of each parameter what the contract says
-- of its last value, and nothing else. This serves every signature, so that no choice is made for each parameter and no law is shown for each.
use Prim.Native.Nat.{ℕ, ◌<◌, ◌^◌}
use mathlib.Core.List.{List, [], ◌∷◌}
use lib.ListN.{length}
use seplogic.Ra.Ura.{Ura}
use mir.Syntax.{Fn, Callee, w64}
use mir.Val.{Val, Fits}
use base.Logic.{ent}
use prog.Model.{Model}
use prog.Routine.{Env}
use prog.Wp.{Calls, Loops, WpFn, Closed}
use types.Logic.{Logic}
use contract.Lifetimes.{Lfts}
use contract.Running.{Running, tables, tables_of}
use sound.WpLaws.{FmC, fm_of, WpFn-mono}
use denote.RattleType.{Denots}
use denote.Ref.{Bor}
use denote.Slice.{slice_val}
use denote.Exit.{Kept, left}
use denote.Signature.{Slot, types_at}
use denote.Triple.End.{Kepts, Fins}
use denote.Triple.Entry.{Res}
use denote.Triple.Spec.{Meets, triple_of}
use denote.Triple.Clauses.{Clauses, Ended, Lasts, closing}
use denote.Triple.Table.{entered}
use denote.Triple.Walked.{Stay, Stays, AllGo, fits_of, walk_of, Walks, Ending, ends_at, walk_Meets}

-- the machine value of a slice
abbrev pub slice : Bor (List ℕ) → Val
slice y = slice_val y.ref_ptr (length y.now)

-- it fits its cell where its length fits a number
pub slice_fits : {m : ℕ} → m < 2 ^ 64 → Unit {0} × (Unit {0} × (Fits w64 m × Unit {0}))
slice_fits h = (tt, (tt, (record { fits = h }, tt)))

module _ {n : ℕ} where
  -- of a parameter
  abbrev exits_one : (s : Slot n) (k : Kept) → Stay s k
  exits_one s k = record { fit = λ κs x f. Unit {0}; has = λ κs x f vs. left ((s.row κs).exit k) x f }

  -- of a list of parameters
  abbrev exits-all : (ss : List (Slot n)) (ks : Kepts ss) → Stays ss ks
  exits-all [] ks = tt
  exits-all (s ∷ ss) ks = (exits_one s ks.0, exits-all ss ks.1)

  -- nothing is owed of last values
  fit_exits : (κs : Lfts n) (ss : List (Slot n)) (ks : Kepts ss) (a : Denots (types_at ss κs)) (ws : Fins κs ss ks a) → fits_of κs ss ks (exits-all ss ks) a ws
  fit_exits κs [] ks a ws = tt
  fit_exits κs (s ∷ ss) ks a ws = (tt, fit_exits κs ss ks.1 a.1 ws.1)

module _ {M : Type 1} {𝓤 : Ura M} (𝓛 : Logic 𝓤) (n : ℕ) where
  -- the law that each parameter owes
  go-exits : (ss : List (Slot n)) (ks : Kepts ss) → AllGo 𝓛 n ss ks (exits-all ss ks)
  go-exits [] ks = tt
  go-exits (s ∷ ss) ks = ((λ κs x f vs ok. 𝓛.laws.⇛_intro _), go-exits ss ks.1)

-- of a signature's parameters
abbrev pub exits : (T : Ended) → Stays T.signature.params T.kept
exits T = exits-all T.signature.params T.kept

-- a walk ends, at a result and last values that the prover names
module _ {M : Type 1} {𝓤 : Ura M} (𝓛 : Logic 𝓤) (T : Ended) (c : Clauses 𝓤 T) where
  pub ends : (y : (walk_of 𝓛 T (exits T) c).Ghost) (v : Val) (r : Res T.signature y.0.0) (ws : Lasts T y.0.0 y.0.3)
      → ent 𝓤 (Ending 𝓛 T (exits T) c y v r ws) ((walk_of 𝓛 T (exits T) c).post y v)
  ends y v r ws = ends_at 𝓛 T (exits T) c y v r ws (fit_exits y.0.0 T.signature.params T.kept y.0.3 ws)

module _ {M : Type 1} {𝓤 : Ura M} (𝓛 : Logic 𝓤) (𝓜 : Model 𝓤 𝓛.H) (𝓡 : Running 𝓤 𝓛.H 𝓜) (γ : Env) where
  -- what the calls and the loops of code do, where its calls mean γ
  open 𝓛 use {H}

  abbrev pub C : Calls 𝓤 H
  C = (tables 𝓤 H 𝓜 𝓡 γ).C

  abbrev pub Λ : Loops 𝓤 H
  Λ = (tables 𝓤 H 𝓜 𝓡 γ).Λ

  abbrev pub W : Logic 𝓤
  W = 𝓛

  pub fm : FmC 𝓤 H W.laws C
  unfolding tables_of
  fm = fm_of 𝓤 H W.laws (tables_of 𝓤 H 𝓜 (tables 𝓤 H 𝓜 𝓡 γ))

  -- a walk shows the contract
  pub by_hand : (T : Ended) (c : Clauses 𝓤 T) (k : Callee) (e : Fn) → Closed 𝓤 H C Λ k e → Walks 𝓛 T (exits T) (WpFn 𝓤 H C Λ e) c
      → Meets 𝓛 T.signature (C k) (closing 𝓛 T c)
  unfolding tables_of
  by_hand T c k e closed walks =
      entered 𝓤 H (triple_of 𝓛 T.signature (closing 𝓛 T c)) C Λ k e closed
      (walk_Meets 𝓛 T (exits T) (go-exits 𝓛 T.signature.lifetimes T.signature.params T.kept) c (WpFn 𝓤 H C Λ e)
      (WpFn-mono 𝓤 H W.laws (tables_of 𝓤 H 𝓜 (tables 𝓤 H 𝓜 𝓡 γ)) e) walks)
