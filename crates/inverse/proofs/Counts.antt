-- How often a word is among readings is how many accepting paths write it; the accepting paths of recognition are as many.
use Prim.Native.Nat.{ℕ, suc}
use mathlib.Core.Path.{◌≡◌, refl, sym, ap, ◌∙◌}
use mathlib.Core.Bool.{Bool, true, false, cond}
use mathlib.Core.List.{List, [], ◌∷◌}
use lib.ListN.{length}
use Rattle.table_format.specs.Table.{Table}
use Rattle.table_format.specs.Rules.{keeps_rules}
use Rattle.table_format.proofs.Ruled.{ruled}
use Rattle.graph.specs.Lists.{keep}
use Rattle.machine.specs.Query.{synthesis, analysis, Query, same_word, recognition_of, synthesis_of, analysis_of}
use Rattle.machine.specs.Machine.{Machine, Path, output}
use Rattle.machine.specs.Tour.{tour}
use Rattle.machine.specs.Order.{outputs}
use Rattle.machine.specs.Transducer.{machine}
use Rattle.machine.specs.Idle.{NoIdleCycle}
use Rattle.machine.proofs.Order.{readings-outputs}
use Rattle.machine.proofs.Morphism.{Morphism, output-same, accepting-same}
use Rattle.machine.proofs.Headlines.{cycle-test}
use Rattle.inverse.specs.Inverse.{inverse}
use Rattle.inverse.specs.Readings.{accepting_paths, readings_of, occurrences}
use Rattle.inverse.proofs.Table.{keeps, rules-alike}
use Rattle.inverse.proofs.Machine.{inverse_morphism}
use Rattle.inverse.proofs.Starts.{same-cycle}
use Rattle.inverse.proofs.Recognition as reads

kept-outputs : (M : Machine) (test : List ℕ → Bool) (ps : List Path) → length (keep (λ p. test (output M p)) ps) ≡ length (keep test (outputs M ps))
kept-outputs M test [] = refl
kept-outputs M test (p ∷ ps) = go (test (output M p)) (kept-outputs M test ps)
  where
    go : (b : Bool) → length (keep (λ r. test (output M r)) ps) ≡ length (keep test (outputs M ps))
        → length (cond b (p ∷ keep (λ r. test (output M r)) ps) (keep (λ r. test (output M r)) ps)) ≡ length (cond b (output M p ∷ keep test (outputs M ps)) (keep test (outputs M ps)))
    go true e = ap suc e
    go false e = e

-- as many readings as accepting paths
pub as_many : (t : Table) (q : Query) → length (readings_of t q) ≡ length (accepting_paths t q)
as_many t q = ap length (readings-outputs (machine t q) (tour (machine t q))) ∙ go (accepting_paths t q)
  where
    go : (ps : List Path) → length (outputs (machine t q) ps) ≡ length ps
    go [] = refl
    go (p ∷ ps) = ap suc (go ps)

-- paths that are the accepting ones with a word as output
counted : (t : Table) (q : Query) (w : List ℕ) (ps : List Path) → ps ≡ keep (λ p. same_word (output (machine t q) p) w) (accepting_paths t q) → length ps ≡ occurrences w (readings_of t q)
counted t q w ps e =
    ap length e ∙ kept-outputs (machine t q) (λ v. same_word v w) (accepting_paths t q) ∙ sym (ap (occurrences w) (readings-outputs (machine t q) (tour (machine t q))))

module _ (t : Table) (rules : keeps_rules t ≡ true) (u l : List ℕ) (c : ℕ) where
  module _ (none : NoIdleCycle t synthesis) where
    pub synthesis_paths : accepting_paths t (recognition_of u l c) ≡ keep (λ p. same_word (output (machine t (synthesis_of u c)) p) l) (accepting_paths t (synthesis_of u c))
    synthesis_paths = reads.recognition_paths t u l c (ruled t rules) none

    pub synthesis_count : length (accepting_paths t (recognition_of u l c)) ≡ occurrences l (readings_of t (synthesis_of u c))
    synthesis_count = counted t (synthesis_of u c) l (accepting_paths t (recognition_of u l c)) synthesis_paths

  -- Analysis is synthesis on the inverse, and recognition is recognition of the pair turned round.
  module _ (none : NoIdleCycle t analysis) where
    kept : keeps_rules (inverse t) ≡ true
    kept = keeps t ∙ rules

    none_either : NoIdleCycle (inverse t) synthesis
    none_either = (cycle-test (inverse t) kept synthesis).0 (same-cycle t analysis ∙ (cycle-test t rules analysis).1 none)

    F : Morphism (machine t (analysis_of l c)) (machine (inverse t) (synthesis_of l c))
    F = inverse_morphism t (rules-alike t rules) (analysis_of l c)

    G : Morphism (machine t (recognition_of u l c)) (machine (inverse t) (recognition_of l u c))
    G = inverse_morphism t (rules-alike t rules) (recognition_of u l c)

    pub analysis_paths : accepting_paths t (recognition_of u l c) ≡ keep (λ p. same_word (output (machine t (analysis_of l c)) p) u) (accepting_paths t (analysis_of l c))
    analysis_paths =
        sym (accepting-same (machine t (recognition_of u l c)) (machine (inverse t) (recognition_of l u c)) G)
        ∙ reads.recognition_paths (inverse t) l u c (ruled (inverse t) kept) none_either
        ∙ (λ i. keep (λ p. same_word (output-same (machine t (analysis_of l c)) (machine (inverse t) (synthesis_of l c)) F p i) u) (accepting-same (machine t (analysis_of l c)) (machine (inverse t) (synthesis_of l c)) F i))

    pub analysis_count : length (accepting_paths t (recognition_of u l c)) ≡ occurrences u (readings_of t (analysis_of l c))
    analysis_count = counted t (analysis_of l c) u (accepting_paths t (recognition_of u l c)) analysis_paths
