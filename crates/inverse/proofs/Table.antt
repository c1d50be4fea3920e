-- The inverse of a table keeps the rules exactly where the table does, and its inverse is the table.
use Prim.Native.Nat.{ℕ, ◌≤◌, ◌<◌}
use mathlib.Core.Path.{◌≡◌, refl, sym, ap, subst, ◌∙◌}
use mathlib.Core.Bool.{true, false, and_comm}
use mathlib.Core.List.Memᴰ
use mathlib.Core.List.{List, [], ◌∷◌, map, map-map, map-id, Memᴰ}
use lib.Dec.{ltb}
use lib.ListN.{length, length-map, get_or-map}
use Rattle.table_format.specs.Table.{Arc, Table, no_arc, without_penalty}
use Rattle.table_format.specs.Classes.{first_class, is_plain, is_defined, row_of}
use Rattle.table_format.specs.Rules.{keeps_rules}
use Rattle.table_format.specs.Ruled.{DifferBy, AtLeast, Ruled}
use Rattle.table_format.proofs.Tests.{both_ways}
use Rattle.table_format.proofs.Ruled.{ruled, kept}
use Rattle.table_format.proofs.All.{all_get_d, all_from}
use Rattle.machine.specs.Transducer.{arc_at}
use Rattle.inverse.specs.Inverse.{inverse_arc, inverse}

pub arc_at_lem : (t : Table) (n : ℕ) → arc_at (inverse t) n ≡ inverse_arc (arc_at t n)
arc_at_lem t n = get_or-map inverse_arc t.arcs n no_arc

pub twice : (t : Table) → inverse (inverse t) ≡ t
twice t = λ i. record { states = t.states; classes = t.classes; initials = t.initials; terminals = t.terminals; arcs = (map-map inverse_arc inverse_arc t.arcs ∙ map-id t.arcs) i }

pub plain-same : (a : Arc) → is_plain (inverse_arc a) ≡ is_plain a
plain-same a = and_comm (ltb a.lower first_class) (ltb a.upper first_class)

-- each arc with a class has the same on both sides, as 34 demands of a table
abbrev pub ClassesAlike : Table → Type 0
ClassesAlike t = (a : Arc) → Memᴰ a t.arcs → is_plain a ≡ false → a.upper ≡ a.lower

-- the arc of any number
pub alike_at : (t : Table) → ClassesAlike t → (n : ℕ) → is_plain (arc_at t n) ≡ false → (arc_at t n).upper ≡ (arc_at t n).lower
alike_at t alike n = all_get_d Alike t.arcs n no_arc (λ e. refl) (all_from Alike t.arcs alike)
  where
    Alike : Arc → Type 0
    Alike a = is_plain a ≡ false → a.upper ≡ a.lower

pub rules-alike : (t : Table) → keeps_rules t ≡ true → ClassesAlike t
rules-alike t e = (ruled t e).class_alike

at_least : (s : ℕ) (l : List Arc) → AtLeast s l → AtLeast s (map inverse_arc l)
at_least s [] A = tt
at_least s (a ∷ l) A = (A.0, at_least a.source l A.1)

module _ (t : Table) (U : Ruled t) where
  -- what holds of each arc, exchanged, holds of each arc of the inverse
  each-arc : (P : Arc → Type 0) → ((a : Arc) → Memᴰ a t.arcs → P (inverse_arc a)) → (b : Arc) → Memᴰ b (inverse t).arcs → P b
  each-arc P h b m = let F = Memᴰ.of_map inverse_arc t.arcs m in subst P F.2 (h F.0 F.1)

  differ : DifferBy without_penalty (inverse t).arcs
  differ d i j h k e =
      U.arcs-differ (inverse_arc d) i j (subst (λ (n : ℕ). i < n) len h) (subst (λ (n : ℕ). j < n) len k)
      (ap (λ (a : Arc). inverse_arc (without_penalty a)) (sym (get_or-map inverse_arc t.arcs i (inverse_arc d))) ∙ ap inverse_arc e ∙ ap (λ (a : Arc). inverse_arc (without_penalty a)) (get_or-map inverse_arc t.arcs j (inverse_arc d)))
    where
      len : length (inverse t).arcs ≡ length t.arcs
      len = length-map t.arcs inverse_arc

  alike : (a : Arc) → Memᴰ a t.arcs → is_plain (inverse_arc a) ≡ false → a.upper ≡ a.lower
  alike a m e = U.class_alike a m (sym (plain-same a) ∙ e)

  inverse-ruled : Ruled (inverse t)
  inverse-ruled =
      record {
        some-state = U.some-state;
        few-states = U.few-states;
        some-initial = U.some-initial;
        few-initials = U.few-initials;
        initial_in = U.initial_in;
        initials-differ = U.initials-differ;
        few-terminals = U.few-terminals;
        terminal_in = U.terminal_in;
        terminals_rise_lem = U.terminals_rise_lem;
        few-arcs = subst (λ (n : ℕ). n ≤ 1024) (sym (length-map t.arcs inverse_arc)) U.few-arcs;
        rising = at_least 0 t.arcs U.rising;
        eight-rows = U.eight-rows;
        row_in = U.row_in;
        source_in = each-arc (λ a. a.source < t.states) U.source_in;
        target_in = each-arc (λ a. a.target < t.states) U.target_in;
        upper_in = each-arc (λ a. a.upper ≤ 71) U.lower_in;
        lower_in = each-arc (λ a. a.lower ≤ 71) U.upper_in;
        class_alike = each-arc (λ a. is_plain a ≡ false → a.upper ≡ a.lower) (λ a m e. sym (alike a m e));
        class_defined = each-arc (λ a. is_plain a ≡ false → is_defined (row_of t.classes a.upper) ≡ true)
            (λ a m e. subst (λ (x : ℕ). is_defined (row_of t.classes x) ≡ true) (alike a m e) (U.class_defined a m (sym (plain-same a) ∙ e)));
        penalty_in = each-arc (λ a. a.penalty ≤ 255) U.penalty_in;
        arcs-differ = differ;
      }

inverse-keeps : (t : Table) → keeps_rules t ≡ true → keeps_rules (inverse t) ≡ true
inverse-keeps t e = kept (inverse t) (inverse-ruled t (ruled t e))

pub keeps : (t : Table) → keeps_rules (inverse t) ≡ keeps_rules t
keeps t = both_ways (keeps_rules (inverse t)) (keeps_rules t) (λ e. subst (λ (u : Table). keeps_rules u ≡ true) (twice t) (inverse-keeps (inverse t) e)) (inverse-keeps t)
