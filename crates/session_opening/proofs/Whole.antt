-- What an input that is not refused gives: the cells of a table that keeps the rules, and the bytes of a query.
use mathlib.Core.Path.{◌≡◌, refl, sym, subst}
use mathlib.Core.Bool.{Bool, true, false, cond}
use mathlib.Core.List.{List}
use Prim.Native.Nat.{ℕ}
use lib.Dec.{ltb}
use lib.ListN.{length}
use Rattle.refusal.specs.declared.InputCause.TheVariants.{CountLimit}
use Rattle.refusal.specs.declared.Refusal.TheVariants.{Input}
use Rattle.table_format.specs.Table.{Table}
use Rattle.table_format.specs.Rules.{keeps_rules}
use Rattle.table_format.specs.Loaded.{cells_of}
use Rattle.table_format.specs.Line.{lines_of}
use Rattle.table_format.specs.Parse.{Parsed, accepted, turned_down, parsed}
use Rattle.table_format.proofs.Determine.{read-text}
use Rattle.machine.specs.declared.Run.{Run}
use Rattle.machine.specs.declared.StartAnswer.{StartAnswer}
use Rattle.machine.specs.declared.StartAnswer.TheVariants as T
use Rattle.session_query.specs.Parts.{table_text, query_text}
use Rattle.session_query.specs.Query.{QueryRead, fault, says, query_of}
use Rattle.session_query.proofs.Queries.{IsQuery, query-whole}
use Rattle.session_opening.specs.Opened.{most_input, Opened, unopened, ready, opened_as, start_of, started_on, opened_query, opened_table, opened}

pub record Whole (cells b : List ℕ) : Type 0 where
  pub table : Table
  pub cells_are : cells ≡ cells_of table
  pub keeps : keeps_rules table ≡ true
  pub query : IsQuery b

abbrev pub WholeIf : Opened → Type 0
WholeIf (unopened r) = Unit {0}
WholeIf (ready cells b run) = Whole cells b

pub opened-whole : (input : List ℕ) → WholeIf (opened input)
unfolding opened started_on
opened-whole input = go (ltb most_input (length input)) (parsed (table_text input)) refl (query_of (lines_of (query_text input))) refl
  where
    begins : (cells b : List ℕ) (a : StartAnswer) (run : Run) → Whole cells b → WholeIf (opened_as cells b a run)
    begins cells b T.Ready run w = w
    begins cells b (T.Refused r) run w = tt

    go : (x : Bool) (p : Parsed) → parsed (table_text input) ≡ p → (q : QueryRead) → query_of (lines_of (query_text input)) ≡ q
        → WholeIf (cond x (unopened (Input CountLimit)) (opened_table (parsed (table_text input)) (lines_of (query_text input))))
    go true p e q f = tt
    go false (turned_down c) e q f = subst (λ (y : Parsed). WholeIf (opened_table y (lines_of (query_text input)))) (sym e) tt
    go false (accepted t) e (fault c) f =
        subst (λ (y : Parsed). WholeIf (opened_table y (lines_of (query_text input)))) (sym e) (subst (λ (y : QueryRead). WholeIf (opened_query (cells_of t) y)) (sym f) tt)
    go false (accepted t) e (says b) f =
        subst (λ (y : Parsed). WholeIf (opened_table y (lines_of (query_text input)))) (sym e)
        (subst (λ (y : QueryRead). WholeIf (opened_query (cells_of t) y)) (sym f)
        (begins (cells_of t) b (start_of (cells_of t) b).answer (start_of (cells_of t) b).run
        (record { table = t; cells_are = refl; keeps = (read-text (table_text input) t e).0; query = query-whole (lines_of (query_text input)) b f })))
