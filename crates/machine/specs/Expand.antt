-- Slip 6, "Tables repeat an arc for each vowel": the table without classes that a table stands for, with a plain arc for each letter of a class. It
-- need not keep the rules: it can repeat an arc, or have too many.
use Rattle.std.specs.Prelude.{ℕ, zero, suc, cond, List, [], ◌∷◌, ◌++◌}
use Rattle.table_format.specs.Table.{Arc, Table}
use Rattle.table_format.specs.Classes.{no_classes, is_plain, row_of, with_letter}

-- a plain arc for each letter of a row; 0 only fills it up
abbrev pub for_each : Arc → List ℕ → List Arc
for_each a [] = []
for_each a (zero ∷ row) = for_each a row
for_each a (suc x ∷ row) = with_letter a (suc x) ∷ for_each a row

-- the plain arcs of an arc
abbrev pub plain_arcs : List (List ℕ) → Arc → List Arc
plain_arcs rows a = cond (is_plain a) (a ∷ []) (for_each a (row_of rows a.upper))

-- and of all
abbrev pub all_plain : List (List ℕ) → List Arc → List Arc
all_plain rows [] = []
all_plain rows (a ∷ arcs) = plain_arcs rows a ++ all_plain rows arcs

abbrev pub expanded : Table → Table
expanded t = record { states = t.states; classes = no_classes; initials = t.initials; terminals = t.terminals; arcs = all_plain t.classes t.arcs }
