-- What is told of a line, a list or a sheet is within its bytes.
use Rattle.std.proofs.Common.{◌≡◌, ℕ, ◌+◌, ◌≤◌, List, Result, Ok, Err, arith, length, sym, ◌∙◌}
use Rattle.refusal.specs.declared.Refusal.{Refusal}
use Rattle.destination.specs.Told.{stored_told}
use Rattle.key_sheet.specs.Calls.{key_answer}
use Rattle.key_sheet.proofs.Headlines.{answer-one, key-done}
use Rattle.wordlist_spelling.specs.declared.Fault.{Fault}
use Rattle.wordlist_spelling.specs.Spelled.{most_letters, SpelledIs}
use Rattle.wordlist_spelling.proofs.Headlines.{letters-few, fault-inside, word-front, told-whole, told-fault}
use Rattle.wordlist.specs.declared.FaultKind.{FaultKind}
use Rattle.wordlist.specs.declared.FaultKind.TheVariants.{BadWord, TooMany}
use Rattle.wordlist.specs.declared.BadLine.{BadLine}
use Rattle.wordlist.specs.Gathered.{Fate, FaultIs}

-- The character at a line's fault, and the letters before it.

pub fault-within : (line : List ℕ) (fault : Fault) (before after : List ℕ) → SpelledIs line (Err fault) before after
    → (fault.at + fault.size ≤ length line) × (fault.letters ≤ most_letters)
fault-within line fault before after S =
    let T = told-fault line fault before after S in
    (omega (arith, fault-inside line, T.2, T.3), omega (arith, letters-few line, T.1))

pub letters_within_lem : (line : List ℕ) (letters : ℕ) (before after : List ℕ) → SpelledIs line (Ok letters) before after
    → length before ≡ most_letters → letters ≤ length after
letters_within_lem line letters before after S h =
    omega (arith, (told-whole line letters before after S).1, letters-few line, (word-front line (Ok letters) before after S h).1)

-- The line of a list that cannot be used.

pub bad-within : (kind : FaultKind) (f : Fate) (text : List ℕ) (bad : BadLine) (before after : List ℕ) → FaultIs kind f text bad before after
    → (bad.from ≤ bad.end) × (bad.end ≤ length text)
bad-within BadWord f text bad before after h = (h.3.rises, h.3.inside)
bad-within TooMany f text bad before after h = (h.3.rises, h.3.inside)

-- What is written to a destination.

pub key-within : (before after : List ℕ) → length after ≡ length before → (r : Result ℕ Refusal) (n : ℕ) → r ≡ Ok n
    → (cells word faces : List ℕ) → stored_told r ≡ stored_told (key_answer cells word faces before) → n ≤ length after
key-within before after same r n done cells word faces told =
    omega (arith, ((key-done cells word faces before n).0 (sym (answer-one cells word faces before r told) ∙ done)).5)
