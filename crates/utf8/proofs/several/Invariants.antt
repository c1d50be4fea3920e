-- At every turn the bytes from k on decide, with the bits so far, of which there is room for six more.
use Rattle.std.proofs.Common.{◌≡◌, ◌-◌, ◌≤◌, ◌<◌, drop}
use Rattle.utf8.specs.Utf8.{several}
use Rattle.utf8.proofs.several.Given as goal

abbrev pub invariant-loop-k : goal.invariant-loop-k
invariant-loop-k l =
    (l.k ≤ 1 → l.code < 32) × (l.k ≤ 2 → l.code < 2048) × (l.k ≤ 3 → l.code < 131072)
    × (several l.least l.size l.lead (l.size - 1) (drop 1 l.text) ≡ several l.least l.size l.code (l.size - l.k) (drop l.k l.text))
