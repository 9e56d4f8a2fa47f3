use Rattle.std.proofs.Common.{◌≡◌, ℕ, ◌<◌, ◌≤◌, length, get_or}
use lib.Bits.{bit_and}
use Rattle.search.proofs.forms.cut.Given as goal

-- the rows so far are cut, and the others are as they were
abbrev pub invariant-loop-row : goal.invariant-loop-row
invariant-loop-row l =
    (length l.row-items ≡ 64) × ((i : ℕ) → i < l.row-index → get_or l.row-items i 0 ≡ bit_and (get_or l.rows i 0) l.every)
    × ((i : ℕ) → l.row-index ≤ i → get_or l.row-items i 0 ≡ get_or l.rows i 0)
