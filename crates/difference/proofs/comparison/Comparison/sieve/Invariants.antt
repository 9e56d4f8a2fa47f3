use Rattle.std.proofs.Common.{◌≡◌, ℕ, ◌≤◌, length}
use Rattle.difference.specs.Changes.{Touched}
use Rattle.difference.specs.Places.{Sieved, at}
use Rattle.difference.proofs.comparison.Comparison.sieve.Given as goal

abbrev pub invariant-loop-i : goal.invariant-loop-i
invariant-loop-i l =
    Sieved (Touched l.self.rows.before.now l.self.rows.after.now (length l.self.columns.before.now) l.u l.v) l.initial.table l.table l.count l.i l.end
    × ((j : ℕ) → l.i ≤ j → at l.table j ≡ at l.initial.table j)
