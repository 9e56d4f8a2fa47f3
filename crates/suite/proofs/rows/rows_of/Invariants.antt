use Rattle.std.proofs.Common.{◌≡◌, length, take}
use Rattle.suite.proofs.rows.rows_of.Given as goal

abbrev pub invariant-loop-key : goal.invariant-loop-key
invariant-loop-key g l = (length l.rows ≡ 64) × (take l.key l.rows ≡ take l.key (g.P.ReadPlan.rows l.plan))
