-- the first fault is that of the changes that are left
use Rattle.std.proofs.Common.{◌≡◌, length, drop}
use Rattle.ledger.specs.Ledger.{changes_fault}
use Rattle.suite.proofs.checks.check_changes.Given as goal

abbrev pub invariant-loop-index : goal.invariant-loop-index
invariant-loop-index l = changes_fault (length l.rows) l.doors l.rows l.index (drop l.index l.changes) ≡ changes_fault (length l.rows) l.doors l.rows 0 l.changes
