use Rattle.std.proofs.Common.{◌≡◌, ℕ, length, subst, arith}
use Rattle.difference.specs.Changes.{Touched}
use Rattle.difference.specs.Places.{Sieved}
use Rattle.difference.proofs.Sieves.{sieved_moved, sieved_more, sieved_more_no}
use Rattle.difference.proofs.comparison.Comparison.sieve.Goals as goal
use Rattle.difference.proofs.comparison.Comparison.sieve.Goals.{then-not-known, else-not-known}

pub loop-i-preserved : goal.loop-i-preserved
loop-i-preserved c =
    elim c.if-not-known.branch [
      | then-not-known w ↦
          sieved_moved w.table-is w.end-is
          (sieved_more c.loop-i.invariant.0 c.loop-i.invariant.1 c.args.fresh c.loop-i-test.true c.requires.drawn.apart (omega arith) w.if-not-known.ensures)
      | else-not-known w ↦
          sieved_moved w.table-is w.end-is (sieved_more_no c.loop-i.invariant.0 c.loop-i.invariant.1 w.if-not-known.ensures)
    ]

pub returns : goal.returns
returns c =
    let e : c.loop-i.i ≡ c.args.fresh = omega arith in
    subst (λ (f : ℕ). Sieved (Touched c.args.self.rows.before.now c.args.self.rows.after.now (length c.args.self.columns.before.now) c.args.u c.args.v) c.args.table.now c.loop-i.table c.args.count f c.loop-i.end) e c.loop-i.invariant.0
