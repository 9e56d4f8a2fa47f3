use Rattle.std.proofs.Common.{length, sym, ap, ◌∙◌}
use Rattle.difference.specs.Changes.{Compared}
use Rattle.difference.proofs.Compares.{columns_long, compared}
use Rattle.difference.proofs.between.Between.compare.Goals as goal
use Rattle.difference.proofs.between.Between.compare.Goals.{After-columns-2}

both : (c : After-columns-2) → Compared c.rows.result.now c.columns.result.now c.rows-2.result.now c.columns-2.result.now
both c =
    compared c.args.self.before.now c.args.self.after.now _ _ _ _ c.rows.ensures c.columns.ensures c.rows-2.ensures c.columns-2.ensures c.args.self.keys c.args.self.doors

pub invariant_of-columns : goal.invariant_of-columns
invariant_of-columns c =
    let b = both (goal.at.invariant_of-columns c).After-columns-2 in
    record { few = b.doors; same = b.after_turned.long }

pub changed-changed-requires : goal.changed-changed-requires
changed-changed-requires c = both (goal.at.changed-changed-requires c).After-columns-2

pub invariant_of-result : goal.invariant_of-result
invariant_of-result c =
    record {
      plans = both (goal.at.invariant_of-result c).After-columns-2;
      marked = c.changed-changed.ensures;
      later_rows = sym c.rows-2.ensures;
      later_doors = c.args.self.doors ∙ sym (columns_long c.args.self.before.now _ _ c.rows.ensures c.columns.ensures);
      turned_rows = c.requires.turned_rows ∙ sym c.columns-2.ensures;
      turned_doors = c.requires.turned_doors ∙ c.args.self.keys ∙ sym (ap length c.rows.ensures);
    }
