use Rattle.batch.proofs.Puts.{ascends_by_change, new_placed, puts, put_ascends, put_in_range}
use Rattle.batch.proofs.lent.Rows.insert.Goals as goal

pub invariant_of-self-clause-ascends : goal.invariant_of-self-clause-ascends
invariant_of-self-clause-ascends c =
    let d = c.args.self.now in
    put_ascends d.memory.now c.put.new.rows d.count c.args.at c.args.change c.put.result d.within d.ascends c.requires.room c.requires.place c.put.ensures.test c.put.ensures.after

pub invariant_of-self-clause-numbers : goal.invariant_of-self-clause-numbers
invariant_of-self-clause-numbers c =
    let d = c.args.self.now in
    put_in_range d.memory.now c.put.new.rows d.count c.args.at c.args.change c.put.result d.within d.ascends c.requires.room c.requires.place c.put.ensures.test c.put.ensures.after c.requires.range d.numbers

-- where the pair goes, the change goes
pub returns-clause-changes : goal.returns-clause-changes
returns-clause-changes c =
    let d = c.args.self.now in
    let written = puts d.memory.now c.put.new.rows d.count c.args.at c.args.change c.put.result d.within d.ascends c.requires.room c.requires.place c.put.ensures.test c.put.ensures.after in
    c.put.ensures.entered written (ascends_by_change d.memory.now d.count d.ascends) (new_placed c.args.change _ c.args.at c.requires.place)
