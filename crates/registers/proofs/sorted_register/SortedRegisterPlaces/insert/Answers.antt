use Rattle.registers.proofs.Rewrites.{put_in}
use Rattle.registers.proofs.sorted_register.SortedRegisterPlaces.insert.Goals as goal

pub invariant_of-self : goal.invariant_of-self
invariant_of-self c =
    let w = put_in c.args.self.now c.args.«record» c.args.at c.put.new.rows c.put.result c.put.auto.rows c.requires.room c.requires.place c.put.ensures.test c.put.ensures.ascends c.put.ensures.entered in
    record { within = w.within; few = w.few; ascends = w.ascends }

pub returns-clause-held : goal.returns-clause-held
returns-clause-held c =
    let w = put_in c.args.self.now c.args.«record» c.args.at c.put.new.rows c.put.result c.put.auto.rows c.requires.room c.requires.place c.put.ensures.test c.put.ensures.ascends c.put.ensures.entered in
    w.held_after
