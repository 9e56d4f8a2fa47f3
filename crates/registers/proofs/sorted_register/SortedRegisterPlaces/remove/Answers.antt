use Rattle.registers.proofs.Rewrites.{taken_away}
use Rattle.registers.proofs.sorted_register.SortedRegisterPlaces.remove.Goals as goal

pub returns-clause-held : goal.returns-clause-held
returns-clause-held c = taken_away c.args.self.now c.args._record c.args.at c.take_out.new.rows c.take_out.result c.take_out.auto.rows c.requires.place c.take_out.ensures.test c.take_out.ensures.struck
