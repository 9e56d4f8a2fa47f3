use Rattle.weekly.proofs.Pastes.{wrote_three}
use Rattle.weekly.proofs.output.Output.put_bodies.Goals as goal

pub returns-clause-wrote : goal.returns-clause-wrote
returns-clause-wrote c = wrote_three c.args.self.now.at _ _ _ c.args.self.now.bytes.now _ _ _ _ _ _ c.requires c.put_marked.ensures.wrote c.put.ensures.wrote c.put_marked-2.ensures.wrote
