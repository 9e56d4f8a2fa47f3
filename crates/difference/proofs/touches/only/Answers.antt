use Rattle.std.proofs.Common.{arith}
use Rattle.difference.proofs.Marks.{only_is}
use Rattle.difference.proofs.touches.only.Goals as goal

pub returns : goal.returns
returns c = only_is c.args.a c.args.b c.args.n c.first.result (omega arith) (omega arith) c.requires c.first.ensures
