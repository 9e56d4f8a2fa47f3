use Rattle.ledger.proofs.Follows.{follows}
use Rattle.ledger.proofs.laws.always_follows.Goals as goal

pub returns : goal.returns
returns c = follows
