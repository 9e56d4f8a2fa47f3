use Rattle.ledger.proofs.Follows.{goes_on}
use Rattle.ledger.proofs.laws.goes_on.Goals as goal

pub returns : goal.returns
returns c = goes_on
