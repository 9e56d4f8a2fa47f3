use Rattle.std.proofs.Common.{rules, tests}
use Rattle.std.proofs.lemmas.Iterator.Consumers.{YieldsList-from_first}
use Rattle.std.proofs.lemmas.Iterator.Search.{position_from_yields_List}
use Rattle.pairs.specs.declared.pair.Pair.{Pair}
use Rattle.weekly.specs.Pairs.{pairs_of, is_pair}
use Rattle.weekly.specs.declared.body.Pairs.{Pairs}
use Rattle.weekly.proofs.placed.Body.index_of.Goals as goal

pub returns-clause-is : goal.returns-clause-is
returns-clause-is c =
    position_from_yields_List (is_pair c.args.pair) c.position.new.self _ _ c.position.ensures.ran
    (YieldsList-from_first (λ (x : Pair). x) (λ (s : Pairs). pairs_of s.0.now) {s = record { 0 = c.args.self.bytes }} (pairs_of c.args.self.bytes.now) (cc)) (λ x b q k. search (rules, tests))
