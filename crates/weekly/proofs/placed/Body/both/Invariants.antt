use Rattle.std.proofs.Common.{◌≡◌}
use Rattle.weekly.specs.Body.{both_fault}
use Rattle.weekly.specs.Pairs.{pairs_of}
use Rattle.weekly.proofs.Bodies.{all_apart}
use Rattle.weekly.proofs.placed.Body.both.Given as goal

-- what the pairs so far leave to be judged
abbrev pub invariant-loop-pair : goal.invariant-loop-pair
invariant-loop-pair l = both_fault l.self.place l.self.bytes.now l.added ≡ all_apart l.self.place l.self.bytes.now (pairs_of l.pair-iterator.0.now)
