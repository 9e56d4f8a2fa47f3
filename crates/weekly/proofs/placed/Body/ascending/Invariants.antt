use Rattle.std.proofs.Common.{◌≡◌, ◌+◌, ◌*◌, ◌≤◌, length, IfSome}
use Rattle.weekly.specs.Body.{pairs_fault}
use Rattle.weekly.specs.Pairs.{pairs_of, above, InRange}
use Rattle.weekly.proofs.Bodies.{rising}
use Rattle.weekly.proofs.placed.Body.ascending.Given as goal

-- what the pairs so far leave to be judged
abbrev pub invariant-loop-i : goal.invariant-loop-i
invariant-loop-i l = record {
  range : IfSome l.last InRange;
  within : 2 * (l.i-iterator.count + length (pairs_of l.i-iterator.iter.0.now)) ≤ length l.self.bytes.now;
  rest : pairs_fault 0 l.self.place l.self.bytes.now ≡ rising (above l.last) (l.self.place + 2 * l.i-iterator.count) (pairs_of l.i-iterator.iter.0.now);
}
