use Rattle.std.proofs.Common.{◌≡◌, ◌+◌, ◌*◌, ◌≤◌, length}
use Rattle.weekly.specs.Entries.{entries_of}
use Rattle.weekly.specs.Places.{places_of}
use Rattle.weekly.specs.Head.{entries, bodies_start, bodies_end, Short}
use Rattle.weekly.specs.Kinds.{last_letter}
use Rattle.weekly.proofs.Heads.{laid}
use Rattle.weekly.proofs.head.contents.Given as goal

-- what the entries so far leave to be read
abbrev pub invariant-loop-i : goal.invariant-loop-i
invariant-loop-i l = record {
  within : l.i-iterator.count + length (entries_of l.i-iterator.iter.0.now) ≤ 3;
  few : bodies_end (places_of l.layout) + 200 * length (entries_of l.i-iterator.iter.0.now) ≤ 900;
  short : Short (places_of l.layout);
  rest : entries l.n l.bytes 5 0 (bodies_start l.n) ≡ laid (5 + 5 * l.i-iterator.count) (last_letter l.last) (places_of l.layout) (entries_of l.i-iterator.iter.0.now);
}
