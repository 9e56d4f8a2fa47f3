use Rattle.std.proofs.Common.{◌≡◌, get_or, arith}
use Rattle.weekly.specs.Head.{two_bytes}
use Rattle.weekly.proofs.Heads.{read_more}
use Rattle.weekly.proofs.head.EntriesIterator.next.Goals as goal

pub returns-clause-steps : goal.returns-clause-steps
returns-clause-steps c =
    let bs = c.args.self.now.0.now in
    let e = read_more bs (omega arith) in
    let start : c.from_le_bytes.result ≡ two_bytes (get_or bs 1 0) (get_or bs 2 0) = omega (arith, c.from_le_bytes.ensures) in
    let len : c.from_le_bytes-2.result ≡ two_bytes (get_or bs 3 0) (get_or bs 4 0) = omega (arith, c.from_le_bytes-2.ensures) in
    rw (start, len) e
