use Rattle.std.proofs.Common.{inl, inr}
use Rattle.masks.proofs.Bitlaws.{has_or}
use Rattle.difference.proofs.Asks.{losing_at}
use Rattle.difference.proofs.writing.changed.Goals as goal

pub returns : goal.returns
returns c =
    let x = c.losing.result in
    let y = c.losing-2.result in
    let e = c.exchanged-back.ensures in
    record {
      lost = λ k d lk ld o n. has_or x y k (inl (c.losing.ensures k d lk ld o n));
      gained = λ k d lk ld o n. has_or x y k (inr (losing_at y e.before e.after c.args.rows.same c.losing-2.ensures k d lk ld o n));
      doors_lost = c.losing-3.ensures;
    }
