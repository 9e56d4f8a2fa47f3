use Rattle.std.proofs.Common.{◌≡◌, ℕ, ◌*◌, ◌%◌, ◌^◌, ◌<◌, length, get_or, length-append, sym, ap, ◌∙◌, subst, arith}
use lib.Bits.{bit_or}
use Rattle.std.proofs.lemmas.Iterator.{YieldsList-from_slice, YieldsList-from_zip}
use Rattle.std.proofs.lemmas.Iterator.Consumers.{YieldsList-from_enumerate, YieldsList-turn}
use Rattle.std.proofs.lemmas.Nat.{one_shl}
use Rattle.difference.specs.Changes.{Losing}
use Rattle.difference.proofs.Asks.{losing_more, losing_same, paired}
use Rattle.difference.proofs.rows.Rows.losing.Goals as goal
use Rattle.difference.proofs.rows.Rows.losing.Goals.{After-only}

-- which rows came
came : (c : After-only)
    → (c.in-Some.k ≡ length c.loop-k.yielded) × (length c.loop-k.yielded < length c.args.self.before.now)
    × (c.in-Some.was.now ≡ get_or c.args.self.before.now (length c.loop-k.yielded) 0) × (c.in-Some.is'.now ≡ get_or c.args.self.after.now (length c.loop-k.yielded) 0)
came c =
    let t = YieldsList-turn (YieldsList-from_enumerate (YieldsList-from_zip (YieldsList-from_slice c.args.self.before.now cc) (YieldsList-from_slice c.args.self.after.now cc)) cc)
    c.loop-k.yielded c.loop-k.k-iterator c.loop-k.yielded_by c.next.result c.next.new.self _ c.in-Some.is c.next.ensures.steps in
    paired _ _ _ _ _ _ t.0 t.1

pub loop-k-preserved-then-only-ne0 : goal.loop-k-preserved-then-only-ne0
loop-k-preserved-then-only-ne0 c =
    let s = came (goal.at.loop-k-preserved-then-only-ne0 c).After-only in
    let e = one_shl c.in-Some.k 64 (omega (arith, s.0, s.1, c.args.self.few)) ∙ ap (λ (i : ℕ). 2 ^ i) s.0 in
    let L : ℕ → Type 0 = λ m. Losing c.args.self.before.now c.args.self.after.now c.args.n m (bit_or c.loop-k.set (1 * 2 ^ c.in-Some.k % 2 ^ 64)) in
    subst L (sym (length-append c.loop-k.yielded _))
    (losing_more c.args.self.before.now c.args.self.after.now c.args.n (length c.loop-k.yielded) c.loop-k.set c.loop-k.invariant _ e)

pub loop-k-preserved : goal.loop-k-preserved
loop-k-preserved c =
    let s = came (goal.at.loop-k-preserved c).After-only in
    let L : ℕ → Type 0 = λ m. Losing c.args.self.before.now c.args.self.after.now c.args.n m c.loop-k.set in
    subst L (sym (length-append c.loop-k.yielded _))
    (losing_same c.args.self.before.now c.args.self.after.now c.args.n (length c.loop-k.yielded) c.loop-k.set c.loop-k.invariant _ _ c.only.result s.2 s.3 c.only.ensures c.if-only-ne0.false)
