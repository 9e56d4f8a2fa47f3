use Rattle.std.proofs.Common.{inl, arith}
use Rattle.weekly.specs.Pairs.{pairs_of}
use Rattle.weekly.specs.declared.body.Pairs.{Pairs}
use Rattle.weekly.proofs.Bodies.{pairs_count, pairs_rising}
use Rattle.weekly.proofs.Walks.{begun}
use Rattle.weekly.proofs.placed.Body.ascending.Goals as goal

pub loop-i-init-derived : goal.loop-i-init-derived
loop-i-init-derived c =
    let n = pairs_count c.args.self.bytes.now in
    let b = begun (λ (s : Pairs). pairs_of s.0.now) _ _ _ c.into_iter-i-iterator.ensures.into_iter_gives c.enumerate-i-items.ensures.source c.enumerate-i-items.ensures.count in
    ((tt, tt, inl (grind arith)), tt)

pub loop-i-init : goal.loop-i-init
loop-i-init c =
    let n = pairs_count c.args.self.bytes.now in
    let r = pairs_rising 0 c.args.self.place c.args.self.bytes.now in
    let b = begun (λ (s : Pairs). pairs_of s.0.now) _ _ _ c.into_iter-i-iterator.ensures.into_iter_gives c.enumerate-i-items.ensures.source c.enumerate-i-items.ensures.count in
    record { range = tt; within = grind arith; rest = grind arith }
