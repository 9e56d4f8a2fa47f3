use Rattle.std.proofs.Common.{◌-◌, ◌^◌, ◌<◌, inl, inr, ⊎_elim, arith}
use lib.Bits.{bit_and, bit_or}
use Rattle.masks.proofs.Bitlaws.{has_or, or_has}
use Rattle.difference.proofs.Marks.{and_lt, or_lt, lacks_has, has_lacks, no_has, some_has, when_ne}
use Rattle.difference.proofs.touches.key_touches.Goals as goal

pub returns : goal.returns
returns c =
    let doors = c.args.doors in
    let was = c.args.was in
    let is = c.args.is in
    let common = c.args.common in
    let a = bit_and doors (2 ^ 64 - 1 - was) in
    let b = bit_and common (2 ^ 64 - 1 - is) in
    let fits : bit_or a b < 2 ^ 64 = or_lt a b (and_lt doors (2 ^ 64 - 1 - was) (omega arith)) (and_lt common (2 ^ 64 - 1 - is) (omega arith)) in
    when_ne (bit_or a b) _ _
    (λ n. let f = some_has (bit_or a b) fits n in
    ⊎_elim (λ h. inl (lacks_has doors was (omega arith) (omega arith) f.0 h)) (λ h. inr (lacks_has common is (omega arith) (omega arith) f.0 h)) (or_has a b f.0 f.1))
    (λ z t. ⊎_elim (λ l. no_has (bit_or a b) l.0 z (has_or a b l.0 (inl (has_lacks doors was (omega arith) (omega arith) l))))
    (λ l. no_has (bit_or a b) l.0 z (has_or a b l.0 (inr (has_lacks common is (omega arith) (omega arith) l)))) t)
