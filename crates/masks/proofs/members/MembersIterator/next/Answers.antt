use Rattle.std.proofs.Common.{arith, length, ap, ◌∙◌}
use Rattle.masks.proofs.Ascending.{peeled, members_none, members_first}
use Rattle.masks.specs.Members.{members_of}
use Rattle.masks.proofs.members.MembersIterator.next.Goals as goal

pub returns-then-left-eq0-clause-steps : goal.returns-then-left-eq0-clause-steps
returns-then-left-eq0-clause-steps c = let e = ap members_of c.if-left-eq0.true ∙ members_none in (e, e)

pub returns-clause-steps : goal.returns-clause-steps
returns-clause-steps c = members_first (peeled c.args.self.now.left (omega arith) (omega (arith, c.if-left-eq0.false)))

pub returns-clause-goes : goal.returns-clause-goes
returns-clause-goes c =
    let e = ap length (members_first (peeled c.args.self.now.left (omega arith) (omega (arith, c.if-left-eq0.false)))) in
    record { on = λ f. (tt, tt, omega (arith, e)); keeps = tt; rests = λ f. tt }
