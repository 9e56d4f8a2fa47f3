use Rattle.std.proofs.Common.{refl, rules}
use Rattle.std.proofs.lemmas.List.Recursion.{and_is}
use Rattle.table.specs.Sets.{has}
use Rattle.groups.specs.Orders.{group_before}
use Rattle.groups.specs.Plans.{nothing}
use Rattle.ledger.specs.Ledger.{all_held}
use Rattle.suite.proofs.lists.all_held.Goals as goal

pub returns : goal.returns
returns g c = let held = g.R.Register.held c.args.register.now in
    and_is (λ gs. all_held gs held) (λ x. has group_before x held) refl (λ _ _. refl) c.args.groups.now nothing _ (search rules) (search rules)
