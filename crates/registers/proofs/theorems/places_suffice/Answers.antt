use Rattle.std.proofs.Common.{true, false, refl, ap, ◌∙◌}
use Rattle.std.proofs.lemmas.Bool.{both_ways}
use Rattle.groups.specs.Orders.{group_before}
use Rattle.groups.proofs.Orders.{irreflexive, transitive, total}
use Rattle.table.specs.Sets.{has}
use Rattle.table.proofs.Members.{up_of}
use Rattle.table.proofs.Alls.{has_all_entered, has_all_struck}
use Rattle.registers.proofs.Suffices.{entered_suffices, struck_suffices}
use Rattle.registers.proofs.theorems.places_suffice.Goals as goal

pub returns : goal.returns
returns c = record {
  entered = λ held spare xs a l g.
      ap (has group_before g) (entered_suffices held spare xs (up_of group_before irreflexive transitive total held a) l) ∙ has_all_entered group_before irreflexive transitive total g xs held;
  struck_spending = λ held spare xs a l g.
      ap (has group_before g) (struck_suffices true held spare xs (λ t. l)) ∙ has_all_struck group_before irreflexive transitive total g xs held (up_of group_before irreflexive transitive total held a);
  struck_refilling = λ held spare xs a g.
      ap (has group_before g) (struck_suffices false held spare xs (λ t. absurd (both_ways false refl t))) ∙ has_all_struck group_before irreflexive transitive total g xs held (up_of group_before irreflexive transitive total held a);
}
