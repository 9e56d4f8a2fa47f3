-- Either side of a group says which group of the plan it is.
use Rattle.std.proofs.Common.{◌≡◌, ℕ, List, sym, ap, ◌∙◌}
use Rattle.groups.specs.declared.group.Group.{Group}
use Rattle.groups.specs.Lists.{with_doors, shared_keys}
use Rattle.groups.specs.Plans.{IsGroup}
use Rattle.groups.proofs.Closures.{group_with_doors, group_keys}
use Rattle.groups.proofs.Orders.{same_group}

pub same_keys : {rows : List ℕ} {D : ℕ} (g h : Group) → IsGroup rows D g → IsGroup rows D h → g.keys ≡ h.keys → g ≡ h
same_keys {rows} {D} g h p q e = group_with_doors rows D g p ∙ ap (with_doors rows D) e ∙ sym (group_with_doors rows D h q)

pub same_doors : {rows : List ℕ} {D : ℕ} (g h : Group) → IsGroup rows D g → IsGroup rows D h → g.doors ≡ h.doors → g ≡ h
same_doors {rows} {D} g h p q e = same_group g h (sym (group_keys rows D g p) ∙ ap (shared_keys rows) e ∙ group_keys rows D h q) e
