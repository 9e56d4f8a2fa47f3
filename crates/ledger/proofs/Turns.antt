-- Records struck and entered in their order: each is there, or is not, when its turn comes; and what it says that a register is not out of step.
use Rattle.std.proofs.Common.{◌≡◌, ◌+◌, true, false, not, ◌&&◌, ◌||◌, List, [], ◌∷◌, length, sym, refl, ap, ◌∙◌, ⊎_elim, arith}
use Rattle.std.proofs.lemmas.Bool.{true≢false, or_right, or_from, or_parts, or_cases, and_from, and_parts, and_right, not-false}
use Rattle.table.specs.Sets.{tied, has, entered, struck, all_entered, all_struck}
use Rattle.table.proofs.Ups.{Up, tied_same, up_struck, has_entered, has_struck, length_entered, length_struck, up_ascends}
use Rattle.table.proofs.Members.{up_of, has_head, not_first}
use Rattle.table.proofs.Alls.{up_all_entered, up_all_struck, has_all_struck}
use Rattle.groups.specs.declared.group.Group.{Group}
use Rattle.groups.specs.Orders.{group_before}
use Rattle.groups.proofs.Orders.{irreflexive, transitive, total}
use Rattle.ledger.specs.Ledger.{all_held, some_are_held, out_of_step}
use Rattle.ledger.specs.Copies.{AllThere, NoneThere}
use Rattle.ledger.specs.Laws.{AscendingGroups}

pub up_groups : (gs : List Group) → AscendingGroups gs → Up group_before gs
up_groups gs a = up_of group_before irreflexive transitive total gs a

-- ---- each in its turn

there : (lapsed held : List Group) → Up group_before lapsed → Up group_before held
    → ((g : Group) → has group_before g lapsed ≡ true → has group_before g held ≡ true) → AllThere held lapsed
there [] held v u f = tt
there (x ∷ lapsed) held v u f = (
  f x (has_head group_before irreflexive transitive total x lapsed),
  there lapsed (struck group_before x held) v.1 (up_struck group_before irreflexive transitive total x held u)
      (λ g m. has_struck group_before irreflexive transitive total g x held u
      ∙ ap (λ t. not t && has group_before g held) (not_first group_before irreflexive transitive total x g lapsed v.0 m)
      ∙ f g (or_right (tied group_before g x) (has group_before g lapsed) m)),
)

none : (new held : List Group) → Up group_before new → ((g : Group) → has group_before g new ≡ true → has group_before g held ≡ false) → NoneThere held new
none [] held v f = tt
none (x ∷ new) held v f = (
  f x (has_head group_before irreflexive transitive total x new),
  none new (entered group_before x held) v.1
      (λ g m. has_entered group_before irreflexive transitive total g x held
      ∙ ap (λ t. t || has group_before g held) (not_first group_before irreflexive transitive total x g new v.0 m)
      ∙ f g (or_right (tied group_before g x) (has group_before g new) m)),
)

pub length_all_struck : (lapsed held : List Group) → AllThere held lapsed → length (all_struck group_before lapsed held) + length lapsed ≡ length held
length_all_struck [] held a = omega arith
length_all_struck (x ∷ lapsed) held a =
    let r = length_all_struck lapsed (struck group_before x held) a.1 in
    let s = length_struck group_before irreflexive transitive total x held a.0 in
    omega arith

pub length_all_entered : (new held : List Group) → NoneThere held new → length (all_entered group_before new held) ≡ length held + length new
length_all_entered [] held a = omega arith
length_all_entered (x ∷ new) held a =
    let r = length_all_entered new (entered group_before x held) a.1 in
    let s = length_entered group_before irreflexive transitive total x held a.0 in
    omega arith

-- ---- the two tests, as what they ask of each group

same : (g x : Group) → tied group_before g x ≡ true → g ≡ x
same g x t = tied_same group_before irreflexive transitive total g x t

all_has : (gs held : List Group) → all_held gs held ≡ true → (g : Group) → has group_before g gs ≡ true → has group_before g held ≡ true
all_has [] held a g m = absurd (true≢false (sym m))
all_has (x ∷ gs) held a g m =
    let both = and_parts (has group_before x held) (all_held gs held) a in
    ⊎_elim
    (λ (t : tied group_before g x ≡ true). ap (λ (v : Group). has group_before v held) (same g x t) ∙ both.0)
    (λ (r : has group_before g gs ≡ true). all_has gs held both.1 g r)
    (or_cases (tied group_before g x) (has group_before g gs) m)

none_has : (gs held : List Group) → some_are_held gs held ≡ false → (g : Group) → has group_before g gs ≡ true → has group_before g held ≡ false
none_has [] held a g m = absurd (true≢false (sym m))
none_has (x ∷ gs) held a g m =
    let both = or_parts (has group_before x held) (some_are_held gs held) a in
    ⊎_elim
    (λ (t : tied group_before g x ≡ true). ap (λ (v : Group). has group_before v held) (same g x t) ∙ both.0)
    (λ (r : has group_before g gs ≡ true). none_has gs held both.1 g r)
    (or_cases (tied group_before g x) (has group_before g gs) m)

has_all : (gs held : List Group) → ((g : Group) → has group_before g gs ≡ true → has group_before g held ≡ true) → all_held gs held ≡ true
has_all [] held f = refl
has_all (x ∷ gs) held f =
    and_from (has group_before x held) (all_held gs held) (f x (has_head group_before irreflexive transitive total x gs))
    (has_all gs held (λ g m. f g (or_right (tied group_before g x) (has group_before g gs) m)))

has_none : (gs held : List Group) → ((g : Group) → has group_before g gs ≡ true → has group_before g held ≡ false) → some_are_held gs held ≡ false
has_none [] held f = refl
has_none (x ∷ gs) held f =
    or_from (has group_before x held) (some_are_held gs held) (f x (has_head group_before irreflexive transitive total x gs))
    (has_none gs held (λ g m. f g (or_right (tied group_before g x) (has group_before g gs) m)))

-- ---- what it says that a register is not out of step

module _ (new lapsed held : List Group) where
  pub lapsed_held : out_of_step new lapsed held ≡ false → (g : Group) → has group_before g lapsed ≡ true → has group_before g held ≡ true
  lapsed_held e = all_has lapsed held (not-false (all_held lapsed held) (or_parts (not (all_held lapsed held)) (some_are_held new held) e).0)

  pub new_not_held : out_of_step new lapsed held ≡ false → (g : Group) → has group_before g new ≡ true → has group_before g held ≡ false
  new_not_held e = none_has new held (or_parts (not (all_held lapsed held)) (some_are_held new held) e).1

  pub not_out_of_step : ((g : Group) → has group_before g lapsed ≡ true → has group_before g held ≡ true)
      → ((g : Group) → has group_before g new ≡ true → has group_before g held ≡ false) → out_of_step new lapsed held ≡ false
  not_out_of_step f k = or_from (not (all_held lapsed held)) (some_are_held new held) (ap not (has_all lapsed held f)) (has_none new held k)

  module _ (n : AscendingGroups new) (l : AscendingGroups lapsed) (h : AscendingGroups held) where
    pub all_there : out_of_step new lapsed held ≡ false → AllThere held lapsed
    all_there e = there lapsed held (up_groups lapsed l) (up_groups held h) (lapsed_held e)

    pub none_there : out_of_step new lapsed held ≡ false → NoneThere (all_struck group_before lapsed held) new
    none_there e =
        none new (all_struck group_before lapsed held) (up_groups new n)
        (λ g m. has_all_struck group_before irreflexive transitive total g lapsed held (up_groups held h)
        ∙ and_right (not (has group_before g lapsed)) (has group_before g held) (new_not_held e g m))

    -- what is held then ascends, and its length
    pub followed_ascends : AscendingGroups (all_entered group_before new (all_struck group_before lapsed held))
    followed_ascends =
        up_ascends group_before (all_entered group_before new (all_struck group_before lapsed held))
        (up_all_entered group_before irreflexive transitive total new (all_struck group_before lapsed held) (up_all_struck group_before irreflexive transitive total lapsed held (up_groups held h)))

    pub followed_length : out_of_step new lapsed held ≡ false
        → length (all_entered group_before new (all_struck group_before lapsed held)) + length lapsed ≡ length held + length new
    followed_length e =
        let r = length_all_struck lapsed held (all_there e) in
        let s = length_all_entered new (all_struck group_before lapsed held) (none_there e) in
        omega arith
