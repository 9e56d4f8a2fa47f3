-- What one list of groups has and another lacks.
use Rattle.std.proofs.Common.{◌≡◌, ℕ, Bool, true, false, not, ◌&&◌, ◌||◌, List, [], ◌∷◌, sym, refl, ap, ◌∙◌}
use Rattle.std.proofs.lemmas.Bool.{cond_both, cond-true, and_parts, and_from, not-true, not_from_false, or_right}
use Rattle.table.specs.Sets.{tied, has}
use Rattle.table.proofs.Ups.{Below, Up, tied_same}
use Rattle.groups.specs.declared.group.Group.{Group}
use Rattle.groups.specs.Lists.{minus, groups_of, new_groups_of, lapsed_groups_of}
use Rattle.groups.specs.Orders.{group_before}
use Rattle.groups.specs.Plans.{New, Lapsed, Listing}
use Rattle.groups.proofs.Listings.{listing_up, listing_has, has_listed, lacks_listed, listing_lacks, up_listing, only_listing}
use Rattle.table.proofs.Members.{has_head}
use Rattle.groups.proofs.Orders.{irreflexive, transitive, total}
use Rattle.groups.proofs.Wholes.{groups_listing}

below_minus : (x : Group) (xs ys : List Group) → Below group_before x xs → Below group_before x (minus xs ys)
below_minus x [] ys b = tt
below_minus x (y ∷ xs) ys b =
    cond_both (has group_before y ys) (minus xs ys) (y ∷ minus xs ys) (Below group_before x) (λ e. below_minus x xs ys b.1) (λ e. (b.0, below_minus x xs ys b.1))

pub up_minus : (xs ys : List Group) → Up group_before xs → Up group_before (minus xs ys)
up_minus [] ys u = tt
up_minus (x ∷ xs) ys u =
    cond_both (has group_before x ys) (minus xs ys) (x ∷ minus xs ys) (Up group_before) (λ e. up_minus xs ys u.1) (λ e. (below_minus x xs ys u.0, up_minus xs ys u.1))

gone : (t a b : Bool) → (t ≡ true → b ≡ true) → (a && not b) ≡ ((t || a) && not b)
gone false a b h = refl
gone true a b h = ap (λ z. a && not z) (h refl) ∙ none a ∙ sym (ap not (h refl))
  where
    none : (z : Bool) → (z && false) ≡ false
    none true = refl
    none false = refl

stays : (t a b : Bool) → (t ≡ true → b ≡ false) → (t || (a && not b)) ≡ ((t || a) && not b)
stays false a b h = refl
stays true a b h = sym (ap not (h refl))

pub has_minus : (g : Group) (xs ys : List Group) → has group_before g (minus xs ys) ≡ (has group_before g xs && not (has group_before g ys))
has_minus g [] ys = refl
has_minus g (x ∷ xs) ys =
    cond_both (has group_before x ys) (minus xs ys) (x ∷ minus xs ys) (λ z. has group_before g z ≡ (has group_before g (x ∷ xs) && not (has group_before g ys)))
    (λ e. has_minus g xs ys ∙ gone (tied group_before g x) (has group_before g xs) (has group_before g ys) (λ t. ap (λ (v : Group). has group_before v ys) (same t) ∙ e))
    (λ e. ap (λ t. tied group_before g x || t) (has_minus g xs ys) ∙ stays (tied group_before g x) (has group_before g xs) (has group_before g ys) (λ t. ap (λ (v : Group). has group_before v ys) (same t) ∙ e))
  where
    same : tied group_before g x ≡ true → g ≡ x
    same = tied_same group_before irreflexive transitive total g x

-- a list less one that has all of it is empty
pub minus_none : (xs ys : List Group) → ((g : Group) → has group_before g xs ≡ true → has group_before g ys ≡ true) → minus xs ys ≡ []
minus_none [] ys f = refl
minus_none (x ∷ xs) ys f =
    cond-true (has group_before x ys) (minus xs ys) (x ∷ minus xs ys) (f x (has_head group_before irreflexive transitive total x xs))
    ∙ minus_none xs ys (λ g h. f g (or_right (tied group_before g x) (has group_before g xs) h))

pub minus_self : (xs : List Group) → minus xs xs ≡ []
minus_self xs = minus_none xs xs (λ g h. h)

-- what has P and lacks Q
pub minus_listing : {P Q : Group → Type 0} (xs ys : List Group) → Listing P xs → Listing Q ys → Listing (λ g. P g × (Q g → ⊥)) (minus xs ys)
minus_listing xs ys l m =
    up_listing (minus xs ys) (up_minus xs ys (listing_up xs l))
    (λ g h. let t = and_parts (has group_before g xs) (not (has group_before g ys)) (sym (has_minus g xs ys) ∙ h) in
    (has_listed xs l g t.0, lacks_listed ys m g (not-true (has group_before g ys) t.1)))
    (λ g p. has_minus g xs ys ∙ and_from (has group_before g xs) (not (has group_before g ys)) (listing_has xs l g p.0) (not_from_false (has group_before g ys) (listing_lacks ys m g p.1)))

pub new_listing : (before after : List ℕ) (D : ℕ) → Listing (New before after D) (new_groups_of before after D)
unfolding new_groups_of
new_listing before after D = minus_listing (groups_of after D) (groups_of before D) (groups_listing after D) (groups_listing before D)

pub lapsed_listing : (before after : List ℕ) (D : ℕ) → Listing (Lapsed before after D) (lapsed_groups_of before after D)
unfolding lapsed_groups_of
lapsed_listing before after D = minus_listing (groups_of before D) (groups_of after D) (groups_listing before D) (groups_listing after D)

pub only_new : (before after : List ℕ) (D : ℕ) (list : List Group) → Listing (New before after D) list → list ≡ new_groups_of before after D
only_new before after D list l = only_listing list (new_groups_of before after D) l (new_listing before after D)

pub only_lapsed : (before after : List ℕ) (D : ℕ) (list : List Group) → Listing (Lapsed before after D) list → list ≡ lapsed_groups_of before after D
only_lapsed before after D list l = only_listing list (lapsed_groups_of before after D) l (lapsed_listing before after D)

-- there and back, and where nothing changes
pub lapsed_new : (before after : List ℕ) (D : ℕ) → lapsed_groups_of before after D ≡ new_groups_of after before D
unfolding lapsed_groups_of new_groups_of
lapsed_new before after D = refl

pub new_none : (rows : List ℕ) (D : ℕ) → new_groups_of rows rows D ≡ []
unfolding new_groups_of
new_none rows D = minus_self (groups_of rows D)

pub lapsed_none : (rows : List ℕ) (D : ℕ) → lapsed_groups_of rows rows D ≡ []
unfolding lapsed_groups_of
lapsed_none rows D = minus_self (groups_of rows D)

-- the lists as sets
pub new_has : (before after : List ℕ) (D : ℕ) (g : Group) → has group_before g (new_groups_of before after D) ≡ (has group_before g (groups_of after D) && not (has group_before g (groups_of before D)))
unfolding new_groups_of
new_has before after D g = has_minus g (groups_of after D) (groups_of before D)

pub lapsed_has : (before after : List ℕ) (D : ℕ) (g : Group) → has group_before g (lapsed_groups_of before after D) ≡ (has group_before g (groups_of before D) && not (has group_before g (groups_of after D)))
unfolding lapsed_groups_of
lapsed_has before after D g = has_minus g (groups_of before D) (groups_of after D)
