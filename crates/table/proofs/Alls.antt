-- Several records entered or struck in their order: what is there then, and in which order.
use Rattle.std.proofs.Common.{◌≡◌, Bool, true, false, not, ◌&&◌, ◌||◌, List, [], ◌∷◌, ◌++◌, sym, refl, ap, ◌∙◌}
use Rattle.table.specs.Sets.{tied, has, entered, struck, all_entered, all_struck, sorted}
use Rattle.table.proofs.Ups.{Up, up_entered, up_struck, has_entered, has_struck}
use Rattle.table.proofs.Members.{same_up}

not_or : (a b c : Bool) → (not b && (not a && c)) ≡ (not (a || b) && c)
not_or true true c = refl
not_or true false c = refl
not_or false b c = refl

or_turn : (a b c : Bool) → (b || (a || c)) ≡ ((a || b) || c)
or_turn true true c = refl
or_turn true false c = refl
or_turn false b c = refl

or_none : (a : Bool) → (a || false) ≡ a
or_none true = refl
or_none false = refl

or_assoc : (a b c : Bool) → (a || (b || c)) ≡ ((a || b) || c)
or_assoc true b c = refl
or_assoc false b c = refl

pub has_append : {X : Type 0} (lt : X → X → Bool) (g : X) (xs ys : List X) → has lt g (xs ++ ys) ≡ (has lt g xs || has lt g ys)
has_append lt g [] ys = refl
has_append lt g (x ∷ xs) ys = ap (λ t. tied lt g x || t) (has_append lt g xs ys) ∙ or_assoc (tied lt g x) (has lt g xs) (has lt g ys)

module _ {X : Type 0} (lt : X → X → Bool)
    (irr : (x : X) → lt x x ≡ false)
    (chain : (x y z : X) → lt x y ≡ true → lt y z ≡ true → lt x z ≡ true)
    (total : (x y : X) → lt x y ≡ false → lt y x ≡ false → x ≡ y) where
  pub up_all_entered : (xs ys : List X) → Up lt ys → Up lt (all_entered lt xs ys)
  up_all_entered [] ys u = u
  up_all_entered (x ∷ xs) ys u = up_all_entered xs (entered lt x ys) (up_entered lt irr chain total x ys u)

  pub up_all_struck : (xs ys : List X) → Up lt ys → Up lt (all_struck lt xs ys)
  up_all_struck [] ys u = u
  up_all_struck (x ∷ xs) ys u = up_all_struck xs (struck lt x ys) (up_struck lt irr chain total x ys u)

  pub has_all_entered : (g : X) (xs ys : List X) → has lt g (all_entered lt xs ys) ≡ (has lt g xs || has lt g ys)
  has_all_entered g [] ys = refl
  has_all_entered g (x ∷ xs) ys =
      has_all_entered g xs (entered lt x ys) ∙ ap (λ t. has lt g xs || t) (has_entered lt irr chain total g x ys) ∙ or_turn (tied lt g x) (has lt g xs) (has lt g ys)

  pub has_all_struck : (g : X) (xs ys : List X) → Up lt ys → has lt g (all_struck lt xs ys) ≡ (not (has lt g xs) && has lt g ys)
  has_all_struck g [] ys u = refl
  has_all_struck g (x ∷ xs) ys u =
      has_all_struck g xs (struck lt x ys) (up_struck lt irr chain total x ys u) ∙ ap (λ t. not (has lt g xs) && t) (has_struck lt irr chain total g x ys u) ∙ not_or (tied lt g x) (has lt g xs) (has lt g ys)

  pub up_sorted : (xs : List X) → Up lt (sorted lt xs)
  up_sorted xs = up_all_entered xs [] tt

  pub has_sorted : (g : X) (xs : List X) → has lt g (sorted lt xs) ≡ has lt g xs
  has_sorted g xs = has_all_entered g xs [] ∙ or_none (has lt g xs)

  -- an ascending list with the same records is the sorted one
  pub sorted_only : (xs ys : List X) → Up lt ys → ((g : X) → has lt g ys ≡ has lt g xs) → sorted lt xs ≡ ys
  sorted_only xs ys u s = same_up lt irr chain total (sorted lt xs) ys (up_sorted xs) u (λ g. has_sorted g xs ∙ sym (s g))
