-- The part of a listing that passes a test.
use Rattle.std.proofs.Common.{◌≡◌, Bool, true, false, ◌&&◌, ◌||◌, List, [], ◌∷◌, filter, sym, refl, ap, ◌∙◌}
use Rattle.std.proofs.lemmas.Bool.{cond_both, and_parts, and_from}
use Rattle.table.specs.Sets.{tied, has}
use Rattle.table.proofs.Ups.{Below, Up, tied_same}
use Rattle.groups.specs.declared.group.Group.{Group}
use Rattle.groups.specs.Orders.{group_before}
use Rattle.groups.specs.Plans.{Listing}
use Rattle.groups.proofs.Listings.{listing_up, listing_has, has_listed, up_listing}
use Rattle.groups.proofs.Orders.{irreflexive, transitive, total}

gone : (t a b : Bool) → (t ≡ true → b ≡ false) → (a && b) ≡ ((t || a) && b)
gone false a b h = refl
gone true a b h = ap (λ z. a && z) (h refl) ∙ none a ∙ sym (h refl)
  where
    none : (z : Bool) → (z && false) ≡ false
    none true = refl
    none false = refl

stays : (t a b : Bool) → (t ≡ true → b ≡ true) → (t || (a && b)) ≡ ((t || a) && b)
stays false a b h = refl
stays true a b h = sym (h refl)

module _ (test : Group → Bool) where
  below_kept : (x : Group) (xs : List Group) → Below group_before x xs → Below group_before x (filter test xs)
  below_kept x [] b = tt
  below_kept x (y ∷ xs) b =
      cond_both (test y) (y ∷ filter test xs) (filter test xs) (Below group_before x) (λ e. (b.0, below_kept x xs b.1)) (λ e. below_kept x xs b.1)

  up_kept : (xs : List Group) → Up group_before xs → Up group_before (filter test xs)
  up_kept [] u = tt
  up_kept (x ∷ xs) u =
      cond_both (test x) (x ∷ filter test xs) (filter test xs) (Up group_before) (λ e. (below_kept x xs u.0, up_kept xs u.1)) (λ e. up_kept xs u.1)

  has_kept : (g : Group) (xs : List Group) → has group_before g (filter test xs) ≡ (has group_before g xs && test g)
  has_kept g [] = refl
  has_kept g (x ∷ xs) =
      cond_both (test x) (x ∷ filter test xs) (filter test xs) (λ z. has group_before g z ≡ (has group_before g (x ∷ xs) && test g))
      (λ e. ap (λ t. tied group_before g x || t) (has_kept g xs) ∙ stays (tied group_before g x) (has group_before g xs) (test g) (λ t. ap test (same t) ∙ e))
      (λ e. has_kept g xs ∙ gone (tied group_before g x) (has group_before g xs) (test g) (λ t. ap test (same t) ∙ e))
    where
      same : tied group_before g x ≡ true → g ≡ x
      same = tied_same group_before irreflexive transitive total g x

  pub kept_listing : {P : Group → Type 0} (xs : List Group) → Listing P xs → Listing (λ g. P g × (test g ≡ true)) (filter test xs)
  kept_listing xs l =
      up_listing (filter test xs) (up_kept xs (listing_up xs l))
      (λ g h. let t = and_parts (has group_before g xs) (test g) (sym (has_kept g xs) ∙ h) in (has_listed xs l g t.0, t.1))
      (λ g p. has_kept g xs ∙ and_from (has group_before g xs) (test g) (listing_has xs l g p.0) p.1)
