-- An ascending list is determined by what it has.
use Rattle.std.proofs.Common.{◌≡◌, ℕ, suc, ◌<◌, Bool, true, false, ◌||◌, List, [], ◌∷◌, length, get_or, take, sym, refl, ap, ◌∙◌, subst, ⊎_elim, arith}
use Rattle.std.proofs.lemmas.Bool.{cases_Bool, true≢false, or_cases}
use Rattle.table.specs.Rows.{Ascends}
use Rattle.table.specs.Sets.{tied, has}
use Rattle.table.proofs.Ups.{Below, Up, tied_same, tied_refl, below_lacks, ascends_up}

pub take_self : {X : Type 0} (xs : List X) → take (length xs) xs ≡ xs
take_self [] = refl
take_self {X} (x ∷ xs) = ap (λ (z : List X). x ∷ z) (take_self xs)

module _ {X : Type 0} (lt : X → X → Bool)
    (irr : (x : X) → lt x x ≡ false)
    (chain : (x y z : X) → lt x y ≡ true → lt y z ≡ true → lt x z ≡ true)
    (total : (x y : X) → lt x y ≡ false → lt y x ≡ false → x ≡ y) where
  pub up_of : (xs : List X) → Ascends lt xs (length xs) → Up lt xs
  up_of xs a = subst (λ (z : List X). Up lt z) (take_self xs) (ascends_up lt chain xs (length xs) (omega arith) a)

  -- what a list has stands at some place
  pub has_place : (x d : X) (xs : List X) → has lt x xs ≡ true → (i : ℕ) × (i < length xs) × (get_or xs i d ≡ x)
  has_place x d [] h = absurd (true≢false (sym h))
  has_place x d (y ∷ ys) h = ⊎_elim
      (λ (t : tied lt x y ≡ true). (0, omega arith, sym (tied_same lt irr chain total x y t)))
      (λ (m : has lt x ys ≡ true). let r = has_place x d ys m in (suc r.0, (let l = r.1 in omega arith), r.2))
      (or_cases (tied lt x y) (has lt x ys) h)

  weak : (x y : X) (zs : List X) → lt x y ≡ true → Below lt y zs → Below lt x zs
  weak x y [] h b = tt
  weak x y (z ∷ zs) h b = (chain x y z h b.0, weak x y zs h b.1)

  pub has_head : (x : X) (xs : List X) → has lt x (x ∷ xs) ≡ true
  has_head x xs = ap (λ t. t || has lt x xs) (tied_refl lt irr chain total x)

  lacks_before : (x y : X) (ys : List X) → Up lt (y ∷ ys) → lt x y ≡ true → has lt x (y ∷ ys) ≡ false
  lacks_before x y ys u h = below_lacks lt irr chain total x (y ∷ ys) (h, weak x y ys h u.0)

  heads : (x y : X) (xs ys : List X) → Up lt (x ∷ xs) → Up lt (y ∷ ys) → ((g : X) → has lt g (x ∷ xs) ≡ has lt g (y ∷ ys)) → x ≡ y
  heads x y xs ys u v s = total x y
      (⊎_elim (λ (t : lt x y ≡ true). absurd (true≢false (sym (has_head x xs) ∙ s x ∙ lacks_before x y ys v t))) (λ (f : lt x y ≡ false). f) (cases_Bool (lt x y)))
      (⊎_elim (λ (t : lt y x ≡ true). absurd (true≢false (sym (has_head y ys) ∙ sym (s y) ∙ lacks_before y x xs u t))) (λ (f : lt y x ≡ false). f) (cases_Bool (lt y x)))

  -- what is after the first is not the first
  pub not_first : (x g : X) (xs : List X) → Below lt x xs → has lt g xs ≡ true → tied lt g x ≡ false
  not_first x g xs b h = ⊎_elim (λ (t : tied lt g x ≡ true). absurd (true≢false (sym h ∙ ap (λ (v : X). has lt v xs) (tied_same lt irr chain total g x t) ∙ below_lacks lt irr chain total x xs b))) (λ (f : tied lt g x ≡ false). f) (cases_Bool (tied lt g x))

  tails : (x y : X) (xs ys : List X) → Up lt (x ∷ xs) → Up lt (y ∷ ys) → x ≡ y → ((g : X) → has lt g (x ∷ xs) ≡ has lt g (y ∷ ys)) → (g : X) → has lt g xs ≡ has lt g ys
  tails x y xs ys u v e s g = ⊎_elim
      (λ (t : tied lt g x ≡ true). let w = tied_same lt irr chain total g x t in
      ap (λ (z : X). has lt z xs) w ∙ below_lacks lt irr chain total x xs u.0 ∙ sym (ap (λ (z : X). has lt z ys) (w ∙ e) ∙ below_lacks lt irr chain total y ys v.0))
      (λ (f : tied lt g x ≡ false). sym (ap (λ t. t || has lt g xs) f) ∙ s g ∙ ap (λ t. t || has lt g ys) (ap (tied lt g) (sym e) ∙ f))
      (cases_Bool (tied lt g x))

  pub same_up : (xs ys : List X) → Up lt xs → Up lt ys → ((g : X) → has lt g xs ≡ has lt g ys) → xs ≡ ys
  same_up [] [] u v s = refl
  same_up [] (y ∷ ys) u v s = absurd (true≢false (sym (has_head y ys) ∙ sym (s y)))
  same_up (x ∷ xs) [] u v s = absurd (true≢false (sym (has_head x xs) ∙ s x))
  same_up (x ∷ xs) (y ∷ ys) u v s =
      let e = heads x y xs ys u v s in
      ap (λ (z : X). z ∷ xs) e ∙ ap (λ (z : List X). y ∷ z) (same_up xs ys u.1 v.1 (tails x y xs ys u v e s))

  pub same_members : (xs ys : List X) → Ascends lt xs (length xs) → Ascends lt ys (length ys) → ((g : X) → has lt g xs ≡ has lt g ys) → xs ≡ ys
  same_members xs ys a b s = same_up xs ys (up_of xs a) (up_of ys b) s
