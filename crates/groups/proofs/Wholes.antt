-- The list of a plan's groups lists them, and is the only one that does.
use Rattle.std.proofs.Common.{◌≡◌, ℕ, zero, suc, ◌+◌, ◌-◌, ◌^◌, ◌<◌, ◌≤◌, true, false, ◌⊎◌, List, [], ◌∷◌, map, length, filter, sym, refl, ap, ◌∙◌, subst, inl, inr, ⊎_elim, arith, pow_pos}
use Rattle.std.specs.List.{range_with_len}
use Rattle.std.proofs.lemmas.Bool.{cases_Bool, cases_eq, cond_both, true≢false}
use Rattle.table.specs.Sets.{has}
use Rattle.groups.specs.declared.group.Group.{Group}
use Rattle.groups.specs.Lists.{with_doors, makes_group, groups_of}
use Rattle.groups.specs.Orders.{group_before}
use Rattle.groups.specs.Plans.{IsGroup, Listing}
use Rattle.groups.proofs.Closures.{made_group, group_with_doors, group_makes}
use Rattle.groups.proofs.Listings.{listing_has, has_listed, lacks_listed, none_listing, one_listing, merge, relisted, only_listing}

-- the key sets from a on, n of them, that make a group
record Range (rows : List ℕ) (D a n : ℕ) (g : Group) : Type 0 where
  from : a ≤ g.keys
  below : g.keys < a + n
  doors : g ≡ with_doors rows D g.keys
  makes : makes_group rows g ≡ true

module _ (rows : List ℕ) (D : ℕ) where
  abbrev ranged : ℕ → ℕ → List Group
  ranged a n = filter (makes_group rows) (map (with_doors rows D) (range_with_len a n))

  abbrev First : ℕ → Group → Type 0
  First a g = (g ≡ with_doors rows D a) × (makes_group rows g ≡ true)

  first_in : (a n : ℕ) (g : Group) → First a g → Range rows D a (suc n) g
  first_in a n g f =
      let e : g.keys ≡ a = ap (λ (h : Group). h.keys) f.0 in
      record { from = omega arith; below = omega arith; doors = f.0 ∙ ap (with_doors rows D) (sym e); makes = f.1 }

  later_in : (a n : ℕ) (g : Group) → Range rows D (a + 1) n g → Range rows D a (suc n) g
  later_in a n g r = record { from = omega (arith, r.from); below = omega (arith, r.below); doors = r.doors; makes = r.makes }

  split : (a n : ℕ) (g : Group) → Range rows D a (suc n) g → First a g ⊎ Range rows D (a + 1) n g
  split a n g r =
      ⊎_elim (λ (e : g.keys ≡ a). inl (r.doors ∙ ap (with_doors rows D) e, r.makes))
      (λ ne. inr (record { from = omega (arith, r.from); below = omega (arith, r.below); doors = r.doors; makes = r.makes })) (cases_eq g.keys a)

  range_listing : (a n : ℕ) → Listing (Range rows D a n) (ranged a n)
  range_listing a zero = none_listing (λ g r. omega (arith, r.from, r.below))
  range_listing a (suc n) =
      cond_both (makes_group rows (with_doors rows D a)) (with_doors rows D a ∷ ranged (a + 1) n) (ranged (a + 1) n) (Listing (Range rows D a (suc n)))
      (λ e. merge (with_doors rows D a ∷ []) (ranged (a + 1) n) (one_listing {P = First a} (with_doors rows D a) (refl, e) (λ h f. sym f.0)) (range_listing (a + 1) n)
      (λ g h f r. let k : g.keys ≡ a = ap (λ (z : Group). z.keys) f.0 in omega (arith, r.from)) (first_in a n) (later_in a n) (split a n))
      (λ e. relisted (ranged (a + 1) n) (range_listing (a + 1) n) (later_in a n)
      (λ g r. ⊎_elim (λ (f : First a g). absurd (true≢false (sym f.1 ∙ ap (makes_group rows) f.0 ∙ e))) (λ (q : Range rows D (a + 1) n g). q) (split a n g r)))

  pub groups_listing : Listing (IsGroup rows D) (groups_of rows D)
  unfolding groups_of
  groups_listing =
      relisted (ranged 1 (2 ^ length rows - 1)) (range_listing 1 (2 ^ length rows - 1))
      (λ g r. subst (IsGroup rows D) (sym r.doors) (made_group rows D g.keys r.from (omega (arith, r.below, pow_pos (length rows))) (ap (makes_group rows) (sym r.doors) ∙ r.makes)))
      (λ g p. record { from = p.some_key; below = omega (arith, p.keys_below); doors = group_with_doors rows D g p; makes = group_makes rows D g p })

  pub only_groups : (list : List Group) → Listing (IsGroup rows D) list → list ≡ groups_of rows D
  only_groups list l = only_listing list (groups_of rows D) l groups_listing

  -- the list says what is a group
  pub group_listed : (g : Group) → IsGroup rows D g → has group_before g (groups_of rows D) ≡ true
  group_listed = listing_has (groups_of rows D) groups_listing

  pub listed_group : (g : Group) → has group_before g (groups_of rows D) ≡ true → IsGroup rows D g
  listed_group = has_listed (groups_of rows D) groups_listing

  pub group_or_not : (g : Group) → IsGroup rows D g ⊎ (IsGroup rows D g → ⊥)
  group_or_not g =
      ⊎_elim (λ (h : has group_before g (groups_of rows D) ≡ true). inl (listed_group g h))
      (λ (h : has group_before g (groups_of rows D) ≡ false). inr (lacks_listed (groups_of rows D) groups_listing g h)) (cases_Bool (has group_before g (groups_of rows D)))
