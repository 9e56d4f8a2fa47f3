-- Sets by a test, the doors that a set of keys shares, and when the two make a group.
use Rattle.std.proofs.Common.{◌≡◌, ℕ, zero, suc, ◌^◌, ◌<◌, Bool, true, false, not, ◌||◌, eqb, List, length, get_or, Decides, sym, refl, ap, ◌∙◌, subst, ⊎_elim, arith}
use Rattle.std.proofs.lemmas.Bool.{cases_eq, cond_both, and_parts, and_from, not-true, not_from_false, eqb-true, eqb-false, eq-eqb, ne_eqb, true≢false}
use Rattle.std.proofs.lemmas.Bool.Decides.{Decides-below_and}
use Rattle.masks.specs.Masks.{bit, Has, Within, has_bit, is_within, joined}
use Rattle.masks.proofs.Bitlaws.{bit_zero, below_has, has_below, same_sets}
use Rattle.masks.proofs.Joins.{has_true, true_has, joined_same, joined_other, test_within, within_passes}
use Rattle.groups.specs.declared.group.Group.{Group}
use Rattle.groups.specs.Lists.{passing, all_below, opened_by_all, shared_doors, shared_keys, with_doors, makes_group}
use Rattle.groups.specs.Plans.{Opens, IsGroup}
use Rattle.groups.proofs.Orders.{same_group}

-- ---- sets by a test

pub has_passing : (test : ℕ → Bool) (n i : ℕ) → Has (passing test n) i → (i < n) × (test i ≡ true)
has_passing test zero i = λ h. absurd (omega (arith, bit_zero i))
has_passing test (suc n) i =
    cond_both (test n) (joined (passing test n) n) (passing test n) (λ v. Has v i → (i < suc n) × (test i ≡ true))
    (λ e h. ⊎_elim (λ (q : i ≡ n). (omega arith, ap test q ∙ e))
    (λ ne. let r = has_passing test n i (sym (joined_other (passing test n) n i ne) ∙ h) in (let l = r.0 in omega arith, r.1)) (cases_eq i n))
    (λ e h. let r = has_passing test n i h in (let l = r.0 in omega arith, r.1))

pub passing_has : (test : ℕ → Bool) (n i : ℕ) → i < n → test i ≡ true → Has (passing test n) i
passing_has test zero i l t = absurd (omega arith)
passing_has test (suc n) i l t =
    cond_both (test n) (joined (passing test n) n) (passing test n) (λ v. Has v i)
    (λ e. ⊎_elim (λ (q : i ≡ n). ap (bit (joined (passing test n) n)) q ∙ joined_same (passing test n) n)
    (λ ne. joined_other (passing test n) n i ne ∙ passing_has test n i (omega arith) t) (cases_eq i n))
    (λ e. ⊎_elim (λ (q : i ≡ n). absurd (true≢false (sym t ∙ ap test q ∙ e))) (λ ne. passing_has test n i (omega arith) t) (cases_eq i n))

pub passing_lt : (test : ℕ → Bool) (n : ℕ) → passing test n < 2 ^ n
passing_lt test n = has_below n (passing test n) (λ i h. (has_passing test n i h).0)

-- ---- the doors that the keys of x share

then_from : (a b : Bool) → (not a || b) ≡ true → a ≡ true → b ≡ true
then_from true b h e = h
then_from false b h e = absurd (true≢false (sym e))

then_to : (a b : Bool) → (a ≡ true → b ≡ true) → (not a || b) ≡ true
then_to true b f = f refl
then_to false b f = refl

module _ (rows : List ℕ) (x d : ℕ) where
  abbrev opens_if : ℕ → Bool
  opens_if k = not (has_bit x k) || has_bit (get_or rows k 0) d

  abbrev OpensIf : ℕ → Type 0
  OpensIf k = Has x k → Opens rows k d

  each : (k : ℕ) → Decides (opens_if k) (OpensIf k)
  each k = (
    λ e h. true_has (get_or rows k 0) d (then_from (has_bit x k) (has_bit (get_or rows k 0) d) e (has_true x k h)),
    λ f. then_to (has_bit x k) (has_bit (get_or rows k 0) d) (λ e. has_true (get_or rows k 0) d (f (true_has x k e))),
  )

  pub opened_decides : Decides (opened_by_all rows x d) ((k : ℕ) → k < length rows → Has x k → Opens rows k d)
  opened_decides = Decides-below_and opens_if OpensIf (all_below opens_if) each refl (λ _. refl) (length rows)

module _ (rows : List ℕ) (D x : ℕ) where
  pub shared_door : (d : ℕ) → Has (shared_doors rows D x) d → (d < D) × ((k : ℕ) → k < length rows → Has x k → Opens rows k d)
  shared_door d h = let r = has_passing (opened_by_all rows x) D d h in (r.0, (opened_decides rows x d).0 r.1)

  pub door_shared : (d : ℕ) → d < D → ((k : ℕ) → k < length rows → Has x k → Opens rows k d) → Has (shared_doors rows D x) d
  door_shared d l all = passing_has (opened_by_all rows x) D d l ((opened_decides rows x d).1 all)

module _ (rows : List ℕ) (y : ℕ) where
  pub shared_key : (k : ℕ) → Has (shared_keys rows y) k → (k < length rows) × Within y (get_or rows k 0)
  shared_key k h = let r = has_passing (λ i. is_within y (get_or rows i 0)) (length rows) k h in (r.0, test_within y (get_or rows k 0) r.1)

  pub key_shared : (k : ℕ) → k < length rows → Within y (get_or rows k 0) → Has (shared_keys rows y) k
  key_shared k l w = passing_has (λ i. is_within y (get_or rows i 0)) (length rows) k l (within_passes y (get_or rows k 0) w)

-- ---- which sets of keys make a group

positive : (n : ℕ) → eqb n 0 ≡ false → 0 < n
positive n e = let z : n ≡ 0 → ⊥ = eqb-false n 0 e in omega arith

pub made_group : (rows : List ℕ) (D x : ℕ) → 0 < x → x < 2 ^ length rows → makes_group rows (with_doors rows D x) ≡ true → IsGroup rows D (with_doors rows D x)
made_group rows D x p l m =
    let y = shared_doors rows D x in
    let t = and_parts (not (eqb y 0)) (eqb (shared_keys rows y) x) m in
    let e : shared_keys rows y ≡ x = eqb-true (shared_keys rows y) x t.1 in
    record {
      keys_below = l;
      doors_below = passing_lt (opened_by_all rows x) D;
      some_key = p;
      some_door = positive y (not-true (eqb y 0) t.0);
      shared = λ k d hk hd. (shared_door rows D x d hd).1 k (below_has (length rows) x k l hk) hk;
      doors_all = λ d ld all. door_shared rows D x d ld (λ k _ hk. all k hk);
      keys_all = λ k lk all. subst (λ (v : ℕ). Has v k) e (key_shared rows y k lk all);
    }

module _ (rows : List ℕ) (D : ℕ) (g : Group) (p : IsGroup rows D g) where
  -- its doors are those that its keys share, and its keys are those that share its doors
  pub group_doors : g.doors ≡ shared_doors rows D g.keys
  group_doors =
      same_sets g.doors (shared_doors rows D g.keys)
      (λ d h. door_shared rows D g.keys d (below_has D g.doors d p.doors_below h) (λ k _ hk. p.shared k d hk h))
      (λ d h. let r = shared_door rows D g.keys d h in p.doors_all d r.0 (λ k hk. r.1 k (below_has (length rows) g.keys k p.keys_below hk) hk))

  pub group_keys : shared_keys rows g.doors ≡ g.keys
  group_keys =
      same_sets (shared_keys rows g.doors) g.keys
      (λ k h. let r = shared_key rows g.doors k h in p.keys_all k r.0 r.1)
      (λ k h. key_shared rows g.doors k (below_has (length rows) g.keys k p.keys_below h) (λ d hd. p.shared k d h hd))

  pub group_with_doors : g ≡ with_doors rows D g.keys
  group_with_doors = same_group g (with_doors rows D g.keys) refl group_doors

  pub group_makes : makes_group rows g ≡ true
  group_makes =
      and_from (not (eqb g.doors 0)) (eqb (shared_keys rows g.doors) g.keys)
      (not_from_false (eqb g.doors 0) (ne_eqb g.doors 0 (λ e. let q = p.some_door in omega arith)))
      (eq-eqb (shared_keys rows g.doors) g.keys group_keys)
