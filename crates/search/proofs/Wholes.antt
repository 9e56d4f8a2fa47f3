-- A plan and the same plan with 64 rows have the same groups, and what the search lists of the one is what is wanted of the other.
use Rattle.std.proofs.Common.{◌≡◌, ℕ, ◌-◌, ◌^◌, ◌<◌, ◌≤◌, Bool, true, false, ◌&&◌, eqb, List, length, take, filter, sym, refl, ap, ◌∙◌, subst, ⊎_elim, arith, length-take, pow_mono}
use lib.Bits.{bit_and, and_zero_l}
use lib.Count.{count_trailing_zeros}
use Rattle.std.proofs.lemmas.List.{get_or-replicate}
use Rattle.std.proofs.lemmas.Bool.{eqb-true, eq-eqb, and_from}
use Rattle.std.proofs.lemmas.Bool.Decides.{same_from_decides}
use Rattle.masks.specs.Masks.{bit, Has, Within, is_within}
use Rattle.masks.proofs.Bitlaws.{bit_cases, bit_not, below_has, has_below, full_has, lowest_has}
use Rattle.masks.proofs.Joins.{test_within, within_passes}
use Rattle.groups.specs.declared.group.Group.{Group}
use Rattle.groups.specs.Lists.{groups_of}
use Rattle.groups.specs.Plans.{Opens, IsGroup}
use Rattle.groups.proofs.Listings.{relisted, only_listing}
use Rattle.groups.proofs.Wholes.{groups_listing}
use Rattle.search.specs.Parts.{padded_rows, ones_rows, share_a_bit, in_scope, scope_list, groups_between_of, groups_watched_of}
use Rattle.search.proofs.Columns.{padded_length, same_row, has_row}
use Rattle.search.proofs.Kept.{kept_listing}
use Rattle.search.proofs.Peels.{has_zero}
use Rattle.search.proofs.Scopes.{marks_share, apart_test, test_apart}

module _ (rows : List ℕ) (D : ℕ) where
  abbrev few : List ℕ
  few = take 64 rows

  abbrev all : List ℕ
  all = padded_rows rows

  few_length : length few ≤ 64
  few_length = omega (arith, length-take 64 rows)

  to_all : (k d : ℕ) → Opens few k d → Opens all k d
  to_all k d h = ap (λ (v : ℕ). bit v d) (same_row rows k) ∙ h

  to_few : (k d : ℕ) → Opens all k d → Opens few k d
  to_few k d h = ap (λ (v : ℕ). bit v d) (sym (same_row rows k)) ∙ h

  a_door : {r : List ℕ} (g : Group) → IsGroup r D g → Has g.doors (count_trailing_zeros D g.doors)
  a_door g p = lowest_has D g.doors p.doors_below p.some_door

  widened : (g : Group) → IsGroup few D g → IsGroup all D g
  widened g p =
      record {
        keys_below = omega (arith, p.keys_below, pow_mono (let l : length few ≤ length all = omega (arith, padded_length rows, few_length) in l));
        doors_below = p.doors_below;
        some_key = p.some_key;
        some_door = p.some_door;
        shared = λ k d hk hd. to_all k d (p.shared k d hk hd);
        doors_all = λ d l f. p.doors_all d l (λ k hk. to_few k d (f k hk));
        keys_all = λ k l f. p.keys_all k (has_row few k _ (to_few k _ (f _ (a_door g p)))) (λ d hd. to_few k d (f d hd));
      }

  narrowed : (g : Group) → IsGroup all D g → IsGroup few D g
  narrowed g p =
      record {
        keys_below = has_below (length few) g.keys (λ k hk. has_row few k _ (to_few k _ (p.shared k _ hk (a_door g p))));
        doors_below = p.doors_below;
        some_key = p.some_key;
        some_door = p.some_door;
        shared = λ k d hk hd. to_few k d (p.shared k d hk hd);
        doors_all = λ d l f. p.doors_all d l (λ k hk. to_all k d (f k hk));
        keys_all = λ k l f. p.keys_all k (omega (arith, padded_length rows, few_length)) (λ d hd. to_all k d (f d hd));
      }

  small : (g : Group) → IsGroup all D g → g.keys < 2 ^ 64
  small g p = subst (λ (n : ℕ). g.keys < 2 ^ n) (padded_length rows) p.keys_below

  -- two tests that agree on the groups keep the same
  same_kept : (t u : Group → Bool) → ((g : Group) → IsGroup all D g → t g ≡ u g) → filter t (groups_of all D) ≡ filter u (groups_of few D)
  same_kept t u e =
      only_listing (filter t (groups_of all D)) (filter u (groups_of few D)) (kept_listing t (groups_of all D) (groups_listing all D))
      (relisted (filter u (groups_of few D)) (kept_listing u (groups_of few D) (groups_listing few D))
      (λ g p. let q = widened g p.0 in (q, e g q ∙ p.1)) (λ g p. (narrowed g p.0, sym (e g p.0) ∙ p.1)))

  -- every key shares a bit where every bit is set
  ones_share : (x : ℕ) → x < 2 ^ 64 → share_a_bit ones_rows x ≡ true
  ones_share x h =
      marks_share ones_rows x 0 (omega arith)
      (λ k hk. subst (λ (v : ℕ). Has v 0) (sym (get_or-replicate 64 k (2 ^ 64 - 1) 0 (below_has 64 x k h hk))) (full_has 64 0 (omega arith)))

  none_within : (x : ℕ) → is_within 0 x ≡ true
  none_within x = within_passes 0 x (λ k h. absurd (has_zero k h))

  none_out : (x : ℕ) → eqb (bit_and 0 x) 0 ≡ true
  none_out x = eq-eqb (bit_and 0 x) 0 (and_zero_l x)

  pub all_scope : scope_list all D ones_rows 0 0 ≡ groups_of few D
  unfolding scope_list
  all_scope =
      only_listing (scope_list all D ones_rows 0 0) (groups_of few D) (kept_listing (in_scope ones_rows 0 0) (groups_of all D) (groups_listing all D))
      (relisted (groups_of few D) (groups_listing few D)
      (λ g p. let q = widened g p in (
        q,
        and_from (is_within 0 g.keys) (eqb (bit_and 0 g.keys) 0 && share_a_bit ones_rows g.keys) (none_within g.keys)
            (and_from (eqb (bit_and 0 g.keys) 0) (share_a_bit ones_rows g.keys) (none_out g.keys) (ones_share g.keys (small g q))),
      ))
      (λ g p. narrowed g p.0))

  pub watched_scope : (base : ℕ) (watched : List ℕ) → scope_list all D (padded_rows watched) base 0 ≡ groups_watched_of few D base watched
  unfolding scope_list groups_watched_of
  watched_scope base watched =
      same_kept (in_scope (padded_rows watched) base 0) (λ g. is_within base g.keys && share_a_bit (padded_rows watched) g.keys)
      (λ g p. ap (λ (b : Bool). is_within base g.keys && (b && share_a_bit (padded_rows watched) g.keys)) (none_out g.keys))

  -- none of `!wide` is only of `wide`
  outside : (wide x : ℕ) → wide < 2 ^ 64 → x < 2 ^ 64 → eqb (bit_and (2 ^ 64 - 1 - wide) x) 0 ≡ is_within x wide
  outside wide x h l =
      same_from_decides {P = Within x wide} (eqb (bit_and (2 ^ 64 - 1 - wide) x) 0) (is_within x wide) (
        λ e k hk. ⊎_elim (λ (q : Has wide k). q)
            (λ (q : bit wide k ≡ 0). absurd (test_apart (2 ^ 64 - 1 - wide) x (eqb-true (bit_and (2 ^ 64 - 1 - wide) x) 0 e) k (omega (arith, bit_not 64 wide k h (below_has 64 x k l hk))) hk)) (bit_cases wide k),
        λ w. apart_test (2 ^ 64 - 1 - wide) x (λ k p hk. let q = w k hk in absurd (omega (arith, bit_not 64 wide k h (below_has 64 x k l hk)))),
      )
      (test_within x wide, within_passes x wide)

  pub between_scope : (base wide : ℕ) → wide < 2 ^ 64 → scope_list all D ones_rows base (2 ^ 64 - 1 - wide) ≡ groups_between_of few D base wide
  unfolding scope_list groups_between_of
  between_scope base wide h =
      same_kept (in_scope ones_rows base (2 ^ 64 - 1 - wide)) (λ g. is_within base g.keys && is_within g.keys wide)
      (λ g p.
      ap (λ (b : Bool). is_within base g.keys && b)
      (ap (λ (b : Bool). eqb (bit_and (2 ^ 64 - 1 - wide) g.keys) 0 && b) (ones_share g.keys (small g p)) ∙ and_true (eqb (bit_and (2 ^ 64 - 1 - wide) g.keys) 0)
      ∙ outside wide g.keys h (small g p)))
    where
      and_true : (b : Bool) → (b && true) ≡ b
      and_true true = refl
      and_true false = refl
