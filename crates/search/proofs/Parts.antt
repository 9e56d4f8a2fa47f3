-- What stands in the lists of the groups with a property of their keys.
use Rattle.std.proofs.Common.{ℕ, ◌^◌, ◌<◌, ◌≤◌, ◌&&◌, List, length, sym, ap, ◌∙◌, arith, pow_mono}
use Rattle.std.proofs.lemmas.Bool.{and_parts, and_from}
use Rattle.masks.specs.Masks.{bit, Within, is_within}
use Rattle.masks.proofs.Bitlaws.{below_has}
use Rattle.masks.proofs.Joins.{test_within, within_passes}
use Rattle.groups.specs.declared.group.Group.{Group}
use Rattle.groups.specs.Lists.{groups_of}
use Rattle.groups.specs.Plans.{IsGroup, Listing}
use Rattle.groups.proofs.Listings.{relisted}
use Rattle.groups.proofs.Wholes.{groups_listing}
use Rattle.search.specs.Parts.{padded_rows, share_a_bit, groups_between_of, groups_watched_of}
use Rattle.search.proofs.Columns.{padded_length, padded_at}
use Rattle.search.proofs.Kept.{kept_listing}
use Rattle.search.proofs.Scopes.{Marks, shares_marks, marks_share}

-- the groups that have all keys of `base`, and only keys of `wide`
pub record Between (rows : List ℕ) (D base wide : ℕ) (g : Group) : Type 0 where
  pub group : IsGroup rows D g
  pub has : Within base g.keys
  pub only : Within g.keys wide

-- the groups that have all keys of `base`, and for whose keys some bit is in all rows of `watched`
pub record Watched (rows : List ℕ) (D base : ℕ) (watched : List ℕ) (g : Group) : Type 0 where
  pub group : IsGroup rows D g
  pub has : Within base g.keys
  pub marked : (b : ℕ) × (b < 64) × Marks watched g.keys b

pub between_listing : (rows : List ℕ) (D base wide : ℕ) → Listing (Between rows D base wide) (groups_between_of rows D base wide)
unfolding groups_between_of
between_listing rows D base wide =
    relisted (groups_between_of rows D base wide)
    (kept_listing (λ g. is_within base g.keys && is_within g.keys wide) (groups_of rows D) (groups_listing rows D))
    (λ g p. let t = and_parts (is_within base g.keys) (is_within g.keys wide) p.1 in
    record { group = p.0; has = test_within base g.keys t.0; only = test_within g.keys wide t.1 })
    (λ g p. (p.group, and_from (is_within base g.keys) (is_within g.keys wide) (within_passes base g.keys p.has) (within_passes g.keys wide p.only)))

module _ (rows : List ℕ) (D base : ℕ) (watched : List ℕ) (few : length rows ≤ 64) where
  small : (g : Group) → IsGroup rows D g → g.keys < 2 ^ 64
  small g p = omega (arith, p.keys_below, pow_mono few)

  pub watched_listing : Listing (Watched rows D base watched) (groups_watched_of rows D base watched)
  unfolding groups_watched_of
  watched_listing =
      relisted (groups_watched_of rows D base watched)
      (kept_listing (λ g. is_within base g.keys && share_a_bit (padded_rows watched) g.keys) (groups_of rows D) (groups_listing rows D))
      (λ g p.
      let t = and_parts (is_within base g.keys) (share_a_bit (padded_rows watched) g.keys) p.1 in
      let m = shares_marks (padded_rows watched) g.keys (padded_length watched) (small g p.0) t.1 in
      record {
        group = p.0;
        has = test_within base g.keys t.0;
        marked = (m.0, m.1, λ k h. ap (λ (v : ℕ). bit v m.0) (sym (padded_at watched k (below_has 64 g.keys k (small g p.0) h))) ∙ m.2 k h);
      })
      (λ g p. (
        p.group,
        and_from (is_within base g.keys) (share_a_bit (padded_rows watched) g.keys) (within_passes base g.keys p.has)
            (marks_share (padded_rows watched) g.keys p.marked.0 p.marked.1
            (λ k h. ap (λ (v : ℕ). bit v p.marked.0) (padded_at watched k (below_has 64 g.keys k (small g p.group) h)) ∙ p.marked.2 k h)),
      ))
