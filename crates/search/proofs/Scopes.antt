-- What the search lists at each of its states.
use Rattle.std.proofs.Common.{◌≡◌, ℕ, ◌^◌, ◌<◌, true, ◌&&◌, eqb, List, length, get_or, subst, arith}
use lib.Bits.{bit_and}
use lib.Count.{count_trailing_zeros}
use Rattle.std.proofs.lemmas.Bool.{and_parts, and_from, not-true, not_from_false, eqb-true, eqb-false, eq-eqb, ne_eqb}
use Rattle.masks.specs.Masks.{Has, Within, is_within}
use Rattle.masks.proofs.Bitlaws.{has_and, and_has, none_has, below_has, lowest_has}
use Rattle.masks.proofs.Joins.{test_within, within_passes}
use Rattle.groups.specs.declared.group.Group.{Group}
use Rattle.groups.specs.Lists.{opened_by_all, shared_doors, groups_of}
use Rattle.groups.specs.Plans.{IsGroup, Listing}
use Rattle.groups.proofs.Closures.{passing_lt, shared_door, door_shared}
use Rattle.groups.proofs.Listings.{relisted}
use Rattle.groups.proofs.Wholes.{groups_listing}
use Rattle.search.specs.Parts.{share_a_bit, in_scope, scope_list}
use Rattle.search.proofs.Kept.{kept_listing}
use Rattle.search.proofs.Peels.{has_zero}

-- a mask that is not 0 has a number
pub some_bit : (x : ℕ) → x < 2 ^ 64 → (x ≡ 0 → ⊥) → (i : ℕ) × Has x i
some_bit x h n = (count_trailing_zeros 64 x, lowest_has 64 x h (omega arith))

-- bit b is in the row of every key of x
abbrev pub Marks : List ℕ → ℕ → ℕ → Type 0
Marks watched x b = (k : ℕ) → Has x k → Has (get_or watched k 0) b

pub shares_marks : (watched : List ℕ) (x : ℕ) → length watched ≡ 64 → x < 2 ^ 64 → share_a_bit watched x ≡ true → (b : ℕ) × (b < 64) × Marks watched x b
shares_marks watched x l h t =
    let v : ℕ = shared_doors watched 64 x in
    let s = some_bit v (passing_lt (opened_by_all watched x) 64) (eqb-false v 0 (not-true (eqb v 0) t)) in
    let q = shared_door watched 64 x s.0 s.1 in
    (s.0, q.0, λ k hk. q.1 k (let b = below_has 64 x k h hk in omega arith) hk)

pub marks_share : (watched : List ℕ) (x b : ℕ) → b < 64 → Marks watched x b → share_a_bit watched x ≡ true
marks_share watched x b l f =
    let v : ℕ = shared_doors watched 64 x in
    let h : Has v b = door_shared watched 64 x b l (λ k _ hk. f k hk) in
    not_from_false (eqb v 0) (ne_eqb v 0 (λ e. has_zero b (subst (λ (u : ℕ). Has u b) e h)))

pub apart_test : (off x : ℕ) → ((k : ℕ) → Has off k → Has x k → ⊥) → eqb (bit_and off x) 0 ≡ true
apart_test off x f = eq-eqb (bit_and off x) 0 (none_has (bit_and off x) (λ k h. let q = and_has off x k h in f k q.0 q.1))

pub test_apart : (off x : ℕ) → bit_and off x ≡ 0 → (k : ℕ) → Has off k → Has x k → ⊥
test_apart off x e k p q = has_zero k (subst (λ (v : ℕ). Has v k) e (has_and off x k p q))

-- the groups that have all keys of x and none of `off`, and for whose keys the rows of `watched` share a bit
pub record Scope (rows : List ℕ) (D : ℕ) (watched : List ℕ) (x off : ℕ) (g : Group) : Type 0 where
  pub group : IsGroup rows D g
  pub has : Within x g.keys
  pub lacks : (k : ℕ) → Has off k → Has g.keys k → ⊥
  pub marked : (b : ℕ) × (b < 64) × Marks watched g.keys b

module _ (rows : List ℕ) (D : ℕ) (watched : List ℕ) (long : length rows ≡ 64) (wide : length watched ≡ 64) where
  pub fits : (g : Group) → IsGroup rows D g → g.keys < 2 ^ 64
  fits g p = subst (λ (n : ℕ). g.keys < 2 ^ n) long p.keys_below

  pub scope_listing : (x off : ℕ) → Listing (Scope rows D watched x off) (scope_list rows D watched x off)
  unfolding scope_list
  scope_listing x off =
      relisted (scope_list rows D watched x off) (kept_listing (in_scope watched x off) (groups_of rows D) (groups_listing rows D))
      (λ g p.
      let t = and_parts (is_within x g.keys) (eqb (bit_and off g.keys) 0 && share_a_bit watched g.keys) p.1 in
      let u = and_parts (eqb (bit_and off g.keys) 0) (share_a_bit watched g.keys) t.1 in
      record {
        group = p.0;
        has = test_within x g.keys t.0;
        lacks = test_apart off g.keys (eqb-true (bit_and off g.keys) 0 u.0);
        marked = shares_marks watched g.keys wide (fits g p.0) u.1;
      })
      (λ g s. (
        s.group,
        and_from (is_within x g.keys) (eqb (bit_and off g.keys) 0 && share_a_bit watched g.keys) (within_passes x g.keys s.has)
            (and_from (eqb (bit_and off g.keys) 0) (share_a_bit watched g.keys) (apart_test off g.keys s.lacks)
            (marks_share watched g.keys s.marked.0 s.marked.1 s.marked.2)),
      ))
