-- Where a search begins: all keys that open the doors that the keys of `base` share.
use Rattle.std.proofs.Common.{◌≡◌, ℕ, ◌-◌, ◌^◌, ◌<◌, ◌≤◌, List, [], length, subst, inl, inr, ⊎_elim, arith}
use lib.Bits.{bit_and, bit_or, or_lt}
use Rattle.std.proofs.lemmas.Bool.{cases_eq}
use Rattle.masks.specs.Masks.{bit, Has, Within, first_set}
use Rattle.masks.proofs.Bitlaws.{and_has, has_or, or_has, none_has, below_has, has_below, full_has}
use Rattle.masks.proofs.Joins.{first_has, first_only}
use Rattle.groups.specs.declared.group.Group.{Group}
use Rattle.groups.specs.Plans.{Listing}
use Rattle.groups.proofs.Listings.{none_listing, relisted, only_listing}
use Rattle.search.specs.Nodes.{Shares, Closes, IsNode, Reads, Unmarked}
use Rattle.search.specs.Parts.{scope_list}
use Rattle.search.proofs.Closings.{all_below, all_open, all_keys, some_from, some_to}
use Rattle.search.proofs.Peels.{has_zero}
use Rattle.search.proofs.Scopes.{Scope, scope_listing, test_apart}
use Rattle.search.proofs.Steps.{has_less, less_has}

module _ (rows cols watched : List ℕ) (D base off n : ℕ) (long : length rows ≡ 64) (wide : length watched ≡ 64) (reads : Reads rows cols D) (few : D ≤ 64)
    (shared : Shares rows (first_set D) (Has base) n) where
  abbrev lists : ℕ → List Group
  lists y = scope_list rows D watched y off

  listing : (y : ℕ) → Listing (Scope rows D watched y off) (lists y)
  listing y = scope_listing rows D watched long wide y off

  door_below : (d : ℕ) → Has n d → d < D
  door_below d h = let l = first_only D d (shared.before d h) in omega arith

  inside : (g : Group) → Scope rows D watched base off g → Within g.doors n
  inside g s d h =
      let l = below_has D g.doors d s.group.doors_below h in
      shared.all d (first_has D d (omega arith)) (λ k hk. s.group.shared k d (s.has k hk) h)

  pub no_doors : n ≡ 0 → lists base ≡ []
  no_doors e =
      only_listing (lists base) [] (listing base)
      (none_listing (λ g s.
      let z = none_has g.doors (λ d h. has_zero d (subst (λ (v : ℕ). Has v d) e (inside g s d h))) in
      omega (arith, s.group.some_door)))

  module _ (c s : ℕ) (small : base < 2 ^ 64) (closes : Closes cols n c s) where
    base_in : Within base c
    base_in k h = all_keys reads door_below closes k (below_has 64 base k small h) (λ d hd. shared.in_all d k hd h)

    to_c : (g : Group) → Scope rows D watched base off g → Scope rows D watched c off g
    to_c g t =
        record {
          group = t.group;
          has = λ k h.
              let l = all_below reads door_below closes k h in
              t.group.keys_all k (omega arith) (λ d hd. all_open reads door_below closes k d h (inside g t d hd));
          lacks = t.lacks;
          marked = t.marked;
        }

    pub same_lists : lists base ≡ lists c
    same_lists =
        only_listing (lists base) (lists c) (listing base)
        (relisted (lists c) (listing c) (λ g t. record { group = t.group; has = λ k h. t.has k (base_in k h); lacks = t.lacks; marked = t.marked }) to_c)

    pub meets_out : (bit_and c off ≡ 0 → ⊥) → lists base ≡ []
    meets_out ne =
        only_listing (lists base) [] (listing base)
        (none_listing (λ g t. ne (none_has (bit_and c off) (λ k h. let q = and_has c off k h in t.lacks k q.1 ((to_c g t).has k q.0)))))

    module _ (m : ℕ) (marks : Shares watched (2 ^ 64 - 1) (Has c) m) where
      pub no_marks : m ≡ 0 → lists base ≡ []
      no_marks e =
          only_listing (lists base) [] (listing base)
          (none_listing (λ g t. has_zero t.marked.0 (subst (λ (v : ℕ). Has v t.marked.0) e
          (marks.all t.marked.0 (full_has 64 t.marked.0 t.marked.1) (λ k h. t.marked.2 k ((to_c g t).has k h))))))

      module _ (off_small : off < 2 ^ 64) (some : n ≡ 0 → ⊥) (apart : bit_and c off ≡ 0) (mark : m ≡ 0 → ⊥) where
        abbrev left : ℕ
        left = bit_and s (2 ^ 64 - 1 - bit_or c off)

        held_small : bit_or c off < 2 ^ 64
        held_small = or_lt 64 c off (has_below 64 c (all_below reads door_below closes)) off_small

        left_small : (k : ℕ) → Has left k → k < 64
        left_small k h = below_has 64 (2 ^ 64 - 1 - bit_or c off) k (omega arith) (and_has s (2 ^ 64 - 1 - bit_or c off) k h).1

        left_is : (k : ℕ) → Has left k → Has s k × (Has (bit_or c off) k → ⊥)
        left_is k h = less_has s (bit_or c off) k held_small (left_small k h) h

        pub start_node : IsNode rows cols watched D c off n m left
        start_node =
            record {
              long = long;
              reads = reads;
              few = omega arith;
              some_door = omega arith;
              doors_below = door_below;
              keys_below = all_below reads door_below closes;
              shared = all_open reads door_below closes;
              doors_all = λ d l all. shared.all d (first_has D d (omega arith)) (λ k h. all k (base_in k h));
              keys_all = all_keys reads door_below closes;
              apart = test_apart c off apart;
              marked = marks;
              some_mark = omega arith;
              mark_fits = has_below 64 m (λ b h. below_has 64 (2 ^ 64 - 1) b (omega arith) (marks.before b h));
              watch_long = wide;
              free_below = left_small;
              free_apart = λ k h e. (left_is k h).1 (has_or c off k (inl e));
              free_opens = λ k h. some_from reads door_below closes k (left_is k h).0;
              decided = λ k l.
                  ⊎_elim (λ (e : Has c k). inl e)
                  (λ nc. ⊎_elim (λ (e : Has off k). inr (inl e))
                  (λ no-off. ⊎_elim (λ (e : Has s k). inr (inr (inl (has_less s (bit_or c off) k held_small l e (λ q. ⊎_elim nc no-off (or_has c off k q))))))
                  (λ ns. inr (inr (inr (λ d h o. ns (some_to reads door_below closes k d h o))))) (cases_eq (bit s k) 1))
                  (cases_eq (bit off k) 1))
                  (cases_eq (bit c k) 1);
            }

      -- keys that share no mark with those at hand are in no group of the list
      module _ (bare set : ℕ) (un : Unmarked watched m set bare) where
        bare_out : (g : Group) → Scope rows D watched c off g → Scope rows D watched c (bit_or off bare) g
        bare_out g t =
            record {
              group = t.group;
              has = t.has;
              lacks = λ k h hk.
                  ⊎_elim (λ (o : Has off k). t.lacks k o hk)
                  (λ (o : Has bare k).
                  let b = t.marked.0 in
                  un.bare k b o (marks.all b (full_has 64 b t.marked.1) (λ i hi. t.marked.2 i (t.has i hi))) (t.marked.2 k hk))
                  (or_has off bare k h);
              marked = t.marked;
            }

        pub bare_list : lists c ≡ scope_list rows D watched c (bit_or off bare)
        bare_list =
            only_listing (lists c) (scope_list rows D watched c (bit_or off bare)) (listing c)
            (relisted (scope_list rows D watched c (bit_or off bare)) (scope_listing rows D watched long wide c (bit_or off bare))
            (λ g t. record { group = t.group; has = t.has; lacks = λ k o hk. t.lacks k (has_or off bare k (inl o)) hk; marked = t.marked }) bare_out)

-- what is apart from both is apart from both together
pub apart_both : (c off bare s : ℕ) → c < 2 ^ 64 → bit_and c off ≡ 0 → ((k : ℕ) → Has bare k → Has (bit_and s (2 ^ 64 - 1 - c)) k) → bit_and c (bit_or off bare) ≡ 0
apart_both c off bare s small e part =
    none_has (bit_and c (bit_or off bare)) (λ k h.
    let q = and_has c (bit_or off bare) k h in
    ⊎_elim (λ (o : Has off k). test_apart c off e k q.0 o)
    (λ (o : Has bare k). let l = below_has 64 c k small q.0 in (less_has s c k small l (part k o)).1 q.0) (or_has off bare k q.1))
