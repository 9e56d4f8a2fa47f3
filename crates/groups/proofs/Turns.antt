-- A plan turned, keys for doors, and its groups.
use Rattle.std.proofs.Common.{◌≡◌, ℕ, ◌^◌, ◌<◌, List, length, get_or, sym, subst, arith}
use Rattle.std.proofs.lemmas.List.FromFn.{length-map-range_with_len, get_or-map-range_with_len}
use Rattle.masks.specs.Masks.{Has, has_bit}
use Rattle.masks.proofs.Bitlaws.{below_has}
use Rattle.masks.proofs.Joins.{has_true, true_has}
use Rattle.groups.specs.declared.group.Group.{Group}
use Rattle.groups.specs.Lists.{passing, columns}
use Rattle.groups.specs.Plans.{IsGroup, Turned, flip}
use Rattle.groups.proofs.Closures.{has_passing, passing_has}

module _ (rows : List ℕ) (D : ℕ) where
  -- the keys that open door d
  abbrev pub column : ℕ → ℕ
  column d = passing (λ k. has_bit (get_or rows k 0) d) (length rows)

  pub column_at : (d : ℕ) → d < D → get_or (columns rows D) d 0 ≡ column d
  unfolding columns
  column_at d l = get_or-map-range_with_len column 0 D d d 0 l (omega arith)

  columns_length : length (columns rows D) ≡ D
  unfolding columns
  columns_length = length-map-range_with_len column 0 D

  pub columns_turned : Turned rows (columns rows D) D
  columns_turned =
      record {
        long = columns_length;
        to = λ k d lk ld o. subst (λ (v : ℕ). Has v k) (sym (column_at d ld)) (passing_has (λ i. has_bit (get_or rows i 0) d) (length rows) k lk (has_true (get_or rows k 0) d o));
        from = λ k d lk ld o. true_has (get_or rows k 0) d (has_passing (λ i. has_bit (get_or rows i 0) d) (length rows) k (subst (λ (v : ℕ). Has v k) (column_at d ld) o)).1;
      }

module _ {rows cols : List ℕ} {D : ℕ} (t : Turned rows cols D) where
  pub turned_group : (g : Group) → IsGroup rows D g → IsGroup cols (length rows) (flip g)
  turned_group g p =
      let ki : (k : ℕ) → Has g.keys k → k < length rows = λ k h. below_has (length rows) g.keys k p.keys_below h in
      let di : (d : ℕ) → Has g.doors d → d < D = λ d h. below_has D g.doors d p.doors_below h in
      record {
        keys_below = subst (λ (n : ℕ). g.doors < 2 ^ n) (sym t.long) p.doors_below;
        doors_below = p.keys_below;
        some_key = p.some_door;
        some_door = p.some_key;
        shared = λ d k hd hk. t.to k d (ki k hk) (di d hd) (p.shared k d hk hd);
        doors_all = λ k lk all. p.keys_all k lk (λ d hd. t.from k d lk (di d hd) (all d hd));
        keys_all = λ d ld all.
            let ld' : d < D = omega (arith, t.long) in
            p.doors_all d ld' (λ k hk. t.from k d (ki k hk) ld' (all k hk));
      }

  pub group_turned : (g : Group) → IsGroup cols (length rows) g → IsGroup rows D (flip g)
  group_turned g p =
      let ki : (d : ℕ) → Has g.keys d → d < D = λ d h. let l = below_has (length cols) g.keys d p.keys_below h in omega (arith, t.long) in
      let di : (k : ℕ) → Has g.doors k → k < length rows = λ k h. below_has (length rows) g.doors k p.doors_below h in
      record {
        keys_below = p.doors_below;
        doors_below = subst (λ (n : ℕ). g.keys < 2 ^ n) t.long p.keys_below;
        some_key = p.some_door;
        some_door = p.some_key;
        shared = λ k d hk hd. t.from k d (di k hk) (ki d hd) (p.shared d k hd hk);
        doors_all = λ d ld all.
            p.keys_all d (omega (arith, t.long)) (λ k hk. t.to k d (di k hk) ld (all k hk));
        keys_all = λ k lk all. p.doors_all k lk (λ d hd. t.to k d lk (ki d hd) (all d hd));
      }
