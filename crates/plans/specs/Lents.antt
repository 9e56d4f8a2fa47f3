-- What a pair plan means, and that it is sound.
use Rattle.std.specs.Prelude.{◌≡◌, ℕ, ◌-◌, ◌^◌, ◌<◌, ◌≤◌, List, length, take, slice_index}
use Rattle.std.proofs.Common.{sym, subst, ⊎_elim, arith, pow_pos}
use Rattle.std.proofs.lemmas.List.FromFn.{length-map-range_with_len, get_or-map-range_with_len}
use Rattle.std.proofs.lemmas.List.{get_or_past}
use Rattle.std.proofs.lemmas.Bool.{cases_lt}
use Rattle.pairs.specs.declared.pair.Pair.{Pair}
use Rattle.groups.specs.Lists.{passing}
use Rattle.groups.proofs.Closures.{passing_lt}
use Rattle.plans.specs.declared.makes.PairPlan.{PairPlan}
use Rattle.plans.specs.Meaning.{Sound}
use Rattle.plans.specs.Pairs.{listed, rows_of, capacity}

abbrev pub lent_keys : PairPlan → ℕ
lent_keys p = p.sizes.keys

abbrev pub lent_doors : PairPlan → ℕ
lent_doors p = p.sizes.doors

-- the pairs, ascending
abbrev pub lent_pairs : PairPlan → List Pair
lent_pairs p = take p.count p.memory.now

abbrev pub lent_rows : PairPlan → List ℕ
lent_rows p = rows_of p.sizes.keys p.sizes.doors (lent_pairs p)

-- a place for each pair that the memory has room for and that is not there
abbrev pub lent_spare : PairPlan → ℕ
lent_spare p = capacity (length p.memory.now) - p.count

pub row_at : (K D k : ℕ) (ps : List Pair) → k < K → slice_index (rows_of K D ps) k ≡ passing (λ d. listed ps k d) D
row_at K D k ps h = get_or-map-range_with_len (λ j. passing (λ d. listed ps j d) D) 0 K k k 0 h (omega arith)

pub rows_length : (K D : ℕ) (ps : List Pair) → length (rows_of K D ps) ≡ K
rows_length K D ps = length-map-range_with_len (λ j. passing (λ d. listed ps j d) D) 0 K

pub row_past : (K D k : ℕ) (ps : List Pair) → K ≤ k → slice_index (rows_of K D ps) k ≡ 0
row_past K D k ps h = get_or_past (rows_of K D ps) k 0 (omega (arith, rows_length K D ps))

pub rows_below : (K D : ℕ) (ps : List Pair) (k : ℕ) → slice_index (rows_of K D ps) k < 2 ^ D
rows_below K D ps k = ⊎_elim
    (λ (h : k < K). subst (λ (v : ℕ). v < 2 ^ D) (sym (row_at K D k ps h)) (passing_lt (λ d. listed ps k d) D))
    (λ (h : K ≤ k). subst (λ (v : ℕ). v < 2 ^ D) (sym (row_past K D k ps h)) (pow_pos D))
    (cases_lt k K)

pub lent_sound : (p : PairPlan) → Sound (lent_keys p) (lent_doors p) (lent_rows p)
lent_sound p =
    let s = p.sizes in
    record {
      some_key = s.some_key;
      few_keys = s.few_keys;
      some_door = s.some_door;
      few_doors = s.few_doors;
      long = rows_length s.keys s.doors (lent_pairs p);
      below = rows_below s.keys s.doors (lent_pairs p);
    }

pub lent_few : (p : PairPlan) → lent_spare p ≤ 4096
lent_few p = omega arith
