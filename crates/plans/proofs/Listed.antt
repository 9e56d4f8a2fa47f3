-- Lists of pairs, and the rows that they mean.
use Rattle.std.proofs.Common.{◌≡◌, ℕ, zero, suc, ◌+◌, ◌*◌, ◌%◌, ◌^◌, ◌<◌, ◌≤◌, Bool, true, false, cond, not, ◌&&◌, ◌||◌, ◌==◌, eqb, ltb, List, [], ◌∷◌, map, length, get_or, set, replicate, sym, refl, ap, ◌∙◌, ⊎_elim, arith, rules}
use lib.Bits.{bit_or}
use Rattle.std.specs.List.{range_with_len, fold}
use Rattle.std.proofs.lemmas.List.{get_or-set_same, get_or-set_other, length-set, ext_get_or}
use Rattle.std.proofs.lemmas.Bool.{cases_eq, cases_lt, cases_Bool, both_ways, cond_both, cond-true, cond-false, lt-ltb, eqb-false, eq-eqb, ne_eqb, not-true, not_from_false, and_parts, and_from, or_cases, or_left, or_right}
use Rattle.std.proofs.lemmas.Nat.{one_shl}
use Rattle.std.proofs.lemmas.Bool.Decides.{nat_tests}
use Rattle.masks.specs.Masks.{bit, has_bit, Has, joined, parted}
use Rattle.masks.proofs.Bitlaws.{bit_zero, bit_cases, below_has, same_sets}
use Rattle.masks.proofs.Joins.{has_true, true_has, has_false, or_joined, joined_lt, joined_same, joined_other, parted_same, parted_other}
use Rattle.pairs.specs.declared.pair.Pair.{Pair}
use Rattle.pairs.specs.Orders.{pair_before}
use Rattle.pairs.specs.Chains.{pair_chain}
use Rattle.table.specs.Sets.{tied, entered, struck}
use Rattle.table.proofs.Ups.{Up, has_entered, has_struck, tied_same}
use Rattle.groups.specs.Lists.{passing, addition, removal, permitted, withdrawn}
use Rattle.groups.proofs.Closures.{has_passing, passing_has}
use Rattle.plans.specs.Meaning.{inside, stands, keys_opening}
use Rattle.plans.specs.Pairs.{pair_of, listed, rows_of, doors_in, keys_in, all_inside}
use Rattle.plans.specs.declared.makes.PairPlan.{PairPlan}
use Rattle.plans.specs.Lents.{lent_keys, lent_doors, lent_pairs, row_at, row_past, rows_length, rows_below}
use Rattle.plans.proofs.Columns.{inside_parts, column_is}

-- ---- the order of pairs
pub irr : (x : Pair) → pair_before x x ≡ false
irr x = grind (arith, nat_tests)

pub total : (x y : Pair) → pair_before x y ≡ false → pair_before y x ≡ false → x ≡ y
total x y h k = search rules

tied_door : (k e : ℕ) (p : Pair) → p.key ≡ k → tied pair_before (pair_of k e) p ≡ eqb e p.door
tied_door k e p h = grind (arith, nat_tests)

apart_key : (k e : ℕ) (p : Pair) → (p.key ≡ k → ⊥) → tied pair_before (pair_of k e) p ≡ false
apart_key k e p h = grind (arith, nat_tests)

tied_key : (k d : ℕ) (p : Pair) → p.door ≡ d → tied pair_before (pair_of k d) p ≡ eqb k p.key
tied_key k d p h = grind (arith, nat_tests)

apart_door : (k d : ℕ) (p : Pair) → (p.door ≡ d → ⊥) → tied pair_before (pair_of k d) p ≡ false
apart_door k d p h = grind (arith, nat_tests)

-- ---- sets by tests that differ at one number
passing_same : (s t : ℕ → Bool) (n : ℕ) → ((i : ℕ) → s i ≡ t i) → passing s n ≡ passing t n
passing_same s t n e = same_sets (passing s n) (passing t n)
    (λ i h. let q = has_passing s n i h in passing_has t n i q.0 (sym (e i) ∙ q.1))
    (λ i h. let q = has_passing t n i h in passing_has s n i q.0 (e i ∙ q.1))

passing_joined : (s t : ℕ → Bool) (n j : ℕ) → j < n → ((i : ℕ) → s i ≡ (eqb i j || t i)) → passing s n ≡ joined (passing t n) j
passing_joined s t n j l e = same_sets (passing s n) (joined (passing t n) j)
    (λ i h. ⊎_elim
    (λ (p : i ≡ j). ap (bit (joined (passing t n) j)) p ∙ joined_same (passing t n) j)
    (λ (p : i ≡ j → ⊥). let q = has_passing s n i h in joined_other (passing t n) j i p ∙ passing_has t n i q.0 (sym (ap (λ b. b || t i) (ne_eqb i j p)) ∙ sym (e i) ∙ q.1))
    (cases_eq i j))
    (λ i h. ⊎_elim
    (λ (p : i ≡ j). passing_has s n i (omega arith) (e i ∙ or_left (eqb i j) (t i) (eq-eqb i j p)))
    (λ (p : i ≡ j → ⊥). let q = has_passing t n i (sym (joined_other (passing t n) j i p) ∙ h) in passing_has s n i q.0 (e i ∙ or_right (eqb i j) (t i) q.1))
    (cases_eq i j))

passing_parted : (s t : ℕ → Bool) (n j : ℕ) → ((i : ℕ) → s i ≡ (not (eqb i j) && t i)) → passing s n ≡ parted (passing t n) j
passing_parted s t n j e = same_sets (passing s n) (parted (passing t n) j)
    (λ i h.
    let q = has_passing s n i h in
    let a = and_parts (not (eqb i j)) (t i) (sym (e i) ∙ q.1) in
    parted_other (passing t n) j i (eqb-false i j (not-true (eqb i j) a.0)) ∙ passing_has t n i q.0 a.1)
    (λ i h. ⊎_elim
    (λ (p : i ≡ j). absurd (omega (arith, ap (bit (parted (passing t n) j)) p, parted_same (passing t n) j)))
    (λ (p : i ≡ j → ⊥). let q = has_passing t n i (sym (parted_other (passing t n) j i p) ∙ h) in passing_has s n i q.0 (e i ∙ and_from (not (eqb i j)) (t i) (not_from_false (eqb i j) (ne_eqb i j p)) q.1))
    (cases_eq i j))

-- ---- pairs within the sizes
pub listed_inside : (K D k d : ℕ) (ps : List Pair) → all_inside K D ps ≡ true → listed ps k d ≡ true → inside K D k d ≡ true
listed_inside K D k d [] a h = absurd (both_ways false refl h)
listed_inside K D k d (p ∷ ps) a h =
    let q = and_parts (inside K D p.key p.door) (all_inside K D ps) a in
    ⊎_elim
    (λ (t : tied pair_before (pair_of k d) p ≡ true). ap (λ (v : Pair). inside K D v.key v.door) (tied_same pair_before irr pair_chain total (pair_of k d) p t) ∙ q.0)
    (λ (t : listed ps k d ≡ true). listed_inside K D k d ps q.1 t)
    (or_cases (tied pair_before (pair_of k d) p) (listed ps k d) h)

pub inside_entered : (K D : ℕ) (p : Pair) (ps : List Pair) → inside K D p.key p.door ≡ true → all_inside K D ps ≡ true → all_inside K D (entered pair_before p ps) ≡ true
inside_entered K D p [] i a = and_from (inside K D p.key p.door) true i refl
inside_entered K D p (q ∷ ps) i a =
    let s = and_parts (inside K D q.key q.door) (all_inside K D ps) a in
    cond_both (pair_before p q) (p ∷ (q ∷ ps)) (cond (pair_before q p) (q ∷ entered pair_before p ps) (q ∷ ps)) (λ v. all_inside K D v ≡ true)
    (λ e. and_from (inside K D p.key p.door) (all_inside K D (q ∷ ps)) i a)
    (λ e. cond_both (pair_before q p) (q ∷ entered pair_before p ps) (q ∷ ps) (λ v. all_inside K D v ≡ true)
    (λ f. and_from (inside K D q.key q.door) (all_inside K D (entered pair_before p ps)) s.0 (inside_entered K D p ps i s.1)) (λ f. a))

pub inside_struck : (K D : ℕ) (p : Pair) (ps : List Pair) → all_inside K D ps ≡ true → all_inside K D (struck pair_before p ps) ≡ true
inside_struck K D p [] a = refl
inside_struck K D p (q ∷ ps) a =
    let s = and_parts (inside K D q.key q.door) (all_inside K D ps) a in
    cond_both (tied pair_before p q) ps (q ∷ struck pair_before p ps) (λ v. all_inside K D v ≡ true) (λ e. s.1)
    (λ e. and_from (inside K D q.key q.door) (all_inside K D (struck pair_before p ps)) s.0 (inside_struck K D p ps s.1))

pub inside_wide : (K D : ℕ) (ps : List Pair) → K ≤ 64 → D ≤ 64 → all_inside K D ps ≡ true → all_inside 64 64 ps ≡ true
inside_wide K D [] a b h = refl
inside_wide K D (p ∷ ps) a b h =
    let q = and_parts (inside K D p.key p.door) (all_inside K D ps) h in
    let i = inside_parts K D p.key p.door q.0 in
    and_from (inside 64 64 p.key p.door) (all_inside 64 64 ps) (and_from (ltb p.key 64) (ltb p.door 64) (lt-ltb p.key 64 (omega (arith, i.0))) (lt-ltb p.door 64 (omega (arith, i.1)))) (inside_wide K D ps a b q.1)

pub inside_at : (K D : ℕ) (ps : List Pair) (i : ℕ) (z : Pair) → i < length ps → all_inside K D ps ≡ true → ((get_or ps i z).key < K) × ((get_or ps i z).door < D)
inside_at K D [] i z l a = absurd (omega arith)
inside_at K D (p ∷ ps) zero z l a = inside_parts K D p.key p.door (and_parts (inside K D p.key p.door) (all_inside K D ps) a).0
inside_at K D (p ∷ ps) (suc i) z l a = inside_at K D ps i z (omega arith) (and_parts (inside K D p.key p.door) (all_inside K D ps) a).1

-- ---- the rows and the list
row_listed : (K D k d : ℕ) (ps : List Pair) → Has (get_or (rows_of K D ps) k 0) d → listed ps k d ≡ true
row_listed K D k d ps h = ⊎_elim
    (λ (l : k < K). (has_passing (λ e. listed ps k e) D d (sym (ap (λ (v : ℕ). bit v d) (row_at K D k ps l)) ∙ h)).1)
    (λ (l : K ≤ k). absurd (omega (arith, ap (λ (v : ℕ). bit v d) (row_past K D k ps l), bit_zero d)))
    (cases_lt k K)

pub lies_wide : (p : PairPlan) → all_inside 64 64 (lent_pairs p) ≡ true
lies_wide p = inside_wide (lent_keys p) (lent_doors p) (lent_pairs p) p.sizes.few_keys p.sizes.few_doors p.lies

module _ (K D : ℕ) (ps : List Pair) (lies : all_inside K D ps ≡ true) where
  listed_row : (k d : ℕ) → listed ps k d ≡ true → Has (get_or (rows_of K D ps) k 0) d
  listed_row k d h =
      let i = inside_parts K D k d (listed_inside K D k d ps lies h) in
      ap (λ (v : ℕ). bit v d) (row_at K D k ps i.0) ∙ passing_has (λ e. listed ps k e) D d i.1 h

  pub stands_listed : (k d : ℕ) → stands (rows_of K D ps) k d ≡ listed ps k d
  stands_listed k d = ⊎_elim
      (λ (t : listed ps k d ≡ true). has_true (get_or (rows_of K D ps) k 0) d (listed_row k d t) ∙ sym t)
      (λ (f : listed ps k d ≡ false). has_false (get_or (rows_of K D ps) k 0) d
      (⊎_elim (λ (h : Has (get_or (rows_of K D ps) k 0) d). absurd (both_ways (listed ps k d) f (row_listed K D k d ps h))) (λ z. z) (bit_cases (get_or (rows_of K D ps) k 0) d)) ∙ sym f)
      (cases_Bool (listed ps k d))

  module _ (ks : K ≤ 64) (ds : D ≤ 64) where
    pub doors_row : (k : ℕ) → doors_in k ps ≡ get_or (rows_of K D ps) k 0
    unfolding doors_in
    doors_row k = same_sets (doors_in k ps) (get_or (rows_of K D ps) k 0)
        (λ d h. listed_row k d (has_passing (λ e. listed ps k e) 64 d h).1)
        (λ d h. let t = row_listed K D k d ps h in
        passing_has (λ e. listed ps k e) 64 d (omega (arith, (inside_parts K D k d (listed_inside K D k d ps lies t)).1)) t)

    pub keys_column : (d : ℕ) → keys_in d ps ≡ keys_opening (rows_of K D ps) D d
    unfolding keys_in
    keys_column d = column_is (rows_of K D ps) D (rows_below K D ps) (keys_in d ps) d
        (λ k h. listed_row k d (has_passing (λ j. listed ps j d) 64 k h).1)
        (λ k h. let t = row_listed K D k d ps h in
        passing_has (λ j. listed ps j d) 64 k (omega (arith, (inside_parts K D k d (listed_inside K D k d ps lies t)).0)) t)

-- ---- a pair more, a pair less
module _ (K D : ℕ) (p : Pair) (ps : List Pair) (kK : p.key < K) where
  -- where the row of one key alone changes
  rows_by : (f : ℕ → ℕ → ℕ) (ys : List Pair) → passing (λ e. listed ys p.key e) D ≡ f (passing (λ e. listed ps p.key e) D) p.door
      → ((j : ℕ) → (j ≡ p.key → ⊥) → passing (λ e. listed ys j e) D ≡ passing (λ e. listed ps j e) D)
      → rows_of K D ys ≡ set (rows_of K D ps) p.key (f (get_or (rows_of K D ps) p.key 0) p.door)
  rows_by f ys same other =
      let k = p.key in
      let v = f (get_or (rows_of K D ps) k 0) p.door in
      let l = rows_length K D ps in
      let m = rows_length K D ys in
      ext_get_or 0 (rows_of K D ys) (set (rows_of K D ps) k v) (m ∙ sym (length-set (rows_of K D ps) k v ∙ l)) (λ j h. ⊎_elim
      (λ (q : j ≡ k). ap (λ (z : ℕ). get_or (rows_of K D ys) z 0) q ∙ row_at K D k ys kK ∙ same ∙ ap (λ (z : ℕ). f z p.door) (sym (row_at K D k ps kK)) ∙ sym (ap (λ (z : ℕ). get_or (set (rows_of K D ps) k v) z 0) q ∙ get_or-set_same (rows_of K D ps) k v 0 (omega arith)))
      (λ (n : j ≡ k → ⊥). row_at K D j ys (omega arith) ∙ other j n ∙ sym (get_or-set_other (rows_of K D ps) k j v 0 n ∙ row_at K D j ps (omega arith)))
      (cases_eq j k))

  pub rows_entered : p.door < D → rows_of K D (entered pair_before p ps) ≡ permitted (addition p.key p.door) (rows_of K D ps)
  rows_entered dD = rows_by joined (entered pair_before p ps)
      (passing_joined _ (λ e. listed ps p.key e) D p.door dD (λ e. has_entered pair_before irr pair_chain total (pair_of p.key e) p ps ∙ ap (λ t. t || listed ps p.key e) (tied_door p.key e p refl)))
      (λ j n. passing_same _ _ D (λ e. has_entered pair_before irr pair_chain total (pair_of j e) p ps ∙ ap (λ t. t || listed ps j e) (apart_key j e p (λ q. n (sym q)))))

  pub rows_struck : Up pair_before ps → rows_of K D (struck pair_before p ps) ≡ withdrawn (removal p.key p.door) (rows_of K D ps)
  rows_struck u = rows_by parted (struck pair_before p ps)
      (passing_parted _ (λ e. listed ps p.key e) D p.door (λ e. has_struck pair_before irr pair_chain total (pair_of p.key e) p ps u ∙ ap (λ t. not t && listed ps p.key e) (tied_door p.key e p refl)))
      (λ j n. passing_same _ _ D (λ e. has_struck pair_before irr pair_chain total (pair_of j e) p ps u ∙ ap (λ t. not t && listed ps j e) (apart_key j e p (λ q. n (sym q)))))

-- ---- no pairs
passing_none : (n : ℕ) → passing (λ i. false) n ≡ 0
passing_none zero = refl
passing_none (suc n) = passing_none n

pub rows_none : (K D : ℕ) → rows_of K D [] ≡ replicate K 0
rows_none K D = from K 0
  where
    from : (K a : ℕ) → map (λ (k : ℕ). passing (λ d. listed [] k d) D) (range_with_len a K) ≡ replicate K 0
    from zero a = refl
    from (suc K) a = ap (λ (v : ℕ). v ∷ map (λ (k : ℕ). passing (λ d. listed [] k d) D) (range_with_len (a + 1) K)) (passing_none D) ∙ ap (λ (z : List ℕ). 0 ∷ z) (from K (a + 1))

-- ---- the numbers that stand beside a number, gathered one after another onto a set
has_joined : (m j i : ℕ) → has_bit (joined m j) i ≡ (eqb i j || has_bit m i)
has_joined m j i = ⊎_elim
    (λ (q : i ≡ j). has_true (joined m j) i (ap (bit (joined m j)) q ∙ joined_same m j) ∙ sym (or_left (eqb i j) (has_bit m i) (eq-eqb i j q)))
    (λ (q : i ≡ j → ⊥). ap (λ (v : ℕ). v == 1) (joined_other m j i q) ∙ sym (ap (λ b. b || has_bit m i) (ne_eqb i j q)))
    (cases_eq i j)

or_turn : (a b c : Bool) → ((a || b) || c) ≡ (b || (a || c))
or_turn a b c = let p = cases_Bool a in let q = cases_Bool b in grind arith

module _ (near far : Pair → ℕ) (n : ℕ) (beside : List Pair → ℕ → Bool)
    (low : (p : Pair) → inside 64 64 p.key p.door ≡ true → far p < 64)
    (none : (i : ℕ) → beside [] i ≡ false)
    (on : (p : Pair) (ps : List Pair) (i : ℕ) → near p ≡ n → beside (p ∷ ps) i ≡ (eqb i (far p) || beside ps i))
    (off : (p : Pair) (ps : List Pair) (i : ℕ) → (near p ≡ n → ⊥) → beside (p ∷ ps) i ≡ beside ps i) where
  abbrev with_far : ℕ → Pair → ℕ
  with_far m p = bit_or m ((1 * 2 ^ far p) % 2 ^ 64)

  abbrev gather : ℕ → Pair → ℕ
  gather m p = cond (near p == n) (with_far m p) m

  far_joined : (m : ℕ) (p : Pair) → far p < 64 → with_far m p ≡ joined m (far p)
  far_joined m p h = ap (bit_or m) (one_shl (far p) 64 h) ∙ or_joined m (far p)

  gathered : (m : ℕ) (ps : List Pair) → m < 2 ^ 64 → all_inside 64 64 ps ≡ true
      → fold gather m ps ≡ passing (λ i. has_bit m i || beside ps i) 64
  gathered m [] l a = same_sets m (passing (λ i. has_bit m i || beside [] i) 64)
      (λ i h. passing_has (λ j. has_bit m j || beside [] j) 64 i (below_has 64 m i l h) (or_left (has_bit m i) (beside [] i) (has_true m i h)))
      (λ i h. ⊎_elim (λ (t : has_bit m i ≡ true). true_has m i t) (λ (t : beside [] i ≡ true). absurd (both_ways (beside [] i) (none i) t))
      (or_cases (has_bit m i) (beside [] i) (has_passing (λ j. has_bit m j || beside [] j) 64 i h).1))
  gathered m (p ∷ ps) l a =
      let q = and_parts (inside 64 64 p.key p.door) (all_inside 64 64 ps) a in
      let f = low p q.0 in
      ⊎_elim
      (λ (e : near p ≡ n).
      ap (λ (v : ℕ). fold gather v ps) (cond-true (near p == n) (with_far m p) m (eq-eqb (near p) n e) ∙ far_joined m p f)
      ∙ gathered (joined m (far p)) ps (joined_lt 64 m (far p) l f) q.1
      ∙ passing_same _ _ 64 (λ i. ap (λ b. b || beside ps i) (has_joined m (far p) i) ∙ or_turn (eqb i (far p)) (has_bit m i) (beside ps i) ∙ ap (λ b. has_bit m i || b) (sym (on p ps i e))))
      (λ (e : near p ≡ n → ⊥).
      ap (λ (v : ℕ). fold gather v ps) (cond-false (near p == n) (with_far m p) m (ne_eqb (near p) n e))
      ∙ gathered m ps l q.1
      ∙ passing_same _ _ 64 (λ i. ap (λ b. has_bit m i || b) (sym (off p ps i e))))
      (cases_eq (near p) n)

  gathered_all : (ps : List Pair) → all_inside 64 64 ps ≡ true → fold gather 0 ps ≡ passing (beside ps) 64
  gathered_all ps a = gathered 0 ps (omega arith) a ∙ passing_same _ _ 64 (λ i. ap (λ (v : ℕ). (v == 1) || beside ps i) (bit_zero i))

pub doors_gathered : (k : ℕ) (ps : List Pair) → all_inside 64 64 ps ≡ true → fold (λ m p. cond (p.key == k) (bit_or m ((1 * 2 ^ p.door) % 2 ^ 64)) m) 0 ps ≡ doors_in k ps
unfolding doors_in
doors_gathered k = gathered_all (λ p. p.key) (λ p. p.door) k (λ ps d. listed ps k d) (λ p i. (inside_parts 64 64 p.key p.door i).1) (λ i. refl)
    (λ p ps d e. ap (λ b. b || listed ps k d) (tied_door k d p e))
    (λ p ps d e. ap (λ b. b || listed ps k d) (apart_key k d p e))

pub keys_gathered : (d : ℕ) (ps : List Pair) → all_inside 64 64 ps ≡ true → fold (λ m p. cond (p.door == d) (bit_or m ((1 * 2 ^ p.key) % 2 ^ 64)) m) 0 ps ≡ keys_in d ps
unfolding keys_in
keys_gathered d = gathered_all (λ p. p.door) (λ p. p.key) d (λ ps k. listed ps k d) (λ p i. (inside_parts 64 64 p.key p.door i).0) (λ i. refl)
    (λ p ps k e. ap (λ b. b || listed ps k d) (tied_key k d p e))
    (λ p ps k e. ap (λ b. b || listed ps k d) (apart_door k d p e))
