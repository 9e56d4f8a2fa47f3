-- A binary search by pair ends where the pair stands under either mark, or where it would go.
use Rattle.std.proofs.Common.{◌≡◌, ℕ, ◌+◌, ◌≤◌, Bool, true, false, ◌||◌, List, [], ◌∷◌, length, get_or, take, Ok, Err, Result, sym, refl, ap, ◌∙◌, arith}
use Rattle.std.specs.declared.cmp.Ordering.{Ordering}
use Rattle.std.specs.declared.cmp.Ordering.TheVariants.{Less, Equal, Greater}
use Rattle.std.specs.Ordering.{nat_cmp, ordering_then, ordering_index, is_lt}
use Rattle.std.specs.Cmp.{IsTotalOrder}
use Rattle.std.specs.List.Sorted.{IsBinarySearchResult, IsNonDecreasingBy, IsSearchInRange}
use Rattle.std.proofs.lemmas.Cmp.{nat_cmp_total, on_total, then_total}
use Rattle.std.proofs.lemmas.List.{get_or-take, get_or_default, length-take-le}
use Rattle.std.proofs.lemmas.List.Sorted.{searchable_from_sorted}
use Rattle.std.proofs.lemmas.Bool.Decides.{nat_tests}
use Rattle.pairs.specs.declared.change.Change.{Change}
use Rattle.pairs.specs.Orders.{before_by_pair}
use Rattle.pairs.specs.Chains.{by_pair_chain, by_pair_irreflexive}
use Rattle.table.specs.Rows.{Ascends}
use Rattle.table.specs.Sets.{tied, has, rank, one, placed}
use Rattle.table.proofs.Places.{found_here, goes_here}

-- the order of pairs as the search compares them
abbrev pub pair_of : Change → ℕ × ℕ
pair_of c = (c.key, c.door)

abbrev pub pair_cmp : ℕ × ℕ → ℕ × ℕ → Ordering
pair_cmp a b = ordering_then (nat_cmp a.0 b.0) (nat_cmp a.1 b.1)

pair_total : IsTotalOrder pair_cmp
pair_total = then_total (on_total (λ (p : ℕ × ℕ). p.0) nat_cmp_total) (on_total (λ (p : ℕ × ℕ). p.1) nat_cmp_total)

less_before : (a b : Change) → pair_cmp (pair_of a) (pair_of b) ≡ Less → before_by_pair a b ≡ true
less_before a b h = grind (arith, nat_tests)

greater_before : (a b : Change) → pair_cmp (pair_of a) (pair_of b) ≡ Greater → before_by_pair b a ≡ true
greater_before a b h = grind (arith, nat_tests)

before_no_less : (a b : Change) → before_by_pair a b ≡ true → is_lt (pair_cmp (pair_of b) (pair_of a)) ≡ false
before_no_less a b h = grind (arith, nat_tests)

equal_pair : (a b : Change) → pair_cmp (pair_of a) (pair_of b) ≡ Equal → (a.key ≡ b.key) × (a.door ≡ b.door)
equal_pair a b h = (grind (arith, nat_tests), grind (arith, nat_tests))

-- where a pair stands does not depend on the mark
abbrev change : ℕ → ℕ → Bool → Change
change k d m = record { key = k; door = d; added = m }

mark_has : (k d : ℕ) (a b : Bool) (cs : List Change) → has before_by_pair (change k d a) cs ≡ has before_by_pair (change k d b) cs
mark_has k d a b [] = refl
mark_has k d a b (y ∷ ys) = ap (λ (z : Bool). tied before_by_pair (change k d a) y || z) (mark_has k d a b ys)

mark_rank : (k d : ℕ) (a b : Bool) (cs : List Change) → rank before_by_pair (change k d a) cs ≡ rank before_by_pair (change k d b) cs
mark_rank k d a b [] = refl
mark_rank k d a b (y ∷ ys) = ap (λ (z : ℕ). one (before_by_pair y (change k d a)) + z) (mark_rank k d a b ys)

same_placed : (a b : Change) (cs : List Change) → (a.key ≡ b.key) × (a.door ≡ b.door) → placed before_by_pair a cs ≡ placed before_by_pair b cs
same_placed a b cs e =
    let h = mark_has b.key b.door a.added b.added cs in
    let r = mark_rank b.key b.door a.added b.added cs in
    ap (λ (k : ℕ). placed before_by_pair (change k a.door a.added) cs) e.0
    ∙ (ap (λ (d : ℕ). placed before_by_pair (change b.key d a.added) cs) e.1 ∙ cc)

module _ (xs : List Change) (n : ℕ) (c : Change) (within : n ≤ length xs) (asc : Ascends before_by_pair xs n) where
  rising : IsNonDecreasingBy (λ y. ordering_index (pair_cmp (pair_of y) (pair_of c))) (take n xs)
  rising = searchable_from_sorted pair_total pair_of (take n xs) (pair_of c) (λ k d l h.
      let m = length-take-le n xs within in
      before_no_less (get_or (take n xs) k d) (get_or (take n xs) (k + 1) d) (ap (λ (z : Change). before_by_pair z (get_or (take n xs) (k + 1) d)) (get_or-take n xs k d (omega arith))
      ∙ (ap (before_by_pair (get_or xs k d)) (get_or-take n xs (k + 1) d (omega arith)) ∙ asc k d (omega arith))))

  pub search_placed : (r : Result ℕ ℕ) → IsSearchInRange r (length (take n xs)) → IsBinarySearchResult (λ y. pair_cmp (pair_of y) (pair_of c)) (take n xs) r
      → r ≡ placed before_by_pair c (take n xs)
  search_placed (Ok i) l here =
      let m = length-take-le n xs within in
      let row = get_or xs i c in
      let e = equal_pair row c (ap (λ (z : Change). pair_cmp (pair_of z) (pair_of c)) (sym (get_or-take n xs i c (omega arith))) ∙ here c) in
      found_here before_by_pair by_pair_irreflexive by_pair_chain xs n row i (omega arith, λ d. get_or_default xs i d c (omega arith)) (omega arith) asc
      ∙ same_placed row c (take n xs) e
  search_placed (Err i) l parted =
      let m = length-take-le n xs within in
      let p = parted rising in
      goes_here before_by_pair by_pair_irreflexive by_pair_chain xs n c i (omega arith) (omega arith)
      (λ k d h. ap (λ (z : Change). before_by_pair z c) (sym (get_or-take n xs k d (omega arith))) ∙ less_before (get_or (take n xs) k d) c (p.0 k d (omega arith) h))
      (λ k d h g q. ap (before_by_pair c) (sym (get_or-take n xs k d g)) ∙ greater_before (get_or (take n xs) k d) c (p.1 k d h (omega arith)))
