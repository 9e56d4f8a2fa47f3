-- A change put into an ascending draft: its place by pair is its place among the changes.
use Rattle.std.proofs.Common.{◌≡◌, ℕ, ◌+◌, ◌-◌, ◌<◌, ◌≤◌, Bool, true, false, cond, ◌&&◌, ltb, leb, ◌⊎◌, List, [], ◌∷◌, ◌++◌, length, get_or, take, drop, Ok, Err, sym, refl, ap, ◌∙◌, subst, inl, inr, ⊎_elim, arith}
use Rattle.std.proofs.lemmas.List.{places, length-take-le, take-append-drop}
use Rattle.std.proofs.lemmas.Bool.{cases_order, cond-true, cond-false, or_parts}
use Rattle.std.proofs.lemmas.Bool.Decides.{nat_tests}
use Rattle.pairs.specs.declared.change.Change.{Change}
use Rattle.pairs.specs.Orders.{change_before, before_by_pair}
use Rattle.pairs.specs.Chains.{by_pair_chain, by_pair_irreflexive, by_pair_before}
use Rattle.table.specs.Rows.{Ascends, GoesAt, with_row}
use Rattle.table.specs.Sets.{tied, has, rank, one, placed}
use Rattle.table.proofs.Shifts.{row_ascends}
use Rattle.table.proofs.Places.{placed_goes}
use Rattle.batch.specs.Changes.{in_range, capacity_of, filled}

pub ascends_by_change : (xs : List Change) (n : ℕ) → Ascends before_by_pair xs n → Ascends change_before xs n
ascends_by_change xs n asc k d h = by_pair_before (get_or xs k d) (get_or xs (k + 1) d) (asc k d h)

-- a change of a pair that is not there
pub untied : (c y : Change) → tied before_by_pair c y ≡ false → (tied change_before c y ≡ false) × (change_before y c ≡ before_by_pair y c)
untied c y h = (grind (arith, nat_tests), grind (arith, nat_tests))

pub new_lacks : (c : Change) (cs : List Change) → has before_by_pair c cs ≡ false → has change_before c cs ≡ false
new_lacks c [] h = refl
new_lacks c (y ∷ ys) h =
    let p = or_parts (tied before_by_pair c y) (has before_by_pair c ys) h in
    let a = (untied c y p.0).0 in let r = new_lacks c ys p.1 in grind arith

new_rank : (c : Change) (cs : List Change) → has before_by_pair c cs ≡ false → rank change_before c cs ≡ rank before_by_pair c cs
new_rank c [] h = refl
new_rank c (y ∷ ys) h =
    let p = or_parts (tied before_by_pair c y) (has before_by_pair c ys) h in
    let e : one (change_before y c) ≡ one (before_by_pair y c) = ap one (untied c y p.0).1 in
    let r = new_rank c ys p.1 in omega arith

placed_err : (b : Bool) (r i : ℕ) → cond b (Ok r) (Err r) ≡ Err i → (b ≡ false) × (r ≡ i)
placed_err true r i e = cc
placed_err false r i e = (refl, cc)

-- where the pair goes, the change goes
pub new_placed : (c : Change) (cs : List Change) (at : ℕ) → placed before_by_pair c cs ≡ Err at → placed change_before c cs ≡ Err at
new_placed c cs at e =
    let p = placed_err (has before_by_pair c cs) (rank before_by_pair c cs) at e in
    cond-false _ _ _ (new_lacks c cs p.0) ∙ ap Err (new_rank c cs p.0 ∙ p.1)

-- ---- the memory after
module _ (xs : List Change) (n at : ℕ) (c : Change) (room : n < length xs) where
  row_of : at ≤ n → (k : ℕ) (d : Change) → k < n + 1 → (get_or (with_row xs n at c) k d ≡ c) ⊎ ((j : ℕ) × (j < n) × (get_or (with_row xs n at c) k d ≡ get_or xs j d))
  row_of small k d h = ⊎_elim
      (λ (q : k ≡ at). inl (grind (arith, places)))
      (λ (r : (k < at) ⊎ (at < k)). inr (⊎_elim (λ (q : k < at). (k, omega arith, grind (arith, places))) (λ (q : at < k). (k - 1, omega arith, grind (arith, places))) r))
      (cases_order k at)

  pub with_in_range : at ≤ n → in_range c ≡ true → ((k : ℕ) (d : Change) → k < n → in_range (get_or xs k d) ≡ true) → (k : ℕ) (d : Change) → k < n + 1 → in_range (get_or (with_row xs n at c) k d) ≡ true
  with_in_range small r f k d h = ⊎_elim
      (λ (e : get_or (with_row xs n at c) k d ≡ c). ap in_range e ∙ r)
      (λ (e : (j : ℕ) × (j < n) × (get_or (with_row xs n at c) k d ≡ get_or xs j d)). ap in_range e.2 ∙ f e.0 d e.1)
      (row_of small k d h)

-- a memory whose changes stay is as it was
pub filled_same : (xs : List Change) (n : ℕ) → n ≤ length xs → xs ≡ filled (take n xs) xs
filled_same xs n h = sym (ap (λ (z : ℕ). take n xs ++ drop z xs) (length-take-le n xs h) ∙ take-append-drop n xs)

-- ---- the memory once a change is in
module _ (xs ys : List Change) (n at : ℕ) (c : Change) (t : Bool) (within : n ≤ length xs) (asc : Ascends before_by_pair xs n)
    (room : length (take n xs) < capacity_of xs) (goes : placed before_by_pair c (take n xs) ≡ Err at)
    (test : t ≡ (leb at n && ltb n (length xs))) (after : ys ≡ cond t (with_row xs n at c) xs) where
  free : n < length xs
  free = let l = length-take-le n xs within in omega arith

  by_pair_goes : GoesAt before_by_pair xs n c at
  by_pair_goes = placed_goes before_by_pair by_pair_irreflexive by_pair_chain xs n c within asc at goes

  -- there is a free row, and the place is not past those in use, so the row is written
  pub puts : t ≡ true
  puts = let f = free in let g = by_pair_goes.0 in test ∙ grind (arith, nat_tests)

  written : ys ≡ with_row xs n at c
  written = after ∙ cond-true _ _ _ puts

  pub put_ascends : Ascends before_by_pair ys (n + 1)
  put_ascends = subst (λ (z : List Change). Ascends before_by_pair z (n + 1)) (sym written) (row_ascends before_by_pair xs n at c free asc by_pair_goes)

  pub put_in_range : in_range c ≡ true → ((k : ℕ) (d : Change) → k < n → in_range (get_or xs k d) ≡ true) → (k : ℕ) (d : Change) → k < n + 1 → in_range (get_or ys k d) ≡ true
  put_in_range range numbers k d h = ap (λ (z : List Change). in_range (get_or z k d)) written ∙ with_in_range xs n at c free by_pair_goes.0 range numbers k d h
