-- A draft with room takes the changes of a file without a fault, one after the other, and they are a good batch.
use Rattle.std.proofs.Common.{◌≡◌, ℕ, ◌+◌, ◌<◌, ◌≤◌, Bool, true, false, cond, ◌&&◌, eqb, ltb, List, [], ◌∷◌, ◌++◌, length, Ok, sym, refl, ◌∙◌, arith}
use Rattle.std.proofs.lemmas.List.{length-append}
use Rattle.std.proofs.lemmas.Bool.{cond-true, cond-false, cond_both, lt-ltb, ltb-true, or_from, or_parts}
use Rattle.std.proofs.lemmas.Bool.Decides.{nat_tests}
use Rattle.pairs.specs.declared.change.Change.{Change}
use Rattle.pairs.specs.Orders.{change_before, before_by_pair}
use Rattle.pairs.specs.Chains.{change_irreflexive, change_chain, change_total, by_pair_chain}
use Rattle.table.specs.Sets.{tied, has, entered, all_entered}
use Rattle.table.proofs.Ups.{Below, Up, length_entered}
use Rattle.batch.specs.Changes.{in_range, put_answer}
use Rattle.batch.proofs.Puts.{untied, new_lacks}
use Rattle.weekly.specs.Body.{pair_number, pair_ok, pairs_fault, apart_fault, both_fault}
use Rattle.weekly.specs.Marks.{marked, TakenAll}
use Rattle.weekly.proofs.Goods.{cond_ok, cond_not, then_ok}

abbrev row_number : Change → ℕ
row_number c = pair_number c.key c.door

-- ---- the pairs of a body
abbrev pub Ranged : List Change → Type 0
Ranged [] = Unit {0}
Ranged (c ∷ cs) = (in_range c ≡ true) × Ranged cs

-- each has numbers below 64, and is not below `low`
abbrev From : ℕ → List Change → Type 0
From low [] = Unit {0}
From low (c ∷ cs) = (low ≤ row_number c) × From low cs

ok_range : (low : ℕ) (c : Change) → pair_ok low c.key c.door ≡ true → in_range c ≡ true
ok_range low c e = grind (arith, nat_tests)

ok_from : (low : ℕ) (c : Change) → pair_ok low c.key c.door ≡ true → low ≤ row_number c
ok_from low c e = grind (arith, nat_tests)

from_less : (low lower : ℕ) (cs : List Change) → lower ≤ low → From low cs → From lower cs
from_less low lower [] h f = tt
from_less low lower (c ∷ cs) h f = (let l = f.0 in omega arith, from_less low lower cs h f.1)

pub pairs_ranged : (b : Bool) (low place : ℕ) (bs : List ℕ) → pairs_fault low place bs ≡ Ok tt → Ranged (marked b bs)
unfolding pairs_fault marked
pairs_ranged b low place [] e = tt
pairs_ranged b low place (k ∷ []) e = tt
pairs_ranged b low place (k ∷ d ∷ rest) e =
    let p = cond_ok (pair_ok low k d) _ _ e in
    (ok_range low (record { key = k; door = d; added = b }) p.0, pairs_ranged b (pair_number k d + 1) (place + 2) rest p.1)

pairs_from : (b : Bool) (low place : ℕ) (bs : List ℕ) → pairs_fault low place bs ≡ Ok tt → From low (marked b bs)
unfolding pairs_fault marked
pairs_from b low place [] e = tt
pairs_from b low place (k ∷ []) e = tt
pairs_from b low place (k ∷ d ∷ rest) e =
    let p = cond_ok (pair_ok low k d) _ _ e in
    let l = ok_from low (record { key = k; door = d; added = b }) p.0 in
    (l, from_less (pair_number k d + 1) low (marked b rest) (omega arith) (pairs_from b (pair_number k d + 1) (place + 2) rest p.1))

above_before : (c x : Change) → in_range c ≡ true → in_range x ≡ true → row_number c + 1 ≤ row_number x → before_by_pair c x ≡ true
above_before c x p q h = grind (arith, nat_tests)

from_below : (c : Change) (cs : List Change) → in_range c ≡ true → Ranged cs → From (row_number c + 1) cs → Below before_by_pair c cs
from_below c [] p r f = tt
from_below c (x ∷ cs) p r f = (above_before c x p r.0 f.0, from_below c cs p r.1 f.1)

pub pairs_up : (b : Bool) (low place : ℕ) (bs : List ℕ) → pairs_fault low place bs ≡ Ok tt → Up before_by_pair (marked b bs)
unfolding pairs_fault marked
pairs_up b low place [] e = tt
pairs_up b low place (k ∷ []) e = tt
pairs_up b low place (k ∷ d ∷ rest) e =
    let p = cond_ok (pair_ok low k d) _ _ e in
    let n : ℕ = pair_number k d + 1 in
    let c : Change = record { key = k; door = d; added = b } in
    (from_below c (marked b rest) (ok_range low c p.0) (pairs_ranged b n (place + 2) rest p.1) (pairs_from b n (place + 2) rest p.1), pairs_up b n (place + 2) rest p.1)

-- ---- no pair twice
-- none of the changes is of the pair of c
abbrev Apart : Change → List Change → Type 0
Apart c [] = Unit {0}
Apart c (x ∷ xs) = (tied before_by_pair x c ≡ false) × Apart c xs

abbrev Distinct : List Change → Type 0
Distinct [] = Unit {0}
Distinct (c ∷ cs) = Apart c cs × Distinct cs

before_apart : (c x : Change) → before_by_pair c x ≡ true → tied before_by_pair x c ≡ false
before_apart c x h = grind (arith, nat_tests)

below_apart : (c : Change) (cs : List Change) → Below before_by_pair c cs → Apart c cs
below_apart c [] b = tt
below_apart c (x ∷ cs) b = (before_apart c x b.0, below_apart c cs b.1)

up_distinct : (cs : List Change) → Up before_by_pair cs → Distinct cs
up_distinct [] u = tt
up_distinct (c ∷ cs) u = (below_apart c cs u.0, up_distinct cs u.1)

other_pair : (k d x y : ℕ) (b m : Bool) → (eqb x k && eqb y d) ≡ false → tied before_by_pair (record { key = x; door = y; added = m }) (record { key = k; door = d; added = b }) ≡ false
other_pair k d x y b m e = grind (arith, nat_tests)

apart_from : (k d place : ℕ) (b : Bool) (rs : List ℕ) → apart_fault k d place rs ≡ Ok tt → Apart (record { key = k; door = d; added = b }) (marked false rs)
unfolding apart_fault marked
apart_from k d place b [] e = tt
apart_from k d place b (x ∷ []) e = tt
apart_from k d place b (x ∷ y ∷ rest) e = let p = cond_not (eqb x k && eqb y d) _ _ e in (other_pair k d x y b false p.0, apart_from k d (place + 2) b rest p.1)

apart_append : (c : Change) (xs ys : List Change) → Apart c xs → Apart c ys → Apart c (xs ++ ys)
apart_append c [] ys p q = q
apart_append c (x ∷ xs) ys p q = (p.0, apart_append c xs ys p.1 q)

both_distinct : (place : ℕ) (rs xs : List ℕ) → both_fault place rs xs ≡ Ok tt → Distinct (marked true xs) → Distinct (marked false rs) → Distinct (marked true xs ++ marked false rs)
unfolding both_fault marked
both_distinct place rs [] e p q = q
both_distinct place rs (k ∷ []) e p q = q
both_distinct place rs (k ∷ d ∷ rest) e p q =
    let s = then_ok (apart_fault k d place rs) (both_fault place rs rest) tt e in
    (apart_append (record { key = k; door = d; added = true }) (marked true rest) (marked false rs) p.0 (apart_from k d place true rs s.0), both_distinct place rs rest s.1 p.1 q)

ranged_append : (xs ys : List Change) → Ranged xs → Ranged ys → Ranged (xs ++ ys)
ranged_append [] ys p q = q
ranged_append (x ∷ xs) ys p q = (p.0, ranged_append xs ys p.1 q)

-- ---- each is taken in its turn
-- none of the changes stands in the draft under either mark
abbrev New : List Change → List Change → Type 0
New [] cs = Unit {0}
New (x ∷ xs) cs = (has before_by_pair x cs ≡ false) × New xs cs

lacks_entered : (y x : Change) (cs : List Change) → tied before_by_pair y x ≡ false → has before_by_pair y cs ≡ false → has before_by_pair y (entered change_before x cs) ≡ false
lacks_entered y x [] t h = or_from _ _ t refl
lacks_entered y x (c ∷ cs) t h =
    let p = or_parts (tied before_by_pair y c) (has before_by_pair y cs) h in
    cond_both (change_before x c) (x ∷ (c ∷ cs)) (cond (change_before c x) (c ∷ entered change_before x cs) (c ∷ cs)) (λ v. has before_by_pair y v ≡ false)
    (λ e. or_from _ _ t h)
    (λ e. cond_both (change_before c x) (c ∷ entered change_before x cs) (c ∷ cs) (λ v. has before_by_pair y v ≡ false) (λ f. or_from _ _ p.0 (lacks_entered y x cs t p.1)) (λ f. h))

new_entered : (x : Change) (xs cs : List Change) → Apart x xs → New xs cs → New xs (entered change_before x cs)
new_entered x [] cs a n = tt
new_entered x (y ∷ xs) cs a n = (lacks_entered y x cs a.0 n.0, new_entered x xs cs a.1 n.1)

new_none : (xs : List Change) → New xs []
new_none [] = tt
new_none (x ∷ xs) = (refl, new_none xs)

taken_new : (c : Change) (cs : List Change) (capacity : ℕ) → in_range c ≡ true → has before_by_pair c cs ≡ false → length cs < capacity → put_answer cs capacity c ≡ Ok tt
taken_new c cs capacity r h l = cond-true _ _ _ r ∙ (cond-false _ _ _ h ∙ cond-true _ _ _ (lt-ltb (length cs) capacity l))

taken_from : (xs cs : List Change) (capacity : ℕ) → Ranged xs → Distinct xs → New xs cs → length cs + length xs ≤ capacity → TakenAll xs cs capacity
taken_from [] cs capacity r d n l = tt
taken_from (x ∷ xs) cs capacity r d n l =
    let m = length_entered change_before change_irreflexive change_chain change_total x cs (new_lacks x cs n.0) in
    (taken_new x cs capacity r.0 n.0 (omega arith), taken_from xs (entered change_before x cs) capacity r.1 d.1 (new_entered x xs cs d.0 n.1) (omega arith))

pub bodies_taken : (place p q capacity : ℕ) (xs rs : List ℕ) → pairs_fault 0 p xs ≡ Ok tt → pairs_fault 0 q rs ≡ Ok tt → both_fault place rs xs ≡ Ok tt
    → length (marked true xs) + length (marked false rs) ≤ capacity → TakenAll (marked true xs ++ marked false rs) [] capacity
bodies_taken place p q capacity xs rs a b c l =
    taken_from (marked true xs ++ marked false rs) [] capacity (ranged_append _ _ (pairs_ranged true 0 p xs a) (pairs_ranged false 0 q rs b))
    (both_distinct place rs xs c (up_distinct _ (pairs_up true 0 p xs a)) (up_distinct _ (pairs_up false 0 q rs b))) (new_none _)
    (omega (arith, length-append (marked true xs) (marked false rs)))

-- ---- what is taken is a good batch
answer_taken : (c : Change) (cs : List Change) (capacity : ℕ) → put_answer cs capacity c ≡ Ok tt → (in_range c ≡ true) × (has before_by_pair c cs ≡ false) × (length cs < capacity)
answer_taken c cs capacity e =
    let p = cond_ok (in_range c) _ _ e in let q = cond_not (has before_by_pair c cs) _ _ p.1 in let r = cond_ok (ltb (length cs) capacity) _ _ q.1 in
    (p.0, q.0, ltb-true (length cs) capacity r.0)

below_new : (y x : Change) (cs : List Change) → before_by_pair y x ≡ true → Below before_by_pair y cs → Below before_by_pair y (entered change_before x cs)
below_new y x [] h b = (h, tt)
below_new y x (c ∷ cs) h b =
    cond_both (change_before x c) (x ∷ (c ∷ cs)) (cond (change_before c x) (c ∷ entered change_before x cs) (c ∷ cs)) (Below before_by_pair y) (λ e. (h, b))
    (λ e. cond_both (change_before c x) (c ∷ entered change_before x cs) (c ∷ cs) (Below before_by_pair y) (λ f. (b.0, below_new y x cs h b.1)) (λ f. b))

below_chain : (x y : Change) (cs : List Change) → before_by_pair x y ≡ true → Below before_by_pair y cs → Below before_by_pair x cs
below_chain x y [] h b = tt
below_chain x y (c ∷ cs) h b = (by_pair_chain x y c h b.0, below_chain x y cs h b.1)

turned : (x y : Change) → tied before_by_pair x y ≡ false → change_before x y ≡ before_by_pair x y
turned x y h = grind (arith, nat_tests)

up_new : (x : Change) (cs : List Change) → has before_by_pair x cs ≡ false → Up before_by_pair cs → Up before_by_pair (entered change_before x cs)
up_new x [] h u = (tt, tt)
up_new x (c ∷ cs) h u =
    let p = or_parts (tied before_by_pair x c) (has before_by_pair x cs) h in
    cond_both (change_before x c) (x ∷ (c ∷ cs)) (cond (change_before c x) (c ∷ entered change_before x cs) (c ∷ cs)) (Up before_by_pair)
    (λ e. let g = sym (turned x c p.0) ∙ e in ((g, below_chain x c cs g u.0), u))
    (λ e. cond_both (change_before c x) (c ∷ entered change_before x cs) (c ∷ cs) (Up before_by_pair) (λ f. (below_new c x cs (sym (untied x c p.0).1 ∙ f) u.0, up_new x cs p.1 u.1)) (λ f. u))

ranged_entered : (x : Change) (cs : List Change) → in_range x ≡ true → Ranged cs → Ranged (entered change_before x cs)
ranged_entered x [] p r = (p, tt)
ranged_entered x (c ∷ cs) p r =
    cond_both (change_before x c) (x ∷ (c ∷ cs)) (cond (change_before c x) (c ∷ entered change_before x cs) (c ∷ cs)) Ranged (λ e. (p, r))
    (λ e. cond_both (change_before c x) (c ∷ entered change_before x cs) (c ∷ cs) Ranged (λ f. (r.0, ranged_entered x cs p r.1)) (λ f. r))

pub record Batch (cs : List Change) (capacity : ℕ) : Type 0 where
  pub up : Up before_by_pair cs
  pub ranged : Ranged cs
  pub few : length cs ≤ capacity

pub taken_batch : (xs cs : List Change) (capacity : ℕ) → TakenAll xs cs capacity → Batch cs capacity → Batch (all_entered change_before xs cs) capacity
taken_batch [] cs capacity t b = b
taken_batch (x ∷ xs) cs capacity t b =
    let a = answer_taken x cs capacity t.0 in
    let m = length_entered change_before change_irreflexive change_chain change_total x cs (new_lacks x cs a.1) in
    taken_batch xs (entered change_before x cs) capacity t.1 (record { up = up_new x cs a.1 b.up; ranged = ranged_entered x cs a.0 b.ranged; few = let l = a.2 in omega arith })

pub entered_few : (x : Change) (cs : List Change) (capacity : ℕ) → put_answer cs capacity x ≡ Ok tt → length (entered change_before x cs) ≤ capacity
entered_few x cs capacity e =
    let a = answer_taken x cs capacity e in let l = a.2 in
    let m = length_entered change_before change_irreflexive change_chain change_total x cs (new_lacks x cs a.1) in omega arith

pub taken_few : (xs cs : List Change) (capacity : ℕ) → TakenAll xs cs capacity → length cs ≤ capacity → length (all_entered change_before xs cs) ≤ capacity
taken_few [] cs capacity t h = h
taken_few (x ∷ xs) cs capacity t h = taken_few xs (entered change_before x cs) capacity t.1 (entered_few x cs capacity t.0)
