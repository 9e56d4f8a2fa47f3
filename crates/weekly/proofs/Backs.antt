-- The file of a good batch and note has no fault.
use Rattle.std.proofs.Common.{◌≡◌, ℕ, suc, ◌+◌, ◌*◌, ◌/◌, ◌%◌, ◌<◌, ◌≤◌, Bool, true, false, cond, not, ◌&&◌, eqb, ◌⊎◌, List, [], ◌∷◌, ◌++◌, length, get_or, take, drop, Some, None, Ok, Err, Option, Result, sym, refl, ap, ◌∙◌, inl, inr, ⊎_elim, zero-add, one-add, arith}
use Rattle.std.proofs.lemmas.List.{append_assoc, length-append, take_at, drop_at, take_all}
use Rattle.std.proofs.lemmas.Bool.{and_parts, cases_Bool, cases_eq, cond-true, cond-false, le-leb, le-ltb, eq-eqb, eqb-true, eqb-false, and_from}
use Rattle.std.proofs.lemmas.Bool.Decides.{nat_tests}
use Rattle.pairs.specs.declared.change.Change.{Change}
use Rattle.pairs.specs.Orders.{before_by_pair}
use Rattle.table.proofs.Ups.{Below, Up}
use Rattle.batch.specs.Changes.{in_range}
use Rattle.faults.specs.declared.cause.Cause.{Cause}
use Rattle.weekly.proofs.Merges.{up_by_pair}
use Rattle.weekly.specs.Places.{Places}
use Rattle.weekly.specs.Body.{and_then, pair_number, pair_ok, pairs_fault, note_byte, first_bad_byte, byte_fault, text_fault, apart_fault, both_fault, bodies_fault, added_bytes, note_bytes, removed_bytes}
use Rattle.weekly.specs.Marks.{same, bytes_of}
use Rattle.weekly.specs.Head.{two_bytes, is_entry_ok, with_a_body, entries, bodies_start, bodies_end, ended, layout_of}
use Rattle.weekly.specs.File.{entry_of, present, entry_count, plan_of, added_entry, note_entry, removed_entry, head_of, file_with, file_of}
use Rattle.weekly.proofs.Written.{head_length, file_length}
use Rattle.weekly.specs.Trip.{GoodBatch, GoodNote}
use Rattle.weekly.specs.Read.{with_bodies, judged}
use Rattle.weekly.proofs.Goods.{cond_ok}

-- ---- the numbers of the pairs ascend
abbrev row_number : Change → ℕ
row_number c = pair_number c.key c.door

-- changes whose keys and doors are below 64, and whose pairs ascend strictly, from `low` on
unfoldable pairs_ascend : ℕ → List Change → Bool
pairs_ascend low [] = true
pairs_ascend low (c ∷ cs) = pair_ok low c.key c.door && pairs_ascend (row_number c + 1) cs

next_above : (c x : Change) → in_range c ≡ true → in_range x ≡ true → before_by_pair c x ≡ true → row_number c + 1 ≤ row_number x
next_above c x p q h = grind (arith, nat_tests)

abbrev Above : ℕ → List Change → Type 0
Above low [] = Unit {0}
Above low (c ∷ cs) = (low ≤ row_number c) × Above low cs

abbrev Ranged : List Change → Type 0
Ranged [] = Unit {0}
Ranged (c ∷ cs) = (in_range c ≡ true) × Ranged cs

ranged_from : (cs : List Change) → ((k : ℕ) (d : Change) → k < length cs → in_range (get_or cs k d) ≡ true) → Ranged cs
ranged_from [] f = tt
ranged_from (c ∷ cs) f = (f 0 c (omega arith), ranged_from cs (λ k d h. f (suc k) d (omega arith)))

above_from : (c : Change) (cs : List Change) → in_range c ≡ true → Ranged cs → Below before_by_pair c cs → Above (row_number c + 1) cs
above_from c [] p r b = tt
above_from c (x ∷ cs) p r b = (next_above c x p r.0 b.0, above_from c cs p r.1 b.1)

ok_from : (low : ℕ) (c : Change) → in_range c ≡ true → low ≤ row_number c → pair_ok low c.key c.door ≡ true
ok_from low c p h = grind (arith, nat_tests)

ascend_from : (low : ℕ) (cs : List Change) → Ranged cs → Up before_by_pair cs → Above low cs → pairs_ascend low cs ≡ true
unfolding pairs_ascend
ascend_from low [] r u a = refl
ascend_from low (c ∷ cs) r u a = and_from _ _ (ok_from low c r.0 a.0) (ascend_from (row_number c + 1) cs r.1 u.1 (above_from c cs r.0 r.1 u.0))

above_zero : (cs : List Change) → Above 0 cs
above_zero [] = tt
above_zero (c ∷ cs) = (omega arith, above_zero cs)

good_ascends : (cs : List Change) → GoodBatch cs → pairs_ascend 0 cs ≡ true
good_ascends cs g = ascend_from 0 cs (ranged_from cs g.range) (up_by_pair cs g.ascend) (above_zero cs)

-- ---- the pairs of one mark ascend
ok_down : (low lower k d : ℕ) → lower ≤ low → pair_ok low k d ≡ true → pair_ok lower k d ≡ true
ok_down low lower k d h e = grind (arith, nat_tests)

ok_low : (low k d : ℕ) → pair_ok low k d ≡ true → low ≤ pair_number k d
ok_low low k d e = grind (arith, nat_tests)

pairs_good : (b : Bool) (low lower place : ℕ) (cs : List Change) → lower ≤ low → pairs_ascend low cs ≡ true → pairs_fault lower place (bytes_of b cs) ≡ Ok tt
unfolding pairs_ascend bytes_of pairs_fault
pairs_good b low lower place [] h e = refl
pairs_good b low lower place (c ∷ cs) h e =
    let p = and_parts (pair_ok low c.key c.door) _ e in
    ⊎_elim
    (λ (t : same b c.added ≡ true). ap (λ (z : List ℕ). pairs_fault lower place z) (cond-true _ _ _ t)
    ∙ (cond-true _ _ _ (ok_down low lower c.key c.door h p.0) ∙ pairs_good b (pair_number c.key c.door + 1) (pair_number c.key c.door + 1) (place + 2) cs (omega arith) p.1))
    (λ (t : same b c.added ≡ false). ap (λ (z : List ℕ). pairs_fault lower place z) (cond-false _ _ _ t)
    ∙ pairs_good b (pair_number c.key c.door + 1) lower place cs (omega (arith, ok_low low c.key c.door p.0)) p.1)
    (cases_Bool (same b c.added))

-- ---- a note
cond_fine : (t : Bool) (o : Option ℕ) (p : ℕ) → cond t o (Some p) ≡ None → (t ≡ true) × (o ≡ None)
cond_fine true o p e = (refl, e)
cond_fine false o p e = cc

pub none_bad : (p place : ℕ) (ns : List ℕ) → first_bad_byte p ns ≡ None → first_bad_byte place ns ≡ None
unfolding first_bad_byte
none_bad p place [] e = refl
none_bad p place (b ∷ ns) e = let c = cond_fine (note_byte b) _ _ e in cond-true _ _ _ c.0 ∙ none_bad (p + 1) (place + 1) ns c.1

text_good : (p place : ℕ) (ns : List ℕ) → first_bad_byte p ns ≡ None → text_fault place ns ≡ Ok tt
text_good p place ns e = ap (λ (z : Option ℕ). byte_fault 24 z) (none_bad p place ns e)

-- ---- no pair in both
apart_no : (low k d x y : ℕ) → pair_ok low x y ≡ true → pair_number k d < low → (eqb x k && eqb y d) ≡ false
apart_no low k d x y e h = grind (arith, nat_tests)

apart_above : (k d low q p : ℕ) (rs : List ℕ) → pairs_fault low q rs ≡ Ok tt → pair_number k d < low → apart_fault k d p rs ≡ Ok tt
unfolding pairs_fault apart_fault
apart_above k d low q p [] e h = refl
apart_above k d low q p (x ∷ []) e h = refl
apart_above k d low q p (x ∷ y ∷ rs) e h =
    let c = cond_ok (pair_ok low x y) _ _ e in
    cond-false _ _ _ (apart_no low k d x y c.0 h) ∙ apart_above k d (pair_number x y + 1) (q + 2) (p + 2) rs c.1 (omega (arith, ok_low low x y c.0))

swap_no : (low k d x y : ℕ) → pair_ok low x y ≡ true → pair_number k d < low → (eqb k x && eqb d y) ≡ false
swap_no low k d x y e h = grind (arith, nat_tests)

then_of : (a b : Result Unit Cause) → a ≡ Ok tt → b ≡ Ok tt → and_then a b ≡ Ok tt
then_of a b p q = ap (λ (z : Result Unit Cause). and_then z b) p ∙ q

then_both : (a b : Result Unit Cause) → and_then a b ≡ Ok tt → (a ≡ Ok tt) × (b ≡ Ok tt)
then_both (Ok u) b e = (refl, e)
then_both (Err f) b e = cc

both_cons : (k d low q p : ℕ) (rs xs : List ℕ) → pairs_fault low q xs ≡ Ok tt → pair_number k d < low → both_fault (p + 2) rs xs ≡ Ok tt → both_fault p (k ∷ d ∷ rs) xs ≡ Ok tt
unfolding pairs_fault apart_fault both_fault
both_cons k d low q p rs [] e h a = refl
both_cons k d low q p rs (x ∷ []) e h a = refl
both_cons k d low q p rs (x ∷ y ∷ xs) e h a =
    let c = cond_ok (pair_ok low x y) _ _ e in let s = then_both (apart_fault x y (p + 2) rs) _ a in
    then_of _ _ (cond-false _ _ _ (swap_no low k d x y c.0 h) ∙ s.0) (both_cons k d (pair_number x y + 1) (q + 2) p rs xs c.1 (omega (arith, ok_low low x y c.0)) s.1)

both_good : (low p : ℕ) (cs : List Change) → pairs_ascend low cs ≡ true → both_fault p (bytes_of false cs) (bytes_of true cs) ≡ Ok tt
unfolding pairs_ascend bytes_of both_fault
both_good low p [] e = refl
both_good low p (c ∷ cs) e =
    let n = pair_number c.key c.door in
    let s = and_parts (pair_ok low c.key c.door) _ e in
    ⊎_elim
    (λ (t : c.added ≡ true).
    ap (λ (z : Bool). both_fault p (cond (not z) (c.key ∷ c.door ∷ bytes_of false cs) (bytes_of false cs)) (cond z (c.key ∷ c.door ∷ bytes_of true cs) (bytes_of true cs))) t
    ∙ then_of _ _ (apart_above c.key c.door (n + 1) 0 p (bytes_of false cs) (pairs_good false (n + 1) (n + 1) 0 cs (omega arith) s.1) (omega arith)) (both_good (n + 1) p cs s.1))
    (λ (t : c.added ≡ false).
    ap (λ (z : Bool). both_fault p (cond (not z) (c.key ∷ c.door ∷ bytes_of false cs) (bytes_of false cs)) (cond z (c.key ∷ c.door ∷ bytes_of true cs) (bytes_of true cs))) t
    ∙ both_cons c.key c.door (n + 1) 0 p (bytes_of false cs) (bytes_of true cs) (pairs_good true (n + 1) (n + 1) 0 cs (omega arith) s.1) (omega arith) (both_good (n + 1) (p + 2) cs s.1))
    (cases_Bool c.added)

-- ---- the contents
abbrev five : ℕ → ℕ → ℕ → List ℕ
five letter start len = letter ∷ start % 256 ∷ start / 256 ∷ len % 256 ∷ len / 256 ∷ []

two_parts : (s : ℕ) → two_bytes (s % 256) (s / 256) ≡ s
two_parts s = omega arith

abbrev laid : ℕ → ℕ → ℕ → ℕ → Places
laid a b c d = record { first = a; added = b; note = c; removed = d }

module _ (k : ℕ) (rest : List ℕ) (place prev : ℕ) (got : Places) (letter s len : ℕ) (right : (len ≡ 0) ⊎ (is_entry_ok prev (bodies_end got) got.added letter s len ≡ true)) (none : len ≡ 0 → with_a_body got letter len ≡ got) where
  one_entry : is_entry_ok prev (bodies_end got) got.added letter s len ≡ true
      → entries (suc k) (five letter s len ++ rest) place prev got ≡ entries k rest (place + 5) letter (with_a_body got letter len)
  unfolding entries
  one_entry e =
      cond-true _ _ _ (ap (λ (z : ℕ). is_entry_ok prev (bodies_end got) got.added letter z (two_bytes (len % 256) (len / 256))) (two_parts s) ∙ (ap (λ (z : ℕ). is_entry_ok prev (bodies_end got) got.added letter s z) (two_parts len) ∙ e))
      ∙ ap (λ (z : ℕ). entries k rest (place + 5) letter (with_a_body got letter z)) (two_parts len)

  entry_at : (b : Bool) → eqb len 0 ≡ b → entries (cond b 0 1 + k) (cond b [] (five letter s len) ++ rest) place prev got ≡ entries k rest (cond b place (place + 5)) (cond b prev letter) (with_a_body got letter len)
  entry_at true e = ap (λ (z : ℕ). entries z rest place prev got) (zero-add k) ∙ ap (λ (v : Places). entries k rest place prev v) (sym (none (eqb-true len 0 e)))
  entry_at false e =
      ap (λ (z : ℕ). entries z (five letter s len ++ rest) place prev got) (one-add k)
      ∙ ⊎_elim (λ (q : len ≡ 0). absurd (eqb-false len 0 e q)) one_entry right

  maybe_entry : entries (present len + k) (entry_of letter s len ++ rest) place prev got ≡ entries k rest (cond (eqb len 0) place (place + 5)) (cond (eqb len 0) prev letter) (with_a_body got letter len)
  maybe_entry = entry_at (eqb len 0) refl

right_A : (first a : ℕ) → a % 2 ≡ 0 → a ≤ 128 → (a ≡ 0) ⊎ (is_entry_ok 0 (first + 0 + 0 + 0) 0 0x41 first a ≡ true)
right_A first a v h = ⊎_elim (λ (q : a ≡ 0). inl q) (λ (q : a ≡ 0 → ⊥). inr (grind (arith, nat_tests))) (cases_eq a 0)

right_N : (prev first a n : ℕ) → prev ≤ 0x41 → n ≤ 200 → (n ≡ 0) ⊎ (is_entry_ok prev (first + (0 + a) + 0 + 0) (0 + a) 0x4E (first + a) n ≡ true)
right_N prev first a n p h = ⊎_elim (λ (q : n ≡ 0). inl q) (λ (q : n ≡ 0 → ⊥). inr (grind (arith, nat_tests))) (cases_eq n 0)

right_R : (prev first a n r : ℕ) → prev ≤ 0x4E → r % 2 ≡ 0 → a + r ≤ 128 → (r ≡ 0) ⊎ (is_entry_ok prev (first + (0 + a) + (0 + n) + 0) (0 + a) 0x52 (first + a + n) r ≡ true)
right_R prev first a n r p v h = ⊎_elim (λ (q : r ≡ 0). inl q) (λ (q : r ≡ 0 → ⊥). inr (grind (arith, nat_tests))) (cases_eq r 0)

last_A : (a : ℕ) → cond (eqb a 0) 0 0x41 ≤ 0x41
last_A a = grind (arith, nat_tests)

last_N : (n prev : ℕ) → prev ≤ 0x41 → cond (eqb n 0) prev 0x4E ≤ 0x4E
last_N n prev h = grind (arith, nat_tests)

abbrev good : Places → Result Places Cause
good z = Ok z

pub contents_back : (a n r : ℕ) (rest : List ℕ) → a % 2 ≡ 0 → r % 2 ≡ 0 → a + r ≤ 128 → n ≤ 200
    → entries (entry_count a n r) (added_entry (plan_of a n r) ++ (note_entry (plan_of a n r) ++ (removed_entry (plan_of a n r) ++ rest))) 5 0 (bodies_start (entry_count a n r)) ≡ Ok (plan_of a n r)
unfolding entries
contents_back a n r rest v w h l =
    let f : ℕ = 5 + 5 * entry_count a n r in
    let g = plan_of a n r in
    let p1 : ℕ = cond (eqb a 0) 0 0x41 in
    let p2 : ℕ = cond (eqb n 0) p1 0x4E in
    let k : entry_count a n r ≡ present a + (present n + (present r + 0)) = omega arith in
    ap (λ (z : ℕ). entries z (added_entry g ++ (note_entry g ++ (removed_entry g ++ rest))) 5 0 (bodies_start (entry_count a n r))) k
    ∙ (maybe_entry (present n + (present r + 0)) (note_entry g ++ (removed_entry g ++ rest)) 5 0 (laid f 0 0 0) 0x41 f a (right_A f a v (omega arith)) (λ q. ap (λ (z : ℕ). laid f z 0 0) (omega arith))
    ∙ (maybe_entry (present r + 0) (removed_entry g ++ rest) (cond (eqb a 0) 5 (5 + 5)) p1 (laid f (0 + a) 0 0) 0x4E (f + a) n (right_N p1 f a n (last_A a) l) (λ q. ap (λ (z : ℕ). laid f (0 + a) z 0) (omega arith))
    ∙ (maybe_entry 0 rest (cond (eqb n 0) (cond (eqb a 0) 5 (5 + 5)) (cond (eqb a 0) 5 (5 + 5) + 5)) p2 (laid f (0 + a) (0 + n) 0) 0x52 (f + a + n) r (right_R p2 f a n r (last_N n p1 (last_A a)) w h) (λ q. ap (λ (z : ℕ). laid f (0 + a) (0 + n) z) (omega arith))
    ∙ ap (λ (z : Places). good z) (ap (λ (z : ℕ). laid f z (0 + n) (0 + r)) (zero-add a) ∙ (ap (λ (z : ℕ). laid f a z (0 + r)) (zero-add n) ∙ ap (λ (z : ℕ). laid f a n z) (zero-add r))))))

at_most : (n : ℕ) → present n ≤ 1
at_most n = grind (arith, nat_tests)

-- ---- the whole file
module _ (xs ns rs : List ℕ) (even-x : length xs % 2 ≡ 0) (even-r : length rs % 2 ≡ 0) (joint : length xs + length rs ≤ 128) (short : length ns ≤ 200) where
  contents_is : entries (entry_count (length xs) (length ns) (length rs)) ((added_entry (plan_of (length xs) (length ns) (length rs)) ++ (note_entry (plan_of (length xs) (length ns) (length rs)) ++ removed_entry (plan_of (length xs) (length ns) (length rs)))) ++ (xs ++ (ns ++ rs))) 5 0 (bodies_start (entry_count (length xs) (length ns) (length rs))) ≡ Ok (plan_of (length xs) (length ns) (length rs))
  contents_is =
      let g = plan_of (length xs) (length ns) (length rs) in
      ap (λ (z : List ℕ). entries (entry_count (length xs) (length ns) (length rs)) z 5 0 (bodies_start (entry_count (length xs) (length ns) (length rs))))
      (append_assoc (added_entry g) (note_entry g ++ removed_entry g) (xs ++ (ns ++ rs)) ∙ ap (λ (z : List ℕ). added_entry g ++ z) (append_assoc (note_entry g) (removed_entry g) (xs ++ (ns ++ rs))))
      ∙ contents_back (length xs) (length ns) (length rs) (xs ++ (ns ++ rs)) even-x even-r joint short

  few : entry_count (length xs) (length ns) (length rs) ≤ 3
  few = omega (arith, at_most (length xs), at_most (length ns), at_most (length rs))

  pub layout_back : layout_of (file_with xs ns rs) ≡ Ok (plan_of (length xs) (length ns) (length rs))
  unfolding layout_of ended head_of file_with
  layout_back =
      let n : ℕ = entry_count (length xs) (length ns) (length rs) in
      let len = file_length xs ns rs in
      cond-true _ _ _ (and_from _ _ (le-leb 5 (length (file_with xs ns rs)) (omega (arith, len))) refl)
      ∙ (cond-false _ _ _ (le-ltb 3 n few)
      ∙ (cond-false _ _ _ (le-ltb (length (file_with xs ns rs)) (5 + 5 * n) (omega (arith, len)))
      ∙ (ap (λ (z : Result Places Cause). ended (length (file_with xs ns rs)) z) contents_is
      ∙ cond-true _ _ _ (eq-eqb _ _ len))))

  pub part_x : added_bytes (file_with xs ns rs) (plan_of (length xs) (length ns) (length rs)) ≡ xs
  unfolding file_with
  part_x =
      let g = plan_of (length xs) (length ns) (length rs) in
      ap (λ (z : List ℕ). take (length xs) z) (drop_at (head_of g) (xs ++ (ns ++ rs)) g.first (head_length g)) ∙ take_at xs (ns ++ rs) (length xs) refl

  pub part_n : note_bytes (file_with xs ns rs) (plan_of (length xs) (length ns) (length rs)) ≡ ns
  unfolding file_with
  part_n =
      let g = plan_of (length xs) (length ns) (length rs) in
      ap (λ (z : List ℕ). take (length ns) z) (ap (λ (z : List ℕ). drop (g.first + length xs) z) (sym (append_assoc (head_of g) xs (ns ++ rs)))
      ∙ drop_at (head_of g ++ xs) (ns ++ rs) (g.first + length xs) (length-append (head_of g) xs ∙ omega (arith, head_length g))) ∙ take_at ns rs (length ns) refl

  pub part_r : removed_bytes (file_with xs ns rs) (plan_of (length xs) (length ns) (length rs)) ≡ rs
  unfolding file_with
  part_r =
      let g = plan_of (length xs) (length ns) (length rs) in
      ap (λ (z : List ℕ). take (length rs) z) (ap (λ (z : List ℕ). drop (g.first + length xs + length ns) z) (sym (append_assoc (head_of g) xs (ns ++ rs)) ∙ sym (append_assoc (head_of g ++ xs) ns rs))
      ∙ drop_at ((head_of g ++ xs) ++ ns) rs (g.first + length xs + length ns) (length-append (head_of g ++ xs) ns ∙ omega (arith, length-append (head_of g) xs, head_length g))) ∙ take_all (length rs) rs (omega arith)

  pub judged_back : bodies_fault (5 + 5 * entry_count (length xs) (length ns) (length rs)) xs ns rs ≡ Ok tt → judged (file_with xs ns rs) ≡ Ok (plan_of (length xs) (length ns) (length rs))
  unfolding judged
  judged_back e =
      let g = plan_of (length xs) (length ns) (length rs) in
      ap (λ (z : Result Places Cause). with_bodies (file_with xs ns rs) z) layout_back
      ∙ ap (λ (z : Result Unit Cause). and_then z (Ok g))
      (ap (λ (z : List ℕ). bodies_fault g.first z (note_bytes (file_with xs ns rs) g) (removed_bytes (file_with xs ns rs) g)) part_x
      ∙ (ap (λ (z : List ℕ). bodies_fault g.first xs z (removed_bytes (file_with xs ns rs) g)) part_n ∙ (ap (λ (z : List ℕ). bodies_fault g.first xs ns z) part_r ∙ e)))

-- ---- a good batch's bytes
cond_sizes : (t : Bool) (k d m n : ℕ) (xs rs : List ℕ) → length xs + length rs ≡ m → length (cond t (k ∷ d ∷ xs) xs) + length (cond (not t) (k ∷ d ∷ rs) rs) ≡ m + 2
cond_sizes true k d m n xs rs e = omega arith
cond_sizes false k d m n xs rs e = omega arith

pub sizes : (cs : List Change) → length (bytes_of true cs) + length (bytes_of false cs) ≡ 2 * length cs
unfolding bytes_of
sizes [] = refl
sizes (c ∷ cs) = cond_sizes c.added c.key c.door (2 * length cs) 0 (bytes_of true cs) (bytes_of false cs) (sizes cs) ∙ omega arith

cond_even : (t : Bool) (k d : ℕ) (xs : List ℕ) → length xs % 2 ≡ 0 → length (cond t (k ∷ d ∷ xs) xs) % 2 ≡ 0
cond_even true k d xs e = omega arith
cond_even false k d xs e = e

pub even_bytes : (b : Bool) (cs : List Change) → length (bytes_of b cs) % 2 ≡ 0
unfolding bytes_of
even_bytes b [] = refl
even_bytes b (c ∷ cs) = cond_even (same b c.added) c.key c.door (bytes_of b cs) (even_bytes b cs)

-- the file has no fault, and its bodies are the bytes of the additions, the note, and the bytes of the removals
pub record Parts (cs : List Change) (ns : List ℕ) (g : Places) : Type 0 where
  pub is : judged (file_of cs ns) ≡ Ok g
  pub added : added_bytes (file_of cs ns) g ≡ bytes_of true cs
  pub text : note_bytes (file_of cs ns) g ≡ ns
  pub removed : removed_bytes (file_of cs ns) g ≡ bytes_of false cs

pub parts_back : (cs : List Change) (ns : List ℕ) → GoodBatch cs → GoodNote ns → Parts cs ns (plan_of (length (bytes_of true cs)) (length ns) (length (bytes_of false cs)))
unfolding bodies_fault
parts_back cs ns b n =
    let xs = bytes_of true cs in let rs = bytes_of false cs in
    let up = good_ascends cs b in
    let j : length xs + length rs ≤ 128 = omega (arith, sizes cs, b.few) in
    let place : ℕ = 5 + 5 * entry_count (length xs) (length ns) (length rs) in
    record {
      is = judged_back xs ns rs (even_bytes true cs) (even_bytes false cs) j n.short
          (then_of _ _ (pairs_good true 0 0 place cs (omega arith) up) (then_of _ _ (text_good 0 (place + length xs) ns n.plain)
          (then_of _ _ (pairs_good false 0 0 (place + length xs + length ns) cs (omega arith) up) (both_good 0 (place + length xs + length ns) cs up))));
      added = part_x xs ns rs (even_bytes true cs) (even_bytes false cs) j n.short;
      text = part_n xs ns rs (even_bytes true cs) (even_bytes false cs) j n.short;
      removed = part_r xs ns rs (even_bytes true cs) (even_bytes false cs) j n.short;
    }
