-- Several changes put into a draft: what it holds then, and its memory.
use Rattle.std.proofs.Common.{◌≡◌, ℕ, ◌+◌, ◌-◌, ◌≤◌, min, Bool, true, false, cond, List, [], ◌∷◌, ◌++◌, length, map, drop, is_ok, Ok, Err, Result, sym, refl, ap, ◌∙◌, subst, arith, rules}
use Rattle.std.proofs.lemmas.List.{places, drop_at, drop-drop}
use Rattle.std.proofs.lemmas.Bool.{cond-true, cond_both}
use Rattle.faults.specs.declared.cause.Cause.{Cause}
use Rattle.faults.specs.Causes.{told}
use Rattle.pairs.specs.declared.change.Change.{Change}
use Rattle.pairs.specs.Orders.{change_before}
use Rattle.table.specs.Sets.{entered, all_entered}
use Rattle.batch.specs.Changes.{capacity_of, filled, put_answer}
use Rattle.weekly.specs.Marks.{marked, merged, TakenAll}
use Rattle.weekly.specs.Pairs.{pairs_of}
use Rattle.pairs.specs.declared.pair.Pair.{Pair}
use Rattle.weekly.proofs.Fresh.{entered_few, taken_few}

pub told_ok : {E : Type 0} (cause : E → Cause) (r : Result Unit E) → told cause r ≡ Ok tt → is_ok r ≡ true
told_ok cause (Ok u) e = refl
told_ok cause (Err x) e = cc

entered_grows : (x : Change) (cs : List Change) → length cs ≤ length (entered change_before x cs)
entered_grows x [] = omega arith
entered_grows x (c ∷ cs) =
    cond_both (change_before x c) (x ∷ (c ∷ cs)) (cond (change_before c x) (c ∷ entered change_before x cs) (c ∷ cs)) (λ v. length (c ∷ cs) ≤ length v) (λ e. omega arith)
    (λ e. cond_both (change_before c x) (c ∷ entered change_before x cs) (c ∷ cs) (λ v. length (c ∷ cs) ≤ length v) (λ f. let r = entered_grows x cs in omega arith) (λ f. omega arith))

pub all_grow : (xs cs : List Change) → length cs ≤ length (all_entered change_before xs cs)
all_grow [] cs = omega arith
all_grow (x ∷ xs) cs = let a = entered_grows x cs in let b = all_grow xs (entered change_before x cs) in omega arith

-- a memory filled twice is filled with what came last, if that is no shorter
pub filled_twice : (cs ds xs : List Change) → length cs ≤ length ds → filled ds (filled cs xs) ≡ filled ds xs
filled_twice cs ds xs h =
    let k : length ds ≡ length cs + (length ds - length cs) = omega arith in
    ap (λ (z : List Change). ds ++ z)
    (ap (λ (n : ℕ). drop n (filled cs xs)) k ∙ (sym (drop-drop (length ds - length cs) (length cs) (filled cs xs))
    ∙ (ap (λ (z : List Change). drop (length ds - length cs) z) (drop_at cs (drop (length cs) xs) (length cs) refl)
    ∙ (drop-drop (length ds - length cs) (length cs) xs ∙ ap (λ (n : ℕ). drop n xs) (sym k)))))

pub all_append : (xs ys cs : List Change) → all_entered change_before (xs ++ ys) cs ≡ all_entered change_before ys (all_entered change_before xs cs)
all_append [] ys cs = refl
all_append (x ∷ xs) ys cs = all_append xs ys (entered change_before x cs)

pub taken_front : (xs ys cs : List Change) (capacity : ℕ) → TakenAll (xs ++ ys) cs capacity → TakenAll xs cs capacity
taken_front [] ys cs capacity t = tt
taken_front (x ∷ xs) ys cs capacity t = (t.0, taken_front xs ys (entered change_before x cs) capacity t.1)

pub taken_back : (xs ys cs : List Change) (capacity : ℕ) → TakenAll (xs ++ ys) cs capacity → TakenAll ys (all_entered change_before xs cs) capacity
taken_back [] ys cs capacity t = t
taken_back (x ∷ xs) ys cs capacity t = taken_back xs ys (entered change_before x cs) capacity t.1

-- a memory keeps its capacity
pub filled_capacity : (cs xs ys : List Change) → ys ≡ filled cs xs → length cs ≤ capacity_of xs → capacity_of ys ≡ capacity_of xs
filled_capacity cs xs ys e h =
    let m : length cs ≤ length xs = omega arith in
    let l : length ys ≡ length xs = ap length e ∙ search (rules, places) in
    ap (λ (n : ℕ). min n 64) l

-- ---- the pairs of a body as changes of a mark
abbrev pub change_of : Bool → Pair → Change
change_of b p = record { key = p.key; door = p.door; added = b }

pub marked_pairs : (b : Bool) (bs : List ℕ) → marked b bs ≡ map (change_of b) (pairs_of bs)
unfolding marked pairs_of
marked_pairs b [] = refl
marked_pairs b (k ∷ []) = refl
marked_pairs b (k ∷ d ∷ rest) = ap (λ (z : List Change). record { key = k; door = d; added = b } ∷ z) (marked_pairs b rest)

-- the draft after a put, by what the put promised: xs and cs before, ys and ds after
module _ {E : Type 0} (cause : E → Cause) (x : Change) (left xs ys cs ds : List Change) (r : Result Unit E)
    (fits : TakenAll (x ∷ left) cs (capacity_of xs)) (answer : told cause r ≡ put_answer cs (capacity_of xs) x)
    (after : ds ≡ cond (is_ok r) (entered change_before x cs) cs) (memory : ys ≡ filled ds xs) where
  pub put_changes : ds ≡ entered change_before x cs
  put_changes = after ∙ cond-true _ _ _ (told_ok cause r (answer ∙ fits.0))

  put_few : length ds ≤ capacity_of xs
  put_few = subst (λ (z : List Change). length z ≤ capacity_of xs) (sym put_changes) (entered_few x cs (capacity_of xs) fits.0)

  pub put_fits : TakenAll left ds (capacity_of ys)
  put_fits =
      subst (λ (n : ℕ). TakenAll left ds n) (sym (filled_capacity ds xs ys memory put_few))
      (subst (λ (z : List Change). TakenAll left z (capacity_of xs)) (sym put_changes) fits.1)

  pub put_left : all_entered change_before (x ∷ left) cs ≡ all_entered change_before left ds
  put_left = ap (all_entered change_before left) (sym put_changes)

  pub put_memory : (zs : List Change) → xs ≡ filled cs zs → ys ≡ filled ds zs
  put_memory zs e = memory ∙ (ap (filled ds) e ∙ filled_twice cs ds zs (subst (λ (z : List Change). length cs ≤ length z) (sym put_changes) (entered_grows x cs)))

-- ---- two bodies put into an empty draft
module _ (adds takes : List ℕ) (xs ys cs ds : List Change) (none : cs ≡ []) (fits : TakenAll (marked true adds ++ marked false takes) [] (capacity_of xs))
    (after : ds ≡ all_entered change_before (marked true adds) cs) (memory : ys ≡ filled ds xs) where
  first_in : ds ≡ all_entered change_before (marked true adds) []
  first_in = after ∙ ap (λ (z : List Change). all_entered change_before (marked true adds) z) none

  first_few : length ds ≤ capacity_of xs
  first_few = subst (λ (z : List Change). length z ≤ capacity_of xs) (sym first_in) (taken_few (marked true adds) [] (capacity_of xs) (taken_front (marked true adds) (marked false takes) [] (capacity_of xs) fits) (omega arith))

  pub second_fits : TakenAll (marked false takes) ds (capacity_of ys)
  second_fits =
      subst (λ (n : ℕ). TakenAll (marked false takes) ds n) (sym (filled_capacity ds xs ys memory first_few))
      (subst (λ (z : List Change). TakenAll (marked false takes) z (capacity_of xs)) (sym first_in) (taken_back (marked true adds) (marked false takes) [] (capacity_of xs) fits))

  pub both_in : (es : List Change) → es ≡ all_entered change_before (marked false takes) ds → es ≡ merged adds takes
  unfolding merged
  both_in es e = e ∙ (ap (λ (z : List Change). all_entered change_before (marked false takes) z) first_in ∙ sym (all_append (marked true adds) (marked false takes) []))

  pub both_memory : (es zs : List Change) → es ≡ all_entered change_before (marked false takes) ds → zs ≡ filled es ys → zs ≡ filled es xs
  both_memory es zs e m = m ∙ (ap (filled es) memory ∙ filled_twice ds es xs (subst (λ (z : List Change). length ds ≤ length z) (sym e) (all_grow (marked false takes) ds)))

pub first_fits : (adds takes : List ℕ) (cs : List Change) (capacity : ℕ) → cs ≡ [] → TakenAll (marked true adds ++ marked false takes) [] capacity → TakenAll (marked true adds) cs capacity
first_fits adds takes cs capacity none fits = subst (λ (z : List Change). TakenAll (marked true adds) z capacity) (sym none) (taken_front (marked true adds) (marked false takes) [] capacity fits)
