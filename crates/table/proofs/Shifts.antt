-- Rows moved by one place up or down, and rows that ascend.
use Rattle.std.proofs.Common.{◌≡◌, ◌∙◌, ap, ℕ, zero, suc, ◌+◌, ◌-◌, ◌<◌, ◌≤◌, Bool, true, List, ◌++◌, length, get_or, take, drop, set, arith, rules}
use Rattle.std.specs.List.{insert, remove, CopiedTo, SameBelow, SameFrom}
use Rattle.std.proofs.lemmas.List.{places, get_or_read, same_lists, get_or-set_same}
use Rattle.table.specs.Rows.{Ascends, GoesAt, with_row, without_row}
use Rattle.std.proofs.lemmas.Bool.{cases_eq}

-- A list whose rows from `at` to `n` were moved up by one, and then `x` was written at `at`.
pub put_is : {X : Type 0} (xs ys : List X) (n at : ℕ) (x : X) → at ≤ n → n < length xs → length ys ≡ length xs
    → ((k : ℕ) (d : X) → k < at → get_or ys k d ≡ get_or xs k d)
    → ((k : ℕ) (d : X) → at ≤ k → k < n → get_or ys (k + 1) d ≡ get_or xs k d)
    → ((k : ℕ) (d : X) → n < k → get_or ys k d ≡ get_or xs k d)
    → set ys at x ≡ insert (take n xs) at x ++ drop (n + 1) xs
put_is {X} xs ys n at x h m e below up past =
    same_lists _ _ (search (rules, places)) (λ k d l.
    let c = cases_eq k at in let b = below k d in let u = up (k - 1) d in let p = past k d in
    grind (arith, places, get_or-set_same))

pub put_copied : {X : Type 0} (xs ys : List X) (n at : ℕ) (x : X) → at ≤ n → n < length xs → length ys ≡ length xs
    → CopiedTo xs ys at (at + 1) (n - at) × SameBelow xs ys (at + 1) × SameFrom xs ys (at + 1 + (n - at))
    → set ys at x ≡ with_row xs n at x
put_copied xs ys n at x h m e moved = put_is xs ys n at x h m e (λ k d l. moved.1 k d (omega arith))
    (λ k d l o. moved.0 (k + 1) d (omega arith) (omega arith) ∙ ap (λ i. get_or xs i d) (omega arith)) (λ k d l. moved.2 k d (omega arith))

-- A list whose rows after `at`, up to `n`, were moved down by one.
pub out_is : {X : Type 0} (xs ys : List X) (n at : ℕ) → at < n → n ≤ length xs → length ys ≡ length xs
    → ((k : ℕ) (d : X) → k < at → get_or ys k d ≡ get_or xs k d)
    → ((k : ℕ) (d : X) → at ≤ k → k + 1 < n → get_or ys k d ≡ get_or xs (k + 1) d)
    → ((k : ℕ) (d : X) → n ≤ k + 1 → get_or ys k d ≡ get_or xs k d)
    → ys ≡ remove (take n xs) at ++ drop (n - 1) xs
out_is {X} xs ys n at h m e below down past =
    same_lists _ _ (search (rules, places)) (λ k d l.
    let b = below k d in let u = down k d in let p = past k d in
    grind (arith, places))

pub out_copied : {X : Type 0} (xs ys : List X) (n at : ℕ) → at < n → n ≤ length xs → length ys ≡ length xs
    → CopiedTo xs ys (at + 1) at (n - (at + 1)) × SameBelow xs ys at × SameFrom xs ys (at + (n - (at + 1)))
    → ys ≡ without_row xs n at
out_copied xs ys n at h m e moved = out_is xs ys n at h m e (λ k d l. moved.1 k d l)
    (λ k d l o. moved.0 k d l (omega arith) ∙ ap (λ i. get_or xs i d) (omega arith)) (λ k d l. moved.2 k d (omega arith))

-- Rows that ascend do so at any two places.
pub far : {X : Type 0} (lt : X → X → Bool) (chain : (x y z : X) → lt x y ≡ true → lt y z ≡ true → lt x z ≡ true)
    (xs : List X) (n : ℕ) → Ascends lt xs n → (i j : ℕ) (d : X) → i < j → j < n → lt (get_or xs i d) (get_or xs j d) ≡ true
far lt chain xs n asc i zero d h l = absurd (omega arith)
far lt chain xs n asc i (suc j) d h l =
    let a = asc j d in let c = cases_eq i j in let f = far lt chain xs n asc i j d in
    let t = chain (get_or xs i d) (get_or xs j d) (get_or xs (j + 1) d) in grind arith

-- Rows that ascend still do in the memory that a put leaves, in any order in which x goes there,
pub row_ascends : {X : Type 0} (lt : X → X → Bool) (xs : List X) (n at : ℕ) (x : X) → n < length xs → Ascends lt xs n → GoesAt lt xs n x at → Ascends lt (with_row xs n at x) (n + 1)
row_ascends lt xs n at x m asc goes i d b =
    let h = goes.0 in
    let ci = cases_eq i at in let cj = cases_eq (i + 1) at in
    let s1 = asc i d in let s3 = asc (i - 1) d in
    let g1 = goes.1 i d in let g2 = goes.2 i d in
    grind (arith, places)

-- and in the memory that a take-out leaves.
pub rest_ascends : {X : Type 0} (lt : X → X → Bool) (chain : (x y z : X) → lt x y ≡ true → lt y z ≡ true → lt x z ≡ true) (xs : List X) (n at : ℕ) → at < n → n ≤ length xs → Ascends lt xs n → Ascends lt (without_row xs n at) (n - 1)
rest_ascends lt chain xs n at h m asc i d b =
    let s1 = asc i d in let s2 = asc (i + 1) d in
    let t = chain (get_or xs i d) (get_or xs (i + 1) d) (get_or xs (i + 1 + 1) d) in
    grind (arith, places)

-- The row at `mid` is before x, so each up to it is.
pub low_more : {X : Type 0} (lt : X → X → Bool) (chain : (x y z : X) → lt x y ≡ true → lt y z ≡ true → lt x z ≡ true)
    (xs : List X) (n mid : ℕ) (x row : X) → Ascends lt xs n → mid < n → n ≤ length xs → row ≡ get_or xs mid row → lt row x ≡ true
    → (k : ℕ) (d : X) → k < mid + 1 → lt (get_or xs k d) x ≡ true
low_more lt chain xs n mid x row asc m b r t k d h =
    let e : row ≡ get_or xs mid d = get_or_read xs mid row (omega arith) r d in
    let c = cases_eq k mid in let a = far lt chain xs n asc k mid d in let s = chain (get_or xs k d) (get_or xs mid d) x in grind arith

-- x is before the row at `mid`, so before each from there on.
pub high_more : {X : Type 0} (lt : X → X → Bool) (chain : (x y z : X) → lt x y ≡ true → lt y z ≡ true → lt x z ≡ true)
    (xs : List X) (n mid : ℕ) (x row : X) → Ascends lt xs n → mid < n → n ≤ length xs → row ≡ get_or xs mid row → lt x row ≡ true
    → (k : ℕ) (d : X) → mid ≤ k → k < n → lt x (get_or xs k d) ≡ true
high_more lt chain xs n mid x row asc m b r t k d h l =
    let e : row ≡ get_or xs mid d = get_or_read xs mid row (omega arith) r d in
    let c = cases_eq k mid in let a = far lt chain xs n asc mid k d in let s = chain x (get_or xs mid d) (get_or xs k d) in grind arith
