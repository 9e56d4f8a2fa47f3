-- The forms in which the search reads a plan.
use Rattle.std.proofs.Common.{◌≡◌, ℕ, ◌+◌, ◌-◌, ◌<◌, ◌≤◌, min, List, ◌++◌, length, get_or, take, drop, replicate, sym, ap, ◌∙◌, subst, ⊎_elim, arith}
use Rattle.std.proofs.lemmas.List.FromFn.{length-map-range_with_len, get_or-map-range_with_len, fill_by_all}
use Rattle.std.proofs.lemmas.List.{get_or-take, get_or_past, get_or_append_left, get_or-append_right, get_or-drop, get_or-replicate, ext_get_or, length-append, length-drop, length-replicate, length-take}
use Rattle.std.proofs.lemmas.Bool.{cases_lt}
use Rattle.masks.specs.Masks.{Has}
use Rattle.groups.specs.Plans.{Opens}
use Rattle.search.specs.Parts.{padded_rows}
use Rattle.search.proofs.Peels.{has_zero}

-- ---- 64 rows
pub padded_length : (rows : List ℕ) → length (padded_rows rows) ≡ 64
unfolding padded_rows
padded_length rows = length-map-range_with_len (λ k. get_or rows k 0) 0 64

pub padded_at : (rows : List ℕ) (k : ℕ) → k < 64 → get_or (padded_rows rows) k 0 ≡ get_or rows k 0
unfolding padded_rows
padded_at rows k l = get_or-map-range_with_len (λ k. get_or rows k 0) 0 64 k k 0 l (omega arith)

pub padded_is : (rows all : List ℕ) → length all ≡ 64 → ((k : ℕ) → k < 64 → get_or all k 0 ≡ get_or rows k 0) → all ≡ padded_rows rows
unfolding padded_rows
padded_is rows all l f = fill_by_all (λ k. get_or rows k 0) all 64 0 l f

-- the rows copied into the first places of an empty array
pub padded_copied : (rows front : List ℕ) (n : ℕ) → n ≡ min (length rows) 64 → front ≡ take n rows → front ++ drop n (replicate 64 0) ≡ padded_rows rows
padded_copied rows front n is e =
    let none : ℕ = 0 in
    let zeros : List ℕ = replicate 64 none in
    let all : List ℕ = front ++ drop n zeros in
    let long : length front ≡ n = omega (arith, ap length e, length-take n rows) in
    padded_is rows all (omega (arith, length-append front (drop n zeros), length-drop n zeros, length-replicate 64 none))
    (λ k l. ⊎_elim
    (λ (h : k < n). get_or_append_left front (drop n zeros) 0 k (omega arith) ∙ ap (λ (z : List ℕ). get_or z k 0) e ∙ get_or-take n rows k 0 h)
    (λ (h : n ≤ k). get_or-append_right front (drop n zeros) n k 0 long h ∙ get_or-drop n zeros (k - n) 0 ∙ get_or-replicate 64 (n + (k - n)) 0 0 (omega arith) ∙ sym (get_or_past rows k 0 (omega arith))) (cases_lt k n))

-- the same keys by both, where there are 64 rows or fewer
pub same_row : (rows : List ℕ) (k : ℕ) → get_or (padded_rows rows) k 0 ≡ get_or (take 64 rows) k 0
same_row rows k =
    ⊎_elim (λ (l : k < 64). padded_at rows k l ∙ sym (get_or-take 64 rows k 0 l))
    (λ (l : 64 ≤ k). get_or_past (padded_rows rows) k 0 (omega (arith, padded_length rows)) ∙ sym (get_or_past (take 64 rows) k 0 (omega (arith, length-take 64 rows))))
    (cases_lt k 64)

-- a key that opens a door has a row
pub has_row : (rows : List ℕ) (k d : ℕ) → Opens rows k d → k < length rows
has_row rows k d h =
    ⊎_elim (λ (l : k < length rows). l) (λ (l : length rows ≤ k). absurd (has_zero d (subst (λ (v : ℕ). Has v d) (get_or_past rows k 0 l) h))) (cases_lt k (length rows))

-- ---- the first of 64 rows
module _ (rows : List ℕ) (n : ℕ) (is : n ≡ min (length rows) 64) where
  pub padded_past : (k : ℕ) → n ≤ k → get_or (padded_rows rows) k 0 ≡ 0
  padded_past k l =
      ⊎_elim (λ (h : k < 64). padded_at rows k h ∙ get_or_past rows k 0 (omega arith)) (λ (h : 64 ≤ k). get_or_past (padded_rows rows) k 0 (omega (arith, padded_length rows))) (cases_lt k 64)

  pub padded_front : take n (padded_rows rows) ≡ take 64 rows
  padded_front =
      ext_get_or 0 (take n (padded_rows rows)) (take 64 rows) (omega (arith, length-take n (padded_rows rows), length-take 64 rows, padded_length rows))
      (λ k l. let h : k < n = omega (arith, length-take n (padded_rows rows)) in
      get_or-take n (padded_rows rows) k 0 h ∙ same_row rows k)
