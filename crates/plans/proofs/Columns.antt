-- The keys that open a door, by what each key opens.
use Rattle.std.proofs.Common.{◌≡◌, ℕ, ◌^◌, ◌<◌, ◌≤◌, Bool, true, ltb, List, length, get_or, sym, ap, ◌∙◌, ⊎_elim, arith}
use Rattle.std.proofs.lemmas.List.{get_or_past}
use Rattle.std.proofs.lemmas.Bool.{cases_lt, and_parts, ltb-true}
use Rattle.masks.specs.Masks.{bit, Has, has_bit}
use Rattle.masks.proofs.Bitlaws.{bit_zero, below_has, none_has, same_sets}
use Rattle.masks.proofs.Joins.{has_true, true_has}
use Rattle.groups.specs.Lists.{passing, columns}
use Rattle.groups.proofs.Closures.{has_passing, passing_has}
use Rattle.groups.proofs.Turns.{column_at, columns_turned}
use Rattle.plans.specs.Meaning.{keys_opening, inside}

pub inside_parts : (K D k d : ℕ) → inside K D k d ≡ true → (k < K) × (d < D)
inside_parts K D k d h = let p = and_parts (ltb k K) (ltb d D) h in (ltb-true k K p.0, ltb-true d D p.1)

module _ (rows : List ℕ) (D : ℕ) (below : (k : ℕ) → get_or rows k 0 < 2 ^ D) (x d : ℕ)
    (to : (k : ℕ) → Has x k → Has (get_or rows k 0) d) (from : (k : ℕ) → Has (get_or rows k 0) d → Has x k) where
  abbrev test : ℕ → Bool
  test k = has_bit (get_or rows k 0) d

  key_below : (k : ℕ) → Has (get_or rows k 0) d → k < length rows
  key_below k h = ⊎_elim (λ (l : k < length rows). l)
      (λ (l : length rows ≤ k). absurd (omega (arith, ap (λ (v : ℕ). bit v d) (get_or_past rows k 0 l), bit_zero d)))
      (cases_lt k (length rows))

  -- the set whose keys are those that open the door
  pub column_is : x ≡ keys_opening rows D d
  column_is = ⊎_elim
      (λ (l : d < D). same_sets x (passing test (length rows))
      (λ k h. passing_has test (length rows) k (key_below k (to k h)) (has_true (get_or rows k 0) d (to k h)))
      (λ k h. from k (true_has (get_or rows k 0) d (has_passing test (length rows) k h).1)) ∙ sym (column_at rows D d l))
      (λ (l : D ≤ d). none_has x (λ k h. absurd (omega (arith, below_has D (get_or rows k 0) d (below k) (to k h)))) ∙ sym (get_or_past (columns rows D) d 0 (omega (arith, (columns_turned rows D).long))))
      (cases_lt d D)
