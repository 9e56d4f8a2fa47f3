-- One turn of a loop over the changes of a batch, and its end.
use Rattle.std.proofs.Common.{◌≡◌, ℕ, ◌+◌, ◌<◌, ◌≤◌, Bool, true, false, cond, List, [], ◌∷◌, length, get_or, drop, Some, None, Ok, Option, Result, refl, ◌∙◌, arith}
use Rattle.std.proofs.lemmas.List.{at_drop_more}
use Rattle.std.proofs.lemmas.Bool.{and_from}
use Rattle.std.proofs.lemmas.Bool.Decides.{nat_tests}
use Rattle.faults.specs.declared.cause.Cause.{Cause}
use Rattle.pairs.specs.declared.change.Change.{Change}
use Rattle.batch.specs.Changes.{in_range}
use Rattle.ledger.specs.Ledger.{additions, removals, change_fault, first_of, changes_fault}
use Rattle.suite.specs.Steps.{all_in_range}

abbrev pub blank : Change
blank = record { key = 0; door = 0; added = false }

-- nothing is wrong
abbrev pub fine : Result Unit Cause
fine = Ok tt

-- neither is a fault where the first of them is none
pub first_none : (o p : Option Cause) → first_of o p ≡ None → (o ≡ None) × (p ≡ None)
first_none None p e = (refl, e)
first_none (Some f) p e = absurd (let z : ◌≡◌ {A = ℕ} 0 1 = cc in omega arith)

-- the first fault
module _ (keys doors : ℕ) (rows : List ℕ) (cs : List Change) (i : ℕ) (h : i < length cs) where
  step : changes_fault keys doors rows i (drop i cs) ≡ first_of (change_fault keys doors rows i (get_or cs i blank)) (changes_fault keys doors rows (i + 1) (drop (i + 1) cs))
  step = at_drop_more (λ z. changes_fault keys doors rows i z) cs i blank h

both_ways : (b : Bool) (m n l : ℕ) → m + n ≡ l → (cond b 1 0 + m) + (cond b 0 1 + n) ≡ l + 1
both_ways true m n l e = omega arith
both_ways false m n l e = omega arith

pub additions_removals : (cs : List Change) → additions cs + removals cs ≡ length cs
additions_removals [] = refl
additions_removals (c ∷ cs) = let e : length cs + 1 ≡ length (c ∷ cs) = omega arith in both_ways c.added (additions cs) (removals cs) (length cs) (additions_removals cs) ∙ e

-- where no change is faulty, all are of keys and doors of the plan, and so in range
pub faultless_in_range : (keys doors : ℕ) (rows : List ℕ) (i : ℕ) (cs : List Change) → keys ≤ 64 → doors ≤ 64 → changes_fault keys doors rows i cs ≡ None → all_in_range cs ≡ true
faultless_in_range keys doors rows i [] k d e = refl
faultless_in_range keys doors rows i (c ∷ cs) k d e =
    let f = first_none (change_fault keys doors rows i c) (changes_fault keys doors rows (i + 1) cs) e in
    and_from (in_range c) (all_in_range cs) (change_in_range keys doors rows i c k d f.0) (faultless_in_range keys doors rows (i + 1) cs k d f.1)
  where
    change_in_range : (keys doors : ℕ) (rows : List ℕ) (i : ℕ) (c : Change) → keys ≤ 64 → doors ≤ 64 → change_fault keys doors rows i c ≡ None → in_range c ≡ true
    change_in_range keys doors rows i c k d e = grind (arith, nat_tests)
