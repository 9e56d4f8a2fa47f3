-- The orders are transitive, and how the order of changes follows that of their pairs.
use Rattle.std.specs.Prelude.{◌≡◌, ℕ, Bool, true, false, not, ◌&&◌, nat_lt}
use Rattle.std.proofs.Common.{ap, ◌∙◌, arith}
use Rattle.std.proofs.lemmas.Bool.{cases_Bool}
use Rattle.std.proofs.lemmas.Bool.Decides.{nat_tests}
use Rattle.pairs.specs.declared.pair.Pair.{Pair}
use Rattle.pairs.specs.declared.change.Change.{Change}
use Rattle.pairs.specs.Orders.{then_by, pair_before, change_before, before_by_pair}

-- one level of an order
then_chain : (a b c : ℕ) (p q r : Bool) → (p ≡ true → q ≡ true → r ≡ true) → then_by a b p ≡ true → then_by b c q ≡ true → then_by a c r ≡ true
then_chain a b c p q r f h k = grind (arith, nat_tests)

number_chain : (a b c : ℕ) → nat_lt a b ≡ true → nat_lt b c ≡ true → nat_lt a c ≡ true
number_chain a b c h k = grind (arith, nat_tests)

mark_chain : (x y z : Bool) → (not x && y) ≡ true → (not y && z) ≡ true → (not x && z) ≡ true
mark_chain x y z h k = grind (arith, nat_tests)

pub pair_chain : (a b c : Pair) → pair_before a b ≡ true → pair_before b c ≡ true → pair_before a c ≡ true
pair_chain a b c = then_chain a.key b.key c.key _ _ _ (number_chain a.door b.door c.door)

pub change_chain : (a b c : Change) → change_before a b ≡ true → change_before b c ≡ true → change_before a c ≡ true
change_chain a b c = then_chain a.key b.key c.key _ _ _ (then_chain a.door b.door c.door _ _ _ (mark_chain a.added b.added c.added))

pub by_pair_chain : (a b c : Change) → before_by_pair a b ≡ true → before_by_pair b c ≡ true → before_by_pair a c ≡ true
by_pair_chain a b c = then_chain a.key b.key c.key _ _ _ (number_chain a.door b.door c.door)

pub change_irreflexive : (a : Change) → change_before a a ≡ false
change_irreflexive a = grind (arith, nat_tests)

pub by_pair_irreflexive : (a : Change) → before_by_pair a a ≡ false
by_pair_irreflexive a = grind (arith, nat_tests)

-- what is before by its pair is before
pub by_pair_before : (a b : Change) → before_by_pair a b ≡ true → change_before a b ≡ true
by_pair_before a b h = grind (arith, nat_tests)

abbrev change : ℕ → ℕ → Bool → Change
change k d m = record { key = k; door = d; added = m }

-- two changes of which neither is before the other are the same
same_change : (a b : Change) → a.key ≡ b.key → a.door ≡ b.door → a.added ≡ b.added → a ≡ b
same_change a b p q r = ap (λ (k : ℕ). change k a.door a.added) p ∙ (ap (λ (d : ℕ). change b.key d a.added) q ∙ ap (λ (m : Bool). change b.key b.door m) r)

pub change_total : (a b : Change) → change_before a b ≡ false → change_before b a ≡ false → a ≡ b
change_total a b p q = same_change a b (grind (arith, nat_tests)) (grind (arith, nat_tests)) (let s = cases_Bool a.added in let t = cases_Bool b.added in grind (arith, nat_tests))
