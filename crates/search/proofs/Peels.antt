-- A mask less its lowest number, and the order of masks by parts.
use Rattle.std.proofs.Common.{◌≡◌, ℕ, ◌+◌, ◌-◌, ◌/◌, ◌^◌, ◌<◌, ◌≤◌, sym, ap, ◌∙◌, subst, ⊎_elim, arith}
use lib.Bits.{and_le_r}
use lib.Pow.{shr_mono}
use Rattle.std.proofs.lemmas.Bool.{cases_eq, cases_lt}
use Rattle.masks.specs.Masks.{bit, Has, Within}
use Rattle.masks.proofs.Bitlaws.{bit_zero, bit_high, within_test}

pub has_zero : (i : ℕ) → Has 0 i → ⊥
has_zero i h = omega (arith, bit_zero i)

-- a part that lacks something is less
pub part_less : (a b j : ℕ) → Within a b → Has b j → (Has a j → ⊥) → a < b
part_less a b j w h n =
    let e = within_test a b w in
    ⊎_elim (λ (q : a ≡ b). absurd (n (subst (λ (v : ℕ). Has v j) (sym q) h))) (λ m. omega (arith, and_le_r a b)) (cases_eq a b)

-- the same where it is a part from j on
pub above_less : (a b j i : ℕ) → ((k : ℕ) → j ≤ k → Has a k → Has b k) → j ≤ i → Has b i → (Has a i → ⊥) → a < b
above_less a b j i w l h n =
    let e : j + (i - j) ≡ i = omega arith in
    let q = part_less (a / 2 ^ j) (b / 2 ^ j) (i - j) (λ k p. bit_high b j k ∙ w (j + k) (omega arith) (sym (bit_high a j k) ∙ p))
    (bit_high b j (i - j) ∙ ap (bit b) e ∙ h) (λ p. n (ap (bit a) (sym e) ∙ sym (bit_high a j (i - j)) ∙ p)) in
    less_high a b j q
  where
    less_high : (a b j : ℕ) → a / 2 ^ j < b / 2 ^ j → a < b
    less_high a b j q = ⊎_elim (λ (l : a < b). l) (λ (g : b ≤ a). absurd (omega (arith, shr_mono j g))) (cases_lt a b)
