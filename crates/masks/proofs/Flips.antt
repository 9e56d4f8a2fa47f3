-- One bit set or cleared, by a sum or a difference.
use Rattle.std.proofs.Common.{◌≡◌, ℕ, zero, suc, ◌+◌, ◌-◌, ◌*◌, ◌/◌, ◌%◌, ◌^◌, ◌<◌, ◌≤◌, sym, refl, ap, ◌∙◌, ⊎_elim, mod-lt, suc-mul, arith, pow_pos}
use lib.Bits.{bit_and, bit_or, or_disjoint}
use lib.Count.{ones, ones_step}
use lib.Pow.{split}
use Rattle.std.proofs.lemmas.Nat.{shr_high}
use Rattle.std.proofs.lemmas.Bool.{cases_eq, cases_lt}
use Rattle.masks.specs.Masks.{bit}
use Rattle.masks.proofs.Bitlaws.{bit_of_and, bit_of_or, bit_first, bit_suc, bit_pow_same, bit_pow_other, no_bits, below_has}

pub or_is : (x d : ℕ) → bit x d ≡ 0 → bit_or x (2 ^ d) ≡ x + 2 ^ d
or_is x d h = or_disjoint x (2 ^ d) (no_bits (bit_and x (2 ^ d)) (λ i. ⊎_elim
    (λ (e : i ≡ d). omega (arith, bit_of_and x (2 ^ d) i, ap (bit x) e))
    (λ n. omega (arith, bit_of_and x (2 ^ d) i, bit_pow_other d i n)) (cases_eq i d)))

pub put_same : (x d : ℕ) → bit x d ≡ 0 → bit (x + 2 ^ d) d ≡ 1
put_same x d h = ap (λ (v : ℕ). bit v d) (sym (or_is x d h)) ∙ omega (arith, bit_of_or x (2 ^ d) d, bit_pow_same d)

pub put_other : (x d i : ℕ) → bit x d ≡ 0 → (i ≡ d → ⊥) → bit (x + 2 ^ d) i ≡ bit x i
put_other x d i h n = ap (λ (v : ℕ). bit v i) (sym (or_is x d h)) ∙ omega (arith, bit_of_or x (2 ^ d) i, bit_pow_other d i n)

pub out_le : (x d : ℕ) → bit x d ≡ 1 → 2 ^ d ≤ x
out_le x d h = ⊎_elim (λ (l : x < 2 ^ d). absurd (omega (arith, below_has d x d l h))) (λ l. l) (cases_lt x (2 ^ d))

cleared : (x d q : ℕ) → x / 2 ^ d ≡ q → q % 2 ≡ 1 → bit (x - 2 ^ d) d ≡ 0
unfolding bit
cleared x d zero e o = absurd (omega arith)
cleared x d (suc p) e o =
    let s : suc p * 2 ^ d + x % 2 ^ d ≡ x = ap (λ (v : ℕ). v * 2 ^ d + x % 2 ^ d) (sym e) ∙ split x d in
    let m = suc-mul p (2 ^ d) in
    let z : x - 2 ^ d ≡ p * 2 ^ d + x % 2 ^ d = omega arith in
    ap (λ (v : ℕ). v / 2 ^ d % 2) z ∙ ap (λ (v : ℕ). v % 2) (shr_high p d (x % 2 ^ d) (mod-lt x (pow_pos d))) ∙ omega arith

pub out_same : (x d : ℕ) → bit x d ≡ 1 → bit (x - 2 ^ d) d ≡ 0
unfolding bit
out_same x d h = cleared x d (x / 2 ^ d) refl h

pub out_other : (x d i : ℕ) → bit x d ≡ 1 → (i ≡ d → ⊥) → bit (x - 2 ^ d) i ≡ bit x i
out_other x d i h n =
    sym (put_other (x - 2 ^ d) d i (out_same x d h) n)
    ∙ ap (λ (v : ℕ). bit v i) (let e : x - 2 ^ d + 2 ^ d ≡ x = omega (arith, out_le x d h) in e)

-- the numbers in a set, counted: one more, one fewer
pub ones_put : (x d : ℕ) → bit x d ≡ 0 → ones (x + 2 ^ d) ≡ ones x + 1
ones_put x zero h =
    let b = bit_first x in
    let q : (x + 1) / 2 ≡ x / 2 = omega arith in
    omega (arith, ones_step (x + 1), ones_step x, ap ones q)
ones_put x (suc d) h =
    let q : (x + 2 ^ suc d) / 2 ≡ x / 2 + 2 ^ d = omega arith in
    let r : (x + 2 ^ suc d) % 2 ≡ x % 2 = omega arith in
    omega (arith, ones_step (x + 2 ^ suc d), ones_step x, ap ones q, ones_put (x / 2) d (sym (bit_suc x d) ∙ h))

pub ones_out : (x d : ℕ) → bit x d ≡ 1 → ones (x - 2 ^ d) + 1 ≡ ones x
ones_out x d h =
    sym (ones_put (x - 2 ^ d) d (out_same x d h))
    ∙ ap ones (let e : x - 2 ^ d + 2 ^ d ≡ x = omega (arith, out_le x d h) in e)
