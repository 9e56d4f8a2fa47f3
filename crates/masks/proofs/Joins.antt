-- A set with one number joined, and one parted from a number.
use Rattle.std.proofs.Common.{◌≡◌, ℕ, ◌+◌, ◌-◌, ◌^◌, ◌<◌, ◌≤◌, min, true, false, ap, ◌∙◌, ⊎_elim, arith, pow_pos}
use lib.Bits.{bit_and, bit_or, or_lt, and_lt}
use lib.Count.{ones}
use lib.Pow.{pow-lt}
use Rattle.std.proofs.lemmas.Bool.{cases_eq, eq-eqb, ne_eqb, eqb-true, eqb-false, cond-true, cond-false}
use Rattle.masks.specs.Masks.{bit, Has, Within, has_bit, is_within, joined, parted, first_set}
use Rattle.masks.proofs.Bitlaws.{bit_lt, bit_cases, bit_of_and, bit_of_or, bit_not, bit_pow_same, bit_pow_other, below_has, same_below, same_bits, within_from, within_test, full_has}
use Rattle.masks.proofs.Flips.{put_same, put_other, out_le, out_same, out_other, ones_put, ones_out}

-- ---- the test and the bit, and the two cases of joining and parting

pub has_true : (x i : ℕ) → bit x i ≡ 1 → has_bit x i ≡ true
has_true x i h = eq-eqb (bit x i) 1 h

pub has_false : (x i : ℕ) → bit x i ≡ 0 → has_bit x i ≡ false
has_false x i h = ne_eqb (bit x i) 1 (λ e. omega arith)

pub true_has : (x i : ℕ) → has_bit x i ≡ true → bit x i ≡ 1
true_has x i e = eqb-true (bit x i) 1 e

pub false_lacks : (x i : ℕ) → has_bit x i ≡ false → bit x i ≡ 0
false_lacks x i e = ⊎_elim (λ h. absurd (eqb-false (bit x i) 1 e h)) (λ z. z) (bit_cases x i)

pub joined_held : (x i : ℕ) → bit x i ≡ 1 → joined x i ≡ x
unfolding joined
joined_held x i h = cond-true (has_bit x i) x (x + 2 ^ i) (has_true x i h)

pub joined_fresh : (x i : ℕ) → bit x i ≡ 0 → joined x i ≡ x + 2 ^ i
unfolding joined
joined_fresh x i h = cond-false (has_bit x i) x (x + 2 ^ i) (has_false x i h)

pub parted_held : (x i : ℕ) → bit x i ≡ 1 → parted x i ≡ x - 2 ^ i
unfolding parted
parted_held x i h = cond-true (has_bit x i) (x - 2 ^ i) x (has_true x i h)

pub parted_lacking : (x i : ℕ) → bit x i ≡ 0 → parted x i ≡ x
unfolding parted
parted_lacking x i h = cond-false (has_bit x i) (x - 2 ^ i) x (has_false x i h)

-- ---- bit by bit

pub joined_same : (x i : ℕ) → bit (joined x i) i ≡ 1
joined_same x i =
    ⊎_elim (λ h. ap (λ (v : ℕ). bit v i) (joined_held x i h) ∙ h)
    (λ h. ap (λ (v : ℕ). bit v i) (joined_fresh x i h) ∙ put_same x i h) (bit_cases x i)

pub joined_other : (x i j : ℕ) → (j ≡ i → ⊥) → bit (joined x i) j ≡ bit x j
joined_other x i j n =
    ⊎_elim (λ h. ap (λ (v : ℕ). bit v j) (joined_held x i h))
    (λ h. ap (λ (v : ℕ). bit v j) (joined_fresh x i h) ∙ put_other x i j h n) (bit_cases x i)

pub parted_same : (x i : ℕ) → bit (parted x i) i ≡ 0
parted_same x i =
    ⊎_elim (λ h. ap (λ (v : ℕ). bit v i) (parted_held x i h) ∙ out_same x i h)
    (λ h. ap (λ (v : ℕ). bit v i) (parted_lacking x i h) ∙ h) (bit_cases x i)

pub parted_other : (x i j : ℕ) → (j ≡ i → ⊥) → bit (parted x i) j ≡ bit x j
parted_other x i j n =
    ⊎_elim (λ h. ap (λ (v : ℕ). bit v j) (parted_held x i h) ∙ out_other x i j h n)
    (λ h. ap (λ (v : ℕ). bit v j) (parted_lacking x i h)) (bit_cases x i)

-- ---- what the code computes

pub or_joined : (x i : ℕ) → bit_or x (2 ^ i) ≡ joined x i
or_joined x i =
    same_bits (bit_or x (2 ^ i)) (joined x i)
    (λ j. ⊎_elim
    (λ (e : j ≡ i). omega (arith, bit_of_or x (2 ^ i) j, ap (bit (2 ^ i)) e, bit_pow_same i, bit_lt x j, ap (bit (joined x i)) e, joined_same x i))
    (λ n. omega (arith, bit_of_or x (2 ^ i) j, bit_pow_other i j n, joined_other x i j n)) (cases_eq j i))

pub parted_le : (x i : ℕ) → parted x i ≤ x
parted_le x i = ⊎_elim (λ h. omega (arith, parted_held x i h)) (λ h. omega (arith, parted_lacking x i h)) (bit_cases x i)

pub joined_lt : (k x i : ℕ) → x < 2 ^ k → i < k → joined x i < 2 ^ k
joined_lt k x i h l = let p : 2 ^ i < 2 ^ k = pow-lt l in omega (arith, or_joined x i, or_lt k x (2 ^ i) h p)

pub and_parted : (k x i : ℕ) → x < 2 ^ k → i < k → bit_and x (2 ^ k - 1 - 2 ^ i) ≡ parted x i
and_parted k x i h l =
    let p : 2 ^ i < 2 ^ k = pow-lt l in
    same_below k (bit_and x (2 ^ k - 1 - 2 ^ i)) (parted x i)
    (and_lt k x (2 ^ k - 1 - 2 ^ i) h (omega (arith, pow_pos k))) (omega (arith, parted_le x i))
    (λ j b. ⊎_elim
    (λ (e : j ≡ i). omega (arith, bit_of_and x (2 ^ k - 1 - 2 ^ i) j, bit_not k (2 ^ i) j p b, ap (bit (2 ^ i)) e, bit_pow_same i, ap (bit (parted x i)) e, parted_same x i))
    (λ n. omega (arith, bit_of_and x (2 ^ k - 1 - 2 ^ i) j, bit_not k (2 ^ i) j p b, bit_pow_other i j n, bit_lt x j, parted_other x i j n)) (cases_eq j i))

-- ---- one undoes the other, and each moves the count by one

pub parted_joined : (x i : ℕ) → bit x i ≡ 0 → parted (joined x i) i ≡ x
parted_joined x i h = omega (arith, parted_held (joined x i) i (joined_same x i), joined_fresh x i h)

pub joined_parted : (x i : ℕ) → bit x i ≡ 1 → joined (parted x i) i ≡ x
joined_parted x i h = omega (arith, joined_fresh (parted x i) i (parted_same x i), parted_held x i h, out_le x i h)

pub ones_joined : (x i : ℕ) → bit x i ≡ 0 → ones (joined x i) ≡ ones x + 1
ones_joined x i h = ap ones (joined_fresh x i h) ∙ ones_put x i h

pub ones_parted : (x i : ℕ) → bit x i ≡ 1 → ones (parted x i) + 1 ≡ ones x
ones_parted x i h = ap (λ (v : ℕ). ones v + 1) (parted_held x i h) ∙ ones_out x i h

-- ---- parts, and the first numbers

pub test_within : (x y : ℕ) → is_within x y ≡ true → Within x y
test_within x y e = within_from x y (eqb-true (bit_and x y) x e)

pub within_passes : (x y : ℕ) → Within x y → is_within x y ≡ true
within_passes x y h = eq-eqb (bit_and x y) x (within_test x y h)

pub first_has : (n i : ℕ) → i < min n 64 → Has (first_set n) i
first_has n i l = full_has (min n 64) i l

pub first_only : (n i : ℕ) → Has (first_set n) i → i < min n 64
first_only n i h = below_has (min n 64) (first_set n) i (omega (arith, pow_pos (min n 64))) h
