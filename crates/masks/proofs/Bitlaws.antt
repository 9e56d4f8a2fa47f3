-- The bits of masks: of and, or, not, powers and full masks; equality, parts, bounds and order by bits; the lowest bit.
use Rattle.std.proofs.Common.{◌≡◌, ℕ, zero, suc, ◌+◌, ◌-◌, ◌*◌, ◌/◌, ◌%◌, ◌^◌, ◌<◌, ◌≤◌, min, max, ◌⊎◌, sym, refl, ap, ◌∙◌, subst, inl, inr, ⊎_elim, mod-lt, zero-lt-suc, arith, pow_pos, pow_mono, shr-shr}
use native.Mathlib.Nat.{div-eq_of_lt}
use lib.Bits.{bit_and, bit_or, and_step, or_step, and_shr, or_shr, and_mask}
use lib.Arith.{bin_ind}
use lib.Count.{count_trailing_zeros, under}
use lib.Pow.{split}
use Rattle.std.proofs.lemmas.Bool.{cases_eq, cases_lt}
use Rattle.masks.specs.Masks.{bit, Has, Within}

two_pos : zero < 2
two_pos = zero-lt-suc 1

pub bit_lt : (x i : ℕ) → bit x i < 2
unfolding bit
bit_lt x i = mod-lt (x / 2 ^ i) two_pos

-- ---- the bits of the operations

and_low : (a b : ℕ) → bit_and a b % 2 ≡ min (a % 2) (b % 2)
and_low a b = omega (arith, and_step a b, mod-lt a two_pos, mod-lt b two_pos)

or_low : (a b : ℕ) → bit_or a b % 2 ≡ max (a % 2) (b % 2)
or_low a b = omega (arith, or_step a b, mod-lt a two_pos, mod-lt b two_pos)

pub bit_of_and : (a b i : ℕ) → bit (bit_and a b) i ≡ min (bit a i) (bit b i)
unfolding bit
bit_of_and a b i = ap (λ (v : ℕ). v % 2) (and_shr a b i) ∙ and_low (a / 2 ^ i) (b / 2 ^ i)

pub bit_of_or : (a b i : ℕ) → bit (bit_or a b) i ≡ max (bit a i) (bit b i)
unfolding bit
bit_of_or a b i = ap (λ (v : ℕ). v % 2) (or_shr a b i) ∙ or_low (a / 2 ^ i) (b / 2 ^ i)

-- what the code tests
pub bit_test : (x i : ℕ) → bit_and (x / 2 ^ i) 1 ≡ bit x i
unfolding bit
bit_test x i = and_mask (x / 2 ^ i) 1

pub bit_suc : (x i : ℕ) → bit x (suc i) ≡ bit (x / 2) i
unfolding bit
bit_suc x i = ap (λ (v : ℕ). v % 2) (ap (λ (k : ℕ). x / 2 ^ k) (omega arith) ∙ sym (shr-shr x 1 i))

pub bit_high : (x k i : ℕ) → bit (x / 2 ^ k) i ≡ bit x (k + i)
unfolding bit
bit_high x k i = ap (λ (v : ℕ). v % 2) (shr-shr x k i)

pub bit_first : (x : ℕ) → bit x 0 ≡ x % 2
unfolding bit
bit_first x = omega arith

pub bit_zero : (i : ℕ) → bit 0 i ≡ 0
bit_zero zero = bit_first 0
bit_zero (suc i) = bit_suc 0 i ∙ bit_zero i

pub bit_pow_same : (j : ℕ) → bit (2 ^ j) j ≡ 1
bit_pow_same zero = bit_first 1
bit_pow_same (suc j) =
    bit_suc (2 ^ suc j) j ∙ ap (λ (v : ℕ). bit v j) (let e : 2 ^ suc j / 2 ≡ 2 ^ j = omega arith in e) ∙ bit_pow_same j

pub bit_pow_other : (j i : ℕ) → (i ≡ j → ⊥) → bit (2 ^ j) i ≡ 0
bit_pow_other zero zero h = absurd (h refl)
bit_pow_other zero (suc i) h = bit_suc 1 i ∙ bit_zero i
bit_pow_other (suc j) zero h = bit_first (2 ^ suc j) ∙ omega arith
bit_pow_other (suc j) (suc i) h =
    bit_suc (2 ^ suc j) i ∙ ap (λ (v : ℕ). bit v i) (let e : 2 ^ suc j / 2 ≡ 2 ^ j = omega arith in e)
    ∙ bit_pow_other j i (λ e. h (ap suc e))

pub bit_cases : (x i : ℕ) → Has x i ⊎ (bit x i ≡ 0)
bit_cases x i = ⊎_elim (λ e. inl e) (λ n. inr (omega (arith, bit_lt x i))) (cases_eq (bit x i) 1)

-- ---- a mask of k bits has no number from k on

pub below_has : (k x i : ℕ) → x < 2 ^ k → Has x i → i < k
unfolding bit
below_has k x i h e =
    ⊎_elim (λ l. l)
    (λ g. let z : x / 2 ^ i ≡ 0 = div-eq_of_lt (omega (arith, pow_mono g)) in absurd (omega arith)) (cases_lt i k)

pub bit_above : (k x i : ℕ) → x < 2 ^ k → k ≤ i → bit x i ≡ 0
bit_above k x i h g = ⊎_elim (λ e. absurd (omega (arith, below_has k x i h e))) (λ e. e) (bit_cases x i)

-- ---- one more: x | 1 << j

pub has_more_same : (x j : ℕ) → Has (bit_or x (2 ^ j)) j
has_more_same x j = omega (arith, bit_of_or x (2 ^ j) j, bit_pow_same j, bit_lt x j)

pub has_more : (x j i : ℕ) → Has x i → Has (bit_or x (2 ^ j)) i
has_more x j i h = omega (arith, bit_of_or x (2 ^ j) i, bit_lt (2 ^ j) i)

pub has_more_cases : (x j i : ℕ) → Has (bit_or x (2 ^ j)) i → (i ≡ j) ⊎ Has x i
has_more_cases x j i h =
    ⊎_elim (λ e. inl e) (λ ne. inr (omega (arith, bit_of_or x (2 ^ j) i, bit_pow_other j i ne))) (cases_eq i j)

-- ---- equality, parts, emptiness

pub no_bits : (x : ℕ) → ((i : ℕ) → bit x i ≡ 0) → x ≡ 0
no_bits =
    bin_ind (λ (n : ℕ). ((i : ℕ) → bit n i ≡ 0) → n ≡ 0) (λ h. refl)
    (λ n ih h. omega (arith, ih (λ i. sym (bit_suc n i) ∙ h (suc i)), bit_first n, h 0))

pub none_has : (x : ℕ) → ((i : ℕ) → Has x i → ⊥) → x ≡ 0
none_has x h = no_bits x (λ i. let n : bit x i ≡ 1 → ⊥ = h i in omega (arith, bit_lt x i))

pub same_bits : (a b : ℕ) → ((i : ℕ) → bit a i ≡ bit b i) → a ≡ b
same_bits =
    bin_ind (λ (a : ℕ). (b : ℕ) → ((i : ℕ) → bit a i ≡ bit b i) → a ≡ b)
    (λ b h. sym (no_bits b (λ i. sym (h i) ∙ bit_zero i)))
    (λ a ih b h. omega (arith, ih (b / 2) (λ i. sym (bit_suc a i) ∙ h (suc i) ∙ bit_suc b i), bit_first a, bit_first b, h 0))

-- masks of k bits are told apart by these bits alone
pub same_below : (k a b : ℕ) → a < 2 ^ k → b < 2 ^ k → ((i : ℕ) → i < k → bit a i ≡ bit b i) → a ≡ b
same_below k a b p q h =
    same_bits a b (λ i. ⊎_elim (λ l. h i l) (λ g. bit_above k a i p g ∙ sym (bit_above k b i q g)) (cases_lt i k))

pub same_bit : (a b i : ℕ) → (Has a i → Has b i) → (Has b i → Has a i) → bit a i ≡ bit b i
same_bit a b i p q =
    ⊎_elim (λ e. e ∙ sym (p e)) (λ n. ⊎_elim (λ e. absurd (n (q e))) (λ m. omega (arith, bit_lt a i, bit_lt b i)) (cases_eq (bit b i) 1)) (cases_eq (bit a i) 1)

pub same_sets : (a b : ℕ) → Within a b → Within b a → a ≡ b
same_sets a b p q = same_bits a b (λ i. same_bit a b i (p i) (q i))

-- what `a & b == a` tests
pub within_from : (a b : ℕ) → bit_and a b ≡ a → Within a b
within_from a b e i h = omega (arith, bit_of_and a b i, ap (λ (v : ℕ). bit v i) e, bit_lt b i)

pub within_test : (a b : ℕ) → Within a b → bit_and a b ≡ a
within_test a b h =
    same_sets (bit_and a b) a (λ i k. omega (arith, bit_of_and a b i, bit_lt a i, bit_lt b i))
    (λ i k. omega (arith, bit_of_and a b i, h i k))

pub has_and : (a b i : ℕ) → Has a i → Has b i → Has (bit_and a b) i
has_and a b i p q = omega (arith, bit_of_and a b i)

pub and_has : (a b i : ℕ) → Has (bit_and a b) i → Has a i × Has b i
and_has a b i h =
    (omega (arith, bit_of_and a b i, bit_lt a i, bit_lt b i), omega (arith, bit_of_and a b i, bit_lt a i, bit_lt b i))

pub has_or : (a b i : ℕ) → Has a i ⊎ Has b i → Has (bit_or a b) i
has_or a b i h =
    ⊎_elim (λ (p : Has a i). omega (arith, bit_of_or a b i, bit_lt b i)) (λ (p : Has b i). omega (arith, bit_of_or a b i, bit_lt a i)) h

pub or_has : (a b i : ℕ) → Has (bit_or a b) i → Has a i ⊎ Has b i
or_has a b i h = ⊎_elim (λ e. inl e) (λ n. inr (omega (arith, bit_of_or a b i, bit_lt a i, bit_lt b i))) (cases_eq (bit a i) 1)

-- ---- bounds and order

pub has_below : (k x : ℕ) → ((i : ℕ) → Has x i → i < k) → x < 2 ^ k
has_below k x h =
    let z : x / 2 ^ k ≡ 0 = none_has (x / 2 ^ k) (λ i e. let l = h (k + i) (sym (bit_high x k i) ∙ e) in omega arith) in
    omega (arith, ap (λ (v : ℕ). v * 2 ^ k + x % 2 ^ k) z, split x k, mod-lt x (pow_pos k))

pub full_has : (k i : ℕ) → i < k → Has (2 ^ k - 1) i
full_has zero i h = absurd (omega arith)
full_has (suc k) zero h = bit_first (2 ^ suc k - 1) ∙ omega (arith, pow_pos k)
full_has (suc k) (suc i) h =
    bit_suc (2 ^ suc k - 1) i
    ∙ ap (λ (v : ℕ). bit v i) (let e : (2 ^ suc k - 1) / 2 ≡ 2 ^ k - 1 = omega (arith, pow_pos k) in e)
    ∙ full_has k i (omega arith)

-- `!x` of a mask of k bits
pub bit_not : (k x i : ℕ) → x < 2 ^ k → i < k → bit (2 ^ k - 1 - x) i ≡ 1 - bit x i
bit_not zero x i h l = absurd (omega arith)
bit_not (suc k) x zero h l = bit_first (2 ^ suc k - 1 - x) ∙ (let e : (2 ^ suc k - 1 - x) % 2 ≡ 1 - x % 2 = omega arith in e) ∙ ap (λ (v : ℕ). 1 - v) (sym (bit_first x))
bit_not (suc k) x (suc i) h l =
    bit_suc (2 ^ suc k - 1 - x) i
    ∙ ap (λ (v : ℕ). bit v i) (let e : (2 ^ suc k - 1 - x) / 2 ≡ 2 ^ k - 1 - x / 2 = omega arith in e)
    ∙ bit_not k (x / 2) i (omega arith) (omega arith) ∙ ap (λ (v : ℕ). 1 - v) (sym (bit_suc x i))

-- the highest bit at which two masks differ decides their order
pub less_at : (a b j : ℕ) → (Has a j → ⊥) → Has b j → ((i : ℕ) → j < i → bit a i ≡ bit b i) → a < b
unfolding bit
less_at a b j n h above =
    let top : a / 2 ^ suc j ≡ b / 2 ^ suc j = same_bits (a / 2 ^ suc j) (b / 2 ^ suc j) (λ i. bit_high a (suc j) i ∙ above (suc j + i) (omega arith) ∙ sym (bit_high b (suc j) i)) in
    let ta : a / 2 ^ j / 2 ≡ a / 2 ^ suc j = shr-shr a j 1 ∙ ap (λ (k : ℕ). a / 2 ^ k) (omega arith) in
    let tb : b / 2 ^ j / 2 ≡ b / 2 ^ suc j = shr-shr b j 1 ∙ ap (λ (k : ℕ). b / 2 ^ k) (omega arith) in
    let m : bit a j ≡ 1 → ⊥ = n in
    let q : b / 2 ^ j ≡ suc (a / 2 ^ j) = omega (arith, bit_lt a j) in
    omega (arith, split a j, ap (λ (v : ℕ). v * 2 ^ j + b % 2 ^ j) (sym q) ∙ split b j, mod-lt a (pow_pos j))

-- ---- the lowest bit, by `trailing_zeros`, and the rest, by `x & (x - 1)`

pub trailing_odd : (k x : ℕ) → x % 2 ≡ 1 → count_trailing_zeros (suc k) x ≡ 0
unfolding count_trailing_zeros
trailing_odd k x e = ap (λ (d : ℕ). under d (count_trailing_zeros k (x / 2))) e

pub trailing_even : (k x : ℕ) → x % 2 ≡ 0 → count_trailing_zeros (suc k) x ≡ suc (count_trailing_zeros k (x / 2))
unfolding count_trailing_zeros
trailing_even k x e = ap (λ (d : ℕ). under d (count_trailing_zeros k (x / 2))) e

even : (x : ℕ) → (x % 2 ≡ 1 → ⊥) → x % 2 ≡ 0
even x ne = omega (arith, mod-lt x two_pos)

pub lowest_has : (k x : ℕ) → x < 2 ^ k → 0 < x → Has x (count_trailing_zeros k x)
lowest_has zero x h p = absurd (omega arith)
lowest_has (suc k) x h p =
    ⊎_elim (λ e. subst (λ (t : ℕ). Has x t) (sym (trailing_odd k x e)) (bit_first x ∙ e))
    (λ ne.
    let e = even x ne in
    subst (λ (t : ℕ). Has x t) (sym (trailing_even k x e)) (bit_suc x (count_trailing_zeros k (x / 2)) ∙ lowest_has k (x / 2) (omega arith) (omega arith)))
    (cases_eq (x % 2) 1)

pub lowest_le : (k x i : ℕ) → x < 2 ^ k → Has x i → count_trailing_zeros k x ≤ i
lowest_le zero x i h p = absurd (let e : x ≡ 0 = omega arith in omega (arith, ap (λ (v : ℕ). bit v i) e, bit_zero i))
lowest_le (suc k) x zero h p = omega (arith, trailing_odd k x (sym (bit_first x) ∙ p))
lowest_le (suc k) x (suc i) h p =
    ⊎_elim (λ e. omega (arith, trailing_odd k x e))
    (λ ne. omega (arith, trailing_even k x (even x ne), lowest_le k (x / 2) i (omega arith) (sym (bit_suc x i) ∙ p))) (cases_eq (x % 2) 1)

pub dropped_has : (k x i : ℕ) → x < 2 ^ k → Has x i → (i ≡ count_trailing_zeros k x → ⊥) → Has (x - 1) i
dropped_has zero x i h p n = absurd (let e : x ≡ 0 = omega arith in omega (arith, ap (λ (v : ℕ). bit v i) e, bit_zero i))
dropped_has (suc k) x zero h p n = absurd (n (sym (trailing_odd k x (sym (bit_first x) ∙ p))))
dropped_has (suc k) x (suc i) h p n =
    ⊎_elim
    (λ e. bit_suc (x - 1) i ∙ ap (λ (v : ℕ). bit v i) (let q : (x - 1) / 2 ≡ x / 2 = omega arith in q) ∙ sym (bit_suc x i) ∙ p)
    (λ ne.
    let e = even x ne in
    let q : Has (x / 2) i = sym (bit_suc x i) ∙ p in
    bit_suc (x - 1) i ∙ ap (λ (v : ℕ). bit v i) (let q : (x - 1) / 2 ≡ x / 2 - 1 = omega arith in q)
    ∙ dropped_has k (x / 2) i (omega arith) q (λ d. n (ap suc d ∙ sym (trailing_even k x e))))
    (cases_eq (x % 2) 1)

pub dropped_lacks : (k x : ℕ) → x < 2 ^ k → 0 < x → bit (x - 1) (count_trailing_zeros k x) ≡ 0
dropped_lacks zero x h p = absurd (omega arith)
dropped_lacks (suc k) x h p =
    ⊎_elim
    (λ (e : x % 2 ≡ 1). ap (bit (x - 1)) (trailing_odd k x e) ∙ bit_first (x - 1) ∙ omega arith)
    (λ ne. let e = even x ne in
    ap (bit (x - 1)) (trailing_even k x e) ∙ bit_suc (x - 1) (count_trailing_zeros k (x / 2))
    ∙ ap (λ (v : ℕ). bit v (count_trailing_zeros k (x / 2))) (let q : (x - 1) / 2 ≡ x / 2 - 1 = omega arith in q)
    ∙ dropped_lacks k (x / 2) (omega arith) (omega arith))
    (cases_eq (x % 2) 1)
