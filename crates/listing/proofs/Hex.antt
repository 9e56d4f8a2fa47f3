-- Hexadecimal digits, one place after another.
use Rattle.std.proofs.Common.{◌≡◌, ℕ, zero, suc, ◌+◌, ◌*◌, ◌/◌, ◌%◌, ◌^◌, ◌<◌, ◌≤◌, List, [], ◌∷◌, ◌++◌, length, get_or, codes, sym, refl, ap, ◌∙◌, subst, append-nil, append_assoc, le_of_suc-le-suc, not-suc-le-zero, add-zero, add-suc, mod-lt, mod-eq_of_lt, mul_assoc, add-mul, suc-add, pow-suc, zero-add, mul-suc, arith, pow-add, rules}
use native.Mathlib.Nat.{pow-succ', one-le-pow}
use lib.Arith.{mod-mul}
use Rattle.std.specs.Str.Parse.{digits_value, digits_value_after}
use Rattle.std.specs.Char.{digit_value}
use Rattle.listing.specs.Digits.{hex_digit_of, hex_digits, hexadecimal}

pub length_hex_digits : (k x : ℕ) → length (hex_digits k x) ≡ k
length_hex_digits zero x = refl
length_hex_digits (suc k) x = ap suc (length_hex_digits k x)

-- a place is four bits
sixteens : (k : ℕ) → 2 ^ (4 * k) ≡ 16 ^ k
sixteens zero = refl
sixteens (suc k) = ap (λ (x : ℕ). 2 ^ x) (mul-suc 4 k) ∙ pow-add 2 (4 * k) 4 ∙ ap (λ (x : ℕ). x * 16) (sixteens k) ∙ sym (pow-suc 16 k)

-- the digit of the highest place left goes from what is to come to what is written
pub hex_more : {p b : ℕ} {r : List ℕ} (s w : List ℕ) (k x : ℕ) → p ≡ suc k → s ++ hex_digits p x ≡ w → b ≡ hex_digit_of (x / 2 ^ (4 * k) % 16) → r ≡ s ++ (b ∷ []) → r ++ hex_digits k x ≡ w
hex_more s w k x e h d f = let at = ap (λ (n : ℕ). hex_digit_of (x / n % 16)) (sixteens k) in let whole = rw e at h in ap (λ (z : List ℕ). z ++ hex_digits k x) f ∙ append_assoc s _ (hex_digits k x) ∙ ap (λ (z : ℕ). s ++ (z ∷ hex_digits k x)) (d ∙ at) ∙ whole

-- and once none is left all are written
pub hex_done : (s w : List ℕ) (k x : ℕ) → k ≤ 0 → s ++ hex_digits k x ≡ w → s ≡ w
hex_done s w k x l h = let z : k ≡ 0 = omega arith in sym (append-nil s) ∙ subst (λ (n : ℕ). s ++ hex_digits n x ≡ w) z h

-- the bytes of a list are digits that count up from a number
abbrev Counts : ℕ → List ℕ → Type 0
Counts n [] = Unit {0}
Counts n (c ∷ cs) = (digit_value c ≡ n) × Counts (suc n) cs

counted : (n : ℕ) (cs : List ℕ) → Counts n cs → (d : ℕ) → d < length cs → digit_value (get_or cs d 0) ≡ n + d
counted n [] h d lt = absurd (not-suc-le-zero lt)
counted n (c ∷ cs) h zero lt = h.0 ∙ sym (add-zero n)
counted n (c ∷ cs) h (suc d) lt = counted (suc n) cs h.1 d (le_of_suc-le-suc lt) ∙ suc-add n d ∙ sym (add-suc n d)

value_hex_digit : (d : ℕ) → d < 16 → digit_value (hex_digit_of d) ≡ d
value_hex_digit d lt = counted 0 (codes "0123456789abcdef") (search rules) d lt ∙ zero-add d

parted : (n e p r : ℕ) → (n * 16 + e) * p + r ≡ n * (16 * p) + (e * p + r)
parted n e p r = omega (arith, add-mul (n * 16) e p, mul_assoc n 16 p)

value_after : (k n x : ℕ) → digits_value_after 16 n (hex_digits k x) ≡ n * 16 ^ k + x % 16 ^ k
value_after zero n x = omega arith
value_after (suc k) n x =
    let e : ℕ = x / 16 ^ k % 16 in
    let low : x % 16 ^ suc k ≡ e * 16 ^ k + x % 16 ^ k = ap (λ (p : ℕ). x % p) (pow-succ' 16 k) ∙ mod-mul x (omega arith) (one-le-pow k 16 (omega arith)) in
    value_after k (n * 16 + digit_value (hex_digit_of e)) x
    ∙ ap (λ (d : ℕ). (n * 16 + d) * 16 ^ k + x % 16 ^ k) (value_hex_digit e (mod-lt (x / 16 ^ k) (omega arith)))
    ∙ parted n e (16 ^ k) (x % 16 ^ k)
    ∙ ap (λ (z : ℕ). n * (16 * 16 ^ k) + z) (sym low)
    ∙ ap (λ (p : ℕ). n * p + x % 16 ^ suc k) (sym (pow-succ' 16 k))

pub value_hexadecimal : (x : ℕ) → x < 2 ^ 64 → digits_value 16 (hexadecimal x) ≡ x
value_hexadecimal x fits = value_after 16 0 x ∙ omega (arith, mod-eq_of_lt {n = x} {m = 2 ^ 64} fits)
