-- What a has and b lacks, and what rows share, as masks.
use Rattle.std.proofs.Common.{◌≡◌, ℕ, ◌-◌, ◌^◌, ◌<◌, ◌≤◌, Bool, not, eqb, MatchBool, sym, ap, subst, ⊎_elim, arith}
use lib.Bits.{bit_and, bit_or}
use lib.Count.{count_trailing_zeros}
use Rattle.std.proofs.lemmas.Bool.{cases_eq, cases_Bool, eqb-true, eqb-false}
use Rattle.masks.specs.Masks.{bit, Has, first_set}
use Rattle.masks.proofs.Bitlaws.{bit_lt, bit_not, bit_zero, bit_pow_other, has_and, and_has, or_has, below_has, has_below, lowest_has}
use Rattle.masks.proofs.Joins.{first_has, first_only}
use Rattle.difference.specs.Changes.{OnlyIn, Lacks}

-- `a & !b`
pub minus_has : (a b i : ℕ) → i < 64 → b < 2 ^ 64 → Has (bit_and a (2 ^ 64 - 1 - b)) i → Has a i × (Has b i → ⊥)
minus_has a b i l f h =
    let p = and_has a (2 ^ 64 - 1 - b) i h in
    (p.0, λ q. omega (arith, bit_not 64 b i f l, p.1))

pub has_minus : (a b i : ℕ) → i < 64 → b < 2 ^ 64 → Has a i → (Has b i → ⊥) → Has (bit_and a (2 ^ 64 - 1 - b)) i
has_minus a b i l f h n =
    let z : bit b i ≡ 1 → ⊥ = n in
    let e : bit b i ≡ 0 = omega (arith, bit_lt b i) in
    has_and a (2 ^ 64 - 1 - b) i h (omega (arith, bit_not 64 b i f l))

pub no_has : (x i : ℕ) → x ≡ 0 → Has x i → ⊥
no_has x i e h = omega (arith, ap (λ (v : ℕ). bit v i) e, bit_zero i)

pub some_has : (x : ℕ) → x < 2 ^ 64 → (x ≡ 0 → ⊥) → (i : ℕ) × Has x i
some_has x l n = (count_trailing_zeros 64 x, lowest_has 64 x l (omega arith))

pub one_has : (u k : ℕ) → Has (2 ^ u) k → k ≡ u
one_has u k h = ⊎_elim (λ (e : k ≡ u). e) (λ ne. absurd (omega (arith, bit_pow_other u k ne))) (cases_eq k u)

pub and_lt : (a b : ℕ) → a < 2 ^ 64 → bit_and a b < 2 ^ 64
and_lt a b l = has_below 64 (bit_and a b) (λ i h. below_has 64 a i l (and_has a b i h).0)

pub or_lt : (a b : ℕ) → a < 2 ^ 64 → b < 2 ^ 64 → bit_or a b < 2 ^ 64
or_lt a b la lb = has_below 64 (bit_or a b) (λ i h. ⊎_elim (λ p. below_has 64 a i la p) (λ p. below_has 64 b i lb p) (or_has a b i h))

-- a & !b as a set with something in it
pub lacks_has : (a b : ℕ) → a < 2 ^ 64 → b < 2 ^ 64 → (i : ℕ) → Has (bit_and a (2 ^ 64 - 1 - b)) i → Lacks a b
lacks_has a b fa fb i h =
    let l = below_has 64 a i fa (and_has a (2 ^ 64 - 1 - b) i h).0 in
    let m = minus_has a b i l fb h in
    (i, m.0, m.1)

pub has_lacks : (a b : ℕ) → a < 2 ^ 64 → b < 2 ^ 64 → (l : Lacks a b) → Has (bit_and a (2 ^ 64 - 1 - b)) l.0
has_lacks a b fa fb l = has_minus a b l.0 (below_has 64 a l.0 fa l.1) fb l.1 l.2

pub only_is : (a b n f : ℕ) → a < 2 ^ 64 → b < 2 ^ 64 → n ≤ 64 → f ≡ first_set n → OnlyIn a b n (bit_and (bit_and a (2 ^ 64 - 1 - b)) f)
only_is a b n f fa fb l e =
    let m = bit_and a (2 ^ 64 - 1 - b) in
    let in_first : (i : ℕ) → Has f i → i < n = λ i h. let q = first_only n i (subst (λ (v : ℕ). Has v i) e h) in omega arith in
    record {
      inside = λ i h. in_first i (and_has m f i h).1;
      has = λ i h. (and_has a (2 ^ 64 - 1 - b) i (and_has m f i h).0).0;
      lacks = λ i h. let q = in_first i (and_has m f i h).1 in (minus_has a b i (omega arith) fb (and_has m f i h).0).1;
      all = λ i li ha nb. has_and m f i (has_minus a b i (omega arith) fb ha nb) (subst (λ (v : ℕ). Has v i) (sym e) (first_has n i (omega arith)));
    }

pub when_ne : (x : ℕ) (P Q : Type 0) → ((x ≡ 0 → ⊥) → P) → (x ≡ 0 → Q) → MatchBool (not (eqb x 0)) P Q
when_ne x P Q p q =
    ⊎_elim (λ e. subst (λ (b : Bool). MatchBool (not b) P Q) (sym e) (q (eqb-true x 0 e)))
    (λ e. subst (λ (b : Bool). MatchBool (not b) P Q) (sym e) (p (eqb-false x 0 e))) (cases_Bool (eqb x 0))
