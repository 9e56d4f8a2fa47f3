-- The numbers in a set, ascending: the first of them, and what is left behind it.
use Rattle.std.proofs.Common.{◌≡◌, ◌==◌, ℕ, zero, suc, ◌+◌, ◌-◌, ◌^◌, ◌<◌, ◌≤◌, ◌⊎◌, Bool, true, false, cond, List, [], ◌∷◌, filter, length, sym, refl, ap, ◌∙◌, subst, inl, inr, ⊎_elim, arith}
use lib.Bits.{bit_and, and_le_r}
use lib.Count.{count_trailing_zeros}
use Rattle.std.specs.List.{range_with_len}
use Rattle.std.proofs.lemmas.Bool.{cases_eq, cond-true, cond-false}
use Rattle.masks.specs.Masks.{bit, Has, has_bit}
use Rattle.masks.specs.declared.members.Members.{Members}
use Rattle.masks.specs.Members.{members_of}
use Rattle.masks.proofs.Bitlaws.{bit_zero, bit_cases, has_and, and_has, same_bit, same_sets, lowest_has, lowest_le, dropped_has, dropped_lacks, below_has}
use Rattle.masks.proofs.Joins.{has_true, has_false}

-- j is the lowest number in x, and r has the others
pub record Peeled (x j r : ℕ) : Type 0 where
  pub low : Has x j
  pub small : j < 64
  pub part : (i : ℕ) → Has r i → Has x i
  pub above : (i : ℕ) → Has r i → j < i
  pub split : (i : ℕ) → Has x i → (i ≡ j) ⊎ Has r i
  pub falls : r < x

pub peeled : (x : ℕ) → x < 2 ^ 64 → 0 < x → Peeled x (count_trailing_zeros 64 x) (bit_and x (x - 1))
peeled x h p =
    let j : ℕ = count_trailing_zeros 64 x in
    let low : Has x j = lowest_has 64 x h p in
    record {
      low = low;
      small = below_has 64 x j h low;
      part = λ i e. (and_has x (x - 1) i e).0;
      above = λ i e.
          let q = and_has x (x - 1) i e in
          ⊎_elim (λ (s : i ≡ j). absurd (omega (arith, q.1, ap (bit (x - 1)) s, dropped_lacks 64 x h p))) (λ n. omega (arith, lowest_le 64 x i h q.0)) (cases_eq i j);
      split = λ i e. ⊎_elim (λ (s : i ≡ j). inl s) (λ n. inr (has_and x (x - 1) i e (dropped_has 64 x i h e n))) (cases_eq i j);
      falls = omega (arith, and_le_r x (x - 1));
    }

-- ---- the numbers of a range that pass a test
module _ (p q : ℕ → Bool) where
  none_from : (a n : ℕ) → ((i : ℕ) → p i ≡ false) → filter p (range_with_len a n) ≡ []
  none_from a zero f = refl
  none_from a (suc n) f = cond-false (p a) (a ∷ filter p (range_with_len (a + 1) n)) (filter p (range_with_len (a + 1) n)) (f a) ∙ none_from (a + 1) n f

  same_from : (a n : ℕ) → ((i : ℕ) → a ≤ i → p i ≡ q i) → filter p (range_with_len a n) ≡ filter q (range_with_len a n)
  same_from a zero f = refl
  same_from a (suc n) f =
      ap (λ (z : List ℕ). cond (p a) (a ∷ z) z) (same_from (a + 1) n (λ i l. f i (omega arith)))
      ∙ ap (λ (b : Bool). cond b (a ∷ filter q (range_with_len (a + 1) n)) (filter q (range_with_len (a + 1) n))) (f a (omega arith))

  first_from : (a n j : ℕ) → a ≤ j → j < a + n → ((i : ℕ) → i < j → p i ≡ false) → p j ≡ true → ((i : ℕ) → i ≤ j → q i ≡ false) → ((i : ℕ) → j < i → p i ≡ q i)
      → filter p (range_with_len a n) ≡ j ∷ filter q (range_with_len a n)
  first_from a zero j l r below here gone above = absurd (omega arith)
  first_from a (suc n) j l r below here gone above =
      let P = filter p (range_with_len (a + 1) n) in
      let Q = filter q (range_with_len (a + 1) n) in
      ⊎_elim
      (λ (e : a ≡ j).
      cond-true (p a) (a ∷ P) P (ap p e ∙ here)
      ∙ ap (λ (z : List ℕ). a ∷ z) (same_from (a + 1) n (λ i k. above i (omega arith))) ∙ ap (λ (v : ℕ). v ∷ Q) e
      ∙ ap (λ (z : List ℕ). j ∷ z) (sym (cond-false (q a) (a ∷ Q) Q (gone a (omega arith)))))
      (λ n'.
      cond-false (p a) (a ∷ P) P (below a (omega arith)) ∙ first_from (a + 1) n j (omega arith) (omega arith) below here gone above
      ∙ ap (λ (z : List ℕ). j ∷ z) (sym (cond-false (q a) (a ∷ Q) Q (gone a (omega arith))))) (cases_eq a j)

-- ---- the numbers in a set

lacking : (x i : ℕ) → (Has x i → ⊥) → has_bit x i ≡ false
lacking x i n = has_false x i (⊎_elim (λ (h : Has x i). absurd (n h)) (λ e. e) (bit_cases x i))

pub members_none : members_of 0 ≡ []
unfolding members_of
members_none = none_from (has_bit 0) (has_bit 0) 0 64 (λ i. has_false 0 i (bit_zero i))

pub members_first : {x j r : ℕ} → Peeled x j r → members_of x ≡ j ∷ members_of r
unfolding members_of
members_first {x} {j} {r} p =
    let apart : (i : ℕ) → i < j → Has x i → ⊥ = λ i l h. ⊎_elim (λ (e : i ≡ j). omega arith) (λ (q : Has r i). let m = p.above i q in omega arith) (p.split i h) in
    let others : (i : ℕ) → j < i → Has x i → Has r i = λ i l h. ⊎_elim (λ (e : i ≡ j). absurd (omega arith)) (λ (q : Has r i). q) (p.split i h) in
    first_from (has_bit x) (has_bit r) 0 64 j (omega arith) (let l = p.small in omega arith)
    (λ i l. lacking x i (apart i l)) (has_true x j p.low)
    (λ i l. lacking r i (λ h. let m = p.above i h in omega arith))
    (λ i l. ap (λ (b : ℕ). b == 1) (same_bit x r i (others i l) (p.part i)))

-- what a call of `next` says, for a mask: the number that came is the lowest, and the others are left
no_more : {j : ℕ} {xs : List ℕ} → [] ≡ j ∷ xs → ⊥
no_more e = omega (arith, ap length e)

head_same : {a b : ℕ} {xs ys : List ℕ} → a ∷ xs ≡ b ∷ ys → a ≡ b
head_same e = cc

tail_same : {a b : ℕ} {xs ys : List ℕ} → a ∷ xs ≡ b ∷ ys → xs ≡ ys
tail_same e = cc

pub left_none : (x : ℕ) → x < 2 ^ 64 → members_of x ≡ [] → x ≡ 0
left_none x h e =
    ⊎_elim (λ (z : x ≡ 0). z) (λ n. absurd (no_more (sym e ∙ members_first (peeled x h (omega arith))))) (cases_eq x 0)

-- masks with the same numbers are the same
rebuilt_in : {x y j r : ℕ} → Peeled x j r → Peeled y j r → (i : ℕ) → Has x i → Has y i
rebuilt_in {x} {y} {j} {r} p q i h = ⊎_elim (λ (e : i ≡ j). subst (Has y) (sym e) q.low) (λ (m : Has r i). q.part i m) (p.split i h)

rebuilt : {x y j r : ℕ} → Peeled x j r → Peeled y j r → x ≡ y
rebuilt {x} {y} p q = same_sets x y (rebuilt_in p q) (rebuilt_in q p)

same_under : (n x y : ℕ) → x < n → x < 2 ^ 64 → y < 2 ^ 64 → members_of x ≡ members_of y → x ≡ y
same_under zero x y l h k e = absurd (omega arith)
same_under (suc n) x y l h k e =
    ⊎_elim (λ (z : x ≡ 0). z ∙ sym (left_none y k (sym e ∙ ap members_of z ∙ members_none)))
    (λ ne.
    let p = peeled x h (omega arith) in
    let q = peeled y k (⊎_elim (λ (z : y ≡ 0). absurd (no_more (sym members_none ∙ ap members_of (sym z) ∙ sym e ∙ members_first p))) (λ m. omega arith) (cases_eq y 0)) in
    let t = sym (members_first p) ∙ e ∙ members_first q in
    let heads : count_trailing_zeros 64 x ≡ count_trailing_zeros 64 y = head_same t in
    let rests : bit_and x (x - 1) ≡ bit_and y (y - 1) = same_under n (bit_and x (x - 1)) (bit_and y (y - 1)) (omega (arith, p.falls)) (omega (arith, p.falls)) (omega (arith, q.falls)) (tail_same t) in
    rebuilt (subst (λ (v : ℕ). Peeled x v (bit_and x (x - 1))) heads p) (subst (λ (v : ℕ). Peeled y (count_trailing_zeros 64 y) v) (sym rests) q)) (cases_eq x 0)

pub members_same : (x y : ℕ) → x < 2 ^ 64 → y < 2 ^ 64 → members_of x ≡ members_of y → x ≡ y
members_same x y h k e = same_under (suc x) x y (omega arith) h k e

pub peeled_of : (x j r : ℕ) → x < 2 ^ 64 → r < 2 ^ 64 → members_of x ≡ j ∷ members_of r → Peeled x j r
peeled_of x j r h k e =
    let p = peeled x h (⊎_elim (λ (z : x ≡ 0). absurd (no_more (sym members_none ∙ ap members_of (sym z) ∙ e))) (λ m. omega arith) (cases_eq x 0)) in
    let t = sym (members_first p) ∙ e in
    subst (λ (v : ℕ). Peeled x v r) (head_same t)
    (subst (λ (v : ℕ). Peeled x (count_trailing_zeros 64 x) v) (members_same (bit_and x (x - 1)) r (omega (arith, p.falls)) k (tail_same t)) p)

-- what a call of `next` says: the number that came is the lowest, and the others are left; or none was left
pub comes : (s t : Members) {j : ℕ} → members_of s.left ≡ j ∷ members_of t.left → Peeled s.left j t.left
comes s t {j} e = peeled_of s.left j t.left s.fits t.fits e

pub ends : (s : Members) → members_of s.left ≡ [] → s.left ≡ 0
ends s e = left_none s.left s.fits e
