-- One piece written after another.
use Rattle.std.proofs.Common.{◌≡◌, ℕ, ◌+◌, ◌≤◌, List, [], ◌++◌, length, take, drop, sym, ap, ◌∙◌, add-zero, arith, rules}
use Rattle.std.proofs.lemmas.List.{places, same_lists, take-append-drop, length-append}
use Rattle.weekly.specs.File.{pasted, Wrote}

pub wrote_none : (at : ℕ) (xs : List ℕ) → Wrote at [] xs xs at
wrote_none at xs = record {
  out = sym (ap (λ (z : ℕ). take at xs ++ drop z xs) (add-zero at) ∙ take-append-drop at xs);
  after = sym (add-zero at);
}

pub wrote_length : (at : ℕ) (bs xs ys : List ℕ) (n : ℕ) → at + length bs ≤ length xs → Wrote at bs xs ys n → length ys ≡ length xs
wrote_length at bs xs ys n h w = ap length w.out ∙ search (rules, places)

pasted_more : (at : ℕ) (us bs xs : List ℕ) → at + length us + length bs ≤ length xs
    → pasted (at + length us) bs (pasted at us xs) ≡ pasted at (us ++ bs) xs
pasted_more at us bs xs h = same_lists _ _ (search (rules, places)) (λ k d l. grind (arith, places))

pub wrote_more : (at : ℕ) (us bs xs ys zs : List ℕ) (m n : ℕ) → at + length us + length bs ≤ length xs
    → Wrote at us xs ys m → Wrote m bs ys zs n → Wrote at (us ++ bs) xs zs n
wrote_more at us bs xs ys zs m n h v w = record {
  out = w.out ∙ (ap (λ (z : ℕ). pasted z bs ys) v.after ∙ (ap (λ (z : List ℕ). pasted (at + length us) bs z) v.out ∙ pasted_more at us bs xs h));
  after = omega (arith, v.after, w.after, length-append us bs);
}

-- three pieces, and five
pub wrote_three : (at : ℕ) (p q r x0 x1 x2 x3 : List ℕ) (m1 m2 m3 : ℕ) → at + length p + length q + length r ≤ length x0
    → Wrote at p x0 x1 m1 → Wrote m1 q x1 x2 m2 → Wrote m2 r x2 x3 m3 → Wrote at (p ++ (q ++ r)) x0 x3 m3
wrote_three at p q r x0 x1 x2 x3 m1 m2 m3 h a b c =
    let l = wrote_length at p x0 x1 m1 (omega arith) a in
    wrote_more at p (q ++ r) x0 x1 x3 m1 m3 (omega (arith, length-append q r)) a
    (wrote_more m1 q r x1 x2 x3 m2 m3 (omega (arith, l, a.after)) b c)

pub wrote_five : (at : ℕ) (p q r s t x0 x1 x2 x3 x4 x5 : List ℕ) (m1 m2 m3 m4 m5 : ℕ) → at + length p + length q + length r + length s + length t ≤ length x0
    → Wrote at p x0 x1 m1 → Wrote m1 q x1 x2 m2 → Wrote m2 r x2 x3 m3 → Wrote m3 s x3 x4 m4 → Wrote m4 t x4 x5 m5 → Wrote at (p ++ (q ++ (r ++ (s ++ t)))) x0 x5 m5
wrote_five at p q r s t x0 x1 x2 x3 x4 x5 m1 m2 m3 m4 m5 h a b c d e =
    let l1 = wrote_length at p x0 x1 m1 (omega arith) a in
    let l2 = wrote_length m1 q x1 x2 m2 (omega (arith, l1, a.after)) b in
    wrote_three at p q (r ++ (s ++ t)) x0 x1 x2 x5 m1 m2 m5 (omega (arith, length-append r (s ++ t), length-append s t)) a b
    (wrote_three m2 r s t x2 x3 x4 x5 m3 m4 m5 (omega (arith, l1, l2, a.after, b.after)) c d e)
