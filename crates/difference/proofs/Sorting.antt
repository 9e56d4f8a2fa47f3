-- A held part of the table, put into order, is the listing.
use Rattle.std.proofs.Common.{◌≡◌, ℕ, ◌+◌, ◌-◌, ◌<◌, true, ◌⊎◌, List, [], ◌∷◌, length, get_or, drop, sym, refl, ap, ◌∙◌, subst, inl, inr, ⊎_elim, arith}
use Rattle.std.specs.List.{swap, between}
use Rattle.std.specs.declared.cmp.Ordering.{Ordering}
use Rattle.std.specs.Ordering.{is_lt}
use Rattle.std.specs.List.Sorted.{IsPermutation, IsNonDecreasingBy, IsSorted}
use Rattle.std.proofs.lemmas.List.{get_or-take, get_or-drop, length-take, length-drop}
use Rattle.std.proofs.lemmas.List.Edits.{Swapped, swapped_from_swap, length-swap}
use Rattle.std.proofs.lemmas.List.Sorted.{IsPermutation-keeps, IsNonDecreasingBy-from_all_adjacent}
use Rattle.std.proofs.lemmas.Bool.{cases_eq, cases_lt, true≢false}
use Rattle.groups.specs.declared.group.Group.{Group}
use Rattle.groups.specs.Plans.{IsGroup, Listing, nothing}
use Rattle.groups.proofs.Listings.{listing_by_keys}
use Rattle.groups.proofs.Sides.{same_keys}
use Rattle.difference.specs.Places.{Held, at}

swaps : (l : List Group) (i j : ℕ) → i < length l → j < length l → Swapped (λ k. at l k) (λ k. at (swap l i j) k) i j
swaps [] i j hi hj = absurd (omega arith)
swaps (d ∷ ys) i j hi hj = swapped_from_swap (d ∷ ys) (swap (d ∷ ys) i j) i j nothing hi hj refl

swap_long : (l : List Group) (i j : ℕ) → length (swap l i j) ≡ length l
swap_long [] i j = refl
swap_long (d ∷ ys) i j = length-swap (d ∷ ys) i j

module _ {N : Group → Type 0} {n : ℕ} (l : List Group) (i j : ℕ) (hi : i < n) (hj : j < n) (long : length l ≡ n) (h : Held N l 0 n) where
  abbrev Moved : ℕ → ℕ → Type 0
  Moved k m = ((k ≡ i) × (m ≡ j)) ⊎ (((k ≡ i → ⊥) × (k ≡ j) × (m ≡ i)) ⊎ ((k ≡ i → ⊥) × (k ≡ j → ⊥) × (m ≡ k)))

  -- where what stands at k now stood before
  stood : (k : ℕ) → k < n → (m : ℕ) × (m < n) × (at (swap l i j) k ≡ at l m) × Moved k m
  stood k lk =
      let s = swaps l i j (omega arith) (omega arith) in
      ⊎_elim (λ e. (j, hj, ap (at (swap l i j)) e ∙ s.0, inl (e, refl)))
      (λ ni. ⊎_elim (λ e. (i, hi, ap (at (swap l i j)) e ∙ s.1, inr (inl (ni, e, refl))))
      (λ nj. (k, lk, s.2 k ni nj, inr (inr (ni, nj, refl)))) (cases_eq k j)) (cases_eq k i)

  once : (a b : ℕ) → a < n → b < n → (a ≡ b → ⊥) → at l a ≡ at l b → ⊥
  once a b la lb ne e =
      ⊎_elim (λ m. h.apart a b (omega arith) m lb e) (λ m. h.apart b a (omega arith) (omega arith) la (sym e)) (cases_lt a b)

  other : (a b ma mb : ℕ) → a < b → Moved a ma → Moved b mb → ma ≡ mb → ⊥
  other a b ma mb m (inl p) (inl q) e = omega arith
  other a b ma mb m (inl p) (inr (inl q)) e = omega arith
  other a b ma mb m (inl p) (inr (inr q)) e = q.1 (omega arith)
  other a b ma mb m (inr (inl p)) (inl q) e = omega arith
  other a b ma mb m (inr (inl p)) (inr (inl q)) e = omega arith
  other a b ma mb m (inr (inl p)) (inr (inr q)) e = q.0 (omega arith)
  other a b ma mb m (inr (inr p)) (inl q) e = p.1 (omega arith)
  other a b ma mb m (inr (inr p)) (inr (inl q)) e = p.0 (omega arith)
  other a b ma mb m (inr (inr p)) (inr (inr q)) e = omega arith

  swap_held : Held N (swap l i j) 0 n
  swap_held =
      let s = swaps l i j (omega arith) (omega arith) in
      record {
        low = omega arith;
        high = omega (arith, swap_long l i j);
        sound = λ k a b. let f = stood k b in subst N (sym f.2) (h.sound f.0 (omega arith) f.1);
        apart = λ a b la m lb e.
            let f = stood a (omega arith) in
            let g = stood b lb in
            once f.0 g.0 f.1 g.1 (other a b f.0 g.0 m f.3 g.3) (sym f.2 ∙ e ∙ g.2);
        complete = λ g p.
            let f = h.complete g p in
            ⊎_elim (λ e. (j, omega arith, hj, s.1 ∙ ap (at l) (sym e) ∙ f.3))
            (λ ni. ⊎_elim (λ e. (i, omega arith, hi, s.0 ∙ ap (at l) (sym e) ∙ f.3))
            (λ nj. (f.0, omega arith, f.2, s.2 f.0 ni nj ∙ f.3)) (cases_eq f.0 j)) (cases_eq f.0 i);
      }

pub shuffled_held : {N : Group → Type 0} (n : ℕ) (xs ys : List Group) → length xs ≡ n → Held N xs 0 n → IsPermutation xs ys → (length ys ≡ n) × Held N ys 0 n
shuffled_held {N} n xs ys long h s =
    IsPermutation-keeps xs (λ l. (length l ≡ n) × Held N l 0 n) (long, h)
    (λ l i j hi hj p. (swap_long l i j ∙ p.0, swap_held l i j (omega (arith, p.0)) (omega (arith, p.0)) p.0 p.1)) ys s

-- a part as a list of its own
pub part_held : {N : Group → Type 0} {T : List Group} {from c : ℕ} → Held N T from c → (length (between from c T) ≡ c - from) × Held N (between from c T) 0 (c - from)
part_held {N} {T} {from} {c} h =
    let long : length (between from c T) ≡ c - from = omega (arith, length-take (c - from) (drop from T), length-drop from T, h.high) in
    let is : (i : ℕ) → i < c - from → at (between from c T) i ≡ at T (from + i) = λ i m. get_or-take (c - from) (drop from T) i nothing m ∙ get_or-drop from T i nothing in (
      long,
      record {
        low = omega arith;
        high = omega arith;
        sound = λ i l m. subst N (sym (is i m)) (h.sound (from + i) (omega arith) (omega arith));
        apart = λ i k l m n e. h.apart (from + i) (from + k) (omega arith) (omega arith) (omega arith) (sym (is i (omega arith)) ∙ e ∙ is k n);
        complete = λ g p.
            let f = h.complete g p in
            let q : from + (f.0 - from) ≡ f.0 = omega (arith, f.1) in
            (f.0 - from, omega arith, omega (arith, f.1, f.2), is (f.0 - from) (omega (arith, f.1, f.2)) ∙ ap (at T) q ∙ f.3);
      },
    )

-- in order, it is the listing
pub listing_from : {N : Group → Type 0} {rs : List ℕ} {D : ℕ} (n : ℕ) (ys : List Group) → length ys ≡ n → Held N ys 0 n → IsNonDecreasingBy (λ g. g.keys) ys
    → ((g : Group) → N g → IsGroup rs D g) → Listing N ys
listing_from n ys long h up group =
    listing_by_keys ys (λ i l. h.sound i (omega arith) (omega arith))
    (λ i k l m.
    let ne : (at ys i).keys ≡ (at ys k).keys → ⊥ =
    λ e. h.apart i k (omega arith) l (omega arith) (same_keys (at ys i) (at ys k) (group _ (h.sound i (omega arith) (omega arith))) (group _ (h.sound k (omega arith) (omega arith))) e) in
    omega (arith, up i k nothing (omega arith) m))
    (λ g p. let f = h.complete g p in (f.0, omega (arith, f.2), f.3))

-- an order that puts a group with fewer keys first: what is in that order has its keys in order
pub rises_by_keys : (cmp : Group → Group → Ordering) → ((x y : Group) → x.keys < y.keys → is_lt (cmp x y) ≡ true) → (xs : List Group) → IsSorted cmp xs
    → IsNonDecreasingBy (λ g. g.keys) xs
rises_by_keys cmp first xs up = IsNonDecreasingBy-from_all_adjacent (λ (g : Group). g.keys) xs
    (λ k d l. ⊎_elim (λ h. absurd (true≢false (sym (first (get_or xs (k + 1) d) (get_or xs k d) h) ∙ up k d (omega arith) (omega arith)))) (λ h. h)
    (cases_lt (get_or xs (k + 1) d).keys (get_or xs k d).keys))
