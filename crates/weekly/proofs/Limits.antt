-- The limits that contents without a fault keep: pairs in twos, at most 64 of them in both bodies, a note of at most 200 bytes.
use Rattle.std.proofs.Common.{◌≡◌, ℕ, zero, suc, ◌+◌, ◌*◌, ◌%◌, ◌<◌, ◌≤◌, true, List, length, get_or, drop, Ok, sym, refl, subst, ⊎_elim, arith, rules}
use Rattle.std.proofs.lemmas.List.{places, get_or-drop}
use Rattle.std.proofs.lemmas.Bool.{cases_eq}
use Rattle.std.proofs.lemmas.Bool.Decides.{nat_tests}
use Rattle.weekly.specs.Places.{Places}
use Rattle.weekly.specs.Head.{two_bytes, is_entry_ok, with_a_body, entries, bodies_start, bodies_end, layout_of, Sized}
use Rattle.weekly.specs.Trip.{Bytes}
use Rattle.weekly.proofs.Shapes.{Past, add_entry, cond_good, entries_shape}
use Rattle.weekly.proofs.Rounds.{laid_from}

pub record Kept (g : Places) : Type 0 where
  pub even_added : g.added % 2 ≡ 0
  pub even_removed : g.removed % 2 ≡ 0
  pub joint : g.added + g.removed ≤ 128
  pub note : g.note ≤ 200

pairs_ok : (prev start used letter at len : ℕ) → (letter ≡ 0x4E → ⊥) → is_entry_ok prev start used letter at len ≡ true → (len % 2 ≡ 0) × (used + len ≤ 128)
pairs_ok prev start used letter at len n e = (grind (arith, nat_tests), grind (arith, nat_tests))

note_ok : (prev start used at len : ℕ) → is_entry_ok prev start used 0x4E at len ≡ true → len ≤ 200
note_ok prev start used at len e = grind (arith, nat_tests)

above : (prev start used letter at len : ℕ) → is_entry_ok prev start used letter at len ≡ true → prev < letter
above prev start used letter at len e = grind (arith, nat_tests)

removal_only : (prev start used letter at len : ℕ) → is_entry_ok prev start used letter at len ≡ true → (letter ≡ 0x41 → ⊥) → (letter ≡ 0x4E → ⊥) → letter ≡ 0x52
removal_only prev start used letter at len e a n = grind (arith, nat_tests)

module _ (g : Places) (prev at len : ℕ) (past : Past prev g) (kept : Kept g) where
  abbrev Right : ℕ → Type 0
  Right letter = is_entry_ok prev (bodies_end g) g.added letter at len ≡ true

  kept_A : Right 0x41 → Kept (with_a_body g 0x41 len)
  kept_A e =
      let l = above prev (bodies_end g) g.added 0x41 at len e in
      let a = past.adds l in let r = past.takes (omega arith) in
      let p = pairs_ok prev (bodies_end g) g.added 0x41 at len (λ q. omega arith) e in
      record { even_added = omega (arith, a, p.0); even_removed = kept.even_removed; joint = omega (arith, r, p.1); note = kept.note }

  kept_N : Right 0x4E → Kept (with_a_body g 0x4E len)
  kept_N e =
      let l = above prev (bodies_end g) g.added 0x4E at len e in
      let n = past.text l in
      record { even_added = kept.even_added; even_removed = kept.even_removed; joint = kept.joint; note = omega (arith, n, note_ok prev (bodies_end g) g.added at len e) }

  kept_R : Right 0x52 → Kept (with_a_body g 0x52 len)
  kept_R e =
      let l = above prev (bodies_end g) g.added 0x52 at len e in
      let r = past.takes l in
      let p = pairs_ok prev (bodies_end g) g.added 0x52 at len (λ q. omega arith) e in
      record { even_added = kept.even_added; even_removed = omega (arith, r, p.0); joint = omega (arith, r, p.1); note = kept.note }

  kept_more : (letter : ℕ) → Right letter → Kept (with_a_body g letter len)
  kept_more letter e = ⊎_elim
      (λ (q : letter ≡ 0x41). subst (λ (z : ℕ). Kept (with_a_body g z len)) (sym q) (kept_A (subst Right q e)))
      (λ (a : letter ≡ 0x41 → ⊥). ⊎_elim
      (λ (q : letter ≡ 0x4E). subst (λ (z : ℕ). Kept (with_a_body g z len)) (sym q) (kept_N (subst Right q e)))
      (λ (n : letter ≡ 0x4E → ⊥). let q = removal_only prev (bodies_end g) g.added letter at len e a n in subst (λ (z : ℕ). Kept (with_a_body g z len)) (sym q) (kept_R (subst Right q e)))
      (cases_eq letter 0x4E))
      (cases_eq letter 0x41)

entries_kept : (k : ℕ) (bs : List ℕ) (place prev : ℕ) (got g : Places) → Past prev got → Kept got → entries k bs place prev got ≡ Ok g → Kept g
unfolding entries
entries_kept zero bs place prev got g p h e = let q : got ≡ g = cc in subst Kept q h
entries_kept (suc k) bs place prev got g p h e =
    let letter = get_or bs 0 0 in let at = two_bytes (get_or bs 1 0) (get_or bs 2 0) in let len = two_bytes (get_or bs 3 0) (get_or bs 4 0) in
    let c = cond_good (is_entry_ok prev (bodies_end got) got.added letter at len) _ _ g e in
    entries_kept k (drop 5 bs) (place + 5) letter (with_a_body got letter len) g (add_entry got prev letter at len p c.0).1 (kept_more got prev at len p h letter c.0) c.1

start_past : (n : ℕ) → Past 0 (bodies_start n)
start_past n = record { adds = λ q. refl; text = λ q. refl; takes = λ q. refl }

pub layout_kept : (f : List ℕ) (g : Places) → layout_of f ≡ Ok g → Kept g
layout_kept f g e =
    let l = laid_from f g e in
    entries_kept (get_or f 4 0) (drop 5 f) 5 0 (bodies_start (get_or f 4 0)) g (start_past (get_or f 4 0)) (record { even_added = refl; even_removed = refl; joint = omega arith; note = omega arith }) l.contents

pub layout_sized : (f : List ℕ) (g : Places) → Bytes f → layout_of f ≡ Ok g → Sized (length f) g
layout_sized f g b e =
    let l = laid_from f g e in let k = layout_kept f g e in
    let n : ℕ = get_or f 4 0 in
    let fits : 5 * n ≤ length (drop 5 f) = let h = l.long in search (rules, places) in
    let s = entries_shape n (drop 5 f) 5 0 (bodies_start n) g fits (λ i. subst (λ (z : ℕ). z < 256) (sym (get_or-drop 5 f i 0)) (b (5 + i))) (start_past n) l.contents in
    let first = s.1 in let few = l.few in let joint = k.joint in let note = k.note in
    ((omega arith, k.even_added, k.even_removed), sym l.end)
