-- What rows share and have together, member by member.
use Rattle.std.proofs.Common.{◌≡◌, ℕ, ◌^◌, ◌⊎◌, List, get_or, sym, subst, inl, inr, ⊎_elim, arith}
use lib.Bits.{bit_and, bit_or}
use Rattle.std.proofs.lemmas.Bool.{cases_eq}
use Rattle.masks.specs.Masks.{bit, Has, Within}
use Rattle.masks.proofs.Bitlaws.{has_and, and_has, has_more_cases, has_or, or_has}
use Rattle.search.specs.Nodes.{Shares, Gathers, Unmarked}
use Rattle.masks.proofs.Ascending.{Peeled}
use Rattle.search.proofs.Peels.{has_zero}

-- what is in the set and no more in the rest
abbrev pub Seen : ℕ → ℕ → ℕ → Type 0
Seen set rest k = Has set k × (Has rest k → ⊥)

pub shares_none : (rows : List ℕ) (begin : ℕ) {M : ℕ → Type 0} → ((k : ℕ) → M k → ⊥) → Shares rows begin M begin
shares_none rows begin no-m = record { before = λ b h. h; in_all = λ b k h m. absurd (no-m k m); all = λ b h f. h }

pub gathers_none : (rows : List ℕ) {M : ℕ → Type 0} → ((k : ℕ) → M k → ⊥) → Gathers rows M 0
gathers_none rows no-m = record { from = λ b h. absurd (has_zero b h); to = λ b k m h. absurd (no-m k m) }

module _ {rows : List ℕ} {M N : ℕ → Type 0} where
  pub shares_same : {begin r : ℕ} → Shares rows begin M r → ((k : ℕ) → M k → N k) → ((k : ℕ) → N k → M k) → Shares rows begin N r
  shares_same s f g = record { before = s.before; in_all = λ b k h n. s.in_all b k h (g k n); all = λ b h all. s.all b h (λ k m. all k (f k m)) }

  pub gathers_same : {r : ℕ} → Gathers rows M r → ((k : ℕ) → M k → N k) → ((k : ℕ) → N k → M k) → Gathers rows N r
  gathers_same s f g = record { from = λ b h. let q = s.from b h in (q.0, f q.0 q.1, q.2); to = λ b k n h. s.to b k (g k n) h }

  module _ (j : ℕ) (keep : (k : ℕ) → M k → N k) (one : N j) (cases : (k : ℕ) → N k → M k ⊎ (k ≡ j)) where
    pub shares_more : {begin r : ℕ} → Shares rows begin M r → Shares rows begin N (bit_and r (get_or rows j 0))
    shares_more {begin} {r} s =
        record {
          before = λ b h. s.before b (and_has r (get_or rows j 0) b h).0;
          in_all = λ b k h n.
              let q = and_has r (get_or rows j 0) b h in
              ⊎_elim (λ (m : M k). s.in_all b k q.0 m) (λ (e : k ≡ j). subst (λ (v : ℕ). Has (get_or rows v 0) b) (sym e) q.1) (cases k n);
          all = λ b h f. has_and r (get_or rows j 0) b (s.all b h (λ k m. f k (keep k m))) (f j one);
        }

    pub gathers_more : {r : ℕ} → Gathers rows M r → Gathers rows N (bit_or r (get_or rows j 0))
    gathers_more {r} s =
        record {
          from = λ b h.
              ⊎_elim (λ (p : Has r b). let q = s.from b p in (q.0, keep q.0 q.1, q.2)) (λ (p : Has (get_or rows j 0) b). (j, one, p)) (or_has r (get_or rows j 0) b h);
          to = λ b k n h.
              has_or r (get_or rows j 0) b
              (⊎_elim (λ (m : M k). inl (s.to b k m h)) (λ (e : k ≡ j). inr (subst (λ (v : ℕ). Has (get_or rows v 0) b) e h)) (cases k n));
        }

-- ---- a loop over the members of a set
module _ (set : ℕ) where
  pub within_start : {rest : ℕ} → rest ≡ set → Within rest set
  within_start e = subst (λ (v : ℕ). Within v set) (sym e) (λ k h. h)

  pub seen_none : {rest : ℕ} → rest ≡ set → (k : ℕ) → Seen set rest k → ⊥
  seen_none e k s = s.1 (subst (λ (v : ℕ). Has v k) (sym e) s.0)

  pub seen_all : (rest : ℕ) → rest ≡ 0 → (k : ℕ) → Has set k → Seen set rest k
  seen_all rest e k h = (h, λ p. has_zero k (subst (λ (v : ℕ). Has v k) e p))

  pub seen_only : (rest : ℕ) (k : ℕ) → Seen set rest k → Has set k
  seen_only rest k s = s.0

  module _ {rest j r : ℕ} (p : Peeled rest j r) (w : Within rest set) where
    pub seen_keep : (k : ℕ) → Seen set rest k → Seen set r k
    seen_keep k s = (s.0, λ h. s.1 (p.part k h))

    pub seen_one : Seen set r j
    seen_one = (w j p.low, λ h. let l = p.above j h in absurd (omega arith))

    pub seen_cases : (k : ℕ) → Seen set r k → Seen set rest k ⊎ (k ≡ j)
    seen_cases k s =
        ⊎_elim (λ (h : Has rest k). ⊎_elim (λ (e : k ≡ j). inr e) (λ (q : Has r k). absurd (s.1 q)) (p.split k h))
        (λ n. inl (s.0, n)) (cases_eq (bit rest k) 1)

    pub shares_step : {rows : List ℕ} {begin v : ℕ} → Shares rows begin (Seen set rest) v → Shares rows begin (Seen set r) (bit_and v (get_or rows j 0))
    shares_step s = shares_more j seen_keep seen_one seen_cases s

    pub gathers_step : {rows : List ℕ} {v : ℕ} → Gathers rows (Seen set rest) v → Gathers rows (Seen set r) (bit_or v (get_or rows j 0))
    gathers_step s = gathers_more j seen_keep seen_one seen_cases s

    pub within_step : Within r set
    within_step k h = w k (p.part k h)

-- a member whose row has none of the marks
pub unmarked_more : {watched : List ℕ} {m set r : ℕ} (j v : ℕ) → v ≡ 2 ^ j → Has set j → bit_and (get_or watched j 0) m ≡ 0 → Unmarked watched m set r → Unmarked watched m set (bit_or r v)
unmarked_more {watched} {m} {set} {r} j v e h z u =
    let cases : (k : ℕ) → Has (bit_or r v) k → (k ≡ j) ⊎ Has r k = λ k q. has_more_cases r j k (subst (λ (w : ℕ). Has (bit_or r w) k) e q) in
    record {
      part = λ k q. ⊎_elim (λ (s : k ≡ j). subst (Has set) (sym s) h) (λ (s : Has r k). u.part k s) (cases k q);
      bare = λ k b q hm hw.
          ⊎_elim
          (λ (s : k ≡ j). has_zero b (subst (λ (w : ℕ). Has w b) z (has_and (get_or watched j 0) m b (subst (λ (i : ℕ). Has (get_or watched i 0) b) s hw) hm)))
          (λ (s : Has r k). u.bare k b s hm hw) (cases k q);
    }
