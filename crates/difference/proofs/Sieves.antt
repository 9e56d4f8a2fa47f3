-- The sieve, step by step, and places turned one by one.
use Rattle.std.proofs.Common.{◌≡◌, ℕ, ◌+◌, ◌-◌, ◌<◌, ◌≤◌, ◌⊎◌, List, ◌++◌, map, length, take, drop, set, sym, ap, ◌∙◌, subst, inl, inr, ⊎_elim, arith}
use borrow.Rule.Slice.PartMut.{mid_of, put_mid}
use Rattle.std.proofs.lemmas.List.{get_or-set_same, get_or-set_other, get_or_append_left, get_or-append_right, get_or-drop, get_or-map, get_or-take, length-drop, length-map, length-take, length-take-le}
use Rattle.std.proofs.lemmas.Bool.{cases_eq}
use Rattle.groups.specs.declared.group.Group.{Group}
use Rattle.groups.specs.Plans.{nothing, flip}
use Rattle.difference.specs.Places.{Sieved, Turning, at}

abbrev pub Rest : List Group → List Group → ℕ → Type 0
Rest T T' i = (j : ℕ) → i ≤ j → at T' j ≡ at T j

module _ {E : Group → Type 0} {T T' : List Group} {count i c : ℕ} (s : Sieved E T T' count i c) (rest : Rest T T' i) where
  pub sieved_more_no : E (at T' i) → Sieved E T T' count (i + 1) c × Rest T T' (i + 1)
  sieved_more_no x = (
    record {
      low = s.low;
      high = omega (arith, s.high);
      kept = s.kept;
      source = λ k l h. let f = s.source k l h in (f.0, f.1, omega (arith, f.2), f.3, f.4);
      apart = s.apart;
      found = λ j l h. ⊎_elim (λ e. inl (subst (λ (k : ℕ). E (at T k)) (sym e) (subst E (rest i (omega arith)) x))) (λ ne. s.found j l (omega arith)) (cases_eq j i);
    },
    λ j l. rest j (omega arith),
  )

  module _ (fresh : ℕ) (before : i < fresh) (apart : (j k : ℕ) → count ≤ j → j < k → k < fresh → at T j ≡ at T k → ⊥)
      (inside : i < length T') (no : E (at T' i) → ⊥) where
    at_new : at (set T' c (at T' i)) c ≡ at T' i
    at_new = get_or-set_same T' c (at T' i) nothing (omega (arith, s.high))

    at_old : (j : ℕ) → (j ≡ c → ⊥) → at (set T' c (at T' i)) j ≡ at T' j
    at_old j n = get_or-set_other T' c j (at T' i) nothing n

    more_source : (k : ℕ) → count ≤ k → k < c + 1
        → (j : ℕ) × (count ≤ j) × (j < i + 1) × (at (set T' c (at T' i)) k ≡ at T j) × (E (at (set T' c (at T' i)) k) → ⊥)
    more_source k l h =
        ⊎_elim
        (λ e. let q : at (set T' c (at T' i)) k ≡ at T' i = ap (at (set T' c (at T' i))) e ∙ at_new in
        (i, omega (arith, s.low, s.high), omega arith, q ∙ rest i (omega arith), λ x. no (subst E q x)))
        (λ ne. let f = s.source k l (omega arith) in
        (f.0, f.1, omega (arith, f.2), at_old k ne ∙ f.3, λ x. f.4 (subst E (at_old k ne) x)))
        (cases_eq k c)

    more_apart : (a b : ℕ) → count ≤ a → a < b → b < c + 1 → at (set T' c (at T' i)) a ≡ at (set T' c (at T' i)) b → ⊥
    more_apart a b l m h e =
        let na : a ≡ c → ⊥ = λ z. omega arith in
        ⊎_elim
        (λ z. let f = s.source a l (omega arith) in
        apart f.0 i f.1 f.2 before (sym f.3 ∙ sym (at_old a na) ∙ e ∙ ap (at (set T' c (at T' i))) z ∙ at_new ∙ rest i (omega arith)))
        (λ nb. s.apart a b l m (omega arith) (sym (at_old a na) ∙ e ∙ at_old b nb)) (cases_eq b c)

    more_found : (j : ℕ) → count ≤ j → j < i + 1 → E (at T j) ⊎ ((k : ℕ) × (count ≤ k) × (k < c + 1) × (at (set T' c (at T' i)) k ≡ at T j))
    more_found j l h =
        ⊎_elim (λ e. inr (c, s.low, omega arith, at_new ∙ rest i (omega arith) ∙ ap (at T) (sym e)))
        (λ ne. ⊎_elim (λ x. inl x) (λ f. inr (f.0, f.1, omega (arith, f.2), at_old f.0 (λ z. omega (arith, f.2)) ∙ f.3)) (s.found j l (omega arith)))
        (cases_eq j i)

    pub sieved_more : Sieved E T (set T' c (at T' i)) count (i + 1) (c + 1) × Rest T (set T' c (at T' i)) (i + 1)
    sieved_more = (
      record {
        low = omega (arith, s.low);
        high = omega (arith, s.high);
        kept = λ k l. at_old k (λ z. omega (arith, s.low)) ∙ s.kept k l;
        source = more_source;
        apart = more_apart;
        found = more_found;
      },
      λ j l. at_old j (λ z. omega (arith, s.high)) ∙ rest j (omega arith),
    )

pub sieved_moved : {E : Group → Type 0} {T t t' : List Group} {count f e e' : ℕ} → t' ≡ t → e' ≡ e → Sieved E T t count f e × Rest T t f → Sieved E T t' count f e' × Rest T t' f
sieved_moved {E} {T} {t} {t'} {count} {f} {e} {e'} p q h =
    subst (λ (u : List Group). Sieved E T u count f e' × Rest T u f) (sym p) (subst (λ (k : ℕ). Sieved E T t count f k × Rest T t f) (sym q) h)

-- ---- places turned
pub turned_mid : (T groups : List Group) (from to : ℕ) → from ≤ to → to ≤ length T → groups ≡ map flip (mid_of from (to - from) T)
    → Turning T (put_mid from (to - from) T groups) from to
turned_mid T groups from to low high e =
    let mid : List Group = mid_of from (to - from) T in
    let last : List Group = drop (to - from) (drop from T) in
    let front : length (take from T) ≡ from = length-take-le from T (omega arith) in
    let long : length mid ≡ to - from = omega (arith, length-take (to - from) (drop from T), length-drop from T) in
    record {
      kept = λ i l. get_or_append_left (take from T) (groups ++ last) nothing i (omega arith) ∙ get_or-take from T i nothing l;
      turned = λ i l h.
          get_or-append_right (take from T) (groups ++ last) from i nothing front l
          ∙ get_or_append_left groups last nothing (i - from) (omega (arith, ap (length {A = Group}) e, length-map mid flip))
          ∙ ap (λ (z : List Group). at z (i - from)) e ∙ get_or-map flip mid (i - from) nothing nothing (omega arith)
          ∙ ap flip (get_or-take (to - from) (drop from T) (i - from) nothing (omega arith) ∙ get_or-drop from T (i - from) nothing ∙ ap (at T) (let q : from + (i - from) ≡ i = omega arith in q));
    }
