-- The columns of a plan, key by key.
use Rattle.std.proofs.Common.{◌≡◌, ℕ, ◌+◌, ◌^◌, ◌<◌, ◌≤◌, ◌⊎◌, List, length, get_or, set, replicate, sym, refl, ap, ◌∙◌, subst, inl, inr, ⊎_elim, arith}
use lib.Bits.{bit_and, bit_or}
use Rattle.std.proofs.lemmas.List.{get_or-replicate, get_or-set_same, get_or-set_other, get_or_past, length-set}
use Rattle.std.proofs.lemmas.Bool.{cases_eq, cases_lt}
use Rattle.masks.specs.Masks.{bit, Has, Within, first_set}
use Rattle.masks.proofs.Bitlaws.{has_and, and_has, has_more, has_more_same, has_more_cases, none_has}
use Rattle.masks.proofs.Joins.{first_has, first_only}
use Rattle.groups.specs.Plans.{Opens}
use Rattle.search.specs.Nodes.{Cut, Transposed, WithKey}
use Rattle.masks.proofs.Ascending.{Peeled}
use Rattle.search.proofs.Peels.{has_zero}

-- ---- one key, door by door

-- the key is in the columns of `row` that are no more in `rest`
pub record KeyTo (cols : List ℕ) (row k rest : ℕ) (now : List ℕ) : Type 0 where
  pub long : length now ≡ 64
  pub part : Within rest row
  pub done : (d : ℕ) → Has row d → (Has rest d → ⊥) → get_or now d 0 ≡ bit_or (get_or cols d 0) (2 ^ k)
  pub to_do : (d : ℕ) → Has rest d → get_or now d 0 ≡ get_or cols d 0
  pub others : (d : ℕ) → (Has row d → ⊥) → get_or now d 0 ≡ get_or cols d 0

pub key_all : {cols now : List ℕ} {row k rest : ℕ} → KeyTo cols row k rest now → rest ≡ 0 → length cols ≡ 64 → WithKey cols row k now
key_all i e l =
    record { long = i.long ∙ sym l; in_row = λ d h. i.done d h (λ q. has_zero d (subst (λ (v : ℕ). Has v d) e q)); others = i.others }

module _ {cols now : List ℕ} {row k rest j r : ℕ} (i : KeyTo cols row k rest now) (p : Peeled rest j r) (v : ℕ) (e : v ≡ 2 ^ k) where
  abbrev next : List ℕ
  next = set now j (bit_or (get_or now j 0) v)

  at_other : (d : ℕ) → (d ≡ j → ⊥) → get_or next d 0 ≡ get_or now d 0
  at_other d ne = get_or-set_other now j d (bit_or (get_or now j 0) v) 0 ne

  at_one : get_or next j 0 ≡ bit_or (get_or cols j 0) (2 ^ k)
  at_one =
      get_or-set_same now j (bit_or (get_or now j 0) v) 0 (omega (arith, p.small, i.long)) ∙ ap (λ (z : ℕ). bit_or z v) (i.to_do j p.low)
      ∙ ap (bit_or (get_or cols j 0)) e

  pub key_more : KeyTo cols row k r next
  key_more =
      record {
        long = length-set now j (bit_or (get_or now j 0) v) ∙ i.long;
        part = λ d h. i.part d (p.part d h);
        done = λ d h n.
            ⊎_elim (λ (q : d ≡ j). subst (λ (z : ℕ). get_or next z 0 ≡ bit_or (get_or cols z 0) (2 ^ k)) (sym q) at_one)
            (λ ne. at_other d ne ∙ i.done d h (λ m. ⊎_elim (λ (q : d ≡ j). ne q) n (p.split d m))) (cases_eq d j);
        to_do = λ d h. at_other d (λ q. let l = p.above d h in omega arith) ∙ i.to_do d (p.part d h);
        others = λ d n. at_other d (λ q. n (subst (Has row) (sym q) (i.part j p.low))) ∙ i.others d n;
      }

-- ---- key by key

abbrev zeros : List ℕ
zeros = replicate 64 0

zero_at : (d : ℕ) → get_or zeros d 0 ≡ 0
zero_at d = ⊎_elim (λ (l : d < 64). get_or-replicate 64 d 0 0 l) (λ (l : 64 ≤ d). get_or_past zeros d 0 l) (cases_lt d 64)

pub transposed_none : (rows : List ℕ) (D : ℕ) → Transposed rows zeros 0 D
transposed_none rows D =
    record { long = refl; to = λ k d l. absurd (omega arith); from = λ k d o. absurd (has_zero k (subst (λ (v : ℕ). Has v k) (zero_at d) o)) }

module _ {rows cols next : List ℕ} {k D every : ℕ} (few : D ≤ 64) (is : every ≡ first_set D) (t : Transposed rows cols k D) (w : WithKey cols (bit_and (get_or rows k 0) every) k next) where
  abbrev row : ℕ
  row = bit_and (get_or rows k 0) every

  in_row : (d : ℕ) → d < D → Opens rows k d → Has row d
  in_row d l o = has_and (get_or rows k 0) every d o (subst (λ (v : ℕ). Has v d) (sym is) (first_has D d (omega arith)))

  row_in : (d : ℕ) → Has row d → (d < D) × Opens rows k d
  row_in d h =
      let p = and_has (get_or rows k 0) every d h in
      let q = first_only D d (subst (λ (v : ℕ). Has v d) is p.1) in
      (omega arith, p.0)

  kept : (i d : ℕ) → Opens cols d i → Opens next d i
  kept i d o =
      ⊎_elim (λ (h : Has row d). subst (λ (v : ℕ). Has v i) (sym (w.in_row d h)) (has_more (get_or cols d 0) k i o))
      (λ n. subst (λ (v : ℕ). Has v i) (sym (w.others d n)) o) (cases_eq (bit row d) 1)

  back : (i d : ℕ) → Opens next d i → ((i ≡ k) × Has row d) ⊎ Opens cols d i
  back i d o =
      ⊎_elim
      (λ (h : Has row d). ⊎_elim (λ (e : i ≡ k). inl (e, h)) (λ (q : Opens cols d i). inr q) (has_more_cases (get_or cols d 0) k i (subst (λ (v : ℕ). Has v i) (w.in_row d h) o)))
      (λ n. inr (subst (λ (v : ℕ). Has v i) (w.others d n) o)) (cases_eq (bit row d) 1)

  pub transposed_more : Transposed rows next (k + 1) D
  transposed_more =
      record {
        long = w.long ∙ t.long;
        to = λ i d li ld o.
            ⊎_elim
            (λ (e : i ≡ k). subst (Has (get_or next d 0)) (sym e)
            (subst (λ (v : ℕ). Has v k) (sym (w.in_row d (in_row d ld (subst (λ (z : ℕ). Opens rows z d) e o)))) (has_more_same (get_or cols d 0) k)))
            (λ ne. kept i d (t.to i d (omega arith) ld o)) (cases_eq i k);
        from = λ i d o.
            ⊎_elim
            (λ q. let m = row_in d q.1 in (omega (arith, q.0), m.0, subst (λ (z : ℕ). Opens rows z d) (sym q.0) m.1))
            (λ q. let m = t.from i d q in (omega (arith, m.0), m.1, m.2)) (back i d o);
      }

-- ---- turned
module _ {rows cols : List ℕ} {K D : ℕ} (ends : (k : ℕ) → K ≤ k → get_or rows k 0 ≡ 0) (t : Transposed rows cols K D) where
  pub key_in : (k d : ℕ) → Opens rows k d → k < K
  key_in k d o = ⊎_elim (λ (l : k < K). l) (λ (l : K ≤ k). absurd (has_zero d (subst (λ (v : ℕ). Has v d) (ends k l) o))) (cases_lt k K)

  pub columns_past : (d : ℕ) → D ≤ d → get_or cols d 0 ≡ 0
  columns_past d l = none_has (get_or cols d 0) (λ k o. omega (arith, (t.from k d o).1))

  module _ {cuts : List ℕ} (few : K ≤ 64) (less : D ≤ 64) (c : Cut rows D cuts) where
    cut_in : (k d : ℕ) → Opens cuts k d → (k < K) × (d < D) × Opens rows k d
    cut_in k d o =
        let l : k < 64 = ⊎_elim (λ (l : k < 64). l) (λ (l : 64 ≤ k). absurd (has_zero d (subst (λ (v : ℕ). Has v d) (get_or_past cuts k 0 (omega (arith, c.long))) o))) (cases_lt k 64) in
        let p = and_has (get_or rows k 0) (first_set D) d (subst (λ (v : ℕ). Has v d) (c.cut k l) o) in
        let q = first_only D d p.1 in
        (key_in k d p.0, omega arith, p.0)

    pub transposed_back : Transposed cols cuts D K
    transposed_back =
        record {
          long = c.long;
          to = λ d k ld lk o. subst (λ (v : ℕ). Has v d) (sym (c.cut k (omega arith))) (has_and (get_or rows k 0) (first_set D) d (t.from k d o).2 (first_has D d (omega arith)));
          from = λ d k o. let p = cut_in k d o in (p.1, p.0, t.to k d p.0 p.1 p.2);
        }
