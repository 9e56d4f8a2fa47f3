-- A table in which one pair more or one less is written.
use Rattle.std.proofs.Common.{◌≡◌, ℕ, zero, suc, ◌+◌, ◌-◌, ◌*◌, ◌^◌, ◌<◌, ◌≤◌, Bool, true, false, cond, ◌&&◌, eqb, List, [], ◌∷◌, Ok, Err, Result, length, get_or, take, set, replicate, sym, refl, ap, ◌∙◌, subst, ⊎_elim, arith, pow_pos}
use lib.Count.{ones, ones_in}
use Rattle.std.proofs.lemmas.List.{get_or-take, get_or_past, get_or-set_same, get_or-set_other, length-set, length-take, take-replicate}
use Rattle.std.proofs.lemmas.Bool.{cases_eq, cases_lt, cond-true, cond-false, eq-eqb, ne_eqb, and_from, and_left, and_right}
use Rattle.masks.specs.Masks.{bit, joined, parted}
use Rattle.masks.proofs.Bitlaws.{bit_zero, below_has, none_has}
use Rattle.masks.proofs.Joins.{true_has, false_lacks, joined_same, joined_other, joined_lt, ones_joined, parted_same, parted_other, parted_le, ones_parted}
use Rattle.groups.specs.Lists.{addition, removal, permitted, withdrawn}
use Rattle.plans.specs.declared.makes.TablePlan.{TablePlan}
use Rattle.plans.specs.Meaning.{keys_opening, pairs_in, inside, stands}
use Rattle.plans.specs.Tables.{table_keys, table_doors, table_rows, table_spare, table_sound}
use Rattle.plans.proofs.Columns.{inside_parts, column_is}

-- ---- one set of a table changed at one number
module _ (f : ℕ → ℕ → ℕ) where
  abbrev changed : List ℕ → ℕ → ℕ → List ℕ
  changed R k d = set R k (f (get_or R k 0) d)

  front_changed : (R : List ℕ) (K k d : ℕ) → k < K → take K (changed R k d) ≡ changed (take K R) k d
  front_changed R K k d h = take_set R K k (f (get_or R k 0) d) ∙ ap (λ (v : ℕ). set (take K R) k (f v d)) (sym (get_or-take K R k 0 h))
    where
      take_set : (R : List ℕ) (K k v : ℕ) → take K (set R k v) ≡ set (take K R) k v
      take_set R zero k v = refl
      take_set [] (suc K) k v = refl
      take_set (r ∷ R) (suc K) zero v = refl
      take_set (r ∷ R) (suc K) (suc k) v = ap (λ (z : List ℕ). r ∷ z) (take_set R K k v)

  module _ (b : ℕ) (same : (x i : ℕ) → bit (f x i) i ≡ b) (other : (x i j : ℕ) → (j ≡ i → ⊥) → bit (f x i) j ≡ bit x j) where
    cell : (R : List ℕ) (k d : ℕ) → k < length R → (j e : ℕ) → bit (get_or (changed R k d) j 0) e ≡ cond (eqb j k && eqb e d) b (bit (get_or R j 0) e)
    cell R k d l j e = ⊎_elim
        (λ (p : j ≡ k).
        let row : get_or (changed R k d) j 0 ≡ f (get_or R j 0) d = ap (λ (z : ℕ). get_or (changed R k d) z 0) p ∙ get_or-set_same R k (f (get_or R k 0) d) 0 l ∙ ap (λ (z : ℕ). f (get_or R z 0) d) (sym p) in
        ap (λ (v : ℕ). bit v e) row ∙ ⊎_elim
        (λ (q : e ≡ d). ap (bit (f (get_or R j 0) d)) q ∙ same (get_or R j 0) d ∙ sym (cond-true _ b (bit (get_or R j 0) e) (and_from _ _ (eq-eqb j k p) (eq-eqb e d q))))
        (λ (q : e ≡ d → ⊥). other (get_or R j 0) d e q ∙ sym (cond-false _ b (bit (get_or R j 0) e) (and_right (eqb j k) _ (ne_eqb e d q)))) (cases_eq e d))
        (λ (p : j ≡ k → ⊥). ap (λ (v : ℕ). bit v e) (get_or-set_other R k j (f (get_or R k 0) d) 0 p) ∙ sym (cond-false _ b (bit (get_or R j 0) e) (and_left _ (eqb e d) (ne_eqb j k p)))) (cases_eq j k)

    turn : (a c : Bool) → (a && c) ≡ (c && a)
    turn true true = refl
    turn true false = refl
    turn false true = refl
    turn false false = refl

    agree_changed : (R C : List ℕ) (k d : ℕ) → k < length R → d < length C → ((j e : ℕ) → bit (get_or R j 0) e ≡ bit (get_or C e 0) j)
        → (j e : ℕ) → bit (get_or (changed R k d) j 0) e ≡ bit (get_or (changed C d k) e 0) j
    agree_changed R C k d l m agree j e =
        cell R k d l j e ∙ ap (λ (v : ℕ). cond (eqb j k && eqb e d) b v) (agree j e) ∙ ap (λ t. cond t b (bit (get_or C e 0) j)) (turn (eqb j k) (eqb e d)) ∙ sym (cell C d k m e j)

below_set : (rs : List ℕ) (k v D : ℕ) → ((j : ℕ) → get_or rs j 0 < 2 ^ D) → v < 2 ^ D → (j : ℕ) → get_or (set rs k v) j 0 < 2 ^ D
below_set [] k v D b l j = b j
below_set (r ∷ rs) zero v D b l zero = l
below_set (r ∷ rs) zero v D b l (suc j) = b (suc j)
below_set (r ∷ rs) (suc k) v D b l zero = b 0
below_set (r ∷ rs) (suc k) v D b l (suc j) = below_set rs k v D (λ i. b (suc i)) l j

pairs_joined : (rs : List ℕ) (k d : ℕ) → k < length rs → bit (get_or rs k 0) d ≡ 0 → pairs_in (set rs k (joined (get_or rs k 0) d)) ≡ pairs_in rs + 1
pairs_joined [] k d l h = absurd (omega arith)
pairs_joined (r ∷ rs) zero d l h = omega (arith, ones_joined r d h)
pairs_joined (r ∷ rs) (suc k) d l h = omega (arith, pairs_joined rs k d (omega arith) h)

pairs_parted : (rs : List ℕ) (k d : ℕ) → k < length rs → bit (get_or rs k 0) d ≡ 1 → pairs_in (set rs k (parted (get_or rs k 0) d)) + 1 ≡ pairs_in rs
pairs_parted [] k d l h = absurd (omega arith)
pairs_parted (r ∷ rs) zero d l h = omega (arith, ones_parted r d h)
pairs_parted (r ∷ rs) (suc k) d l h = omega (arith, pairs_parted rs k d (omega arith) h)

-- ---- a table of nothing
abbrev Nothing : ℕ → List ℕ
Nothing n = replicate n 0

getD_none : (n k : ℕ) → get_or (Nothing n) k 0 ≡ 0
getD_none zero k = refl
getD_none (suc n) zero = refl
getD_none (suc n) (suc k) = getD_none n k

pairs_none : (n : ℕ) → pairs_in (Nothing n) ≡ 0
unfolding ones ones_in
pairs_none zero = refl
pairs_none (suc n) = omega (arith, pairs_none n)

pub none_agree : (n k d : ℕ) → bit (get_or (Nothing n) k 0) d ≡ bit (get_or (Nothing n) d 0) k
none_agree n k d = ap (λ (v : ℕ). bit v d) (getD_none n k) ∙ bit_zero d ∙ sym (ap (λ (v : ℕ). bit v k) (getD_none n d) ∙ bit_zero k)

pub none_below : (n k D : ℕ) → get_or (Nothing n) k 0 < 2 ^ D
none_below n k D = omega (arith, getD_none n k, pow_pos D)

module _ (n K : ℕ) (h : K ≤ n) where
  pub none_rows : take K (Nothing n) ≡ Nothing K
  none_rows = take-replicate K n 0 h

  pub none_counts : pairs_in (take K (Nothing n)) ≡ 0
  none_counts = ap pairs_in none_rows ∙ pairs_none K

-- ---- a table plan
module _ (p : TablePlan) where
  -- a row past the last key is empty, since no column has its key
  pub row_front : (k : ℕ) → get_or p.rows k 0 ≡ get_or (table_rows p) k 0
  row_front k = ⊎_elim
      (λ (h : k < table_keys p). sym (get_or-take (table_keys p) p.rows k 0 h))
      (λ (h : table_keys p ≤ k). none_has (get_or p.rows k 0) (λ d b. absurd (omega (arith, below_has (table_keys p) (get_or p.columns d 0) k (p.keys_below d) (sym (p.agree k d) ∙ b)))) ∙ sym (get_or_past (table_rows p) k 0 (omega (arith, length-take (table_keys p) p.rows))))
      (cases_lt k (table_keys p))

  pub column_front : (d : ℕ) → get_or p.columns d 0 ≡ keys_opening (table_rows p) (table_doors p) d
  column_front d = column_is (table_rows p) (table_doors p) (table_sound p).below (get_or p.columns d 0) d
      (λ k h. ap (λ (v : ℕ). bit v d) (sym (row_front k)) ∙ p.agree k d ∙ h)
      (λ k h. sym (p.agree k d) ∙ ap (λ (v : ℕ). bit v d) (row_front k) ∙ h)

-- whether a pair stands, by its place
pub is_there : (b : Bool) (u : Unit {0}) → cond {A = Result (Unit {0}) (Unit {0})} b (Ok tt) (Err tt) ≡ Ok u → b ≡ true
is_there true u e = refl
is_there false u e = cc

pub not_there : (b : Bool) (u : Unit {0}) → cond {A = Result (Unit {0}) (Unit {0})} b (Ok tt) (Err tt) ≡ Err u → b ≡ false
not_there true u e = cc
not_there false u e = refl

-- the facts of the type for other rows, columns and number of pairs, at the same sizes
pub record Written (p : TablePlan) (rows columns : List ℕ) (pairs : ℕ) (after : List ℕ) : Type 0 where
  pub tall : length rows ≡ 64
  pub wide : length columns ≡ 64
  pub agree : (k d : ℕ) → bit (get_or rows k 0) d ≡ bit (get_or columns d 0) k
  pub doors_below : (k : ℕ) → get_or rows k 0 < 2 ^ table_doors p
  pub keys_below : (d : ℕ) → get_or columns d 0 < 2 ^ table_keys p
  pub counts : pairs ≡ pairs_in (take (table_keys p) rows)
  pub fits : pairs ≤ table_keys p * table_doors p
  pub rows_after : take (table_keys p) rows ≡ after

module _ (p : TablePlan) (k d : ℕ) (ok : inside (table_keys p) (table_doors p) k d ≡ true) where
  kK : k < table_keys p
  kK = (inside_parts (table_keys p) (table_doors p) k d ok).0

  dD : d < table_doors p
  dD = (inside_parts (table_keys p) (table_doors p) k d ok).1

  pub k64 : k < 64
  k64 = let a = kK in omega (arith, p.sizes.few_keys)

  pub d64 : d < 64
  d64 = let a = dD in omega (arith, p.sizes.few_doors)

  long : k < length (table_rows p)
  long = let a = kK in omega (arith, (table_sound p).long)

  pub put_in : (x y : ℕ) → x ≡ joined (get_or p.rows k 0) d → y ≡ joined (get_or p.columns d 0) k → stands (table_rows p) k d ≡ false → 0 < table_spare p
      → Written p (set p.rows k x) (set p.columns d y) (p.pairs + 1) (permitted (addition k d) (table_rows p))
  put_in x y xe ye off room =
      let a = k64 in let b = d64 in let t = p.tall in let w = p.wide in let n = p.counts in
      let R = p.rows in let C = p.columns in let K = table_keys p in let D = table_doors p in
      let re : set R k x ≡ changed joined R k d = ap (set R k) xe in
      let ce : set C d y ≡ changed joined C d k = ap (set C d) ye in
      let after : take K (set R k x) ≡ permitted (addition k d) (table_rows p) = ap (take K) re ∙ front_changed joined R K k d kK in
      record {
        tall = length-set R k x ∙ t;
        wide = length-set C d y ∙ w;
        agree = λ j e. ap (λ (z : List ℕ). bit (get_or z j 0) e) re ∙ agree_changed joined 1 joined_same joined_other R C k d (omega arith) (omega arith) p.agree j e ∙ sym (ap (λ (z : List ℕ). bit (get_or z e 0) j) ce);
        doors_below = below_set R k x D p.doors_below (subst (λ (v : ℕ). v < 2 ^ D) (sym xe) (joined_lt D (get_or R k 0) d (p.doors_below k) dD));
        keys_below = below_set C d y K p.keys_below (subst (λ (v : ℕ). v < 2 ^ K) (sym ye) (joined_lt K (get_or C d 0) k (p.keys_below d) kK));
        counts = omega (arith, ap pairs_in after, pairs_joined (table_rows p) k d long (false_lacks _ d off));
        fits = omega arith;
        rows_after = after;
      }

  pub some_pair : stands (table_rows p) k d ≡ true → 1 ≤ p.pairs
  some_pair on = omega (arith, p.counts, pairs_parted (table_rows p) k d long (true_has _ d on))

  pub take_away : (x y : ℕ) → x ≡ parted (get_or p.rows k 0) d → y ≡ parted (get_or p.columns d 0) k → stands (table_rows p) k d ≡ true
      → Written p (set p.rows k x) (set p.columns d y) (p.pairs - 1) (withdrawn (removal k d) (table_rows p))
  take_away x y xe ye on =
      let a = k64 in let b = d64 in let t = p.tall in let w = p.wide in let n = p.counts in let m = p.fits in
      let R = p.rows in let C = p.columns in let K = table_keys p in let D = table_doors p in
      let re : set R k x ≡ changed parted R k d = ap (set R k) xe in
      let ce : set C d y ≡ changed parted C d k = ap (set C d) ye in
      let after : take K (set R k x) ≡ withdrawn (removal k d) (table_rows p) = ap (take K) re ∙ front_changed parted R K k d kK in
      record {
        tall = length-set R k x ∙ t;
        wide = length-set C d y ∙ w;
        agree = λ j e. ap (λ (z : List ℕ). bit (get_or z j 0) e) re ∙ agree_changed parted 0 parted_same parted_other R C k d (omega arith) (omega arith) p.agree j e ∙ sym (ap (λ (z : List ℕ). bit (get_or z e 0) j) ce);
        doors_below = below_set R k x D p.doors_below (omega (arith, parted_le (get_or R k 0) d, p.doors_below k));
        keys_below = below_set C d y K p.keys_below (omega (arith, parted_le (get_or C d 0) k, p.keys_below d));
        counts = omega (arith, ap pairs_in after, pairs_parted (table_rows p) k d long (true_has _ d on));
        fits = omega arith;
        rows_after = after;
      }
