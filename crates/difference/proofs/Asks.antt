-- What asks whether a group was found before: the keys or doors that can touch it, one by one.
use Rattle.std.proofs.Common.{◌≡◌, ℕ, ◌+◌, ◌^◌, ◌<◌, ◌≤◌, List, length, get_or, sym, ap, ◌∙◌, subst, ⊎_elim, arith}
use lib.Bits.{bit_and, bit_or}
use Rattle.std.proofs.lemmas.Bool.{cases_eq}
use Rattle.std.proofs.lemmas.List.{get_or_default}
use Rattle.std.proofs.lemmas.List.FromFn.{get_or-enumerate_from, length-enumerate_from}
use Rattle.std.proofs.lemmas.Slice.Zip.{get_or-zip, length-zip}
use Rattle.std.specs.List.{enumerate_from, zip}
use Rattle.masks.specs.Masks.{Has, first_set}
use Rattle.masks.proofs.Bitlaws.{and_has, below_has, has_and, has_more, has_more_same}
use Rattle.masks.proofs.Joins.{first_has, first_only}
use Rattle.groups.specs.declared.group.Group.{Group}
use Rattle.groups.specs.Plans.{Opens, IsGroup}
use Rattle.search.specs.Nodes.{Shares}
use Rattle.masks.proofs.Ascending.{Peeled}
use Rattle.difference.specs.Changes.{ColumnTouches, KeyTouches, Losing, OnlyIn, Shared}
use Rattle.difference.proofs.Marks.{no_has}

-- ---- two lists side by side, each pair with its number
pair_at : (bs rs : List ℕ) (n k b r : ℕ) → n < length bs → n < length rs → n < length (zip bs rs)
    → get_or (enumerate_from 0 (zip bs rs)) n (k, (b, r)) ≡ (0 + n, (get_or bs n b, get_or rs n r))
pair_at bs rs n k b r lb lr l = get_or-enumerate_from 0 (zip bs rs) n (k, (b, r)) l ∙ ap (λ (z : ℕ × ℕ). (0 + n, z)) (get_or-zip bs rs n (b, r) lb lr)

apart : (k b r n x y : ℕ) → ◌≡◌ {A = ℕ × (ℕ × ℕ)} (k, (b, r)) (0 + n, (x, y)) → (k ≡ n) × (b ≡ x) × (r ≡ y)
apart k b r n x y q = (omega (arith, ap (λ (z : ℕ × (ℕ × ℕ)). z.0) q), ap (λ (z : ℕ × (ℕ × ℕ)). z.1.0) q, ap (λ (z : ℕ × (ℕ × ℕ)). z.1.1) q)

pub paired : (bs rs : List ℕ) (n k b r : ℕ) → n < length (enumerate_from 0 (zip bs rs)) → (k, (b, r)) ≡ get_or (enumerate_from 0 (zip bs rs)) n (k, (b, r))
    → (k ≡ n) × (n < length bs) × (b ≡ get_or bs n 0) × (r ≡ get_or rs n 0)
paired bs rs n k b r l e =
    let within : n < length (zip bs rs) = omega (arith, length-enumerate_from 0 (zip bs rs)) in
    let lb : n < length bs = omega (arith, length-zip bs rs) in
    let lr : n < length rs = omega (arith, length-zip bs rs) in
    let q = apart k b r n (get_or bs n b) (get_or rs n r) (e ∙ pair_at bs rs n k b r lb lr within) in
    (q.0, lb, q.1 ∙ get_or_default bs n b 0 lb, q.2 ∙ get_or_default rs n r 0 lr)

-- ---- the rows that lost something
module _ (bs rs : List ℕ) (n k set : ℕ) (l : Losing bs rs n k set) where
  pub losing_more : (v : ℕ) → v ≡ 2 ^ k → Losing bs rs n (k + 1) (bit_or set v)
  losing_more v e i d li ld o ab =
      subst (λ (w : ℕ). Has (bit_or set w) i) (sym e)
      (⊎_elim (λ (q : i ≡ k). subst (Has (bit_or set (2 ^ k))) (sym q) (has_more_same set k)) (λ ne. has_more set k i (l i d (omega arith) ld o ab)) (cases_eq i k))

  pub losing_same : (b a r : ℕ) → b ≡ get_or bs k 0 → a ≡ get_or rs k 0 → OnlyIn b a n r → r ≡ 0 → Losing bs rs n (k + 1) set
  losing_same b a r eb ea q z i d li ld o ab =
      ⊎_elim (λ (e : i ≡ k). absurd (no_has r d z (q.all d ld (subst (λ (w : ℕ). Has w d) (sym eb) (subst (λ (j : ℕ). Opens bs j d) e o)) (λ h. ab (subst (λ (j : ℕ). Opens rs j d) (sym e) (subst (λ (w : ℕ). Has w d) ea h))))))
      (λ ne. l i d (omega arith) ld o ab) (cases_eq i k)

-- the same of lists that are these
pub losing_at : {bs bs' rs rs' : List ℕ} {n m : ℕ} (set : ℕ) → bs' ≡ bs → rs' ≡ rs → length bs ≡ m → Losing bs' rs' n (length bs') set → Losing bs rs n m set
losing_at {bs} {bs'} {rs} {rs'} set e f l h k d lk ld o ab =
    h k d (omega (arith, ap (length {A = ℕ}) e, l)) ld (subst (λ (z : List ℕ). Opens z k d) (sym e) o) (λ q. ab (subst (λ (z : List ℕ). Opens z k d) f q))

-- ---- those that are left to ask
pub record Asking (P : ℕ → Type 0) (set u rest : ℕ) : Type 0 where
  pub all : (k : ℕ) → k < u → P k → Has rest k
  pub part : (k : ℕ) → Has rest k → Has set k × (k < u)

pub asking_all : (P : ℕ → Type 0) (set changed u f : ℕ) → u ≤ 64 → f ≡ first_set u → ((k : ℕ) → k < u → P k → Has set k × Has changed k)
    → Asking P set u (bit_and (bit_and set changed) f)
asking_all P set changed u f few e can =
    record {
      all = λ k l p.
          has_and (bit_and set changed) f k (has_and set changed k (can k l p).0 (can k l p).1) (subst (λ (v : ℕ). Has v k) (sym e) (first_has u k (omega arith)));
      part = λ k h.
          let a = and_has (bit_and set changed) f k h in
          let q = first_only u k (subst (λ (v : ℕ). Has v k) e a.1) in
          ((and_has set changed k a.0).0, omega arith);
    }

pub asking_at : {P : ℕ → Type 0} {set u rest now : ℕ} → now ≡ rest → Asking P set u rest → Asking P set u now
asking_at {P} {set} {u} e a = subst (Asking P set u) (sym e) a

module _ {P : ℕ → Type 0} {set u rest : ℕ} (a : Asking P set u rest) where
  pub asking_next : {j r : ℕ} → Peeled rest j r → (P j → ⊥) → Asking P set u r
  asking_next {j} {r} p n =
      record {
        all = λ k l t. ⊎_elim (λ (e : k ≡ j). absurd (n (subst P e t))) (λ h. h) (p.split k (a.all k l t));
        part = λ k h. a.part k (p.part k h);
      }

  pub asking_none : rest ≡ 0 → ((k : ℕ) × (k < u) × P k) → ⊥
  asking_none z t = no_has rest t.0 z (a.all t.0 t.1 t.2)

-- ---- only what changed can touch a group
pub key_changed : {bs rs : List ℕ} {D : ℕ} (changed : ℕ) (g : Group) → IsGroup rs D g → length rs ≡ length bs → Losing bs rs D (length bs) changed → Losing rs bs D (length bs) changed
    → (k : ℕ) → KeyTouches bs rs D k g → Has g.keys k × Has changed k
key_changed {bs} {rs} changed g p same lost gained k t =
    let l : k < length bs = (let b = below_has (length rs) g.keys k p.keys_below t.key in omega arith) in (
      t.key,
      ⊎_elim (λ a. gained k t.door l t.door_in (p.shared k t.door t.key a.0) a.1) (λ a. lost k t.door l t.door_in (a.0 k t.key) a.1) t.how,
    )

pub column_changed : {bc ac : List ℕ} {K : ℕ} (changed : ℕ) (g : Group) → ((d : ℕ) → Has g.doors d → d < length bc) → Losing bc ac K (length bc) changed
    → (v : ℕ) → ColumnTouches bc ac K v g → Has g.doors v × Has changed v
column_changed changed g within lost v t = (t.door, lost v t.key (within v t.door) t.key_in (t.opened v t.door) t.lost)

-- ---- what rows share
pub shared_from : (rows : List ℕ) (n set f r : ℕ) → ((k : ℕ) → Has set k → k < length rows) → n ≤ 64 → f ≡ first_set n → Shares rows f (Has set) r → Shared rows n set r
shared_from rows n set f r inside few e s =
    record {
      inside = λ d h. let q = first_only n d (subst (λ (v : ℕ). Has v d) e (s.before d h)) in omega arith;
      each = λ k d l hk h. s.in_all d k h hk;
      all = λ d l all. s.all d (subst (λ (v : ℕ). Has v d) (sym e) (first_has n d (omega arith))) (λ k hk. all k (inside k hk) hk);
    }
