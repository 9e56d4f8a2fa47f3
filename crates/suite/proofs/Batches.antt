-- A plan follows a booking: where no change of a batch is faulty and no pair stands in it twice, each removal and then each addition is answered Ok in its turn.
use Rattle.std.proofs.Common.{◌≡◌, ℕ, ◌+◌, ◌-◌, ◌<◌, ◌≤◌, Bool, true, false, cond, not, eqb, List, [], ◌∷◌, length, get_or, set, is_some, Some, None, Ok, Err, Option, sym, refl, ap, ◌∙◌, subst, ⊎_elim, arith}
use Rattle.std.proofs.lemmas.List.{length-set, get_or_past}
use Rattle.std.proofs.lemmas.Bool.{true≢false, cases_lt, ne_eqb, and_left}
use Rattle.std.proofs.lemmas.Bool.Decides.{nat_tests}
use Rattle.faults.specs.declared.cause.Cause.{Cause}
use Rattle.faults.specs.Causes.{bare, along}
use Rattle.masks.specs.Masks.{has_bit, joined, parted}
use Rattle.pairs.specs.declared.change.Change.{Change}
use Rattle.pairs.specs.Orders.{change_before, before_by_pair}
use Rattle.pairs.specs.Chains.{by_pair_chain}
use Rattle.table.specs.Rows.{Ascends}
use Rattle.table.specs.Sets.{has}
use Rattle.table.proofs.Ups.{Below, Up, ascends_up}
use Rattle.table.proofs.Members.{take_self}
use Rattle.groups.specs.Lists.{removal, withdrawn, permitted, removals_out}
use Rattle.groups.proofs.Batches.{removals_length, removals_opens, withdrawn_that, permitted_that}
use Rattle.plans.specs.Meaning.{inside, stands, permit_answer, withdraw_answer}
use Rattle.ledger.specs.Ledger.{additions, removals, first_of, change_fault, changes_fault}
use Rattle.suite.specs.Steps.{by_mark, Removable, Addable}

pub removals_additions : (cs : List Change) → removals cs + additions cs ≡ length cs
removals_additions [] = refl
removals_additions (c ∷ cs) = let r = removals_additions cs in let o = one c.added in omega arith
  where
    one : (b : Bool) → cond b 0 1 + cond b 1 0 ≡ 1
    one true = refl
    one false = refl

-- ---- pairs that differ

pub pairs_up : (cs : List Change) → Ascends before_by_pair cs (length cs) → Up before_by_pair cs
pairs_up cs a = subst (λ (z : List Change). Up before_by_pair z) (take_self cs) (ascends_up before_by_pair by_pair_chain cs (length cs) (omega arith) a)

other_pair : (c x : Change) → before_by_pair c x ≡ true → c.key ≡ x.key → c.door ≡ x.door → ⊥
other_pair c x b e f = grind (arith, nat_tests)

-- what another pair sees of a withdrawal, and of a permission: nothing; a key past the last row has none before or after
module _ (rows : List ℕ) (c : Change) (k d : ℕ) (n : c.key ≡ k → c.door ≡ d → ⊥) where
  past_set : (v : ℕ) → length rows ≤ k → stands (set rows c.key v) k d ≡ stands rows k d
  past_set v l =
      ap (λ (z : ℕ). has_bit z d) (get_or_past (set rows c.key v) k 0 (omega (arith, length-set rows c.key v)) ∙ sym (get_or_past rows k 0 l))

  withdrawn_other : stands (withdrawn c rows) k d ≡ stands rows k d
  withdrawn_other = ⊎_elim (λ (l : k < length rows). withdrawn_that rows k d l c n) (past_set (parted (get_or rows c.key 0) c.door)) (cases_lt k (length rows))

  permitted_other : stands (permitted c rows) k d ≡ stands rows k d
  permitted_other = ⊎_elim (λ (l : k < length rows). permitted_that rows k d l c n) (past_set (joined (get_or rows c.key 0) c.door)) (cases_lt k (length rows))

-- ---- no faulty change: each pair is inside, an added one does not stand, and a removed one does

abbrev Faultless : ℕ → ℕ → List ℕ → List Change → Type 0
Faultless keys doors rows [] = Unit {0}
Faultless keys doors rows (c ∷ cs) = (inside keys doors c.key c.door ≡ true) × (stands rows c.key c.door ≡ not c.added) × Faultless keys doors rows cs

first_none : (o p : Option Cause) → first_of o p ≡ None → (o ≡ None) × (p ≡ None)
first_none None p e = (refl, e)
first_none (Some f) p e = absurd (true≢false (ap is_some e))

change_none : (i : ℕ) (inside added stands : Bool)
    → cond (not inside) (Some (along 14 i)) (cond added (cond stands (Some (along 15 i)) None) (cond stands None (Some (along 16 i)))) ≡ None
    → (inside ≡ true) × (stands ≡ not added)
change_none i false added stands e = absurd (true≢false (ap is_some e))
change_none i true true true e = absurd (true≢false (ap is_some e))
change_none i true true false e = (refl, refl)
change_none i true false true e = (refl, refl)
change_none i true false false e = absurd (true≢false (ap is_some e))

faultless : (keys doors : ℕ) (rows : List ℕ) (i : ℕ) (cs : List Change) → changes_fault keys doors rows i cs ≡ None → Faultless keys doors rows cs
faultless keys doors rows i [] e = tt
faultless keys doors rows i (c ∷ cs) e =
    let both = first_none (change_fault keys doors rows i c) (changes_fault keys doors rows (i + 1) cs) e in
    let one = change_none i (inside keys doors c.key c.door) c.added (stands rows c.key c.door) both.0 in
    (one.0, one.1, faultless keys doors rows (i + 1) cs both.1)

-- ---- the removals

withdraw_ok : (keys doors : ℕ) (rows : List ℕ) (k d : ℕ) → inside keys doors k d ≡ true → stands rows k d ≡ true → withdraw_answer keys doors rows k d ≡ Ok tt
withdraw_ok keys doors rows k d a b =
    ap (λ t. cond (not t) (Err (bare 3)) (cond (stands rows k d) (Ok tt) (Err (bare 6)))) a ∙ ap (λ t. cond t (Ok tt) (Err (bare 6))) b

faultless_withdrawn : (keys doors : ℕ) (rows : List ℕ) (c : Change) (cs : List Change) → Below before_by_pair c cs → Faultless keys doors rows cs → Faultless keys doors (withdrawn c rows) cs
faultless_withdrawn keys doors rows c [] b f = tt
faultless_withdrawn keys doors rows c (x ∷ cs) b f =
    (f.0, withdrawn_other rows c x.key x.door (other_pair c x b.0) ∙ f.1, faultless_withdrawn keys doors rows c cs b.1 f.2)

module _ (keys doors : ℕ) where
  removable_by : (c : Change) (cs : List Change) (rows : List ℕ) (added : Bool) → inside keys doors c.key c.door ≡ true → stands rows c.key c.door ≡ not added
      → Removable keys doors cs rows → Removable keys doors cs (withdrawn c rows)
      → by_mark added (Removable keys doors cs rows) ((withdraw_answer keys doors rows c.key c.door ≡ Ok tt) × Removable keys doors cs (withdrawn c rows))
  removable_by c cs rows true a b passed done = passed
  removable_by c cs rows false a b passed done = (withdraw_ok keys doors rows c.key c.door a b, done)

  removable_up : (cs : List Change) (rows : List ℕ) → Up before_by_pair cs → Faultless keys doors rows cs → Removable keys doors cs rows
  removable_up [] rows u f = tt
  removable_up (c ∷ cs) rows u f =
      removable_by c cs rows c.added f.0 f.1 (removable_up cs rows u.1 f.2)
      (removable_up cs (withdrawn c rows) u.1 (faultless_withdrawn keys doors rows c cs u.0 f.2))

-- ---- the additions, once the removals are out

permit_ok : (keys doors : ℕ) (rows : List ℕ) (spare k d : ℕ) → inside keys doors k d ≡ true → stands rows k d ≡ false → 0 < spare → permit_answer keys doors rows spare k d ≡ Ok tt
permit_ok keys doors rows spare k d a b l =
    ap (λ t. cond (not t) (Err (bare 3)) (cond (stands rows k d) (Err (bare 4)) (cond (eqb spare 0) (Err (bare 5)) (Ok tt)))) a
    ∙ ap (λ t. cond t (Err (bare 4)) (cond (eqb spare 0) (Err (bare 5)) (Ok tt))) b
    ∙ ap (λ t. cond t (Err (bare 5)) (Ok tt)) (ne_eqb spare 0 (λ e. omega arith))

-- each pair is inside, and an added one does not stand
abbrev Free : ℕ → ℕ → List ℕ → List Change → Type 0
Free keys doors rows [] = Unit {0}
Free keys doors rows (c ∷ cs) = (inside keys doors c.key c.door ≡ true) × (c.added ≡ true → stands rows c.key c.door ≡ false) × Free keys doors rows cs

free_permitted : (keys doors : ℕ) (rows : List ℕ) (c : Change) (cs : List Change) → Below before_by_pair c cs → Free keys doors rows cs → Free keys doors (permitted c rows) cs
free_permitted keys doors rows c [] b f = tt
free_permitted keys doors rows c (x ∷ cs) b f =
    (f.0, (λ e. permitted_other rows c x.key x.door (other_pair c x b.0) ∙ f.1 e), free_permitted keys doors rows c cs b.1 f.2)

-- removals only take pairs away
still_absent : (cs : List Change) (rows : List ℕ) (k d : ℕ) → stands rows k d ≡ false → stands (removals_out cs rows) k d ≡ false
still_absent cs rows k d a = ⊎_elim
    (λ (l : k < length rows). removals_opens cs rows k d l ∙ and_left (stands rows k d) (not (has change_before (removal k d) cs)) a)
    (λ (l : length rows ≤ k). ap (λ (z : ℕ). has_bit z d) (get_or_past (removals_out cs rows) k 0 (omega (arith, removals_length cs rows)) ∙ sym (get_or_past rows k 0 l)) ∙ a)
    (cases_lt k (length rows))

free_of : (keys doors : ℕ) (rows : List ℕ) (out cs : List Change) → Faultless keys doors rows cs → Free keys doors (removals_out out rows) cs
free_of keys doors rows out [] f = tt
free_of keys doors rows out (c ∷ cs) f = (f.0, (λ e. still_absent out rows c.key c.door (f.1 ∙ ap not e)), free_of keys doors rows out cs f.2)

module _ (keys doors : ℕ) where
  addable_by : (c : Change) (cs : List Change) (rows : List ℕ) (spare : ℕ) (added : Bool) → inside keys doors c.key c.door ≡ true → (added ≡ true → stands rows c.key c.door ≡ false)
      → cond added 1 0 + additions cs ≤ spare
      → (additions cs ≤ spare → Addable keys doors cs rows spare) → (additions cs ≤ spare - 1 → Addable keys doors cs (permitted c rows) (spare - 1))
      → by_mark added ((permit_answer keys doors rows spare c.key c.door ≡ Ok tt) × Addable keys doors cs (permitted c rows) (spare - 1)) (Addable keys doors cs rows spare)
  addable_by c cs rows spare true a b l passed done = (permit_ok keys doors rows spare c.key c.door a (b refl) (omega arith), done (omega arith))
  addable_by c cs rows spare false a b l passed done = passed (omega arith)

  addable_up : (cs : List Change) (rows : List ℕ) (spare : ℕ) → Up before_by_pair cs → Free keys doors rows cs → additions cs ≤ spare → Addable keys doors cs rows spare
  addable_up [] rows spare u f l = tt
  addable_up (c ∷ cs) rows spare u f l =
      addable_by c cs rows spare c.added f.0 f.1 l (λ m. addable_up cs rows spare u.1 f.2 m)
      (λ m. addable_up cs (permitted c rows) (spare - 1) u.1 (free_permitted keys doors rows c cs u.0 f.2) m)

-- ---- a batch

module _ (keys doors : ℕ) (rows : List ℕ) (cs : List Change) (u : Ascends before_by_pair cs (length cs)) (e : changes_fault keys doors rows 0 cs ≡ None) where
  pub batch_removable : Removable keys doors cs rows
  batch_removable = removable_up keys doors cs rows (pairs_up cs u) (faultless keys doors rows 0 cs e)

  pub batch_addable : (spare : ℕ) → additions cs ≤ spare → Addable keys doors cs (removals_out cs rows) spare
  batch_addable spare l = addable_up keys doors cs (removals_out cs rows) spare (pairs_up cs u) (free_of keys doors rows cs cs (faultless keys doors rows 0 cs e)) l

-- ---- one turn over the changes of a batch: what is said of the first is had, and the rest follows
