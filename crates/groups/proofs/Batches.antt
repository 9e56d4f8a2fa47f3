-- A batch carried out, pair by pair.
use Rattle.std.proofs.Common.{◌≡◌, ℕ, ◌<◌, Bool, true, false, cond, not, ◌&&◌, ◌||◌, eqb, ◌⊎◌, List, [], ◌∷◌, length, get_or, set, sym, refl, ap, ◌∙◌, inl, inr, ⊎_elim, arith}
use Rattle.std.proofs.lemmas.List.{length-set, get_or-set_same, get_or-set_other}
use Rattle.std.proofs.lemmas.Bool.{cases_eq, cases_Bool, cond_both, true≢false}
use Rattle.std.proofs.lemmas.Bool.Decides.{nat_tests}
use Rattle.masks.specs.Masks.{has_bit, joined, parted}
use Rattle.masks.proofs.Joins.{joined_same, joined_other, parted_same, parted_other}
use Rattle.pairs.specs.declared.change.Change.{Change}
use Rattle.pairs.specs.Orders.{change_before}
use Rattle.table.specs.Sets.{tied, has}
use Rattle.groups.specs.Lists.{addition, removal, withdrawn, permitted, removals_out, additions_in, carried_out}

-- ---- sizes stay

pub removals_length : (cs : List Change) (rows : List ℕ) → length (removals_out cs rows) ≡ length rows
removals_length [] rows = refl
removals_length (c ∷ cs) rows =
    removals_length cs (cond c.added rows (withdrawn c rows))
    ∙ cond_both c.added rows (withdrawn c rows) (λ v. length v ≡ length rows) (λ e. refl) (λ e. length-set rows c.key (parted (get_or rows c.key 0) c.door))

additions_length : (cs : List Change) (rows : List ℕ) → length (additions_in cs rows) ≡ length rows
additions_length [] rows = refl
additions_length (c ∷ cs) rows =
    additions_length cs (cond c.added (permitted c rows) rows)
    ∙ cond_both c.added (permitted c rows) rows (λ v. length v ≡ length rows) (λ e. length-set rows c.key (joined (get_or rows c.key 0) c.door)) (λ e. refl)

pub carried_length : (cs : List Change) (rows : List ℕ) → length (carried_out cs rows) ≡ length rows
unfolding carried_out
carried_length cs rows = additions_length cs (removals_out cs rows) ∙ removals_length cs rows

-- ---- a change of a pair, with its mark

abbrev marked : Bool → ℕ → ℕ → Change
marked mark k d = record { key = k; door = d; added = mark }

strikes : (p : Bool) (k d : ℕ) (c : Change) → c.key ≡ k → c.door ≡ d → c.added ≡ p → tied change_before (marked p k d) c ≡ true
strikes true k d c e f g = grind (arith, nat_tests)
strikes false k d c e f g = grind (arith, nat_tests)

misses : (p : Bool) (k d : ℕ) (c : Change) → (c.key ≡ k → c.door ≡ d → c.added ≡ p → ⊥) → tied change_before (marked p k d) c ≡ false
misses p k d c n =
    ⊎_elim
    (λ (t : tied change_before (marked p k d) c ≡ true). absurd (n (same_key p t) (same_door p t) (same_mark p t)))
    (λ (t : tied change_before (marked p k d) c ≡ false). t) (cases_Bool (tied change_before (marked p k d) c))
  where
    same_key : (q : Bool) → tied change_before (marked q k d) c ≡ true → c.key ≡ k
    same_key q t = grind (arith, nat_tests)

    same_door : (q : Bool) → tied change_before (marked q k d) c ≡ true → c.door ≡ d
    same_door q t = grind (arith, nat_tests)

    same_mark : (q : Bool) → tied change_before (marked q k d) c ≡ true → c.added ≡ q
    same_mark true t = let b = cases_Bool c.added in grind (arith, nat_tests)
    same_mark false t = let b = cases_Bool c.added in grind (arith, nat_tests)

-- ---- the rows after one change, seen from one pair

abbrev pub opens : List ℕ → ℕ → ℕ → Bool
opens rows k d = has_bit (get_or rows k 0) d

and_yes : (a : Bool) → (a && true) ≡ a
and_yes true = refl
and_yes false = refl

and_no : (a : Bool) → (a && false) ≡ false
and_no true = refl
and_no false = refl

module _ (rows : List ℕ) (k d : ℕ) (l : k < length rows) (c : Change) where
  row_same : (f : ℕ → ℕ → ℕ) → c.key ≡ k → get_or (set rows c.key (f (get_or rows c.key 0) c.door)) k 0 ≡ f (get_or rows k 0) c.door
  row_same f e =
      ap (λ (i : ℕ). get_or (set rows i (f (get_or rows i 0) c.door)) k 0) e ∙ get_or-set_same rows k (f (get_or rows k 0) c.door) 0 l

  row_other : (v : ℕ) → (c.key ≡ k → ⊥) → get_or (set rows c.key v) k 0 ≡ get_or rows k 0
  row_other v n = get_or-set_other rows c.key k v 0 (λ e. n (sym e))

  door_other : (c.door ≡ d → ⊥) → d ≡ c.door → ⊥
  door_other n e = n (sym e)

  -- what a withdrawal leaves of a pair, and what a permission does
  withdrawn_this : c.key ≡ k → c.door ≡ d → opens (withdrawn c rows) k d ≡ false
  withdrawn_this e f =
      ap (λ (v : ℕ). has_bit v d) (row_same parted e) ∙ ap (λ (j : ℕ). has_bit (parted (get_or rows k 0) j) d) f
      ∙ ap (λ (v : ℕ). eqb v 1) (parted_same (get_or rows k 0) d)

  permitted_this : c.key ≡ k → c.door ≡ d → opens (permitted c rows) k d ≡ true
  permitted_this e f =
      ap (λ (v : ℕ). has_bit v d) (row_same joined e) ∙ ap (λ (j : ℕ). has_bit (joined (get_or rows k 0) j) d) f
      ∙ ap (λ (v : ℕ). eqb v 1) (joined_same (get_or rows k 0) d)

  pub withdrawn_that : (c.key ≡ k → c.door ≡ d → ⊥) → opens (withdrawn c rows) k d ≡ opens rows k d
  withdrawn_that n =
      ⊎_elim
      (λ (e : c.key ≡ k). ap (λ (v : ℕ). has_bit v d) (row_same parted e) ∙ ap (λ (v : ℕ). eqb v 1) (parted_other (get_or rows k 0) c.door d (door_other (n e))))
      (λ m. ap (λ (v : ℕ). has_bit v d) (row_other (parted (get_or rows c.key 0) c.door) m)) (cases_eq c.key k)

  pub permitted_that : (c.key ≡ k → c.door ≡ d → ⊥) → opens (permitted c rows) k d ≡ opens rows k d
  permitted_that n =
      ⊎_elim
      (λ (e : c.key ≡ k). ap (λ (v : ℕ). has_bit v d) (row_same joined e) ∙ ap (λ (v : ℕ). eqb v 1) (joined_other (get_or rows k 0) c.door d (door_other (n e))))
      (λ m. ap (λ (v : ℕ). has_bit v d) (row_other (joined (get_or rows c.key 0) c.door) m)) (cases_eq c.key k)

  pair_or_not : ((c.key ≡ k) × (c.door ≡ d)) ⊎ (c.key ≡ k → c.door ≡ d → ⊥)
  pair_or_not =
      ⊎_elim (λ (e : c.key ≡ k). ⊎_elim (λ (f : c.door ≡ d). inl (e, f)) (λ n. inr (λ _ f. n f)) (cases_eq c.door d))
      (λ n. inr (λ e _. n e)) (cases_eq c.key k)

  left : tied change_before (removal k d) c ≡ false → opens rows k d ≡ (opens rows k d && not (tied change_before (removal k d) c))
  left t = sym (ap (λ b. opens rows k d && not b) t ∙ and_yes (opens rows k d))

  removal_opens : opens (cond c.added rows (withdrawn c rows)) k d ≡ (opens rows k d && not (tied change_before (removal k d) c))
  removal_opens =
      cond_both c.added rows (withdrawn c rows) (λ v. opens v k d ≡ (opens rows k d && not (tied change_before (removal k d) c)))
      (λ a. left (misses false k d c (λ _ _ z. true≢false (sym a ∙ z))))
      (λ a. ⊎_elim
      (λ (p : (c.key ≡ k) × (c.door ≡ d)). withdrawn_this p.0 p.1 ∙ sym (ap (λ b. opens rows k d && not b) (strikes false k d c p.0 p.1 a) ∙ and_no (opens rows k d)))
      (λ n. withdrawn_that n ∙ left (misses false k d c (λ e f _. n e f))) pair_or_not)

  addition_opens : opens (cond c.added (permitted c rows) rows) k d ≡ (tied change_before (addition k d) c || opens rows k d)
  addition_opens =
      cond_both c.added (permitted c rows) rows (λ v. opens v k d ≡ (tied change_before (addition k d) c || opens rows k d))
      (λ a. ⊎_elim
      (λ (p : (c.key ≡ k) × (c.door ≡ d)). permitted_this p.0 p.1 ∙ sym (ap (λ b. b || opens rows k d) (strikes true k d c p.0 p.1 a)))
      (λ n. permitted_that n ∙ sym (ap (λ b. b || opens rows k d) (misses true k d c (λ e f _. n e f)))) pair_or_not)
      (λ a. sym (ap (λ b. b || opens rows k d) (misses true k d c (λ _ _ z. true≢false (sym z ∙ a)))))

-- ---- all of them

swap : (a b c : Bool) → ((a && not b) && not c) ≡ (a && not (b || c))
swap true true c = refl
swap true false c = refl
swap false b c = refl

turn : (a b c : Bool) → (b || (a || c)) ≡ ((a || b) || c)
turn true true c = refl
turn true false c = refl
turn false b c = refl

pub removals_opens : (cs : List Change) (rows : List ℕ) (k d : ℕ) → k < length rows → opens (removals_out cs rows) k d ≡ (opens rows k d && not (has change_before (removal k d) cs))
removals_opens [] rows k d l = sym (and_yes (opens rows k d))
removals_opens (c ∷ cs) rows k d l =
    let next = cond c.added rows (withdrawn c rows) in
    let m : k < length next = cond_both c.added rows (withdrawn c rows) (λ v. k < length v) (λ e. l) (λ e. omega (arith, length-set rows c.key (parted (get_or rows c.key 0) c.door))) in
    removals_opens cs next k d m
    ∙ ap (λ b. b && not (has change_before (removal k d) cs)) (removal_opens rows k d l c)
    ∙ swap (opens rows k d) (tied change_before (removal k d) c) (has change_before (removal k d) cs)

additions_opens : (cs : List Change) (rows : List ℕ) (k d : ℕ) → k < length rows → opens (additions_in cs rows) k d ≡ (has change_before (addition k d) cs || opens rows k d)
additions_opens [] rows k d l = refl
additions_opens (c ∷ cs) rows k d l =
    let next = cond c.added (permitted c rows) rows in
    let m : k < length next = cond_both c.added (permitted c rows) rows (λ v. k < length v) (λ e. omega (arith, length-set rows c.key (joined (get_or rows c.key 0) c.door))) (λ e. l) in
    additions_opens cs next k d m
    ∙ ap (λ b. has change_before (addition k d) cs || b) (addition_opens rows k d l c)
    ∙ turn (tied change_before (addition k d) c) (has change_before (addition k d) cs) (opens rows k d)

pub carried_opens : (cs : List Change) (rows : List ℕ) (k d : ℕ) → k < length rows
    → has_bit (get_or (carried_out cs rows) k 0) d ≡ (has change_before (addition k d) cs || (has_bit (get_or rows k 0) d && not (has change_before (removal k d) cs)))
unfolding carried_out
carried_opens cs rows k d l =
    additions_opens cs (removals_out cs rows) k d (omega (arith, removals_length cs rows))
    ∙ ap (λ b. has change_before (addition k d) cs || b) (removals_opens cs rows k d l)
