-- What a booking answers, cause by cause, and what it leaves.
use Rattle.std.proofs.Common.{◌≡◌, ℕ, ◌+◌, ◌-◌, ◌≤◌, Bool, true, false, cond, ltb, List, length, is_ok, Some, None, Ok, Err, Option, Result, sym, refl, ap, ◌∙◌, subst, arith}
use Rattle.std.proofs.lemmas.Bool.{cond-true, cond-false, true≢false, ltb-false}
use Rattle.faults.specs.declared.cause.Cause.{Cause}
use Rattle.faults.specs.declared.suite.SuiteFault.{SuiteFault}
use Rattle.faults.specs.Causes.{bare, told}
use Rattle.faults.specs.Faults.{suite_cause}
use Rattle.pairs.specs.declared.change.Change.{Change}
use Rattle.table.specs.Sets.{all_entered, all_struck}
use Rattle.groups.specs.declared.group.Group.{Group}
use Rattle.groups.specs.Orders.{group_before}
use Rattle.groups.specs.Lists.{carried_out, additions_in, removals_out, new_groups_of, lapsed_groups_of}
use Rattle.difference.specs.declared.two.TwoPlans.{TwoPlans}
use Rattle.difference.specs.Both.{after_rows, two_doors}
use Rattle.registers.specs.Meaning.{entered_run, entered_left, struck_run, struck_left}
use Rattle.ledger.specs.Ledger.{Ledger, additions, removals, first_of, changes_fault, list_capacity, out_of_step, wants, spare_after, unless, counted, arising, lapsing, book_answer, booked, over}
use Rattle.ledger.specs.Laws.{AscendingGroups}
use Rattle.ledger.proofs.Bookings.{arising_ascends, lapsing_ascends}
use Rattle.suite.specs.Bookings.{Booking, Ready, Fits}
use Rattle.suite.specs.Steps.{plan_fault, coming, going, lists_answer, Roomy, Compares, Addable}
use Rattle.suite.proofs.Batches.{batch_addable}
use Rattle.suite.proofs.Runs.{follow_held, follow_spare}
use Rattle.suite.proofs.Turns.{first_none}

abbrev Counts : Type 0
Counts = Result (ℕ × ℕ) Cause

-- ---- ways through the causes

refuse : (o : Option Cause) (b : Bool) (rest : Counts) (f : Cause) → first_of o (cond b (Some (bare 17)) None) ≡ Some f → Err f ≡ unless o (cond b (Err (bare 17)) rest)
refuse (Some g) b rest f e = cc
refuse None true rest f e = cc
refuse None false rest f e = absurd (let z : ◌≡◌ {A = ℕ} 0 1 = cc in omega arith)

accept : (o : Option Cause) (b : Bool) (rest : Counts) → first_of o (cond b (Some (bare 17)) None) ≡ None → unless o (cond b (Err (bare 17)) rest) ≡ rest
accept (Some g) b rest e = absurd (let z : ◌≡◌ {A = ℕ} 0 1 = cc in omega arith)
accept None true rest e = absurd (let z : ◌≡◌ {A = ℕ} 0 1 = cc in omega arith)
accept None false rest e = refl

lists_refuse : (a b : Bool) (p : ℕ × ℕ) (rest : Counts) (f : Cause) → ◌≡◌ {A = Counts} (Err f) (cond a (Err (bare 18)) (cond b (Err (bare 19)) (Ok p))) → ◌≡◌ {A = Counts} (Err f) (cond a (Err (bare 18)) (cond b (Err (bare 19)) rest))
lists_refuse true b p rest f e = e
lists_refuse false true p rest f e = e
lists_refuse false false p rest f e = absurd (true≢false (sym (ap is_ok e)))

lists_accept : (a b : Bool) (p q : ℕ × ℕ) (rest : Counts) → ◌≡◌ {A = Counts} (Ok q) (cond a (Err (bare 18)) (cond b (Err (bare 19)) (Ok p))) → cond a (Err (bare 18)) (cond b (Err (bare 19)) rest) ≡ rest
lists_accept true b p q rest e = absurd (true≢false (ap is_ok e))
lists_accept false true p q rest e = absurd (true≢false (ap is_ok e))
lists_accept false false p q rest e = refl

module _ (L : Ledger) (batch : List Change) (nl ll : ℕ) where
  abbrev new : List Group
  new = arising L batch

  abbrev lapsed : List Group
  lapsed = lapsing L batch

  -- once the lists are known to fit
  abbrev pub stepped : Counts
  stepped =
      cond (out_of_step new lapsed L.held) (Err (bare 20))
      (cond (wants L.spends L.spare (length new) (length lapsed)) (Err (bare 13)) (Ok (length new, length lapsed)))

  abbrev listed : Counts
  listed = cond (ltb (list_capacity nl) (length new)) (Err (bare 18)) (cond (ltb (list_capacity ll) (length lapsed)) (Err (bare 19)) stepped)

  pub plan_refuses : (f : Cause) → plan_fault L.keys L.doors L.rows L.places batch ≡ Some f → Err f ≡ book_answer L batch nl ll
  unfolding counted
  plan_refuses f e = refuse (changes_fault L.keys L.doors L.rows 0 batch) (ltb (L.places + removals batch) (additions batch)) listed f e

  module _ (fine : plan_fault L.keys L.doors L.rows L.places batch ≡ None) where
    plan_takes : book_answer L batch nl ll ≡ listed
    unfolding counted
    plan_takes = accept (changes_fault L.keys L.doors L.rows 0 batch) (ltb (L.places + removals batch) (additions batch)) listed fine

    pub lists_refused : (f : Cause) → Err f ≡ lists_answer (list_capacity nl) (list_capacity ll) new lapsed → Err f ≡ book_answer L batch nl ll
    lists_refused f e = lists_refuse (ltb (list_capacity nl) (length new)) (ltb (list_capacity ll) (length lapsed)) (length new, length lapsed) stepped f e ∙ sym plan_takes

    pub lists_taken : (q : ℕ × ℕ) → Ok q ≡ lists_answer (list_capacity nl) (list_capacity ll) new lapsed → book_answer L batch nl ll ≡ stepped
    lists_taken q e = plan_takes ∙ lists_accept (ltb (list_capacity nl) (length new)) (ltb (list_capacity ll) (length lapsed)) (length new, length lapsed) q stepped e

    pub no_faults : changes_fault L.keys L.doors L.rows 0 batch ≡ None
    no_faults = (first_none (changes_fault L.keys L.doors L.rows 0 batch) (cond (ltb (L.places + removals batch) (additions batch)) (Some (bare 17)) None) fine).0

    none_17 : (b : Bool) → cond b (Some (bare 17)) None ≡ None → b ≡ false
    none_17 true e = absurd (let z : ◌≡◌ {A = ℕ} 0 1 = cc in omega arith)
    none_17 false e = refl

    pub places_suffice : additions batch ≤ L.places + removals batch
    places_suffice =
        ltb-false (L.places + removals batch) (additions batch)
        (none_17 (ltb (L.places + removals batch) (additions batch)) (first_none (changes_fault L.keys L.doors L.rows 0 batch) (cond (ltb (L.places + removals batch) (additions batch)) (Some (bare 17)) None) fine).1)

-- ---- what is left

pub refused : (L : Ledger) (batch : List Change) (new lapsed : List Group) (f : Cause) → Err f ≡ book_answer L batch (length new) (length lapsed) → Booking L L batch new new lapsed lapsed (Err f)
refused L batch _ _ f e = record { answer = e; after = refl; new_list = refl; lapsed_list = refl }

module _ (L : Ledger) (batch : List Change) (coming going new lapsed : List Group) (ready : Ready L batch) (fits : Fits L batch (length new) (length lapsed) coming going) where
  judged : book_answer L batch (length new) (length lapsed) ≡ stepped L batch (length new) (length lapsed)
  judged = lists_taken L batch (length new) (length lapsed) ready.fine (length coming, length going) fits.counted

  agree : out_of_step coming going L.held ≡ out_of_step (arising L batch) (lapsing L batch) L.held
  agree = ap (λ z. out_of_step z going L.held) fits.coming ∙ ap (λ z. out_of_step (arising L batch) z L.held) fits.going

  agree_places : wants L.spends L.spare (length coming) (length going) ≡ wants L.spends L.spare (length (arising L batch)) (length (lapsing L batch))
  agree_places =
      ap (λ z. wants L.spends L.spare (length z) (length going)) fits.coming
      ∙ ap (λ z. wants L.spends L.spare (length (arising L batch)) (length z)) fits.going

  pub settled_20 : true ≡ out_of_step coming going L.held → Booking L L batch new new lapsed lapsed (Err (bare 20))
  settled_20 e =
      refused L batch new lapsed (bare 20)
      (sym (judged ∙ cond-true (out_of_step (arising L batch) (lapsing L batch) L.held) (Err (bare 20)) _ (sym agree ∙ sym e)))

  module _ (step : false ≡ out_of_step coming going L.held) where
    in_step : out_of_step (arising L batch) (lapsing L batch) L.held ≡ false
    in_step = sym agree ∙ sym step

    pub settled_13 : true ≡ wants L.spends L.spare (length coming) (length going) → Booking L L batch new new lapsed lapsed (Err (bare 13))
    settled_13 e =
        refused L batch new lapsed (bare 13)
        (sym (judged ∙ cond-false (out_of_step (arising L batch) (lapsing L batch) L.held) (Err (bare 20)) _ in_step
        ∙ cond-true (wants L.spends L.spare (length (arising L batch)) (length (lapsing L batch))) (Err (bare 13)) _ (sym agree_places ∙ sym e)))

    module _ (room : false ≡ wants L.spends L.spare (length coming) (length going)) where
      enough : wants L.spends L.spare (length (arising L batch)) (length (lapsing L batch)) ≡ false
      enough = sym agree_places ∙ sym room

      counts : book_answer L batch (length new) (length lapsed) ≡ Ok (length (arising L batch), length (lapsing L batch))
      counts =
          judged ∙ cond-false (out_of_step (arising L batch) (lapsing L batch) L.held) (Err (bare 20)) _ in_step
          ∙ cond-false (wants L.spends L.spare (length (arising L batch)) (length (lapsing L batch))) (Err (bare 13)) _ enough

      -- the plan, by its two steps
      module _ (keys₁ doors₁ places₁ keys₂ doors₂ places₂ : ℕ) (rows₁ rows₂ : List ℕ)
          (k₁ : keys₁ ≡ L.keys) (d₁ : doors₁ ≡ L.doors) (r₁ : rows₁ ≡ removals_out batch L.rows) (p₁ : places₁ ≡ L.places + removals batch) where
        pub settled_addable : Addable keys₁ doors₁ batch rows₁ places₁
        settled_addable =
            subst (λ z. Addable z doors₁ batch rows₁ places₁) (sym k₁) (subst (λ z. Addable L.keys z batch rows₁ places₁) (sym d₁) (subst (λ z. Addable L.keys L.doors batch z places₁) (sym r₁)
            (batch_addable L.keys L.doors L.rows batch ready.ascends (no_faults L batch (length new) (length lapsed) ready.fine) places₁
            (let h = places_suffice L batch (length new) (length lapsed) ready.fine in omega arith))))

        module _ (k₂ : keys₂ ≡ keys₁) (d₂ : doors₂ ≡ doors₁) (r₂ : rows₂ ≡ additions_in batch rows₁) (p₂ : places₂ ≡ places₁ - additions batch)
            (held₁ held₂ : List Group) (spare₁ spare₂ : ℕ) (asc : AscendingGroups L.held)
            (h₁ : held₁ ≡ struck_run L.spends L.held L.spare going) (s₁ : spare₁ ≡ struck_left L.spends L.held L.spare going)
            (h₂ : held₂ ≡ entered_run held₁ spare₁ coming) (s₂ : spare₂ ≡ entered_left held₁ spare₁ coming)
            (new' lapsed' : List Group) (n : new' ≡ over coming new) (l : lapsed' ≡ over going lapsed) where
          rows_is : rows₂ ≡ carried_out batch L.rows
          unfolding carried_out
          rows_is = r₂ ∙ ap (additions_in batch) r₁

          places_is : places₂ ≡ (L.places + removals batch) - additions batch
          places_is = p₂ ∙ ap (λ z. z - additions batch) p₁

          asc_new : AscendingGroups coming
          asc_new = subst AscendingGroups (sym fits.coming) (arising_ascends L batch)

          asc_lapsed : AscendingGroups going
          asc_lapsed = subst AscendingGroups (sym fits.going) (lapsing_ascends L batch)

          held_is : held₂ ≡ all_entered group_before (arising L batch) (all_struck group_before (lapsing L batch) L.held)
          held_is =
              follow_held L.spends L.spare coming going L.held asc_new asc_lapsed asc (sym step) (sym room) held₁ held₂ spare₁ spare₂ h₁ s₁ h₂
              ∙ ap (λ z. all_entered group_before z (all_struck group_before going L.held)) fits.coming
              ∙ ap (λ z. all_entered group_before (arising L batch) (all_struck group_before z L.held)) fits.going

          spare_is : spare₂ ≡ spare_after L.spends L.spare (length (arising L batch)) (length (lapsing L batch))
          spare_is =
              follow_spare L.spends L.spare coming going L.held asc_new asc_lapsed asc (sym step) (sym room) held₁ held₂ spare₁ spare₂ h₁ s₁ s₂
              ∙ ap (λ z. spare_after L.spends L.spare (length z) (length going)) fits.coming
              ∙ ap (λ z. spare_after L.spends L.spare (length (arising L batch)) (length z)) fits.going

          after_is : ◌≡◌ {A = Ledger} (record { keys = keys₂; doors = doors₂; rows = rows₂; places = places₂; held = held₂; spare = spare₂; spends = L.spends }) (booked L batch)
          unfolding booked
          after_is = λ i. record { keys = (k₂ ∙ k₁) i; doors = (d₂ ∙ d₁) i; rows = rows_is i; places = places_is i; held = held_is i; spare = spare_is i; spends = L.spends }

          pub settled : Booking L (record { keys = keys₂; doors = doors₂; rows = rows₂; places = places₂; held = held₂; spare = spare₂; spends = L.spends }) batch new new' lapsed lapsed' (Ok (length coming, length going))
          settled = record {
            answer = ap (λ z. Ok (length z, length going)) fits.coming ∙ ap (λ z. Ok (length (arising L batch), length z)) fits.going ∙ sym counts;
            after = after_is;
            new_list = n ∙ ap (λ z. over z new) fits.coming;
            lapsed_list = l ∙ ap (λ z. over z lapsed) fits.going;
          }

-- ---- the lists as they stand in a table

module _ (L : Ledger) (batch : List Change) (t : TwoPlans) (c : Compares L.doors L.rows batch t) where
  pub coming_is : coming t ≡ arising L batch
  coming_is =
      ap (λ z. new_groups_of z (after_rows t) (two_doors t)) c.before ∙ ap (λ z. new_groups_of L.rows z (two_doors t)) c.after
      ∙ ap (λ z. new_groups_of L.rows (carried_out batch L.rows) z) c.same_doors

  pub going_is : going t ≡ lapsing L batch
  going_is =
      ap (λ z. lapsed_groups_of z (after_rows t) (two_doors t)) c.before ∙ ap (λ z. lapsed_groups_of L.rows z (two_doors t)) c.after
      ∙ ap (λ z. lapsed_groups_of L.rows (carried_out batch L.rows) z) c.same_doors

  pub lists_of : (a b : ℕ) → lists_answer a b (coming t) (going t) ≡ lists_answer a b (arising L batch) (lapsing L batch)
  lists_of a b = ap (λ z. lists_answer a b z (going t)) coming_is ∙ ap (λ z. lists_answer a b (arising L batch) z) going_is

-- a refusal as a call tells it
pub refused_told : (L : Ledger) (batch : List Change) (new lapsed : List Group) (r : Result (ℕ × ℕ) SuiteFault) (f : SuiteFault) → r ≡ Err f → Err (suite_cause f) ≡ book_answer L batch (length new) (length lapsed) → Booking L L batch new new lapsed lapsed (told suite_cause r)
refused_told L batch new lapsed r f e a = subst (λ z. Booking L L batch new new lapsed lapsed (told suite_cause z)) (sym e) (refused L batch new lapsed (suite_cause f) a)

-- the large table has room for all that two lists count for
pub large_room : (a b : ℕ) (T : List Group) → length T ≡ 196608 → a ≤ 65536 → b ≤ 65536 → Roomy (length T) a b
large_room a b T e h k = (omega arith, omega arith)
