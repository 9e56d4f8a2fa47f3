-- One booking of a ledger: the fields of the ledger once it is booked, the two lists, and what a booking that is not refused does.
use Rattle.std.proofs.Common.{◌≡◌, ℕ, ◌+◌, ◌-◌, Bool, true, false, not, ◌&&◌, ◌||◌, List, length, Ok, Err, sym, refl, ap, ◌∙◌, subst, arith}
use Rattle.std.proofs.lemmas.Bool.{true≢false, ltb-false, and_parts, not-true}
use Rattle.faults.specs.Causes.{bare}
use Rattle.pairs.specs.declared.change.Change.{Change}
use Rattle.table.specs.Sets.{has, all_entered, all_struck}
use Rattle.table.proofs.Members.{same_members}
use Rattle.table.proofs.Alls.{has_all_entered, has_all_struck}
use Rattle.groups.specs.Orders.{group_before}
use Rattle.groups.specs.Lists.{groups_of, new_groups_of, lapsed_groups_of, carried_out}
use Rattle.groups.proofs.Orders.{irreflexive, transitive, total}
use Rattle.groups.proofs.Listings.{listing_rows}
use Rattle.groups.proofs.Minus.{new_listing, lapsed_listing, new_has, lapsed_has}
use Rattle.groups.proofs.Wholes.{groups_listing}
use Rattle.ledger.specs.Ledger.{Ledger, additions, removals, out_of_step, wants, spare_after, arising, lapsing, book_answer, booked}
use Rattle.ledger.specs.Copies.{AllThere, NoneThere, in_one_only}
use Rattle.ledger.specs.Laws.{AscendingGroups, InStep}
use Rattle.ledger.proofs.Turns.{up_groups, all_there, none_there, not_out_of_step, followed_ascends}
use Rattle.ledger.proofs.Refusals.{book_ok, never_20}

-- ---- the fields of the ledger once a batch is booked

module _ (L : Ledger) (batch : List Change) where
  pub booked_keys : (booked L batch).keys ≡ L.keys
  unfolding booked
  booked_keys = refl

  pub booked_doors : (booked L batch).doors ≡ L.doors
  unfolding booked
  booked_doors = refl

  pub booked_rows : (booked L batch).rows ≡ carried_out batch L.rows
  unfolding booked
  booked_rows = refl

  pub booked_places : (booked L batch).places ≡ (L.places + removals batch) - additions batch
  unfolding booked
  booked_places = refl

  pub booked_held : (booked L batch).held ≡ all_entered group_before (arising L batch) (all_struck group_before (lapsing L batch) L.held)
  unfolding booked
  booked_held = refl

  pub booked_spare : (booked L batch).spare ≡ spare_after L.spends L.spare (length (arising L batch)) (length (lapsing L batch))
  unfolding booked
  booked_spare = refl

  pub booked_spends : (booked L batch).spends ≡ L.spends
  unfolding booked
  booked_spends = refl

-- ---- the lists

pub groups_ascend : (rows : List ℕ) (D : ℕ) → AscendingGroups (groups_of rows D)
groups_ascend rows D = listing_rows (groups_of rows D) (groups_listing rows D)

module _ (L : Ledger) (batch : List Change) where
  pub arising_ascends : AscendingGroups (arising L batch)
  arising_ascends = listing_rows (arising L batch) (new_listing L.rows (carried_out batch L.rows) L.doors)

  pub lapsing_ascends : AscendingGroups (lapsing L batch)
  lapsing_ascends = listing_rows (lapsing L batch) (lapsed_listing L.rows (carried_out batch L.rows) L.doors)

  pub arising_lapsing : in_one_only L.rows (carried_out batch L.rows) L.doors ≡ length (arising L batch) + length (lapsing L batch)
  unfolding new_groups_of lapsed_groups_of
  arising_lapsing = refl

-- ---- a booking that is not refused

module _ (L : Ledger) (h : AscendingGroups L.held) (batch : List Change) where
  pub booked_ascends : AscendingGroups (booked L batch).held
  booked_ascends =
      subst AscendingGroups (sym (booked_held L batch))
      (followed_ascends (arising L batch) (lapsing L batch) L.held (arising_ascends L batch) (lapsing_ascends L batch) h)

  module _ (new_list lapsed_list : ℕ) (p : ℕ × ℕ) (e : book_answer L batch new_list lapsed_list ≡ Ok p) where
    pub booking_there : AllThere L.held (lapsing L batch)
    booking_there =
        all_there (arising L batch) (lapsing L batch) L.held (arising_ascends L batch) (lapsing_ascends L batch) h (book_ok L batch new_list lapsed_list p e).1.in_step

    pub booking_none : NoneThere (all_struck group_before (lapsing L batch) L.held) (arising L batch)
    booking_none =
        none_there (arising L batch) (lapsing L batch) L.held (arising_ascends L batch) (lapsing_ascends L batch) h (book_ok L batch new_list lapsed_list p e).1.in_step

-- in a spending register the places that are gone are the two counts
pub after_spending : (spends : Bool) (spare n m : ℕ) → spends ≡ true → wants spends spare n m ≡ false → spare ≡ spare_after spends spare n m + (n + m)
after_spending true spare n m t w = let f = ltb-false spare (n + m) w in omega arith
after_spending false spare n m t w = absurd (true≢false (sym t))

-- ---- in step

later : (p q : Bool) → ((q && not p) || (not (p && not q) && p)) ≡ q
later true true = refl
later true false = refl
later false true = refl
later false false = refl

-- the groups of the earlier plan, less those that lapse, with those that are new, are the groups of the later plan
pub groups_followed : (L : Ledger) (batch : List Change)
    → all_entered group_before (arising L batch) (all_struck group_before (lapsing L batch) (groups_of L.rows L.doors)) ≡ groups_of (carried_out batch L.rows) L.doors
groups_followed L batch =
    let D = L.doors in
    let before = L.rows in
    let after = carried_out batch before in
    let new = arising L batch in
    let lapsed = lapsing L batch in
    let old = groups_of before D in
    same_members group_before irreflexive transitive total (all_entered group_before new (all_struck group_before lapsed old)) (groups_of after D)
    (followed_ascends new lapsed old (arising_ascends L batch) (lapsing_ascends L batch) (groups_ascend before D)) (groups_ascend after D)
    (λ g. has_all_entered group_before irreflexive transitive total g new (all_struck group_before lapsed old)
    ∙ ap (λ t. has group_before g new || t) (has_all_struck group_before irreflexive transitive total g lapsed old (up_groups old (groups_ascend before D)))
    ∙ ap (λ t. t || (not (has group_before g lapsed) && has group_before g old)) (new_has before after D g)
    ∙ ap (λ t. (has group_before g (groups_of after D) && not (has group_before g old)) || (not t && has group_before g old)) (lapsed_has before after D g)
    ∙ later (has group_before g old) (has group_before g (groups_of after D)))

pub booked_in_step : (L : Ledger) (batch : List Change) → InStep L → InStep (booked L batch)
booked_in_step L batch s =
    booked_held L batch
    ∙ ap (λ z. all_entered group_before (arising L batch) (all_struck group_before (lapsing L batch) z)) s
    ∙ groups_followed L batch
    ∙ sym (ap (λ z. groups_of z (booked L batch).doors) (booked_rows L batch) ∙ ap (groups_of (carried_out batch L.rows)) (booked_doors L batch))

pub in_step_agrees : (L : Ledger) (batch : List Change) → InStep L → out_of_step (arising L batch) (lapsing L batch) L.held ≡ false
in_step_agrees L batch s =
    let D = L.doors in
    let before = L.rows in
    let after = carried_out batch before in
    let old = groups_of before D in
    let later_ones = groups_of after D in
    ap (out_of_step (arising L batch) (lapsing L batch)) s
    ∙ not_out_of_step (arising L batch) (lapsing L batch) old
    (λ g m. (and_parts (has group_before g old) (not (has group_before g later_ones)) (sym (lapsed_has before after D g) ∙ m)).0)
    (λ g m. not-true (has group_before g old) (and_parts (has group_before g later_ones) (not (has group_before g old)) (sym (new_has before after D g) ∙ m)).1)

pub in_step_never_20 : (L : Ledger) → InStep L → (batch : List Change) (new_list lapsed_list : ℕ) → book_answer L batch new_list lapsed_list ≡ Err (bare 20) → ⊥
in_step_never_20 L s batch new_list lapsed_list e = never_20 L batch new_list lapsed_list (in_step_agrees L batch s) e
