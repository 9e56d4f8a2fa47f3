-- The laws over any list of calls. Each law's step, over the answer of the first call, takes the law of the rest.
use Rattle.std.proofs.Common.{◌≡◌, ℕ, ◌+◌, true, List, [], ◌∷◌, ◌++◌, length, take, drop, Some, Ok, Err, Result, sym, refl, ap, ◌∙◌, subst, arith}
use Rattle.std.proofs.lemmas.List.{take_at}
use Rattle.faults.specs.declared.cause.Cause.{Cause}
use Rattle.pairs.specs.declared.change.Change.{Change}
use Rattle.table.specs.Sets.{all_entered, all_struck}
use Rattle.groups.specs.declared.group.Group.{Group}
use Rattle.groups.specs.Orders.{group_before}
use Rattle.groups.specs.Lists.{carried_out}
use Rattle.ledger.specs.Ledger.{Ledger, arising, lapsing, book_answer, booked, over}
use Rattle.ledger.specs.Calls.{Seen, booking, asking, batch_of, changes_answer, booked_if, over_if, next, reply, after, replies}
use Rattle.ledger.specs.Copies.{copy, copied, AllThere, NoneThere, SoundCopy, booked_batches, all_carried_out, changed_groups}
use Rattle.ledger.specs.Laws.{AscendingGroups, InStep, Follows, GoesOn}
use Rattle.ledger.proofs.Refusals.{book_ok, changes_ok}
use Rattle.ledger.proofs.Bookings.{booked_keys, booked_doors, booked_rows, booked_held, booked_spare, booked_spends, booked_ascends, booking_there, booking_none, after_spending, arising_lapsing, booked_in_step}

-- ---- what the calls leave of a ledger, where a booked batch leaves it so too

module _ (P : Ledger → Type 0) (one : (L : Ledger) (batch : List Change) → P L → P (booked L batch)) where
  kept_if : (L : Ledger) (batch : List Change) (a : Result (ℕ × ℕ) Cause) → P L → P (booked_if a L batch)
  kept_if L batch (Ok p) h = one L batch h
  kept_if L batch (Err f) h = h

  pub kept : (L : Ledger) (calls : List Seen) → P L → P (after L calls)
  kept L [] h = h
  kept L (booking cs new lapsed a ∷ calls) h =
      let r = changes_answer L cs (length new) (length lapsed) in
      kept (booked_if r L (batch_of cs)) calls (kept_if L (batch_of cs) r h)
  kept L (asking q a ∷ calls) h = kept L calls h

pub keys_kept : (L : Ledger) (calls : List Seen) → (after L calls).keys ≡ L.keys
keys_kept L calls = kept (λ M. M.keys ≡ L.keys) (λ M b h. booked_keys M b ∙ h) L calls refl

pub doors_kept : (L : Ledger) (calls : List Seen) → (after L calls).doors ≡ L.doors
doors_kept L calls = kept (λ M. M.doors ≡ L.doors) (λ M b h. booked_doors M b ∙ h) L calls refl

pub spends_kept : (L : Ledger) (calls : List Seen) → (after L calls).spends ≡ L.spends
spends_kept L calls = kept (λ M. M.spends ≡ L.spends) (λ M b h. booked_spends M b ∙ h) L calls refl

pub in_step_kept : (L : Ledger) (calls : List Seen) → InStep L → InStep (after L calls)
in_step_kept L calls s = kept InStep booked_in_step L calls s

-- ---- a call as it comes back with an answer

abbrev returned : Ledger → List Change → List Group → List Group → Result (ℕ × ℕ) Cause → Seen
returned L cs new lapsed r = booking cs (over_if r (arising L (batch_of cs)) new) (over_if r (lapsing L (batch_of cs)) lapsed) (Some r)

-- the plan
plan_if : (L : Ledger) (cs : List Change) (new lapsed : List Group) (calls : List Seen) (r : Result (ℕ × ℕ) Cause)
    → ((M : Ledger) → (after M calls).rows ≡ all_carried_out (booked_batches (replies M calls)) M.rows)
    → (after (booked_if r L (batch_of cs)) calls).rows ≡ all_carried_out (booked_batches (returned L cs new lapsed r ∷ replies (booked_if r L (batch_of cs)) calls)) L.rows
plan_if L cs new lapsed calls (Ok p) rest =
    let M = booked L (batch_of cs) in
    rest M ∙ ap (all_carried_out (booked_batches (replies M calls))) (booked_rows L (batch_of cs))
plan_if L cs new lapsed calls (Err f) rest = rest L

pub plan_law : (L : Ledger) (calls : List Seen) → (after L calls).rows ≡ all_carried_out (booked_batches (replies L calls)) L.rows
plan_law L [] = refl
plan_law L (booking cs new lapsed a ∷ calls) = plan_if L cs new lapsed calls (changes_answer L cs (length new) (length lapsed)) (λ M. plan_law M calls)
plan_law L (asking q a ∷ calls) = plan_law L calls

-- what the lists of a booking tell, and the copy that follows them
module _ (L : Ledger) (cs : List Change) (new lapsed : List Group) (p : ℕ × ℕ) (e : changes_answer L cs (length new) (length lapsed) ≡ Ok p) where
  answer : book_answer L (batch_of cs) (length new) (length lapsed) ≡ Ok p
  answer = (changes_ok L cs (length new) (length lapsed) p e).1

  counts_are : p ≡ (length (arising L (batch_of cs)), length (lapsing L (batch_of cs)))
  counts_are = (book_ok L (batch_of cs) (length new) (length lapsed) p answer).1.counts

  new_told : take p.0 (over (arising L (batch_of cs)) new) ≡ arising L (batch_of cs)
  new_told = take_at (arising L (batch_of cs)) (drop (length (arising L (batch_of cs))) new) p.0 (sym (ap (λ z. z.0) counts_are))

  lapsed_told : take p.1 (over (lapsing L (batch_of cs)) lapsed) ≡ lapsing L (batch_of cs)
  lapsed_told = take_at (lapsing L (batch_of cs)) (drop (length (lapsing L (batch_of cs))) lapsed) p.1 (sym (ap (λ z. z.1) counts_are))

  moved : copy L.held (returned L cs new lapsed (Ok p)) ≡ (booked L (batch_of cs)).held
  moved =
      ap (λ z. all_entered group_before z (all_struck group_before (take p.1 (over (lapsing L (batch_of cs)) lapsed)) L.held)) new_told
      ∙ ap (λ z. all_entered group_before (arising L (batch_of cs)) (all_struck group_before z L.held)) lapsed_told
      ∙ sym (booked_held L (batch_of cs))

copied_if : (L : Ledger) → AscendingGroups L.held → (cs : List Change) (new lapsed : List Group) (calls : List Seen) (r : Result (ℕ × ℕ) Cause)
    → changes_answer L cs (length new) (length lapsed) ≡ r
    → ((M : Ledger) → AscendingGroups M.held → copied M.held (replies M calls) ≡ (after M calls).held)
    → copied L.held (returned L cs new lapsed r ∷ replies (booked_if r L (batch_of cs)) calls) ≡ (after (booked_if r L (batch_of cs)) calls).held
copied_if L h cs new lapsed calls (Ok p) e rest =
    let M = booked L (batch_of cs) in
    ap (λ z. copied z (replies M calls)) (moved L cs new lapsed p e) ∙ rest M (booked_ascends L h (batch_of cs))
copied_if L h cs new lapsed calls (Err f) e rest = rest L h

pub copied_law : (L : Ledger) (calls : List Seen) → AscendingGroups L.held → copied L.held (replies L calls) ≡ (after L calls).held
copied_law L [] h = refl
copied_law L (booking cs new lapsed a ∷ calls) h =
    copied_if L h cs new lapsed calls (changes_answer L cs (length new) (length lapsed)) refl (λ M. copied_law M calls)
copied_law L (asking q a ∷ calls) h = copied_law L calls h

sound_if : (L : Ledger) → AscendingGroups L.held → (cs : List Change) (new lapsed : List Group) (calls : List Seen) (r : Result (ℕ × ℕ) Cause)
    → changes_answer L cs (length new) (length lapsed) ≡ r
    → ((M : Ledger) → AscendingGroups M.held → SoundCopy M.held (replies M calls))
    → SoundCopy L.held (returned L cs new lapsed r ∷ replies (booked_if r L (batch_of cs)) calls)
sound_if L h cs new lapsed calls (Ok p) e rest =
    let batch = batch_of cs in
    let M = booked L batch in
    let b = answer L cs new lapsed p e in (
      subst (AllThere L.held) (sym (lapsed_told L cs new lapsed p e)) (booking_there L h batch (length new) (length lapsed) p b),
      subst (λ z. NoneThere (all_struck group_before z L.held) (take p.0 (over (arising L batch) new))) (sym (lapsed_told L cs new lapsed p e))
          (subst (NoneThere (all_struck group_before (lapsing L batch) L.held)) (sym (new_told L cs new lapsed p e)) (booking_none L h batch (length new) (length lapsed) p b)),
      subst (λ z. SoundCopy z (replies M calls)) (sym (moved L cs new lapsed p e)) (rest M (booked_ascends L h batch)),
    )
sound_if L h cs new lapsed calls (Err f) e rest = (tt, tt, rest L h)

pub sound_law : (L : Ledger) (calls : List Seen) → AscendingGroups L.held → SoundCopy L.held (replies L calls)
sound_law L [] h = tt
sound_law L (booking cs new lapsed a ∷ calls) h =
    sound_if L h cs new lapsed calls (changes_answer L cs (length new) (length lapsed)) refl (λ M. sound_law M calls)
sound_law L (asking q a ∷ calls) h = (tt, tt, sound_law L calls h)

-- the places of a spending register
spent_if : (L : Ledger) (cs : List Change) (new lapsed : List Group) (calls : List Seen) (r : Result (ℕ × ℕ) Cause)
    → changes_answer L cs (length new) (length lapsed) ≡ r
    → ((M : Ledger) → M.spends ≡ true → M.spare ≡ (after M calls).spare + changed_groups M.rows M.doors (booked_batches (replies M calls)))
    → L.spends ≡ true
    → L.spare ≡ (after (booked_if r L (batch_of cs)) calls).spare
    + changed_groups L.rows L.doors (booked_batches (returned L cs new lapsed r ∷ replies (booked_if r L (batch_of cs)) calls))
spent_if L cs new lapsed calls (Ok p) e rest s =
    let batch = batch_of cs in
    let M = booked L batch in
    let bs = booked_batches (replies M calls) in
    let n = length (arising L batch) in
    let m = length (lapsing L batch) in
    let one = after_spending L.spends L.spare n m s (book_ok L batch (length new) (length lapsed) p (answer L cs new lapsed p e)).1.room in
    let o = booked_spare L batch in
    let two = rest M (booked_spends L batch ∙ s) in
    let three = arising_lapsing L batch in
    let four : changed_groups M.rows M.doors bs ≡ changed_groups (carried_out batch L.rows) L.doors bs =
    ap (λ z. changed_groups z M.doors bs) (booked_rows L batch) ∙ ap (λ z. changed_groups (carried_out batch L.rows) z bs) (booked_doors L batch) in
    omega arith
spent_if L cs new lapsed calls (Err f) e rest s = rest L s

pub spent_law : (L : Ledger) (calls : List Seen) → L.spends ≡ true → L.spare ≡ (after L calls).spare + changed_groups L.rows L.doors (booked_batches (replies L calls))
spent_law L [] s = omega arith
spent_law L (booking cs new lapsed a ∷ calls) s = spent_if L cs new lapsed calls (changes_answer L cs (length new) (length lapsed)) refl (λ M. spent_law M calls) s
spent_law L (asking q a ∷ calls) s = spent_law L calls s

pub follows : (L : Ledger) (calls : List Seen) → AscendingGroups L.held → Follows L calls
follows L calls h =
    record {
      plan = plan_law L calls;
      keys = keys_kept L calls;
      doors = doors_kept L calls;
      spends = spends_kept L calls;
      copy = copied_law L calls h;
      sound = sound_law L calls h;
      spent = spent_law L calls;
      step = in_step_kept L calls;
    }

-- ---- two lists of calls

pub after_append : (L : Ledger) (a b : List Seen) → after (after L a) b ≡ after L (a ++ b)
after_append L [] b = refl
after_append L (c ∷ a) b = after_append (next L c) a b

pub replies_append : (L : Ledger) (a b : List Seen) → replies L a ++ replies (after L a) b ≡ replies L (a ++ b)
replies_append L [] b = refl
replies_append L (c ∷ a) b = ap (λ (z : List Seen). reply L c ∷ z) (replies_append (next L c) a b)

pub goes_on : GoesOn
goes_on = record { ledger = after_append; calls = replies_append }
