-- What an answer that is no refusal says, and which causes a faulty change has.
use Rattle.std.proofs.Common.{◌≡◌, ℕ, ◌+◌, ◌≤◌, Bool, true, false, cond, not, eqb, ltb, List, [], ◌∷◌, length, is_ok, Some, None, Ok, Err, Option, Result, sym, refl, ap, ◌∙◌}
use Rattle.std.proofs.lemmas.Bool.{true≢false, ltb-false}
use Rattle.faults.specs.declared.cause.Cause.{Cause}
use Rattle.faults.specs.Causes.{bare, along}
use Rattle.pairs.specs.declared.change.Change.{Change}
use Rattle.plans.specs.Meaning.{inside, stands}
use Rattle.groups.specs.declared.group.Group.{Group}
use Rattle.ledger.specs.Ledger.{Ledger, first_of, change_fault, changes_fault, list_capacity, out_of_step, wants, unless, counted, additions, removals, arising, lapsing, book_answer}
use Rattle.ledger.specs.Calls.{puts_fault, batch_of, changes_answer}

-- ---- an answer that is no refusal

pub unless_ok : {A : Type 0} (o : Option Cause) (r : Result A Cause) (a : A) → unless o r ≡ Ok a → (o ≡ None) × (r ≡ Ok a)
unless_ok None r a e = (refl, e)
unless_ok (Some f) r a e = absurd (true≢false (sym (ap is_ok e)))

pub past : {A : Type 0} (b : Bool) (f : Cause) (r : Result A Cause) (a : A) → cond b (Err f) r ≡ Ok a → (b ≡ false) × (r ≡ Ok a)
past true f r a e = absurd (true≢false (sym (ap is_ok e)))
past false f r a e = (refl, e)

-- what it says that the causes after the changes are passed
pub record Passed (adds removes places new_list lapsed_list : ℕ) (new lapsed held : List Group) (spare : ℕ) (spends : Bool) (p : ℕ × ℕ) : Type 0 where
  pub pairs_fit : adds ≤ places + removes
  pub new_fits : length new ≤ list_capacity new_list
  pub lapsed_fits : length lapsed ≤ list_capacity lapsed_list
  pub in_step : out_of_step new lapsed held ≡ false
  pub room : wants spends spare (length new) (length lapsed) ≡ false
  pub counts : p ≡ (length new, length lapsed)

same_pair : (p q : ℕ × ℕ) → ◌≡◌ {A = Result (ℕ × ℕ) Cause} (Ok p) (Ok q) → q ≡ p
same_pair p q e = cc

pub counted_ok : (adds removes places new_list lapsed_list : ℕ) (new lapsed held : List Group) (spare : ℕ) (spends : Bool) (p : ℕ × ℕ)
    → counted adds removes places new_list lapsed_list new lapsed held spare spends ≡ Ok p
    → Passed adds removes places new_list lapsed_list new lapsed held spare spends p
unfolding counted
counted_ok adds removes places new_list lapsed_list new lapsed held spare spends p e =
    let r4 : Result (ℕ × ℕ) Cause = cond (wants spends spare (length new) (length lapsed)) (Err (bare 13)) (Ok (length new, length lapsed)) in
    let r3 : Result (ℕ × ℕ) Cause = cond (out_of_step new lapsed held) (Err (bare 20)) r4 in
    let r2 : Result (ℕ × ℕ) Cause = cond (ltb (list_capacity lapsed_list) (length lapsed)) (Err (bare 19)) r3 in
    let r1 : Result (ℕ × ℕ) Cause = cond (ltb (list_capacity new_list) (length new)) (Err (bare 18)) r2 in
    let e1 = past (ltb (places + removes) adds) (bare 17) r1 p e in
    let e2 = past (ltb (list_capacity new_list) (length new)) (bare 18) r2 p e1.1 in
    let e3 = past (ltb (list_capacity lapsed_list) (length lapsed)) (bare 19) r3 p e2.1 in
    let e4 = past (out_of_step new lapsed held) (bare 20) r4 p e3.1 in
    let e5 = past (wants spends spare (length new) (length lapsed)) (bare 13) (Ok (length new, length lapsed)) p e4.1 in
    record {
      pairs_fit = ltb-false (places + removes) adds e1.0;
      new_fits = ltb-false (list_capacity new_list) (length new) e2.0;
      lapsed_fits = ltb-false (list_capacity lapsed_list) (length lapsed) e3.0;
      in_step = e4.0;
      room = e5.0;
      counts = same_pair (length new, length lapsed) p e5.1;
    }

-- the same of a booking: its batch has no faulty change, and the causes after the changes are passed
abbrev pub BookingPassed : Ledger → List Change → ℕ → ℕ → ℕ × ℕ → Type 0
BookingPassed L batch new_list lapsed_list p =
    Passed (additions batch) (removals batch) L.places new_list lapsed_list (arising L batch) (lapsing L batch) L.held L.spare L.spends p

pub book_ok : (L : Ledger) (batch : List Change) (new_list lapsed_list : ℕ) (p : ℕ × ℕ) → book_answer L batch new_list lapsed_list ≡ Ok p
    → (changes_fault L.keys L.doors L.rows 0 batch ≡ None) × BookingPassed L batch new_list lapsed_list p
book_ok L batch new_list lapsed_list p e =
    let r = counted (additions batch) (removals batch) L.places new_list lapsed_list (arising L batch) (lapsing L batch) L.held L.spare L.spends in
    let u = unless_ok (changes_fault L.keys L.doors L.rows 0 batch) r p e in
    (u.0, counted_ok (additions batch) (removals batch) L.places new_list lapsed_list (arising L batch) (lapsing L batch) L.held L.spare L.spends p u.1)

-- and of changes: the draft takes them, and their batch is booked
pub changes_ok : (L : Ledger) (cs : List Change) (new_list lapsed_list : ℕ) (p : ℕ × ℕ) → changes_answer L cs new_list lapsed_list ≡ Ok p
    → (puts_fault 64 [] cs ≡ None) × (book_answer L (batch_of cs) new_list lapsed_list ≡ Ok p)
changes_ok L cs new_list lapsed_list p e = unless_ok (puts_fault 64 [] cs) (book_answer L (batch_of cs) new_list lapsed_list) p e

-- ---- no fault of a change is cause 20, and neither is any other where the register is not out of step

abbrev is_20 : Cause → Bool
is_20 f = eqb f.number 20

abbrev fault_20 : Option Cause → Bool
fault_20 None = false
fault_20 (Some f) = is_20 f

abbrev answer_20 : Result (ℕ × ℕ) Cause → Bool
answer_20 (Ok p) = false
answer_20 (Err f) = is_20 f

first_20 : (o p : Option Cause) → fault_20 o ≡ false → fault_20 p ≡ false → fault_20 (first_of o p) ≡ false
first_20 None p a b = b
first_20 (Some f) p a b = a

change_20 : (i : ℕ) (inside added stands : Bool)
    → fault_20 (cond (not inside) (Some (along 14 i)) (cond added (cond stands (Some (along 15 i)) None) (cond stands None (Some (along 16 i))))) ≡ false
change_20 i false added stands = refl
change_20 i true true true = refl
change_20 i true true false = refl
change_20 i true false true = refl
change_20 i true false false = refl

changes_20 : (keys doors : ℕ) (rows : List ℕ) (i : ℕ) (cs : List Change) → fault_20 (changes_fault keys doors rows i cs) ≡ false
changes_20 keys doors rows i [] = refl
changes_20 keys doors rows i (c ∷ cs) =
    first_20 (change_fault keys doors rows i c) (changes_fault keys doors rows (i + 1) cs)
    (change_20 i (inside keys doors c.key c.door) c.added (stands rows c.key c.door)) (changes_20 keys doors rows (i + 1) cs)

counted_20 : (places new lapsed step room : Bool) (p : ℕ × ℕ) → step ≡ false
    → answer_20 (cond places (Err (bare 17)) (cond new (Err (bare 18)) (cond lapsed (Err (bare 19)) (cond step (Err (bare 20)) (cond room (Err (bare 13)) (Ok p)))))) ≡ false
counted_20 true new lapsed step room p e = refl
counted_20 false true lapsed step room p e = refl
counted_20 false false true step room p e = refl
counted_20 false false false true room p e = e
counted_20 false false false false true p e = refl
counted_20 false false false false false p e = refl

unless_20 : (o : Option Cause) (r : Result (ℕ × ℕ) Cause) → fault_20 o ≡ false → answer_20 r ≡ false → answer_20 (unless o r) ≡ false
unless_20 None r a b = b
unless_20 (Some f) r a b = a

pub never_20 : (L : Ledger) (batch : List Change) (new_list lapsed_list : ℕ) → out_of_step (arising L batch) (lapsing L batch) L.held ≡ false
    → book_answer L batch new_list lapsed_list ≡ Err (bare 20) → ⊥
unfolding counted
never_20 L batch new_list lapsed_list s e =
    let n = length (arising L batch) in
    let m = length (lapsing L batch) in
    true≢false (sym (ap answer_20 e)
    ∙ unless_20 (changes_fault L.keys L.doors L.rows 0 batch)
    (counted (additions batch) (removals batch) L.places new_list lapsed_list (arising L batch) (lapsing L batch) L.held L.spare L.spends)
    (changes_20 L.keys L.doors L.rows 0 batch)
    (counted_20 (ltb (L.places + removals batch) (additions batch)) (ltb (list_capacity new_list) n) (ltb (list_capacity lapsed_list) m)
    (out_of_step (arising L batch) (lapsing L batch) L.held) (wants L.spends L.spare n m) (n, m) s))
