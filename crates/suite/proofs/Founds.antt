-- The groups of a plan at the front of a table, and entered into an empty register.
use Rattle.std.proofs.Common.{◌≡◌, ℕ, ◌+◌, ◌<◌, ◌≤◌, min, cond, ltb, leb, List, ◌++◌, length, take, drop, Some, None, Ok, Err, Option, sym, refl, ap, ◌∙◌, arith, MatchOption}
use Rattle.std.proofs.lemmas.List.{take_all, take-take, take_at}
use Rattle.std.proofs.lemmas.Bool.{cond-true, cond-false, le-ltb, le-leb}
use Rattle.std.proofs.lemmas.Bool.Decides.{nat_tests}
use Rattle.faults.specs.Causes.{bare}
use Rattle.groups.specs.declared.group.Group.{Group}
use Rattle.groups.specs.Lists.{groups_of}
use Rattle.registers.specs.Meaning.{entered_run, entered_left}
use Rattle.search.specs.Fills.{fill_answer, filled_from}
use Rattle.ledger.specs.Ledger.{Ledger, found_answer, founded}
use Rattle.ledger.proofs.Bookings.{groups_ascend}
use Rattle.suite.proofs.Runs.{found_held, found_spare}

answer_none : (gs T : List Group) → fill_answer gs T 0 ≡ None → length T < length gs
unfolding fill_answer
answer_none gs T e = grind (arith, nat_tests)

answer_some : (gs T : List Group) (n : ℕ) → fill_answer gs T 0 ≡ Some n → (n ≡ length gs) × (length gs ≤ length T)
unfolding fill_answer
answer_some gs T n e = (grind (arith, nat_tests), grind (arith, nat_tests))

front : (gs T : List Group) → length gs ≤ length T → take (length gs) (filled_from gs T 0) ≡ gs
unfolding filled_from
front gs T h =
    ap (take (length gs)) (cond-true (leb 0 (length T)) (take (length T) (gs ++ drop (0 + length gs) T)) T (le-leb 0 (length T) (omega arith)))
    ∙ take-take (length gs) (length T) (gs ++ drop (0 + length gs) T) h ∙ take_at gs (drop (0 + length gs) T) (length gs) refl

module _ (rows : List ℕ) (doors : ℕ) (T T' : List Group) (r : Option ℕ) (k : length rows ≤ 64) (d : doors ≤ 64)
    (a : r ≡ fill_answer (groups_of (take 64 rows) (min doors 64)) T 0) (t : T' ≡ filled_from (groups_of (take 64 rows) (min doors 64)) T 0) where
  same : groups_of (take 64 rows) (min doors 64) ≡ groups_of rows doors
  same = ap (λ z. groups_of z (min doors 64)) (take_all 64 rows k) ∙ (let e : min doors 64 ≡ doors = omega arith in ap (groups_of rows) e)

  a' : r ≡ fill_answer (groups_of rows doors) T 0
  a' = a ∙ ap (λ z. fill_answer z T 0) same

  by : (o : Option ℕ) → fill_answer (groups_of rows doors) T 0 ≡ o
      → MatchOption o (length T < length (groups_of rows doors)) (λ n. (n ≡ length (groups_of rows doors)) × (n ≤ length T) × (take n T' ≡ groups_of rows doors))
  by None e = answer_none (groups_of rows doors) T e
  by (Some n) e =
      let s = answer_some (groups_of rows doors) T n e in
      let x = s.0 in
      let y = s.1 in
      (x, omega arith, ap (λ z. take z T') x ∙ ap (take (length (groups_of rows doors))) (t ∙ ap (λ z. filled_from z T 0) same) ∙ front (groups_of rows doors) T y)

  pub listed : MatchOption r (length T < length (groups_of rows doors)) (λ n. (n ≡ length (groups_of rows doors)) × (n ≤ length T) × (take n T' ≡ groups_of rows doors))
  listed = by r (sym a')

-- the answers of founding, and what it leaves
module _ (L : Ledger) (empty : length L.held ≡ 0) where
  abbrev all : List Group
  all = groups_of L.rows L.doors

  module _ (fits : length all ≤ L.spare) where
    pub all_fit : Ok (length all) ≡ found_answer L
    all_fit =
        sym (cond-false (ltb 0 (length L.held)) (Err (bare 12)) (cond (ltb L.spare (length all)) (Err (bare 13)) (Ok (length all))) (le-ltb 0 (length L.held) (omega arith))
        ∙ cond-false (ltb L.spare (length all)) (Err (bare 13)) (Ok (length all)) (le-ltb L.spare (length all) fits))

    pub founded_is : (list held' : List Group) (spare' : ℕ) → list ≡ all → held' ≡ entered_run L.held L.spare list → spare' ≡ entered_left L.held L.spare list
        → ◌≡◌ {A = Ledger} (record { keys = L.keys; doors = L.doors; rows = L.rows; places = L.places; held = held'; spare = spare'; spends = L.spends }) (founded L)
    founded_is list held' spare' e h s =
        let hh = h ∙ ap (entered_run L.held L.spare) e ∙ found_held L.spare all (groups_ascend L.rows L.doors) fits L.held empty in
        let ss = s ∙ ap (entered_left L.held L.spare) e ∙ found_spare L.spare all (groups_ascend L.rows L.doors) fits L.held empty in
        λ i. record { keys = L.keys; doors = L.doors; rows = L.rows; places = L.places; held = hh i; spare = ss i; spends = L.spends }

  -- by a table with as many places as the register, and rows copied from the plan
  module _ (T : List Group) (rows : List ℕ) (doors : ℕ) (long : length T ≡ L.spare) (r : rows ≡ L.rows) (d : doors ≡ L.doors) where
    pub copied_groups : groups_of rows doors ≡ all
    copied_groups = ap (λ z. groups_of z doors) r ∙ ap (groups_of L.rows) d

    pub fitting : (n : ℕ) → n ≡ length (groups_of rows doors) → n ≤ length T → length all ≤ L.spare
    fitting n e h = let q = ap length copied_groups in omega arith
