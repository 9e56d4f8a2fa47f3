-- The ledger of a suite: what founding, booking and questions answer and leave, told of plans, sets and lists alone. It is fed what the
-- calls are given, never what they answered.
use Rattle.std.specs.Prelude.{ℕ, ◌+◌, ◌-◌, min, Bool, true, false, cond, not, ◌&&◌, ◌||◌, List, [], ◌∷◌, ◌++◌, length, drop, Some, None, Ok, Err, Option, Result, nat_lt}
use Rattle.std.specs.List.{slice_get}
use Rattle.faults.specs.declared.cause.Cause.{Cause}
use Rattle.faults.specs.Causes.{bare, along}
use Rattle.numbers.specs.Numbers.{is_number}
use Rattle.pairs.specs.declared.change.Change.{Change}
use Rattle.table.specs.Sets.{has, all_entered, all_struck}
use Rattle.groups.specs.declared.group.Group.{Group}
use Rattle.groups.specs.Orders.{group_before}
use Rattle.groups.specs.Lists.{groups_of, new_groups_of, lapsed_groups_of, carried_out}
use Rattle.plans.specs.Meaning.{inside, stands, doors_opened, keys_opening}
use Rattle.ledger.specs.declared.question.Question.{Question}
use Rattle.ledger.specs.declared.question.Question.TheVariants.{Sizes, DoorsOf, KeysOf, PlanSpare, RegisterSpare, Count, Holds, RecordAt}
use Rattle.ledger.specs.declared.question.Answer.{Answer}
use Rattle.ledger.specs.declared.question.Answer.TheVariants.{Keys, Doors, Number, Truth, Record}
use Rattle.ledger.specs.declared.question.Answer.TheVariants.{Sizes as BothSizes}

pub record Ledger : Type 0 where
  -- the plan: its sizes, for each key the set of the doors that it opens, and its spare places
  pub keys : ℕ
  pub doors : ℕ
  pub rows : List ℕ
  pub places : ℕ
  -- the register: the records it holds, ascending, its spare places, and whether a strike takes a place or gives one back
  pub held : List Group
  pub spare : ℕ
  pub spends : Bool

-- ---- founding

-- to found: 12 where the register holds a record, 13 where the plan has more groups than the register has spare places; else how many groups
abbrev pub found_answer : Ledger → Result ℕ Cause
found_answer L =
    cond (nat_lt 0 (length L.held)) (Err (bare 12))
    (cond (nat_lt L.spare (length (groups_of L.rows L.doors))) (Err (bare 13)) (Ok (length (groups_of L.rows L.doors))))

-- the ledger once founded: every group of the plan is held, and takes a place
abbrev pub founded : Ledger → Ledger
founded L = record {
  keys = L.keys;
  doors = L.doors;
  rows = L.rows;
  places = L.places;
  held = groups_of L.rows L.doors;
  spare = L.spare - length (groups_of L.rows L.doors);
  spends = L.spends;
}

-- ---- booking

-- how many changes of a batch add a pair, and how many remove one
abbrev pub additions : List Change → ℕ
additions [] = 0
additions (c ∷ cs) = cond c.added 1 0 + additions cs

abbrev pub removals : List Change → ℕ
removals [] = 0
removals (c ∷ cs) = cond c.added 0 1 + removals cs

-- what is wrong with the change at index i: 14 outside the plan, 15 an added pair stands, 16 a removed pair does not stand
abbrev pub change_fault : ℕ → ℕ → List ℕ → ℕ → Change → Option Cause
change_fault keys doors rows i c =
    cond (not (inside keys doors c.key c.door)) (Some (along 14 i))
    (cond c.added
    (cond (stands rows c.key c.door) (Some (along 15 i)) None)
    (cond (stands rows c.key c.door) None (Some (along 16 i))))

-- the first of two that is a fault
abbrev pub first_of : Option Cause → Option Cause → Option Cause
first_of (Some f) o = Some f
first_of None o = o

-- the first faulty change, where the first of them has index i
abbrev pub changes_fault : ℕ → ℕ → List ℕ → ℕ → List Change → Option Cause
changes_fault keys doors rows i [] = None
changes_fault keys doors rows i (c ∷ cs) = first_of (change_fault keys doors rows i c) (changes_fault keys doors rows (i + 1) cs)

-- a list for groups counts for at most 65536
abbrev pub list_capacity : ℕ → ℕ
list_capacity n = min n 65536

-- all of the groups are held; some of them is
abbrev pub all_held : List Group → List Group → Bool
all_held [] held = true
all_held (g ∷ gs) held = has group_before g held && all_held gs held

abbrev pub some_are_held : List Group → List Group → Bool
some_are_held [] held = false
some_are_held (g ∷ gs) held = has group_before g held || some_are_held gs held

-- the register is out of step: a lapsed group is not held, or a new one is
abbrev pub out_of_step : List Group → List Group → List Group → Bool
out_of_step new lapsed held = not (all_held lapsed held) || some_are_held new held

-- n new and m lapsed groups want more places than are spare
abbrev pub wants : Bool → ℕ → ℕ → ℕ → Bool
wants spends spare n m = cond spends (nat_lt spare (n + m)) (nat_lt (spare + m) n)

-- the spare places after m strikes and n enters
abbrev pub spare_after : Bool → ℕ → ℕ → ℕ → ℕ
spare_after spends spare n m = cond spends (spare - (n + m)) ((spare + m) - n)

-- a fault, or else the answer
abbrev pub unless : {A : Type 0} → Option Cause → Result A Cause → Result A Cause
unless None r = r
unless (Some f) r = Err f

-- the causes after the changes, in their order: 17 the plan's places, 18 and 19 the two lists, 20 out of step, 13 the register's places
unfoldable pub counted : (adds removes places : ℕ) → (new_list : ℕ) → (lapsed_list : ℕ) → List Group → List Group → List Group → ℕ → Bool → Result (ℕ × ℕ) Cause
counted adds removes places new_list lapsed_list new lapsed held spare spends =
    cond (nat_lt (places + removes) adds) (Err (bare 17))
    (cond (nat_lt (list_capacity new_list) (length new)) (Err (bare 18))
    (cond (nat_lt (list_capacity lapsed_list) (length lapsed)) (Err (bare 19))
    (cond (out_of_step new lapsed held) (Err (bare 20))
    (cond (wants spends spare (length new) (length lapsed)) (Err (bare 13)) (Ok (length new, length lapsed))))))

-- the groups that are new, and those that lapse, where the batch is carried out
abbrev pub arising : Ledger → List Change → List Group
arising L batch = new_groups_of L.rows (carried_out batch L.rows) L.doors

abbrev pub lapsing : Ledger → List Change → List Group
lapsing L batch = lapsed_groups_of L.rows (carried_out batch L.rows) L.doors

-- to book a batch with lists of these lengths: the first faulty change, else the other causes in their order, else the two counts
abbrev pub book_answer : Ledger → List Change → ℕ → ℕ → Result (ℕ × ℕ) Cause
book_answer L batch new_list lapsed_list =
    unless (changes_fault L.keys L.doors L.rows 0 batch)
    (counted (additions batch) (removals batch) L.places new_list lapsed_list (arising L batch) (lapsing L batch) L.held L.spare L.spends)

-- the ledger once the batch is booked
unfoldable pub booked : Ledger → List Change → Ledger
booked L batch = record {
  keys = L.keys;
  doors = L.doors;
  rows = carried_out batch L.rows;
  places = (L.places + removals batch) - additions batch;
  held = all_entered group_before (arising L batch) (all_struck group_before (lapsing L batch) L.held);
  spare = spare_after L.spends L.spare (length (arising L batch)) (length (lapsing L batch));
  spends = L.spends;
}

-- a list that holds the groups from its start, and is otherwise as it was
abbrev pub over : List Group → List Group → List Group
over gs list = gs ++ drop (length gs) list

-- ---- questions

-- a question by a number above 63 is 1; a key or door outside the plan has the empty set
abbrev pub ask_answer : Ledger → Question → Result Answer Cause
ask_answer L Sizes = Ok (BothSizes L.keys L.doors)
ask_answer L (DoorsOf k) = cond (is_number k) (Ok (Doors (doors_opened L.rows k))) (Err (bare 1))
ask_answer L (KeysOf d) = cond (is_number d) (Ok (Keys (keys_opening L.rows L.doors d))) (Err (bare 1))
ask_answer L PlanSpare = Ok (Number L.places)
ask_answer L RegisterSpare = Ok (Number L.spare)
ask_answer L Count = Ok (Number (length L.held))
ask_answer L (Holds g) = Ok (Truth (has group_before g L.held))
ask_answer L (RecordAt i) = Ok (Record (slice_get L.held i))
