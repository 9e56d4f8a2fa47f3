-- The steps of a booking: the calls that bring a register and a plan from one state to the next, each answered Ok in its turn.
use Rattle.std.specs.Prelude.{◌≡◌, ℕ, ◌+◌, ◌-◌, ◌*◌, ◌≤◌, Bool, true, false, cond, ◌&&◌, List, [], ◌∷◌, length, Some, None, Ok, Err, Option, Result, nat_lt}
use Rattle.faults.specs.declared.cause.Cause.{Cause}
use Rattle.faults.specs.Causes.{bare}
use Rattle.batch.specs.Changes.{in_range}
use Rattle.table.specs.Sets.{entered, struck}
use Rattle.pairs.specs.declared.change.Change.{Change}
use Rattle.groups.specs.declared.group.Group.{Group}
use Rattle.groups.specs.Orders.{group_before}
use Rattle.groups.specs.Lists.{permitted, withdrawn, new_groups_of, lapsed_groups_of, carried_out}
use Rattle.ledger.specs.Ledger.{additions, removals, first_of, changes_fault}
use Rattle.difference.specs.declared.two.TwoPlans.{TwoPlans}
use Rattle.difference.specs.Both.{before_rows, after_rows, two_doors}
use Rattle.plans.specs.Meaning.{permit_answer, withdraw_answer}
use Rattle.registers.specs.Meaning.{enter_answer, strike_answer, spare_struck, entered_run, entered_left, struck_run, struck_left}

-- ---- the register

-- each strike is answered Ok in its turn
abbrev pub Strikable : Bool → List Group → ℕ → List Group → Type 0
Strikable spends held spare [] = Unit {0}
Strikable spends held spare (g ∷ gs) = (strike_answer spends held spare g ≡ Ok tt) × Strikable spends (struck group_before g held) (spare_struck spends spare) gs

-- each enter is answered Ok in its turn
abbrev pub Enterable : List Group → ℕ → List Group → Type 0
Enterable held spare [] = Unit {0}
Enterable held spare (g ∷ gs) = (enter_answer held spare g ≡ Ok tt) × Enterable (entered group_before g held) (spare - 1) gs

-- the lapsed are struck, then the new are entered: what is held then, and the spare places
abbrev pub held_run : Bool → List Group → ℕ → List Group → List Group → List Group
held_run spends held spare new lapsed = entered_run (struck_run spends held spare lapsed) (struck_left spends held spare lapsed) new

abbrev pub spare_run : Bool → List Group → ℕ → List Group → List Group → ℕ
spare_run spends held spare new lapsed = entered_left (struck_run spends held spare lapsed) (struck_left spends held spare lapsed) new

-- ---- the plan

-- one statement of an addition, another of a removal
abbrev pub by_mark : Bool → Type 0 → Type 0 → Type 0
by_mark true addition removal = addition
by_mark false addition removal = removal

-- each removal is answered Ok in its turn, where the additions are passed over
abbrev pub Removable : ℕ → ℕ → List Change → List ℕ → Type 0
Removable keys doors [] rows = Unit {0}
Removable keys doors (c ∷ cs) rows =
    by_mark c.added (Removable keys doors cs rows) ((withdraw_answer keys doors rows c.key c.door ≡ Ok tt) × Removable keys doors cs (withdrawn c rows))

-- each addition is answered Ok in its turn, where the removals are passed over
abbrev pub Addable : ℕ → ℕ → List Change → List ℕ → ℕ → Type 0
Addable keys doors [] rows spare = Unit {0}
Addable keys doors (c ∷ cs) rows spare =
    by_mark c.added ((permit_answer keys doors rows spare c.key c.door ≡ Ok tt) × Addable keys doors cs (permitted c rows) (spare - 1)) (Addable keys doors cs rows spare)

-- the numbers of all changes are 0 to 63
abbrev pub all_in_range : List Change → Bool
all_in_range [] = true
all_in_range (c ∷ cs) = in_range c && all_in_range cs

-- ---- the two lists

-- the groups that come up from the first of two plans to the second, and those that lapse
abbrev pub coming : TwoPlans → List Group
coming t = new_groups_of (before_rows t) (after_rows t) (two_doors t)

abbrev pub going : TwoPlans → List Group
going t = lapsed_groups_of (before_rows t) (after_rows t) (two_doors t)

-- how many groups each list has, or 18 or 19 where the first or the second has more than its limit
abbrev pub lists_answer : ℕ → ℕ → List Group → List Group → Result (ℕ × ℕ) Cause
lists_answer new_limit lapsed_limit new lapsed =
    cond (nat_lt new_limit (length new)) (Err (bare 18))
    (cond (nat_lt lapsed_limit (length lapsed)) (Err (bare 19)) (Ok (length new, length lapsed)))

-- a table of so many places has room to look for as many groups of both kinds
abbrev pub Roomy : ℕ → ℕ → ℕ → Type 0
Roomy places new_limit lapsed_limit = (2 * new_limit ≤ places) × (new_limit + 2 * lapsed_limit ≤ places)

-- ---- what a batch asks of the plan alone

-- the first faulty change, or 17 where the plan has too few places
abbrev pub plan_fault : ℕ → ℕ → List ℕ → ℕ → List Change → Option Cause
plan_fault keys doors rows places batch =
    first_of (changes_fault keys doors rows 0 batch) (cond (nat_lt (places + removals batch) (additions batch)) (Some (bare 17)) None)

-- the two plans are the plan before and after the batch
pub record Compares (doors : ℕ) (rows : List ℕ) (batch : List Change) (t : TwoPlans) : Type 0 where
  pub before : before_rows t ≡ rows
  pub after : after_rows t ≡ carried_out batch rows
  pub same_doors : two_doors t ≡ doors
