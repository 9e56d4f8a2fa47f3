-- A register follows a booking: where it is not out of step and its places suffice, each strike and each enter is answered Ok in its turn, and they
-- bring it to what the ledger says.
use Rattle.std.proofs.Common.{◌≡◌, ℕ, ◌+◌, ◌-◌, ◌<◌, ◌≤◌, Bool, true, false, cond, not, ◌&&◌, eqb, List, [], ◌∷◌, length, is_ok, Ok, Err, sym, refl, ap, ◌∙◌, subst, arith}
use Rattle.std.proofs.lemmas.Bool.{ltb-false, ne_eqb}
use Rattle.faults.specs.Causes.{bare}
use Rattle.table.specs.Sets.{has, entered, struck, all_entered, all_struck}
use Rattle.table.proofs.Alls.{sorted_only}
use Rattle.groups.specs.declared.group.Group.{Group}
use Rattle.groups.specs.Orders.{group_before}
use Rattle.groups.proofs.Orders.{irreflexive, transitive, total}
use Rattle.registers.specs.Meaning.{enter_answer, strike_answer, spare_struck, entered_run, entered_left, struck_run, struck_left}
use Rattle.ledger.specs.Ledger.{out_of_step, wants, spare_after}
use Rattle.ledger.specs.Copies.{AllThere, NoneThere}
use Rattle.ledger.specs.Laws.{AscendingGroups}
use Rattle.ledger.proofs.Turns.{up_groups, all_there, none_there, not_out_of_step}
use Rattle.suite.specs.Steps.{Strikable, Enterable, held_run, spare_run}

-- ---- where each is answered Ok, the run is all of them

pub struck_run_all : (spends : Bool) (held : List Group) (spare : ℕ) (gs : List Group) → Strikable spends held spare gs → struck_run spends held spare gs ≡ all_struck group_before gs held
struck_run_all spends held spare [] c = refl
struck_run_all spends held spare (g ∷ gs) c =
    ap (λ z. struck_run spends (cond (is_ok z) (struck group_before g held) held) (cond (is_ok z) (spare_struck spends spare) spare) gs) c.0
    ∙ struck_run_all spends (struck group_before g held) (spare_struck spends spare) gs c.1

pub entered_run_all : (held : List Group) (spare : ℕ) (gs : List Group) → Enterable held spare gs → entered_run held spare gs ≡ all_entered group_before gs held
entered_run_all held spare [] c = refl
entered_run_all held spare (g ∷ gs) c =
    ap (λ z. entered_run (cond (is_ok z) (entered group_before g held) held) (cond (is_ok z) (spare - 1) spare) gs) c.0
    ∙ entered_run_all (entered group_before g held) (spare - 1) gs c.1

pub entered_left_all : (held : List Group) (spare : ℕ) (gs : List Group) → Enterable held spare gs → entered_left held spare gs ≡ spare - length gs
entered_left_all held spare [] c = omega arith
entered_left_all held spare (g ∷ gs) c =
    ap (λ z. entered_left (cond (is_ok z) (entered group_before g held) held) (cond (is_ok z) (spare - 1) spare) gs) c.0
    ∙ entered_left_all (entered group_before g held) (spare - 1) gs c.1 ∙ (omega arith)

-- the spare places after n strikes
abbrev pub spare_all_struck : Bool → ℕ → ℕ → ℕ
spare_all_struck spends spare n = cond spends (spare - n) (spare + n)

none_struck : (spends : Bool) (spare : ℕ) → spare ≡ spare_all_struck spends spare 0
none_struck true spare = omega arith
none_struck false spare = omega arith

one_struck : (spends : Bool) (spare n : ℕ) → spare_all_struck spends (spare_struck spends spare) n ≡ spare_all_struck spends spare (n + 1)
one_struck true spare n = omega arith
one_struck false spare n = omega arith

pub struck_left_all : (spends : Bool) (held : List Group) (spare : ℕ) (gs : List Group) → Strikable spends held spare gs → struck_left spends held spare gs ≡ spare_all_struck spends spare (length gs)
struck_left_all spends held spare [] c = none_struck spends spare
struck_left_all spends held spare (g ∷ gs) c =
    let e : length gs + 1 ≡ length (g ∷ gs) = omega arith in
    ap (λ z. struck_left spends (cond (is_ok z) (struck group_before g held) held) (cond (is_ok z) (spare_struck spends spare) spare) gs) c.0
    ∙ struck_left_all spends (struck group_before g held) (spare_struck spends spare) gs c.1 ∙ one_struck spends spare (length gs) ∙ ap (spare_all_struck spends spare) e

-- ---- each is answered Ok: its record is there, or is not, and so is a place

some_place : (spare : ℕ) → 0 < spare → eqb spare 0 ≡ false
some_place spare l = ne_eqb spare 0 (λ e. omega arith)

strike_ok : (spends : Bool) (held : List Group) (spare : ℕ) (g : Group) → has group_before g held ≡ true → (spends && eqb spare 0) ≡ false → strike_answer spends held spare g ≡ Ok tt
strike_ok spends held spare g a b =
    ap (λ t. cond (not t) (Err (bare 9)) (cond (spends && eqb spare 0) (Err (bare 8)) (Ok tt))) a ∙ ap (λ t. cond t (Err (bare 8)) (Ok tt)) b

enter_ok : (held : List Group) (spare : ℕ) (g : Group) → has group_before g held ≡ false → eqb spare 0 ≡ false → enter_answer held spare g ≡ Ok tt
enter_ok held spare g a b = ap (λ t. cond t (Err (bare 7)) (cond (eqb spare 0) (Err (bare 8)) (Ok tt))) a ∙ ap (λ t. cond t (Err (bare 8)) (Ok tt)) b

strikable_refilling : (held : List Group) (spare : ℕ) (gs : List Group) → AllThere held gs → Strikable false held spare gs
strikable_refilling held spare [] a = tt
strikable_refilling held spare (g ∷ gs) a = (strike_ok false held spare g a.0 refl, strikable_refilling (struck group_before g held) (spare + 1) gs a.1)

strikable_spending : (held : List Group) (spare : ℕ) (gs : List Group) → AllThere held gs → length gs ≤ spare → Strikable true held spare gs
strikable_spending held spare [] a f = tt
strikable_spending held spare (g ∷ gs) a f =
    (strike_ok true held spare g a.0 (some_place spare (omega arith)), strikable_spending (struck group_before g held) (spare - 1) gs a.1 (omega arith))

pub enterable : (held : List Group) (spare : ℕ) (gs : List Group) → NoneThere held gs → length gs ≤ spare → Enterable held spare gs
enterable held spare [] a f = tt
enterable held spare (g ∷ gs) a f =
    (enter_ok held spare g a.0 (some_place spare (omega arith)), enterable (entered group_before g held) (spare - 1) gs a.1 (omega arith))

-- the places that suffice at the start suffice throughout
pub strikable : (spends : Bool) (held : List Group) (spare : ℕ) (gs : List Group) (n : ℕ) → AllThere held gs → wants spends spare n (length gs) ≡ false → Strikable spends held spare gs
strikable true held spare gs n a w = let f = ltb-false spare (n + length gs) w in strikable_spending held spare gs a (omega arith)
strikable false held spare gs n a w = strikable_refilling held spare gs a

suffice : (spends : Bool) (spare n m : ℕ) → wants spends spare n m ≡ false → n ≤ spare_all_struck spends spare m
suffice true spare n m w = let f = ltb-false spare (n + m) w in omega arith
suffice false spare n m w = let f = ltb-false (spare + m) n w in omega arith

both_moved : (spends : Bool) (spare n m : ℕ) → spare_all_struck spends spare m - n ≡ spare_after spends spare n m
both_moved true spare n m = omega arith
both_moved false spare n m = omega arith

-- ---- a booking

module _ (spends : Bool) (spare : ℕ) (new lapsed held : List Group) (n : AscendingGroups new) (l : AscendingGroups lapsed) (h : AscendingGroups held)
    (step : out_of_step new lapsed held ≡ false) (room : wants spends spare (length new) (length lapsed) ≡ false) where
  pub general_strikes : Strikable spends held spare lapsed
  general_strikes = strikable spends held spare lapsed (length new) (all_there new lapsed held n l h step) room

  all_out : struck_run spends held spare lapsed ≡ all_struck group_before lapsed held
  all_out = struck_run_all spends held spare lapsed general_strikes

  left_over : struck_left spends held spare lapsed ≡ spare_all_struck spends spare (length lapsed)
  left_over = struck_left_all spends held spare lapsed general_strikes

  pub general_enters : Enterable (struck_run spends held spare lapsed) (struck_left spends held spare lapsed) new
  general_enters =
      enterable (struck_run spends held spare lapsed) (struck_left spends held spare lapsed) new
      (subst (λ z. NoneThere z new) (sym all_out) (none_there new lapsed held n l h step))
      (let p = left_over in let q = suffice spends spare (length new) (length lapsed) room in omega arith)

  pub general_run : held_run spends held spare new lapsed ≡ all_entered group_before new (all_struck group_before lapsed held)
  general_run = entered_run_all (struck_run spends held spare lapsed) (struck_left spends held spare lapsed) new general_enters ∙ ap (all_entered group_before new) all_out

  pub general_spare : spare_run spends held spare new lapsed ≡ spare_after spends spare (length new) (length lapsed)
  general_spare =
      entered_left_all (struck_run spends held spare lapsed) (struck_left spends held spare lapsed) new general_enters
      ∙ ap (λ (z : ℕ). z - length new) left_over ∙ both_moved spends spare (length new) (length lapsed)

  -- the same of a register that is struck, and then entered into
  module _ (held' held'' : List Group) (spare' spare'' : ℕ) (mid : held' ≡ struck_run spends held spare lapsed) (left : spare' ≡ struck_left spends held spare lapsed) where
    pub follow_held : held'' ≡ entered_run held' spare' new → held'' ≡ all_entered group_before new (all_struck group_before lapsed held)
    follow_held e = e ∙ ap (λ z. entered_run z spare' new) mid ∙ ap (λ z. entered_run (struck_run spends held spare lapsed) z new) left ∙ general_run

    pub follow_spare : spare'' ≡ entered_left held' spare' new → spare'' ≡ spare_after spends spare (length new) (length lapsed)
    follow_spare e = e ∙ ap (λ z. entered_left z spare' new) mid ∙ ap (λ z. entered_left (struck_run spends held spare lapsed) z new) left ∙ general_spare

-- ---- founding: ascending groups are entered into a register that holds none

no_groups : AscendingGroups []
no_groups k d l = absurd (omega arith)

module _ (spare : ℕ) (groups : List Group) (n : AscendingGroups groups) (fits : length groups ≤ spare) where
  pub found_enters : (held : List Group) → length held ≡ 0 → Enterable held spare groups
  found_enters [] e = enterable [] spare groups (none_there groups [] [] n no_groups no_groups (not_out_of_step groups [] [] (λ g m. m) (λ g m. refl))) fits
  found_enters (g ∷ held) e = absurd (omega arith)

  pub found_held : (held : List Group) → length held ≡ 0 → entered_run held spare groups ≡ groups
  found_held [] e =
      entered_run_all [] spare groups (found_enters [] e)
      ∙ sorted_only group_before irreflexive transitive total groups groups (up_groups groups n) (λ g. refl)
  found_held (g ∷ held) e = absurd (omega arith)

  pub found_spare : (held : List Group) → length held ≡ 0 → entered_left held spare groups ≡ spare - length groups
  found_spare held e = entered_left_all held spare groups (found_enters held e)
