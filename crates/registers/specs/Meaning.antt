-- What a register means: the ascending list of the records that it holds, and its spare places; what its calls answer and leave.
use Rattle.std.specs.Prelude.{ℕ, ◌+◌, ◌-◌, min, Bool, cond, not, ◌&&◌, List, [], ◌∷◌, is_ok, Ok, Err, Result, ◌==◌}
use Rattle.faults.specs.declared.cause.Cause.{Cause}
use Rattle.faults.specs.Causes.{bare}
use Rattle.groups.specs.declared.group.Group.{Group}
use Rattle.groups.specs.Orders.{group_before}
use Rattle.table.specs.Sets.{has, entered, struck}

-- memory for records or lines counts for at most 65536
abbrev pub capacity : ℕ → ℕ
capacity n = min n 65536

-- to enter a record: 7 where it is held, 8 where no place is spare
abbrev pub enter_answer : List Group → ℕ → Group → Result Unit Cause
enter_answer held spare x =
    cond (has group_before x held) (Err (bare 7))
    (cond (spare == 0) (Err (bare 8)) (Ok tt))

-- to strike a record: 9 where it is not held, 8 where no place is spare and a strike takes one
abbrev pub strike_answer : Bool → List Group → ℕ → Group → Result Unit Cause
strike_answer spends held spare x =
    cond (not (has group_before x held)) (Err (bare 9))
    (cond (spends && spare == 0) (Err (bare 8)) (Ok tt))

-- the spare places once a record is struck: one fewer where a strike takes a place, else one more
abbrev pub spare_struck : Bool → ℕ → ℕ
spare_struck spends spare = cond spends (spare - 1) (spare + 1)

-- what is held, and the spare places, after one call, refused or not
abbrev pub enter_held : List Group → ℕ → Group → List Group
enter_held held spare x = cond (is_ok (enter_answer held spare x)) (entered group_before x held) held

abbrev pub enter_spare : List Group → ℕ → Group → ℕ
enter_spare held spare x = cond (is_ok (enter_answer held spare x)) (spare - 1) spare

abbrev pub strike_held : Bool → List Group → ℕ → Group → List Group
strike_held spends held spare x = cond (is_ok (strike_answer spends held spare x)) (struck group_before x held) held

abbrev pub strike_spare : Bool → List Group → ℕ → Group → ℕ
strike_spare spends held spare x = cond (is_ok (strike_answer spends held spare x)) (spare_struck spends spare) spare

-- and after one call for each record of a list, in their order
abbrev pub entered_run : List Group → ℕ → List Group → List Group
entered_run held spare [] = held
entered_run held spare (x ∷ xs) = entered_run (enter_held held spare x) (enter_spare held spare x) xs

abbrev pub entered_left : List Group → ℕ → List Group → ℕ
entered_left held spare [] = spare
entered_left held spare (x ∷ xs) = entered_left (enter_held held spare x) (enter_spare held spare x) xs

abbrev pub struck_run : Bool → List Group → ℕ → List Group → List Group
struck_run spends held spare [] = held
struck_run spends held spare (x ∷ xs) = struck_run spends (strike_held spends held spare x) (strike_spare spends held spare x) xs

abbrev pub struck_left : Bool → List Group → ℕ → List Group → ℕ
struck_left spends held spare [] = spare
struck_left spends held spare (x ∷ xs) = struck_left spends (strike_held spends held spare x) (strike_spare spends held spare x) xs
