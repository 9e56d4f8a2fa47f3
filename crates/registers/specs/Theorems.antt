-- What several records leave in a register whose places suffice, whatever it is made of: refused ones make no difference.
use Rattle.std.specs.Prelude.{◌≡◌, ℕ, ◌≤◌, true, false, not, ◌&&◌, ◌||◌, List, length}
use Rattle.groups.specs.declared.group.Group.{Group}
use Rattle.groups.specs.Orders.{group_before}
use Rattle.table.specs.Rows.{Ascends}
use Rattle.table.specs.Sets.{has}
use Rattle.registers.specs.Meaning.{entered_run, struck_run}

-- once all are entered, what is held is what was held and the records entered; once all are struck, what was held but for the
-- records struck. A strike that gives a place back always has one
pub record PlacesSuffice : Type 0 where
  pub entered : (held : List Group) (spare : ℕ) (xs : List Group) → Ascends group_before held (length held) → length xs ≤ spare
      → (g : Group) → has group_before g (entered_run held spare xs) ≡ (has group_before g xs || has group_before g held)
  pub struck_spending : (held : List Group) (spare : ℕ) (xs : List Group) → Ascends group_before held (length held) → length xs ≤ spare
      → (g : Group) → has group_before g (struck_run true held spare xs) ≡ (not (has group_before g xs) && has group_before g held)
  pub struck_refilling : (held : List Group) (spare : ℕ) (xs : List Group) → Ascends group_before held (length held)
      → (g : Group) → has group_before g (struck_run false held spare xs) ≡ (not (has group_before g xs) && has group_before g held)
