-- What an order of records is to be, and what sorting means: the sorted list ascends, and has the records of the list and no others; and it is the only such list.
use Rattle.std.specs.Prelude.{◌≡◌, Bool, true, false, List, length}
use Rattle.table.specs.Rows.{Ascends}
use Rattle.table.specs.Sets.{has, sorted}

-- `before` is the test of an order, which is total: of two records that are not the same, one is before the other
pub record TotalOrder {X : Type 0} (before : X → X → Bool) : Type 0 where
  pub irreflexive : (x : X) → before x x ≡ false
  pub transitive : (x y z : X) → before x y ≡ true → before y z ≡ true → before x z ≡ true
  pub total : (x y : X) → before x y ≡ false → before y x ≡ false → x ≡ y

pub record Sorting {X : Type 0} (lt : X → X → Bool) : Type 0 where
  pub ascends : (xs : List X) → Ascends lt (sorted lt xs) (length (sorted lt xs))
  pub same : (x : X) (xs : List X) → has lt x (sorted lt xs) ≡ has lt x xs
  pub only : (xs ys : List X) → Ascends lt ys (length ys) → ((x : X) → has lt x ys ≡ has lt x xs) → sorted lt xs ≡ ys
