-- A set of records as its ascending list, in an order that is given as a test.
use Rattle.std.specs.Prelude.{ℕ, ◌+◌, Bool, false, cond, not, ◌&&◌, ◌||◌, List, [], ◌∷◌, Ok, Err, Result}

-- neither is before the other: in a total order they are the same record
abbrev pub tied : {X : Type 0} → (X → X → Bool) → X → X → Bool
tied lt x y = not (lt x y) && not (lt y x)

-- x stands among the records
abbrev pub has : {X : Type 0} → (X → X → Bool) → X → List X → Bool
has lt x [] = false
has lt x (y ∷ ys) = tied lt x y || has lt x ys

-- x entered at its place; a record that is there stays once
abbrev pub entered : {X : Type 0} → (X → X → Bool) → X → List X → List X
entered lt x [] = x ∷ []
entered lt x (y ∷ ys) = cond (lt x y) (x ∷ (y ∷ ys)) (cond (lt y x) (y ∷ entered lt x ys) (y ∷ ys))

-- x struck out
abbrev pub struck : {X : Type 0} → (X → X → Bool) → X → List X → List X
struck lt x [] = []
struck lt x (y ∷ ys) = cond (tied lt x y) ys (y ∷ struck lt x ys)

-- the records of a list entered one after the other, and struck one after the other
abbrev pub all_entered : {X : Type 0} → (X → X → Bool) → List X → List X → List X
all_entered lt [] ys = ys
all_entered lt (x ∷ xs) ys = all_entered lt xs (entered lt x ys)

abbrev pub all_struck : {X : Type 0} → (X → X → Bool) → List X → List X → List X
all_struck lt [] ys = ys
all_struck lt (x ∷ xs) ys = all_struck lt xs (struck lt x ys)

-- the records of a list in ascending order, each once
abbrev pub sorted : {X : Type 0} → (X → X → Bool) → List X → List X
sorted lt xs = all_entered lt xs []

abbrev pub one : Bool → ℕ
one b = cond b 1 0

-- how many records are before x
abbrev pub rank : {X : Type 0} → (X → X → Bool) → X → List X → ℕ
rank lt x [] = 0
rank lt x (y ∷ ys) = one (lt y x) + rank lt x ys

-- where x stands (Ok), or where it would go (Err): in both cases as many records are before it
abbrev pub placed : {X : Type 0} → (X → X → Bool) → X → List X → Result ℕ ℕ
placed lt x xs = cond (has lt x xs) (Ok (rank lt x xs)) (Err (rank lt x xs))
