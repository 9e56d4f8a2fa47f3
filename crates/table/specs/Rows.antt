-- Rows of a memory of which the first n are in use.
use Rattle.std.specs.Prelude.{◌≡◌, ℕ, ◌+◌, ◌-◌, ◌<◌, ◌≤◌, Bool, true, List, ◌++◌, take, drop, slice_index_or}
use Rattle.std.specs.List.{insert, remove}

-- each of the first n rows but the last is before the next (by neighbours, which is short enough for a ghost field)
abbrev pub Ascends : {X : Type 0} → (X → X → Bool) → List X → ℕ → Type 0
Ascends {X} lt xs n = (k : ℕ) (d : X) → k + 1 < n → lt (slice_index_or xs k d) (slice_index_or xs (k + 1) d) ≡ true

-- x is the i-th of the first n
abbrev pub FoundAt : {X : Type 0} → List X → ℕ → X → ℕ → Type 0
FoundAt {X} xs n x i = (i < n) × ((d : X) → slice_index_or xs i d ≡ x)

-- of the first n, those below i are before x, and x is before the others
abbrev pub GoesAt : {X : Type 0} → (X → X → Bool) → List X → ℕ → X → ℕ → Type 0
GoesAt {X} lt xs n x i = (i ≤ n)
    × ((k : ℕ) (d : X) → k < i → lt (slice_index_or xs k d) x ≡ true)
    × ((k : ℕ) (d : X) → i ≤ k → k < n → lt x (slice_index_or xs k d) ≡ true)

-- the memory with x written at `at`, the rows from there up to n moved up by one, and the rest as it was
abbrev pub with_row : {X : Type 0} → List X → ℕ → ℕ → X → List X
with_row xs n at x = insert (take n xs) at x ++ drop (n + 1) xs

-- the memory with the row at `at` gone, the rows after it up to n moved down by one, and the rest as it was
abbrev pub without_row : {X : Type 0} → List X → ℕ → ℕ → List X
without_row xs n at = remove (take n xs) at ++ drop (n - 1) xs
