-- The pairs of a body, as code goes over them.
use Rattle.std.specs.Prelude.{ℕ, ◌+◌, ◌<◌, Bool, ◌&&◌, ◌==◌, List, [], ◌∷◌, Option, Some, None}
use Rattle.pairs.specs.declared.pair.Pair.{Pair}
use Rattle.weekly.specs.Body.{pair_number}

-- a key byte and then a door byte for each pair; a last byte alone is none
unfoldable pub pairs_of : List ℕ → List Pair
pairs_of [] = []
pairs_of (k ∷ []) = []
pairs_of (k ∷ d ∷ rest) = record { key = k; door = d } ∷ pairs_of rest

abbrev pub is_pair : Pair → Pair → Bool
is_pair p q = q.key == p.key && q.door == p.door

-- the least number, by key and then by door, of a pair after the last one
abbrev pub above : Option Pair → ℕ
above None = 0
above (Some p) = pair_number p.key p.door + 1

-- both numbers of a pair are below 64
abbrev pub InRange : Pair → Type 0
InRange p = (p.key < 64) × (p.door < 64)
