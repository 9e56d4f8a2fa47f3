-- The bodies of a file.
use Rattle.std.specs.Prelude.{ℕ, ◌+◌, ◌*◌, Bool, cond, ◌&&◌, List, [], ◌∷◌, length, take, drop, Some, None, Ok, Err, Option, Result, ◌==◌, nat_le, nat_lt}
use Rattle.faults.specs.declared.cause.Cause.{Cause}
use Rattle.faults.specs.Causes.{along}
use Rattle.weekly.specs.Places.{Places}

-- one judgement and then another: the first cause decides
abbrev pub and_then : {X : Type 0} → Result Unit Cause → Result X Cause → Result X Cause
and_then (Ok _) r = r
and_then (Err e) r = Err e

-- a pair in its place among all pairs, by key and then by door
abbrev pub pair_number : ℕ → ℕ → ℕ
pair_number k d = 64 * k + d

-- a pair: a key and a door below 64, and not below `low`
abbrev pub pair_ok : ℕ → ℕ → ℕ → Bool
pair_ok low k d = nat_lt k 64 && (nat_lt d 64 && nat_le low (pair_number k d))

-- the pairs of a body that starts at `place`, each above the last. 24: the first pair that is not
unfoldable pub pairs_fault : ℕ → ℕ → List ℕ → Result Unit Cause
pairs_fault low place [] = Ok tt
pairs_fault low place (k ∷ []) = Ok tt
pairs_fault low place (k ∷ d ∷ rest) = cond (pair_ok low k d) (pairs_fault (pair_number k d + 1) (place + 2) rest) (Err (along 24 place))

-- a note's bytes are 32 to 126
abbrev pub note_byte : ℕ → Bool
note_byte b = nat_le 32 b && nat_le b 126

-- the place of the first byte of a note that is not such a byte, the first of them at `place`
unfoldable pub first_bad_byte : ℕ → List ℕ → Option ℕ
first_bad_byte place [] = None
first_bad_byte place (b ∷ rest) = cond (note_byte b) (first_bad_byte (place + 1) rest) (Some place)

-- no bad byte, or the cause of this number with its place
abbrev pub byte_fault : ℕ → Option ℕ → Result Unit Cause
byte_fault number None = Ok tt
byte_fault number (Some place) = Err (along number place)

-- the note of a file, which starts at `place`. 24: its first bad byte
abbrev pub text_fault : ℕ → List ℕ → Result Unit Cause
text_fault place ns = byte_fault 24 (first_bad_byte place ns)

-- the pair (k, d) does not stand in the removals, which start at `place`. 25: where it does
unfoldable pub apart_fault : ℕ → ℕ → ℕ → List ℕ → Result Unit Cause
apart_fault k d place [] = Ok tt
apart_fault k d place (x ∷ []) = Ok tt
apart_fault k d place (x ∷ y ∷ rest) = cond (x == k && y == d) (Err (along 25 place)) (apart_fault k d (place + 2) rest)

-- no pair of the additions stands in the removals, which start at `place`: the first that does decides
unfoldable pub both_fault : ℕ → List ℕ → List ℕ → Result Unit Cause
both_fault place rs [] = Ok tt
both_fault place rs (k ∷ []) = Ok tt
both_fault place rs (k ∷ d ∷ rest) = and_then (apart_fault k d place rs) (both_fault place rs rest)

-- the bodies of additions, note and removals in file order, the first of them at `place`, and then the pairs in both
unfoldable pub bodies_fault : ℕ → List ℕ → List ℕ → List ℕ → Result Unit Cause
bodies_fault place xs ns rs =
    and_then (pairs_fault 0 place xs) (and_then (text_fault (place + length xs) ns)
    (and_then (pairs_fault 0 (place + length xs + length ns) rs) (both_fault (place + length xs + length ns) rs xs)))

-- the bodies of a file
abbrev pub added_bytes : List ℕ → Places → List ℕ
added_bytes f g = take g.added (drop g.first f)

abbrev pub note_bytes : List ℕ → Places → List ℕ
note_bytes f g = take g.note (drop (g.first + g.added) f)

abbrev pub removed_bytes : List ℕ → Places → List ℕ
removed_bytes f g = take g.removed (drop (g.first + g.added + g.note) f)
