-- The opening and the contents of a file, as a list of bytes.
use Rattle.std.specs.Prelude.{◌≡◌, ℕ, zero, suc, ◌+◌, ◌*◌, ◌%◌, ◌≤◌, Bool, cond, ◌&&◌, ◌||◌, List, [], ◌∷◌, length, take, drop, Ok, Err, Result, ◌==◌, nat_le, nat_lt, slice_index, slice_index_or}
use Rattle.std.specs.Str.{bytes_eq}
use Rattle.faults.specs.declared.cause.Cause.{Cause}
use Rattle.faults.specs.Causes.{along}
use Rattle.weekly.specs.Places.{Places}

-- the four bytes 57 4B 4C 31
abbrev pub opening_bytes : List ℕ
opening_bytes = 0x57 ∷ 0x4B ∷ 0x4C ∷ 0x31 ∷ []

-- the opening and the number of entries are there
abbrev pub opened : List ℕ → Bool
opened f = nat_le 5 (length f) && bytes_eq (take 4 f) opening_bytes

-- a number in two bytes, low byte first
abbrev pub two_bytes : ℕ → ℕ → ℕ
two_bytes low high = low + 256 * high

-- where the last body ends
abbrev pub bodies_end : Places → ℕ
bodies_end g = g.first + g.added + g.note + g.removed

-- what is known of a layout that was read: it is short, and pairs have two bytes
abbrev pub Short : Places → Type 0
Short g = (bodies_end g ≤ 900) × (g.added % 2 ≡ 0) × (g.removed % 2 ≡ 0)

-- and it ends with the file, of n bytes
abbrev pub Sized : ℕ → Places → Type 0
Sized n g = Short g × (bodies_end g ≡ n)

-- the length of a body: of a note (N) 1 to 200; of additions (A) and removals (R) even, at least 2, and together at most 128
abbrev pub length_ok : ℕ → ℕ → ℕ → Bool
length_ok used letter len =
    cond (letter == 0x4E) (nat_le 1 len && nat_le len 200)
    ((letter == 0x41 || letter == 0x52) && (len % 2 == 0 && (nat_le 2 len && nat_le (used + len) 128)))

-- an entry: its letter is above the last, its body starts where the last ends, and its length is right
abbrev pub is_entry_ok : ℕ → ℕ → ℕ → ℕ → ℕ → ℕ → Bool
is_entry_ok prev start used letter at len = nat_lt prev letter && (at == start && length_ok used letter len)

-- the layout with the body of one more entry
abbrev pub with_a_body : Places → ℕ → ℕ → Places
with_a_body g letter len =
    cond (letter == 0x41) (record { first = g.first; added = g.added + len; note = g.note; removed = g.removed })
    (cond (letter == 0x4E) (record { first = g.first; added = g.added; note = g.note + len; removed = g.removed })
    (record { first = g.first; added = g.added; note = g.note; removed = g.removed + len }))

-- the first `left` entries of the bytes, the first of them at `place`: what they add to a layout. 22: the first wrong one
unfoldable pub entries : ℕ → List ℕ → ℕ → ℕ → Places → Result Places Cause
entries zero bs place prev got = Ok got
entries (suc left) bs place prev got =
    let letter : ℕ = slice_index_or bs 0 0 in let len : ℕ = two_bytes (slice_index bs 3) (slice_index bs 4) in
    cond (is_entry_ok prev (bodies_end got) got.added letter (two_bytes (slice_index bs 1) (slice_index bs 2)) len)
    (entries left (drop 5 bs) (place + 5) letter (with_a_body got letter len))
    (Err (along 22 place))

-- with no entry read yet
abbrev pub bodies_start : ℕ → Places
bodies_start n = record { first = 5 + 5 * n; added = 0; note = 0; removed = 0 }

-- the file ends with the last body. 23: it does not
unfoldable pub ended : ℕ → Result Places Cause → Result Places Cause
ended n (Ok g) = cond (n == bodies_end g) (Ok g) (Err (along 23 n))
ended n (Err e) = Err e

-- the layout of a file. 21: the opening; 22: the number of entries, at place 4, or an entry; 23: the length of the contents or of the file
unfoldable pub layout_of : List ℕ → Result Places Cause
layout_of f =
    cond (opened f)
    (cond (nat_lt 3 (slice_index f 4)) (Err (along 22 4))
    (cond (nat_lt (length f) (5 + 5 * slice_index f 4)) (Err (along 23 (length f)))
    (ended (length f) (entries (slice_index f 4) (drop 5 f) 5 0 (bodies_start (slice_index f 4))))))
    (Err (along 21 0))
