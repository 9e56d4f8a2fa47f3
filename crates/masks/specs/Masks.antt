-- A set of numbers as a mask: i is in the set where bit i of the mask, of weight 2 ^ i, is 1.
use Rattle.std.specs.Prelude.{◌≡◌, ℕ, ◌+◌, ◌-◌, ◌/◌, ◌%◌, ◌^◌, min, Bool, cond, Some, None, Option, ◌==◌, bit_and, nat_lt}

-- bit i of x: 0 or 1
unfoldable pub bit : ℕ → ℕ → ℕ
bit x i = x / 2 ^ i % 2

-- i is in the set x
abbrev pub Has : ℕ → ℕ → Type 0
Has x i = bit x i ≡ 1

-- the set x is a part of the set y
abbrev pub Within : ℕ → ℕ → Type 0
Within x y = (i : ℕ) → Has x i → Has y i

-- Has as a test
abbrev pub has_bit : ℕ → ℕ → Bool
has_bit x i = bit x i == 1

-- Within as a test: x is a part of y where it is all that the two share
abbrev pub is_within : ℕ → ℕ → Bool
is_within x y = bit_and x y == x

-- the set x with i in it: x where it has i already, else x + 2 ^ i
unfoldable pub joined : ℕ → ℕ → ℕ
joined x i = cond (has_bit x i) x (x + 2 ^ i)

-- the set x without i: x where it lacks i, else x - 2 ^ i
unfoldable pub parted : ℕ → ℕ → ℕ
parted x i = cond (has_bit x i) (x - 2 ^ i) x

-- a mask has places for 0 to 63 alone: none is made with a number above 63
abbrev pub with_answer : ℕ → ℕ → Option ℕ
with_answer x i = cond (nat_lt i 64) (Some (joined x i)) None

-- the set of all numbers below n, or of all 64 where n is above 64
abbrev pub first_set : ℕ → ℕ
first_set n = 2 ^ min n 64 - 1
