-- What numbers and sizes mean, and what making them answers.
use Rattle.std.specs.Prelude.{ℕ, Bool, cond, ◌&&◌, Ok, Err, Result, nat_le, nat_lt}
use Rattle.faults.specs.declared.cause.Cause.{Cause}
use Rattle.numbers.specs.declared.number.KeyNo.{KeyNo}
use Rattle.numbers.specs.declared.number.DoorNo.{DoorNo}
use Rattle.numbers.specs.declared.number.Sizes.{Sizes}
use Rattle.faults.specs.Causes.{bare}

abbrev pub key_number : KeyNo → ℕ
key_number k = k.value

abbrev pub door_number : DoorNo → ℕ
door_number d = d.value

-- a number of a key or a door is 0 to 63
abbrev pub is_number : ℕ → Bool
is_number v = nat_lt v 64

abbrev pub number_answer : ℕ → Result ℕ Cause
number_answer v = cond (is_number v) (Ok v) (Err (bare 1))

-- a size is 1 to 64
abbrev pub is_size : ℕ → Bool
is_size n = nat_le 1 n && nat_le n 64

-- how many keys and how many doors a plan has
abbrev pub sizes_of : Sizes → ℕ × ℕ
sizes_of s = (s.keys, s.doors)

abbrev pub sizes_answer : ℕ → ℕ → Result (ℕ × ℕ) Cause
sizes_answer keys doors = cond (is_size keys && is_size doors) (Ok (keys, doors)) (Err (bare 2))
