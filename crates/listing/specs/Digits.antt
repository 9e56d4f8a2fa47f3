-- Hexadecimal digits. Decimal ones are the standard library's `decimal`.
use Rattle.std.specs.Prelude.{ℕ, zero, suc, ◌/◌, ◌%◌, ◌^◌, List, [], ◌∷◌, codes, slice_index}

-- the byte of a digit below 16, in lower case
abbrev pub hex_digit_of : ℕ → ℕ
hex_digit_of d = slice_index (codes "0123456789abcdef") d

-- the lowest digits of a number, the highest of them first: that of weight 16 ^ k stands before k others
abbrev pub hex_digits : ℕ → ℕ → List ℕ
hex_digits zero x = []
hex_digits (suc k) x = hex_digit_of (x / 16 ^ k % 16) ∷ hex_digits k x

-- a mask as 16 digits
abbrev pub hexadecimal : ℕ → List ℕ
hexadecimal x = hex_digits 16 x
