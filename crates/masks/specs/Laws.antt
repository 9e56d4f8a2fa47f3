-- What holds of sets as masks, bit by bit.
use Rattle.std.specs.Prelude.{◌≡◌, ℕ, ◌^◌, ◌<◌, min, max, true, ◌≢◌, bit_and, bit_or}
use Rattle.masks.specs.Masks.{bit, Has, Within, is_within, joined, parted, first_set}

pub record LawsOfSets : Type 0 where
  -- a bit is 0 or 1, and a mask below 2 ^ 64 has no number above 63
  pub two_values : (x i : ℕ) → bit x i < 2
  pub within_64 : (x i : ℕ) → x < 2 ^ 64 → Has x i → i < 64
  -- joining i sets bit i, and leaves every other as it was
  pub joined_same : (x i : ℕ) → bit (joined x i) i ≡ 1
  pub joined_other : (x i j : ℕ) → (j ≢ i) → bit (joined x i) j ≡ bit x j
  -- parting from i clears bit i, and leaves every other as it was
  pub parted_same : (x i : ℕ) → bit (parted x i) i ≡ 0
  pub parted_other : (x i j : ℕ) → (j ≢ i) → bit (parted x i) j ≡ bit x j
  -- what has the same numbers is the same mask
  pub same : (x y : ℕ) → x < 2 ^ 64 → y < 2 ^ 64 → ((i : ℕ) → i < 64 → bit x i ≡ bit y i) → x ≡ y
  -- what two sets share, and what they have together
  pub shared : (x y i : ℕ) → bit (bit_and x y) i ≡ min (bit x i) (bit y i)
  pub together : (x y i : ℕ) → bit (bit_or x y) i ≡ max (bit x i) (bit y i)
  -- the test of a part is true exactly of parts
  pub test_says : (x y : ℕ) → is_within x y ≡ true → Within x y
  pub part_passes : (x y : ℕ) → Within x y → is_within x y ≡ true
  -- the first n numbers are those below n
  pub first_has : (n i : ℕ) → i < min n 64 → Has (first_set n) i
  pub first_only : (n i : ℕ) → Has (first_set n) i → i < min n 64
