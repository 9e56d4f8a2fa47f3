-- What holds of digits and of lines.
use Rattle.std.specs.Prelude.{◌≡◌, ℕ, ◌^◌, ◌<◌, ◌≤◌, [], ◌∷◌, length, decimal, slice_index}
use Rattle.std.specs.Option.{unwrap_or}
use Rattle.std.specs.Str.Parse.{digits_value}
use Rattle.faults.specs.declared.cause.Cause.{Cause}
use Rattle.faults.specs.declared.intake.Layer.{Layer}
use Rattle.groups.specs.declared.group.Group.{Group}
use Rattle.listing.specs.Digits.{hexadecimal}
use Rattle.listing.specs.Lines.{booked_line, group_line, refused_line}

-- read in base 10, the digits of a number are the number; only that of 0 is a zero in front
abbrev pub DecimalsTell : Type 0
DecimalsTell = (n : ℕ) → n < 2 ^ 64 → (digits_value 10 (decimal n) ≡ n) × (0 < n → 48 < slice_index (decimal n) 0) × (decimal 0 ≡ 48 ∷ [])

-- read in base 16, the digits of a mask are the mask; there are always 16
abbrev pub HexadecimalsTell : Type 0
HexadecimalsTell = (x : ℕ) → x < 2 ^ 64 → (digits_value 16 (hexadecimal x) ≡ x) × (length (hexadecimal x) ≡ 16)

-- the number of a cause is a byte, and what is returned with it has 64 bits
abbrev pub Told : Cause → Type 0
Told cause = (cause.number < 256) × (unwrap_or cause.value 0 < 2 ^ 64)

-- both sets of a group have 64 bits
abbrev pub Masks : Group → Type 0
Masks group = (group.keys < 2 ^ 64) × (group.doors < 2 ^ 64)

-- no line has more than 45 bytes
pub record ShortLines : Type 0 where
  pub booked : (new lapsed : ℕ) → new < 2 ^ 64 → lapsed < 2 ^ 64 → length (booked_line new lapsed) ≤ 45
  pub group : (sign : ℕ) (group : Group) → length (group_line sign group) ≡ 36
  pub refused : (layer : Layer) (cause : Cause) → Told cause → length (refused_line layer cause) ≤ 34

-- a line of each kind says what it was made of; of a refusal, what is returned with its cause, or 0
pub record LinesTell : Type 0 where
  pub booked : (new lapsed new' lapsed' : ℕ) → new < 2 ^ 64 → lapsed < 2 ^ 64 → new' < 2 ^ 64 → lapsed' < 2 ^ 64 → booked_line new lapsed ≡ booked_line new' lapsed' → (new ≡ new') × (lapsed ≡ lapsed')
  pub group : (sign sign' : ℕ) (group group' : Group) → 32 < sign → 32 < sign' → Masks group → Masks group' → group_line sign group ≡ group_line sign' group' → (sign ≡ sign') × (group ≡ group')
  pub refused : (layer layer' : Layer) (cause cause' : Cause) → Told cause → Told cause' → refused_line layer cause ≡ refused_line layer' cause' → (layer ≡ layer') × (cause.number ≡ cause'.number) × (unwrap_or cause.value 0 ≡ unwrap_or cause'.value 0)
