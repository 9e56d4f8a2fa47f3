-- Lines by their fields, and the room that a number wants.
use Rattle.std.proofs.Common.{◌≡◌, ℕ, ◌+◌, ◌^◌, ◌<◌, ◌≤◌, List, [], ◌∷◌, ◌++◌, length, codes, decimal, unwrap_or, refl, arith, length-append}
use Rattle.std.proofs.lemmas.Fmt.{length-decimal-le}
use Rattle.faults.specs.declared.cause.Cause.{Cause}
use Rattle.faults.specs.declared.intake.Layer.{Layer}
use Rattle.faults.specs.declared.intake.Layer.TheVariants.{File, Draft, Suite}
use Rattle.groups.specs.declared.group.Group.{Group}
use Rattle.listing.specs.Lines.{line_of, booked_line, group_line, word_of_layer, refused_line}
use Rattle.listing.specs.Theorems.{Told}
use Rattle.listing.proofs.Joins.{joined_length}

pub decimal_short : (n : ℕ) → n < 2 ^ 64 → length (decimal n) ≤ 20
decimal_short n fits = length-decimal-le 20 n (omega arith) (omega arith) fits

pub decimal_byte : (n : ℕ) → n < 256 → length (decimal n) ≤ 3
decimal_byte n fits = length-decimal-le 3 n (omega arith) (omega arith) (omega arith)

-- a field takes its own bytes and one for the space
pub field_length : {r : List ℕ} (s f : List ℕ) → r ≡ s ++ (32 ∷ f) → length r ≡ length s + length f + 1
field_length s f e = omega (arith, joined_length s (32 ∷ f) e)

pub layer_short : (l : Layer) → length (word_of_layer l) ≤ 5
layer_short File = omega arith
layer_short Draft = omega arith
layer_short Suite = omega arith

line_two : (w f g : List ℕ) → length (line_of w (f ∷ g ∷ [])) ≡ length w + length f + length g + 3
line_two w f g = simp length-append (omega arith)

line_three : (w f g h : List ℕ) → length (line_of w (f ∷ g ∷ h ∷ [])) ≡ length w + length f + length g + length h + 4
line_three w f g h = simp length-append (omega arith)

pub booked_short : (new lapsed : ℕ) → new < 2 ^ 64 → lapsed < 2 ^ 64 → length (booked_line new lapsed) ≤ 45
booked_short new lapsed n l = omega (arith, line_two (codes "ok") (decimal new) (decimal lapsed), decimal_short new n, decimal_short lapsed l)

pub group_short : (sign : ℕ) (group : Group) → length (group_line sign group) ≡ 36
group_short sign group = refl

pub refused_short : (layer : Layer) (cause : Cause) → Told cause → length (refused_line layer cause) ≤ 34
refused_short layer cause told =
    omega (arith, line_three (codes "no") (word_of_layer layer) (decimal cause.number) (decimal (unwrap_or cause.value 0)), layer_short layer, decimal_byte cause.number told.0, decimal_short (unwrap_or cause.value 0) told.1)
