-- The lines of the listing.
use Rattle.std.specs.Prelude.{ℕ, List, [], ◌∷◌, ◌++◌, codes, decimal}
use Rattle.std.specs.Option.{unwrap_or}
use Rattle.faults.specs.declared.cause.Cause.{Cause}
use Rattle.faults.specs.declared.intake.Layer.{Layer}
use Rattle.faults.specs.declared.intake.Layer.TheVariants.{File, Draft, Suite}
use Rattle.groups.specs.declared.group.Group.{Group}
use Rattle.listing.specs.Digits.{hexadecimal}

-- further fields, each after one space, and byte 10 at the end
abbrev pub further : List (List ℕ) → List ℕ
further [] = 10 ∷ []
further (f ∷ fs) = 32 ∷ (f ++ further fs)

-- a line is a word, and its further fields
abbrev pub line_of : List ℕ → List (List ℕ) → List ℕ
line_of word fs = word ++ further fs

-- a booked file: the counts of new and of lapsed groups
abbrev pub booked_line : ℕ → ℕ → List ℕ
booked_line new lapsed = line_of (codes "ok") (decimal new ∷ decimal lapsed ∷ [])

-- a group under a sign: its keys and its doors
abbrev pub group_line : ℕ → Group → List ℕ
group_line sign group = line_of (sign ∷ []) (hexadecimal group.keys ∷ hexadecimal group.doors ∷ [])

-- `-` and the group
abbrev pub lapsed_group_line : Group → List ℕ
lapsed_group_line group = group_line 45 group

-- `+` and the group
abbrev pub new_group_line : Group → List ℕ
new_group_line group = group_line 43 group

-- a layer is told by its word
abbrev pub word_of_layer : Layer → List ℕ
word_of_layer File = codes "file"
word_of_layer Draft = codes "draft"
word_of_layer Suite = codes "suite"

-- a refused file: the layer, the number of the cause, and what is returned with it, or 0 where nothing is
abbrev pub refused_line : Layer → Cause → List ℕ
refused_line layer cause = line_of (codes "no") (word_of_layer layer ∷ decimal cause.number ∷ decimal (unwrap_or cause.value 0) ∷ [])

-- a size that is missing or bad
abbrev pub size_line : List ℕ
size_line = line_of (codes "size") []

-- an input that ends inside a length or a file, or a length that is too large
abbrev pub cut_line : List ℕ
cut_line = line_of (codes "cut") []
