-- The kinds of bodies and the letters of their entries, and what a layout says of each.
use Rattle.std.specs.Prelude.{ℕ, ◌+◌, cond, Option, Some, None, ◌==◌}
use Rattle.weekly.specs.declared.kind.Kind.{Kind}
use Rattle.weekly.specs.declared.kind.Kind.TheVariants.{Added, Note, Removed}
use Rattle.weekly.specs.Places.{Places}

abbrev pub letter_of : Kind → ℕ
letter_of Added = 0x41
letter_of Note = 0x4E
letter_of Removed = 0x52

abbrev pub kind_of : ℕ → Option Kind
kind_of letter = cond (letter == 0x41) (Some Added) (cond (letter == 0x4E) (Some Note) (cond (letter == 0x52) (Some Removed) None))

-- the letter of the last entry, 0 before the first
abbrev pub last_letter : Option Kind → ℕ
last_letter None = 0
last_letter (Some kind) = letter_of kind

-- the length of the body of a kind, and where it starts
abbrev pub len_of : Places → Kind → ℕ
len_of g Added = g.added
len_of g Note = g.note
len_of g Removed = g.removed

abbrev pub start_of : Places → Kind → ℕ
start_of g Added = g.first
start_of g Note = g.first + g.added
start_of g Removed = g.first + g.added + g.note
