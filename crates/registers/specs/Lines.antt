-- What the lines of a journal leave when they are read in order. A line stands for a call: its record is entered, or struck.
-- Beside each line there is a place for one of the records that are held.
use Rattle.std.specs.Prelude.{Bool, true, false, not, ◌&&◌, List, [], ◌∷◌, map}
use Rattle.groups.specs.declared.group.Group.{Group}
use Rattle.groups.specs.Orders.{group_before}
use Rattle.table.specs.Sets.{tied, has, entered, struck}
use Rattle.registers.specs.declared.line.Call.{Call}
use Rattle.registers.specs.declared.line.Call.TheVariants.{Enter, Strike}
use Rattle.registers.specs.declared.line.Line.{Line}

abbrev pub said : Line → Call
said l = l.call

abbrev pub calls : List Line → List Call
calls ls = map said ls

-- what stands in the places beside the lines
abbrev pub beside : Line → Group
beside l = l.held

abbrev pub column : List Line → List Group
column ls = map beside ls

-- what is held after one more call
abbrev pub next : List Group → Call → List Group
next held (Enter x) = entered group_before x held
next held (Strike x) = struck group_before x held

abbrev pub left_from : List Group → List Call → List Group
left_from held [] = held
left_from held (c ∷ cs) = left_from (next held c) cs

-- what calls leave that begin with nothing held
abbrev pub left : List Call → List Group
left cs = left_from [] cs

-- the call strikes what is held, or enters what is not
abbrev pub fits : List Group → Call → Bool
fits held (Enter x) = not (has group_before x held)
fits held (Strike x) = has group_before x held

abbrev pub proper_from : List Group → List Call → Bool
proper_from held [] = true
proper_from held (c ∷ cs) = fits held c && proper_from (next held c) cs

-- each call fits what the calls before it left
abbrev pub proper : List Call → Bool
proper cs = proper_from [] cs

-- the same records in the same order
abbrev pub same_records : List Group → List Group → Bool
same_records [] [] = true
same_records [] (y ∷ ys) = false
same_records (x ∷ xs) [] = false
same_records (x ∷ xs) (y ∷ ys) = tied group_before x y && same_records xs ys
