-- The bodies of a file as parts of it.
use Rattle.std.specs.Prelude.{◌≡◌, ℕ, List, length}
use Rattle.weekly.specs.declared.judge.Parts.{Parts}
use Rattle.weekly.specs.Places.{Places}
use Rattle.weekly.specs.Head.{Sized}
use Rattle.weekly.specs.Body.{added_bytes, note_bytes, removed_bytes}

-- the layout of the parts
abbrev pub laid_out : Parts → Places
laid_out p = record { first = p.first; added = length p.added.now; note = length p.note.now; removed = length p.removed.now }

-- the file ends with the last of the parts, and they are what their layout says
pub record PartsOf (f : List ℕ) (p : Parts) : Type 0 where
  pub sized : Sized (length f) (laid_out p)
  pub added : p.added.now ≡ added_bytes f (laid_out p)
  pub note : p.note.now ≡ note_bytes f (laid_out p)
  pub removed : p.removed.now ≡ removed_bytes f (laid_out p)
