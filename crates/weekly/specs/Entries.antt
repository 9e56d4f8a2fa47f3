-- The entries of the contents, as code goes over them.
use Rattle.std.specs.Prelude.{ℕ, List, [], ◌∷◌}
use Rattle.weekly.specs.declared.head.Entry.{Entry}
use Rattle.weekly.specs.Head.{two_bytes}

-- five bytes for each; what is shorter is no entry
unfoldable pub entries_of : List ℕ → List Entry
entries_of (a ∷ b ∷ c ∷ d ∷ e ∷ rest) = record { letter = a; start = two_bytes b c; len = two_bytes d e } ∷ entries_of rest
entries_of _ = []
