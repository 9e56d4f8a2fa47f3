-- The plan that tables hold.
use Rattle.std.specs.Prelude.{ℕ, List, take}
use Rattle.search.specs.declared.tables.Tables.{Tables}

-- its rows, one for each key: the set of the doors that the key opens
abbrev pub plan_rows : Tables → List ℕ
plan_rows t = take t.keys t.rows

-- the number of its doors
abbrev pub plan_doors : Tables → ℕ
plan_doors t = t.doors
