-- Where the bodies lie, as four numbers: where the first one starts, and the length of each. A `Layout` is short besides, which the
-- definitions, over all numbers, cannot show.
use Rattle.std.specs.Prelude.{ℕ}
use Rattle.weekly.specs.declared.layout.Layout.{Layout}

pub record Places : Type 0 where
  pub first : ℕ
  pub added : ℕ
  pub note : ℕ
  pub removed : ℕ

abbrev pub places_of : Layout → Places
places_of g = record { first = g.first; added = g.added; note = g.note; removed = g.removed }
