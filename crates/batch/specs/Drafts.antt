-- What drafts and closed batches mean.
use Rattle.std.specs.Prelude.{List, take}
use Rattle.pairs.specs.declared.change.Change.{Change}
use Rattle.batch.specs.declared.lent.Rows.{Rows}
use Rattle.batch.specs.declared.lent.Draft.{Draft}
use Rattle.batch.specs.declared.lent.Closed.{Closed}

-- the rows in use
abbrev pub used : Rows → List Change
used r = take r.count r.memory.now

-- the changes, ascending
abbrev pub changes : Draft → List Change
changes d = used d.rows

-- the whole memory that was lent
abbrev pub memory_of : Draft → List Change
memory_of d = d.rows.memory.now

abbrev pub closed_changes : Closed → List Change
closed_changes b = used b.rows

abbrev pub closed_memory : Closed → List Change
closed_memory b = b.rows.memory.now
