use Rattle.std.proofs.Common.{ap, ◌∙◌}
use Rattle.groups.specs.Orders.{group_before}
use Rattle.table.specs.Sets.{placed}
use Rattle.registers.specs.Journals.{held_beside}
use Rattle.registers.proofs.Lines.{column_ascends}
use Rattle.registers.proofs.journal.JournalPlaces.find.Goals as goal

pub find-requires-clause-ascends : goal.find-requires-clause-ascends
find-requires-clause-ascends c = column_ascends c.args.self.now

pub returns : goal.returns
returns c = c.find.ensures ∙ ap (placed group_before c.args.«record») (held_beside c.args.self.now)
