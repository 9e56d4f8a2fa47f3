use Rattle.std.proofs.Common.{length, sym, ap, ◌∙◌}
use Rattle.std.proofs.lemmas.List.{length-take-le}
use Rattle.registers.specs.Lines.{column}
use Rattle.registers.specs.Journals.{held_beside}
use Rattle.registers.proofs.Lines.{column_within}
use Rattle.registers.proofs.journal.JournalRegister.count.Goals as goal

pub returns : goal.returns
returns c = let j = c.args.self.now in
    sym (length-take-le j.count (column j.memory.now) (column_within j)) ∙ ap length (held_beside j)
