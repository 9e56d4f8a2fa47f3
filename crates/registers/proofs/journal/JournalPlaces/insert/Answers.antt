use Rattle.std.proofs.Common.{List, ap, ◌∙◌, arith}
use Rattle.groups.specs.declared.group.Group.{Group}
use Rattle.table.specs.Rows.{with_row}
use Rattle.registers.proofs.Lines.{goes, note_entered}
use Rattle.registers.proofs.journal.JournalPlaces.insert.Goals as goal

pub put-requires : goal.put-requires
put-requires c =
    let j = c.args.self.now in
    let r = c.requires.room in
    let k = c.write.auto.rows in
    ((goes j c.args.«record» c.args.at c.requires.place).0, omega (arith, j.short))

pub invariant_of-self : goal.invariant_of-self
invariant_of-self c =
    let w = note_entered c.args.self.now c.put.new.rows (c.put.auto.rows ∙ c.write.auto.rows) c.requires.room c.args.«record» c.args.at c.requires.place (c.put.ensures.calls ∙ c.write.ensures.calls) (c.put.ensures.column ∙ ap (λ (z : List Group). with_row z c.args.self.now.count c.args.at c.args.«record») c.write.ensures.column) in
    record { within = w.within; few = w.few; short = w.short; agrees = w.agrees; sound = w.sound }

pub returns-clause-held : goal.returns-clause-held
returns-clause-held c =
    let w = note_entered c.args.self.now c.put.new.rows (c.put.auto.rows ∙ c.write.auto.rows) c.requires.room c.args.«record» c.args.at c.requires.place (c.put.ensures.calls ∙ c.write.ensures.calls) (c.put.ensures.column ∙ ap (λ (z : List Group). with_row z c.args.self.now.count c.args.at c.args.«record») c.write.ensures.column) in
    w.held_after
