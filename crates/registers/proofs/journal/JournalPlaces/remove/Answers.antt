use Rattle.std.proofs.Common.{List, refl, ap, ◌∙◌, arith}
use Rattle.groups.specs.declared.group.Group.{Group}
use Rattle.table.specs.Rows.{without_row}
use Rattle.registers.proofs.Lines.{found, note_struck}
use Rattle.registers.proofs.journal.JournalPlaces.remove.Goals as goal

pub take_out-requires : goal.take_out-requires
take_out-requires c =
    let j = c.args.self.now in
    let r = c.requires.room refl in
    let k = c.write.auto.rows in
    ((found j c.args.«record» c.args.at c.requires.place).0, omega (arith, j.short))

pub invariant_of-self : goal.invariant_of-self
invariant_of-self c =
    let w = note_struck c.args.self.now c.take_out.new.rows (c.take_out.auto.rows ∙ c.write.auto.rows) (c.requires.room refl) c.args.«record» c.args.at c.requires.place (c.take_out.ensures.calls ∙ c.write.ensures.calls) (c.take_out.ensures.column ∙ ap (λ (z : List Group). without_row z c.args.self.now.count c.args.at) c.write.ensures.column) in
    record { within = w.within; few = w.few; short = w.short; agrees = w.agrees; sound = w.sound }

pub returns-clause-held : goal.returns-clause-held
returns-clause-held c =
    let w = note_struck c.args.self.now c.take_out.new.rows (c.take_out.auto.rows ∙ c.write.auto.rows) (c.requires.room refl) c.args.«record» c.args.at c.requires.place (c.take_out.ensures.calls ∙ c.write.ensures.calls) (c.take_out.ensures.column ∙ ap (λ (z : List Group). without_row z c.args.self.now.count c.args.at) c.write.ensures.column) in
    w.held_after
