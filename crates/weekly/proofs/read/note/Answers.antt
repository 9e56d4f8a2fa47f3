use Rattle.std.proofs.Common.{sym, ◌∙◌}
use Rattle.weekly.specs.Parts.{laid_out}
use Rattle.weekly.proofs.Takes.{note_is, note_none}
use Rattle.weekly.proofs.read.note.Goals as goal

pub returns-in-Ok : goal.returns-in-Ok
returns-in-Ok c = c.in-Ok.ensures.parts.note ∙ sym (note_is c.args.file.now (laid_out c.in-Ok.parts) (sym c.in-Ok.ensures.is))

pub returns-in-Err : goal.returns-in-Err
returns-in-Err c = sym (note_none c.args.file.now _ (sym c.in-Err.ensures.is))
