use Rattle.std.proofs.Common.{ℕ, List, sym, ap, ◌∙◌, arith}
use Rattle.weekly.specs.Body.{added_bytes}
use Rattle.weekly.specs.Marks.{merged}
use Rattle.weekly.specs.Parts.{laid_out}
use Rattle.weekly.proofs.Answered.{read_narrow, read_taken}
use Rattle.weekly.proofs.Takes.{changes_are, part_takes}
use Rattle.weekly.proofs.read.read.Goals as goal

pub returns-then-capacity-count-clause-answer : goal.returns-then-capacity-count-clause-answer
returns-then-capacity-count-clause-answer c =
    read_narrow _ _ _ _ (laid_out c.in_ok-parts.parts) (omega arith) c.in_ok-parts.ensures.is (omega arith) c.capacity-capacity.ensures

pub take_in-requires-clause-fits : goal.take_in-requires-clause-fits
take_in-requires-clause-fits c =
    let o = c.in_ok-parts.ensures.parts in
    part_takes c.args.file.now (laid_out c.in_ok-parts.parts) _ _ _ (sym c.in_ok-parts.ensures.is) o.sized o.added o.removed (omega arith)

pub returns-clause-answer : goal.returns-clause-answer
returns-clause-answer c = read_taken _ _ _ _ (laid_out c.in_ok-parts.parts) (omega arith) c.in_ok-parts.ensures.is (omega arith) c.note_place.ensures

pub returns-clause-changes : goal.returns-clause-changes
returns-clause-changes c =
    let o = c.in_ok-parts.ensures.parts in
    let g = laid_out c.in_ok-parts.parts in
    c.take_in.ensures.changes ∙ (ap (λ (z : List ℕ). merged z c.in_ok-parts.parts.removed.now) o.added
    ∙ (ap (λ (z : List ℕ). merged (added_bytes c.args.file.now g) z) o.removed ∙ sym (changes_are c.args.file.now g (sym c.in_ok-parts.ensures.is))))
