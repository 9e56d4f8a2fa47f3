use Rattle.std.proofs.Common.{length, ap, ◌∙◌, arith}
use Rattle.std.proofs.lemmas.Result.{err_from_is_err_and}
use Rattle.batch.specs.Drafts.{changes, memory_of, closed_changes}
use Rattle.weekly.proofs.Receipts.{read_whole, receipt_refused, receipt_short, receipt_taken, receipt_bytes}
use Rattle.weekly.proofs.receipt.receipt.Goals as goal

pub returns-in_err-reading-clause-answer : goal.returns-in_err-reading-clause-answer
returns-in_err-reading-clause-answer c =
    let p = err_from_is_err_and c.from_residual.result c.from_residual.ensures.1 in
    let d = c.new-draft.result in
    rw (p.1, p.2) (receipt_refused c.args.file.now _ _ (read_whole c.args.file.now (changes d) (memory_of d) _ c.new-draft.ensures.changes (ap length c.new-draft.ensures.memory) c.in_err-reading.ensures.answer))

pub returns-in_err-write-clause-answer : goal.returns-in_err-write-clause-answer
returns-in_err-write-clause-answer c =
    let p = err_from_is_err_and c.from_residual-in_err-write.result c.from_residual-in_err-write.ensures.1 in
    let d = c.new-draft.result in
    rw (p.1, p.2) (receipt_short c.args.file.now _ c.in_ok-reading.reading (λ i. omega (arith, c.type_inv.file i))
    (read_whole c.args.file.now (changes d) (memory_of d) _ c.new-draft.ensures.changes (ap length c.new-draft.ensures.memory) c.in_ok-reading.ensures.answer)
    (closed_changes c.close-batch.result) c.note.result.now (c.close-batch.ensures.changes ∙ c.in_ok-reading.ensures.changes) c.note.ensures _ c.in_err-write.ensures.answer)

pub returns : goal.returns
returns c =
    let d = c.new-draft.result in
    let read = read_whole c.args.file.now (changes d) (memory_of d) _ c.new-draft.ensures.changes (ap length c.new-draft.ensures.memory) c.in_ok-reading.ensures.answer in
    let batch = c.close-batch.ensures.changes ∙ c.in_ok-reading.ensures.changes in
    record {
      answer = receipt_taken c.args.file.now _ c.in_ok-reading.reading (λ i. omega (arith, c.type_inv.file i)) read (closed_changes c.close-batch.result) c.note.result.now batch c.note.ensures _ c.in_ok-write.ensures.answer;
      after = receipt_bytes c.args.file.now 0 c.in_ok-reading.reading (λ i. omega (arith, c.type_inv.file i)) read (closed_changes c.close-batch.result) c.note.result.now batch c.note.ensures c.args.out.now _ c.in_ok-write.ensures.after;
    }
