use Rattle.std.proofs.Common.{rules}
use Rattle.std.proofs.lemmas.List.Sorted.{answers_always}
use Rattle.batch.proofs.Searches.{pair_of, search_placed}
use Rattle.batch.proofs.lent.Rows.find.Goals as goal

-- the closure gives a row's pair, and the slice is the rows in use
pub returns : goal.returns
returns c =
    let rows = c.args.self.now in
    let facts = c.binary_search_by_key.ensures in
    let by_pair = facts.position pair_of (answers_always _ _ _ (λ f a r g called. search rules)) in
    search_placed rows.memory.now rows.count c.args.change rows.within rows.ascends _ (rw c.changes.ensures at facts.bound) (rw c.changes.ensures at by_pair)
