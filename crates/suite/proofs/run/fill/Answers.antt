use Rattle.std.proofs.Common.{get_or, ap, ◌∙◌}
use Rattle.pairs.specs.Orders.{change_before}
use Rattle.table.specs.Sets.{all_entered}
use Rattle.batch.specs.Changes.{capacity_of, put_answer}
use Rattle.batch.specs.Drafts.{changes, memory_of}
use Rattle.ledger.specs.Calls.{puts_fault}
use Rattle.suite.proofs.Fills.{same_capacity, puts_more, entered_more}
use Rattle.suite.proofs.Turns.{blank}
use Rattle.suite.proofs.run.fill.Goals as goal

pub loop-change-preserved : goal.loop-change-preserved
loop-change-preserved c =
    let d = c.loop-change.draft in
    let d₀ = c.args.draft.now in
    let e = c.put.new.self in
    let list = c.args.list.now in
    let i = c.loop-change.change-index in
    let h = c.loop-change-test.true in
    let inv = c.loop-change.invariant in
    let x = get_or list i blank in
    let f = c.in_ok-put.ensures in (
      same_capacity (changes d) (changes e) (memory_of d) (memory_of e) x f.answer f.changes f.memory ∙ inv.0,
      puts_more (capacity_of (memory_of d₀)) list (changes d) i h (changes e) (puts_fault (capacity_of (memory_of d₀)) (changes d₀) list) (f.answer ∙ ap (λ z. put_answer (changes d) z x) inv.0) f.changes inv.1,
      entered_more (capacity_of (memory_of d₀)) list (changes d) i h (changes e) (all_entered change_before list (changes d₀)) f.changes inv.2,
    )
