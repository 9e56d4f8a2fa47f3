use Rattle.std.proofs.Common.{◌≡◌, map}
use Rattle.pairs.specs.Orders.{change_before}
use Rattle.table.specs.Sets.{all_entered}
use Rattle.batch.specs.Changes.{capacity_of, filled}
use Rattle.batch.specs.Drafts.{changes, memory_of}
use Rattle.weekly.specs.Marks.{marked, TakenAll}
use Rattle.weekly.specs.Pairs.{pairs_of}
use Rattle.weekly.proofs.Puts.{change_of}
use Rattle.weekly.proofs.fill.put_all.Given as goal

-- the changes that are left fit, and bring the draft to what it is to hold
abbrev pub invariant-loop-key : goal.invariant-loop-key
invariant-loop-key l = record {
  fits : TakenAll (map (change_of l.added) (pairs_of l.key-iterator.0.now)) (changes l.draft) (capacity_of (memory_of l.draft));
  left : all_entered change_before (marked l.added l.body) (changes l.initial.draft) ≡ all_entered change_before (map (change_of l.added) (pairs_of l.key-iterator.0.now)) (changes l.draft);
  memory : memory_of l.draft ≡ filled (changes l.draft) (memory_of l.initial.draft);
  same : l.draft.rows.memory.ghost_name ≡ l.initial.draft.rows.memory.ghost_name;
}
