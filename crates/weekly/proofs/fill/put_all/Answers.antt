use Rattle.std.proofs.Common.{List, ◌∷◌, map, sym, refl, ap, ◌∙◌, subst}
use Rattle.faults.specs.Faults.{draft_cause}
use Rattle.pairs.specs.declared.change.Change.{Change}
use Rattle.pairs.specs.declared.pair.Pair.{Pair}
use Rattle.pairs.specs.Orders.{change_before}
use Rattle.table.specs.Sets.{all_entered}
use Rattle.batch.specs.Changes.{capacity_of}
use Rattle.batch.specs.Drafts.{changes, memory_of}
use Rattle.batch.proofs.Puts.{filled_same}
use Rattle.weekly.specs.Marks.{TakenAll}
use Rattle.weekly.specs.Pairs.{pairs_of}
use Rattle.weekly.specs.declared.body.Pairs.{Pairs}
use Rattle.weekly.proofs.Puts.{change_of, marked_pairs, put_fits, put_left, put_memory}
use Rattle.weekly.proofs.fill.put_all.Goals as goal

pub loop-key-init : goal.loop-key-init
loop-key-init c =
    let d = c.args.draft.now in
    let s = c.into_iter-key-iterator.ensures.into_iter_gives in
    let e = marked_pairs c.args.added c.args.body.now ∙ ap (λ (z : Pairs). map (change_of c.args.added) (pairs_of z.0.now)) (sym s) in
    record { fits = subst (λ (z : List Change). TakenAll z (changes d) (capacity_of (memory_of d))) e c.requires; left = ap (λ (z : List Change). all_entered change_before z (changes d)) e; memory = filled_same d.rows.memory.now d.rows.count d.rows.within; same = refl }

pub loop-key-preserved : goal.loop-key-preserved
loop-key-preserved c =
    let i = c.loop-key.invariant in
    let d = c.loop-key.draft in let e = c.put.new.self in
    let as_changes = map (change_of c.args.added) in
    let left = as_changes (pairs_of c.next.new.self.0.now) in
    let x = change_of c.args.added c.in-Some.field-0 in
    let s = c.in-Some.ensures.steps in
    let fits : TakenAll (x ∷ left) (changes d) (capacity_of (memory_of d)) = subst (λ (z : List Pair). TakenAll (as_changes z) (changes d) (capacity_of (memory_of d))) s i.fits in
    record {
      fits = put_fits draft_cause x left (memory_of d) (memory_of e) (changes d) (changes e) c.put.result fits c.put.ensures.answer c.put.ensures.changes c.put.ensures.memory;
      left = i.left ∙ (ap (λ (z : List Pair). all_entered change_before (as_changes z) (changes d)) s
          ∙ put_left draft_cause x left (memory_of d) (memory_of e) (changes d) (changes e) c.put.result fits c.put.ensures.answer c.put.ensures.changes c.put.ensures.memory);
      memory = put_memory draft_cause x left (memory_of d) (memory_of e) (changes d) (changes e) c.put.result fits c.put.ensures.answer c.put.ensures.changes c.put.ensures.memory (memory_of c.args.draft.now) i.memory;
      same = c.put.ensures.same ∙ i.same;
    }
