use Rattle.batch.specs.Drafts.{changes, memory_of}
use Rattle.weekly.proofs.Puts.{first_fits, second_fits, both_in, both_memory}
use Rattle.weekly.proofs.read.take_in.Goals as goal

pub put_all-requires : goal.put_all-requires
put_all-requires c = first_fits c.args.added.now c.args.removed.now (changes c.args.draft.now) _ c.requires.empty c.requires.fits

pub put_all-requires-2 : goal.put_all-requires-2
put_all-requires-2 c =
    let d = c.args.draft.now in let e = c.put_all.new.draft in
    second_fits c.args.added.now c.args.removed.now (memory_of d) (memory_of e) (changes d) (changes e) c.requires.empty c.requires.fits c.put_all.ensures.changes c.put_all.ensures.memory

pub returns-clause-changes : goal.returns-clause-changes
returns-clause-changes c =
    let d = c.args.draft.now in let e = c.put_all.new.draft in
    both_in c.args.added.now c.args.removed.now (memory_of d) (memory_of e) (changes d) (changes e) c.requires.empty c.requires.fits c.put_all.ensures.changes c.put_all.ensures.memory (changes c.put_all-2.new.draft) c.put_all-2.ensures.changes

pub returns-clause-memory : goal.returns-clause-memory
returns-clause-memory c =
    let d = c.args.draft.now in let e = c.put_all.new.draft in let f = c.put_all-2.new.draft in
    both_memory c.args.added.now c.args.removed.now (memory_of d) (memory_of e) (changes d) (changes e) c.requires.empty c.requires.fits c.put_all.ensures.changes c.put_all.ensures.memory (changes f) (memory_of f) c.put_all-2.ensures.changes c.put_all-2.ensures.memory
