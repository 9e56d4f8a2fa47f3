use Rattle.std.proofs.Common.{ℕ, [], ◌∷◌, subst, arith}
use Rattle.weekly.specs.Places.{places_of}
use Rattle.weekly.specs.Head.{opening_bytes}
use Rattle.weekly.specs.File.{Wrote, entry_count, added_entry, note_entry, removed_entry, head_of}
use Rattle.weekly.proofs.Pastes.{wrote_five}
use Rattle.weekly.proofs.output.Output.put_head.Goals as goal

pub returns-clause-wrote : goal.returns-clause-wrote
unfolding head_of
returns-clause-wrote c =
    let g = places_of c.args.layout in
    let s1 = c.put.new.self in let s2 = c.put-2.new.self in
    wrote_five c.args.self.now.at opening_bytes (entry_count g.added g.note g.removed ∷ []) (added_entry g) (note_entry g) (removed_entry g)
    c.args.self.now.bytes.now s1.bytes.now s2.bytes.now _ _ _ s1.at s2.at _ _ _ (omega (arith, c.requires.room)) c.put.ensures.wrote
    (subst (λ (z : ℕ). Wrote s1.at (z ∷ []) s1.bytes.now s2.bytes.now s2.at) c.entries.ensures c.put-2.ensures.wrote)
    c.put_entry.ensures.wrote c.put_entry-2.ensures.wrote c.put_entry-3.ensures.wrote
