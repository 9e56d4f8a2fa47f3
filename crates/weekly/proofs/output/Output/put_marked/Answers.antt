use Rattle.std.proofs.Common.{ℕ, ◌+◌, List, take, sym, refl, ap, ◌∙◌, subst, arith}
use Rattle.weekly.specs.Marks.{bytes_of}
use Rattle.weekly.specs.declared.output.Output.{Output}
use Rattle.weekly.specs.File.{Wrote}
use Rattle.weekly.proofs.Marked.{bytes_none, bytes_own, bytes_other, bytes_room}
use Rattle.weekly.proofs.Pastes.{wrote_none, wrote_more, wrote_length}
use Rattle.weekly.proofs.output.Output.put_marked.Goals as goal
use Rattle.weekly.proofs.output.Output.put_marked.Goals.{then-row-added, else-row-added}

pub loop-row-init : goal.loop-row-init
loop-row-init c = record {
  wrote = subst (λ (z : List ℕ). Wrote c.args.self.now.at z c.args.self.now.bytes.now c.args.self.now.bytes.now c.args.self.now.at) (sym (bytes_none c.args.added)) (wrote_none c.args.self.now.at c.args.self.now.bytes.now);
  same = refl;
}

pub put-requires : goal.put-requires
put-requires c =
    let w = c.loop-row.invariant.wrote in
    let room = bytes_room c.args.added c.args.rows.now c.loop-row.row-index _ c.loop-row-test.true c.if-row-added.true in
    let kept = wrote_length c.args.self.now.at _ c.args.self.now.bytes.now c.loop-row.self.bytes.now _ (omega (arith, room)) w in
    omega (arith, room, kept, w.after)

pub loop-row-preserved : goal.loop-row-preserved
loop-row-preserved c =
    let i = c.loop-row.invariant in
    let self = c.args.self.now in let rows = c.args.rows.now in let b = c.args.added in
    let so_far = bytes_of b (take c.loop-row.row-index rows) in
    let next = bytes_of b (take (c.loop-row.row-index + 1) rows) in
    elim c.if-row-added.branch [
      | then-row-added w ↦
          let e = bytes_own b rows c.loop-row.row-index _ c.loop-row-test.true w.if-row-added.true in
          record {
            wrote = subst (λ (z : Output). Wrote self.at next self.bytes.now z.bytes.now z.at) (sym w.self-is)
                (subst (λ (z : List ℕ). Wrote self.at z self.bytes.now w.put.new.self.bytes.now w.put.new.self.at) (sym e)
                (wrote_more self.at so_far _ self.bytes.now c.loop-row.self.bytes.now w.put.new.self.bytes.now c.loop-row.self.at w.put.new.self.at (omega (arith, bytes_room b rows c.loop-row.row-index _ c.loop-row-test.true w.if-row-added.true)) i.wrote w.put.ensures.wrote));
            same = ap (λ (z : Output). z.bytes.ghost_name) w.self-is ∙ (w.put.ensures.same ∙ i.same);
          }
      | else-row-added w ↦
          let e = bytes_other b rows c.loop-row.row-index _ c.loop-row-test.true w.if-row-added.false in
          record {
            wrote = subst (λ (z : Output). Wrote self.at next self.bytes.now z.bytes.now z.at) (sym w.self-is)
                (subst (λ (z : List ℕ). Wrote self.at z self.bytes.now c.loop-row.self.bytes.now c.loop-row.self.at) (sym e) i.wrote);
            same = ap (λ (z : Output). z.bytes.ghost_name) w.self-is ∙ i.same;
          }
    ]
