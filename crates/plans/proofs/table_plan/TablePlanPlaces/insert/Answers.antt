use Rattle.std.proofs.Common.{◌≡◌, ℕ, ◌*◌, ◌%◌, ◌^◌, ◌<◌, get_or, ap, ◌∙◌}
use lib.Bits.{bit_or}
use Rattle.std.proofs.lemmas.Nat.{one_shl}
use Rattle.masks.specs.Masks.{joined}
use Rattle.masks.proofs.Joins.{or_joined}
use Rattle.plans.proofs.Cells.{k64, d64, put_in, not_there}
use Rattle.plans.proofs.table_plan.TablePlanPlaces.insert.Goals as goal

shifted : (x i : ℕ) → i < 64 → bit_or x ((1 * 2 ^ i) % 2 ^ 64) ≡ joined x i
shifted x i h = ap (bit_or x) (one_shl i 64 h) ∙ or_joined x i

pub invariant_of-self : goal.invariant_of-self
invariant_of-self c =
    let p = c.args.self.now in
    let k = c.args.pair.key in
    let d = c.args.pair.door in
    let w = put_in p k d c.requires.inside _ _ (shifted (get_or p.rows k 0) d (d64 p k d c.requires.inside)) (shifted (get_or p.columns d 0) k (k64 p k d c.requires.inside)) (not_there _ c.args._at c.requires.place) c.requires.room in
    record { tall = w.tall; wide = w.wide; agree = w.agree; doors_below = w.doors_below; keys_below = w.keys_below; counts = w.counts; fits = w.fits }

pub returns-clause-rows : goal.returns-clause-rows
returns-clause-rows c =
    let p = c.args.self.now in
    let k = c.args.pair.key in
    let d = c.args.pair.door in
    let w = put_in p k d c.requires.inside _ _ (shifted (get_or p.rows k 0) d (d64 p k d c.requires.inside)) (shifted (get_or p.columns d 0) k (k64 p k d c.requires.inside)) (not_there _ c.args._at c.requires.place) c.requires.room in
    w.rows_after
