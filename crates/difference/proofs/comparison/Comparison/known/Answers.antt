use Rattle.std.proofs.Common.{Bool, true, false, length, MatchBool, inr, ⊎_elim, arith}
use Rattle.masks.proofs.Bitlaws.{below_has}
use Rattle.difference.proofs.Families.{column_to, column_from}
use Rattle.difference.proofs.comparison.Comparison.known.Goals as goal

either : (b : Bool) (P Q R S : Type 0) → MatchBool b P Q → (P → R) → (Q → S) → MatchBool b R S
either true P Q R S h f g = f h
either false P Q R S h f g = g h

pub touched_by_door-requires-clause-within : goal.touched_by_door-requires-clause-within
touched_by_door-requires-clause-within c = λ d h. below_has (length c.args.self.columns.before.now) c.args.g.doors d c.requires.group.doors_below h

pub returns-else-touched_by_key : goal.returns-else-touched_by_key
returns-else-touched_by_key c =
    let bs = c.args.self.rows.before.now in
    let rs = c.args.self.rows.after.now in
    let bc = c.args.self.columns.before.now in
    let ac = c.args.self.columns.after.now in
    let D = length bc in
    let g = c.args.g in
    let below = c.requires.group.doors_below in
    either c.touched_by_door.result _ _ _ _ c.touched_by_door.ensures
    (λ a. inr (a.0, a.1, column_to bs rs bc ac D a.0 c.args.self.plans.same c.args.self.plans.before_turned c.args.self.plans.after_turned (let l = a.1 in omega arith) g below a.2))
    (λ none t. ⊎_elim (λ a. c.if-touched_by_key.ensures a)
    (λ a. none (a.0, a.1, column_from bs rs bc ac D a.0 c.args.self.plans.same c.args.self.plans.before_turned c.args.self.plans.after_turned (let l = a.1 in omega arith) g below a.2)) t)
