use Rattle.std.proofs.Common.{◌≡◌, ℕ, length, sym, subst, arith}
use Rattle.difference.specs.Changes.{Sofar}
use Rattle.difference.specs.Places.{Held}
use Rattle.difference.proofs.Holds.{reheld}
use Rattle.difference.proofs.Newness.{new_sofar, sofar_new}
use Rattle.difference.proofs.comparison.Comparison.gather.Goals as goal

pub loop-v-init : goal.loop-v-init
loop-v-init c =
    let bs = c.args.self.rows.before.now in
    let e : c.loop-u.u ≡ length bs = omega arith in (
      subst (λ (u : ℕ). Held (Sofar bs c.args.self.rows.after.now (length c.args.self.columns.before.now) u 0) c.loop-u.table 0 c.loop-u.end) e c.loop-u.invariant.0,
      c.loop-u.invariant.1,
    )

pub returns : goal.returns
returns c =
    let bs = c.args.self.rows.before.now in
    let rs = c.args.self.rows.after.now in
    let D = length c.args.self.columns.before.now in
    let e : c.loop-v.v ≡ D = omega arith in
    let h = subst (λ (v : ℕ). Held (Sofar bs rs D (length bs) v) c.loop-v.table 0 c.loop-v.end) e c.loop-v.invariant.0 in (
      (λ i l. absurd (omega arith)),
      (
        reheld h (sofar_new bs rs D (sym c.args.self.plans.same) (length bs) D)
            (λ g n. subst (λ (k : ℕ). Sofar bs rs D k D g) c.args.self.plans.same (new_sofar bs rs D (sym c.args.self.plans.same) g n)),
        omega (arith, c.loop-v.invariant.1),
      ),
    )
