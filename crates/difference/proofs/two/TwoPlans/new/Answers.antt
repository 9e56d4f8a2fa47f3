use Rattle.std.proofs.Common.{◌≡◌, ℕ, ◌-◌, ◌≤◌, List, length, take, sym, ap, ◌∙◌, arith}
use Rattle.std.proofs.lemmas.List.{length-take, take_all}
use Rattle.difference.specs.Changes.{shared_count}
use Rattle.difference.proofs.two.TwoPlans.new.Goals as goal

-- at most 64 of the first n rows are the first n, where n is at most 64
first_of : (n k : ℕ) (rows : List ℕ) → n - 0 ≡ k → k ≤ 64 → take 64 (take (n - 0) rows) ≡ take k rows
first_of n k rows e l = ap (λ (m : ℕ). take 64 (take m rows)) e ∙ shorter k rows l
  where
    shorter : (k : ℕ) (rows : List ℕ) → k ≤ 64 → take 64 (take k rows) ≡ take k rows
    shorter k rows l = take_all 64 (take k rows) (omega (arith, length-take k rows))

pub invariant_of-result : goal.invariant_of-result
invariant_of-result c =
    let b = c.args.before.now in
    let a = c.args.after.now in
    let n = c.min-keys.result - 0 in
    record {
      keys = omega (arith, ap (length {A = ℕ}) c.new.ensures.rows, ap (length {A = ℕ}) c.new-2.ensures.rows, length-take 64 (take n b), length-take 64 (take n a), length-take n b, length-take n a);
      doors = c.new-2.ensures.doors ∙ sym c.new.ensures.doors;
    }

pub returns-clause-before : goal.returns-clause-before
returns-clause-before c =
    c.new.ensures.rows ∙ first_of c.min-keys.result (shared_count c.args.before.now c.args.after.now) c.args.before.now (omega arith) (omega arith)

pub returns-clause-after : goal.returns-clause-after
returns-clause-after c =
    c.new-2.ensures.rows ∙ first_of c.min-keys.result (shared_count c.args.before.now c.args.after.now) c.args.after.now (omega arith) (omega arith)
