use Rattle.std.proofs.Common.{ℕ, ◌*◌, ◌%◌, ◌^◌, ◌==◌, bit_or, cond, ap, ◌∙◌, arith, rules}
use Rattle.std.proofs.lemmas.Iterator.{YieldsList-from_slice}
use Rattle.std.proofs.lemmas.Iterator.Consumers.{fold_from_yields_List}
use Rattle.plans.specs.Pairs.{keys_in}
use Rattle.plans.specs.Lents.{lent_keys, lent_doors, lent_pairs}
use Rattle.plans.proofs.Gathers.{serves_all}
use Rattle.plans.proofs.Listed.{inside_at, lies_wide, keys_gathered, keys_column}
use Rattle.plans.proofs.pair_plan.PairPlanReadPlan.keys_of.Goals as goal

pub fold-requires-clause-callable : goal.fold-requires-clause-callable
fold-requires-clause-callable c =
    let p = c.args.self.now in
    serves_all (YieldsList-from_slice (lent_pairs p) (cc))
    (λ x q k l m r. omega (arith, ap (λ z. z.key) m, (inside_at 64 64 (lent_pairs p) k x.now l (lies_wide p)).0))

pub returns : goal.returns
returns c =
    let p = c.args.self.now in
    let ps = lent_pairs p in
    fold_from_yields_List _ (λ m q. cond (q.door == c.from-door.result) (bit_or m ((1 * 2 ^ q.key) % 2 ^ 64)) m) 0 c.fold.result c.fold.ensures.ran (YieldsList-from_slice ps (cc)) (λ a x b q k. search rules)
    ∙ keys_gathered c.from-door.result ps (lies_wide p) ∙ ap (λ (n : ℕ). keys_in n ps) c.from-door.ensures.0
    ∙ keys_column (lent_keys p) (lent_doors p) ps p.lies p.sizes.few_keys p.sizes.few_doors c.args.door.value
