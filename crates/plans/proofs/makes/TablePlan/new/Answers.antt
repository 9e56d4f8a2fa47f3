use Rattle.std.proofs.Common.{sym, refl, arith}
use Rattle.plans.proofs.Cells.{none_agree, none_below, none_rows, none_counts}
use Rattle.plans.proofs.makes.TablePlan.new.Goals as goal

pub invariant_of-result : goal.invariant_of-result
invariant_of-result c =
    let s = c.args.sizes in
    record {
      tall = refl;
      wide = refl;
      agree = none_agree 64;
      doors_below = λ k. none_below 64 k s.doors;
      keys_below = λ d. none_below 64 d s.keys;
      counts = sym (none_counts 64 s.keys s.few_keys);
      fits = omega arith;
    }

pub returns : goal.returns
returns c =
    let s = c.args.sizes in
    record { sizes = refl; rows = none_rows 64 s.keys s.few_keys; spare = omega (arith, none_counts 64 s.keys s.few_keys) }
