-- Two plans by their tables.
use Rattle.std.proofs.Common.{◌≡◌, ℕ, List, length, sym, ap, ◌∙◌, subst, arith}
use Rattle.groups.specs.Lists.{columns}
use Rattle.groups.specs.Plans.{Turned}
use Rattle.groups.proofs.Turns.{columns_turned}
use Rattle.search.specs.declared.tables.Tables.{Tables}
use Rattle.search.specs.Plans.{plan_doors, plan_rows}
use Rattle.search.proofs.Made.{rows_long}
use Rattle.difference.specs.Changes.{Compared}

-- rows and columns, as they are read from the tables
module _ (t : Tables) (rows cols : List ℕ) (r : rows ≡ plan_rows t) (c : cols ≡ columns (plan_rows t) (plan_doors t)) where
  pub columns_long : length cols ≡ plan_doors t
  columns_long = ap length c ∙ (columns_turned (plan_rows t) (plan_doors t)).long

  pub read_turned : Turned rows cols (plan_doors t)
  read_turned =
      subst (λ (z : List ℕ). Turned rows z (plan_doors t)) (sym c)
      (subst (λ (z : List ℕ). Turned z (columns (plan_rows t) (plan_doors t)) (plan_doors t)) (sym r) (columns_turned (plan_rows t) (plan_doors t)))

module _ (b a : Tables) (br bc ar ac : List ℕ) (rb : br ≡ plan_rows b) (cb : bc ≡ columns (plan_rows b) (plan_doors b))
    (ra : ar ≡ plan_rows a) (ca : ac ≡ columns (plan_rows a) (plan_doors a)) (keys : length (plan_rows a) ≡ length (plan_rows b)) (doors : plan_doors a ≡ plan_doors b) where
  pub compared : Compared br bc ar ac
  compared =
      let D = columns_long b br bc rb cb in
      record {
        few = omega (arith, ap length rb, rows_long b, b.few_keys);
        same = ap length ra ∙ keys ∙ sym (ap length rb);
        doors = omega (arith, D, b.few_doors);
        before_turned = subst (Turned br bc) (sym D) (read_turned b br bc rb cb);
        after_turned = subst (Turned ar ac) (doors ∙ sym D) (read_turned a ar ac ra ca);
      }
