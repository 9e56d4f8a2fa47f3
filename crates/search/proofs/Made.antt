-- What tables hold, and the plan that they mean.
use Rattle.std.proofs.Common.{◌≡◌, ℕ, ◌-◌, ◌^◌, ◌<◌, ◌≤◌, List, length, get_or, take, sym, ap, ◌∙◌, subst, ⊎_elim, arith}
use Rattle.std.proofs.lemmas.List.{get_or-take, get_or_past, ext_get_or, length-take, take_all}
use Rattle.std.proofs.lemmas.Bool.{cases_lt}
use Rattle.masks.specs.Masks.{bit, Has, has_bit}
use Rattle.masks.proofs.Bitlaws.{bit_cases, same_sets}
use Rattle.masks.proofs.Joins.{has_true, true_has}
use Rattle.groups.specs.declared.group.Group.{Group}
use Rattle.groups.specs.Lists.{groups_of, columns}
use Rattle.groups.specs.Plans.{Opens}
use Rattle.groups.proofs.Closures.{has_passing, passing_has}
use Rattle.groups.proofs.Turns.{column, column_at, columns_turned}
use Rattle.search.specs.declared.tables.Tables.{Tables}
use Rattle.search.specs.Nodes.{Transposed}
use Rattle.search.specs.Parts.{groups_between_of, groups_watched_of, ones_rows, padded_rows, scope_list}
use Rattle.search.specs.Plans.{plan_doors, plan_rows}
use Rattle.search.proofs.Columns.{padded_is}
use Rattle.search.proofs.Peels.{has_zero}
use Rattle.search.proofs.Transposes.{key_in}
use Rattle.search.proofs.Wholes.{all_scope, between_scope, watched_scope}

-- ---- what is owed of new tables
module _ {rows cols : List ℕ} {K D : ℕ} (ends : (k : ℕ) → K ≤ k → get_or rows k 0 ≡ 0) (t : Transposed rows cols K D) where
  pub agreeing : (k d : ℕ) → d < D → bit (get_or rows k 0) d ≡ bit (get_or cols d 0) k
  agreeing k d l =
      ⊎_elim (λ (h : Opens rows k d). h ∙ sym (t.to k d (key_in ends t k d h) l h))
      (λ (z : bit (get_or rows k 0) d ≡ 0).
      z ∙ sym (⊎_elim (λ (o : Opens cols d k). absurd (omega (arith, z, (t.from k d o).2))) (λ (n : bit (get_or cols d 0) k ≡ 0). n) (bit_cases (get_or cols d 0) k)))
      (bit_cases (get_or rows k 0) d)

-- ---- the plan that tables hold
module _ (t : Tables) where
  pub tables_turned : Transposed t.rows t.columns t.keys t.doors
  tables_turned =
      let below : (k d : ℕ) → Opens t.columns d k → d < t.doors = λ k d o.
      ⊎_elim (λ (l : d < t.doors). l) (λ (l : t.doors ≤ d). absurd (has_zero k (subst (λ (v : ℕ). Has v k) (t.columns_end d l) o))) (cases_lt d t.doors) in
      let opens : (k d : ℕ) → Opens t.columns d k → Opens t.rows k d = λ k d o. t.agree k d (below k d o) ∙ o in
      let there : (k d : ℕ) → Opens t.columns d k → k < t.keys = λ k d o.
      ⊎_elim (λ (l : k < t.keys). l) (λ (l : t.keys ≤ k). absurd (has_zero d (subst (λ (v : ℕ). Has v d) (t.rows_end k l) (opens k d o)))) (cases_lt k t.keys) in
      record { long = t.wide; to = λ k d lk ld o. sym (t.agree k d ld) ∙ o; from = λ k d o. (there k d o, below k d o, opens k d o) }

  pub rows_long : length (plan_rows t) ≡ t.keys
  rows_long = omega (arith, length-take t.keys t.rows, t.tall, t.few_keys)

  pub row_at : (k : ℕ) → get_or (plan_rows t) k 0 ≡ get_or t.rows k 0
  row_at k =
      ⊎_elim (λ (l : k < t.keys). get_or-take t.keys t.rows k 0 l)
      (λ (l : t.keys ≤ k). get_or_past (plan_rows t) k 0 (omega (arith, rows_long)) ∙ sym (t.rows_end k l)) (cases_lt k t.keys)

  whole_rows : t.rows ≡ padded_rows (plan_rows t)
  whole_rows = padded_is (plan_rows t) t.rows t.tall (λ k l. sym (row_at k))

  few_rows : take 64 (plan_rows t) ≡ plan_rows t
  few_rows = take_all 64 (plan_rows t) (omega (arith, rows_long, t.few_keys))

  column_is : (d : ℕ) → d < t.doors → get_or t.columns d 0 ≡ column (plan_rows t) t.doors d
  column_is d l =
      same_sets (get_or t.columns d 0) (column (plan_rows t) t.doors d)
      (λ k o. let m = tables_turned.from k d o in
      passing_has (λ i. has_bit (get_or (plan_rows t) i 0) d) (length (plan_rows t)) k (omega (arith, m.0, rows_long)) (has_true (get_or (plan_rows t) k 0) d (ap (λ (v : ℕ). bit v d) (row_at k) ∙ m.2)))
      (λ k o. let p = has_passing (λ i. has_bit (get_or (plan_rows t) i 0) d) (length (plan_rows t)) k o in
      sym (t.agree k d l) ∙ ap (λ (v : ℕ). bit v d) (sym (row_at k)) ∙ true_has (get_or (plan_rows t) k 0) d p.1)

  -- the first columns are the plan turned
  pub columns_are : take t.doors t.columns ≡ columns (plan_rows t) t.doors
  columns_are =
      ext_get_or 0 (take t.doors t.columns) (columns (plan_rows t) t.doors)
      (omega (arith, length-take t.doors t.columns, t.wide, t.few_doors, (columns_turned (plan_rows t) t.doors).long))
      (λ d l. let h : d < t.doors = omega (arith, length-take t.doors t.columns) in
      get_or-take t.doors t.columns d 0 h ∙ column_is d h ∙ sym (column_at (plan_rows t) t.doors d h))

  abbrev scope : List ℕ → ℕ → ℕ → List Group
  scope watch base off = scope_list t.rows t.doors watch base off

  wider : (watch : List ℕ) (base off : ℕ) → scope watch base off ≡ scope_list (padded_rows (plan_rows t)) t.doors watch base off
  wider watch base off = ap (λ (r : List ℕ). scope_list r t.doors watch base off) whole_rows

  pub tables_all : scope ones_rows 0 0 ≡ groups_of (plan_rows t) (plan_doors t)
  tables_all = wider ones_rows 0 0 ∙ all_scope (plan_rows t) t.doors ∙ ap (λ (r : List ℕ). groups_of r t.doors) few_rows

  pub tables_between : (base wide : ℕ) → wide < 2 ^ 64 → scope ones_rows base (2 ^ 64 - 1 - wide) ≡ groups_between_of (plan_rows t) (plan_doors t) base wide
  tables_between base wide h =
      wider ones_rows base (2 ^ 64 - 1 - wide) ∙ between_scope (plan_rows t) t.doors base wide h ∙ ap (λ (r : List ℕ). groups_between_of r t.doors base wide) few_rows

  pub tables_watched : (base : ℕ) (watch : List ℕ) → scope (padded_rows watch) base 0 ≡ groups_watched_of (plan_rows t) (plan_doors t) base watch
  tables_watched base watch =
      wider (padded_rows watch) base 0 ∙ watched_scope (plan_rows t) t.doors base watch
      ∙ ap (λ (r : List ℕ). groups_watched_of r t.doors base watch) few_rows
