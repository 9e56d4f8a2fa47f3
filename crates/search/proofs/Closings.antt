-- The keys that open all of some doors, and those that open one, read from the columns.
use Rattle.std.proofs.Common.{ℕ, ◌-◌, ◌^◌, ◌<◌, List, get_or, arith}
use Rattle.masks.specs.Masks.{Has, Within}
use Rattle.masks.proofs.Bitlaws.{below_has, full_has}
use Rattle.groups.specs.Plans.{Opens}
use Rattle.search.specs.Nodes.{Closes, Reads}

module _ {rows cols : List ℕ} {D n c s : ℕ} (reads : Reads rows cols D) (below : (d : ℕ) → Has n d → d < D) (closes : Closes cols n c s) where
  pub all_below : (k : ℕ) → Has c k → k < 64
  all_below k h = below_has 64 (2 ^ 64 - 1) k (omega arith) (closes.whole.before k h)

  pub all_open : (k d : ℕ) → Has c k → Has n d → Opens rows k d
  all_open k d h w = reads.from k d (below d w) (closes.whole.in_all k d h w)

  pub all_keys : (k : ℕ) → k < 64 → Within n (get_or rows k 0) → Has c k
  all_keys k l w = closes.whole.all k (full_has 64 k l) (λ d h. reads.to k d (below d h) (w d h))

  pub some_from : (k : ℕ) → Has s k → (d : ℕ) × Has n d × Opens rows k d
  some_from k h = let q = closes.some.from k h in (q.0, q.1, reads.from k q.0 (below q.0 q.1) q.2)

  pub some_to : (k d : ℕ) → Has n d → Opens rows k d → Has s k
  some_to k d h o = closes.some.to k d h (reads.to k d (below d h) o)
