use Rattle.std.proofs.Common.{◌≡◌, ℕ, ◌≤◌, min, List, length, get_or, take, ap, ◌∙◌, arith}
use Rattle.search.proofs.Columns.{padded_front, padded_length, padded_past}
use Rattle.search.proofs.Made.{agreeing}
use Rattle.search.proofs.Transposes.{columns_past}
use Rattle.search.proofs.tables.Tables.new.Goals as goal
use Rattle.search.proofs.tables.Tables.new.Goals.{After-transposed-columns}

keys_are : (c : After-transposed-columns) → c.min-keys.result ≡ min (length c.args.rows.now) 64
keys_are c = omega arith

ends : (c : After-transposed-columns) → (k : ℕ) → c.min-keys.result ≤ k → get_or c.padded-rows.result k 0 ≡ 0
ends c k l = ap (λ (r : List ℕ). get_or r k 0) c.padded-rows.ensures ∙ padded_past c.args.rows.now c.min-keys.result (keys_are c) k l

pub invariant_of-result : goal.invariant_of-result
invariant_of-result c =
    let t = c.transposed-columns.ensures in
    record {
      few_keys = omega arith;
      few_doors = omega arith;
      tall = ap length c.padded-rows.ensures ∙ padded_length c.args.rows.now;
      wide = t.long;
      rows_end = ends c;
      columns_end = columns_past (ends c) t;
      agree = agreeing (ends c) t;
    }

pub returns : goal.returns
returns c =
    record {
      rows =
          ap (take c.min-keys.result) c.padded-rows.ensures
          ∙ padded_front c.args.rows.now c.min-keys.result (let e : c.min-keys.result ≡ min (length c.args.rows.now) 64 = omega arith in e);
      doors = omega arith;
    }
