use Rattle.std.proofs.Common.{◌≡◌, ℕ, ◌-◌, take, ap, ◌∙◌, arith}
use Rattle.search.proofs.Made.{columns_are}
use Rattle.search.proofs.tables.Tables.columns.Goals as goal

pub returns : goal.returns
returns c =
    let t = c.args.self.now in
    let e : t.doors - 0 ≡ t.doors = omega arith in
    ap (λ (n : ℕ). take n t.columns) e ∙ columns_are t
