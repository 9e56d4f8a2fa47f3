-- The columns of a plan, copied into the first places of a slice.
use Rattle.std.proofs.Common.{◌≡◌, ℕ, ◌<◌, ◌≤◌, min, List, ◌++◌, length, take, drop, sym, ap, ◌∙◌, ⊎_elim, arith}
use Rattle.std.proofs.lemmas.List.{drop_all}
use Rattle.std.proofs.lemmas.Bool.{cases_lt}
use Rattle.groups.specs.Lists.{columns}
use Rattle.search.specs.Parts.{turned_into}

drop_min : (xs : List ℕ) → drop (min (length xs) 64) xs ≡ drop 64 xs
drop_min xs =
    ⊎_elim (λ (l : length xs < 64). drop_all (min (length xs) 64) xs (omega arith) ∙ sym (drop_all 64 xs (omega arith)))
    (λ (l : 64 ≤ length xs). ap (λ (n : ℕ). drop n xs) (let e : min (length xs) 64 ≡ 64 = omega arith in e)) (cases_lt (length xs) 64)

pub columns_copied : (rows into front : List ℕ) (n : ℕ) → n ≡ min (length into) 64 → front ≡ columns (take 64 rows) n → front ++ drop n into ≡ turned_into rows into
unfolding turned_into
columns_copied rows into front n is e =
    ap (λ (z : List ℕ). z ++ drop n into) e ∙ ap (λ (m : ℕ). columns (take 64 rows) m ++ drop m into) is
    ∙ ap (λ (z : List ℕ). columns (take 64 rows) (min (length into) 64) ++ z) (drop_min into)
