use Rattle.std.proofs.Common.{◌≡◌, ℕ, ◌-◌, ◌<◌, true, List, ◌++◌, take, drop, sym, ap, ◌∙◌, subst, arith, rules}
use Rattle.std.specs.declared.cmp.Ordering.{Ordering}
use Rattle.std.specs.Ordering.{is_lt}
use Rattle.std.proofs.lemmas.Bool.Decides.{nat_tests}
use Rattle.std.specs.List.{between}
use Rattle.std.specs.List.Sorted.{IsPermutation, IsNonDecreasingBy}
use Rattle.std.proofs.lemmas.List.{length-take, take_at}
use Rattle.groups.specs.contracts.group.GroupOrd.TheImpl as group_ord
use Rattle.groups.specs.declared.group.Group.{Group}
use Rattle.difference.proofs.Sorting.{rises_by_keys}
use Rattle.difference.proofs.writing.order.Goals as goal

abbrev compare : Group → Group → Ordering
compare = (group_ord.ghosts).cmp

fewer_keys_first : (x y : Group) → x.keys < y.keys → is_lt (compare x y) ≡ true
fewer_keys_first x y l = search (rules, nat_tests)

-- the first places
first_is : (end : ℕ) (xs : List Group) → between 0 end xs ≡ take end xs
first_is end xs = ap (λ (n : ℕ). take n xs) (let e : end - 0 ≡ end = omega arith in e)

pub returns : goal.returns
returns c =
    let T = c.args.table.now in
    let end = c.args.end in
    let ys = c.sort_unstable.new.self in
    let e : between 0 end (ys ++ drop end T) ≡ ys = first_is end (ys ++ drop end T) ∙ take_at ys (drop end T) end (omega (arith, c.sort_unstable.ensures.len, length-take end T)) in
    record {
      kept = λ i l. absurd (omega arith);
      shuffled = subst (λ (l : List Group). IsPermutation l (between 0 end (ys ++ drop end T))) (sym (first_is end T)) (subst (λ (l : List Group). IsPermutation (take end T) l) (sym e) c.sort_unstable.ensures.permutation);
      rises = subst (λ (l : List Group). IsNonDecreasingBy (λ g. g.keys) l) (sym e) (rises_by_keys compare fewer_keys_first ys c.sort_unstable.ensures.sorted);
    }
