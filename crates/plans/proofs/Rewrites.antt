-- A pair plan in whose memory one pair more or one less is written.
use Rattle.std.proofs.Common.{◌≡◌, ℕ, ◌+◌, ◌-◌, ◌<◌, ◌≤◌, Bool, true, false, cond, ◌&&◌, ltb, leb, List, length, take, is_ok, Ok, Err, Result, sym, refl, ap, ◌∙◌, arith}
use Rattle.std.proofs.lemmas.Bool.{and_from, le-leb, lt-ltb}
use Rattle.pairs.specs.declared.pair.Pair.{Pair}
use Rattle.pairs.specs.Orders.{pair_before}
use Rattle.pairs.specs.Chains.{pair_chain}
use Rattle.table.specs.Rows.{Ascends}
use Rattle.table.specs.Sets.{has, rank, placed, entered, struck}
use Rattle.table.proofs.Ups.{ascends_up}
use Rattle.table.proofs.Places.{placed_goes, placed_found}
use Rattle.groups.specs.Lists.{addition, removal, permitted, withdrawn}
use Rattle.plans.specs.declared.makes.PairPlan.{PairPlan}
use Rattle.plans.specs.Meaning.{inside, stands}
use Rattle.plans.specs.Pairs.{rows_of, all_inside}
use Rattle.plans.specs.Lents.{lent_keys, lent_doors, lent_pairs, lent_rows, lent_spare}
use Rattle.plans.proofs.Columns.{inside_parts}
use Rattle.plans.proofs.Listed.{irr, total, inside_entered, inside_struck, rows_entered, rows_struck, stands_listed}

-- what is found stands
placed_ok : (b : Bool) (r : ℕ) → is_ok {E = ℕ} (cond b (Ok r) (Err r)) ≡ b
placed_ok true r = refl
placed_ok false r = refl

pub found_stands : (p : PairPlan) (q : Pair) (r : Result ℕ ℕ) → r ≡ placed pair_before q (lent_pairs p) → is_ok r ≡ stands (lent_rows p) q.key q.door
found_stands p q r e = ap (λ (z : Result ℕ ℕ). is_ok z) e ∙ placed_ok (has pair_before q (lent_pairs p)) (rank pair_before q (lent_pairs p))
    ∙ sym (stands_listed (lent_keys p) (lent_doors p) (lent_pairs p) p.lies q.key q.door)

-- the facts of the type for another memory and count, at the same sizes
pub record Written (p : PairPlan) (ys : List Pair) (n : ℕ) (after : List ℕ) : Type 0 where
  pub within : n ≤ length ys
  pub few : n ≤ 4096
  pub ascends : Ascends pair_before ys n
  pub lies : all_inside (lent_keys p) (lent_doors p) (take n ys) ≡ true
  pub rows_after : rows_of (lent_keys p) (lent_doors p) (take n ys) ≡ after

module _ (p : PairPlan) (q : Pair) (ok : inside (lent_keys p) (lent_doors p) q.key q.door ≡ true) (at : ℕ) (ys : List Pair) (r : Bool)
    (long : length ys ≡ length p.memory.now) where
  pub put_in : 0 < lent_spare p → placed pair_before q (lent_pairs p) ≡ Err at → r ≡ (leb at p.count && ltb p.count (length p.memory.now))
      → (r ≡ true → Ascends pair_before p.memory.now p.count → placed pair_before q (lent_pairs p) ≡ Err at → Ascends pair_before ys (p.count + 1))
      → (r ≡ true → Ascends pair_before p.memory.now p.count → placed pair_before q (lent_pairs p) ≡ Err at → take (p.count + 1) ys ≡ entered pair_before q (lent_pairs p))
      → Written p ys (p.count + 1) (permitted (addition q.key q.door) (lent_rows p))
  put_in room place test asc ent =
      let w = p.within in
      let i = inside_parts (lent_keys p) (lent_doors p) q.key q.door ok in
      let g : at ≤ p.count = (placed_goes pair_before irr pair_chain p.memory.now p.count q p.within p.ascends at place).0 in
      let t : r ≡ true = test ∙ and_from _ _ (le-leb at p.count g) (lt-ltb p.count (length p.memory.now) (omega arith)) in
      let e = ent t p.ascends place in
      record {
        within = omega arith;
        few = omega arith;
        ascends = asc t p.ascends place;
        lies = ap (all_inside (lent_keys p) (lent_doors p)) e ∙ inside_entered (lent_keys p) (lent_doors p) q (lent_pairs p) ok p.lies;
        rows_after = ap (rows_of (lent_keys p) (lent_doors p)) e ∙ rows_entered (lent_keys p) (lent_doors p) q (lent_pairs p) i.0 i.1;
      }

  module _ (place : placed pair_before q (lent_pairs p) ≡ Ok at) where
    pub place_below : at < p.count
    place_below = (placed_found pair_before irr pair_chain total p.memory.now p.count q p.within p.ascends at place).0

    pub take_away : r ≡ (ltb at p.count && leb p.count (length p.memory.now))
        → (r ≡ true → Ascends pair_before p.memory.now p.count → Ascends pair_before ys (p.count - 1))
        → ((x : Pair) → r ≡ true → Ascends pair_before p.memory.now p.count → placed pair_before x (lent_pairs p) ≡ Ok at → take (p.count - 1) ys ≡ struck pair_before x (lent_pairs p))
        → Written p ys (p.count - 1) (withdrawn (removal q.key q.door) (lent_rows p))
    take_away test asc str =
        let w = p.within in
        let f = p.few in
        let i = inside_parts (lent_keys p) (lent_doors p) q.key q.door ok in
        let g : at < p.count = place_below in
        let t : r ≡ true = test ∙ and_from _ _ (lt-ltb at p.count g) (le-leb p.count (length p.memory.now) w) in
        let e = str q t p.ascends place in
        record {
          within = omega arith;
          few = omega arith;
          ascends = asc t p.ascends;
          lies = ap (all_inside (lent_keys p) (lent_doors p)) e ∙ inside_struck (lent_keys p) (lent_doors p) q (lent_pairs p) p.lies;
          rows_after = ap (rows_of (lent_keys p) (lent_doors p)) e ∙ rows_struck (lent_keys p) (lent_doors p) q (lent_pairs p) i.0 (ascends_up pair_before pair_chain p.memory.now p.count w p.ascends);
        }
