-- What a table plan means, and that it is sound.
use Rattle.std.specs.Prelude.{ℕ, ◌-◌, ◌*◌, ◌^◌, ◌<◌, ◌≤◌, List, take, slice_index}
use Rattle.std.proofs.Common.{sym, subst, ⊎_elim, arith, pow_pos}
use Rattle.std.proofs.lemmas.Nat.{mul-le}
use Rattle.std.proofs.lemmas.List.{get_or-take, get_or_past, length-take}
use Rattle.std.proofs.lemmas.Bool.{cases_lt}
use Rattle.plans.specs.declared.makes.TablePlan.{TablePlan}
use Rattle.plans.specs.Meaning.{Sound, pairs_in}

abbrev pub table_keys : TablePlan → ℕ
table_keys p = p.sizes.keys

abbrev pub table_doors : TablePlan → ℕ
table_doors p = p.sizes.doors

-- of the 64 rows those of the plan's keys
abbrev pub table_rows : TablePlan → List ℕ
table_rows p = take p.sizes.keys p.rows

-- a place for each pair of a key and a door that does not stand
abbrev pub table_spare : TablePlan → ℕ
table_spare p = p.sizes.keys * p.sizes.doors - pairs_in (table_rows p)

front_below : (rows : List ℕ) (keys doors : ℕ) → ((k : ℕ) → slice_index rows k < 2 ^ doors) → (k : ℕ) → slice_index (take keys rows) k < 2 ^ doors
front_below rows keys doors b k = ⊎_elim
    (λ (h : k < keys). subst (λ (v : ℕ). v < 2 ^ doors) (sym (get_or-take keys rows k 0 h)) (b k))
    (λ (h : keys ≤ k). subst (λ (v : ℕ). v < 2 ^ doors) (sym (get_or_past (take keys rows) k 0 (omega (arith, length-take keys rows)))) (pow_pos doors))
    (cases_lt k keys)

pub table_sound : (p : TablePlan) → Sound (table_keys p) (table_doors p) (table_rows p)
table_sound p =
    let s = p.sizes in
    record {
      some_key = s.some_key;
      few_keys = s.few_keys;
      some_door = s.some_door;
      few_doors = s.few_doors;
      long = omega (arith, length-take s.keys p.rows, p.tall, s.few_keys);
      below = front_below p.rows s.keys s.doors p.doors_below;
    }

pub table_few : (p : TablePlan) → table_spare p ≤ 4096
table_few p = let s = p.sizes in omega (arith, mul-le s.keys s.doors 64 64 s.few_keys s.few_doors)
