-- A sorted register in whose memory one record more or one less is written.
use Rattle.std.proofs.Common.{◌≡◌, ℕ, ◌+◌, ◌-◌, ◌<◌, ◌≤◌, Bool, true, ◌&&◌, ltb, leb, List, length, take, Ok, Err, ◌∙◌, arith}
use Rattle.std.proofs.lemmas.Bool.{and_from, le-leb, lt-ltb}
use Rattle.groups.specs.declared.group.Group.{Group}
use Rattle.groups.specs.Orders.{group_before}
use Rattle.groups.proofs.Orders.{irreflexive, transitive, total}
use Rattle.table.specs.Rows.{Ascends}
use Rattle.table.specs.Sets.{placed, entered, struck}
use Rattle.table.proofs.Places.{placed_goes, placed_found}
use Rattle.registers.specs.declared.makes.SortedRegister.{SortedRegister}
use Rattle.registers.specs.Sorteds.{sorted_held, sorted_spare}

-- the facts of the type for another memory and count
pub record Written (ys : List Group) (n : ℕ) (after : List Group) : Type 0 where
  pub within : n ≤ length ys
  pub few : n ≤ 65536
  pub ascends : Ascends group_before ys n
  pub held_after : take n ys ≡ after

module _ (s : SortedRegister) (x : Group) (at : ℕ) (ys : List Group) (r : Bool) (long : length ys ≡ length s.memory.now) where
  pub put_in : 0 < sorted_spare s → placed group_before x (sorted_held s) ≡ Err at → r ≡ (leb at s.count && ltb s.count (length s.memory.now))
      → (r ≡ true → Ascends group_before s.memory.now s.count → placed group_before x (sorted_held s) ≡ Err at → Ascends group_before ys (s.count + 1))
      → (r ≡ true → Ascends group_before s.memory.now s.count → placed group_before x (sorted_held s) ≡ Err at → take (s.count + 1) ys ≡ entered group_before x (sorted_held s))
      → Written ys (s.count + 1) (entered group_before x (sorted_held s))
  put_in room place test asc ent =
      let g : at ≤ s.count = (placed_goes group_before irreflexive transitive s.memory.now s.count x s.within s.ascends at place).0 in
      let t : r ≡ true = test ∙ and_from _ _ (le-leb at s.count g) (lt-ltb s.count (length s.memory.now) (omega arith)) in
      record {
        within = omega arith;
        few = omega arith;
        ascends = asc t s.ascends place;
        held_after = ent t s.ascends place;
      }

  pub taken_away : placed group_before x (sorted_held s) ≡ Ok at → r ≡ (ltb at s.count && leb s.count (length s.memory.now))
      → ((z : Group) → r ≡ true → Ascends group_before s.memory.now s.count → placed group_before z (sorted_held s) ≡ Ok at → take (s.count - 1) ys ≡ struck group_before z (sorted_held s))
      → take (s.count - 1) ys ≡ struck group_before x (sorted_held s)
  taken_away place test str =
      let g : at < s.count = (placed_found group_before irreflexive transitive total s.memory.now s.count x s.within s.ascends at place).0 in
      str x (test ∙ and_from _ _ (lt-ltb at s.count g) (le-leb s.count (length s.memory.now) s.within)) s.ascends place
