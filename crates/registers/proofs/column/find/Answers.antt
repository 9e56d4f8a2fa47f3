use Rattle.std.proofs.Common.{◌≡◌, ℕ, ◌+◌, ◌<◌, ◌≤◌, true, false, List, length, get_or, take, Ok, sym, ◌∙◌, arith}
use Rattle.std.proofs.lemmas.List.{length-map, get_or-map}
use Rattle.groups.specs.declared.group.Group.{Group}
use Rattle.groups.specs.Orders.{group_before}
use Rattle.groups.proofs.Orders.{irreflexive, transitive, total}
use Rattle.table.specs.Rows.{Ascends}
use Rattle.table.specs.Sets.{placed}
use Rattle.table.proofs.Places.{goes_placed, found_placed}
use Rattle.table.proofs.Shifts.{low_more, high_more}
use Rattle.registers.specs.declared.line.Line.{Line}
use Rattle.registers.specs.Lines.{beside, column}
use Rattle.registers.proofs.Columns.{blank}
use Rattle.registers.proofs.column.find.Goals as goal

-- what the record beside the line at `mid` tells
module _ (ls : List Line) (n mid : ℕ) (x : Group) (within : n ≤ length ls) (asc : Ascends group_before (column ls) n) (inside : mid < n) where
  here : (d : Group) → (get_or ls mid blank).held ≡ get_or (column ls) mid d
  here d = sym (get_or-map beside ls mid blank d (omega arith))

  wide : n ≤ length (column ls)
  wide = omega (arith, length-map ls beside)

  lower : true ≡ group_before (get_or ls mid blank).held x → (k : ℕ) (d : Group) → k < mid + 1 → group_before (get_or (column ls) k d) x ≡ true
  lower t = low_more group_before transitive (column ls) n mid x (get_or ls mid blank).held asc inside wide (here (get_or ls mid blank).held) (sym t)

  higher : true ≡ group_before x (get_or ls mid blank).held → (k : ℕ) (d : Group) → mid ≤ k → k < n → group_before x (get_or (column ls) k d) ≡ true
  higher t = high_more group_before transitive (column ls) n mid x (get_or ls mid blank).held asc inside wide (here (get_or ls mid blank).held) (sym t)

  stands : false ≡ group_before (get_or ls mid blank).held x → false ≡ group_before x (get_or ls mid blank).held → Ok mid ≡ placed group_before x (take n (column ls))
  stands s t = sym (found_placed group_before irreflexive transitive (column ls) n x wide mid asc (inside, λ d. sym (here d) ∙ total (get_or ls mid blank).held x (sym s) (sym t)))

pub loop-low-preserved-then-less : goal.loop-low-preserved-then-less
loop-low-preserved-then-less c = let i = c.loop-low.invariant in
    (omega arith, i.1, lower c.args.rows.now c.args.count _ c.args.«record» c.requires.within c.requires.ascends (omega arith) c.if-less.ensures, i.3)

pub loop-low-preserved : goal.loop-low-preserved
loop-low-preserved c = let i = c.loop-low.invariant in
    (omega arith, omega arith, i.2, higher c.args.rows.now c.args.count _ c.args.«record» c.requires.within c.requires.ascends (omega arith) c.if-less-2.ensures)

pub returns-else-less-2 : goal.returns-else-less-2
returns-else-less-2 c = let i = c.loop-low.invariant in
    stands c.args.rows.now c.args.count _ c.args.«record» c.requires.within c.requires.ascends (omega arith) c.if-less.ensures c.if-less-2.ensures

pub returns : goal.returns
returns c =
    let ls = c.args.rows.now in
    let i = c.loop-low.invariant in
    let w = c.requires.within in
    sym (goes_placed group_before irreflexive transitive (column ls) c.args.count c.args.«record» (omega (arith, length-map ls beside)) c.loop-low.low (omega arith, i.2, λ k d a b. i.3 k d (omega arith) b))
