-- What a journal means, that its records ascend, and that they and its spare places are few.
use Rattle.std.specs.Prelude.{◌≡◌, ℕ, ◌+◌, ◌-◌, ◌≤◌, true, false, List, [], ◌∷◌, length, take, refl}
use Rattle.std.proofs.Common.{ap, ◌∙◌, arith}
use Rattle.std.proofs.lemmas.List.{length-take}
use Rattle.std.proofs.lemmas.Bool.{both_ways, and_parts, and_from}
use Rattle.groups.specs.declared.group.Group.{Group}
use Rattle.groups.specs.Orders.{group_before}
use Rattle.groups.proofs.Orders.{irreflexive, transitive, total}
use Rattle.table.specs.Rows.{Ascends}
use Rattle.table.specs.Sets.{tied, entered, struck}
use Rattle.table.proofs.Ups.{Up, up_entered, up_struck, up_ascends, tied_same, tied_refl}
use Rattle.registers.specs.declared.line.Call.{Call}
use Rattle.registers.specs.declared.line.Call.TheVariants.{Enter, Strike}
use Rattle.registers.specs.declared.makes.Journal.{Journal}
use Rattle.registers.specs.Meaning.{capacity}
use Rattle.registers.specs.Lines.{calls, column, left_from, left, same_records}

-- what the lines leave
abbrev pub journal_held : Journal → List Group
journal_held j = left (take j.lines (calls j.memory.now))

-- a place for each line that the memory has room for and that is not written
abbrev pub journal_spare : Journal → ℕ
journal_spare j = capacity (length j.memory.now) - j.lines

left_from_up : (held : List Group) (cs : List Call) → Up group_before held → Up group_before (left_from held cs)
left_from_up held [] u = u
left_from_up held (Enter x ∷ cs) u = left_from_up (entered group_before x held) cs (up_entered group_before irreflexive transitive total x held u)
left_from_up held (Strike x ∷ cs) u = left_from_up (struck group_before x held) cs (up_struck group_before irreflexive transitive total x held u)

pub left_up : (cs : List Call) → Up group_before (left cs)
left_up cs = left_from_up [] cs tt

pub journal_ascending : (j : Journal) → Ascends group_before (journal_held j) (length (journal_held j))
journal_ascending j = up_ascends group_before (journal_held j) (left_up (take j.lines (calls j.memory.now)))

-- a list has the same records as another exactly where it is that list
pub same_from : (xs ys : List Group) → same_records xs ys ≡ true → xs ≡ ys
same_from [] [] e = refl
same_from [] (y ∷ ys) e = absurd (both_ways false refl e)
same_from (x ∷ xs) [] e = absurd (both_ways false refl e)
same_from (x ∷ xs) (y ∷ ys) e =
    let p = and_parts (tied group_before x y) (same_records xs ys) e in
    ap (λ (z : Group). z ∷ xs) (tied_same group_before irreflexive transitive total x y p.0) ∙ ap (λ (zs : List Group). y ∷ zs) (same_from xs ys p.1)

pub same_self : (xs : List Group) → same_records xs xs ≡ true
same_self [] = refl
same_self (x ∷ xs) = and_from (tied group_before x x) (same_records xs xs) (tied_refl group_before irreflexive transitive total x) (same_self xs)

-- what stands beside the first lines is what is held
pub held_beside : (j : Journal) → take j.count (column j.memory.now) ≡ journal_held j
held_beside j = same_from (take j.count (column j.memory.now)) (journal_held j) j.agrees

pub journal_few : (j : Journal) → length (journal_held j) + journal_spare j ≤ 65536
journal_few j = omega (arith, ap length (held_beside j), length-take j.count (column j.memory.now), j.few, j.short)
