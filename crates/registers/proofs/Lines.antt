-- A journal in whose memory one line more is written, and the record that it enters or strikes is put in or taken out beside
-- the lines.
use Rattle.std.proofs.Common.{◌≡◌, ℕ, ◌+◌, ◌-◌, ◌<◌, ◌≤◌, Bool, true, false, cond, not, List, [], ◌∷◌, ◌++◌, length, get_or, take, set, Some, None, is_ok, Ok, Err, Result, sym, refl, ap, ◌∙◌, subst, arith}
use Rattle.std.specs.List.{slice_get}
use Rattle.std.specs.Option.{option_map}
use Rattle.std.proofs.lemmas.Option.{slice_get-map, slice_get-get_or, slice_get_past}
use Rattle.std.proofs.lemmas.List.{take-map, length-map, length-take-le, get_or-take, take_more_set}
use Rattle.std.proofs.lemmas.Bool.{and_parts, and_from}
use Rattle.groups.specs.declared.group.Group.{Group}
use Rattle.groups.specs.Orders.{group_before}
use Rattle.groups.proofs.Orders.{irreflexive, transitive, total}
use Rattle.table.specs.Rows.{Ascends, FoundAt, GoesAt, with_row, without_row}
use Rattle.table.specs.Sets.{has, rank, placed, entered, struck}
use Rattle.table.proofs.SetLaws.{put_entered, out_struck}
use Rattle.table.proofs.Places.{placed_goes, placed_found}
use Rattle.registers.specs.declared.line.Line.{Line}
use Rattle.registers.specs.declared.line.Call.{Call}
use Rattle.registers.specs.declared.line.Call.TheVariants.{Enter, Strike}
use Rattle.registers.specs.declared.makes.Journal.{Journal}
use Rattle.registers.specs.Lines.{said, calls, beside, column, next, left_from, left, fits, proper_from, proper, same_records}
use Rattle.registers.specs.Journals.{journal_held, journal_spare, journal_ascending, held_beside, same_self}

-- ---- one more call
left_push : (held : List Group) (cs : List Call) (c : Call) → left_from held (cs ++ c ∷ []) ≡ next (left_from held cs) c
left_push held [] c = refl
left_push held (b ∷ cs) c = left_push (next held b) cs c

proper_push : (held : List Group) (cs : List Call) (c : Call) → proper_from held cs ≡ true → fits (left_from held cs) c ≡ true → proper_from held (cs ++ c ∷ []) ≡ true
proper_push held [] c h f = and_from (fits held c) true f refl
proper_push held (b ∷ cs) c h f =
    let p = and_parts (fits held b) (proper_from (next held b) cs) h in
    and_from (fits held b) (proper_from (next held b) (cs ++ c ∷ [])) p.0 (proper_push (next held b) cs c p.1 f)

-- ---- where a record is placed it stands, or not
placed_ok : (b : Bool) (r : ℕ) → is_ok {E = ℕ} (cond b (Ok r) (Err r)) ≡ b
placed_ok true r = refl
placed_ok false r = refl

pub has_placed : (x : Group) (xs : List Group) (r : Result ℕ ℕ) → placed group_before x xs ≡ r → has group_before x xs ≡ is_ok r
has_placed x xs r e = sym (placed_ok (has group_before x xs) (rank group_before x xs)) ∙ ap (λ (z : Result ℕ ℕ). is_ok z) e

-- ---- the column of a journal
module _ (j : Journal) where
  pub column_within : j.count ≤ length (column j.memory.now)
  column_within = omega (arith, length-map j.memory.now beside, j.within, j.short)

  pub column_ascends : Ascends group_before (column j.memory.now) j.count
  column_ascends k d h =
      let xs = column j.memory.now in
      let n = j.count in
      let a = subst (λ (zs : List Group). Ascends group_before zs (length zs)) (sym (held_beside j)) (journal_ascending j) in
      let l = length-take-le n xs column_within in
      ap (λ (z : Group). group_before z (get_or xs (k + 1) d)) (sym (get_or-take n xs k d (omega arith))) ∙ ap (group_before (get_or (take n xs) k d)) (sym (get_or-take n xs (k + 1) d h)) ∙ a k d (omega arith)

  -- the same place among the records beside the lines
  pub placed_beside : (x : Group) (r : Result ℕ ℕ) → placed group_before x (journal_held j) ≡ r → placed group_before x (take j.count (column j.memory.now)) ≡ r
  placed_beside x r e = ap (placed group_before x) (held_beside j) ∙ e

  pub goes : (x : Group) (at : ℕ) → placed group_before x (journal_held j) ≡ Err at → GoesAt group_before (column j.memory.now) j.count x at
  goes x at e = placed_goes group_before irreflexive transitive (column j.memory.now) j.count x column_within column_ascends at (placed_beside x (Err at) e)

  pub found : (x : Group) (at : ℕ) → placed group_before x (journal_held j) ≡ Ok at → FoundAt (column j.memory.now) j.count x at
  found x at e = placed_found group_before irreflexive transitive total (column j.memory.now) j.count x column_within column_ascends at (placed_beside x (Ok at) e)

  -- the record with so many before it stands beside that line, and past the last there is none
  pub held_there : (i : ℕ) (l : Line) → i < length (take j.count j.memory.now) → l ≡ get_or (take j.count j.memory.now) i l → Some l.held ≡ slice_get (journal_held j) i
  held_there i l h e = ap (λ (z : Line). Some z.held) e ∙ sym (ap (λ (xs : List Group). slice_get xs i) (sym (held_beside j) ∙ take-map beside j.count j.memory.now)
      ∙ slice_get-map beside (take j.count j.memory.now) i ∙ ap (option_map beside) (slice_get-get_or (take j.count j.memory.now) i l h))

  pub held_past : (i : ℕ) → length (take j.count j.memory.now) ≤ i → None ≡ slice_get (journal_held j) i
  held_past i h = sym (slice_get_past (journal_held j) i (omega (arith, ap length (held_beside j), ap length (take-map beside j.count j.memory.now), length-map (take j.count j.memory.now) beside)))

-- the facts of the type for another memory, with so many lines and so many records beside them
pub record Noted (ys : List Line) (lines count : ℕ) (after : List Group) : Type 0 where
  pub within : lines ≤ length ys
  pub few : lines ≤ 65536
  pub short : count ≤ lines
  pub agrees : same_records (take count (column ys)) (left (take lines (calls ys))) ≡ true
  pub sound : proper (take lines (calls ys)) ≡ true
  pub held_after : left (take lines (calls ys)) ≡ after

module _ (j : Journal) (ys : List Line) (long : length ys ≡ length j.memory.now) (room : 0 < journal_spare j) where
  noted : (c : Call) (n : ℕ) → calls ys ≡ set (calls j.memory.now) j.lines c → fits (journal_held j) c ≡ true → n ≤ j.lines + 1
      → take n (column ys) ≡ next (journal_held j) c → Noted ys (j.lines + 1) n (next (journal_held j) c)
  noted c n written f short col =
      let m = calls j.memory.now in
      let h : j.lines < length m = omega (arith, length-map j.memory.now said) in
      let e : take (j.lines + 1) (calls ys) ≡ take j.lines m ++ c ∷ [] = ap (take (j.lines + 1)) written ∙ take_more_set m j.lines c h in
      let l : left (take (j.lines + 1) (calls ys)) ≡ next (journal_held j) c = ap left e ∙ left_push [] (take j.lines m) c in
      record {
        within = omega arith;
        few = omega arith;
        short = short;
        agrees = ap (λ (zs : List Group). same_records zs (left (take (j.lines + 1) (calls ys)))) (col ∙ sym l) ∙ same_self (left (take (j.lines + 1) (calls ys)));
        sound = ap proper e ∙ proper_push [] (take j.lines m) c j.sound f;
        held_after = l;
      }

  module _ (x : Group) (at : ℕ) where
    pub note_entered : placed group_before x (journal_held j) ≡ Err at → calls ys ≡ set (calls j.memory.now) j.lines (Enter x)
        → column ys ≡ with_row (column j.memory.now) j.count at x → Noted ys (j.lines + 1) (j.count + 1) (entered group_before x (journal_held j))
    note_entered place written col =
        let c = length-map j.memory.now beside in
        let s = j.short in
        noted (Enter x) (j.count + 1) written (ap not (has_placed x (journal_held j) (Err at) place)) (omega arith)
        (put_entered group_before irreflexive transitive (column j.memory.now) j.count x (column_within j) (column ys) at (omega arith) (goes j x at place) col ∙ ap (entered group_before x) (held_beside j))

    pub note_struck : placed group_before x (journal_held j) ≡ Ok at → calls ys ≡ set (calls j.memory.now) j.lines (Strike x)
        → column ys ≡ without_row (column j.memory.now) j.count at → Noted ys (j.lines + 1) (j.count - 1) (struck group_before x (journal_held j))
    note_struck place written col =
        let s = j.short in
        noted (Strike x) (j.count - 1) written (has_placed x (journal_held j) (Ok at) place) (omega arith)
        (out_struck group_before irreflexive transitive (column j.memory.now) j.count x (column_within j) (column ys) at (found j x at place) (column_ascends j) col ∙ ap (struck group_before x) (held_beside j))
