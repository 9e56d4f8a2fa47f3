-- A file without a fault is the file of its bodies.
use Rattle.std.proofs.Common.{◌≡◌, ℕ, ◌+◌, ◌*◌, ◌<◌, ◌≤◌, Bool, true, false, cond, eqb, ltb, leb, List, [], ◌∷◌, ◌++◌, length, get_or, take, drop, Ok, Err, Result, sym, refl, ap, ◌∙◌, subst, arith, rules}
use Rattle.std.specs.Str.{bytes_eq}
use Rattle.std.proofs.lemmas.Slice.Eq.{bytes_eq-Decides}
use Rattle.std.proofs.lemmas.List.{places, same_lists, length-append, get_or-drop, take-append-drop, take_more, drop-drop, length-take-le}
use Rattle.std.proofs.lemmas.Bool.{and_parts, ltb-false, eqb-true}
use Rattle.faults.specs.declared.cause.Cause.{Cause}
use Rattle.faults.specs.Causes.{along}
use Rattle.weekly.specs.Places.{Places}
use Rattle.weekly.specs.Head.{opening_bytes, opened, entries, bodies_start, bodies_end, ended, layout_of}
use Rattle.weekly.specs.Body.{added_bytes, note_bytes, removed_bytes}
use Rattle.weekly.specs.File.{entry_count, plan_of, added_entry, note_entry, removed_entry, head_of, file_with}
use Rattle.weekly.proofs.Answered.{part_length}
use Rattle.weekly.proofs.Written.{entries_length}
use Rattle.weekly.specs.Trip.{Bytes}
use Rattle.weekly.proofs.Shapes.{entries_of, Past, entries_shape, cond_good}

cond_else : (t : Bool) (r : Result Places Cause) (f : Cause) (g : Places) → cond t (Err f) r ≡ Ok g → (t ≡ false) × (r ≡ Ok g)
cond_else false r f g e = (refl, e)
cond_else true r f g e = cc

ended_good : (n : ℕ) (r : Result Places Cause) (g : Places) → ended n r ≡ Ok g → (r ≡ Ok g) × (n ≡ bodies_end g)
unfolding ended
ended_good n (Err x) g e = cc
ended_good n (Ok h) g e =
    let c = cond_good (eqb n (bodies_end h)) (Ok h) (along 23 n) g e in
    let q : h ≡ g = cc in
    (c.1, eqb-true n (bodies_end h) c.0 ∙ ap (λ (v : Places). bodies_end v) q)

-- what a layout without a fault says of its file
pub record Laid (f : List ℕ) (g : Places) : Type 0 where
  pub long : 5 + 5 * get_or f 4 0 ≤ length f
  pub few : get_or f 4 0 ≤ 3
  pub opening : take 4 f ≡ opening_bytes
  pub contents : entries (get_or f 4 0) (drop 5 f) 5 0 (bodies_start (get_or f 4 0)) ≡ Ok g
  pub end : length f ≡ bodies_end g

pub laid_from : (f : List ℕ) (g : Places) → layout_of f ≡ Ok g → Laid f g
unfolding layout_of
laid_from f g e =
    let a = cond_good (opened f) _ (along 21 0) g e in
    let b = cond_else (ltb 3 (get_or f 4 0)) _ (along 22 4) g a.1 in
    let c = cond_else (ltb (length f) (5 + 5 * get_or f 4 0)) _ (along 23 (length f)) g b.1 in
    let d = ended_good (length f) _ g c.1 in
    let o = and_parts (leb 5 (length f)) (bytes_eq (take 4 f) opening_bytes) a.0 in
    record { long = ltb-false (length f) (5 + 5 * get_or f 4 0) c.0; few = ltb-false 3 (get_or f 4 0) b.0; opening = (bytes_eq-Decides (take 4 f) opening_bytes).0 o.1; contents = d.0; end = d.1 }

three_parts : (f : List ℕ) (a x y z : ℕ) → a + x + y + z ≡ length f → drop a f ≡ take x (drop a f) ++ (take y (drop (a + x) f) ++ take z (drop (a + x + y) f))
three_parts f a x y z h = same_lists _ _ (search (rules, places)) (λ k d l. grind (arith, places))

abbrev laid : ℕ → ℕ → ℕ → ℕ → Places
laid a b c d = record { first = a; added = b; note = c; removed = d }

layout_is : (g : Places) (a b c d : ℕ) → g.first ≡ a → g.added ≡ b → g.note ≡ c → g.removed ≡ d → g ≡ record { first = a; added = b; note = c; removed = d }
layout_is g a b c d p q r s =
    ap (λ (z : ℕ). laid z g.added g.note g.removed) p ∙ (ap (λ (z : ℕ). laid a z g.note g.removed) q ∙ (ap (λ (z : ℕ). laid a b z g.removed) r ∙ ap (λ (z : ℕ). laid a b c z) s))

regroup : (g : Places) (xs : List ℕ) → (opening_bytes ++ (entry_count g.added g.note g.removed ∷ [])) ++ (entries_of g ++ xs) ≡ head_of g ++ xs
unfolding head_of
regroup g xs = refl

pub read_is_file : (f : List ℕ) (g : Places) → Bytes f → layout_of f ≡ Ok g → f ≡ file_with (added_bytes f g) (note_bytes f g) (removed_bytes f g)
unfolding head_of file_with
read_is_file f g b e =
    let l = laid_from f g e in
    let n : ℕ = get_or f 4 0 in
    let start : Past 0 (bodies_start n) = record { adds = λ q. refl; text = λ q. refl; takes = λ q. refl } in
    let fits : 5 * n ≤ length (drop 5 f) = search (rules, places) in
    let s = entries_shape n (drop 5 f) 5 0 (bodies_start n) g fits (λ i. subst (λ (z : ℕ). z < 256) (sym (get_or-drop 5 f i 0)) (b (5 + i))) start l.contents in
    let shape : entries_of g ≡ take (5 * n) (drop 5 f) = s.0 in
    let count : entry_count g.added g.note g.removed ≡ n =
    omega (arith, ap length shape, length-take-le (5 * n) (drop 5 f) fits, entries_length g, length-append (added_entry g) (note_entry g ++ removed_entry g), length-append (note_entry g) (removed_entry g)) in
    let la : length (added_bytes f g) ≡ g.added = part_length f g.first g.added (omega (arith, l.end)) in
    let ln : length (note_bytes f g) ≡ g.note = part_length f (g.first + g.added) g.note (omega (arith, l.end)) in
    let lr : length (removed_bytes f g) ≡ g.removed = part_length f (g.first + g.added + g.note) g.removed (omega (arith, l.end)) in
    let first : g.first ≡ 5 + 5 * entry_count g.added g.note g.removed = s.1 ∙ ap (λ (z : ℕ). 5 + 5 * z) (sym count) in
    let own : g ≡ plan_of g.added g.note g.removed = layout_is g _ _ _ _ first refl refl refl in
    let plan : plan_of (length (added_bytes f g)) (length (note_bytes f g)) (length (removed_bytes f g)) ≡ g =
    ap (λ (z : ℕ). plan_of z (length (note_bytes f g)) (length (removed_bytes f g))) la ∙ (ap (λ (z : ℕ). plan_of g.added z (length (removed_bytes f g))) ln ∙ (ap (λ (z : ℕ). plan_of g.added g.note z) lr ∙ sym own)) in
    let open5 : take 5 f ≡ opening_bytes ++ (n ∷ []) = take_more f 4 0 (omega (arith, l.long)) ∙ ap (λ (z : List ℕ). z ++ (n ∷ [])) l.opening in
    let bodies : drop (5 * n) (drop 5 f) ≡ added_bytes f g ++ (note_bytes f g ++ removed_bytes f g) =
    drop-drop (5 * n) 5 f ∙ (ap (λ (z : ℕ). drop z f) (sym s.1) ∙ three_parts f g.first g.added g.note g.removed (sym l.end)) in
    let whole : f ≡ (opening_bytes ++ (n ∷ [])) ++ (entries_of g ++ (added_bytes f g ++ (note_bytes f g ++ removed_bytes f g))) =
    sym (take-append-drop 5 f) ∙ (ap (λ (z : List ℕ). z ++ drop 5 f) open5 ∙ ap (λ (z : List ℕ). (opening_bytes ++ (n ∷ [])) ++ z)
    (sym (take-append-drop (5 * n) (drop 5 f)) ∙ (ap (λ (z : List ℕ). z ++ drop (5 * n) (drop 5 f)) (sym shape) ∙ ap (λ (z : List ℕ). entries_of g ++ z) bodies))) in
    whole ∙ (ap (λ (z : ℕ). (opening_bytes ++ (z ∷ [])) ++ (entries_of g ++ (added_bytes f g ++ (note_bytes f g ++ removed_bytes f g)))) (sym count)
    ∙ (regroup g (added_bytes f g ++ (note_bytes f g ++ removed_bytes f g)) ∙ ap (λ (v : Places). head_of v ++ (added_bytes f g ++ (note_bytes f g ++ removed_bytes f g))) (sym plan)))
