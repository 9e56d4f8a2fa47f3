-- The two columns of a journal's rows, and what a column is once its records are moved by one.
use Rattle.std.proofs.Common.{◌≡◌, ℕ, ◌+◌, ◌-◌, ◌<◌, ◌≤◌, List, [], ◌∷◌, ◌++◌, map, length, get_or, take, drop, set, sym, ap, ◌∙◌, subst, arith, rules}
use Rattle.std.proofs.lemmas.List.{places, map-append, take-map, drop-map, map-set, get_or-map, length-map, same_lists, get_or_default, get_or-set_same, take_more, take_more_set, take_all}
use Rattle.std.proofs.lemmas.Bool.{cases_eq}
use Rattle.groups.specs.declared.group.Group.{Group}
use Rattle.table.specs.Rows.{with_row, without_row}
use Rattle.registers.specs.declared.line.Call.TheVariants.{Enter}
use Rattle.registers.specs.declared.line.Line.{Line}
use Rattle.registers.specs.Lines.{said, calls, beside, column}
use borrow.Rule.Slice.PartMut.{put_mid, put_same}

-- a row of zeros, and a row with another record beside its call
abbrev pub blank : Line
blank = record { call = Enter record { keys = 0; doors = 0 }; held = record { keys = 0; doors = 0 } }

abbrev with_held : Line → Group → Line
with_held l x = record { call = l.call; held = x }

-- ys is xs with x put at the front and what stands up to i moved up by one, and c is left over
pub record Carried {X : Type 0} (xs ys : List X) (i : ℕ) (x c : X) : Type 0 where
  pub moved : take i ys ++ c ∷ [] ≡ x ∷ take i xs
  pub ahead : drop i ys ≡ drop i xs

module _ {X : Type 0} where
  pub map-put_mid : (f : Line → X) (a k : ℕ) (ls ys : List Line) → map f (put_mid a k ls ys) ≡ put_mid a k (map f ls) (map f ys)
  map-put_mid f a k ls ys = simp (map-append, take-map, drop-map)

  carried_more : (xs ys : List X) (i : ℕ) (x c d : X) → i < length ys → length ys ≡ length xs → Carried xs ys i x c → Carried xs (set ys i c) (i + 1) x (get_or ys i d)
  carried_more xs ys i x c d h n r =
      let same : get_or ys i d ≡ get_or xs i d = let g = ap (λ zs. get_or zs 0 d) r.ahead in grind (arith, places) in
      record {
        moved = ap (λ zs. zs ++ get_or ys i d ∷ []) (take_more_set ys i c h ∙ r.moved) ∙ (ap (λ z. (x ∷ take i xs) ++ z ∷ []) same ∙ ap (λ zs. x ∷ zs) (sym (take_more xs i d (omega arith))));
        ahead = same_lists _ _ (search (rules, places)) (λ k e l. let g = ap (λ zs. get_or zs (k + 1) e) r.ahead in grind (arith, places));
      }

  -- x is put at the front of the part from `at` to n, and what stood last in it is left over
  pub carried_on : (xs ys : List X) (n at : ℕ) (x c : X) → at ≤ n → n < length xs → ys ++ c ∷ [] ≡ x ∷ take (n + 1 - at) (drop at xs) → put_mid at (n + 1 - at) xs ys ≡ with_row xs n at x
  carried_on xs ys n at x c h m e =
      same_lists _ _ (let l = ap (λ zs. length zs) e in search (rules, places)) (λ k d l.
      let g = ap (λ zs. get_or zs (k - at) d) e in let q = ap (λ zs. length zs) e in grind (arith, places))

  -- what stands at i is moved down by one
  pub moved_down : (xs ys : List X) (i at : ℕ) (e : X) → at < i → i < length xs → length ys ≡ length xs → ys ≡ without_row xs i at → set ys (i - 1) (get_or ys i e) ≡ without_row xs (i + 1) at
  moved_down xs ys i at e h m n q =
      same_lists _ _ (search (rules, places)) (λ k d l.
      let c = cases_eq k (i - 1) in let z = get_or_default ys i e d (omega arith) in let g = ap (λ zs. get_or zs k d) q in let g' = ap (λ zs. get_or zs i d) q in grind (arith, places, get_or-set_same))

module _ (xs : List Group) (ls : List Line) where
  pub carried_row : (i : ℕ) (x c : Group) → i < length ls → length ls ≡ length xs → Carried xs (column ls) i x c
      → Carried xs (column (set ls i (with_held (get_or ls i blank) c))) (i + 1) x (get_or ls i blank).held
  carried_row i x c h n r =
      subst (λ (ys : List Group). Carried xs ys (i + 1) x (get_or ls i blank).held) (sym (map-set beside ls i (with_held (get_or ls i blank) c)))
      (subst (λ (z : Group). Carried xs (set (column ls) i c) (i + 1) x z) (get_or-map beside ls i blank blank.held h)
      (carried_more xs (column ls) i x c blank.held (omega (arith, length-map ls beside)) (length-map ls beside ∙ n) r))

  pub moved_row : (i at : ℕ) → at < i → i < length xs → length ls ≡ length xs → column ls ≡ without_row xs i at
      → column (set ls (i - 1) (with_held (get_or ls (i - 1) blank) (get_or ls i blank).held)) ≡ without_row xs (i + 1) at
  moved_row i at h m n q =
      map-set beside ls (i - 1) (with_held (get_or ls (i - 1) blank) (get_or ls i blank).held)
      ∙ (ap (set (column ls) (i - 1)) (sym (get_or-map beside ls i blank blank.held (omega arith))) ∙ moved_down xs (column ls) i at blank.held h m (length-map ls beside ∙ n) q)

-- the rows once the part from `at` to n is carried on
module _ (ls items : List Line) (n at : ℕ) where
  pub part_column : (i : ℕ) (x c : Group) → at ≤ n → n < length ls → length items ≡ length (take (n + 1 - at) (drop at ls)) → length (take (n + 1 - at) (drop at ls)) ≤ i
      → Carried (column (take (n + 1 - at) (drop at ls))) (column items) i x c → column (put_mid at (n + 1 - at) ls items) ≡ with_row (column ls) n at x
  part_column i x c h m q l r =
      let first = take (n + 1 - at) (drop at ls) in
      let a : take i (column items) ≡ column items = take_all i (column items) (omega (arith, length-map items beside)) in
      let b : take i (column first) ≡ take (n + 1 - at) (drop at (column ls)) = take_all i (column first) (omega (arith, length-map first beside)) ∙ sym (ap (take (n + 1 - at)) (drop-map beside at ls) ∙ take-map beside (n + 1 - at) (drop at ls)) in
      map-put_mid beside at (n + 1 - at) ls items
      ∙ carried_on (column ls) (column items) n at x c h (omega (arith, length-map ls beside)) (ap (λ zs. zs ++ c ∷ []) (sym a) ∙ r.moved ∙ ap (λ zs. x ∷ zs) b)

  pub part_calls : (k : ℕ) → calls items ≡ calls (take k (drop at ls)) → calls (put_mid at k ls items) ≡ calls ls
  part_calls k e = map-put_mid said at k ls items ∙ ap (put_mid at k (calls ls)) e ∙ sym (map-put_mid said at k ls (take k (drop at ls))) ∙ ap calls (put_same at k ls)
