-- Lists written into a table one after another.
use Rattle.std.proofs.Common.{◌≡◌, ℕ, suc, ◌+◌, ◌<◌, ◌≤◌, cond, leb, List, [], ◌∷◌, ◌++◌, length, take, drop, set, Some, None, sym, ap, ◌∙◌, ap₂, append_assoc, arith, length-append, take-append-drop}
use Rattle.std.proofs.lemmas.List.{set_split, take_at, take_all, take-append-le, drop_at, drop-drop, length-take-le}
use Rattle.std.proofs.lemmas.Bool.{cond-true, cond-false, le-leb, lt-leb}
use Rattle.groups.specs.declared.group.Group.{Group}
use Rattle.search.specs.Fills.{fill_answer, filled_from}

module _ (T : List Group) (count : ℕ) where
  abbrev spread : List Group → List Group
  spread a = take (length T) (take count T ++ (a ++ drop (count + length a) T))

  -- ---- the answer
  pub answer_some : (a : List Group) → count + length a ≤ length T → fill_answer a T count ≡ Some (count + length a)
  unfolding fill_answer
  answer_some a h = cond-true (leb (count + length a) (length T)) (Some (count + length a)) None (le-leb (count + length a) (length T) h)

  pub answer_none : (a : List Group) → length T < count + length a → fill_answer a T count ≡ None
  unfolding fill_answer
  answer_none a h = cond-false (leb (count + length a) (length T)) (Some (count + length a)) None (lt-leb (count + length a) (length T) h)

  -- ---- the table, where `count` is past its end, and where it is not
  pub filled_past : (a : List Group) → length T < count → filled_from a T count ≡ T
  unfolding filled_from
  filled_past a h = cond-false (leb count (length T)) (spread a) T (lt-leb count (length T) h)

  module _ (room : count ≤ length T) where
    filled_is : (a : List Group) → filled_from a T count ≡ spread a
    unfolding filled_from
    filled_is a = cond-true (leb count (length T)) (spread a) T (le-leb count (length T) room)

    front : (a : List Group) → length (take count T ++ a) ≡ count + length a
    front a = length-append (take count T) a ∙ ap (λ (k : ℕ). k + length a) (length-take-le count T room)

    shape : (a : List Group) → spread a ≡ take (length T) ((take count T ++ a) ++ drop (count + length a) T)
    shape a = ap (take (length T)) (sym (append_assoc (take count T) a (drop (count + length a) T)))

    -- a list that does not fit fills the table to its end, whatever comes after
    cut_is : (a : List Group) → length T ≤ count + length a → spread a ≡ take (length T) (take count T ++ a)
    cut_is a h = shape a ∙ take-append-le (length T) (take count T ++ a) (drop (count + length a) T) (omega (arith, front a))

    pub filled_cut : (a b : List Group) → length T ≤ count + length a → filled_from (a ++ b) T count ≡ filled_from a T count
    filled_cut a b h =
        filled_is (a ++ b) ∙ cut_is (a ++ b) (omega (arith, length-append a b)) ∙ ap (take (length T)) (sym (append_assoc (take count T) a b))
        ∙ take-append-le (length T) (take count T ++ a) b (omega (arith, front a)) ∙ sym (cut_is a h) ∙ sym (filled_is a)

    pub filled_none : filled_from [] T count ≡ T
    filled_none =
        filled_is [] ∙ ap (λ (k : ℕ). take (length T) (take count T ++ drop k T)) (let e : count + 0 ≡ count = omega arith in e)
        ∙ ap (take (length T)) (take-append-drop count T) ∙ take_all (length T) T (omega arith)

    -- a list that fits
    whole : (a : List Group) → count + length a ≤ length T → spread a ≡ (take count T ++ a) ++ drop (count + length a) T
    whole a h = shape a ∙ take_all (length T) ((take count T ++ a) ++ drop (count + length a) T) (omega (arith, long a h))
      where
        long : (a : List Group) → count + length a ≤ length T → length ((take count T ++ a) ++ drop (count + length a) T) ≡ length T
        long a h =
            length-append (take count T ++ a) (drop (count + length a) T) ∙ ap (λ (k : ℕ). k + length (drop (count + length a) T)) (front a)
            ∙ ap (λ (k : ℕ). k + length (drop (count + length a) T)) (sym (length-take-le (count + length a) T h))
            ∙ sym (length-append (take (count + length a) T) (drop (count + length a) T)) ∙ ap length (take-append-drop (count + length a) T)

    pub filled_one : (g : Group) → count < length T → filled_from (g ∷ []) T count ≡ set T count g
    filled_one g h =
        filled_is (g ∷ []) ∙ whole (g ∷ []) (omega arith) ∙ append_assoc (take count T) (g ∷ []) (drop (count + 1) T)
        ∙ ap (λ (k : ℕ). take count T ++ (g ∷ drop k T)) (let e : count + 1 ≡ suc count = omega arith in e) ∙ sym (set_split T count g h)

    module _ (a : List Group) (fits : count + length a ≤ length T) where
      abbrev T1 : List Group
      T1 = filled_from a T count

      T1Is : T1 ≡ (take count T ++ a) ++ drop (count + length a) T
      T1Is = filled_is a ∙ whole a fits

      pub filled_length : length T1 ≡ length T
      filled_length =
          ap length T1Is ∙ length-append (take count T ++ a) (drop (count + length a) T) ∙ ap (λ (k : ℕ). k + length (drop (count + length a) T)) (front a)
          ∙ ap (λ (k : ℕ). k + length (drop (count + length a) T)) (sym (length-take-le (count + length a) T fits))
          ∙ sym (length-append (take (count + length a) T) (drop (count + length a) T)) ∙ ap length (take-append-drop (count + length a) T)

      take_end : take (count + length a) T1 ≡ take count T ++ a
      take_end = ap (take (count + length a)) T1Is ∙ take_at (take count T ++ a) (drop (count + length a) T) (count + length a) (front a)

      drop_end : drop (count + length a) T1 ≡ drop (count + length a) T
      drop_end = ap (drop (count + length a)) T1Is ∙ drop_at (take count T ++ a) (drop (count + length a) T) (count + length a) (front a)

module _ (T : List Group) (count : ℕ) (room : count ≤ length T) (a : List Group) (fits : count + length a ≤ length T) (b : List Group) where
  abbrev end : ℕ
  end = count + length a

  ends : end + length b ≡ count + length (a ++ b)
  ends = omega (arith, length-append a b)

  dropped : drop (end + length b) (T1 T count room a fits) ≡ drop (count + length (a ++ b)) T
  dropped =
      sym (drop-drop (length b) end (T1 T count room a fits)) ∙ ap (drop (length b)) (drop_end T count room a fits) ∙ drop-drop (length b) end T
      ∙ ap (λ (k : ℕ). drop k T) ends

  room1 : end ≤ length (T1 T count room a fits)
  room1 = omega (arith, filled_length T count room a fits)

  -- one list after another
  pub filled_twice : filled_from b (filled_from a T count) (count + length a) ≡ filled_from (a ++ b) T count
  filled_twice =
      filled_is (T1 T count room a fits) end room1 b
      ∙ ap (λ (k : ℕ). take k (take end (T1 T count room a fits) ++ (b ++ drop (end + length b) (T1 T count room a fits)))) (filled_length T count room a fits)
      ∙ ap₂ (λ (u v : List Group). take (length T) (u ++ (b ++ v))) (take_end T count room a fits) dropped
      ∙ ap (take (length T)) (append_assoc (take count T) a (b ++ drop (count + length (a ++ b)) T))
      ∙ ap (λ (u : List Group). take (length T) (take count T ++ u)) (sym (append_assoc a b (drop (count + length (a ++ b)) T)))
      ∙ sym (filled_is T count room (a ++ b))

  unfolded : fill_answer b (filled_from a T count) (count + length a) ≡ fill_answer (a ++ b) T count
  unfolding fill_answer
  unfolded =
      ap₂ (λ (n e : ℕ). cond (leb e n) (Some e) None) (filled_length T count room a fits) ends

  pub answer_twice : fill_answer b (filled_from a T count) (count + length a) ≡ fill_answer (a ++ b) T count
  answer_twice = unfolded
