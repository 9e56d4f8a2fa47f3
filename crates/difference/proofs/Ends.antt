-- The list in the table, as the public functions state it.
use Rattle.std.proofs.Common.{◌≡◌, ℕ, ◌+◌, ◌-◌, ◌/◌, ◌<◌, ◌≤◌, min, leb, List, ◌++◌, length, take, drop, Some, None, Option, sym, ap, ◌∙◌, subst, ⊎_elim, arith, length-append}
use borrow.Rule.Slice.PartMut.{mid_of, put_mid}
use Rattle.std.specs.List.{between}
use Rattle.std.proofs.lemmas.List.{ext_get_or, get_or_append_left, get_or-take, length-take, length-drop, drop_at, length-take-le, take-append-le, nil_from_length}
use Rattle.std.proofs.lemmas.Bool.{cases_lt, cond-true, cond-false, le-leb, lt-leb}
use Rattle.groups.specs.declared.group.Group.{Group}
use Rattle.groups.specs.Lists.{new_groups_of}
use Rattle.groups.specs.Plans.{New, Listing, nothing}
use Rattle.groups.proofs.Minus.{new_listing, only_new}
use Rattle.difference.specs.Places.{room_for, Written, Listed, Same}
use Rattle.difference.proofs.Counting.{more_listed}

module _ (bs rs : List ℕ) (D : ℕ) (T T' : List Group) (from start limit lim : ℕ) (long : length T' ≡ length T)
    (is-start : start ≡ min from (length T)) (is-lim : lim ≡ min limit ((length T - start) / 2)) where
  abbrev list : List Group
  list = new_groups_of bs rs D

  room_is : room_for T from limit ≡ lim
  room_is = let e : length T - from ≡ length T - start = omega arith in ap (λ (n : ℕ). min limit (n / 2)) e ∙ sym is-lim

  front : Same T T' start → take from T' ≡ take from T
  front s =
      ext_get_or nothing (take from T') (take from T) (omega (arith, length-take from T', length-take from T))
      (λ i l. let li : i < from = omega (arith, length-take from T') in
      get_or-take from T' i nothing li ∙ s i (omega (arith, length-take from T')) ∙ sym (get_or-take from T i nothing li))

  pub too_many : Listed (New bs rs D) T T' start lim None → Written list T T' from limit None
  too_many h =
      let m : lim < length list = more_listed list (new_listing bs rs D) h.result in
      record {
        answer = sym (cond-false (leb (length list) (room_for T from limit)) (Some (from + length list)) None (lt-leb (length list) (room_for T from limit) (omega (arith, room_is))));
        kept = front h.kept;
        written = λ l. absurd (omega (arith, room_is));
      }

  module _ (end : ℕ) (h : Listed (New bs rs D) T T' start lim (Some end)) where
    is_list : between start end T' ≡ list
    is_list = only_new bs rs D (between start end T') h.result.3

    list_long : length list ≡ end - start
    list_long =
        sym (ap (length {A = Group}) is_list) ∙ omega (arith, length-take (end - start) (drop start T'), length-drop start T', h.result.0, h.result.1)

    places : take (length list) (drop from T') ≡ list
    places =
        ⊎_elim
        (λ l. let z : length list ≡ 0 = omega (arith, list_long, h.result.2) in
        ap (λ (n : ℕ). take n (drop from T')) z ∙ sym (nil_from_length list z))
        (λ l. let e : start ≡ from = omega arith in
        ap (λ (n : ℕ). take n (drop from T')) list_long ∙ ap (λ (n : ℕ). take (end - start) (drop n T')) (sym e) ∙ is_list)
        (cases_lt (length T) from)

    all_listed : Written list T T' from limit (Some (from + (end - start)))
    all_listed =
        let e : from + (end - start) ≡ from + length list = ap (λ (n : ℕ). from + n) (sym list_long) in
        record {
          answer = ap Some e ∙ sym (cond-true (leb (length list) (room_for T from limit)) (Some (from + length list)) None (le-leb (length list) (room_for T from limit) (omega (arith, room_is, list_long, h.result.2))));
          kept = front h.kept;
          written = λ _. places;
        }

  pub so_many : (c : ℕ) → Listed (New bs rs D) T T' start lim (Some (start + c)) → Written list T T' from limit (Some (from + c))
  so_many c h = subst (λ (n : ℕ). Written list T T' from limit (Some (from + n))) (let e : start + c - start ≡ c = omega arith in e) (all_listed (start + c) h)

-- a list in the first of k places of a table, from `start` on
module _ (T p : List Group) (start k lim : ℕ) (room : start + k ≤ length T) (long : length p ≡ k) where
  abbrev last : List Group
  last = drop k (drop start T)

  front_long : length (take start T) ≡ start
  front_long = length-take-le start T (omega arith)

  pub placed_long : length (put_mid start k T p) ≡ length T
  placed_long =
      omega (arith, length-append (take start T) (p ++ last), length-append p last, front_long, length-drop k (drop start T), length-drop start T)

  placed_part : (c : ℕ) → c ≤ length p → between start (start + c) (put_mid start k T p) ≡ between 0 c p
  placed_part c h =
      ap (take {A = Group} (start + c - start)) (drop_at (take start T) (p ++ last) start front_long)
      ∙ ap (λ (n : ℕ). take n (p ++ last)) (let e : start + c - start ≡ c = omega arith in e) ∙ take-append-le c p last h
      ∙ ap (λ (n : ℕ). take n p) (let e : c ≡ c - 0 = omega arith in e)

  placed_kept : Same T (put_mid start k T p) start
  placed_kept i l = get_or_append_left (take start T) (p ++ last) nothing i (omega (arith, front_long)) ∙ get_or-take start T i nothing l

  pub placed_none : {P : Group → Type 0} → Listed P (mid_of start k T) p 0 lim None → Listed P T (put_mid start k T p) start lim None
  placed_none h = record { kept = placed_kept; result = h.result }

  pub placed_some : {P : Group → Type 0} (c : ℕ) → Listed P (mid_of start k T) p 0 lim (Some c) → Listed P T (put_mid start k T p) start lim (Some (start + c))
  placed_some {P} c h =
      let r = h.result in
      record {
        kept = placed_kept;
        result = (omega arith, omega (arith, r.1, placed_long), omega (arith, r.2), subst (Listing P) (sym (placed_part c r.1)) r.3);
      }

-- the same, for plans and doors that are these
pub relisted : {bs bs' rs rs' : List ℕ} {D D' : ℕ} {T T' : List Group} {from limit : ℕ} (r : Option ℕ) → bs' ≡ bs → rs' ≡ rs → D' ≡ D
    → Listed (New bs' rs' D') T T' from limit r → Listed (New bs rs D) T T' from limit r
relisted {bs} {bs'} {rs} {rs'} {D} {D'} {T} {T'} {from} {limit} r e f d h =
    subst (λ (p : List ℕ). Listed (New p rs D) T T' from limit r) e
    (subst (λ (p : List ℕ). Listed (New bs' p D) T T' from limit r) f (subst (λ (n : ℕ). Listed (New bs' rs' n) T T' from limit r) d h))
