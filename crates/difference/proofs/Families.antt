-- The groups that a key or a door touches, as the groups that a search with watch rows lists.
use Rattle.std.proofs.Common.{◌≡◌, ℕ, ◌+◌, ◌^◌, ◌<◌, ◌≤◌, Bool, true, false, not, ◌&&◌, eqb, leb, ◌⊎◌, List, ◌++◌, length, get_or, take, drop, Some, None, filter, Option, sym, refl, ap, ◌∙◌, subst, inl, inr, ⊎_elim, arith, length-append}
use lib.Bits.{bit_and, bit_or}
use Rattle.std.proofs.lemmas.Bool.{cases_Bool, cond-true, cond-false, le-leb, leb-true, leb-false, and_parts, and_from, not-true, not_from_false, eqb-false, ne_eqb}
use Rattle.std.proofs.lemmas.List.FromFn.{length-map-range_with_len, get_or-map-range_with_len}
use Rattle.std.proofs.lemmas.List.{length-take-le, length-drop, take_all, take_at, take-take}
use Rattle.masks.specs.Masks.{Has, is_within}
use Rattle.masks.proofs.Bitlaws.{bit_pow_same, bit_zero, below_has, and_has, has_and, or_has, has_or}
use Rattle.masks.proofs.Joins.{test_within, within_passes}
use Rattle.groups.specs.declared.group.Group.{Group}
use Rattle.groups.specs.Lists.{groups_of, shared_doors, opened_by_all}
use Rattle.groups.specs.Plans.{Opens, IsGroup, Listing, Turned, flip}
use Rattle.groups.proofs.Closures.{passing_lt, shared_door, door_shared}
use Rattle.groups.proofs.Listings.{relisted}
use Rattle.groups.proofs.Turns.{turned_group, group_turned}
use Rattle.groups.proofs.Wholes.{groups_listing}
use Rattle.search.specs.Fills.{fill_answer, filled_from}
use Rattle.search.specs.Parts.{padded_rows, share_a_bit, groups_watched_of}
use Rattle.search.proofs.Kept.{kept_listing}
use Rattle.difference.specs.Changes.{KeyTouches, DoorTouches, ColumnTouches, Lacks, OnlyIn, Shared, Meets, Watches}
use Rattle.difference.specs.Places.{Outcome}
use Rattle.difference.proofs.Marks.{no_has, some_has, one_has}

-- ---- what the watch rows say

module _ (watch : List ℕ) where
  padded_long : length (padded_rows watch) ≡ 64
  unfolding padded_rows
  padded_long = length-map-range_with_len (λ k. get_or watch k 0) 0 64

  padded_at : (k : ℕ) → k < 64 → get_or (padded_rows watch) k 0 ≡ get_or watch k 0
  unfolding padded_rows
  padded_at k l = get_or-map-range_with_len (λ k. get_or watch k 0) 0 64 k k 0 l (omega arith)

module _ (before after : List ℕ) (D u gained lost : ℕ) (watch : List ℕ) (few : length before ≤ 64) (same : length after ≡ length before)
    (apart : (i : ℕ) → Has gained i → Has lost i → ⊥) (fg : gained < 2 ^ 64) (fl : lost < 2 ^ 64)
    (w : Watches before after gained lost watch (length before)) where
  abbrev now : ℕ → ℕ
  now k = bit_and (get_or after k 0) gained

  abbrev then : ℕ → ℕ
  then k = bit_and (get_or before k 0) lost

  abbrev test : Group → Bool
  test g = is_within (2 ^ u) g.keys && share_a_bit (padded_rows watch) g.keys

  row : (k : ℕ) → k < length before → get_or (padded_rows watch) k 0 ≡ bit_or (now k) (then k)
  row k l = padded_at watch k (omega arith) ∙ w k l

  key_in : (g : Group) → IsGroup after D g → (k : ℕ) → Has g.keys k → k < length before
  key_in g p k h = let b = below_has (length after) g.keys k p.keys_below h in omega arith

  watched_meets : (g : Group) → IsGroup after D g → test g ≡ true → Meets before after D u gained lost g
  watched_meets g p t =
      let x = g.keys in
      let m = shared_doors (padded_rows watch) 64 x in
      let q = and_parts (is_within (2 ^ u) x) (not (eqb m 0)) t in
      let key : Has x u = test_within (2 ^ u) x q.0 u (bit_pow_same u) in
      let f = some_has m (passing_lt (opened_by_all (padded_rows watch) x) 64) (eqb-false m 0 (not-true (eqb m 0) q.1)) in
      let v = f.0 in
      let all = (shared_door (padded_rows watch) 64 x v f.1).1 in
      let rows : (k : ℕ) → Has x k → Has (now k) v ⊎ Has (then k) v =
      λ k hk.
      let l = key_in g p k hk in
      or_has (now k) (then k) v (subst (λ (r : ℕ). Has r v) (row k l) (all k (let n = padded_long watch in omega arith) hk)) in
      ⊎_elim
      (λ a. let gv = (and_has (get_or after u 0) gained v a).1 in
      record {
        group = p;
        key = key;
        number = v;
        how = inl (gv, λ k hk. ⊎_elim (λ b. (and_has (get_or after k 0) gained v b).0) (λ b. absurd (apart v gv (and_has (get_or before k 0) lost v b).1)) (rows k hk));
      })
      (λ a. let lv = (and_has (get_or before u 0) lost v a).1 in
      record {
        group = p;
        key = key;
        number = v;
        how = inr (lv, λ k hk. ⊎_elim (λ b. absurd (apart v (and_has (get_or after k 0) gained v b).1 lv)) (λ b. (and_has (get_or before k 0) lost v b).0) (rows k hk));
      })
      (rows u key)

  meets_watched : (g : Group) → Meets before after D u gained lost g → test g ≡ true
  meets_watched g p =
      let x = g.keys in
      let m = shared_doors (padded_rows watch) 64 x in
      let v = p.number in
      let l : v < 64 = ⊎_elim (λ a. below_has 64 gained v fg a.0) (λ a. below_has 64 lost v fl a.0) p.how in
      let each : (k : ℕ) → Has x k → Has (now k) v ⊎ Has (then k) v =
      λ k hk. ⊎_elim (λ a. inl (has_and (get_or after k 0) gained v (a.1 k hk) a.0)) (λ a. inr (has_and (get_or before k 0) lost v (a.1 k hk) a.0)) p.how in
      let h : Has m v = door_shared (padded_rows watch) 64 x v l (λ k lk hk. subst (λ (r : ℕ). Has r v) (sym (row k (key_in g p.group k hk))) (has_or (now k) (then k) v (each k hk))) in
      and_from (is_within (2 ^ u) x) (not (eqb m 0))
      (within_passes (2 ^ u) x (λ i hi. subst (λ (k : ℕ). Has x k) (sym (one_has u i hi)) p.key))
      (not_from_false (eqb m 0) (ne_eqb m 0 (λ z. no_has m v z h)))

  watched_listing : Listing (Meets before after D u gained lost) (groups_watched_of after D (2 ^ u) watch)
  unfolding groups_watched_of
  watched_listing =
      relisted (filter test (groups_of after D)) (kept_listing test (groups_of after D) (groups_listing after D))
      (λ g p. watched_meets g p.0 p.1) (λ g p. (p.group, meets_watched g p))

  -- with the arguments as the search takes them
  pub family_listing : (base : ℕ) (rows : List ℕ) → base ≡ 2 ^ u → rows ≡ after → Listing (Meets before after D u gained lost) (groups_watched_of rows D base watch)
  family_listing base rows e f =
      subst (λ (r : List ℕ). Listing (Meets before after D u gained lost) (groups_watched_of r D base watch)) (sym f)
      (subst (λ (b : ℕ). Listing (Meets before after D u gained lost) (groups_watched_of after D b watch)) (sym e) watched_listing)

-- ---- what a search leaves

module _ {P : Group → Type 0} (list T T' : List Group) (count : ℕ) (r : Option ℕ) (room : count ≤ length T) (l : Listing P list)
    (e : r ≡ fill_answer list T count) (f : T' ≡ filled_from list T count) where
  abbrev end : ℕ
  end = count + length list

  abbrev whole : List Group
  whole = take count T ++ (list ++ drop end T)

  filled : T' ≡ take (length T) whole
  unfolding filled_from
  filled = f ∙ cond-true (leb count (length T)) (take (length T) whole) T (le-leb count (length T) room)

  fits : end ≤ length T → T' ≡ whole
  fits h = filled ∙ take_all (length T) whole (omega (arith, length-append (take count T) (list ++ drop end T), length-append list (drop end T), length-take-le count T room, length-drop end T))

  kept : take count T' ≡ take count T
  kept =
      ap (take {A = Group} count) filled ∙ take-take count (length T) whole room ∙ take_at (take count T) (list ++ drop end T) count (length-take-le count T room)

  pub outcome_from : Outcome P T T' count r
  unfolding fill_answer
  outcome_from =
      ⊎_elim
      (λ (b : leb end (length T) ≡ true).
      let h = leb-true end (length T) b in
      subst (Outcome P T T' count) (sym (e ∙ cond-true (leb end (length T)) (Some end) None b)) (record { list = list; lists = l; result = (refl, h, fits h) }))
      (λ (b : leb end (length T) ≡ false).
      subst (Outcome P T T' count) (sym (e ∙ cond-false (leb end (length T)) (Some end) None b)) (record { list = list; lists = l; result = (leb-false end (length T) b, kept) }))
      (cases_Bool (leb end (length T)))

-- ---- the family of a key

module _ (bs rs : List ℕ) (D u gained lost : ℕ) (og : OnlyIn (get_or rs u 0) (get_or bs u 0) D gained) (ol : OnlyIn (get_or bs u 0) (get_or rs u 0) D lost) where
  pub meets_touch : (g : Group) → Meets bs rs D u gained lost g → IsGroup rs D g × KeyTouches bs rs D u g
  meets_touch g m =
      let v = m.number in (
        m.group,
        ⊎_elim
            (λ a. let l = og.inside v a.0 in
            record { key = m.key; door = v; door_in = l; how = inl (m.group.doors_all v l a.1, og.lacks v a.0) })
            (λ a. record { key = m.key; door = v; door_in = ol.inside v a.0; how = inr (a.1, ol.lacks v a.0) })
            m.how,
      )

  pub touch_meets : (g : Group) → IsGroup rs D g × KeyTouches bs rs D u g → Meets bs rs D u gained lost g
  touch_meets g p =
      let t = p.1 in
      let v = t.door in
      record {
        group = p.0;
        key = t.key;
        number = v;
        how = ⊎_elim
            (λ a. inl (og.all v t.door_in (p.0.shared u v t.key a.0) a.1, λ k hk. p.0.shared k v hk a.0))
            (λ a. inr (ol.all v t.door_in (a.0 u t.key) a.1, a.0)) t.how;
      }

  pub key_still : bit_or gained lost ≡ 0 → (g : Group) → IsGroup rs D g → KeyTouches bs rs D u g → ⊥
  key_still z g p t =
      let m = touch_meets g (p, t) in
      no_has (bit_or gained lost) m.number z (has_or gained lost m.number (⊎_elim (λ a. inl a.0) (λ a. inr a.0) m.how))

-- ---- the family of a door

module _ (bs rs bc ac : List ℕ) (D v : ℕ) (same : length rs ≡ length bs) (tb : Turned bs bc D) (ta : Turned rs ac D) (lv : v < D) where
  pub column_to : (g : Group) → g.doors < 2 ^ D → ColumnTouches bc ac (length bs) v g → DoorTouches bs rs v g
  column_to g l t =
      record {
        door = t.door;
        key = t.key;
        key_in = omega (arith, t.key_in);
        opened = λ d hd. tb.from t.key d t.key_in (below_has D g.doors d l hd) (t.opened d hd);
        lost = λ o. t.lost (ta.to t.key v (omega (arith, t.key_in)) lv o);
      }

  pub column_from : (g : Group) → g.doors < 2 ^ D → DoorTouches bs rs v g → ColumnTouches bc ac (length bs) v g
  column_from g l t =
      record {
        door = t.door;
        key = t.key;
        key_in = omega (arith, t.key_in);
        opened = λ d hd. tb.to t.key d (omega (arith, t.key_in)) (below_has D g.doors d l hd) (t.opened d hd);
        lost = λ o. t.lost (ta.from t.key v t.key_in lv o);
      }

  module _ (lost : ℕ) (ol : OnlyIn (get_or bc v 0) (get_or ac v 0) (length bs) lost) where
    pub meets_door : (g : Group) → Meets bc ac (length bs) v 0 lost (flip g) → IsGroup rs D g × DoorTouches bs rs v g
    meets_door g m =
        let p : IsGroup rs D g = group_turned ta (flip g) (subst (λ (n : ℕ). IsGroup ac n (flip g)) (sym same) m.group) in
        let k = m.number in
        let a : Has lost k × ((d : ℕ) → Has g.doors d → Opens bc d k) = ⊎_elim (λ z. absurd (omega (arith, bit_zero k, z.0))) (λ a. a) m.how in
        (p, column_to g p.doors_below (record { door = m.key; key = k; key_in = ol.inside k a.0; opened = a.1; lost = ol.lacks k a.0 }))

    pub door_meets : (g : Group) → IsGroup rs D g × DoorTouches bs rs v g → Meets bc ac (length bs) v 0 lost (flip g)
    door_meets g p =
        let t = column_from g p.0.doors_below p.1 in
        record {
          group = subst (λ (n : ℕ). IsGroup ac n (flip g)) same (turned_group ta g p.0);
          key = t.door;
          number = t.key;
          how = inr (ol.all t.key t.key_in (t.opened v t.door) t.lost, t.opened);
        }

    pub door_still : lost ≡ 0 → (g : Group) → IsGroup rs D g → DoorTouches bs rs v g → ⊥
    door_still z g p t =
        let m = door_meets g (p, t) in
        ⊎_elim (λ a. no_has 0 m.number refl a.0) (λ a. no_has lost m.number z a.0) m.how

-- ---- touches, by what the group's keys or doors share

module _ (bs rs : List ℕ) (D k common : ℕ) (g : Group) (same : length rs ≡ length bs) (p : IsGroup rs D g) (s : Shared bs D g.keys common) where
  pub key_from_lacks : Has g.keys k → Lacks g.doors (get_or bs k 0) ⊎ Lacks common (get_or rs k 0) → KeyTouches bs rs D k g
  key_from_lacks h t =
      ⊎_elim (λ a. record { key = h; door = a.0; door_in = below_has D g.doors a.0 p.doors_below a.1; how = inl (a.1, a.2) })
      (λ a. record {
        key = h;
        door = a.0;
        door_in = s.inside a.0 a.1;
        how = inr ((λ j hj. s.each j a.0 (let b = below_has (length rs) g.keys j p.keys_below hj in omega arith) hj a.1), a.2);
      }) t

  pub lacks_from_key : KeyTouches bs rs D k g → Lacks g.doors (get_or bs k 0) ⊎ Lacks common (get_or rs k 0)
  lacks_from_key t = ⊎_elim (λ a. inl (t.door, a.0, a.1)) (λ a. inr (t.door, s.all t.door t.door_in (λ j _ hj. a.0 j hj), a.1)) t.how

module _ (bc ac : List ℕ) (K d common : ℕ) (g : Group) (within : (d : ℕ) → Has g.doors d → d < length bc) (s : Shared bc K g.doors common) where
  pub column_from_lacks : Has g.doors d → Lacks common (get_or ac d 0) → ColumnTouches bc ac K d g
  column_from_lacks h a =
      record { door = h; key = a.0; key_in = s.inside a.0 a.1; opened = λ e he. s.each e a.0 (within e he) he a.1; lost = a.2 }

  pub lacks_from_column : ColumnTouches bc ac K d g → Lacks common (get_or ac d 0)
  lacks_from_column t = (t.key, s.all t.key t.key_in (λ e _ he. t.opened e he), t.lost)
