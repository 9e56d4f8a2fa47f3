-- The steps of the search: what a state lists, and the states that follow it.
use Rattle.std.proofs.Common.{◌≡◌, ℕ, ◌-◌, ◌^◌, ◌<◌, ◌≤◌, not, eqb, ◌⊎◌, List, [], ◌∷◌, ◌++◌, length, get_or, filter, subst, inl, inr, ⊎_elim, arith, pow_mono}
use lib.Bits.{bit_and, bit_or, and_le_l}
use Rattle.std.proofs.lemmas.Bool.{cases_eq, not-true, not_from_false, eqb-false, ne_eqb}
use Rattle.masks.specs.Masks.{bit, Has, Within}
use Rattle.masks.proofs.Bitlaws.{bit_cases, bit_not, has_and, and_has, has_or, or_has, none_has, same_sets, below_has, has_below, full_has}
use Rattle.groups.specs.declared.group.Group.{Group}
use Rattle.groups.specs.Plans.{Opens, Listing}
use Rattle.groups.proofs.Listings.{none_listing, one_listing, merge, only_listing}
use Rattle.groups.proofs.Orders.{same_group}
use Rattle.search.specs.Nodes.{Shares, Closes, IsNode}
use Rattle.search.specs.Parts.{scope_list}
use Rattle.search.proofs.Closings.{all_below, all_open, all_keys, some_from, some_to}
use Rattle.search.proofs.Kept.{kept_listing}
use Rattle.masks.proofs.Ascending.{Peeled}
use Rattle.search.proofs.Peels.{has_zero, part_less, above_less}
use Rattle.search.proofs.Scopes.{Marks, Scope, some_bit, scope_listing, test_apart}

-- `x & !y`, by numbers
pub has_less : (x y i : ℕ) → y < 2 ^ 64 → i < 64 → Has x i → (Has y i → ⊥) → Has (bit_and x (2 ^ 64 - 1 - y)) i
has_less x y i h l p n = has_and x (2 ^ 64 - 1 - y) i p (⊎_elim (λ (e : Has y i). absurd (n e)) (λ (z : bit y i ≡ 0). omega (arith, bit_not 64 y i h l)) (bit_cases y i))

pub less_has : (x y i : ℕ) → y < 2 ^ 64 → i < 64 → Has (bit_and x (2 ^ 64 - 1 - y)) i → Has x i × (Has y i → ⊥)
less_has x y i h l p =
    let q = and_has x (2 ^ 64 - 1 - y) i p in
    (q.0, λ e. let m = q.1 in absurd (omega (arith, bit_not 64 y i h l)))

-- `rest` is what is left of `free` once it is taken from the lowest on
pub record Upper (free rest : ℕ) : Type 0 where
  pub part : Within rest free
  pub under : (i r : ℕ) → Has free i → (Has rest i → ⊥) → Has rest r → i < r

pub upper_start : (free : ℕ) → Upper free free
upper_start free = record { part = λ i h. h; under = λ i r h n p. absurd (n h) }

pub upper_next : {free rest j r : ℕ} → Upper free rest → Peeled rest j r → Upper free r
upper_next {free} {rest} {j} {r} u p =
    record {
      part = λ i h. u.part i (p.part i h);
      under = λ i k h n q.
          ⊎_elim (λ (m : Has rest i). ⊎_elim (λ (e : i ≡ j). let l = p.above k q in omega arith) (λ (s : Has r i). absurd (n s)) (p.split i m))
          (λ m. u.under i k h m (p.part k q)) (cases_eq (bit rest i) 1);
    }

module _ {rows cols watched : List ℕ} {D x off n m free : ℕ} (node : IsNode rows cols watched D x off n m free) where
  abbrev lists : ℕ → ℕ → List Group
  lists y o = scope_list rows D watched y o

  listing : (y o : ℕ) → Listing (Scope rows D watched y o) (lists y o)
  listing y o = scope_listing rows D watched node.long node.watch_long y o

  -- a key of a group is a key of the plan
  key_below : {y o : ℕ} {g : Group} → Scope rows D watched y o g → (k : ℕ) → Has g.keys k → k < 64
  key_below {y} {o} {g} s k h = let l = below_has (length rows) g.keys k s.group.keys_below h in omega (arith, node.long)

  -- the doors of a group with all keys of x are among those at hand, and each of its keys opens one
  inside : {o : ℕ} {g : Group} → Scope rows D watched x o g → Within g.doors n
  inside {o} {g} s d h = node.doors_all d (below_has D g.doors d s.group.doors_below h) (λ k hk. s.group.shared k d (s.has k hk) h)

  a_door : {y o : ℕ} {g : Group} → Scope rows D watched y o g → (d : ℕ) × Has g.doors d
  a_door {y} {o} {g} s =
      let l : g.doors < 2 ^ 64 = omega (arith, s.group.doors_below, pow_mono (let q : D ≤ 64 = omega (arith, node.few) in q)) in
      some_bit g.doors l (λ e. omega (arith, s.group.some_door))

  opens_one : {o : ℕ} {g : Group} → Scope rows D watched x o g → (k : ℕ) → Has g.keys k → ((d : ℕ) → Has n d → Opens rows k d → ⊥) → ⊥
  opens_one s k h f = let d = a_door s in f d.0 (inside s d.0 d.1) (s.group.shared k d.0 h d.1)

  -- ---- the node itself
  only_keys : {g : Group} → Scope rows D watched x (bit_or off free) g → Within g.keys x
  only_keys s k h =
      ⊎_elim (λ (i : Has x k). i)
      (⊎_elim (λ (o : Has off k). absurd (s.lacks k (has_or off free k (inl o)) h))
      (⊎_elim (λ (f : Has free k). absurd (s.lacks k (has_or off free k (inr f)) h)) (λ q. absurd (opens_one s k h q))))
      (node.decided k (key_below s k h))

  only_doors : {g : Group} → Scope rows D watched x (bit_or off free) g → Within n g.doors
  only_doors s d h = s.group.doors_all d (node.doors_below d h) (λ k hk. node.shared k d (only_keys s k hk) h)

  abbrev here : Group
  here = record { keys = x; doors = n }

  here_scope : (x ≡ 0 → ⊥) → Scope rows D watched x (bit_or off free) here
  here_scope ne =
      let b = some_bit m node.mark_fits (λ e. omega (arith, node.some_mark)) in
      record {
        group = record {
          keys_below = has_below (length rows) x (λ k h. let l = node.keys_below k h in omega (arith, node.long));
          doors_below = has_below D n node.doors_below;
          some_key = omega arith;
          some_door = node.some_door;
          shared = node.shared;
          doors_all = node.doors_all;
          keys_all = λ k l all. node.keys_all k (omega (arith, node.long)) all;
        };
        has = λ k h. h;
        lacks = λ k o h.
            ⊎_elim (λ (p : Has off k). node.apart k h p) (λ (p : Has free k). node.free_apart k p h) (or_has off free k o);
        marked = (b.0, below_has 64 m b.0 node.mark_fits b.1, λ k h. node.marked.in_all b.0 k b.1 h);
      }

  pub here_list : (x ≡ 0 → ⊥) → lists x (bit_or off free) ≡ here ∷ []
  here_list ne =
      only_listing (lists x (bit_or off free)) (here ∷ []) (listing x (bit_or off free))
      (one_listing here (here_scope ne) (λ g s. same_group here g (same_sets x g.keys s.has (only_keys s)) (same_sets n g.doors (only_doors s) (inside s))))

  pub empty_list : x ≡ 0 → lists x (bit_or off free) ≡ []
  empty_list e =
      only_listing (lists x (bit_or off free)) [] (listing x (bit_or off free))
      (none_listing (λ g s. let q = same_sets x g.keys s.has (only_keys s) in omega (arith, s.group.some_key)))

  -- ---- what has none of the rest comes before what has one of them
  module _ {rest : ℕ} (small : rest < 2 ^ 64) (up : Upper free rest) where
    in_order : {g h : Group} → Scope rows D watched x (bit_or off rest) g → Scope rows D watched x off h → (i : ℕ) → Has rest i → Has h.keys i → g.keys < h.keys
    in_order {g} {h} s t i r p =
        above_less g.keys h.keys i i
        (λ k l q.
        ⊎_elim (λ (e : Has x k). t.has k e)
        (⊎_elim (λ (o : Has off k). absurd (s.lacks k (has_or off rest k (inl o)) q))
        (⊎_elim
        (λ (f : Has free k). absurd (s.lacks k (has_or off rest k (inr (⊎_elim (λ (e : Has rest k). e) (λ e. let z = up.under k i f e r in absurd (omega arith)) (cases_eq (bit rest k) 1)))) q))
        (λ z. absurd (opens_one s k q z))))
        (node.decided k (key_below s k q)))
        (omega arith) p (λ q. s.lacks i (has_or off rest i (inr r)) q)

    from_rest : (g : Group) → Scope rows D watched x (bit_or off rest) g → Scope rows D watched x off g
    from_rest g s = record { group = s.group; has = s.has; lacks = λ k o. s.lacks k (has_or off rest k (inl o)); marked = s.marked }

    -- what is still to come
    abbrev pub to_come : List Group
    to_come = filter (λ g. not (eqb (bit_and rest g.keys) 0)) (lists x off)

    pub tail_list : lists x off ≡ lists x (bit_or off rest) ++ to_come
    tail_list =
        only_listing (lists x off) (lists x (bit_or off rest) ++ to_come) (listing x off)
        (merge (lists x (bit_or off rest)) to_come (listing x (bit_or off rest)) (kept_listing (λ g. not (eqb (bit_and rest g.keys) 0)) (lists x off) (listing x off))
        (λ g h s t.
        let b : ℕ = bit_and rest h.keys in
        let i = some_bit b (omega (arith, and_le_l rest h.keys)) (eqb-false b 0 (not-true (eqb b 0) t.1)) in
        let q = and_has rest h.keys i.0 i.1 in
        in_order s t.0 i.0 q.0 q.1)
        from_rest (λ g t. t.0)
        (λ g s.
        ⊎_elim
        (λ (e : bit_and rest g.keys ≡ 0). inl (record { group = s.group; has = s.has; marked = s.marked; lacks = λ k o h. ⊎_elim (λ (p : Has off k). s.lacks k p h) (λ (p : Has rest k). test_apart rest g.keys e k p h) (or_has off rest k o) }))
        (λ ne. inr (s, not_from_false (eqb (bit_and rest g.keys) 0) (ne_eqb (bit_and rest g.keys) 0 ne)))
        (cases_eq (bit_and rest g.keys) 0)))

    -- ---- one more key, the lowest of the rest
    module _ {j r c s : ℕ} (peel : Peeled rest j r) (closes : Closes cols (bit_and n (get_or rows j 0)) c s) where
      abbrev with : ℕ
      with = bit_and n (get_or rows j 0)

      abbrev out : ℕ
      out = bit_or off r

      free_j : Has free j
      free_j = up.part j peel.low

      door_below : (d : ℕ) → Has with d → d < D
      door_below d h = node.doors_below d (and_has n (get_or rows j 0) d h).0

      -- the keys that open all doors at hand
      c_below : (k : ℕ) → Has c k → k < 64
      c_below = all_below node.reads door_below closes

      c_opens : (k d : ℕ) → Has c k → Has with d → Opens rows k d
      c_opens = all_open node.reads door_below closes

      c_all : (k : ℕ) → k < 64 → Within with (get_or rows k 0) → Has c k
      c_all = all_keys node.reads door_below closes

      x_in_c : Within x c
      x_in_c k h = c_all k (node.keys_below k h) (λ d w. node.shared k d h (and_has n (get_or rows j 0) d w).0)

      j_in_c : Has c j
      j_in_c = c_all j peel.small (λ d w. (and_has n (get_or rows j 0) d w).1)

      -- the groups with x and j are those with c
      from_c : (g : Group) → Scope rows D watched c out g → Scope rows D watched x out g
      from_c g t = record { group = t.group; has = λ k h. t.has k (x_in_c k h); lacks = t.lacks; marked = t.marked }

      to_c : (g : Group) → Scope rows D watched x out g → Has g.keys j → Scope rows D watched c out g
      to_c g t hj =
          record {
            group = t.group;
            has = λ k h. t.group.keys_all k (let l = c_below k h in omega (arith, node.long))
                (λ d hd. c_opens k d h (has_and n (get_or rows j 0) d (inside t d hd) (t.group.shared j d hj hd)));
            lacks = t.lacks;
            marked = t.marked;
          }

      wider : (g : Group) → Scope rows D watched x out g → Scope rows D watched x off g
      wider g t = record { group = t.group; has = t.has; lacks = λ k o. t.lacks k (has_or off r k (inl o)); marked = t.marked }

      pub step_list : lists x out ≡ lists x (bit_or off rest) ++ lists c out
      step_list =
          only_listing (lists x out) (lists x (bit_or off rest) ++ lists c out) (listing x out)
          (merge (lists x (bit_or off rest)) (lists c out) (listing x (bit_or off rest)) (listing c out)
          (λ g h p q. in_order p (wider h (from_c h q)) j peel.low (q.has j j_in_c))
          (λ g p. record { group = p.group; has = p.has; marked = p.marked; lacks = λ k o. p.lacks k (⊎_elim (λ (e : Has off k). has_or off rest k (inl e)) (λ (e : Has r k). has_or off rest k (inr (peel.part k e))) (or_has off r k o)) })
          from_c
          (λ g t.
          ⊎_elim (λ (e : Has g.keys j). inr (to_c g t e))
          (λ ne. inl (record {
            group = t.group;
            has = t.has;
            marked = t.marked;
            lacks = λ k o h.
                ⊎_elim (λ (p : Has off k). t.lacks k (has_or off r k (inl p)) h)
                (λ (p : Has rest k). ⊎_elim (λ (e : k ≡ j). ne (subst (λ (v : ℕ). Has g.keys v) e h)) (λ (q : Has r k). t.lacks k (has_or off r k (inr q)) h) (peel.split k p))
                (or_has off rest k o);
          }))
          (cases_eq (bit g.keys j) 1)))

      -- the ways that need no look
      pub out_list : (bit_and c out ≡ 0 → ⊥) → lists c out ≡ []
      out_list ne =
          only_listing (lists c out) [] (listing c out)
          (none_listing (λ g t. ne (none_has (bit_and c out) (λ k h. let q = and_has c out k h in t.lacks k q.1 (t.has k q.0)))))

      module _ {m' : ℕ} (marks : Shares watched m (Has (bit_and c (2 ^ 64 - 1 - x))) m') where
        x_fits : x < 2 ^ 64
        x_fits = has_below 64 x node.keys_below

        marked_all : (b : ℕ) → b < 64 → Marks watched c b → Has m' b
        marked_all b l f =
            marks.all b (node.marked.all b (full_has 64 b l) (λ k h. f k (x_in_c k h)))
            (λ k h. f k (and_has c (2 ^ 64 - 1 - x) k h).0)

        marked_in : (b k : ℕ) → Has m' b → Has c k → Has (get_or watched k 0) b
        marked_in b k h hc =
            ⊎_elim (λ (e : Has x k). node.marked.in_all b k (marks.before b h) e)
            (λ ne. marks.in_all b k h (has_less c x k x_fits (c_below k hc) hc ne)) (cases_eq (bit x k) 1)

        pub mark_list : m' ≡ 0 → lists c out ≡ []
        mark_list e =
            only_listing (lists c out) [] (listing c out)
            (none_listing (λ g t. has_zero t.marked.0 (subst (λ (v : ℕ). Has v t.marked.0) e
            (marked_all t.marked.0 t.marked.1 (λ k h. t.marked.2 k (t.has k h))))))

        -- ---- the next node
        module _ (apart : bit_and c out ≡ 0) (some : m' ≡ 0 → ⊥) where
          abbrev left : ℕ
          left = bit_and (bit_and s free) (2 ^ 64 - 1 - bit_or c r)

          held_fits : bit_or c r < 2 ^ 64
          held_fits = has_below 64 (bit_or c r) (λ k h. ⊎_elim (λ (p : Has c k). c_below k p) (λ (p : Has r k). node.free_below k (up.part k (peel.part k p))) (or_has c r k h))

          left_free : (k : ℕ) → Has left k → Has s k × Has free k
          left_free k h = and_has s free k (and_has (bit_and s free) (2 ^ 64 - 1 - bit_or c r) k h).0

          left_not : (k : ℕ) → Has left k → Has (bit_or c r) k → ⊥
          left_not k h = (less_has (bit_and s free) (bit_or c r) k held_fits (node.free_below k (left_free k h).1) h).1

          pub left_falls : left < free
          left_falls = part_less left free j (λ k h. (left_free k h).1) free_j (λ h. left_not j h (has_or c r j (inl j_in_c)))

          next_decided : (k : ℕ) → k < 64 → Has c k ⊎ (Has out k ⊎ (Has left k ⊎ ((d : ℕ) → Has with d → Opens rows k d → ⊥)))
          next_decided k l =
              ⊎_elim (λ (e : Has c k). inl e)
              (λ nc.
              ⊎_elim (λ (e : Has x k). absurd (nc (x_in_c k e)))
              (⊎_elim (λ (e : Has off k). inr (inl (has_or off r k (inl e))))
              (⊎_elim
              (λ (f : Has free k).
              ⊎_elim (λ (e : Has r k). inr (inl (has_or off r k (inr e))))
              (λ nr.
              ⊎_elim (λ (e : Has s k). inr (inr (inl (has_less (bit_and s free) (bit_or c r) k held_fits l (has_and s free k e f) (λ q. ⊎_elim nc nr (or_has c r k q))))))
              (λ ns. inr (inr (inr (λ d h o. ns (some_to node.reads door_below closes k d h o))))) (cases_eq (bit s k) 1))
              (cases_eq (bit r k) 1))
              (λ f. inr (inr (inr (λ d h o. f d (and_has n (get_or rows j 0) d h).0 o))))))
              (node.decided k l))
              (cases_eq (bit c k) 1)

          next_some : 0 < with
          next_some =
              let o = node.free_opens j free_j in
              ⊎_elim (λ (e : with ≡ 0). absurd (has_zero o.0 (subst (λ (v : ℕ). Has v o.0) e (has_and n (get_or rows j 0) o.0 o.1 o.2))))
              (λ ne. omega arith) (cases_eq with 0)

          pub next_node : IsNode rows cols watched D c out with m' left
          next_node =
              record {
                long = node.long;
                reads = node.reads;
                few = node.few;
                some_door = next_some;
                doors_below = door_below;
                keys_below = c_below;
                shared = c_opens;
                doors_all = λ d l all. has_and n (get_or rows j 0) d (node.doors_all d l (λ k h. all k (x_in_c k h))) (all j j_in_c);
                keys_all = c_all;
                apart = test_apart c out apart;
                marked = record { before = λ b h. node.marked.before b (marks.before b h); in_all = marked_in; all = λ b h f. marked_all b (below_has 64 (2 ^ 64 - 1) b (omega arith) h) f };
                some_mark = omega arith;
                mark_fits = has_below 64 m' (λ b h. below_has 64 m b node.mark_fits (marks.before b h));
                watch_long = node.watch_long;
                free_below = λ k h. node.free_below k (left_free k h).1;
                free_apart = λ k h e. left_not k h (has_or c r k (inl e));
                free_opens = λ k h. some_from node.reads door_below closes k (left_free k h).0;
                decided = next_decided;
              }
