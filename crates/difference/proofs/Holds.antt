-- What the table holds, with more and more put to it.
use Rattle.std.proofs.Common.{◌≡◌, ℕ, ◌+◌, ◌-◌, ◌<◌, ◌≤◌, ◌⊎◌, List, ◌++◌, map, length, take, drop, Some, None, sym, ap, ◌∙◌, subst, inl, inr, ⊎_elim, arith, length-append}
use Rattle.std.proofs.lemmas.Bool.{cases_lt, true≢false}
use Rattle.std.proofs.lemmas.List.{get_or_append_left, get_or-append_right, get_or-take, get_or-drop, length-take, length-drop, length-take-le, length-map, get_or-map}
use Rattle.groups.specs.declared.group.Group.{Group}
use Rattle.groups.specs.Orders.{group_before}
use Rattle.groups.specs.Plans.{Ascending, nothing, flip}
use Rattle.groups.proofs.Orders.{irreflexive}
use Rattle.difference.specs.Places.{Held, Drawn, Sieved, Turning, Many, Same, Outcome, at}

-- what passes the sieve is put to what is held
module _ {P Q E : Group → Type 0} {T T' : List Group} {from count fresh c : ℕ} (hp : Held P T from count) (hq : Held Q T count fresh)
    (s : Sieved E T T' count fresh c) (long : length T' ≡ length T)
    (to : (g : Group) → Q g → E g → P g) (back : (g : Group) → Q g → P g → E g) where
  from_source : (i : ℕ) → count ≤ i → i < c → Q (at T' i) × (P (at T' i) → ⊥)
  from_source i l h =
      let f = s.source i l h in
      let q : Q (at T' i) = subst Q (sym f.3) (hq.sound f.0 f.1 f.2) in
      (q, λ p. f.4 (back (at T' i) q p))

  both_sound : (i : ℕ) → from ≤ i → i < c → P (at T' i) ⊎ Q (at T' i)
  both_sound i l h =
      ⊎_elim (λ b. inl (subst P (sym (s.kept i b)) (hp.sound i l b))) (λ b. inr (from_source i b h).0) (cases_lt i count)

  both_apart : (i k : ℕ) → from ≤ i → i < k → k < c → at T' i ≡ at T' k → ⊥
  both_apart i k l m h e =
      ⊎_elim (λ b. hp.apart i k l m b (sym (s.kept i (omega arith)) ∙ e ∙ s.kept k b))
      (λ b. ⊎_elim (λ a. (from_source k b h).1 (subst P (sym (s.kept i a) ∙ e) (hp.sound i l a))) (λ a. s.apart i k a m h e) (cases_lt i count))
      (cases_lt k count)

  both_complete : (g : Group) → P g ⊎ Q g → (i : ℕ) × (from ≤ i) × (i < c) × (at T' i ≡ g)
  both_complete g r =
      let old : P g → (i : ℕ) × (from ≤ i) × (i < c) × (at T' i ≡ g) =
      λ p. let f = hp.complete g p in (f.0, f.1, omega (arith, f.2, s.low), s.kept f.0 f.2 ∙ f.3) in
      ⊎_elim old
      (λ q. let f = hq.complete g q in
      ⊎_elim (λ x. old (to g q (subst E f.3 x))) (λ x. (x.0, omega (arith, x.1, hp.low), x.2, x.3 ∙ f.3)) (s.found f.0 f.1 f.2)) r

  pub sieved_held : Held (λ g. P g ⊎ Q g) T' from c
  sieved_held =
      record { low = omega (arith, hp.low, s.low); high = omega (arith, hq.high, s.high); sound = both_sound; apart = both_apart; complete = both_complete }

pub reheld : {P Q : Group → Type 0} {T : List Group} {from end : ℕ} → Held P T from end → ((g : Group) → P g → Q g) → ((g : Group) → Q g → P g) → Held Q T from end
reheld h to back =
    record { low = h.low; high = h.high; sound = λ i l m. to _ (h.sound i l m); apart = h.apart; complete = λ g q. h.complete g (back g q) }

pub held_moved : {P : Group → Type 0} {T T' : List Group} {from end : ℕ} → Held P T from end → Same T T' end → length T' ≡ length T → Held P T' from end
held_moved {P} h same long =
    record {
      low = h.low;
      high = omega (arith, h.high);
      sound = λ i l m. subst P (sym (same i m)) (h.sound i l m);
      apart = λ i k l m n e. h.apart i k l m n (sym (same i (omega arith)) ∙ e ∙ same k n);
      complete = λ g p. let f = h.complete g p in (f.0, f.1, f.2, same f.0 f.2 ∙ f.3);
    }

pub drawn : {P Q : Group → Type 0} {T : List Group} {from end : ℕ} → Held P T from end → ((g : Group) → P g → Q g) → Drawn Q T from end
drawn h to = record { low = h.low; high = h.high; sound = λ i l m. to _ (h.sound i l m); apart = h.apart }

pub turned_held : {P : Group → Type 0} {T T' : List Group} {from end : ℕ} → Held P T from end → Turning T T' from end → length T' ≡ length T → Held (λ g. P (flip g)) T' from end
turned_held {P} h t long =
    record {
      low = h.low;
      high = omega (arith, h.high);
      sound = λ i l m. subst (λ (g : Group). P (flip g)) (sym (t.turned i l m)) (h.sound i l m);
      apart = λ i k l m n e. h.apart i k l m n (ap flip (sym (t.turned i l (omega arith)) ∙ e ∙ t.turned k (omega arith) n));
      complete = λ g p. let f = h.complete (flip g) p in (f.0, f.1, f.2, t.turned f.0 f.1 f.2 ∙ ap flip f.3);
    }

-- more than `limit` are held
pub held_many : {P N : Group → Type 0} {T : List Group} {from end : ℕ} (limit : ℕ) → Held P T from end → limit < end - from → ((g : Group) → P g → N g) → Many N limit
held_many {P} {N} {T} {from} {end} limit h more to =
    let l : List Group = take (end - from) (drop from T) in
    let long : length l ≡ end - from = omega (arith, length-take (end - from) (drop from T), length-drop from T, h.high) in
    let is : (i : ℕ) → i < end - from → at l i ≡ at T (from + i) = λ i m. get_or-take (end - from) (drop from T) i nothing m ∙ get_or-drop from T i nothing in
    record {
      list = l;
      more = omega arith;
      sound = λ i m. subst N (sym (is i (omega arith))) (to _ (h.sound (from + i) (omega arith) (omega arith)));
      apart = λ i k m n e. h.apart (from + i) (from + k) (omega arith) (omega arith) (omega arith) (sym (is i (omega arith)) ∙ e ∙ is k (omega arith));
    }

-- an ascending list has nothing twice
once : (l : List Group) → Ascending l → (i k : ℕ) → i < k → k < length l → at l i ≡ at l k → ⊥
once l a i k m h e = true≢false (sym (a i k m h) ∙ ap (λ (z : Group). group_before z (at l k)) e ∙ irreflexive (at l k))

-- what a search writes
module _ {P : Group → Type 0} (T T' : List Group) (count c : ℕ) (room : count ≤ length T) (o : Outcome P T T' count (Some c)) where
  in_list : (i : ℕ) → i < length o.list → at T' (count + i) ≡ at o.list i
  in_list i l =
      let e : length (take count T) ≡ count = length-take-le count T room in
      ap (λ (u : List Group). at u (count + i)) o.result.2
      ∙ get_or-append_right (take count T) (o.list ++ drop c T) count (count + i) nothing e (omega arith)
      ∙ ap (at (o.list ++ drop c T)) (let q : count + i - count ≡ i = omega arith in q)
      ∙ get_or_append_left o.list (drop c T) nothing i l

  pub fresh_long : length T' ≡ length T
  fresh_long =
      omega (arith, ap (length {A = Group}) o.result.2, length-append (take count T) (o.list ++ drop c T), length-append o.list (drop c T), length-take-le count T room, length-drop c T, o.result.0, o.result.1)

  place : (i : ℕ) → count ≤ i → i < c → (j : ℕ) × (j < length o.list) × (count + j ≡ i)
  place i l h = (i - count, omega (arith, o.result.0), omega arith)

  spot : (i j : ℕ) → j < length o.list → count + j ≡ i → at T' i ≡ at o.list j
  spot i j l e = ap (at T') (sym e) ∙ in_list j l

  pub fresh_held : Held P T' count c
  fresh_held =
      record {
        low = omega (arith, o.result.0);
        high = omega (arith, o.result.1, fresh_long);
        sound = λ i l h. let j = place i l h in subst P (sym (spot i j.0 j.1 j.2)) (o.lists.sound j.0 j.1);
        apart = λ i k l m n e.
            let a = place i l (omega arith) in
            let b = place k (omega arith) n in
            once o.list o.lists.ascends a.0 b.0 (omega (arith, a.2, b.2)) b.1 (sym (spot i a.0 a.1 a.2) ∙ e ∙ spot k b.0 b.1 b.2);
        complete = λ g p.
            let s = o.lists.complete g p in
            (count + s.0, omega arith, omega (arith, o.result.0, s.1), in_list s.0 s.1 ∙ s.2);
      }

  pub fresh_kept : Same T T' count
  fresh_kept i l =
      ap (λ (u : List Group). at u i) o.result.2
      ∙ get_or_append_left (take count T) (o.list ++ drop c T) nothing i (omega (arith, length-take-le count T room)) ∙ get_or-take count T i nothing l

pub full_kept : {P : Group → Type 0} (T T' : List Group) (count : ℕ) → Outcome P T T' count None → Same T T' count
full_kept T T' count o i l =
    sym (get_or-take count T' i nothing l) ∙ ap (λ (u : List Group). at u i) o.result.1 ∙ get_or-take count T i nothing l

pub full_many : {P N : Group → Type 0} (T T' : List Group) (count limit : ℕ) → Outcome P T T' count None → count + limit ≤ length T → ((g : Group) → P g → N g) → Many N limit
full_many {P} {N} T T' count limit o room to =
    record {
      list = o.list;
      more = omega (arith, o.result.0);
      sound = λ i l. to _ (o.lists.sound i l);
      apart = λ i k l m e. once o.list o.lists.ascends i k l m e;
    }

pub many_flip : {N : Group → Type 0} {limit : ℕ} → Many (λ g. N (flip g)) limit → Many N limit
many_flip {N} {limit} m =
    let is : (i : ℕ) → i < length m.list → at (map flip m.list) i ≡ flip (at m.list i) = λ i l. get_or-map flip m.list i nothing nothing l in
    let long : length (map flip m.list) ≡ length m.list = length-map m.list flip in
    record {
      list = map flip m.list;
      more = omega (arith, m.more);
      sound = λ i l. subst N (sym (is i (omega arith))) (m.sound i (omega arith));
      apart = λ i k l n e. m.apart i k l (omega arith) (ap flip (sym (is i (omega arith)) ∙ e ∙ is k (omega arith)));
    }
