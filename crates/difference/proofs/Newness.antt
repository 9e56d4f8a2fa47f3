-- A group of the later plan is none of the earlier exactly where some key or some door touches it.
use Rattle.std.proofs.Common.{◌≡◌, ℕ, ◌^◌, ◌<◌, ◌⊎◌, List, length, get_or, sym, subst, inl, inr, ⊎_elim, arith}
use Rattle.std.proofs.lemmas.Bool.{cases_eq}
use Rattle.masks.specs.Masks.{bit, Has}
use Rattle.masks.proofs.Bitlaws.{below_has}
use Rattle.groups.specs.declared.group.Group.{Group}
use Rattle.groups.specs.Plans.{Opens, IsGroup, New}
use Rattle.difference.specs.Changes.{KeyTouches, DoorTouches, Touched, Sofar}
use Rattle.difference.proofs.Chosen.{some_below, both_of, not_of, sure}

has_or_not : (x i : ℕ) → Has x i ⊎ (Has x i → ⊥)
has_or_not x i = cases_eq (bit x i) 1

module _ (bs rs : List ℕ) (D : ℕ) (same : length bs ≡ length rs) where
  -- what touches the group says that it is new
  key_new : (u : ℕ) (g : Group) → IsGroup rs D g → KeyTouches bs rs D u g → IsGroup bs D g → ⊥
  key_new u g p t q =
      ⊎_elim (λ a. a.1 (q.shared u t.door t.key a.0))
      (λ a. a.1 (p.shared u t.door t.key (q.doors_all t.door t.door_in a.0))) t.how

  door_new : (v : ℕ) (g : Group) → IsGroup rs D g → DoorTouches bs rs v g → IsGroup bs D g → ⊥
  door_new v g p t q = t.lost (p.shared t.key v (q.keys_all t.key (omega (arith, t.key_in)) t.opened) t.door)

  pub touch_new : (u v : ℕ) (g : Group) → IsGroup rs D g → Touched bs rs D u v g → IsGroup bs D g → ⊥
  touch_new u v g p t q = ⊎_elim (λ a. key_new a.0 g p a.2 q) (λ a. door_new a.0 g p a.2 q) t

  module _ (g : Group) (p : IsGroup rs D g) where
    key_in : (k : ℕ) → Has g.keys k → k < length rs
    key_in k h = below_has (length rs) g.keys k p.keys_below h

    door_in : (d : ℕ) → Has g.doors d → d < D
    door_in d h = below_has D g.doors d p.doors_below h

    abbrev Gained : ℕ → ℕ → Type 0
    Gained k d = Has g.keys k × (Has g.doors d × (Opens bs k d → ⊥))

    -- some pair of the group that was not there before
    some_gained : ((k : ℕ) × (k < length rs) × ((d : ℕ) × (d < D) × Gained k d)) ⊎ ((k : ℕ) → k < length rs → ((d : ℕ) × (d < D) × Gained k d) → ⊥)
    some_gained =
        some_below (λ k. (d : ℕ) × (d < D) × Gained k d) (length rs)
        (λ k lk. ⊎_elim (λ f. inl f) (λ none. inr (λ f. none f.0 f.1 f.2))
        (some_below (λ d. Gained k d) D (λ d ld. both_of (has_or_not g.keys k) (both_of (has_or_not g.doors d) (not_of (has_or_not (get_or bs k 0) d))))))

    -- all keys of the group open the door d, or one does not
    all_keys : (ps : List ℕ) (d : ℕ) → ((k : ℕ) × Has g.keys k × (Opens ps k d → ⊥)) ⊎ ((k : ℕ) → Has g.keys k → Opens ps k d)
    all_keys ps d =
        ⊎_elim (λ f. inl (f.0, f.2.0, f.2.1))
        (λ none. inr (λ k h. sure (has_or_not (get_or ps k 0) d) (λ n. none k (key_in k h) (h, n))))
        (some_below (λ k. Has g.keys k × (Opens ps k d → ⊥)) (length rs)
        (λ k l. both_of (has_or_not g.keys k) (not_of (has_or_not (get_or ps k 0) d))))

    all_doors : (ps : List ℕ) (k : ℕ) → ((d : ℕ) × Has g.doors d × (Opens ps k d → ⊥)) ⊎ ((d : ℕ) → Has g.doors d → Opens ps k d)
    all_doors ps k =
        ⊎_elim (λ f. inl (f.0, f.2.0, f.2.1))
        (λ none. inr (λ d h. sure (has_or_not (get_or ps k 0) d) (λ n. none d (door_in d h) (h, n))))
        (some_below (λ d. Has g.doors d × (Opens ps k d → ⊥)) D
        (λ d l. both_of (has_or_not g.doors d) (not_of (has_or_not (get_or ps k 0) d))))

    abbrev JoinableDoor : ℕ → Type 0
    JoinableDoor d = ((k : ℕ) → Has g.keys k → Opens bs k d) × (Has g.doors d → ⊥)

    abbrev JoinableKey : ℕ → Type 0
    JoinableKey k = ((d : ℕ) → Has g.doors d → Opens bs k d) × (Has g.keys k → ⊥)

    some_door : ((d : ℕ) × (d < D) × JoinableDoor d) ⊎ ((d : ℕ) → d < D → JoinableDoor d → ⊥)
    some_door =
        some_below JoinableDoor D
        (λ d l. both_of (⊎_elim (λ f. inr (λ all. f.2 (all f.0 f.1))) (λ all. inl all) (all_keys bs d)) (not_of (has_or_not g.doors d)))

    some_key : ((k : ℕ) × (k < length rs) × JoinableKey k) ⊎ ((k : ℕ) → k < length rs → JoinableKey k → ⊥)
    some_key =
        some_below JoinableKey (length rs)
        (λ k l. both_of (⊎_elim (λ f. inr (λ all. f.2 (all f.0 f.1))) (λ all. inl all) (all_doors bs k)) (not_of (has_or_not g.keys k)))

    gained : (k d : ℕ) → d < D → Gained k d → Touched bs rs D (length rs) D g
    gained k d ld a = inl (k, key_in k a.0, record { key = a.0; door = d; door_in = ld; how = inl (a.1.0, a.1.1) })

    lost_door : (d : ℕ) → d < D → JoinableDoor d → Touched bs rs D (length rs) D g
    lost_door d ld j =
        ⊎_elim (λ f. inl (f.0, key_in f.0 f.1, record { key = f.1; door = d; door_in = ld; how = inr (j.0, f.2) }))
        (λ all. absurd (j.1 (p.doors_all d ld all))) (all_keys rs d)

    lost_key : (k : ℕ) → k < length rs → JoinableKey k → Touched bs rs D (length rs) D g
    lost_key k lk j =
        ⊎_elim (λ f. inr (f.0, door_in f.0 f.1, record { door = f.1; key = k; key_in = lk; opened = j.0; lost = f.2 }))
        (λ all. absurd (j.1 (p.keys_all k lk all))) (all_doors rs k)

    -- a group of the later plan is one of the earlier, or it is touched
    pub new_touch : IsGroup bs D g ⊎ Touched bs rs D (length rs) D g
    new_touch =
        ⊎_elim (λ f. inr (gained f.0 f.2.0 f.2.1 f.2.2))
        (λ none. ⊎_elim (λ f. inr (lost_door f.0 f.1 f.2))
        (λ no-door. ⊎_elim (λ f. inr (lost_key f.0 f.1 f.2))
        (λ no_key. inl (record {
          keys_below = subst (λ (n : ℕ). g.keys < 2 ^ n) (sym same) p.keys_below;
          doors_below = p.doors_below;
          some_key = p.some_key;
          some_door = p.some_door;
          shared = λ k d hk hd. sure (has_or_not (get_or bs k 0) d) (λ n. none k (key_in k hk) (d, door_in d hd, (hk, (hd, n))));
          doors_all = λ d ld all. sure (has_or_not g.doors d) (λ n. no-door d ld (all, n));
          keys_all = λ k lk all. sure (has_or_not g.keys k) (λ n. no_key k (omega arith) (all, n));
        })) some_key) some_door) some_gained

  pub new_sofar : (g : Group) → New bs rs D g → Sofar bs rs D (length rs) D g
  new_sofar g n = (n.0, ⊎_elim (λ old. absurd (n.1 old)) (λ t. t) (new_touch g n.0))

  pub sofar_new : (u v : ℕ) (g : Group) → Sofar bs rs D u v g → New bs rs D g
  sofar_new u v g s = (s.0, touch_new u v g s.0 s.1)
