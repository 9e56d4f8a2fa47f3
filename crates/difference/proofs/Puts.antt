-- A family of groups put to those that are held.
use Rattle.std.proofs.Common.{◌≡◌, ℕ, ◌+◌, ◌*◌, ◌<◌, ◌≤◌, ◌⊎◌, List, length, get_or, Some, None, Option, sym, ◌∙◌, subst, inl, inr, ⊎_elim, arith}
use lib.Bits.{bit_or}
use Rattle.std.proofs.lemmas.Bool.{cases_eq}
use Rattle.groups.specs.declared.group.Group.{Group}
use Rattle.groups.specs.Plans.{IsGroup, New, Turned, flip}
use Rattle.difference.specs.Changes.{KeyTouches, DoorTouches, Touched, Sofar, OnlyIn, Meets}
use Rattle.difference.specs.Places.{Held, Drawn, Sieved, Turning, Many, Outcome, Same}
use Rattle.difference.proofs.Families.{meets_touch, touch_meets, key_still, meets_door, door_meets, door_still}
use Rattle.difference.proofs.Holds.{sieved_held, reheld, held_moved, drawn, turned_held, many_flip, fresh_held, fresh_kept, fresh_long, full_kept, full_many}
use Rattle.difference.proofs.Newness.{sofar_new}

-- what passes the sieve is put to what is held
pub grown : {P Q E R : Group → Type 0} {T T₂ T₃ : List Group} {from end fresh last : ℕ} → Held P T from end → Same T T₂ end → length T₂ ≡ length T
    → Held Q T₂ end fresh → Sieved E T₂ T₃ end fresh last → length T₃ ≡ length T₂
    → ((g : Group) → Q g → E g → P g) → ((g : Group) → P g → E g) → ((g : Group) → P g ⊎ Q g → R g) → ((g : Group) → R g → P g ⊎ Q g)
    → Same T T₃ from × Held R T₃ from last
grown hp kept long₂ hq s long₃ to back join part = (
  (λ i l. s.kept i (omega (arith, hp.low)) ∙ kept i (omega (arith, hp.low))),
  reheld (sieved_held (held_moved hp kept long₂) hq s long₃ to (λ g _ p. back g p)) join part,
)

module _ {bs rs : List ℕ} {D : ℕ} where
  -- one key more
  pub key_join : (u : ℕ) (g : Group) → Sofar bs rs D u 0 g ⊎ (IsGroup rs D g × KeyTouches bs rs D u g) → Sofar bs rs D (u + 1) 0 g
  key_join u g p =
      ⊎_elim (λ s. (s.0, ⊎_elim (λ a. inl (a.0, omega (arith, a.1), a.2)) (λ a. inr a) s.1)) (λ q. (q.0, inl (u, omega arith, q.1))) p

  pub key_part : (u : ℕ) (g : Group) → Sofar bs rs D (u + 1) 0 g → Sofar bs rs D u 0 g ⊎ (IsGroup rs D g × KeyTouches bs rs D u g)
  key_part u g s =
      ⊎_elim
      (λ a. ⊎_elim (λ (e : a.0 ≡ u). inr (s.0, subst (λ (k : ℕ). KeyTouches bs rs D k g) e a.2)) (λ ne. inl (s.0, inl (a.0, omega (arith, a.1), a.2))) (cases_eq a.0 u))
      (λ a. inl (s.0, inr a)) s.1

  -- one door more
  pub door_join : (u v : ℕ) (g : Group) → Sofar bs rs D u v g ⊎ (IsGroup rs D g × DoorTouches bs rs v g) → Sofar bs rs D u (v + 1) g
  door_join u v g p =
      ⊎_elim (λ s. (s.0, ⊎_elim (λ a. inl a) (λ a. inr (a.0, omega (arith, a.1), a.2)) s.1)) (λ q. (q.0, inr (v, omega arith, q.1))) p

  pub door_part : (u v : ℕ) (g : Group) → Sofar bs rs D u (v + 1) g → Sofar bs rs D u v g ⊎ (IsGroup rs D g × DoorTouches bs rs v g)
  door_part u v g s =
      ⊎_elim (λ a. inl (s.0, inl a))
      (λ a. ⊎_elim (λ (e : a.0 ≡ v). inr (s.0, subst (λ (d : ℕ). DoorTouches bs rs d g) e a.2)) (λ ne. inl (s.0, inr (a.0, omega (arith, a.1), a.2))) (cases_eq a.0 v))
      s.1

-- what a search left, at a number that is the same
pub met_at : {bs rs : List ℕ} {D D' u gained lost : ℕ} {T T' : List Group} {count : ℕ} {r : Option ℕ} → D ≡ D'
    → Outcome (Meets bs rs D u gained lost) T T' count r → Outcome (Meets bs rs D' u gained lost) T T' count r
met_at {bs} {rs} {D} {D'} {u} {gained} {lost} {T} {T'} {count} {r} e o = subst (λ (n : ℕ). Outcome (Meets bs rs n u gained lost) T T' count r) e o

-- ---- the family of a key

module _ {bs rs : List ℕ} {D u gained lost from end : ℕ} {T : List Group} (same : length rs ≡ length bs)
    (og : OnlyIn (get_or rs u 0) (get_or bs u 0) D gained) (ol : OnlyIn (get_or bs u 0) (get_or rs u 0) D lost) (hp : Held (Sofar bs rs D u 0) T from end) where
  pub key_none : bit_or gained lost ≡ 0 → Held (Sofar bs rs D (u + 1) 0) T from end
  key_none z =
      reheld hp (λ g s. key_join u g (inl s))
      (λ g s. ⊎_elim (λ p. p) (λ q. absurd (key_still bs rs D u gained lost og ol z g q.0 q.1)) (key_part u g s))

  pub key_full : (limit : ℕ) (T₁ : List Group) → end ≤ from + limit → from + 2 * limit ≤ length T → Outcome (Meets bs rs D u gained lost) T T₁ end None
      → Same T T₁ from × Many (New bs rs D) limit
  key_full limit T₁ l room o = (
    (λ i m. full_kept T T₁ end o i (omega (arith, hp.low))),
    full_many T T₁ end limit o (omega arith) (λ g q. sofar_new bs rs D (sym same) (u + 1) 0 g (key_join u g (inr (meets_touch bs rs D u gained lost og ol g q)))),
  )

  module _ (T₁ : List Group) (fresh : ℕ) (o : Outcome (Meets bs rs D u gained lost) T T₁ end (Some fresh)) where
    pub key_drawn : Drawn (IsGroup rs D) T₁ end fresh
    key_drawn = drawn (fresh_held T T₁ end fresh hp.high o) (λ g q. q.group)

    pub key_held : (T₂ : List Group) (last : ℕ) → Sieved (Touched bs rs D u 0) T₁ T₂ end fresh last → length T₂ ≡ length T₁ → Same T T₂ from × Held (Sofar bs rs D (u + 1) 0) T₂ from last
    key_held T₂ last s long =
        grown hp (fresh_kept T T₁ end fresh hp.high o) (fresh_long T T₁ end fresh hp.high o)
        (reheld (fresh_held T T₁ end fresh hp.high o) (meets_touch bs rs D u gained lost og ol) (touch_meets bs rs D u gained lost og ol)) s long
        (λ g q e. (q.0, e)) (λ g p. p.1) (key_join u) (key_part u)

-- ---- the family of a door

module _ {bs rs bc ac : List ℕ} {D v lost from end : ℕ} {T : List Group} (same : length rs ≡ length bs) (tb : Turned bs bc D) (ta : Turned rs ac D) (lv : v < D)
    (ol : OnlyIn (get_or bc v 0) (get_or ac v 0) (length bs) lost) (hp : Held (Sofar bs rs D (length bs) v) T from end) where
  pub door_none : lost ≡ 0 → Held (Sofar bs rs D (length bs) (v + 1)) T from end
  door_none z =
      reheld hp (λ g s. door_join (length bs) v g (inl s))
      (λ g s. ⊎_elim (λ p. p) (λ q. absurd (door_still bs rs bc ac D v same tb ta lv lost ol z g q.0 q.1)) (door_part (length bs) v g s))

  is_new : (g : Group) → Meets bc ac (length bs) v 0 lost (flip g) → New bs rs D g
  is_new g q = sofar_new bs rs D (sym same) (length bs) (v + 1) g (door_join (length bs) v g (inr (meets_door bs rs bc ac D v same tb ta lv lost ol g q)))

  pub door_full : (limit : ℕ) (T₁ : List Group) → end ≤ from + limit → from + 2 * limit ≤ length T → Outcome (Meets bc ac (length bs) v 0 lost) T T₁ end None
      → Same T T₁ from × Many (New bs rs D) limit
  door_full limit T₁ l room o =
      let m : Many (λ g. New bs rs D (flip g)) limit = full_many T T₁ end limit o (omega arith) (λ g q. is_new (flip g) q) in
      ((λ i l. full_kept T T₁ end o i (omega (arith, hp.low))), many_flip m)

  module _ (T₁ T₂ : List Group) (fresh : ℕ) (o : Outcome (Meets bc ac (length bs) v 0 lost) T T₁ end (Some fresh)) (tn : Turning T₁ T₂ end fresh) (long : length T₂ ≡ length T₁) where
    door_fresh : Held (λ g. IsGroup rs D g × DoorTouches bs rs v g) T₂ end fresh
    door_fresh =
        reheld (turned_held (fresh_held T T₁ end fresh hp.high o) tn long) (meets_door bs rs bc ac D v same tb ta lv lost ol) (door_meets bs rs bc ac D v same tb ta lv lost ol)

    pub door_drawn : Drawn (IsGroup rs D) T₂ end fresh
    door_drawn = drawn door_fresh (λ g q. q.0)

    pub door_held : (T₃ : List Group) (last : ℕ) → Sieved (Touched bs rs D (length bs) v) T₂ T₃ end fresh last → length T₃ ≡ length T₂
        → Same T T₃ from × Held (Sofar bs rs D (length bs) (v + 1)) T₃ from last
    door_held T₃ last s long₃ =
        grown hp (λ i l. tn.kept i l ∙ fresh_kept T T₁ end fresh hp.high o i l) (long ∙ fresh_long T T₁ end fresh hp.high o) door_fresh s long₃
        (λ g q e. (q.0, e)) (λ g p. p.1) (door_join (length bs) v) (door_part (length bs) v)
