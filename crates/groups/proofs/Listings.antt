-- Listings: put together, read as sets, and only one for what is listed.
use Rattle.std.proofs.Common.{◌≡◌, ℕ, ◌+◌, ◌-◌, ◌<◌, ◌≤◌, true, false, ◌⊎◌, List, [], ◌∷◌, ◌++◌, length, get_or, sym, refl, ap, ◌∙◌, subst, ⊎_elim, arith, length-append}
use Rattle.std.proofs.lemmas.List.{get_or_append_left, get_or-append_right, get_or-append-add, get_or_default}
use Rattle.std.proofs.lemmas.Bool.{cases_lt, cases_Bool, true≢false}
use Rattle.std.proofs.lemmas.Bool.Decides.{same_from_decides}
use Rattle.table.specs.Rows.{Ascends}
use Rattle.table.specs.Sets.{has}
use Rattle.table.proofs.Shifts.{far}
use Rattle.table.proofs.SetLaws.{has_at}
use Rattle.table.proofs.Ups.{Up, up_ascends}
use Rattle.groups.specs.declared.group.Group.{Group}
use Rattle.groups.specs.Orders.{group_before}
use Rattle.groups.specs.Plans.{Ascending, Stands, Listing, nothing}
use Rattle.table.proofs.Members.{up_of, has_place, same_up}
use Rattle.groups.proofs.Orders.{irreflexive, transitive, total, keys_first, before_keys}

-- ---- an ascending list as an ascending table, and as a set

pub ascending_rows : (xs : List Group) → Ascending xs → Ascends group_before xs (length xs)
ascending_rows xs a k d h =
    ap (λ (z : Group). group_before z (get_or xs (k + 1) d)) (get_or_default xs k d nothing (omega arith))
    ∙ ap (group_before (get_or xs k nothing)) (get_or_default xs (k + 1) d nothing h) ∙ a k (k + 1) (omega arith) h

pub rows_ascending : (xs : List Group) → Ascends group_before xs (length xs) → Ascending xs
rows_ascending xs a i k l h = far group_before transitive xs (length xs) a i k nothing l h

pub ascending_up : (xs : List Group) → Ascending xs → Up group_before xs
ascending_up xs a = up_of group_before irreflexive transitive total xs (ascending_rows xs a)

pub up_ascending : (xs : List Group) → Up group_before xs → Ascending xs
up_ascending xs u = rows_ascending xs (up_ascends group_before xs u)

pub stands_has : (xs : List Group) (g : Group) → Stands xs g → has group_before g xs ≡ true
stands_has xs g s = has_at group_before irreflexive transitive xs g s.0 s.1 (get_or_default xs s.0 g nothing s.1 ∙ s.2)

pub has_stands : (xs : List Group) (g : Group) → has group_before g xs ≡ true → Stands xs g
has_stands xs g h = has_place group_before irreflexive transitive total g nothing xs h

module _ {P : Group → Type 0} (xs : List Group) (l : Listing P xs) where
  pub listing_up : Up group_before xs
  listing_up = ascending_up xs l.ascends

  pub listing_rows : Ascends group_before xs (length xs)
  listing_rows = ascending_rows xs l.ascends

  pub listing_has : (g : Group) → P g → has group_before g xs ≡ true
  listing_has g p = stands_has xs g (l.complete g p)

  pub has_listed : (g : Group) → has group_before g xs ≡ true → P g
  has_listed g h = let s = has_stands xs g h in subst P s.2 (l.sound s.0 s.1)

  pub lacks_listed : (g : Group) → has group_before g xs ≡ false → P g → ⊥
  lacks_listed g h p = true≢false (sym (listing_has g p) ∙ h)

  pub listing_lacks : (g : Group) → (P g → ⊥) → has group_before g xs ≡ false
  listing_lacks g n = ⊎_elim (λ (h : has group_before g xs ≡ true). absurd (n (has_listed g h))) (λ (h : has group_before g xs ≡ false). h) (cases_Bool (has group_before g xs))

  -- where the keys say which it is, the keys ascend
  pub keys_ascend : ((g h : Group) → P g → P h → g.keys ≡ h.keys → g ≡ h) → (i k : ℕ) → i < k → k < length xs → (get_or xs i nothing).keys < (get_or xs k nothing).keys
  keys_ascend only i k m h =
      let b = l.ascends i k m h in
      before_keys (get_or xs i nothing) (get_or xs k nothing) b
      (λ e. let q = only _ _ (l.sound i (omega arith)) (l.sound k h) e in
      true≢false (sym b ∙ ap (λ (z : Group). group_before z (get_or xs k nothing)) q ∙ irreflexive (get_or xs k nothing)))

pub up_listing : {P : Group → Type 0} (xs : List Group) → Up group_before xs → ((g : Group) → has group_before g xs ≡ true → P g) → ((g : Group) → P g → has group_before g xs ≡ true) → Listing P xs
up_listing xs u to from =
    record {
      sound = λ i h. to (get_or xs i nothing) (stands_has xs (get_or xs i nothing) (i, h, refl));
      ascends = up_ascending xs u;
      complete = λ g p. has_stands xs g (from g p);
    }

-- a list whose keys ascend
pub listing_by_keys : {P : Group → Type 0} (xs : List Group) → ((i : ℕ) → i < length xs → P (get_or xs i nothing))
    → ((i k : ℕ) → i < k → k < length xs → (get_or xs i nothing).keys < (get_or xs k nothing).keys)
    → ((g : Group) → P g → Stands xs g) → Listing P xs
listing_by_keys xs s a c = record { sound = s; ascends = λ i k l h. keys_first (get_or xs i nothing) (get_or xs k nothing) (a i k l h); complete = c }

-- ---- none, one, one after another, and the same under another name

pub none_listing : {P : Group → Type 0} → ((g : Group) → P g → ⊥) → Listing P []
none_listing h =
    record { sound = λ i l. absurd (omega arith); ascends = λ i k l m. absurd (omega arith); complete = λ g p. absurd (h g p) }

pub one_listing : {P : Group → Type 0} (g : Group) → P g → ((h : Group) → P h → g ≡ h) → Listing P (g ∷ [])
one_listing {P} g p only =
    record {
      sound = λ i l. let e : 0 ≡ i = omega arith in subst (λ (v : ℕ). P (get_or (g ∷ []) v nothing)) e p;
      ascends = λ i k l m. absurd (omega arith);
      complete = λ h q. (0, omega arith, only h q);
    }

module _ {P Q R : Group → Type 0} (a b : List Group) (la : Listing P a) (lb : Listing Q b)
    (less : (g h : Group) → P g → Q h → group_before g h ≡ true)
    (from-p : (g : Group) → P g → R g) (from-q : (g : Group) → Q g → R g) (cases : (g : Group) → R g → P g ⊎ Q g) where
  at_left : (i : ℕ) → i < length a → get_or (a ++ b) i nothing ≡ get_or a i nothing
  at_left i h = get_or_append_left a b nothing i h

  at_right : (i : ℕ) → length a ≤ i → get_or (a ++ b) i nothing ≡ get_or b (i - length a) nothing
  at_right i h = get_or-append_right a b (length a) i nothing refl h

  at_sound : (i : ℕ) → i < length (a ++ b) → R (get_or (a ++ b) i nothing)
  at_sound i l =
      ⊎_elim (λ h. subst R (sym (at_left i h)) (from-p _ (la.sound i h)))
      (λ h. subst R (sym (at_right i h)) (from-q _ (lb.sound (i - length a) (omega (arith, length-append a b))))) (cases_lt i (length a))

  both : (i k : ℕ) (x y : Group) → get_or (a ++ b) i nothing ≡ x → get_or (a ++ b) k nothing ≡ y → group_before x y ≡ true → group_before (get_or (a ++ b) i nothing) (get_or (a ++ b) k nothing) ≡ true
  both i k x y p q h = ap (λ (z : Group). group_before z (get_or (a ++ b) k nothing)) p ∙ ap (group_before x) q ∙ h

  at_ascends : Ascending (a ++ b)
  at_ascends i k l m =
      ⊎_elim
      (λ h. let hi : i < length a = omega arith in both i k _ _ (at_left i hi) (at_left k h) (la.ascends i k l h))
      (λ h. let hk : k - length a < length b = omega (arith, length-append a b) in
      ⊎_elim
      (λ hi. both i k _ _ (at_left i hi) (at_right k h) (less _ _ (la.sound i hi) (lb.sound (k - length a) hk)))
      (λ hi. both i k _ _ (at_right i hi) (at_right k h) (lb.ascends (i - length a) (k - length a) (omega arith) hk))
      (cases_lt i (length a)))
      (cases_lt k (length a))

  at_complete : (g : Group) → R g → Stands (a ++ b) g
  at_complete g r =
      ⊎_elim
      (λ p. let c = la.complete g p in (c.0, omega (arith, length-append a b, c.1), at_left c.0 c.1 ∙ c.2))
      (λ q. let c = lb.complete g q in (length a + c.0, omega (arith, length-append a b, c.1), get_or-append-add a b c.0 nothing ∙ c.2))
      (cases g r)

  pub merge_before : Listing R (a ++ b)
  merge_before = record { sound = at_sound; ascends = at_ascends; complete = at_complete }

-- the same where all keys of the one are below all of the other
pub merge : {P Q R : Group → Type 0} (a b : List Group) → Listing P a → Listing Q b → ((g h : Group) → P g → Q h → g.keys < h.keys)
    → ((g : Group) → P g → R g) → ((g : Group) → Q g → R g) → ((g : Group) → R g → P g ⊎ Q g) → Listing R (a ++ b)
merge a b la lb less from-p from-q cases = merge_before a b la lb (λ g h p q. keys_first g h (less g h p q)) from-p from-q cases

pub relisted : {P Q : Group → Type 0} (l : List Group) → Listing P l → ((g : Group) → P g → Q g) → ((g : Group) → Q g → P g) → Listing Q l
relisted l la to from =
    record { sound = λ i h. to _ (la.sound i h); ascends = la.ascends; complete = λ g q. la.complete g (from g q) }

-- ---- a listing is the only one

pub same_standing : (xs ys : List Group) → Ascending xs → Ascending ys → ((g : Group) → Stands xs g → Stands ys g) → ((g : Group) → Stands ys g → Stands xs g) → xs ≡ ys
same_standing xs ys a b to from =
    same_up group_before irreflexive transitive total xs ys (ascending_up xs a) (ascending_up ys b)
    (λ g. same_from_decides (has group_before g xs) (has group_before g ys) (has_stands xs g, stands_has xs g)
    (λ h. from g (has_stands ys g h), λ s. stands_has ys g (to g s)))

pub only_listing : {P : Group → Type 0} (a b : List Group) → Listing P a → Listing P b → a ≡ b
only_listing {P} a b la lb =
    same_standing a b la.ascends lb.ascends
    (λ g s. lb.complete g (subst P s.2 (la.sound s.0 s.1))) (λ g s. la.complete g (subst P s.2 (lb.sound s.0 s.1)))
