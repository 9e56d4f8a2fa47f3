-- Where a record stands or goes among ascending rows, by how many are before it.
use Rattle.std.proofs.Common.{◌≡◌, ℕ, zero, suc, ◌+◌, ◌<◌, ◌≤◌, min, Bool, true, false, cond, ◌||◌, List, [], ◌∷◌, length, get_or, take, Some, Ok, Err, sym, refl, ap, ◌∙◌, ⊎_elim, arith}
use Rattle.std.proofs.lemmas.List.{get_or-take, length-take-le, take_all}
use Rattle.std.proofs.lemmas.Bool.{cases_Bool, cases_lt, cond-true, cond-false}
use Rattle.table.specs.Rows.{Ascends, FoundAt, GoesAt}
use Rattle.table.specs.Sets.{tied, has, rank, one, placed}
use Rattle.table.proofs.Shifts.{far, low_more, high_more}
use Rattle.table.proofs.SetLaws.{asym, found_has, goes_lacks}
use Rattle.table.proofs.Ups.{Below, Up, ascends_up, rank_nth}
use Rattle.std.specs.List.{slice_get}

-- a count past the end counts as the length
pub take_min : {X : Type 0} (n : ℕ) (xs : List X) → take (min n (length xs)) xs ≡ take n xs
take_min n xs = ⊎_elim
    (λ (h : n < length xs). ap (λ (k : ℕ). take k xs) (omega arith))
    (λ (h : length xs ≤ n). let e : min n (length xs) ≡ length xs = omega arith in ap (λ (k : ℕ). take k xs) e ∙ (take_all (length xs) xs (omega arith) ∙ sym (take_all n xs h)))
    (cases_lt n (length xs))

pub one_most : (b : Bool) → one b ≤ 1
one_most true = omega arith
one_most false = omega arith

nth_is : {X : Type 0} (xs : List X) (i : ℕ) (x : X) → slice_get xs i ≡ Some x → (i < length xs) × ((d : X) → get_or xs i d ≡ x)
nth_is [] i x e = absurd (let z : ◌≡◌ {A = ℕ} 0 1 = cc in omega arith)
nth_is (y ∷ ys) zero x e = (omega arith, λ d. let q : y ≡ x = cc in q)
nth_is (y ∷ ys) (suc i) x e = let r = nth_is ys i x e in (let h = r.0 in omega arith, r.1)

either_err : (b : Bool) (r i : ℕ) → cond b (Ok r) (Err r) ≡ Err i → (b ≡ false) × (r ≡ i)
either_err true r i e = absurd (let z : ◌≡◌ {A = ℕ} 0 1 = cc in omega arith)
either_err false r i e = (refl, cc)

either_ok : (b : Bool) (r i : ℕ) → cond b (Ok r) (Err r) ≡ Ok i → (b ≡ true) × (r ≡ i)
either_ok true r i e = (refl, cc)
either_ok false r i e = absurd (let z : ◌≡◌ {A = ℕ} 0 1 = cc in omega arith)

module _ {X : Type 0} (lt : X → X → Bool) where
  rank_none : (xs : List X) (x : X) → ((k : ℕ) (d : X) → k < length xs → lt (get_or xs k d) x ≡ false) → rank lt x xs ≡ 0
  rank_none [] x h = refl
  rank_none (y ∷ ys) x h = let a : one (lt y x) ≡ 0 = ap one (h 0 y (omega arith)) in let r = rank_none ys x (λ k d l. h (suc k) d (omega arith)) in omega arith

  rank_at : (xs : List X) (x : X) (i : ℕ) → i ≤ length xs → ((k : ℕ) (d : X) → k < i → lt (get_or xs k d) x ≡ true)
      → ((k : ℕ) (d : X) → i ≤ k → k < length xs → lt (get_or xs k d) x ≡ false) → rank lt x xs ≡ i
  rank_at xs x zero l low high = rank_none xs x (λ k d h. high k d (omega arith) h)
  rank_at [] x (suc i) l low high = absurd (omega arith)
  rank_at (y ∷ ys) x (suc i) l low high =
      let a : one (lt y x) ≡ 1 = ap one (low 0 y (omega arith)) in
      let r = rank_at ys x i (omega arith) (λ k d h. low (suc k) d (omega arith)) (λ k d h m. high (suc k) d (omega arith) (omega arith)) in
      omega arith

module _ {X : Type 0} (lt : X → X → Bool)
    (chain : (x y z : X) → lt x y ≡ true → lt y z ≡ true → lt x z ≡ true) where
  -- a record that is not before x has none after it that is
  below_rank : (x y : X) (zs : List X) → lt y x ≡ false → Below lt y zs → rank lt x zs ≡ 0
  below_rank x y [] h b = refl
  below_rank x y (z ∷ zs) h b =
      let s : lt z x ≡ false = let c = chain y z x b.0 in let q = cases_Bool (lt z x) in grind arith in
      let a : one (lt z x) ≡ 0 = ap one s in let r = below_rank x y zs h b.1 in omega arith

module _ {X : Type 0} (lt : X → X → Bool)
    (irr : (x : X) → lt x x ≡ false)
    (chain : (x y z : X) → lt x y ≡ true → lt y z ≡ true → lt x z ≡ true) where
  module _ (xs : List X) (n : ℕ) (x : X) (within : n ≤ length xs) where
    pub goes_placed : (i : ℕ) → GoesAt lt xs n x i → placed lt x (take n xs) ≡ Err i
    goes_placed i g =
        let t = length-take-le n xs within in
        let r : rank lt x (take n xs) ≡ i = rank_at lt (take n xs) x i (omega (arith, g.0))
        (λ k d h. ap (λ (z : X). lt z x) (get_or-take n xs k d (omega (arith, g.0))) ∙ g.1 k d h)
        (λ k d h m. ap (λ (z : X). lt z x) (get_or-take n xs k d (omega arith)) ∙ asym lt irr chain x (get_or xs k d) (g.2 k d h (omega arith))) in
        cond-false _ _ _ (goes_lacks lt irr chain xs n x within i g) ∙ ap Err r

    pub found_placed : (i : ℕ) → Ascends lt xs n → FoundAt xs n x i → placed lt x (take n xs) ≡ Ok i
    found_placed i asc f =
        let t = length-take-le n xs within in
        let r : rank lt x (take n xs) ≡ i = rank_at lt (take n xs) x i (omega (arith, f.0))
        (λ k d h. ap (λ (z : X). lt z x) (get_or-take n xs k d (omega (arith, f.0))) ∙ (ap (λ (z : X). lt (get_or xs k d) z) (sym (f.1 d)) ∙ far lt chain xs n asc k i d h f.0))
        (λ k d h m. ap (λ (z : X). lt z x) (get_or-take n xs k d (omega arith)) ∙ ⊎_elim
        (λ (q : i < k). asym lt irr chain x (get_or xs k d) (ap (λ (z : X). lt z (get_or xs k d)) (sym (f.1 d)) ∙ far lt chain xs n asc i k d q (omega arith)))
        (λ (q : k ≤ i). let e : k ≡ i = omega arith in ap (λ (z : ℕ). lt (get_or xs z d) x) e ∙ (ap (λ (z : X). lt z x) (f.1 d) ∙ irr x))
        (cases_lt i k)) in
        cond-true _ _ _ (found_has lt irr chain xs n x within i f) ∙ ap Ok r

module _ {X : Type 0} (lt : X → X → Bool)
    (irr : (x : X) → lt x x ≡ false)
    (chain : (x y z : X) → lt x y ≡ true → lt y z ≡ true → lt x z ≡ true) where
  rank_low : (xs : List X) (x : X) → Up lt xs → (k : ℕ) (d : X) → k < rank lt x xs → lt (get_or xs k d) x ≡ true
  rank_low [] x u k d h = absurd (omega arith)
  rank_low (y ∷ ys) x u zero d h = ⊎_elim
      (λ (q : lt y x ≡ true). q)
      (λ (q : lt y x ≡ false). absurd (let a : one (lt y x) ≡ 0 = ap one q in let r = below_rank lt chain x y ys q u.0 in omega arith))
      (cases_Bool (lt y x))
  rank_low (y ∷ ys) x u (suc k) d h = ⊎_elim
      (λ (q : lt y x ≡ true). let a : one (lt y x) ≡ 1 = ap one q in rank_low ys x u.1 k d (omega arith))
      (λ (q : lt y x ≡ false). absurd (let a : one (lt y x) ≡ 0 = ap one q in let r = below_rank lt chain x y ys q u.0 in omega arith))
      (cases_Bool (lt y x))

  lacks_parts : (a c : Bool) → (a || c) ≡ false → (a ≡ false) × (c ≡ false)
  lacks_parts true c h = absurd (let q = cases_Bool true in grind arith)
  lacks_parts false c h = (refl, h)

  not_tied_before : (x y : X) → tied lt x y ≡ false → lt y x ≡ false → lt x y ≡ true
  not_tied_before x y t f = let c = cases_Bool (lt x y) in grind arith

  rank_high : (xs : List X) (x : X) → Up lt xs → has lt x xs ≡ false → (k : ℕ) (d : X) → rank lt x xs ≤ k → k < length xs → lt x (get_or xs k d) ≡ true
  rank_high [] x u n k d h l = absurd (omega arith)
  rank_high (y ∷ ys) x u n zero d h l = ⊎_elim
      (λ (q : lt y x ≡ true). absurd (let a : one (lt y x) ≡ 1 = ap one q in omega arith))
      (λ (q : lt y x ≡ false). not_tied_before x y (lacks_parts (tied lt x y) (has lt x ys) n).0 q)
      (cases_Bool (lt y x))
  rank_high (y ∷ ys) x u n (suc k) d h l = ⊎_elim
      (λ (q : lt y x ≡ true). let a : one (lt y x) ≡ 1 = ap one q in rank_high ys x u.1 (lacks_parts (tied lt x y) (has lt x ys) n).1 k d (omega arith) (omega arith))
      (λ (q : lt y x ≡ false). let r = below_rank lt chain x y ys q u.0 in rank_high ys x u.1 (lacks_parts (tied lt x y) (has lt x ys) n).1 k d (omega arith) (omega arith))
      (cases_Bool (lt y x))

  rank_most : (x : X) (xs : List X) → rank lt x xs ≤ length xs
  rank_most x [] = omega arith
  rank_most x (y ∷ ys) = let r = rank_most x ys in let c : one (lt y x) ≤ 1 = one_most (lt y x) in omega arith

  module _ (xs : List X) (n : ℕ) (x : X) (within : n ≤ length xs) (asc : Ascends lt xs n) where
    pub placed_goes : (i : ℕ) → placed lt x (take n xs) ≡ Err i → GoesAt lt xs n x i
    placed_goes i e =
        let t = length-take-le n xs within in
        let u = ascends_up lt chain xs n within asc in
        let p = either_err (has lt x (take n xs)) (rank lt x (take n xs)) i e in
        let q = p.1 in
        let m = rank_most x (take n xs) in (
          omega arith,
          (λ k d h. ap (λ (z : X). lt z x) (sym (get_or-take n xs k d (omega arith))) ∙ rank_low (take n xs) x u k d (omega arith)),
          (λ k d h l. ap (λ (z : X). lt x z) (sym (get_or-take n xs k d l)) ∙ rank_high (take n xs) x u p.0 k d (omega arith) (omega arith)),
        )

module _ {X : Type 0} (lt : X → X → Bool)
    (irr : (x : X) → lt x x ≡ false)
    (chain : (x y z : X) → lt x y ≡ true → lt y z ≡ true → lt x z ≡ true)
    (total : (x y : X) → lt x y ≡ false → lt y x ≡ false → x ≡ y) where
  module _ (xs : List X) (n : ℕ) (x : X) (within : n ≤ length xs) (asc : Ascends lt xs n) where
    pub placed_found : (i : ℕ) → placed lt x (take n xs) ≡ Ok i → FoundAt xs n x i
    placed_found i e =
        let t = length-take-le n xs within in
        let u = ascends_up lt chain xs n within asc in
        let p = either_ok (has lt x (take n xs)) (rank lt x (take n xs)) i e in
        let f = nth_is (take n xs) i x (rank_nth lt irr chain total x (take n xs) i u p.0 p.1) in
        let h : i < n = let q = f.0 in omega arith in
        (h, λ d. sym (get_or-take n xs i d h) ∙ f.1 d)

-- among the rows up to the count or the memory's end, whichever comes first
module _ {X : Type 0} (lt : X → X → Bool)
    (irr : (x : X) → lt x x ≡ false)
    (chain : (x y z : X) → lt x y ≡ true → lt y z ≡ true → lt x z ≡ true)
    (xs : List X) (count : ℕ) (x : X) where
  ascends_min : Ascends lt xs count → Ascends lt xs (min count (length xs))
  ascends_min asc k d h = asc k d (omega arith)

  module _ (mid : ℕ) (row : X) (inside : mid < count) (within : mid < length xs) (is : row ≡ get_or xs mid row) where
    pub lower : lt row x ≡ true → Ascends lt xs count → (k : ℕ) (d : X) → k < mid + 1 → lt (get_or xs k d) x ≡ true
    lower t asc = low_more lt chain xs (min count (length xs)) mid x row (ascends_min asc) (omega arith) (omega arith) is t

    pub higher : lt x row ≡ true → Ascends lt xs count → (k : ℕ) (d : X) → mid ≤ k → k < count → k < length xs → lt x (get_or xs k d) ≡ true
    higher t asc k d h l m = high_more lt chain xs (min count (length xs)) mid x row (ascends_min asc) (omega arith) (omega arith) is t k d h (omega arith)

  pub found_here : (i : ℕ) → FoundAt xs count x i → i < length xs → Ascends lt xs count → Ok i ≡ placed lt x (take count xs)
  found_here i f l asc = sym (ap (placed lt x) (sym (take_min count xs)) ∙ found_placed lt irr chain xs (min count (length xs)) x (omega arith) i (ascends_min asc) (let h = f.0 in omega arith, f.1))

  pub goes_here : (i : ℕ) → i ≤ count → i ≤ length xs → ((k : ℕ) (d : X) → k < i → lt (get_or xs k d) x ≡ true)
      → ((k : ℕ) (d : X) → i ≤ k → k < count → k < length xs → lt x (get_or xs k d) ≡ true) → Err i ≡ placed lt x (take count xs)
  goes_here i l m low high = sym (ap (placed lt x) (sym (take_min count xs)) ∙ goes_placed lt irr chain xs (min count (length xs)) x (omega arith) i (omega arith, low, λ k d h n. high k d h (omega arith) (omega arith)))

-- an order in which records may tie: what is before one of two that tie is before the other
module _ {X : Type 0} (lt : X → X → Bool)
    (chain : (x y z : X) → lt x y ≡ true → lt y z ≡ true → lt x z ≡ true)
    (level : (x y z : X) → lt x y ≡ true → tied lt z y ≡ true → lt x z ≡ true) where
  below_tied : (x y : X) (zs : List X) → Below lt y zs → has lt x zs ≡ true → lt y x ≡ true
  below_tied x y [] b h = absurd (let c = cases_Bool false in grind arith)
  below_tied x y (z ∷ zs) b h = ⊎_elim
      (λ (t : tied lt x z ≡ true). level y z x b.0 t)
      (λ (f : tied lt x z ≡ false). below_tied x y zs b.1 (sym (ap (λ t. t || has lt x zs) f) ∙ h))
      (cases_Bool (tied lt x z))

  -- where one that ties with x stands, it stands at x's place
  pub tied_place : (x d : X) (xs : List X) → Up lt xs → has lt x xs ≡ true → (rank lt x xs < length xs) × (tied lt x (get_or xs (rank lt x xs) d) ≡ true)
  tied_place x d [] u h = absurd (let c = cases_Bool false in grind arith)
  tied_place x d (y ∷ ys) u h = ⊎_elim
      (λ (t : tied lt x y ≡ true).
      let f : lt y x ≡ false = let a = cases_Bool (lt x y) in let b = cases_Bool (lt y x) in grind arith in
      let a : one (lt y x) ≡ 0 = ap one f in
      let r = below_rank lt chain x y ys f u.0 in
      let e : rank lt x (y ∷ ys) ≡ 0 = omega arith in
      (omega arith, ap (λ (i : ℕ). tied lt x (get_or (y ∷ ys) i d)) e ∙ t))
      (λ (f : tied lt x y ≡ false).
      let m : has lt x ys ≡ true = sym (ap (λ t. t || has lt x ys) f) ∙ h in
      let a : one (lt y x) ≡ 1 = ap one (below_tied x y ys u.0 m) in
      let r = tied_place x d ys u.1 m in
      let q = r.0 in
      let e : rank lt x (y ∷ ys) ≡ suc (rank lt x ys) = omega arith in
      (omega arith, ap (λ (i : ℕ). tied lt x (get_or (y ∷ ys) i d)) e ∙ r.1))
      (cases_Bool (tied lt x y))

pub tied_has : {X : Type 0} (lt : X → X → Bool) (x d : X) (xs : List X) (i : ℕ) → i < length xs → tied lt x (get_or xs i d) ≡ true → has lt x xs ≡ true
tied_has lt x d [] i l t = absurd (omega arith)
tied_has lt x d (y ∷ ys) zero l t = ap (λ b. b || has lt x ys) t
tied_has lt x d (y ∷ ys) (suc i) l t = let r : has lt x ys ≡ true = tied_has lt x d ys i (omega arith) t in let b = cases_Bool (tied lt x y) in grind arith
