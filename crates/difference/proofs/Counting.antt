-- A list of different groups with P is no longer than the listing of them.
use Rattle.std.proofs.Common.{◌≡◌, ℕ, zero, suc, ◌<◌, ◌≤◌, ◌⊎◌, List, length, sym, refl, ap, ◌∙◌, inl, inr, ⊎_elim, arith}
use Rattle.std.proofs.lemmas.Bool.{cases_eq, cases_lt}
use Rattle.groups.specs.declared.group.Group.{Group}
use Rattle.groups.specs.Plans.{Listing}
use Rattle.difference.specs.Places.{Many, at}
use Rattle.difference.proofs.Chosen.{some_below}

-- ---- m different numbers below n are at most n
pick : {A : Type 0} (d : A ⊎ (A → ⊥)) (x y : ℕ) → (A × (⊎_elim (λ _. x) (λ _. y) d ≡ x)) ⊎ ((A → ⊥) × (⊎_elim (λ _. x) (λ _. y) d ≡ y))
pick (inl a) x y = inl (a, refl)
pick (inr n) x y = inr (n, refl)

pub pigeon : (n m : ℕ) (f : ℕ → ℕ) → ((i : ℕ) → i < m → f i < n) → ((i k : ℕ) → i < k → k < m → f i ≡ f k → ⊥) → m ≤ n
pigeon zero m f b inj = ⊎_elim (λ l. absurd (let z = b 0 l in omega arith)) (λ l. l) (cases_lt 0 m)
pigeon (suc n) zero f b inj = omega arith
pigeon (suc n) (suc m) f b inj =
    ⊎_elim
    (λ w.
    let i = w.0 in
    let li : i < suc m = w.1 in
    let e : f i ≡ n = w.2 in
    let f' : ℕ → ℕ = λ k. ⊎_elim (λ _. f m) (λ _. f k) (cases_eq k i) in
    let other : (k : ℕ) → k < suc m → (k ≡ i → ⊥) → f k < n =
    λ k lk ne.
    let bk = b k lk in
    let nk : f k ≡ n → ⊥ = λ q. ⊎_elim (λ l. inj k i l li (q ∙ sym e)) (λ l. inj i k (omega arith) lk (e ∙ sym q)) (cases_lt k i) in
    omega arith in
    let r = pigeon n m f'
    (λ k lk. ⊎_elim
    (λ p. let q : m ≡ i → ⊥ = λ z. omega (arith, p.0) in omega (arith, other m (omega arith) q, p.1))
    (λ p. omega (arith, other k (omega arith) p.0, p.1)) (pick (cases_eq k i) (f m) (f k)))
    (λ a c lac lc q. ⊎_elim
    (λ pa. ⊎_elim (λ pc. omega (arith, pa.0, pc.0)) (λ pc. inj c m lc (omega arith) (sym pc.1 ∙ sym q ∙ pa.1)) (pick (cases_eq c i) (f m) (f c)))
    (λ pa. ⊎_elim (λ pc. inj a m (omega arith) (omega arith) (sym pa.1 ∙ q ∙ pc.1)) (λ pc. inj a c lac (omega arith) (sym pa.1 ∙ q ∙ pc.1)) (pick (cases_eq c i) (f m) (f c)))
    (pick (cases_eq a i) (f m) (f a))) in
    omega arith)
    (λ none.
    let r = pigeon n (suc m) f (λ k lk. let bk = b k lk in let nk : f k ≡ n → ⊥ = none k lk in omega arith) inj in
    omega arith)
    (some_below (λ k. f k ≡ n) (suc m) (λ k l. cases_eq (f k) n))

-- ---- a list of different groups is no longer than the listing
module _ {P : Group → Type 0} {limit : ℕ} (l : List Group) (la : Listing P l) (m : Many P limit) where
  spot : (i : ℕ) → (i < length m.list) ⊎ (length m.list ≤ i) → ℕ
  spot i (inl h) = (la.complete (at m.list i) (m.sound i h)).0
  spot i (inr h) = 0

  spot_is : (i : ℕ) (d : (i < length m.list) ⊎ (length m.list ≤ i)) → i < length m.list → (spot i d < length l) × (at l (spot i d) ≡ at m.list i)
  unfolding spot
  spot_is i (inl h) _ = let f = la.complete (at m.list i) (m.sound i h) in (f.1, f.2)
  spot_is i (inr h) k = absurd (omega arith)

  pub more_listed : limit < length l
  more_listed =
      let n = length m.list in
      let f : ℕ → ℕ = λ i. spot i (cases_lt i n) in
      let r = pigeon (length l) n f (λ i h. (spot_is i (cases_lt i n) h).0)
      (λ i k lik lk q.
      let a = spot_is i (cases_lt i n) (omega arith) in
      let b = spot_is k (cases_lt k n) lk in
      m.apart i k lik lk (sym a.1 ∙ ap (at l) q ∙ b.1)) in
      omega (arith, m.more)
