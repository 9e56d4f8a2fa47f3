-- A search below a bound, and the cases that it tells apart.
use Rattle.std.proofs.Common.{ℕ, zero, suc, ◌<◌, ◌⊎◌, subst, inl, inr, ⊎_elim, arith}
use Rattle.std.proofs.lemmas.Bool.{cases_eq}

pub some_below : (P : ℕ → Type 0) → (n : ℕ) → ((k : ℕ) → k < n → P k ⊎ (P k → ⊥)) → ((k : ℕ) × (k < n) × P k) ⊎ ((k : ℕ) → k < n → P k → ⊥)
some_below P zero d = inr (λ k l. absurd (omega arith))
some_below P (suc n) d =
    ⊎_elim (λ f. inl (f.0, omega (arith, f.1), f.2))
    (λ none. ⊎_elim (λ p. inl (n, omega arith, p))
    (λ np. inr (λ k l p. ⊎_elim (λ e. np (subst P e p)) (λ ne. none k (omega arith) p) (cases_eq k n)))
    (d n (omega arith)))
    (some_below P n (λ k l. d k (omega arith)))

pub both_of : {A B : Type 0} → A ⊎ (A → ⊥) → B ⊎ (B → ⊥) → (A × B) ⊎ ((A × B) → ⊥)
both_of (inl a) (inl b) = inl (a, b)
both_of (inl a) (inr nb) = inr (λ p. nb p.1)
both_of (inr na) b = inr (λ p. na p.0)

pub not_of : {A : Type 0} → A ⊎ (A → ⊥) → (A → ⊥) ⊎ ((A → ⊥) → ⊥)
not_of (inl a) = inr (λ n. n a)
not_of (inr n) = inl n

pub sure : {A : Type 0} → A ⊎ (A → ⊥) → ((A → ⊥) → ⊥) → A
sure (inl a) n = a
sure (inr m) n = absurd (n m)
