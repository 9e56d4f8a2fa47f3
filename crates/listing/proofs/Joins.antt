-- Lists that grow at their end.
use Rattle.std.proofs.Common.{◌≡◌, ℕ, ◌+◌, List, ◌++◌, length, sym, ap, ◌∙◌, append_assoc, length-append}

pub joined_length : {r : List ℕ} (a b : List ℕ) → r ≡ a ++ b → length r ≡ length a + length b
joined_length a b e = ap length e ∙ length-append a b

-- b follows a, and c follows both
pub joined : {s r : List ℕ} (a b c : List ℕ) → s ≡ a ++ b → r ≡ s ++ c → r ≡ a ++ (b ++ c)
joined a b c e f = f ∙ ap (λ (z : List ℕ). z ++ c) e ∙ append_assoc a b c

pub same_length : (s t a b : List ℕ) → s ++ t ≡ a ++ b → length s + length t ≡ length a + length b
same_length s t a b e = sym (length-append s t) ∙ joined_length a b e
