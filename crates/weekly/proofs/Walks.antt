-- A loop over an iterator with its items counted, at its start.
use Rattle.std.proofs.Common.{◌≡◌, List, ap, ◌∙◌}
use Rattle.std.specs.declared.iter.Enumerate.{Enumerate}

-- none is counted, and all are left
pub begun : {S A : Type 0} (rest : S → List A) (it made : Enumerate S) (s : S) → it ≡ made → made.iter ≡ s → made.count ≡ 0 → (it.count ≡ 0) × (rest it.iter ≡ rest s)
begun {S} rest it made s g source none = (ap (λ (z : Enumerate S). z.count) g ∙ none, ap (λ (z : Enumerate S). rest z.iter) g ∙ ap rest source)
