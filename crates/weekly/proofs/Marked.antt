-- The bytes of the changes of one mark, as code has them, which compares marks and goes over the rows.
use Rattle.std.specs.List.{count_by}
use Rattle.std.proofs.lemmas.List.Sums.{sum_by-cons}
use Rattle.std.proofs.Common.{◌≡◌, ℕ, ◌+◌, ◌*◌, cond, append-nil, ◌<◌, ◌≤◌, Bool, true, false, List, [], ◌∷◌, ◌++◌, length, get_or, take, drop, sym, refl, ap, ◌∙◌, arith}
use mathlib.Core.Bool.{beq}
use Rattle.std.proofs.lemmas.List.{take_more, take-append-drop, length-append}
use Rattle.std.proofs.lemmas.Bool.{cond-true, cond-false, cond_both}
use Rattle.pairs.specs.declared.change.Change.{Change}
use Rattle.weekly.specs.Marks.{same, bytes_of}

pub bytes_first : (b : Bool) (c : Change) (cs : List Change) → same b c.added ≡ true → bytes_of b (c ∷ cs) ≡ c.key ∷ c.door ∷ bytes_of b cs
unfolding bytes_of
bytes_first b c cs e = cond-true _ _ _ e

pub bytes_skip : (b : Bool) (c : Change) (cs : List Change) → same b c.added ≡ false → bytes_of b (c ∷ cs) ≡ bytes_of b cs
unfolding bytes_of
bytes_skip b c cs e = cond-false _ _ _ e

beq_same : (x b : Bool) → beq x b ≡ same b x
beq_same true true = refl
beq_same true false = refl
beq_same false true = refl
beq_same false false = refl

pub bytes_none : (b : Bool) → bytes_of b [] ≡ []
unfolding bytes_of
bytes_none b = refl

bytes_append : (b : Bool) (cs ds : List Change) → bytes_of b (cs ++ ds) ≡ bytes_of b cs ++ bytes_of b ds
unfolding bytes_of
bytes_append b [] ds = refl
bytes_append b (c ∷ cs) ds =
    let r = bytes_append b cs ds in
    cond_both (same b c.added) (c.key ∷ c.door ∷ bytes_of b cs) (bytes_of b cs) (λ v. cond (same b c.added) (c.key ∷ c.door ∷ bytes_of b (cs ++ ds)) (bytes_of b (cs ++ ds)) ≡ v ++ bytes_of b ds)
    (λ t. cond-true _ _ _ t ∙ ap (λ (z : List ℕ). c.key ∷ c.door ∷ z) r)
    (λ f. cond-false _ _ _ f ∙ r)

-- the bytes of the first rows, one row on
bytes_more : (b : Bool) (cs : List Change) (i : ℕ) (d : Change) → i < length cs → bytes_of b (take (i + 1) cs) ≡ bytes_of b (take i cs) ++ bytes_of b (get_or cs i d ∷ [])
bytes_more b cs i d h = ap (bytes_of b) (take_more cs i d h) ∙ bytes_append b (take i cs) (get_or cs i d ∷ [])

pub bytes_own : (b : Bool) (cs : List Change) (i : ℕ) (d : Change) → i < length cs → beq (get_or cs i d).added b ≡ true
    → bytes_of b (take (i + 1) cs) ≡ bytes_of b (take i cs) ++ ((get_or cs i d).key ∷ (get_or cs i d).door ∷ [])
bytes_own b cs i d h t =
    let c = get_or cs i d in
    bytes_more b cs i d h ∙ ap (λ (z : List ℕ). bytes_of b (take i cs) ++ z) (bytes_first b c [] (sym (beq_same c.added b) ∙ t) ∙ ap (λ (z : List ℕ). c.key ∷ c.door ∷ z) (bytes_none b))

pub bytes_other : (b : Bool) (cs : List Change) (i : ℕ) (d : Change) → i < length cs → beq (get_or cs i d).added b ≡ false
    → bytes_of b (take (i + 1) cs) ≡ bytes_of b (take i cs)
bytes_other b cs i d h f =
    let c = get_or cs i d in
    bytes_more b cs i d h ∙ (ap (λ (z : List ℕ). bytes_of b (take i cs) ++ z) (bytes_skip b c [] (sym (beq_same c.added b) ∙ f) ∙ bytes_none b) ∙ append-nil (bytes_of b (take i cs)))

pub bytes_front : (b : Bool) (cs : List Change) (i : ℕ) → length (bytes_of b (take i cs)) ≤ length (bytes_of b cs)
bytes_front b cs i =
    let e = ap length (ap (bytes_of b) (sym (take-append-drop i cs)) ∙ bytes_append b (take i cs) (drop i cs)) in
    omega (arith, e, length-append (bytes_of b (take i cs)) (bytes_of b (drop i cs)))

-- there is room for the next of them
pub bytes_room : (b : Bool) (cs : List Change) (i : ℕ) (d : Change) → i < length cs → beq (get_or cs i d).added b ≡ true → length (bytes_of b (take i cs)) + 2 ≤ length (bytes_of b cs)
bytes_room b cs i d h t =
    let c = get_or cs i d in
    omega (arith, ap length (bytes_own b cs i d h t), bytes_front b cs (i + 1), length-append (bytes_of b (take i cs)) (c.key ∷ c.door ∷ []))

-- two bytes for each change of the mark
pub bytes_length : (b : Bool) (cs : List Change) → length (bytes_of b cs) ≡ 2 * count_by (λ (c : Change). beq c.added b) cs
unfolding bytes_of
bytes_length b [] = refl
bytes_length b (c ∷ cs) =
    let r = bytes_length b cs in
    let e = beq_same c.added b in
    let n = sum_by-cons (λ (c : Change). cond (beq c.added b) 1 0) c cs in
    cond_both (same b c.added) (c.key ∷ c.door ∷ bytes_of b cs) (bytes_of b cs) (λ v. length v ≡ 2 * count_by (λ (c : Change). beq c.added b) (c ∷ cs))
    (λ t. let m = cond-true {A = ℕ} _ 1 0 (e ∙ t) in omega (arith, r, n, m))
    (λ f. let m = cond-false {A = ℕ} _ 1 0 (e ∙ f) in omega (arith, r, n, m))
