-- The pairs of a body, one after the other, and the first of them that breaks a rule.
use Rattle.std.proofs.Common.{◌≡◌, ℕ, ◌+◌, ◌-◌, ◌*◌, ◌<◌, ◌≤◌, Bool, cond, not, ◌&&◌, eqb, List, [], ◌∷◌, length, get_or, take, drop, Some, None, Ok, Err, Option, Result, sym, refl, ap, ◌∙◌, arith}
use Rattle.std.specs.List.{position, position_from}
use Rattle.std.proofs.lemmas.Iterator.Adapters.{position_from-zero}
use Rattle.std.proofs.lemmas.List.{take_rest}
use Rattle.std.proofs.lemmas.Bool.{cond_both}
use Rattle.faults.specs.declared.cause.Cause.{Cause}
use Rattle.faults.specs.Causes.{along}
use Rattle.pairs.specs.declared.pair.Pair.{Pair}
use Rattle.weekly.specs.Body.{and_then, pair_number, pair_ok, pairs_fault, note_byte, first_bad_byte, apart_fault, both_fault}
use Rattle.weekly.specs.Pairs.{pairs_of, is_pair}

-- too short for a pair
pub pairs_none : (bs : List ℕ) → length bs < 2 → pairs_of bs ≡ []
unfolding pairs_of
pairs_none [] h = refl
pairs_none (k ∷ []) h = refl
pairs_none (k ∷ d ∷ rest) h = absurd (omega arith)

-- the next pair, as a slice pattern has it
pub pairs_more : (bs : List ℕ) → 2 ≤ length bs → pairs_of bs ≡ record { key = get_or bs 0 0; door = get_or bs 1 0 } ∷ pairs_of (take (length bs - 2) (drop 2 bs))
unfolding pairs_of
pairs_more [] h = absurd (omega arith)
pairs_more (k ∷ []) h = absurd (omega arith)
pairs_more (k ∷ d ∷ rest) h = rw (take_rest (k ∷ d ∷ rest) 2) refl

pub pairs_count : (bs : List ℕ) → 2 * length (pairs_of bs) ≤ length bs
unfolding pairs_of
pairs_count [] = omega arith
pairs_count (k ∷ []) = omega arith
pairs_count (k ∷ d ∷ rest) = let r = pairs_count rest in omega arith

-- ---- each pair above the last
abbrev pub rising : ℕ → ℕ → List Pair → Result Unit Cause
rising low place [] = Ok tt
rising low place (p ∷ ps) = cond (pair_ok low p.key p.door) (rising (pair_number p.key p.door + 1) (place + 2) ps) (Err (along 24 place))

pub pairs_rising : (low place : ℕ) (bs : List ℕ) → pairs_fault low place bs ≡ rising low place (pairs_of bs)
unfolding pairs_fault pairs_of
pairs_rising low place [] = refl
pairs_rising low place (k ∷ []) = refl
pairs_rising low place (k ∷ d ∷ rest) = ap (λ (z : Result Unit Cause). cond (pair_ok low k d) z (Err (along 24 place))) (pairs_rising (pair_number k d + 1) (place + 2) rest)

-- ---- a pair among the removals
-- the cause for the pair at an index
abbrev pub pair_fault : ℕ → Option ℕ → Result Unit Cause
pair_fault place None = Ok tt
pair_fault place (Some i) = Err (along 25 (place + 2 * i))

apart_from : (p : Pair) (place i : ℕ) (bs : List ℕ) → apart_fault p.key p.door (place + 2 * i) bs ≡ pair_fault place (position_from (is_pair p) i (pairs_of bs))
unfolding apart_fault pairs_of
apart_from p place i [] = refl
apart_from p place i (x ∷ []) = refl
apart_from p place i (x ∷ y ∷ rest) =
    let r = apart_from p place (i + 1) rest in
    let e : place + 2 * i + 2 ≡ place + 2 * (i + 1) = omega arith in
    cond_both (eqb x p.key && eqb y p.door) (Some i) (position_from (is_pair p) (i + 1) (pairs_of rest))
    (λ v. cond (eqb x p.key && eqb y p.door) (Err (along 25 (place + 2 * i))) (apart_fault p.key p.door (place + 2 * i + 2) rest) ≡ pair_fault place v)
    (λ t. grind arith)
    (λ f. grind arith)

pub apart_is : (p : Pair) (place : ℕ) (bs : List ℕ) → apart_fault p.key p.door place bs ≡ pair_fault place (position (is_pair p) (pairs_of bs))
apart_is p place bs =
    ap (λ (z : ℕ). apart_fault p.key p.door z bs) (omega arith)
    ∙ (apart_from p place 0 bs ∙ ap (pair_fault place) (sym (position_from-zero (is_pair p) (pairs_of bs))))

-- ---- no pair of the additions among the removals
abbrev pub all_apart : ℕ → List ℕ → List Pair → Result Unit Cause
all_apart place rs [] = Ok tt
all_apart place rs (p ∷ ps) = and_then (apart_fault p.key p.door place rs) (all_apart place rs ps)

pub both_apart : (place : ℕ) (rs bs : List ℕ) → both_fault place rs bs ≡ all_apart place rs (pairs_of bs)
unfolding both_fault pairs_of
both_apart place rs [] = refl
both_apart place rs (k ∷ []) = refl
both_apart place rs (k ∷ d ∷ rest) = ap (and_then (apart_fault k d place rs)) (both_apart place rs rest)

-- ---- the bytes of a note
abbrev pub bad : ℕ → Bool
bad b = not (note_byte b)

bad_from : (i : ℕ) (ns : List ℕ) → first_bad_byte i ns ≡ position_from bad i ns
unfolding first_bad_byte
bad_from i [] = refl
bad_from i (b ∷ rest) =
    let r = bad_from (i + 1) rest in
    cond_both (note_byte b) (first_bad_byte (i + 1) rest) (Some i) (λ v. v ≡ cond (bad b) (Some i) (position_from bad (i + 1) rest)) (λ t. grind arith) (λ f. grind arith)

pub bad_is : (ns : List ℕ) → first_bad_byte 0 ns ≡ position bad ns
bad_is ns = bad_from 0 ns ∙ sym (position_from-zero bad ns)

-- the same byte, counted from elsewhere
abbrev pub along_from : ℕ → Option ℕ → Option ℕ
along_from place None = None
along_from place (Some i) = Some (place + i)

bad_shift : (place i : ℕ) (ns : List ℕ) → first_bad_byte (place + i) ns ≡ along_from place (first_bad_byte i ns)
unfolding first_bad_byte
bad_shift place i [] = refl
bad_shift place i (b ∷ rest) =
    let r = bad_shift place (i + 1) rest in
    cond_both (note_byte b) (first_bad_byte (i + 1) rest) (Some i) (λ v. cond (note_byte b) (first_bad_byte (place + i + 1) rest) (Some (place + i)) ≡ along_from place v) (λ t. grind arith) (λ f. grind arith)

pub bad_along : (place : ℕ) (ns : List ℕ) → first_bad_byte place ns ≡ along_from place (first_bad_byte 0 ns)
bad_along place ns = ap (λ (z : ℕ). first_bad_byte z ns) (omega arith) ∙ bad_shift place 0 ns
