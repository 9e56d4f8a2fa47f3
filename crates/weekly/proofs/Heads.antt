-- One entry of the contents.
use Rattle.std.proofs.Common.{◌≡◌, append-nil, ℕ, zero, suc, ◌+◌, ◌-◌, ◌*◌, ◌%◌, ◌<◌, ◌≤◌, Bool, true, false, cond, eqb, List, [], ◌∷◌, ◌++◌, length, get_or, take, drop, Some, None, Ok, Err, Result, sym, refl, ap, ◌∙◌, subst, arith, rules}
use Rattle.std.proofs.lemmas.Bool.Decides.{nat_tests}
use Rattle.std.proofs.lemmas.List.{places, take_rest, take-append-drop}
use Rattle.std.proofs.lemmas.Bool.{cond-true, cond-false, le-ltb}
use Rattle.faults.specs.declared.cause.Cause.{Cause}
use Rattle.faults.specs.Causes.{along}
use Rattle.weekly.specs.Places.{Places}
use Rattle.weekly.specs.declared.head.Entry.{Entry}
use Rattle.weekly.specs.Entries.{entries_of}
use Rattle.weekly.specs.Kinds.{letter_of, kind_of}
use Rattle.weekly.specs.declared.kind.Kind.{Kind}
use Rattle.weekly.specs.declared.kind.Kind.TheVariants.{Added, Note, Removed}
use Rattle.weekly.specs.Head.{two_bytes, opened, is_entry_ok, with_a_body, entries, bodies_start, bodies_end, Short, ended, layout_of}

-- ---- the entries, one after the other
-- too short for an entry
pub read_none : (bs : List ℕ) → length bs < 5 → entries_of bs ≡ []
unfolding entries_of
read_none [] h = refl
read_none (a ∷ []) h = refl
read_none (a ∷ b ∷ []) h = refl
read_none (a ∷ b ∷ c ∷ []) h = refl
read_none (a ∷ b ∷ c ∷ d ∷ []) h = refl
read_none (a ∷ b ∷ c ∷ d ∷ e ∷ rest) h = absurd (omega arith)

-- the next entry, as a slice pattern has it
pub read_more : (bs : List ℕ) → 5 ≤ length bs → entries_of bs ≡
    record { letter = get_or bs 0 0; start = two_bytes (get_or bs 1 0) (get_or bs 2 0); len = two_bytes (get_or bs 3 0) (get_or bs 4 0) } ∷ entries_of (take (length bs - 5) (drop 5 bs))
unfolding entries_of
read_more [] h = absurd (omega arith)
read_more (a ∷ []) h = absurd (omega arith)
read_more (a ∷ b ∷ []) h = absurd (omega arith)
read_more (a ∷ b ∷ c ∷ []) h = absurd (omega arith)
read_more (a ∷ b ∷ c ∷ d ∷ []) h = absurd (omega arith)
read_more (a ∷ b ∷ c ∷ d ∷ e ∷ rest) h = rw (take_rest (a ∷ b ∷ c ∷ d ∷ e ∷ rest) 5) refl

-- what entries add to a layout, the first of them at `place`, after one with the letter `prev`
abbrev pub laid : ℕ → ℕ → Places → List Entry → Result Places Cause
laid place prev got [] = Ok got
laid place prev got (e ∷ es) =
    cond (is_entry_ok prev (bodies_end got) got.added e.letter e.start e.len) (laid (place + 5) e.letter (with_a_body got e.letter e.len) es) (Err (along 22 place))

-- n entries stand in the first 5 * n bytes
pub entries_laid : (n : ℕ) (bs rest : List ℕ) (place prev : ℕ) (got : Places) → length bs ≡ 5 * n → entries n (bs ++ rest) place prev got ≡ laid place prev got (entries_of bs)
unfolding entries entries_of
entries_laid zero [] rest place prev got h = refl
entries_laid zero (a ∷ bs) rest place prev got h = absurd (omega arith)
entries_laid (suc n) [] rest place prev got h = absurd (omega arith)
entries_laid (suc n) (a ∷ []) rest place prev got h = absurd (omega arith)
entries_laid (suc n) (a ∷ b ∷ []) rest place prev got h = absurd (omega arith)
entries_laid (suc n) (a ∷ b ∷ c ∷ []) rest place prev got h = absurd (omega arith)
entries_laid (suc n) (a ∷ b ∷ c ∷ d ∷ []) rest place prev got h = absurd (omega arith)
entries_laid (suc n) (a ∷ b ∷ c ∷ d ∷ e ∷ bs) rest place prev got h =
    ap (λ (z : Result Places Cause). cond (is_entry_ok prev (bodies_end got) got.added a (two_bytes b c) (two_bytes d e)) z (Err (along 22 place)))
    (entries_laid n bs rest (place + 5) a (with_a_body got a (two_bytes d e)) (omega arith))

pub entries_whole : (n : ℕ) (bs : List ℕ) (place prev : ℕ) (got : Places) → length bs ≡ 5 * n → entries n bs place prev got ≡ laid place prev got (entries_of bs)
entries_whole n bs place prev got h = ap (λ (z : List ℕ). entries n z place prev got) (sym (append-nil bs)) ∙ entries_laid n bs [] place prev got h

pub read_count : (bs : List ℕ) → 5 * length (entries_of bs) ≤ length bs
unfolding entries_of
read_count [] = omega arith
read_count (a ∷ []) = omega arith
read_count (a ∷ b ∷ []) = omega arith
read_count (a ∷ b ∷ c ∷ []) = omega arith
read_count (a ∷ b ∷ c ∷ d ∷ []) = omega arith
read_count (a ∷ b ∷ c ∷ d ∷ e ∷ rest) = let r = read_count rest in omega arith

-- past the opening, the number of entries and the contents' end
pub layout_past : (f : List ℕ) (n : ℕ) (r : Result Places Cause) → true ≡ opened f → n ≡ get_or f 4 0 → n ≤ 3 → 5 + 5 * n ≤ length f
    → r ≡ entries n (take (5 + 5 * n - 5) (drop 5 f)) 5 0 (bodies_start n) → layout_of f ≡ ended (length f) r
unfolding layout_of
layout_past f n r o k m l e =
    let bs = take (5 + 5 * n - 5) (drop 5 f) in
    let rest = drop (5 + 5 * n - 5) (drop 5 f) in
    let size : length bs ≡ 5 * n = search (rules, places) in
    let whole : entries n (drop 5 f) 5 0 (bodies_start n) ≡ r =
    ap (λ (x : List ℕ). entries n x 5 0 (bodies_start n)) (sym (take-append-drop (5 + 5 * n - 5) (drop 5 f)))
    ∙ (entries_laid n bs rest 5 0 (bodies_start n) size
    ∙ sym (e ∙ entries_whole n bs 5 0 (bodies_start n) size)) in
    cond-true _ _ _ (sym o) ∙ (cond-false _ _ _ (le-ltb 3 (get_or f 4 0) (omega arith)) ∙ (cond-false _ _ _ (le-ltb (length f) (5 + 5 * get_or f 4 0) (omega arith))
    ∙ ap (λ (x : Result Places Cause). ended (length f) x) (ap (λ (z : ℕ). entries z (drop 5 f) 5 0 (bodies_start z)) (sym k) ∙ whole)))

-- a right entry keeps a layout short, and its pairs in twos
even_add : (a b : ℕ) → a % 2 ≡ 0 → b % 2 ≡ 0 → (a + b) % 2 ≡ 0
even_add a b p q = omega arith

len_ok : (prev start used letter at len : ℕ) → true ≡ is_entry_ok prev start used letter at len
    → (len ≤ 200) × (eqb letter 0x4E ≡ false → len % 2 ≡ 0)
len_ok prev start used letter at len e = grind (arith, nat_tests)

held_short : (g : Places) (letter len : ℕ) → Short g → bodies_end g + 200 ≤ 900 → len ≤ 200 → (eqb letter 0x4E ≡ false → len % 2 ≡ 0) → Short (with_a_body g letter len)
held_short g letter len s b l e =
    let p = even_add g.added len s.1 in let q = even_add g.removed len s.2 in grind (arith, nat_tests)

pub next_short : (prev start used letter at len : ℕ) (g h : Places) → true ≡ is_entry_ok prev start used letter at len → h ≡ with_a_body g letter len
    → Short g → bodies_end g + 200 ≤ 900 → Short h
next_short prev start used letter at len g h e q s b =
    let k = len_ok prev start used letter at len e in subst (λ (x : Places). Short x) (sym q) (held_short g letter len s b k.0 k.1)

-- ---- an entry of a kind
pub letter_is : (letter : ℕ) (kind : Kind) → kind_of letter ≡ Some kind → letter ≡ letter_of kind
letter_is letter Added e = grind (arith, nat_tests)
letter_is letter Note e = grind (arith, nat_tests)
letter_is letter Removed e = grind (arith, nat_tests)

pub kind_ok : (right : Bool) (letter : ℕ) (kind : Kind) → Some kind ≡ cond right (kind_of letter) None → (true ≡ right) × (letter ≡ letter_of kind)
kind_ok true letter kind e = (refl, letter_is letter kind (sym e))
kind_ok false letter kind e = cc

-- ---- the layout after a right entry
with_end : (g : Places) (letter len : ℕ) → bodies_end (with_a_body g letter len) ≡ bodies_end g + len
with_end g letter len = grind (arith, nat_tests)

module _ (prev : ℕ) (g h : Places) (e : Entry) (right : true ≡ is_entry_ok prev (bodies_end g) g.added e.letter e.start e.len) (is : h ≡ with_a_body g e.letter e.len) where
  pub laid_on : (place : ℕ) (es : List Entry) → laid place prev g (e ∷ es) ≡ laid (place + 5) e.letter h es
  laid_on place es = cond-true _ _ _ (sym right) ∙ ap (λ (z : Places). laid (place + 5) e.letter z es) (sym is)

  pub end_on : bodies_end h ≤ bodies_end g + 200
  end_on =
      let k = (len_ok prev (bodies_end g) g.added e.letter e.start e.len right).0 in
      let w = ap (λ (z : Places). bodies_end z) is ∙ with_end g e.letter e.len in omega (arith, w, k)

  pub short_on : Short g → bodies_end g + 200 ≤ 900 → Short h
  short_on s b = next_short prev (bodies_end g) g.added e.letter e.start e.len g h right is s b
