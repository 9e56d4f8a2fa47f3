-- What contents without a fault are, byte by byte.
use Rattle.std.proofs.Common.{◌≡◌, ℕ, zero, suc, ◌+◌, ◌*◌, ◌/◌, ◌%◌, ◌<◌, ◌≤◌, Bool, true, false, cond, List, [], ◌∷◌, ◌++◌, length, get_or, take, drop, Ok, Err, Result, sym, refl, ap, ◌∙◌, subst, ⊎_elim, arith, rules}
use Rattle.std.proofs.lemmas.List.{places, same_lists, append_assoc, append-nil, get_or-drop}
use Rattle.std.proofs.lemmas.Bool.{cases_eq, cond-true, cond-false, eq-eqb, ne_eqb}
use Rattle.std.proofs.lemmas.Bool.Decides.{nat_tests}
use Rattle.faults.specs.declared.cause.Cause.{Cause}
use Rattle.weekly.specs.Places.{Places}
use Rattle.weekly.specs.Head.{two_bytes, is_entry_ok, with_a_body, entries, bodies_end}
use Rattle.weekly.specs.Trip.{Bytes}
use Rattle.weekly.specs.File.{entry_of, added_entry, note_entry, removed_entry}

abbrev pub entries_of : Places → List ℕ
entries_of g = added_entry g ++ (note_entry g ++ removed_entry g)

-- no body of a letter above the last
pub record Past (prev : ℕ) (g : Places) : Type 0 where
  pub adds : prev < 0x41 → g.added ≡ 0
  pub text : prev < 0x4E → g.note ≡ 0
  pub takes : prev < 0x52 → g.removed ≡ 0

abbrev pub five : ℕ → ℕ → ℕ → List ℕ
five letter start len = letter ∷ start % 256 ∷ start / 256 ∷ len % 256 ∷ len / 256 ∷ []

pub entry_none : (letter start len : ℕ) → len ≡ 0 → entry_of letter start len ≡ []
entry_none letter start len e = cond-true _ _ _ (eq-eqb len 0 e)

pub entry_some : (letter start len : ℕ) → 0 < len → entry_of letter start len ≡ five letter start len
entry_some letter start len h = cond-false _ _ _ (ne_eqb len 0 (omega arith))

five_is : (letter s m b1 b2 b3 b4 : ℕ) → b1 < 256 → b3 < 256 → s ≡ two_bytes b1 b2 → m ≡ two_bytes b3 b4 → five letter s m ≡ letter ∷ b1 ∷ b2 ∷ b3 ∷ b4 ∷ []
five_is letter s m b1 b2 b3 b4 h l p q =
    let e1 : s % 256 ≡ b1 = omega arith in let e2 : s / 256 ≡ b2 = omega arith in let e3 : m % 256 ≡ b3 = omega arith in let e4 : m / 256 ≡ b4 = omega arith in cc

take_five : (bs : List ℕ) → 5 ≤ length bs → take 5 bs ≡ get_or bs 0 0 ∷ get_or bs 1 0 ∷ get_or bs 2 0 ∷ get_or bs 3 0 ∷ get_or bs 4 0 ∷ []
take_five [] h = absurd (omega arith)
take_five (a ∷ []) h = absurd (omega arith)
take_five (a ∷ b ∷ []) h = absurd (omega arith)
take_five (a ∷ b ∷ c ∷ []) h = absurd (omega arith)
take_five (a ∷ b ∷ c ∷ d ∷ []) h = absurd (omega arith)
take_five (a ∷ b ∷ c ∷ d ∷ e ∷ rest) h = refl

take_more_five : (m : ℕ) (bs : List ℕ) → 5 + m ≤ length bs → take 5 bs ++ take m (drop 5 bs) ≡ take (5 + m) bs
take_more_five m bs h = same_lists _ _ (search (rules, places)) (λ k d l. grind (arith, places))

-- ---- one entry more
pub record Entered (prev start used letter at len : ℕ) : Type 0 where
  pub above : prev < letter
  pub starts : at ≡ start
  pub some : 0 < len

entered : (prev start used letter at len : ℕ) → is_entry_ok prev start used letter at len ≡ true → Entered prev start used letter at len
entered prev start used letter at len e = record { above = grind (arith, nat_tests); starts = grind (arith, nat_tests); some = grind (arith, nat_tests) }

not_else : (prev start used letter at len : ℕ) → is_entry_ok prev start used letter at len ≡ true → (letter ≡ 0x41 → ⊥) → (letter ≡ 0x4E → ⊥) → letter ≡ 0x52
not_else prev start used letter at len e a n = grind (arith, nat_tests)

joined : {p q r p' q' r' : List ℕ} → p ≡ p' → q ≡ q' → r ≡ r' → p ++ (q ++ r) ≡ p' ++ (q' ++ r')
joined {p} {q} {r} {p'} {q'} {r'} a b c = cc

abbrev pub Adds : Places → ℕ → ℕ → ℕ → Type 0
Adds g letter at len = (entries_of (with_a_body g letter len) ≡ entries_of g ++ five letter at len) × Past letter (with_a_body g letter len)

add_A : (g : Places) (at len : ℕ) → 0 < len → at ≡ bodies_end g → g.added ≡ 0 → g.note ≡ 0 → g.removed ≡ 0 → Adds g 0x41 at len
add_A g at len h s a n r =
    let l : g.added + len ≡ len = omega arith in
    let st : at ≡ g.first = omega arith in
    let x : entry_of 0x41 g.first (g.added + len) ≡ five 0x41 at len = ap (λ (z : ℕ). entry_of 0x41 g.first z) l ∙ (ap (λ (z : ℕ). entry_of 0x41 z len) (sym st) ∙ entry_some 0x41 at len h) in
    let y : entry_of 0x4E (g.first + (g.added + len)) g.note ≡ [] = entry_none 0x4E _ g.note n in
    let z : entry_of 0x52 (g.first + (g.added + len) + g.note) g.removed ≡ [] = entry_none 0x52 _ g.removed r in
    let x0 : added_entry g ≡ [] = entry_none 0x41 _ g.added a in
    let y0 : note_entry g ≡ [] = entry_none 0x4E _ g.note n in
    let z0 : removed_entry g ≡ [] = entry_none 0x52 _ g.removed r in (
      joined x y z ∙ sym (ap (λ (v : List ℕ). v ++ five 0x41 at len) (joined x0 y0 z0)),
      record { adds = λ q. absurd (omega arith); text = λ q. n; takes = λ q. r },
    )

add_N : (g : Places) (at len : ℕ) → 0 < len → at ≡ bodies_end g → g.note ≡ 0 → g.removed ≡ 0 → Adds g 0x4E at len
add_N g at len h s n r =
    let l : g.note + len ≡ len = omega arith in
    let st : at ≡ g.first + g.added = omega arith in
    let y : entry_of 0x4E (g.first + g.added) (g.note + len) ≡ five 0x4E at len = ap (λ (z : ℕ). entry_of 0x4E (g.first + g.added) z) l ∙ (ap (λ (z : ℕ). entry_of 0x4E z len) (sym st) ∙ entry_some 0x4E at len h) in
    let z : entry_of 0x52 (g.first + g.added + (g.note + len)) g.removed ≡ [] = entry_none 0x52 _ g.removed r in
    let y0 : note_entry g ≡ [] = entry_none 0x4E _ g.note n in
    let z0 : removed_entry g ≡ [] = entry_none 0x52 _ g.removed r in (
      joined (refl {a = added_entry g}) y z ∙ sym (ap (λ (v : List ℕ). v ++ five 0x4E at len) (joined (refl {a = added_entry g}) y0 z0 ∙ append-nil (added_entry g))),
      record { adds = λ q. absurd (omega arith); text = λ q. absurd (omega arith); takes = λ q. r },
    )

add_R : (g : Places) (at len : ℕ) → 0 < len → at ≡ bodies_end g → g.removed ≡ 0 → Adds g 0x52 at len
add_R g at len h s r =
    let l : g.removed + len ≡ len = omega arith in
    let st : at ≡ g.first + g.added + g.note = omega arith in
    let z : entry_of 0x52 (g.first + g.added + g.note) (g.removed + len) ≡ five 0x52 at len = ap (λ (v : ℕ). entry_of 0x52 (g.first + g.added + g.note) v) l ∙ (ap (λ (v : ℕ). entry_of 0x52 v len) (sym st) ∙ entry_some 0x52 at len h) in
    let z0 : removed_entry g ≡ [] = entry_none 0x52 _ g.removed r in (
      joined (refl {a = added_entry g}) (refl {a = note_entry g}) z
          ∙ sym (ap (λ (v : List ℕ). v ++ five 0x52 at len) (joined (refl {a = added_entry g}) (refl {a = note_entry g}) z0 ∙ ap (λ (v : List ℕ). added_entry g ++ v) (append-nil (note_entry g)))
          ∙ append_assoc (added_entry g) (note_entry g) (five 0x52 at len)),
      record { adds = λ q. absurd (omega arith); text = λ q. absurd (omega arith); takes = λ q. absurd (omega arith) },
    )

pub add_entry : (g : Places) (prev letter at len : ℕ) → Past prev g → is_entry_ok prev (bodies_end g) g.added letter at len ≡ true → Adds g letter at len
add_entry g prev letter at len p e =
    let k = entered prev (bodies_end g) g.added letter at len e in
    ⊎_elim
    (λ (q : letter ≡ 0x41). subst (λ (z : ℕ). Adds g z at len) (sym q) (add_A g at len k.some k.starts (p.adds (omega (arith, k.above, q))) (p.text (omega (arith, k.above, q))) (p.takes (omega (arith, k.above, q)))))
    (λ (a : letter ≡ 0x41 → ⊥). ⊎_elim
    (λ (q : letter ≡ 0x4E). subst (λ (z : ℕ). Adds g z at len) (sym q) (add_N g at len k.some k.starts (p.text (omega (arith, k.above, q))) (p.takes (omega (arith, k.above, q)))))
    (λ (n : letter ≡ 0x4E → ⊥). let q = not_else prev (bodies_end g) g.added letter at len e a n in
    subst (λ (z : ℕ). Adds g z at len) (sym q) (add_R g at len k.some k.starts (p.takes (omega (arith, k.above, q)))))
    (cases_eq letter 0x4E))
    (cases_eq letter 0x41)

held_first : (g : Places) (letter len : ℕ) → (with_a_body g letter len).first ≡ g.first
held_first g letter len = grind (arith, nat_tests)

pub cond_good : (t : Bool) (r : Result Places Cause) (f : Cause) (g : Places) → cond t r (Err f) ≡ Ok g → (t ≡ true) × (r ≡ Ok g)
cond_good true r f g e = (refl, e)
cond_good false r f g e = cc

-- what the entries add to a layout is what they are
pub entries_shape : (k : ℕ) (bs : List ℕ) (place prev : ℕ) (got g : Places) → 5 * k ≤ length bs → Bytes bs → Past prev got → entries k bs place prev got ≡ Ok g
    → (entries_of g ≡ entries_of got ++ take (5 * k) bs) × (g.first ≡ got.first)
unfolding entries
entries_shape zero bs place prev got g h b p e =
    let q : got ≡ g = cc in (sym (append-nil (entries_of got) ∙ ap (λ (v : Places). entries_of v) q), ap (λ (v : Places). v.first) (sym q))
entries_shape (suc k) bs place prev got g h b p e =
    let letter = get_or bs 0 0 in let at = two_bytes (get_or bs 1 0) (get_or bs 2 0) in let len = two_bytes (get_or bs 3 0) (get_or bs 4 0) in
    let c = cond_good (is_entry_ok prev (bodies_end got) got.added letter at len) _ _ g e in
    let a = add_entry got prev letter at len p c.0 in
    let l : 5 * k ≤ length (drop 5 bs) = search (rules, places) in
    let r = entries_shape k (drop 5 bs) (place + 5) letter (with_a_body got letter len) g l (λ i. subst (λ (z : ℕ). z < 256) (sym (get_or-drop 5 bs i 0)) (b (5 + i))) a.1 c.1 in
    let f : five letter at len ≡ take 5 bs = five_is letter at len (get_or bs 1 0) (get_or bs 2 0) (get_or bs 3 0) (get_or bs 4 0) (b 1) (b 3) refl refl ∙ sym (take_five bs (omega arith)) in
    let m : 5 + 5 * k ≡ 5 * suc k = omega arith in (
      r.0 ∙ (ap (λ (v : List ℕ). v ++ take (5 * k) (drop 5 bs)) (a.0 ∙ ap (λ (v : List ℕ). entries_of got ++ v) f)
          ∙ (append_assoc (entries_of got) (take 5 bs) (take (5 * k) (drop 5 bs)) ∙ ap (λ (v : List ℕ). entries_of got ++ v) (take_more_five (5 * k) bs (omega arith) ∙ ap (λ (z : ℕ). take z bs) m))),
      r.1 ∙ held_first got letter len,
    )
