-- What a judgement that found no fault says.
use Rattle.std.proofs.Common.{◌≡◌, ℕ, ◌+◌, Bool, true, false, cond, List, length, Ok, Err, Result, sym, refl, ap, ◌∙◌, subst}
use Rattle.faults.specs.declared.cause.Cause.{Cause}
use Rattle.weekly.specs.Places.{Places}
use Rattle.weekly.specs.Body.{and_then, pairs_fault, text_fault, both_fault, bodies_fault, added_bytes, note_bytes, removed_bytes}
use Rattle.weekly.specs.Head.{layout_of}
use Rattle.weekly.specs.declared.judge.Parts.{Parts}
use Rattle.weekly.specs.Parts.{laid_out, PartsOf}
use Rattle.weekly.specs.Read.{with_bodies, judged}

-- ---- no fault in a whole is none in its parts
pub then_ok : {X : Type 0} (a : Result Unit Cause) (b : Result X Cause) (x : X) → and_then a b ≡ Ok x → (a ≡ Ok tt) × (b ≡ Ok x)
then_ok (Ok u) b x e = (refl, e)
then_ok (Err f) b x e = cc

pub cond_ok : (t : Bool) (r : Result Unit Cause) (f : Cause) → cond t r (Err f) ≡ Ok tt → (t ≡ true) × (r ≡ Ok tt)
cond_ok true r f e = (refl, e)
cond_ok false r f e = cc

pub cond_not : (t : Bool) (r : Result Unit Cause) (f : Cause) → cond t (Err f) r ≡ Ok tt → (t ≡ false) × (r ≡ Ok tt)
cond_not false r f e = (refl, e)
cond_not true r f e = cc

with_ok : (f : List ℕ) (r : Result Places Cause) (g : Places) → with_bodies f r ≡ Ok g
    → (r ≡ Ok g) × (bodies_fault g.first (added_bytes f g) (note_bytes f g) (removed_bytes f g) ≡ Ok tt)
with_ok f (Ok h) g e =
    let p = then_ok (bodies_fault h.first (added_bytes f h) (note_bytes f h) (removed_bytes f h)) (Ok h) g e in
    let q : h ≡ g = cc in
    (p.1, subst (λ (v : Places). bodies_fault v.first (added_bytes f v) (note_bytes f v) (removed_bytes f v) ≡ Ok tt) q p.0)
with_ok f (Err x) g e = cc

pub record Good (place : ℕ) (xs ns rs : List ℕ) : Type 0 where
  pub adds : pairs_fault 0 place xs ≡ Ok tt
  pub text : text_fault (place + length xs) ns ≡ Ok tt
  pub takes : pairs_fault 0 (place + length xs + length ns) rs ≡ Ok tt
  pub apart : both_fault (place + length xs + length ns) rs xs ≡ Ok tt

pub good_from : (place : ℕ) (xs ns rs : List ℕ) → bodies_fault place xs ns rs ≡ Ok tt → Good place xs ns rs
unfolding bodies_fault
good_from place xs ns rs e =
    let p = then_ok (pairs_fault 0 place xs) _ tt e in let q = then_ok (text_fault (place + length xs) ns) _ tt p.1 in let r = then_ok (pairs_fault 0 (place + length xs + length ns) rs) _ tt q.1 in
    record { adds = p.0; text = q.0; takes = r.0; apart = r.1 }

pub judged_ok : (f : List ℕ) (g : Places) → judged f ≡ Ok g → (layout_of f ≡ Ok g) × Good g.first (added_bytes f g) (note_bytes f g) (removed_bytes f g)
unfolding judged
judged_ok f g e = let p = with_ok f (layout_of f) g e in (p.0, good_from g.first (added_bytes f g) (note_bytes f g) (removed_bytes f g) p.1)

-- the judgement of the bodies as parts of the file
pub judged_parts : (f : List ℕ) (p : Parts) (g : Places) (r : Result Unit Cause) → Ok g ≡ layout_of f → laid_out p ≡ g → PartsOf f p
    → r ≡ bodies_fault p.first p.added.now p.note.now p.removed.now → judged f ≡ and_then r (Ok (laid_out p))
unfolding judged
judged_parts f p g r e l o b =
    ap (with_bodies f) (sym e ∙ ap Ok (sym l))
    ∙ ap (λ (z : Result Unit Cause). and_then z (Ok (laid_out p)))
    (ap (λ (z : List ℕ). bodies_fault p.first z (note_bytes f (laid_out p)) (removed_bytes f (laid_out p))) (sym o.added)
    ∙ (ap (λ (z : List ℕ). bodies_fault p.first p.added.now z (removed_bytes f (laid_out p))) (sym o.note)
    ∙ (ap (λ (z : List ℕ). bodies_fault p.first p.added.now p.note.now z) (sym o.removed) ∙ sym b)))

pub judged_head : (f : List ℕ) (x : Cause) → Err x ≡ layout_of f → Err x ≡ judged f
unfolding judged
judged_head f x e = ap (with_bodies f) e
