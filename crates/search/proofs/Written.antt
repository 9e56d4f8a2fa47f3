-- Lists that fit, written one after another, and the first that does not.
use Rattle.std.proofs.Common.{◌≡◌, ℕ, ◌+◌, ◌<◌, ◌≤◌, List, [], ◌∷◌, ◌++◌, length, set, Some, None, sym, refl, ap, ◌∙◌, subst, ⊎_elim, arith, length-append}
use Rattle.std.proofs.lemmas.Bool.{cases_lt}
use Rattle.groups.specs.declared.group.Group.{Group}
use Rattle.search.specs.Fills.{fill_answer, filled_from}
use Rattle.search.proofs.Fills.{answer_some, answer_none, filled_none, filled_one, filled_cut, filled_length, filled_twice, answer_twice}

-- the list was written from `count` on, where it ends at `end`
pub record Written (list T T' : List Group) (count end : ℕ) : Type 0 where
  pub ends : end ≡ count + length list
  pub fits : end ≤ length T
  pub table : T' ≡ filled_from list T count

pub written_none : (T : List Group) (count : ℕ) → count ≤ length T → Written [] T T count count
written_none T count h = record { ends = omega arith; fits = h; table = sym (filled_none T count h) }

pub written_one : (T : List Group) (count : ℕ) (g : Group) → count < length T → Written (g ∷ []) T (set T count g) count (count + 1)
written_one T count g h = record { ends = refl; fits = omega arith; table = sym (filled_one T count (omega arith) g h) }

pub written_list : {T T' : List Group} {count end : ℕ} {a b : List Group} → a ≡ b → Written a T T' count end → Written b T T' count end
written_list {T} {T'} {count} {end} e w = subst (λ (z : List Group). Written z T T' count end) e w

pub written_at : {T T₁ T₂ : List Group} {count end last : ℕ} {a : List Group} → T₁ ≡ T₂ → end ≡ last → Written a T T₂ count last → Written a T T₁ count end
written_at {T} {T₁} {T₂} {count} {end} {last} {a} e f w = record { ends = f ∙ w.ends; fits = omega (arith, w.fits); table = e ∙ w.table }

-- the answer of a list that was written
module _ {T T' : List Group} {count end : ℕ} {a : List Group} (w : Written a T T' count end) where
  pub written_answer : Some end ≡ fill_answer a T count
  written_answer = ap (λ (n : ℕ). Some n) w.ends ∙ sym (answer_some T count a (omega (arith, w.ends, w.fits)))

-- a list that was written, and then a call that writes another
module _ {T T₁ : List Group} {count end : ℕ} {a : List Group} (room : count ≤ length T) (w : Written a T T₁ count end) (b : List Group) where
  fits_a : count + length a ≤ length T
  fits_a = omega (arith, w.ends, w.fits)

  pub then_table : filled_from b T₁ end ≡ filled_from (a ++ b) T count
  then_table =
      ap (λ (z : List Group). filled_from b z end) w.table ∙ ap (filled_from b (filled_from a T count)) w.ends ∙ filled_twice T count room a fits_a b

  pub then_answer : fill_answer b T₁ end ≡ fill_answer (a ++ b) T count
  then_answer =
      ap (λ (z : List Group). fill_answer b z end) w.table ∙ ap (fill_answer b (filled_from a T count)) w.ends ∙ answer_twice T count room a fits_a b

  pub then_room : end ≤ length T₁
  then_room = omega (arith, w.fits, ap length w.table ∙ filled_length T count room a fits_a)

  pub then_written : {T₂ : List Group} {last : ℕ} → Written b T₁ T₂ end last → Written (a ++ b) T T₂ count last
  then_written v =
      record {
        ends = omega (arith, v.ends, w.ends, length-append a b);
        fits = omega (arith, v.fits, ap length w.table ∙ filled_length T count room a fits_a);
        table = v.table ∙ then_table;
      }

-- what an answer says
module _ (T : List Group) (count : ℕ) (a : List Group) where
  no_answer : Some (count + length a) ≡ None → ⊥
  no_answer e = let z : ◌≡◌ {A = ℕ} 0 1 = cc in omega arith

  some_answer : (end : ℕ) → Some end ≡ None → ⊥
  some_answer end e = let z : ◌≡◌ {A = ℕ} 0 1 = cc in omega arith

  same_end : (end : ℕ) → Some end ≡ Some (count + length a) → end ≡ count + length a
  same_end end e = cc

  pub none_past : None ≡ fill_answer a T count → length T < count + length a
  none_past e =
      ⊎_elim (λ (l : length T < count + length a). l) (λ (l : count + length a ≤ length T). absurd (no_answer (sym (answer_some T count a l) ∙ sym e)))
      (cases_lt (length T) (count + length a))

  pub some_written : {T' : List Group} (end : ℕ) → Some end ≡ fill_answer a T count → T' ≡ filled_from a T count → Written a T T' count end
  some_written end e f =
      ⊎_elim (λ (l : length T < count + length a). absurd (some_answer end (e ∙ answer_none T count a l)))
      (λ (l : count + length a ≤ length T). let s = same_end end (e ∙ answer_some T count a l) in record { ends = s; fits = omega arith; table = f })
      (cases_lt (length T) (count + length a))

  -- what does not fit does not fit with more behind it
  module _ (past : length T < count + length a) (b : List Group) where
    pub cut_answer : None ≡ fill_answer (a ++ b) T count
    cut_answer = sym (answer_none T count (a ++ b) (omega (arith, length-append a b)))

    pub cut_table : count ≤ length T → filled_from a T count ≡ filled_from (a ++ b) T count
    cut_table room = sym (filled_cut T count room a b (omega arith))

-- nothing to write
pub empty_answer : (T : List Group) (count : ℕ) (a : List Group) → a ≡ [] → count ≤ length T → Some count ≡ fill_answer a T count
empty_answer T count a e h = written_answer (written_list (sym e) (written_none T count h))

pub empty_table : (T : List Group) (count : ℕ) (a : List Group) → a ≡ [] → count ≤ length T → T ≡ filled_from a T count
empty_table T count a e h = (written_list (sym e) (written_none T count h)).table
