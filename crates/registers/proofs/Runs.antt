-- One turn of `enter_all` and of `strike_all`: the run over what is left of the records stays the same.
use Rattle.std.proofs.Common.{◌≡◌, ℕ, ◌+◌, ◌-◌, ◌<◌, Bool, cond, List, length, get_or, drop, is_ok, Ok, Err, Result, sym, refl, ap, ◌∙◌}
use Rattle.std.proofs.lemmas.List.{at_drop_more}
use Rattle.faults.specs.declared.cause.Cause.{Cause}
use Rattle.faults.specs.declared.register.RegisterFault.{RegisterFault}
use Rattle.faults.specs.Causes.{told}
use Rattle.faults.specs.Faults.{register_cause}
use Rattle.groups.specs.declared.group.Group.{Group}
use Rattle.groups.specs.Orders.{group_before}
use Rattle.table.specs.Sets.{entered, struck}
use Rattle.registers.specs.Meaning.{enter_answer, strike_answer, spare_struck, enter_held, enter_spare, strike_held, strike_spare, entered_run, entered_left, struck_run, struck_left}

told_ok : (r : Result Unit RegisterFault) → is_ok (told register_cause r) ≡ is_ok r
told_ok (Ok u) = refl
told_ok (Err e) = refl

-- an answer told by the table of causes is Ok exactly where the answer is
pub ok_as : (r : Result Unit RegisterFault) (a : Result Unit Cause) → told register_cause r ≡ a → is_ok r ≡ is_ok a
ok_as r a e = sym (told_ok r) ∙ ap (λ (z : Result Unit Cause). is_ok z) e

module _ (held held' : List Group) (spare spare' : ℕ) (xs : List Group) (i : ℕ) (d : Group) (r : Result Unit RegisterFault) (h : i < length xs) where
  module _ (answer : told register_cause r ≡ enter_answer held spare (get_or xs i d))
      (after : held' ≡ cond (is_ok r) (entered group_before (get_or xs i d) held) held)
      (left : spare' ≡ cond (is_ok r) (spare - 1) spare) where
    eh : held' ≡ enter_held held spare (get_or xs i d)
    eh = after ∙ ap (λ b. cond b (entered group_before (get_or xs i d) held) held) (ok_as r _ answer)

    es : spare' ≡ enter_spare held spare (get_or xs i d)
    es = left ∙ ap (λ b. cond b (spare - 1) spare) (ok_as r _ answer)

    pub enter_turn : entered_run held' spare' (drop (i + 1) xs) ≡ entered_run held spare (drop i xs)
    enter_turn = ap (λ z. entered_run z spare' (drop (i + 1) xs)) eh ∙ ap (λ z. entered_run (enter_held held spare (get_or xs i d)) z (drop (i + 1) xs)) es ∙ sym (at_drop_more (entered_run held spare) xs i d h)

    pub enter_turn_left : entered_left held' spare' (drop (i + 1) xs) ≡ entered_left held spare (drop i xs)
    enter_turn_left = ap (λ z. entered_left z spare' (drop (i + 1) xs)) eh ∙ ap (λ z. entered_left (enter_held held spare (get_or xs i d)) z (drop (i + 1) xs)) es ∙ sym (at_drop_more (entered_left held spare) xs i d h)

  module _ (spends : Bool) (answer : told register_cause r ≡ strike_answer spends held spare (get_or xs i d))
      (after : held' ≡ cond (is_ok r) (struck group_before (get_or xs i d) held) held)
      (left : spare' ≡ cond (is_ok r) (spare_struck spends spare) spare) where
    sh : held' ≡ strike_held spends held spare (get_or xs i d)
    sh = after ∙ ap (λ b. cond b (struck group_before (get_or xs i d) held) held) (ok_as r _ answer)

    ss : spare' ≡ strike_spare spends held spare (get_or xs i d)
    ss = left ∙ ap (λ b. cond b (spare_struck spends spare) spare) (ok_as r _ answer)

    pub strike_turn : struck_run spends held' spare' (drop (i + 1) xs) ≡ struck_run spends held spare (drop i xs)
    strike_turn = ap (λ z. struck_run spends z spare' (drop (i + 1) xs)) sh ∙ ap (λ z. struck_run spends (strike_held spends held spare (get_or xs i d)) z (drop (i + 1) xs)) ss ∙ sym (at_drop_more (struck_run spends held spare) xs i d h)

    pub strike_turn_left : struck_left spends held' spare' (drop (i + 1) xs) ≡ struck_left spends held spare (drop i xs)
    strike_turn_left = ap (λ z. struck_left spends z spare' (drop (i + 1) xs)) sh ∙ ap (λ z. struck_left spends (strike_held spends held spare (get_or xs i d)) z (drop (i + 1) xs)) ss ∙ sym (at_drop_more (struck_left spends held spare) xs i d h)
