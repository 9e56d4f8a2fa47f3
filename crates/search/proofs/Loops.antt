-- The loop over the keys that are left: what it has written, one turn, its end, and where the table is full.
use Rattle.std.proofs.Common.{◌≡◌, ℕ, ◌+◌, ◌^◌, ◌<◌, ◌≤◌, List, [], ◌∷◌, ◌++◌, length, get_or, Some, None, sym, ap, ◌∙◌, subst, append_assoc, append-nil, arith}
use lib.Bits.{bit_and, bit_or, or_zero_r}
use Rattle.masks.proofs.Bitlaws.{has_below}
use Rattle.groups.specs.declared.group.Group.{Group}
use Rattle.search.specs.Fills.{fill_answer, filled_from}
use Rattle.search.specs.Nodes.{Closes, IsNode}
use Rattle.search.specs.Parts.{scope_list}
use Rattle.search.proofs.Fills.{filled_none, filled_cut}
use Rattle.masks.proofs.Ascending.{Peeled}
use Rattle.search.proofs.Steps.{Upper, upper_start, upper_next, to_come, tail_list, step_list, here_list}
use Rattle.search.proofs.Written.{Written, written_none, written_list, written_answer, then_table, then_answer, then_room, then_written, none_past, cut_answer, cut_table}

-- since the loop began, with the table T at e, it has written the groups that have some of `free` and none of `rest`
pub record Progress (rows : List ℕ) (D : ℕ) (watched : List ℕ) (x off free : ℕ) (T : List Group) (e : ℕ) (rest : ℕ) (T' : List Group) (end : ℕ) : Type 0 where
  pub upper : Upper free rest
  pub small : rest < 2 ^ 64
  pub more : List Group
  pub lists : scope_list rows D watched x (bit_or off rest) ≡ scope_list rows D watched x (bit_or off free) ++ more
  pub written : Written more T T' e end

pub moved : {rows watched : List ℕ} {D x off free e rest later end : ℕ} {T T' : List Group} → rest ≡ later
    → Progress rows D watched x off free T e rest T' end → Progress rows D watched x off free T e later T' end
moved {rows} {watched} {D} {x} {off} {free} {e} {rest} {later} {end} {T} {T'} is p = subst (λ (v : ℕ). Progress rows D watched x off free T e v T' end) is p

module _ {rows cols watched : List ℕ} {D x off n m free : ℕ} (node : IsNode rows cols watched D x off n m free) where
  abbrev lists_at : ℕ → ℕ → List Group
  lists_at y o = scope_list rows D watched y o

  starts_free : (T : List Group) (e : ℕ) → e ≤ length T → Progress rows D watched x off free T e free T e
  starts_free T e room =
      record {
        upper = upper_start free;
        small = has_below 64 free node.free_below;
        more = [];
        lists = sym (append-nil (lists_at x (bit_or off free)));
        written = written_none T e room;
      }

  pub starts : {rest : ℕ} → rest ≡ free → (T : List Group) (e : ℕ) → e ≤ length T → Progress rows D watched x off free T e rest T e
  starts is T e room = moved (sym is) (starts_free T e room)

  module _ {T T₁ : List Group} {e e₁ rest : ℕ} (room : e ≤ length T) (p : Progress rows D watched x off free T e rest T₁ e₁) where
    pub room_now : e₁ ≤ length T₁
    room_now = then_room room p.written []

    module _ {j r c s : ℕ} (peel : Peeled rest j r) (closes : Closes cols (bit_and n (get_or rows j 0)) c s) where
      abbrev next : List Group
      next = lists_at c (bit_or off r)

      joined : lists_at x (bit_or off r) ≡ lists_at x (bit_or off free) ++ (p.more ++ next)
      joined = step_list node p.small p.upper peel closes ∙ ap (λ (z : List Group). z ++ next) p.lists ∙ append_assoc (lists_at x (bit_or off free)) p.more next

      -- one turn
      pub turns : {T₂ : List Group} {e₂ : ℕ} → Written next T₁ T₂ e₁ e₂ → Progress rows D watched x off free T e r T₂ e₂
      turns w =
          record {
            upper = upper_next p.upper peel;
            small = (let f = peel.falls in let s = p.small in omega arith);
            more = p.more ++ next;
            lists = joined;
            written = then_written room p.written next w;
          }

      pub turns_none : next ≡ [] → Progress rows D watched x off free T e r T₁ e₁
      turns_none z = turns (written_list (sym z) (written_none T₁ e₁ room_now))

  -- the whole call, from the table T₀ at count
  module _ {T₀ T T₁ : List Group} {count e e₁ rest : ℕ} (room : count ≤ length T₀) (begun : Written (lists_at x (bit_or off free)) T₀ T count e)
      (p : Progress rows D watched x off free T e rest T₁ e₁) where
    so_far : Written (lists_at x (bit_or off free) ++ p.more) T₀ T₁ count e₁
    so_far = then_written room begun p.more p.written

    module _ (z : rest ≡ 0) where
      all : lists_at x (bit_or off free) ++ p.more ≡ lists_at x off
      all = sym p.lists ∙ ap (λ (v : ℕ). lists_at x (bit_or off v)) z ∙ ap (lists_at x) (or_zero_r off)

      pub ends_answer : Some e₁ ≡ fill_answer (lists_at x off) T₀ count
      ends_answer = written_answer (written_list all so_far)

      pub ends_table : T₁ ≡ filled_from (lists_at x off) T₀ count
      ends_table = (written_list all so_far).table

    -- the table is full
    module _ {j r c s : ℕ} (peel : Peeled rest j r) (closes : Closes cols (bit_and n (get_or rows j 0)) c s)
        (full : None ≡ fill_answer (lists_at c (bit_or off r)) T₁ e₁) where
      abbrev up_to : List Group
      up_to = (lists_at x (bit_or off free) ++ p.more) ++ lists_at c (bit_or off r)

      r_small : r < 2 ^ 64
      r_small = let f = peel.falls in let s = p.small in omega arith

      rest_of : List Group
      rest_of = to_come node r_small (upper_next p.upper peel)

      all_is : lists_at x off ≡ up_to ++ rest_of
      unfolding rest_of
      all_is =
          tail_list node r_small (upper_next p.upper peel)
          ∙ ap (λ (z : List Group). z ++ rest_of) (step_list node p.small p.upper peel closes ∙ ap (λ (z : List Group). z ++ lists_at c (bit_or off r)) p.lists)

      past : length T₀ < count + length up_to
      past = none_past T₀ count up_to (full ∙ then_answer room so_far (lists_at c (bit_or off r)))

      pub breaks_answer : None ≡ fill_answer (lists_at x off) T₀ count
      breaks_answer = cut_answer T₀ count up_to past rest_of ∙ ap (λ (z : List Group). fill_answer z T₀ count) (sym all_is)

      pub breaks_table : filled_from (lists_at c (bit_or off r)) T₁ e₁ ≡ filled_from (lists_at x off) T₀ count
      breaks_table =
          then_table room so_far (lists_at c (bit_or off r)) ∙ cut_table T₀ count up_to past rest_of room ∙ ap (λ (z : List Group). filled_from z T₀ count) (sym all_is)

  -- there is no room for the node itself
  module _ (some : x ≡ 0 → ⊥) where
    free_small : free < 2 ^ 64
    free_small = has_below 64 free node.free_below

    later : List Group
    later = to_come node free_small (upper_start free)

    first_is : lists_at x off ≡ (record { keys = x; doors = n } ∷ []) ++ later
    unfolding later
    first_is = tail_list node free_small (upper_start free) ∙ ap (λ (z : List Group). z ++ later) (here_list node some)

    pub full_answer : (T₀ : List Group) (count : ℕ) → length T₀ ≤ count → None ≡ fill_answer (lists_at x off) T₀ count
    full_answer T₀ count full = cut_answer T₀ count (record { keys = x; doors = n } ∷ []) (omega arith) later ∙ ap (λ (z : List Group). fill_answer z T₀ count) (sym first_is)

    pub full_table : (T₀ : List Group) (count : ℕ) → count ≤ length T₀ → length T₀ ≤ count → T₀ ≡ filled_from (lists_at x off) T₀ count
    full_table T₀ count room full =
        sym (filled_none T₀ count room) ∙ sym (filled_cut T₀ count room [] (lists_at x off) (omega arith))
