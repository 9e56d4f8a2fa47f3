-- One call, and one turn of a loop that makes each call in its place.
use Rattle.std.proofs.Common.{◌≡◌, ℕ, ◌+◌, ◌<◌, ◌≤◌, List, [], ◌∷◌, ◌++◌, map, length, get_or, take, drop, set, sym, ap, ◌∙◌, subst, arith}
use Rattle.std.proofs.lemmas.List.{take_more_set, drop-set-lt, map_push, take_all, drop_all, append-nil}
use Rattle.ledger.specs.Ledger.{Ledger}
use Rattle.ledger.specs.Calls.{Seen, next, reply, after, replies}
use Rattle.ledger.specs.Copies.{copied, SoundCopy, booked_batches, all_carried_out, changed_groups}
use Rattle.ledger.specs.Laws.{AscendingGroups, InStep}
use Rattle.ledger.proofs.Follows.{follows}
use Rattle.suite.specs.declared.calls.Call.{Call}
use Rattle.suite.specs.Law.{Kept}
use Rattle.suite.specs.Seen.{seen}

module _ (L L' : Ledger) (cs : List Call) (i : ℕ) (d y : Call) (h : i < length cs)
    (moved : L' ≡ next L (seen (get_or cs i d))) (replied : seen y ≡ reply L (seen (get_or cs i d))) where
  rest : drop (i + 1) (set cs i y) ≡ drop (i + 1) cs
  rest = let w : i < i + 1 = omega arith in drop-set-lt (i + 1) cs i y w

  front : map seen (take (i + 1) (set cs i y)) ≡ map seen (take i cs) ++ (seen y ∷ [])
  front = ap (map seen) (take_more_set cs i y h) ∙ map_push seen (take i cs) y

module _ (L : Ledger) (cs : List Call) (i : ℕ) (h : length cs ≤ i) where
  pub after_all : after L (map seen (drop i cs)) ≡ L
  after_all = ap (λ z. after L (map seen z)) (drop_all i cs h)

  pub replies_all : map seen (take i cs) ++ replies L (map seen (drop i cs)) ≡ map seen cs
  replies_all =
      ap (λ z. map seen (take i cs) ++ replies L (map seen z)) (drop_all i cs h)
      ∙ append-nil (map seen (take i cs)) ∙ ap (map seen) (take_all i cs h)

-- the law, from the ledger's
pub law : (L L' : Ledger) (calls calls' : List Seen) → AscendingGroups L.held → L' ≡ after L calls → calls' ≡ replies L calls → Kept L L' calls calls'
law L L' calls calls' a m r =
    let f = follows L calls a in
    record {
      ledger_after = m;
      calls_after = r;
      plan = ap (λ (z : Ledger). z.rows) m ∙ f.plan ∙ ap (λ z. all_carried_out (booked_batches z) L.rows) (sym r);
      in_step = λ s. subst InStep (sym m) (f.step s);
      copy = ap (copied L.held) r ∙ f.copy ∙ ap (λ (z : Ledger). z.held) (sym m);
      sound = subst (SoundCopy L.held) (sym r) f.sound;
      spent = λ s. f.spent s ∙ ap (λ (z : Ledger). z.spare + changed_groups L.rows L.doors (booked_batches (replies L calls))) (sym m)
          ∙ ap (λ z. L'.spare + changed_groups L.rows L.doors (booked_batches z)) (sym r);
    }
