-- The plan before and after a batch.
use Rattle.std.proofs.Common.{◌≡◌, ℕ, ◌-◌, ◌≤◌, min, List, length, take, None, sym, ap, ◌∙◌, arith}
use Rattle.std.proofs.lemmas.List.{take_all, length-take-le}
use Rattle.pairs.specs.declared.change.Change.{Change}
use Rattle.groups.specs.Lists.{carried_out}
use Rattle.difference.specs.declared.two.TwoPlans.{TwoPlans}
use Rattle.difference.specs.Both.{before_rows, after_rows, two_doors}
use Rattle.difference.specs.Changes.{shared_count}
use Rattle.ledger.specs.Ledger.{changes_fault, unless}
use Rattle.ledger.proofs.Refusals.{unless_ok}
use Rattle.suite.specs.Steps.{Compares}
use Rattle.suite.proofs.Turns.{fine}

pub compares : (rows after : List ℕ) (doors : ℕ) (cs : List Change) (t : TwoPlans) → length rows ≤ 64 → doors ≤ 64 → length after ≡ length rows → after ≡ carried_out cs rows
    → before_rows t ≡ take (shared_count rows after) rows → after_rows t ≡ take (shared_count rows after) after → two_doors t ≡ min doors 64 → Compares doors rows cs t
compares rows after doors cs t k d l e b a f =
    let s : shared_count rows after ≡ length rows = omega arith in
    record {
      before = b ∙ ap (λ z. take z rows) s ∙ take_all (length rows) rows (omega arith);
      after = a ∙ ap (λ z. take z after) s ∙ take_all (length rows) after (omega arith) ∙ e;
      same_doors = f ∙ (let q : min doors 64 ≡ doors = omega arith in q);
    }

-- the first rows of a table are those of the plan, as many as it has keys
module _ (keys n : ℕ) (rows table : List ℕ) (long : length table ≡ 64) (few : keys ≤ 64) (e : n ≡ keys) (front : take keys table ≡ rows) where
  pub table_rows : take (n - 0) table ≡ rows
  table_rows = let z : n - 0 ≡ keys = omega arith in ap (λ v. take v table) z ∙ front

  pub table_keys : length (take (n - 0) table) ≡ keys
  table_keys = let z : n - 0 ≡ keys = omega arith in ap (λ v. length (take v table)) z ∙ length-take-le keys table (omega arith)

module _ (keys doors places k d s : ℕ) (rows table : List ℕ) (cs : List Change) (kk : k ≡ keys) (dd : d ≡ doors) (ss : s ≡ places) (tt' : table ≡ rows) (ll : length table ≡ keys) where
  fault_same : changes_fault (length table) d table 0 cs ≡ changes_fault keys doors rows 0 cs
  fault_same =
      ap (λ z. changes_fault z d table 0 cs) ll ∙ ap (λ z. changes_fault keys z table 0 cs) dd ∙ ap (λ z. changes_fault keys doors z 0 cs) tt'

  module _ (a : fine ≡ unless (changes_fault (length table) d table 0 cs) fine) where
    pub faultless : changes_fault keys doors rows 0 cs ≡ None
    faultless = sym fault_same ∙ (unless_ok (changes_fault (length table) d table 0 cs) fine tt (sym a)).0
