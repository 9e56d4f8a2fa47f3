-- A fold over the items of a chain may be called at each of them, where each has what the call asks.
use Rattle.std.proofs.Common.{◌≡◌, ℕ, ◌<◌, List, length, get_or, Option, Some, refl}
use Rattle.std.specs.Iterator.{CallableAtEachTurn}
use Rattle.std.proofs.lemmas.Fn.{serves_by}
use Rattle.std.proofs.lemmas.Iterator.{YieldsList}
use Rattle.std.proofs.lemmas.Iterator.Consumers.{YieldsList-turn}

pub serves_all : {S A B P : Type 0} {steps : S → Option A → S → Type 0} {v : A → B} {s : S} {all : List B} {R : P → A → P → Type 0} {Q : P → A → Type 0} {p : P}
    → YieldsList steps v s all → ((x : A) (q : P) (k : ℕ) → k < length all → v x ≡ get_or all k (v x) → Q q x) → CallableAtEachTurn steps R Q s p
serves_all {steps = steps} {s = s} {R = R} {Q = Q} {p = p} road asks = serves_by R (λ xs q. Unit {0}) (λ xs q x w j r. tt) steps Q s p tt
    (λ xs t q x u y e j. let m = YieldsList-turn road xs t y (Some x) u x refl e in asks x q (length xs) m.0 m.1)
