-- Runs of enters and of strikes where the places suffice: a refused call is of a record that makes no difference.
use Rattle.std.proofs.Common.{◌≡◌, ℕ, ◌+◌, ◌-◌, ◌<◌, ◌≤◌, Bool, true, false, cond, not, ◌&&◌, ◌||◌, eqb, List, [], ◌∷◌, length, is_ok, Ok, Err, Result, sym, refl, ap, ◌∙◌, ⊎_elim, arith}
use Rattle.std.proofs.lemmas.Bool.{cases_Bool, cond-false, ne_eqb, or_left, or_parts}
use Rattle.faults.specs.declared.cause.Cause.{Cause}
use Rattle.faults.specs.Causes.{bare}
use Rattle.groups.specs.declared.group.Group.{Group}
use Rattle.groups.specs.Orders.{group_before}
use Rattle.groups.proofs.Orders.{irreflexive, transitive, total}
use Rattle.table.specs.Sets.{tied, has, entered, struck, all_entered, all_struck}
use Rattle.table.proofs.Ups.{Up, up_entered, has_entered, tied_same}
use Rattle.table.proofs.Members.{same_up}
use Rattle.registers.specs.Meaning.{spare_struck, entered_run, struck_run}

-- a record that is there is entered to no effect, and one that is not is struck to none
entered_same : (x : Group) (ys : List Group) → Up group_before ys → has group_before x ys ≡ true → entered group_before x ys ≡ ys
entered_same x ys u h = same_up group_before irreflexive transitive total (entered group_before x ys) ys (up_entered group_before irreflexive transitive total x ys u) u
    (λ g. has_entered group_before irreflexive transitive total g x ys ∙ ⊎_elim
    (λ (t : tied group_before g x ≡ true). or_left (tied group_before g x) (has group_before g ys) t ∙ sym (ap (λ (z : Group). has group_before z ys) (tied_same group_before irreflexive transitive total g x t) ∙ h))
    (λ (f : tied group_before g x ≡ false). ap (λ b. b || has group_before g ys) f)
    (cases_Bool (tied group_before g x)))

struck_none : (x : Group) (ys : List Group) → has group_before x ys ≡ false → struck group_before x ys ≡ ys
struck_none x [] h = refl
struck_none x (y ∷ ys) h =
    let p = or_parts (tied group_before x y) (has group_before x ys) h in
    cond-false (tied group_before x y) ys (y ∷ struck group_before x ys) p.0 ∙ ap (λ (zs : List Group). y ∷ zs) (struck_none x ys p.1)

-- when a call is answered Ok
enter_ok : (b : Bool) (spare : ℕ) → 0 < spare → is_ok (cond {A = Result Unit Cause} b (Err (bare 7)) (cond (eqb spare 0) (Err (bare 8)) (Ok tt))) ≡ not b
enter_ok true spare h = refl
enter_ok false spare h = ap (λ t. is_ok (cond {A = Result Unit Cause} t (Err (bare 8)) (Ok tt))) (ne_eqb spare 0 (λ e. omega arith))

strike_ok : (b full : Bool) → full ≡ false → is_ok (cond {A = Result Unit Cause} (not b) (Err (bare 9)) (cond full (Err (bare 8)) (Ok tt))) ≡ b
strike_ok true full f = ap (λ t. is_ok (cond {A = Result Unit Cause} t (Err (bare 8)) (Ok tt))) f
strike_ok false full f = refl

pub entered_suffices : (held : List Group) (spare : ℕ) (xs : List Group) → Up group_before held → length xs ≤ spare → entered_run held spare xs ≡ all_entered group_before xs held
entered_suffices held spare [] u l = refl
entered_suffices held spare (x ∷ xs) u l =
    let e = enter_ok (has group_before x held) spare (omega arith) in
    ⊎_elim
    (λ (h : has group_before x held ≡ true).
    ap (λ b. entered_run (cond b (entered group_before x held) held) (cond b (spare - 1) spare) xs) (e ∙ ap not h)
    ∙ entered_suffices held spare xs u (omega arith) ∙ ap (all_entered group_before xs) (sym (entered_same x held u h)))
    (λ (h : has group_before x held ≡ false).
    ap (λ b. entered_run (cond b (entered group_before x held) held) (cond b (spare - 1) spare) xs) (e ∙ ap not h)
    ∙ entered_suffices (entered group_before x held) (spare - 1) xs (up_entered group_before irreflexive transitive total x held u) (omega arith))
    (cases_Bool (has group_before x held))

-- the places suffice for n strikes
abbrev pub Enough : Bool → ℕ → ℕ → Type 0
Enough spends n spare = spends ≡ true → n ≤ spare

not_full : (spends : Bool) (n spare : ℕ) → Enough spends (n + 1) spare → (spends && eqb spare 0) ≡ false
not_full true n spare h = let l = h refl in ne_eqb spare 0 (λ e. omega arith)
not_full false n spare h = refl

fewer : (spends : Bool) (n spare : ℕ) → Enough spends (n + 1) spare → Enough spends n (spare_struck spends spare)
fewer true n spare h e = let l = h e in omega arith
fewer false n spare h e = let l = h e in omega arith

pub struck_suffices : (spends : Bool) (held : List Group) (spare : ℕ) (xs : List Group) → Enough spends (length xs) spare → struck_run spends held spare xs ≡ all_struck group_before xs held
struck_suffices spends held spare [] l = refl
struck_suffices spends held spare (x ∷ xs) l =
    let m : Enough spends (length xs + 1) spare = λ t. let k = l t in omega arith in
    let e = strike_ok (has group_before x held) (spends && eqb spare 0) (not_full spends (length xs) spare m) in
    ⊎_elim
    (λ (h : has group_before x held ≡ true).
    ap (λ b. struck_run spends (cond b (struck group_before x held) held) (cond b (spare_struck spends spare) spare) xs) (e ∙ h)
    ∙ struck_suffices spends (struck group_before x held) (spare_struck spends spare) xs (fewer spends (length xs) spare m))
    (λ (h : has group_before x held ≡ false).
    ap (λ b. struck_run spends (cond b (struck group_before x held) held) (cond b (spare_struck spends spare) spare) xs) (e ∙ h)
    ∙ struck_suffices spends held spare xs (λ t. let k = l t in omega arith) ∙ ap (all_struck group_before xs) (sym (struck_none x held h)))
    (cases_Bool (has group_before x held))
