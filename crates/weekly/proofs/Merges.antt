-- Changes are given by the bytes of their additions and of their removals.
use Rattle.std.proofs.Common.{◌≡◌, ℕ, ◌*◌, ◌%◌, Bool, true, false, cond, not, ◌&&◌, ◌||◌, List, [], ◌∷◌, ◌++◌, length, sym, refl, ap, ◌∙◌, subst, ⊎_elim, arith}
use Rattle.std.proofs.lemmas.Bool.{cases_Bool, cond-true, cond-false, cond_both}
use Rattle.pairs.specs.declared.change.Change.{Change}
use Rattle.pairs.specs.Orders.{change_before, before_by_pair}
use Rattle.pairs.specs.Chains.{change_irreflexive, change_chain, change_total, by_pair_chain, by_pair_before}
use Rattle.table.specs.Rows.{Ascends}
use Rattle.table.specs.Sets.{tied, has, sorted}
use Rattle.table.proofs.Ups.{Below, Up, ascends_up, tied_same}
use Rattle.table.proofs.Members.{same_up, take_self}
use Rattle.table.proofs.Alls.{has_append, has_sorted, up_sorted, sorted_only}
use Rattle.weekly.specs.Marks.{same, bytes_of, marked, merged}

-- the changes of one mark
abbrev pub only : Bool → List Change → List Change
only b [] = []
only b (c ∷ cs) = cond (same b c.added) (c ∷ only b cs) (only b cs)

same_is : (b x : Bool) → same b x ≡ true → x ≡ b
same_is true x e = e
same_is false true e = sym e
same_is false false e = refl

same_self : (b : Bool) → same b b ≡ true
same_self true = refl
same_self false = refl

-- ---- bytes and changes of one mark
pub marked_bytes : (b : Bool) (cs : List Change) → marked b (bytes_of b cs) ≡ only b cs
unfolding bytes_of marked
marked_bytes b [] = refl
marked_bytes b (c ∷ cs) = ⊎_elim
    (λ (t : same b c.added ≡ true).
    ap (marked b) (cond-true _ (c.key ∷ c.door ∷ bytes_of b cs) (bytes_of b cs) t)
    ∙ (ap (λ (z : List Change). record { key = c.key; door = c.door; added = b } ∷ z) (marked_bytes b cs)
    ∙ (ap (λ (m : Bool). record { key = c.key; door = c.door; added = m } ∷ only b cs) (sym (same_is b c.added t)) ∙ sym (cond-true _ (c ∷ only b cs) (only b cs) t))))
    (λ (f : same b c.added ≡ false).
    ap (marked b) (cond-false _ (c.key ∷ c.door ∷ bytes_of b cs) (bytes_of b cs) f) ∙ (marked_bytes b cs ∙ sym (cond-false _ (c ∷ only b cs) (only b cs) f)))
    (cases_Bool (same b c.added))

pub bytes_only : (b : Bool) (cs : List Change) → bytes_of b (only b cs) ≡ bytes_of b cs
unfolding bytes_of
bytes_only b [] = refl
bytes_only b (c ∷ cs) = ⊎_elim
    (λ (t : same b c.added ≡ true).
    ap (bytes_of b) (cond-true _ (c ∷ only b cs) (only b cs) t) ∙ (cond-true _ (c.key ∷ c.door ∷ bytes_of b (only b cs)) (bytes_of b (only b cs)) t
    ∙ (ap (λ (z : List ℕ). c.key ∷ c.door ∷ z) (bytes_only b cs) ∙ sym (cond-true _ (c.key ∷ c.door ∷ bytes_of b cs) (bytes_of b cs) t))))
    (λ (f : same b c.added ≡ false). ap (bytes_of b) (cond-false _ (c ∷ only b cs) (only b cs) f) ∙ (bytes_only b cs ∙ sym (cond-false _ (c.key ∷ c.door ∷ bytes_of b cs) (bytes_of b cs) f)))
    (cases_Bool (same b c.added))

pub bytes_marked : (b : Bool) (bs : List ℕ) → length bs % 2 ≡ 0 → bytes_of b (marked b bs) ≡ bs
unfolding bytes_of marked
bytes_marked b [] h = refl
bytes_marked b (k ∷ []) h = absurd (omega arith)
bytes_marked b (k ∷ d ∷ rest) h =
    cond-true (same b b) (k ∷ d ∷ bytes_of b (marked b rest)) (bytes_of b (marked b rest)) (same_self b) ∙ ap (λ (z : List ℕ). k ∷ d ∷ z) (bytes_marked b rest (omega arith))

pub length_marked : (b : Bool) (bs : List ℕ) → length bs % 2 ≡ 0 → 2 * length (marked b bs) ≡ length bs
unfolding marked
length_marked b [] h = refl
length_marked b (k ∷ []) h = absurd (omega arith)
length_marked b (k ∷ d ∷ rest) h = let r = length_marked b rest (omega arith) in omega arith

-- ---- what has which change
tied_mark : (x c : Change) → tied change_before x c ≡ true → x ≡ c
tied_mark x c t = tied_same change_before change_irreflexive change_chain change_total x c t

pub has_only : (b : Bool) (x : Change) (cs : List Change) → has change_before x (only b cs) ≡ (same b x.added && has change_before x cs)
has_only b x [] = let q = cases_Bool (same b x.added) in grind arith
has_only b x (c ∷ cs) = ⊎_elim
    (λ (e : tied change_before x c ≡ true).
    let p = tied_mark x c e in
    ⊎_elim
    (λ (t : same b c.added ≡ true).
    ap (has change_before x) (cond-true _ (c ∷ only b cs) (only b cs) t) ∙ (ap (λ (v : Bool). v || has change_before x (only b cs)) e
    ∙ sym (ap (λ (v : Bool). v && has change_before x (c ∷ cs)) (ap (λ (v : Change). same b v.added) p ∙ t) ∙ ap (λ (v : Bool). v || has change_before x cs) e)))
    (λ (f : same b c.added ≡ false).
    ap (has change_before x) (cond-false _ (c ∷ only b cs) (only b cs) f) ∙ (has_only b x cs
    ∙ (let g : same b x.added ≡ false = ap (λ (v : Change). same b v.added) p ∙ f in ap (λ (v : Bool). v && has change_before x cs) g ∙ sym (ap (λ (v : Bool). v && has change_before x (c ∷ cs)) g))))
    (cases_Bool (same b c.added)))
    (λ (e : tied change_before x c ≡ false).
    cond_both (same b c.added) (c ∷ only b cs) (only b cs) (λ v. has change_before x v ≡ (same b x.added && has change_before x (c ∷ cs)))
    (λ t. ap (λ (v : Bool). v || has change_before x (only b cs)) e ∙ (has_only b x cs ∙ ap (λ (v : Bool). same b x.added && v) (sym (ap (λ (v : Bool). v || has change_before x cs) e))))
    (λ f. has_only b x cs ∙ ap (λ (v : Bool). same b x.added && v) (sym (ap (λ (v : Bool). v || has change_before x cs) e))))
    (cases_Bool (tied change_before x c))

below_only : (b : Bool) (x : Change) (cs : List Change) → Below change_before x cs → Below change_before x (only b cs)
below_only b x [] h = tt
below_only b x (c ∷ cs) h = cond_both (same b c.added) (c ∷ only b cs) (only b cs) (Below change_before x) (λ t. (h.0, below_only b x cs h.1)) (λ f. below_only b x cs h.1)

pub up_only : (b : Bool) (cs : List Change) → Up change_before cs → Up change_before (only b cs)
up_only b [] u = tt
up_only b (c ∷ cs) u = cond_both (same b c.added) (c ∷ only b cs) (only b cs) (Up change_before) (λ t. (below_only b c cs u.0, up_only b cs u.1)) (λ f. up_only b cs u.1)

-- all changes of a body have its mark
mark_of : (b : Bool) (x : Change) (bs : List ℕ) → has change_before x (marked b bs) ≡ true → x.added ≡ b
unfolding marked
mark_of b x [] h = cc
mark_of b x (k ∷ []) h = cc
mark_of b x (k ∷ d ∷ rest) h = ⊎_elim
    (λ (t : tied change_before x (record { key = k; door = d; added = b }) ≡ true). ap (λ (v : Change). v.added) (tied_mark x (record { key = k; door = d; added = b }) t))
    (λ (f : tied change_before x (record { key = k; door = d; added = b }) ≡ false). mark_of b x rest (sym (ap (λ (v : Bool). v || has change_before x (marked b rest)) f) ∙ h))
    (cases_Bool (tied change_before x (record { key = k; door = d; added = b })))

-- ---- ascending by pair is ascending
pub up_by_pair : (cs : List Change) → Ascends before_by_pair cs (length cs) → Up before_by_pair cs
up_by_pair cs asc = subst (λ (z : List Change). Up before_by_pair z) (take_self cs) (ascends_up before_by_pair by_pair_chain cs (length cs) (omega arith) asc)

below_change : (x : Change) (cs : List Change) → Below before_by_pair x cs → Below change_before x cs
below_change x [] b = tt
below_change x (c ∷ cs) b = (by_pair_before x c b.0, below_change x cs b.1)

pub up_change : (cs : List Change) → Up before_by_pair cs → Up change_before cs
up_change [] u = tt
up_change (c ∷ cs) u = (below_change c cs u.0, up_change cs u.1)

-- ---- the changes of one mark among those of two bodies
pick_added : (m a r : Bool) → (a ≡ true → m ≡ true) → (r ≡ true → m ≡ false) → (m && (a || r)) ≡ a
pick_added true true r f g = refl
pick_added true false true f g = cc (g refl)
pick_added true false false f g = refl
pick_added false true r f g = cc (f refl)
pick_added false false r f g = refl

pick_removed : (m a r : Bool) → (a ≡ true → m ≡ true) → (r ≡ true → m ≡ false) → (not m && (a || r)) ≡ r
pick_removed true true true f g = cc (g refl)
pick_removed true false true f g = cc (g refl)
pick_removed true a false f g = refl
pick_removed false true r f g = cc (f refl)
pick_removed false false r f g = refl

module _ (adds takes : List ℕ) where
  has_merged : (g : Change) → has change_before g (merged adds takes) ≡ (has change_before g (marked true adds) || has change_before g (marked false takes))
  unfolding merged
  has_merged g = has_sorted change_before change_irreflexive change_chain change_total g (marked true adds ++ marked false takes) ∙ has_append change_before g (marked true adds) (marked false takes)

  pub up_merged : Up change_before (merged adds takes)
  unfolding merged
  up_merged = up_sorted change_before change_irreflexive change_chain change_total (marked true adds ++ marked false takes)

  only_added : Up change_before (marked true adds) → only true (merged adds takes) ≡ marked true adds
  only_added u = same_up change_before change_irreflexive change_chain change_total (only true (merged adds takes)) (marked true adds) (up_only true (merged adds takes) up_merged) u
      (λ g. has_only true g (merged adds takes) ∙ (ap (λ (v : Bool). g.added && v) (has_merged g)
      ∙ pick_added g.added (has change_before g (marked true adds)) (has change_before g (marked false takes)) (mark_of true g adds) (mark_of false g takes)))

  only_removed : Up change_before (marked false takes) → only false (merged adds takes) ≡ marked false takes
  only_removed u = same_up change_before change_irreflexive change_chain change_total (only false (merged adds takes)) (marked false takes) (up_only false (merged adds takes) up_merged) u
      (λ g. has_only false g (merged adds takes) ∙ (ap (λ (v : Bool). not g.added && v) (has_merged g)
      ∙ pick_removed g.added (has change_before g (marked true adds)) (has change_before g (marked false takes)) (mark_of true g adds) (mark_of false g takes)))

  pub merged_added : Up change_before (marked true adds) → length adds % 2 ≡ 0 → bytes_of true (merged adds takes) ≡ adds
  merged_added u h = sym (bytes_only true (merged adds takes)) ∙ (ap (bytes_of true) (only_added u) ∙ bytes_marked true adds h)

  pub merged_removed : Up change_before (marked false takes) → length takes % 2 ≡ 0 → bytes_of false (merged adds takes) ≡ takes
  merged_removed u h = sym (bytes_only false (merged adds takes)) ∙ (ap (bytes_of false) (only_removed u) ∙ bytes_marked false takes h)

either_mark : (m h : Bool) → h ≡ ((m && h) || (not m && h))
either_mark true true = refl
either_mark true false = refl
either_mark false h = refl

-- an ascending list is merged from its two bodies
pub merged_back : (cs : List Change) → Up change_before cs → merged (bytes_of true cs) (bytes_of false cs) ≡ cs
unfolding merged
merged_back cs u =
    ap (λ (z : List Change). sorted change_before (z ++ marked false (bytes_of false cs))) (marked_bytes true cs)
    ∙ (ap (λ (z : List Change). sorted change_before (only true cs ++ z)) (marked_bytes false cs)
    ∙ sorted_only change_before change_irreflexive change_chain change_total (only true cs ++ only false cs) cs u
    (λ g. either_mark g.added (has change_before g cs) ∙ (ap (λ (v : Bool). v || (not g.added && has change_before g cs)) (sym (has_only true g cs))
    ∙ (ap (λ (v : Bool). has change_before g (only true cs) || v) (sym (has_only false g cs)) ∙ sym (has_append change_before g (only true cs) (only false cs))))))
