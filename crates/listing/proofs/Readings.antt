-- A line has one reading: where its fields have no byte up to the space, they are told apart.
use Rattle.std.proofs.Common.{◌≡◌, ℕ, zero, suc, ◌+◌, ◌/◌, ◌%◌, ◌^◌, ◌<◌, ◌≤◌, List, [], ◌∷◌, ◌++◌, length, get_or, codes, decimal, unwrap_or, sym, refl, ap, ◌∙◌, le_of_suc-le-suc, not-suc-le-zero, mod-lt, arith, rules}
use Rattle.std.specs.Str.Parse.{digits_value}
use Rattle.std.proofs.lemmas.Fmt.{decimal_by_steps, decimal_injective}
use Rattle.faults.specs.declared.cause.Cause.{Cause}
use Rattle.faults.specs.declared.intake.Layer.{Layer}
use Rattle.faults.specs.declared.intake.Layer.TheVariants.{File, Draft, Suite}
use Rattle.groups.specs.declared.group.Group.{Group}
use Rattle.listing.specs.Digits.{hex_digits, hexadecimal}
use Rattle.listing.specs.Lines.{further, line_of, booked_line, group_line, word_of_layer, refused_line}
use Rattle.listing.specs.Theorems.{Told, Masks}
use Rattle.listing.proofs.Hex.{value_hexadecimal}

-- no byte is a space or below
abbrev Inked : List ℕ → Type 0
Inked [] = Unit {0}
Inked (b ∷ bs) = (32 < b) × Inked bs

abbrev AllInked : List (List ℕ) → Type 0
AllInked [] = Unit {0}
AllInked (f ∷ fs) = Inked f × AllInked fs

-- a field ends at a space or at the line's end
abbrev Stop : List ℕ → Type 0
Stop [] = ⊥
Stop (b ∷ bs) = b ≤ 32

stops : (fs : List (List ℕ)) → Stop (further fs)
stops [] = omega arith
stops (f ∷ fs) = omega arith

cut : (a b s t : List ℕ) → Inked a → Inked b → Stop s → Stop t → a ++ s ≡ b ++ t → (a ≡ b) × (s ≡ t)
cut [] [] s t p q h k e = (refl, e)
cut [] (y ∷ b) [] t p q h k e = absurd h
cut [] (y ∷ b) (x ∷ s) t p q h k e = let z : x ≡ y = cc in absurd (omega (arith, q.0))
cut (x ∷ a) [] s [] p q h k e = absurd k
cut (x ∷ a) [] s (y ∷ t) p q h k e = let z : x ≡ y = cc in absurd (omega (arith, p.0))
cut (x ∷ a) (y ∷ b) s t p q h k e =
    let z : x ≡ y = cc in
    let more : a ++ s ≡ b ++ t = cc in
    let rest = cut a b s t p.1 q.1 h k more in
    (ap (λ (v : ℕ). v ∷ a) z ∙ ap (λ (v : List ℕ). y ∷ v) rest.0, rest.1)

same_fields : (fs gs : List (List ℕ)) → AllInked fs → AllInked gs → further fs ≡ further gs → fs ≡ gs
same_fields [] [] p q e = refl
same_fields [] (g ∷ gs) p q e = let z : ◌≡◌ {A = ℕ} 10 32 = cc in absurd (omega arith)
same_fields (f ∷ fs) [] p q e = let z : ◌≡◌ {A = ℕ} 32 10 = cc in absurd (omega arith)
same_fields (f ∷ fs) (g ∷ gs) p q e =
    let more : f ++ further fs ≡ g ++ further gs = cc in
    let c = cut f g (further fs) (further gs) p.0 q.0 (stops fs) (stops gs) more in
    ap (λ (z : List ℕ). z ∷ fs) c.0 ∙ ap (λ (z : List (List ℕ)). g ∷ z) (same_fields fs gs p.1 q.1 c.1)

one_reading : (w v : List ℕ) (fs gs : List (List ℕ)) → Inked w → Inked v → AllInked fs → AllInked gs → line_of w fs ≡ line_of v gs → (w ≡ v) × (fs ≡ gs)
one_reading w v fs gs p q r t e = let c = cut w v (further fs) (further gs) p q (stops fs) (stops gs) e in (c.0, same_fields fs gs r t c.1)

inked_push : (bs : List ℕ) (b : ℕ) → Inked bs → 32 < b → Inked (bs ++ (b ∷ []))
inked_push [] b p h = (h, tt)
inked_push (x ∷ bs) b p h = (p.0, inked_push bs b p.1 h)

inked_decimal : (n : ℕ) → n < 2 ^ 64 → Inked (decimal n)
inked_decimal = decimal_by_steps (λ n bs. Inked bs) (λ n lt. (omega arith, tt)) (λ n bs le p. inked_push bs (48 + n % 10) p (omega arith))

inked_at : (bs : List ℕ) → Inked bs → (d : ℕ) → d < length bs → 32 < get_or bs d 0
inked_at [] p d lt = absurd (not-suc-le-zero lt)
inked_at (b ∷ bs) p zero lt = p.0
inked_at (b ∷ bs) p (suc d) lt = inked_at bs p.1 d (le_of_suc-le-suc lt)

inked_hex : (k x : ℕ) → Inked (hex_digits k x)
inked_hex zero x = tt
inked_hex (suc k) x = (inked_at (codes "0123456789abcdef") (search rules) (x / 16 ^ k % 16) (mod-lt (x / 16 ^ k) (omega arith)), inked_hex k x)

same_from_hexadecimal : (x y : ℕ) → x < 2 ^ 64 → y < 2 ^ 64 → hexadecimal x ≡ hexadecimal y → x ≡ y
same_from_hexadecimal x y h k e = sym (value_hexadecimal x h) ∙ ap (digits_value 16) e ∙ value_hexadecimal y k

inked_layer : (l : Layer) → Inked (word_of_layer l)
inked_layer File = search rules
inked_layer Draft = search rules
inked_layer Suite = search rules

same_layer : (l m : Layer) → word_of_layer l ≡ word_of_layer m → l ≡ m
same_layer File File e = refl
same_layer File Draft e = let z : ◌≡◌ {A = ℕ} 102 100 = cc in absurd (omega arith)
same_layer File Suite e = let z : ◌≡◌ {A = ℕ} 102 115 = cc in absurd (omega arith)
same_layer Draft File e = let z : ◌≡◌ {A = ℕ} 100 102 = cc in absurd (omega arith)
same_layer Draft Draft e = refl
same_layer Draft Suite e = let z : ◌≡◌ {A = ℕ} 100 115 = cc in absurd (omega arith)
same_layer Suite File e = let z : ◌≡◌ {A = ℕ} 115 102 = cc in absurd (omega arith)
same_layer Suite Draft e = let z : ◌≡◌ {A = ℕ} 115 100 = cc in absurd (omega arith)
same_layer Suite Suite e = refl

-- lists of two and of three fields
same_two : (f g f' g' : List ℕ) → (f ∷ g ∷ []) ≡ (f' ∷ g' ∷ []) → (f ≡ f') × (g ≡ g')
same_two f g f' g' e = (cc, cc)

same_three : (f g h f' g' h' : List ℕ) → (f ∷ g ∷ h ∷ []) ≡ (f' ∷ g' ∷ h' ∷ []) → (f ≡ f') × (g ≡ g') × (h ≡ h')
same_three f g h f' g' h' e = (cc, cc, cc)

pub booked_tells : (n l m k : ℕ) → n < 2 ^ 64 → l < 2 ^ 64 → m < 2 ^ 64 → k < 2 ^ 64 → booked_line n l ≡ booked_line m k → (n ≡ m) × (l ≡ k)
booked_tells n l m k hn hl hm hk e =
    let r = one_reading (codes "ok") (codes "ok") (decimal n ∷ decimal l ∷ []) (decimal m ∷ decimal k ∷ []) (search rules) (search rules) (inked_decimal n hn, (inked_decimal l hl, tt)) (inked_decimal m hm, (inked_decimal k hk, tt)) e in
    let t = same_two (decimal n) (decimal l) (decimal m) (decimal k) r.1 in
    (decimal_injective n m hn hm t.0, decimal_injective l k hl hk t.1)

same_group : (g h : Group) → g.keys ≡ h.keys → g.doors ≡ h.doors → g ≡ h
same_group g h e f = λ i. record { keys = e i; doors = f i }

pub group_tells : (s t : ℕ) (g h : Group) → 32 < s → 32 < t → Masks g → Masks h → group_line s g ≡ group_line t h → (s ≡ t) × (g ≡ h)
group_tells s t g h hs ht mg mh e =
    let r = one_reading (s ∷ []) (t ∷ []) (hexadecimal g.keys ∷ hexadecimal g.doors ∷ []) (hexadecimal h.keys ∷ hexadecimal h.doors ∷ []) (hs, tt) (ht, tt) (inked_hex 16 g.keys, (inked_hex 16 g.doors, tt)) (inked_hex 16 h.keys, (inked_hex 16 h.doors, tt)) e in
    let two = same_two (hexadecimal g.keys) (hexadecimal g.doors) (hexadecimal h.keys) (hexadecimal h.doors) r.1 in
    let sign : s ≡ t = ap (λ (z : List ℕ). get_or z 0 0) r.0 in
    (sign, same_group g h (same_from_hexadecimal g.keys h.keys mg.0 mh.0 two.0) (same_from_hexadecimal g.doors h.doors mg.1 mh.1 two.1))

number_fits : (c : Cause) → Told c → c.number < 2 ^ 64
number_fits c told = omega (arith, told.0)

pub refused_tells : (l m : Layer) (c d : Cause) → Told c → Told d → refused_line l c ≡ refused_line m d → (l ≡ m) × (c.number ≡ d.number) × (unwrap_or c.value 0 ≡ unwrap_or d.value 0)
refused_tells l m c d tc td e =
    let nc = number_fits c tc in
    let nd = number_fits d td in
    let r = one_reading (codes "no") (codes "no") (word_of_layer l ∷ decimal c.number ∷ decimal (unwrap_or c.value 0) ∷ []) (word_of_layer m ∷ decimal d.number ∷ decimal (unwrap_or d.value 0) ∷ []) (search rules) (search rules) (inked_layer l, (inked_decimal c.number nc, (inked_decimal (unwrap_or c.value 0) tc.1, tt))) (inked_layer m, (inked_decimal d.number nd, (inked_decimal (unwrap_or d.value 0) td.1, tt))) e in
    let t = same_three (word_of_layer l) (decimal c.number) (decimal (unwrap_or c.value 0)) (word_of_layer m) (decimal d.number) (decimal (unwrap_or d.value 0)) r.1 in
    (same_layer l m t.0, decimal_injective c.number d.number nc nd t.1, decimal_injective (unwrap_or c.value 0) (unwrap_or d.value 0) tc.1 td.1 t.2)
