use Rattle.std.proofs.Common.{◌≡◌, ◌+◌, ◌*◌, ℕ, length, sym, refl, ap, subst, ◌∙◌, inl, arith}
use Rattle.weekly.specs.declared.head.Entries.{Entries}
use Rattle.weekly.specs.Entries.{entries_of}
use Rattle.weekly.specs.Places.{Places, places_of}
use Rattle.weekly.specs.Head.{with_a_body, bodies_start, bodies_end, Short}
use Rattle.weekly.specs.Kinds.{last_letter}
use Rattle.weekly.proofs.Heads.{read_count, entries_whole, kind_ok, laid, laid_on, end_on, short_on}
use Rattle.weekly.proofs.Walks.{begun}
use Rattle.weekly.proofs.head.contents.Goals as goal

pub loop-i-init-derived : goal.loop-i-init-derived
loop-i-init-derived c =
    let n = read_count c.args.bytes.now in let m = c.requires in
    let b = begun (λ (s : Entries). entries_of s.0.now) _ _ _ c.into_iter-i-iterator.ensures.into_iter_gives c.enumerate-i-items.ensures.source c.enumerate-i-items.ensures.count in
    ((tt, tt, inl (grind arith)), tt)

pub loop-i-init : goal.loop-i-init
loop-i-init c =
    let n = read_count c.args.bytes.now in let m = c.requires in
    let e = entries_whole c.args.n c.args.bytes.now 5 0 (bodies_start c.args.n) c.requires.1 in
    let b = begun (λ (s : Entries). entries_of s.0.now) _ _ _ c.into_iter-i-iterator.ensures.into_iter_gives c.enumerate-i-items.ensures.source c.enumerate-i-items.ensures.count in
    let is = c.empty-layout.ensures in let end = ap (λ (g : Places). bodies_end g) is in
    record { within = grind arith; few = grind arith; short = subst (λ (g : Places). Short g) (sym is) (omega arith, refl, refl); rest = grind arith }

pub loop-i-preserved : goal.loop-i-preserved
loop-i-preserved c =
    let i = c.loop-i.invariant in
    let s = c.in-Some.ensures.steps in
    let entry = c.in-Some.entry in
    let layout = places_of c.with_body-layout.result in
    let left = entries_of c.next.new.self.iter.0.now in
    let prev : ℕ = last_letter c.loop-i.last in
    let k = kind_ok _ entry.letter c.in-Some-right_kind.kind c.in-Some-right_kind.ensures in
    let n = ap length s.0 in
    let few = i.few in let within = i.within in let count = s.2 in
    let w : layout ≡ with_a_body (places_of c.loop-i.layout) entry.letter entry.len =
    c.with_body-layout.ensures ∙ (ap (λ (z : ℕ). with_a_body (places_of c.loop-i.layout) z c.from.result) (sym k.1) ∙ ap (λ (z : ℕ). with_a_body (places_of c.loop-i.layout) entry.letter z) c.from.ensures) in
    let e = end_on prev (places_of c.loop-i.layout) layout entry k.0 w in
    record {
      within = omega (arith, n, count);
      few = omega (arith, n, e);
      short = short_on prev (places_of c.loop-i.layout) layout entry k.0 w i.short (omega (arith, n));
      rest = i.rest ∙ (ap (laid (5 + 5 * c.loop-i.i-iterator.count) prev (places_of c.loop-i.layout)) s.0
          ∙ (laid_on prev (places_of c.loop-i.layout) layout entry k.0 w (5 + 5 * c.loop-i.i-iterator.count) left
          ∙ (ap (λ (z : ℕ). laid z entry.letter layout left) (omega (arith, count)) ∙ ap (λ (z : ℕ). laid (5 + 5 * c.next.new.self.count) z layout left) k.1)));
    }
