use Rattle.std.proofs.Common.{ℕ, subst, arith}
use lib.Bits.{bit_and}
use Rattle.std.proofs.lemmas.List.{get_or-take}
use Rattle.search.specs.Nodes.{WithKey}
use Rattle.search.proofs.Transposes.{transposed_none, transposed_more}
use Rattle.search.proofs.forms.transposed.Goals as goal

pub loop-k-init : goal.loop-k-init
loop-k-init c = transposed_none c.args.rows.now c.args.doors

pub loop-k-preserved : goal.loop-k-preserved
loop-k-preserved c =
    transposed_more c.requires.doors c.first-every.ensures c.loop-k.invariant
    (subst (λ (v : ℕ). WithKey c.loop-k.columns (bit_and v c.first-every.result) c.loop-k.k c.join_key.new.columns)
    (get_or-take c.args.keys c.args.rows.now c.loop-k.k 0 (omega arith)) c.join_key.ensures)
