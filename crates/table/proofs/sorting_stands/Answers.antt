use Rattle.table.proofs.Ups.{up_ascends}
use Rattle.table.proofs.Members.{up_of}
use Rattle.table.proofs.Alls.{up_sorted, has_sorted, sorted_only}
use Rattle.table.proofs.sorting_stands.Goals as goal

pub returns : goal.returns
returns g c =
    let lt = g.T.Record.before in let irr = g.met.T.Record.order.irreflexive in let chain = g.met.T.Record.order.transitive in let total = g.met.T.Record.order.total in
    record {
      ascends = λ xs. up_ascends lt _ (up_sorted lt irr chain total xs);
      same = λ x xs. has_sorted lt irr chain total x xs;
      only = λ xs ys a s. sorted_only lt irr chain total xs ys (up_of lt irr chain total ys a) s;
    }
