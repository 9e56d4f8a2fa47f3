use Rattle.search.proofs.Columns.{padded_copied}
use Rattle.search.proofs.forms.padded.Goals as goal

pub returns : goal.returns
returns c = padded_copied c.args.rows.now _ _ c.min-n.ensures c.copy_from_slice.ensures.after
