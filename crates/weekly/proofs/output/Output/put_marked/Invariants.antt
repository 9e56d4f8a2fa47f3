use Rattle.std.proofs.Common.{◌≡◌, take}
use Rattle.weekly.specs.Marks.{bytes_of}
use Rattle.weekly.specs.File.{Wrote}
use Rattle.weekly.proofs.output.Output.put_marked.Given as goal

-- the changes so far are written
abbrev pub invariant-loop-row : goal.invariant-loop-row
invariant-loop-row l = record {
  wrote : Wrote l.initial.self.at (bytes_of l.added (take l.row-index l.rows)) l.initial.self.bytes.now l.self.bytes.now l.self.at;
  same : l.self.bytes.ghost_name ≡ l.initial.self.bytes.ghost_name;
}
