-- The bytes of a line.
use Rattle.std.specs.Prelude.{ℕ, List}
use Rattle.listing.specs.declared.line.Line.{Line}

abbrev pub line_bytes : Line → List ℕ
line_bytes l = l.text.bytes
