use Rattle.std.proofs.Common.{◌≡◌, ◌++◌}
use Rattle.listing.specs.Bytes.{line_bytes}
use Rattle.listing.specs.Digits.{hex_digits}
use Rattle.listing.proofs.line.Line.add_mask.Given as goal

-- what is written and the digits still to come are what the loop began with and all 16
abbrev pub invariant-loop-place : goal.invariant-loop-place
invariant-loop-place l = line_bytes l.self ++ hex_digits l.place l.mask ≡ line_bytes l.initial.self ++ hex_digits 16 l.mask
