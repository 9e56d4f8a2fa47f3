use Rattle.std.proofs.Common.{◌-◌, [], ◌∷◌, ◌++◌, ap, arith, length}
use Rattle.std.proofs.lemmas.Str.{encode_ascii}
use Rattle.listing.specs.Bytes.{line_bytes}
use Rattle.listing.specs.Digits.{hex_digits, hexadecimal}
use Rattle.listing.proofs.Hex.{hex_more, hex_done, length_hex_digits}
use Rattle.listing.proofs.Joins.{joined_length, same_length, joined}
use Rattle.listing.proofs.line.Line.add_mask.Goals as goal

pub push-requires-in-loop-place : goal.push-requires-in-loop-place
push-requires-in-loop-place c =
    let one = ap length (encode_ascii c.hex_digit.result c.hex_digit.ensures.ascii) in
    let space = joined_length (line_bytes c.args.self.now) (32 ∷ []) (c.push.ensures.ascii (omega arith)) in
    let all = same_length (line_bytes c.loop-place.self) (hex_digits c.loop-place.place c.args.mask) c.push.new.self.bytes (hexadecimal c.args.mask) c.loop-place.invariant in
    (omega arith, omega (arith, length_hex_digits c.loop-place.place c.args.mask))

pub loop-place-preserved : goal.loop-place-preserved
loop-place-preserved c =
    hex_more (line_bytes c.loop-place.self) (c.push.new.self.bytes ++ hexadecimal c.args.mask) (c.loop-place.place - 1) c.args.mask (omega arith) c.loop-place.invariant c.hex_digit.ensures.digit (c.push-in-loop-place.ensures.ascii c.hex_digit.ensures.ascii)

pub returns : goal.returns
returns c =
    joined (line_bytes c.args.self.now) (32 ∷ []) (hexadecimal c.args.mask) (c.push.ensures.ascii (omega arith))
    (hex_done (line_bytes c.loop-place.self) (c.push.new.self.bytes ++ hexadecimal c.args.mask) c.loop-place.place c.args.mask c.loop-place-test.false c.loop-place.invariant)
