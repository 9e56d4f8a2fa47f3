use Rattle.std.proofs.Common.{true, false}
use Rattle.weekly.specs.Places.{places_of}
use Rattle.weekly.specs.Marks.{bytes_of}
use Rattle.weekly.proofs.Written.{bodies_room, bodies_wrote}
use Rattle.weekly.proofs.output.Output.put_file.Goals as goal

pub put_bodies-requires : goal.put_bodies-requires
put_bodies-requires c =
    let s = c.args.self.now in let h = c.put_head.new.self in
    bodies_room s.at (bytes_of true c.args.rows.now) c.args.note.now (bytes_of false c.args.rows.now) s.bytes.now h.bytes.now h.at (places_of c.args.layout) c.requires.is c.requires.room c.put_head.ensures.wrote

pub returns-clause-wrote : goal.returns-clause-wrote
returns-clause-wrote c =
    let s = c.args.self.now in let h = c.put_head.new.self in let b = c.put_bodies.new.self in
    bodies_wrote s.at (bytes_of true c.args.rows.now) c.args.note.now (bytes_of false c.args.rows.now) s.bytes.now h.bytes.now h.at (places_of c.args.layout) c.requires.is c.requires.room c.put_head.ensures.wrote
    b.bytes.now b.at c.put_bodies.ensures.wrote
