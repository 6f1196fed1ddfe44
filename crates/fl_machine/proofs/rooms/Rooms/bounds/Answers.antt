use Rattle.std.proofs.Common.{◌≡◌, ◌<◌, Some, length, slice_get, refl, arith}
use Rattle.std.proofs.lemmas.List.{length-map}
use Rattle.std.proofs.lemmas.Option.{slice_get_read, slice_get_within}
use Rattle.fl_machine.specs.Rooms.{room_in, rooms_of}
use Rattle.fl_machine.proofs.rooms.Rooms.bounds.Goals as goal

pub returns : goal.returns
returns c =
    let t = c.args.self.now in
    let span = c.index-span.result.now in
    let there = slice_get_within (rooms_of t) c.args.place c.requires.there.room c.requires.there.at in
    let inside : c.args.place < length t.spans.items = omega (arith, there, length-map t.spans.items (room_in t.block.items)) in
    let at : slice_get t.spans.items c.args.place ≡ Some span = slice_get_read t.spans.items (length t.spans.items) c.args.place span refl inside c.index-span.ensures in
    record {
      lies = record {
        span = span;
        span_there = at;
        start_is = c.in-Some.is;
        end_is = refl;
        within = c.requires.rooms.laid.within c.args.place span at c.in-Some.start c.in-Some.is;
      };
    }
