use Rattle.std.proofs.Common.{◌≡◌, ◌++◌, ◌∷◌, [], List, None, sym, ◌∙◌, ap, subst}
use Rattle.fl_machine.specs.declared.reassembly.Assembly.{Assembly}
use Rattle.fl_machine.specs.Places.{AreJoined, joined}
use Rattle.fl_machine.specs.Rooms.{TheRoom, not_there, rooms_of}
use Rattle.fl_machine.proofs.Joined.{are_pushed, joined_push, new_place}
use Rattle.fl_machine.proofs.reassemblies.ReassemblyPlaces.add.Goals as goal

pub returns-clause-are : goal.returns-clause-are
returns-clause-are c =
    let s = c.args.self.now in
    let p : Assembly = record { program = c.args.program; begun = None } in
    let pushed : c.push_reserved.new.self.items ≡ s.places.items ++ p ∷ [] = c.push_reserved.ensures.items ∙ ap (λ (ps : List Assembly). ps ++ p ∷ []) c.in_ok-reserve.ensures.items in
    record {
      rooms = c.in_ok-add.ensures.rooms;
      joined = subst (λ (ps : List Assembly). AreJoined ps (rooms_of c.add.new.self)) (sym pushed)
          (subst (λ (ts : List TheRoom). AreJoined (s.places.items ++ p ∷ []) ts) (sym c.in_ok-add.ensures.added)
          (are_pushed s.places.items (rooms_of s.rooms) p (not_there c.args.capacity) c.requires.are.joined (new_place c.args.program c.args.capacity c.requires.room)));
    }

pub returns-clause-added : goal.returns-clause-added
returns-clause-added c =
    let s = c.args.self.now in
    let p : Assembly = record { program = c.args.program; begun = None } in
    let pushed : c.push_reserved.new.self.items ≡ s.places.items ++ p ∷ [] = c.push_reserved.ensures.items ∙ ap (λ (ps : List Assembly). ps ++ p ∷ []) c.in_ok-reserve.ensures.items in
    ap (λ (ps : List Assembly). joined ps (rooms_of c.add.new.self)) pushed
    ∙ ap (joined (s.places.items ++ p ∷ [])) c.in_ok-add.ensures.added
    ∙ joined_push s.places.items (rooms_of s.rooms) p (not_there c.args.capacity) c.requires.are.joined
