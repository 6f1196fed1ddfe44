use Rattle.std.proofs.Common.{◌≡◌, ◌∙◌, ◌<◌, ◌++◌, ◌∷◌, [], ℕ, List, length, sym, ap, subst, arith}
use Rattle.fl_machine.specs.Reassembling.{TheReassembly}
use Rattle.fl_core.specs.BoardView.{TheEndAtChannel}
use Rattle.fl_core.specs.declared.board_fault.BoardFault.TheVariants.{Memory}
use Rattle.fl_core.specs.BoardInside.{HasNoRoom, seats_of, GoTogether}
use Rattle.fl_core.proofs.Together.{as_many, one_more_together, new_belongs}
use Rattle.fl_core.proofs.Adding.{refused_kept, refused_adds, added_kept, added_adds, new_seat}
use Rattle.fl_core.proofs.one_board.Board.add_end.Goals as goal

pub invariant_of-self : goal.invariant_of-self
invariant_of-self c =
    let seats = ap (λ (x : List TheEndAtChannel). seats_of x c.self.inside.calls) c.make_room.ensures.seats in
    record {
      board = refused_kept c.args.self.now _ c.self.view_is c.args.dispatcher c.requires _ _ c.index_mut-at.ensures.value c.at.view_is c.self.invariant.board c.make_room.new.ends.items (seats_of c.make_room.new.seats.items c.self.inside.calls) c.make_room.ensures.ends seats;
      together = subst (λ (x : List TheEndAtChannel). GoTogether x c.self.inside.calls) (sym c.make_room.ensures.seats) c.self.invariant.together;
    }

pub returns-in-Err : goal.returns-in-Err
returns-in-Err c =
    let why = subst (λ (m : ℕ). HasNoRoom m c.in-Err.fault) c.at.inside.ends.ok.0 c.in-Err.ensures.refused in
    let seats = ap (λ (x : List TheEndAtChannel). seats_of x c.self.inside.calls) c.make_room.ensures.seats in
    record { adds = refused_adds c.args.self.now _ c.self.view_is c.args.dispatcher c.requires _ _ c.index_mut-at.ensures.value c.at.view_is c.self.invariant.board c.make_room.new.ends.items (seats_of c.make_room.new.seats.items c.self.inside.calls) c.args.end c.args.kind c.in-Err.fault why c.make_room.ensures.ends seats }

pub invariant_of-self-in_default : goal.invariant_of-self-in_default
invariant_of-self-in_default c =
    let seats = ap (λ (x : List TheEndAtChannel). seats_of x c.add_place.new.calls) c.make_room.ensures.seats ∙ ap (λ (x : List TheReassembly). seats_of c.self.inside.seats.items x) c.in_default.ensures.kept in
    record {
      board = refused_kept c.args.self.now _ c.self.view_is c.args.dispatcher c.requires _ _ c.index_mut-at.ensures.value c.at.view_is c.self.invariant.board c.make_room.new.ends.items (seats_of c.make_room.new.seats.items c.add_place.new.calls) c.make_room.ensures.ends seats;
      together = subst (λ (x : List TheEndAtChannel). GoTogether x c.add_place.new.calls) (sym c.make_room.ensures.seats)
          (subst (λ (x : List TheReassembly). GoTogether c.self.inside.seats.items x) (sym c.in_default.ensures.kept) c.self.invariant.together);
    }

pub returns-in_default : goal.returns-in_default
returns-in_default c =
    let room : length c.at.inside.ends.items < 1024 = omega (arith, c.in-Ok.ensures.room, c.at.inside.ends.ok.0) in
    let seats = ap (λ (x : List TheEndAtChannel). seats_of x c.add_place.new.calls) c.make_room.ensures.seats ∙ ap (λ (x : List TheReassembly). seats_of c.self.inside.seats.items x) c.in_default.ensures.kept in
    record { adds = refused_adds c.args.self.now _ c.self.view_is c.args.dispatcher c.requires _ _ c.index_mut-at.ensures.value c.at.view_is c.self.invariant.board c.make_room.new.ends.items (seats_of c.make_room.new.seats.items c.add_place.new.calls) c.args.end c.args.kind Memory room c.make_room.ensures.ends seats }

pub invariant_of-self-in-Ok : goal.invariant_of-self-in-Ok
invariant_of-self-in-Ok c =
    let room : length c.at.inside.ends.items < 1024 = omega (arith, c.in-Ok.ensures.room, c.at.inside.ends.ok.0) in
    let (r, of, none, calls) = c.in-Ok-add_place.ensures.added in
    let seat : TheEndAtChannel = record { end = c.args.end; dispatcher = c.args.dispatcher; channel = c.len.result; kind = c.args.kind } in
    let pushed : c.push_reserved-in-Ok.new.self.items ≡ c.self.inside.seats.items ++ seat ∷ [] = c.push_reserved-in-Ok.ensures.items ∙ ap (λ (x : List TheEndAtChannel). x ++ seat ∷ []) c.make_room.ensures.seats in
    let seats = ap (λ (x : List TheEndAtChannel). seats_of x c.add_place.new.calls) pushed ∙ ap (λ (x : List TheReassembly). seats_of (c.self.inside.seats.items ++ seat ∷ []) x) calls
    ∙ new_seat c.self.inside.seats.items c.self.inside.calls c.self.invariant.together c.args.end r c.args.dispatcher c.len.result c.args.kind c.law_sound.ensures.alone none in
    let place = c.len-place.ensures ∙ c.self.inside.seats.ok.0 ∙ sym (as_many c.self.inside.seats.items c.self.inside.calls c.self.invariant.together) in
    record {
      board = added_kept c.args.self.now _ c.self.view_is c.args.dispatcher c.requires _ _ c.index_mut-at.ensures.value c.at.view_is c.self.invariant.board c.push_reserved.new.self.items (seats_of c.push_reserved-in-Ok.new.self.items c.add_place.new.calls) c.args.end c.args.kind c.len-place.result c.len.result place (c.len.ensures ∙ c.make_room.new.ends.ok.0 ∙ ap length c.make_room.ensures.ends) room
          (c.push_reserved.ensures.items ∙ ap (λ (x : List ℕ). x ++ c.len-place.result ∷ []) c.make_room.ensures.ends) seats;
      together = subst (λ (x : List TheEndAtChannel). GoTogether x c.add_place.new.calls) (sym pushed)
          (subst (λ (x : List TheReassembly). GoTogether (c.self.inside.seats.items ++ seat ∷ []) x) (sym calls)
          (one_more_together c.self.inside.seats.items c.self.inside.calls c.self.invariant.together seat r (new_belongs c.args.end r of.program none c.law_sound.ensures.alone c.law_sound.ensures.sound)));
    }

pub returns-in-Ok-add_place : goal.returns-in-Ok-add_place
returns-in-Ok-add_place c =
    let room : length c.at.inside.ends.items < 1024 = omega (arith, c.in-Ok.ensures.room, c.at.inside.ends.ok.0) in
    let (r, of, none, calls) = c.in-Ok-add_place.ensures.added in
    let seat : TheEndAtChannel = record { end = c.args.end; dispatcher = c.args.dispatcher; channel = c.len.result; kind = c.args.kind } in
    let pushed : c.push_reserved-in-Ok.new.self.items ≡ c.self.inside.seats.items ++ seat ∷ [] = c.push_reserved-in-Ok.ensures.items ∙ ap (λ (x : List TheEndAtChannel). x ++ seat ∷ []) c.make_room.ensures.seats in
    let seats = ap (λ (x : List TheEndAtChannel). seats_of x c.add_place.new.calls) pushed ∙ ap (λ (x : List TheReassembly). seats_of (c.self.inside.seats.items ++ seat ∷ []) x) calls
    ∙ new_seat c.self.inside.seats.items c.self.inside.calls c.self.invariant.together c.args.end r c.args.dispatcher c.len.result c.args.kind c.law_sound.ensures.alone none in
    let place = c.len-place.ensures ∙ c.self.inside.seats.ok.0 ∙ sym (as_many c.self.inside.seats.items c.self.inside.calls c.self.invariant.together) in
    record {
      adds = added_adds c.args.self.now _ c.self.view_is c.args.dispatcher c.requires _ _ c.index_mut-at.ensures.value c.at.view_is c.self.invariant.board c.push_reserved.new.self.items (seats_of c.push_reserved-in-Ok.new.self.items c.add_place.new.calls) c.args.end c.args.kind c.len-place.result c.len.result place (c.len.ensures ∙ c.make_room.new.ends.ok.0 ∙ ap length c.make_room.ensures.ends) room
          (c.push_reserved.ensures.items ∙ ap (λ (x : List ℕ). x ++ c.len-place.result ∷ []) c.make_room.ensures.ends) seats;
    }
