use Rattle.fl_core.specs.declared.kind.ChannelKind.{ChannelKind}
use Rattle.fl_core.specs.BoardEvents.{Adds}
use Rattle.std.proofs.Common.{◌∙◌, ap, subst, Ok, List, ◌++◌, ◌∷◌, []}
use Rattle.fl_core.specs.declared.wiring.WiredEnd.{WiredEnd}
use Rattle.fl_core.proofs.Making.{added_kept, no_place_kept}
use Rattle.fl_core.proofs.one_core.Core.add_end.Goals as goal

pub invariant_of-self-in-Ok-add_end : goal.invariant_of-self-in-Ok-add_end
invariant_of-self-in-Ok-add_end c = added_kept c.args.self.now _ c.self.view_is c.self.invariant c.args.dispatcher c.args.end c.args.wired_end c.in-Ok-add_end.place c.add_end.new.self c.push_reserved.new.self.items c.put_place.new.places.items c.requires.few c.requires.new c.requires.wiring (subst (λ (kind : ChannelKind). Adds c.self.inside.board c.args.dispatcher c.args.end kind (Ok c.in-Ok-add_end.place) c.add_end.new.self) c.kind_of.ensures.kind c.in-Ok-add_end.ensures.adds) (c.push_reserved.ensures.items ∙ ap (λ (ps : List WiredEnd). ps ++ c.args.wired_end ∷ []) c.make_room.ensures.wired_ends) c.put_place.ensures.put

pub returns-in-Err : goal.returns-in-Err
returns-in-Err c = record { adds = no_place_kept c.args.self.now _ c.self.view_is c.args.dispatcher c.args.end c.args.wired_end c.in-Err.fault c.make_room.new.wired_ends.items c.make_room.ensures.wired_ends c.in-Err.ensures.refused }
