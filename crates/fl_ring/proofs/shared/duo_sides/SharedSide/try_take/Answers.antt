use Rattle.std.proofs.Common.{◌∷◌, ◌++◌, [], length, ap, subst, ◌∙◌, refl, length-append}
use Rattle.fl_base.specs.declared.fragment.Frag.{Frag}
use Rattle.fl_link.specs.Looks.{saw, saw_ack}
use Rattle.fl_ring.specs.SharedSides.{TheSide, side_of_seat, side_missed, side_taken, SideGets, SideMisses}
use Rattle.fl_ring.proofs.Sighted.{saw_some, ack_some, side_took, told_frag, took_front, none_front, side_moves, one_taken}
use Rattle.fl_ring.proofs.shared.duo_sides.SharedSide.try_take.Goals as goal

misses : (c : goal.In-None) → SideMisses c.args.self.now (side_of_seat c.take_frag.new.seat)
misses c = subst (λ (s : TheSide). SideMisses s (side_of_seat c.take_frag.new.seat)) c.self.view_is c.in-None.ensures.taken

gets : (c : goal.After-sight) → SideGets c.args.self.now c.in-Some.frag (side_of_seat c.take_frag.new.seat)
gets c = subst (λ (s : TheSide). SideGets s c.in-Some.frag (side_of_seat c.take_frag.new.seat)) c.self.view_is c.in-Some.ensures.taken.0

pub invariant_of-self : goal.invariant_of-self
invariant_of-self c =
    let i = c.self.inside in
    let h = c.self.invariant.1 in
    side_moves _ _ i.seat c.take_frag.new.seat (record { base = i.base; other = i.other; put = i.put; take = i.take; known = i.known; told = i.told }) (side_missed (side_of_seat i.seat)) i.take c.take_frag.new.known
    c.self.invariant.0 h c.in-None.ensures.taken.1 refl refl refl refl refl h.take_index refl h.told_got c.take_frag.ensures.known c.take_frag.ensures.seat

pub invariant_of-self-in-Some : goal.invariant_of-self-in-Some
invariant_of-self-in-Some c =
    let i = c.self.inside in
    let h = c.self.invariant.1 in
    let (index, size, more) = one_taken (length i.seat.me.0.mine.take.got) c.advance.new.self i.take i.told c.advance.ensures.next h.take_index h.told_got in
    side_moves _ _ i.seat c.take_frag.new.seat (record { base = i.base; other = i.other; put = i.put; take = i.take; known = i.known; told = i.told }) (side_taken (side_of_seat i.seat) c.in-Some.frag) c.advance.new.self
    c.take_frag.new.known
    c.self.invariant.0 h c.in-Some.ensures.taken.0.1 refl refl refl refl refl (length-append i.seat.me.0.mine.take.got (c.in-Some.frag ∷ []) ∙ index) size more c.take_frag.ensures.known c.take_frag.ensures.seat

pub returns-in-None-clause-look : goal.returns-in-None-clause-look
returns-in-None-clause-look c = misses c

pub returns-in-None-clause-data : goal.returns-in-None-clause-data
returns-in-None-clause-data c = λ frag seen. none_front c.args.self.now.peeked (saw frag) (misses c).0 (saw_some frag) seen

pub returns-in-None-clause-acknowledgement : goal.returns-in-None-clause-acknowledgement
returns-in-None-clause-acknowledgement c = λ seen. none_front c.args.self.now.peeked saw_ack (misses c).0 ack_some seen

pub returns-in-None-clause-ring : goal.returns-in-None-clause-ring
returns-in-None-clause-ring c = ap (λ (s : TheSide). s.ring) (misses c).1

pub returns-in-Some-clause-look : goal.returns-in-Some-clause-look
returns-in-Some-clause-look c = side_took c.args.self.now (side_of_seat c.take_frag.new.seat) c.in-Some.frag c.sight.result c.sight.ensures (gets c)

pub returns-in-Some-clause-exact : goal.returns-in-Some-clause-exact
returns-in-Some-clause-exact c = λ frag is.
    ap (λ (s : TheSide). s.got) (gets c).1 ∙ ap (λ (f : Frag). c.args.self.now.got ++ f ∷ []) (told_frag c.in-Some.frag frag c.sight.result c.sight.ensures is)

pub returns-in-Some-clause-data : goal.returns-in-Some-clause-data
returns-in-Some-clause-data c = λ frag seen. took_front c.args.self.now.peeked c.in-Some.frag c.sight.result c.sight.ensures (gets c).0 (saw frag) (saw_some frag) seen

pub returns-in-Some-clause-acknowledgement : goal.returns-in-Some-clause-acknowledgement
returns-in-Some-clause-acknowledgement c = λ seen. took_front c.args.self.now.peeked c.in-Some.frag c.sight.result c.sight.ensures (gets c).0 saw_ack ack_some seen

pub returns-in-Some-clause-ring : goal.returns-in-Some-clause-ring
returns-in-Some-clause-ring c = ap (λ (s : TheSide). s.ring) (gets c).1
