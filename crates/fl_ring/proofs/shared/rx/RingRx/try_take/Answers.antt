use Rattle.std.proofs.Common.{◌∷◌, ◌++◌, [], ap, subst, ◌∙◌}
use Rattle.fl_base.specs.declared.fragment.Frag.{Frag}
use Rattle.fl_link.specs.Looks.{saw, saw_ack}
use Rattle.fl_ring.specs.SharedSeats.{Receiver, receiver_of, Gets, Misses}
use Rattle.fl_ring.proofs.Sighted.{saw_some, ack_some, receiver_took, told_frag, took_front, none_front}
use Rattle.fl_ring.proofs.shared.rx.RingRx.try_take.Goals as goal

misses : (c : goal.In-None) → Misses c.args.self.now (receiver_of c.take_frag.new.seat)
misses c = subst (λ (s : Receiver). Misses s (receiver_of c.take_frag.new.seat)) c.self.view_is c.in-None.ensures.taken

gets : (c : goal.After-sight) → Gets c.args.self.now c.in-Some.frag (receiver_of c.take_frag.new.seat)
gets c = subst (λ (s : Receiver). Gets s c.in-Some.frag (receiver_of c.take_frag.new.seat)) c.self.view_is c.in-Some.ensures.taken.0

pub returns-in-None-clause-look : goal.returns-in-None-clause-look
returns-in-None-clause-look c = misses c

pub returns-in-None-clause-data : goal.returns-in-None-clause-data
returns-in-None-clause-data c = λ frag seen. none_front c.args.self.now.peeked (saw frag) (misses c).0 (saw_some frag) seen

pub returns-in-None-clause-acknowledgement : goal.returns-in-None-clause-acknowledgement
returns-in-None-clause-acknowledgement c = λ seen. none_front c.args.self.now.peeked saw_ack (misses c).0 ack_some seen

pub returns-in-None-clause-ring : goal.returns-in-None-clause-ring
returns-in-None-clause-ring c = ap (λ (s : Receiver). s.ring) (misses c).1

pub returns-in-Some-clause-look : goal.returns-in-Some-clause-look
returns-in-Some-clause-look c = receiver_took c.args.self.now (receiver_of c.take_frag.new.seat) c.in-Some.frag c.sight.result c.sight.ensures (gets c)

pub returns-in-Some-clause-exact : goal.returns-in-Some-clause-exact
returns-in-Some-clause-exact c = λ frag is.
    ap (λ (s : Receiver). s.got) (gets c).1 ∙ ap (λ (f : Frag). c.args.self.now.got ++ f ∷ []) (told_frag c.in-Some.frag frag c.sight.result c.sight.ensures is)

pub returns-in-Some-clause-data : goal.returns-in-Some-clause-data
returns-in-Some-clause-data c = λ frag seen. took_front c.args.self.now.peeked c.in-Some.frag c.sight.result c.sight.ensures (gets c).0 (saw frag) (saw_some frag) seen

pub returns-in-Some-clause-acknowledgement : goal.returns-in-Some-clause-acknowledgement
returns-in-Some-clause-acknowledgement c = λ seen. took_front c.args.self.now.peeked c.in-Some.frag c.sight.result c.sight.ensures (gets c).0 saw_ack ack_some seen

pub returns-in-Some-clause-ring : goal.returns-in-Some-clause-ring
returns-in-Some-clause-ring c = ap (λ (s : Receiver). s.ring) (gets c).1
