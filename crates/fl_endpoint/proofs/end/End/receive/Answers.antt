use Rattle.std.proofs.Common.{◌≡◌, true, Ok, refl, rules}
use Rattle.fl_base.specs.Control.{bare}
use Rattle.fl_link.specs.Looks.{saw, found, found_ack}
use Rattle.fl_endpoint.specs.declared.answer.ReceiveAnswer.TheVariants.{Quiet, Empty, HeldBack}
use Rattle.fl_endpoint.specs.View.{holds_back}
use Rattle.fl_endpoint.specs.Events.{IsReady, IsOpen}
use Rattle.fl_endpoint.specs.Lent.{taking, TakesInWith}
use Rattle.fl_endpoint.proofs.Lendings.{still_place, not_ready, receives_kept, leaves_at, takes_at}
use Rattle.fl_endpoint.proofs.end.End.receive.Goals as goal

pub returns-in-Err-clause-receives : goal.returns-in-Err-clause-receives
returns-in-Err-clause-receives g c = not_ready c.args.self.now c.args.calls.now c.args.place c.requires.place g.T.TakeSide.takes c.args.from.now c.args.from.now c.in-Err.fault c.in-Err.ensures.ready refl

pub returns-then-has_rules-clause-receives : goal.returns-then-has_rules-clause-receives
returns-then-has_rules-clause-receives g c =
    let ready : IsReady c.args.self.now = search rules in
    let held : holds_back c.args.self.now ≡ true = search rules in
    receives_kept c.args.self.now c.args.calls.now c.args.place c.requires.place g.T.TakeSide.takes c.args.from.now c.args.from.now (Ok HeldBack) (λ parts. (ready, held, refl, refl))

pub returns-in-Empty-clause-receives : goal.returns-in-Empty-clause-receives
returns-in-Empty-clause-receives g c =
    let opened : IsOpen c.args.self.now = search rules in
    receives_kept c.args.self.now c.args.calls.now c.args.place c.requires.place g.T.TakeSide.takes c.args.from.now c.peek.new.self (Ok Empty) (λ parts. (opened, c.in-Empty.ensures.look, refl))

pub returns-in-Acknowledgement-clause-receives : goal.returns-in-Acknowledgement-clause-receives
returns-in-Acknowledgement-clause-receives g c =
    let opened : IsOpen c.args.self.now = search rules in
    let found_it : g.T.TakeSide.takes c.peek.new.self found_ack c.take.new.self = search rules in
    receives_kept c.args.self.now c.args.calls.now c.args.place c.requires.place g.T.TakeSide.takes c.args.from.now c.take.new.self (Ok Quiet) (λ parts. (opened, (c.peek.new.self, c.in-Acknowledgement.ensures.look, found_it), refl))

pub returns-in-Err-take_in-clause-receives : goal.returns-in-Err-take_in-clause-receives
returns-in-Err-take_in-clause-receives g c =
    let opened : IsOpen c.args.self.now = search rules in
    let f = c.bare.result in
    let is_bare : bare f ≡ f = search rules in
    let sees : g.T.TakeSide.takes c.args.from.now (saw f) c.peek.new.self = search rules in
    leaves_at c.args.self.now c.args.calls.now c.args.place c.requires.place g.T.TakeSide.takes c.args.from.now c.peek.new.self opened f is_bare c.take_in.new.self c.take_in.new.calls c.in-Err-take_in.fault sees c.in-Err-take_in.ensures.takes_in

pub returns-in-Ok-take_in-clause-receives : goal.returns-in-Ok-take_in-clause-receives
returns-in-Ok-take_in-clause-receives g c =
    let opened : IsOpen c.args.self.now = search rules in
    let f = c.bare.result in
    let is_bare : bare f ≡ f = search rules in
    let sees : g.T.TakeSide.takes c.args.from.now (saw f) c.peek.new.self = search rules in
    let takes_it : g.T.TakeSide.takes c.peek.new.self (found f) c.take-in-Ok-take_in.new.self = search rules in
    takes_at c.args.self.now c.args.calls.now c.args.place c.requires.place g.T.TakeSide.takes c.args.from.now c.take-in-Ok-take_in.new.self opened f is_bare c.take_in.new.self c.take_in.new.calls c.in-Ok-take_in.answer c.peek.new.self sees takes_it c.in-Ok-take_in.ensures.takes_in

pub returns-in-Err-take_in-clause-place : goal.returns-in-Err-take_in-clause-place
returns-in-Err-take_in-clause-place g c =
    still_place c.args.calls.now c.args.place (TakesInWith (taking c.args.self.now c.bare.result c.take_in.result c.take_in.new.self)) c.take_in.new.calls c.take_in.new.self (λ was is e. e.of) c.take_in.ensures.takes_in

pub returns-in-Ok-take_in-clause-place : goal.returns-in-Ok-take_in-clause-place
returns-in-Ok-take_in-clause-place g c =
    still_place c.args.calls.now c.args.place (TakesInWith (taking c.args.self.now c.bare.result c.take_in.result c.take_in.new.self)) c.take_in.new.calls c.take_in.new.self (λ was is e. e.of) c.take_in.ensures.takes_in
