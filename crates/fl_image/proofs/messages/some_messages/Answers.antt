use Rattle.std.proofs.Common.{◌≡◌, ◌++◌, ◌∷◌, [], List, map, subst, Ok}
use Rattle.fl_interface.specs.declared.interface.Message.{Message}
use Rattle.std.proofs.lemmas.Result.{err_from_is_err_and}
use Rattle.std.proofs.lemmas.List.{map_push}
use Rattle.fl_interface.specs.Interface.{message_of}
use Rattle.fl_image.specs.Reading.{Fails, message_after, more_at}
use Rattle.fl_image.proofs.Loop.{goes_on, ends, is_done}
use Rattle.fl_image.proofs.messages.some_messages.Goals as goal

pub returns-in_err-message : goal.returns-in_err-message
returns-in_err-message c =
    let p = err_from_is_err_and c.from_residual.result c.from_residual.ensures.1 in
    record { reads = rw (p.1, p.2) (ends c.in_err-message.field-0.0 message_after (map message_of c.loop.found.items) c.args.count c.loop.counter c.loop.rest.now (more_at message_after c.args.count [] c.args.bytes.now) c.loop-test.true (subst (λ (b : List Message). Fails c.in_err-message.field-0.0 (message_after (map message_of b) c.loop.rest.now)) c.deref.ensures.value c.in_err-message.ensures.reads) c.loop.invariant) }

pub loop-preserved : goal.loop-preserved
loop-preserved c =
    let n = c.in_ok-message.message in
    let e : map message_of c.push.new.self.items ≡ map message_of c.loop.found.items ++ message_of n ∷ [] = rw c.in_ok-push.ensures.items (map_push _ c.loop.found.items n) in
    rw e (goes_on message_after (map message_of c.loop.found.items) c.args.count c.loop.counter c.loop.rest.now (message_of n) c.in_ok-message.after.now (more_at message_after c.args.count [] c.args.bytes.now) c.loop-test.true (subst (λ (b : List Message). message_after (map message_of b) c.loop.rest.now ≡ Ok (message_of n, c.in_ok-message.after.now)) c.deref.ensures.value c.in_ok-message.ensures.reads) c.loop.invariant)

pub returns : goal.returns
returns c = record { reads = is_done message_after (map message_of c.loop.found.items) c.args.count c.loop.counter c.loop.rest.now (more_at message_after c.args.count [] c.args.bytes.now) c.loop-test.false c.loop.invariant }
