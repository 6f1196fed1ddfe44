use Rattle.std.proofs.Common.{refl}
use Rattle.fl_compile.proofs.Prepared.{none_prepared, next_prepared, all_prepared}
use Rattle.fl_compile.proofs.compiler.prepare_messages.Goals as goal

pub loop-message-init : goal.loop-message-init
loop-message-init c = none_prepared c.args.messages.now _ _ refl c.in_ok-prepared.ensures.items

pub loop-message-preserved : goal.loop-message-preserved
loop-message-preserved c = next_prepared _ _ _ _ _ _ c.loop-message-test.true c.message-item.is c.in_ok-push.ensures.items c.loop-message.invariant c.in_ok-prepare.ensures.means

pub returns : goal.returns
returns c = record { prepared = all_prepared c.args.messages.now c.loop-message.message-index c.loop-message.prepared.items c.loop-message-test.false c.loop-message.invariant }
