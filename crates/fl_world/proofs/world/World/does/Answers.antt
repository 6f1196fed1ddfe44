use Rattle.std.proofs.Common.{refl}
use Rattle.fl_world.proofs.Kept.{on_any}
use Rattle.fl_world.proofs.world.World.does.Goals as goal

pub returns-in-AddInterface-clause-does : goal.returns-in-AddInterface-clause-does
returns-in-AddInterface-clause-does c = rw c.in-AddInterface.is c.add_interface.ensures.adds

pub returns-in-AddInterface-clause-kept : goal.returns-in-AddInterface-clause-kept
returns-in-AddInterface-clause-kept c = c.add_interface.ensures.kept

pub returns-in-AddInterface-clause-memory : goal.returns-in-AddInterface-clause-memory
returns-in-AddInterface-clause-memory c = rw c.in-AddInterface.is (on_any _ c.add_interface.result refl)

pub returns-in-SetCores-clause-does : goal.returns-in-SetCores-clause-does
returns-in-SetCores-clause-does c = rw c.in-SetCores.is c.set_cores.ensures.sets

pub returns-in-SetCores-clause-kept : goal.returns-in-SetCores-clause-kept
returns-in-SetCores-clause-kept c = c.set_cores.ensures.kept

pub returns-in-SetCores-clause-memory : goal.returns-in-SetCores-clause-memory
returns-in-SetCores-clause-memory c = rw c.in-SetCores.is (on_any _ c.set_cores.result refl)

pub returns-in-AddLink-clause-does : goal.returns-in-AddLink-clause-does
returns-in-AddLink-clause-does c = rw c.in-AddLink.is c.add_link.ensures.adds

pub returns-in-AddLink-clause-kept : goal.returns-in-AddLink-clause-kept
returns-in-AddLink-clause-kept c = c.add_link.ensures.kept

pub returns-in-AddLink-clause-memory : goal.returns-in-AddLink-clause-memory
returns-in-AddLink-clause-memory c = rw c.in-AddLink.is (on_any _ c.add_link.result refl)

pub returns-in-AddDispatcher-clause-does : goal.returns-in-AddDispatcher-clause-does
returns-in-AddDispatcher-clause-does c = rw c.in-AddDispatcher.is c.add_dispatcher.ensures.adds

pub returns-in-AddDispatcher-clause-kept : goal.returns-in-AddDispatcher-clause-kept
returns-in-AddDispatcher-clause-kept c = c.add_dispatcher.ensures.kept

pub returns-in-AddDispatcher-clause-memory : goal.returns-in-AddDispatcher-clause-memory
returns-in-AddDispatcher-clause-memory c = rw c.in-AddDispatcher.is (on_any _ c.add_dispatcher.result refl)

pub returns-in-Export-clause-does : goal.returns-in-Export-clause-does
returns-in-Export-clause-does c = rw c.in-Export.is c.export.ensures.exports

pub returns-in-Export-clause-kept : goal.returns-in-Export-clause-kept
returns-in-Export-clause-kept c = c.export.ensures.kept

pub returns-in-Export-clause-memory : goal.returns-in-Export-clause-memory
returns-in-Export-clause-memory c = rw c.in-Export.is (on_any _ c.export.result refl)

pub returns-in-Bind-clause-does : goal.returns-in-Bind-clause-does
returns-in-Bind-clause-does c = rw c.in-Bind.is c.bind.ensures.binds

pub returns-in-Bind-clause-kept : goal.returns-in-Bind-clause-kept
returns-in-Bind-clause-kept c = c.bind.ensures.kept

pub returns-in-Bind-clause-memory : goal.returns-in-Bind-clause-memory
returns-in-Bind-clause-memory c = rw c.in-Bind.is (on_any _ c.bind.result refl)

pub returns-in-Call-clause-does : goal.returns-in-Call-clause-does
returns-in-Call-clause-does c = rw c.in-Call.is c.call_whole.ensures.calls

pub returns-in-Call-clause-kept : goal.returns-in-Call-clause-kept
returns-in-Call-clause-kept c = c.call_whole.ensures.kept

pub returns-in-Call-clause-memory : goal.returns-in-Call-clause-memory
returns-in-Call-clause-memory c = rw c.in-Call.is (on_any _ c.call_whole.result refl)

pub returns-in-Show : goal.returns-in-Show
returns-in-Show c = record { does = rw c.in-Show.is c.show.ensures.shows; kept = tt; memory = tt; last = tt }

pub returns-in-Write : goal.returns-in-Write
returns-in-Write c = record { does = rw (c.in-Write.is, c.whole.ensures.whole) c.write.ensures.writes; kept = tt; memory = tt; last = tt }

pub returns-in-Turn-clause-does : goal.returns-in-Turn-clause-does
returns-in-Turn-clause-does c = rw c.in-Turn.is c.turn_whole.ensures.turns

pub returns-in-Turn-clause-kept : goal.returns-in-Turn-clause-kept
returns-in-Turn-clause-kept c = c.turn_whole.ensures.kept

pub returns-in-Turn-clause-memory : goal.returns-in-Turn-clause-memory
returns-in-Turn-clause-memory c = rw c.in-Turn.is (on_any _ c.turn_whole.result refl)

pub returns-in-Ack : goal.returns-in-Ack
returns-in-Ack c = record { does = rw (c.in-Ack.is, c.whole-in-Ack.ensures.whole) c.ack.ensures.acks; kept = tt; memory = tt; last = tt }

pub returns-in-Register : goal.returns-in-Register
returns-in-Register c = record { does = rw c.in-Register.is c.register.ensures.registers; kept = tt; memory = tt; last = tt }

pub returns-in-Deregister : goal.returns-in-Deregister
returns-in-Deregister c = record { does = rw c.in-Deregister.is c.deregister.ensures.deregisters; kept = tt; memory = tt; last = tt }

pub returns-in-Reply : goal.returns-in-Reply
returns-in-Reply c = record { does = rw c.in-Reply.is c.reply.ensures.rules; kept = tt; memory = tt; last = tt }

pub returns-in-MonitorWrite : goal.returns-in-MonitorWrite
returns-in-MonitorWrite c = record { does = rw c.in-MonitorWrite.is c.monitor_write.ensures.writes; kept = tt; memory = tt; last = tt }

pub returns-in-Forward-clause-does : goal.returns-in-Forward-clause-does
returns-in-Forward-clause-does c = rw c.in-Forward.is c.forward_whole.ensures.forwards

pub returns-in-Forward-clause-kept : goal.returns-in-Forward-clause-kept
returns-in-Forward-clause-kept c = c.forward_whole.ensures.kept

pub returns-in-Forward-clause-memory : goal.returns-in-Forward-clause-memory
returns-in-Forward-clause-memory c = rw c.in-Forward.is (on_any _ c.forward_whole.result refl)

pub returns-in-MonitorAck : goal.returns-in-MonitorAck
returns-in-MonitorAck c = record { does = rw c.in-MonitorAck.is c.monitor_ack.ensures.acks; kept = tt; memory = tt; last = tt }

pub returns-in-AddInterface-clause-last : goal.returns-in-AddInterface-clause-last
returns-in-AddInterface-clause-last c = rw c.in-AddInterface.is c.add_interface.ensures.last

pub returns-in-SetCores-clause-last : goal.returns-in-SetCores-clause-last
returns-in-SetCores-clause-last c = rw c.in-SetCores.is c.set_cores.ensures.last

pub returns-in-AddLink-clause-last : goal.returns-in-AddLink-clause-last
returns-in-AddLink-clause-last c = rw c.in-AddLink.is c.add_link.ensures.last

pub returns-in-AddDispatcher-clause-last : goal.returns-in-AddDispatcher-clause-last
returns-in-AddDispatcher-clause-last c = rw c.in-AddDispatcher.is c.add_dispatcher.ensures.last

pub returns-in-Export-clause-last : goal.returns-in-Export-clause-last
returns-in-Export-clause-last c = rw c.in-Export.is c.export.ensures.last

pub returns-in-Bind-clause-last : goal.returns-in-Bind-clause-last
returns-in-Bind-clause-last c = rw c.in-Bind.is c.bind.ensures.last

pub returns-in-Call-clause-last : goal.returns-in-Call-clause-last
returns-in-Call-clause-last c = rw c.in-Call.is c.call_whole.ensures.last

pub returns-in-Turn-clause-last : goal.returns-in-Turn-clause-last
returns-in-Turn-clause-last c = rw c.in-Turn.is c.turn_whole.ensures.last

pub returns-in-Forward-clause-last : goal.returns-in-Forward-clause-last
returns-in-Forward-clause-last c = rw c.in-Forward.is c.forward_whole.ensures.last
