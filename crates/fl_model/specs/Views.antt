-- Events and answers of the code, as the machine has them.
use Rattle.std.specs.Prelude.{ℕ, List, take}
use Rattle.fl_interface.specs.Interface.{interface_of}
use Rattle.fl_value_data.specs.Value.{TheCall, call_of}
use Rattle.fl_model.specs.Events.{DispatcherId, Kind, by_queues, by_ring, by_route, Event, add_interface, set_cores}
use Rattle.fl_model.specs.Events.{add_link, add_dispatcher}
use Rattle.fl_model.specs.Events.{monitor_write, monitor_ack, Answer, done, accepted, nothing, full}
use Rattle.fl_model.specs.Events.{written, handle, part, ready, quiet, forwarded, opened, opening_refused}
use Rattle.fl_model.specs.Events.{words, refused}
use Rattle.fl_model.specs.Events as machine
use Rattle.fl_model.specs.declared.answer.Answer.{Answer as RustAnswer}
use Rattle.fl_model.specs.declared.answer.Answer.TheVariants as answer
use Rattle.fl_model.specs.declared.answer.BriefAnswer.{BriefAnswer}
use Rattle.fl_model.specs.declared.answer.BriefAnswer.TheVariants as brief
use Rattle.fl_model.specs.declared.answer.TurnedAnswer.{TurnedAnswer}
use Rattle.fl_model.specs.declared.answer.TurnedAnswer.TheVariants as turned
use Rattle.fl_model.specs.declared.event.DispatcherId.{DispatcherId as RustDispatcherId}
use Rattle.fl_model.specs.declared.event.Event.{Event as RustEvent}
use Rattle.fl_model.specs.declared.event.Event.TheVariants as event
use Rattle.fl_model.specs.declared.back_end.BackEnd.{BackEnd as RustBackEnd}
use Rattle.fl_model.specs.declared.back_end.BackEnd.TheVariants.{Local, Ump, Hop}
use Rattle.fl_model.specs.declared.route.Route.{Route as RustRoute}

abbrev pub id_of : RustDispatcherId → DispatcherId
id_of d = record { core = d.core; place = d.place }

abbrev pub cores_of : RustRoute → List ℕ
cores_of r = take r.count r.cores

abbrev pub kind_of : RustBackEnd → Kind
kind_of (Local slots) = by_queues slots
kind_of (Ump slots) = by_ring slots
kind_of (Hop route) = by_route (cores_of route)

abbrev pub event_of : RustEvent → Event
event_of (event.AddInterface i plan) = add_interface (interface_of i) plan
event_of (event.SetCores n) = set_cores n
event_of (event.AddLink a b slots) = add_link a b slots
event_of (event.AddDispatcher core) = add_dispatcher core
event_of (event.Export name d i) = machine.export name.now (id_of d) i
event_of (event.Bind client i service back_end) = machine.bind (id_of client) i service.now (kind_of back_end)
event_of (event.Call e c) = machine.call e (call_of c)
event_of (event.Show e) = machine.show e
event_of (event.Write e) = machine.write e
event_of (event.Turn d) = machine.turn (id_of d)
event_of (event.Ack e) = machine.ack e
event_of (event.Register e) = machine.register e
event_of (event.Deregister e) = machine.deregister e
event_of (event.Reply e m n) = machine.reply e m.0 n.0
event_of (event.MonitorWrite core neighbour) = monitor_write core neighbour
event_of (event.Forward core neighbour) = machine.forward core neighbour
event_of (event.MonitorAck core neighbour) = monitor_ack core neighbour

abbrev pub answer_of : RustAnswer → Answer
answer_of answer.Done = done
answer_of answer.Accepted = accepted
answer_of answer.Nothing = nothing
answer_of answer.Full = full
answer_of (answer.Written k n) = written k n
answer_of (answer.Handle e c) = handle e (call_of c)
answer_of (answer.Part e) = part e
answer_of (answer.Ready e) = ready e
answer_of (answer.Quiet e) = quiet e
answer_of answer.Forwarded = forwarded
answer_of (answer.Opened e) = opened e
answer_of (answer.OpeningRefused n e) = opening_refused n e
answer_of (answer.Words frag) = words frag
answer_of (answer.Refused n) = refused n

abbrev pub brief_of : BriefAnswer → Answer
brief_of brief.Done = done
brief_of brief.Accepted = accepted
brief_of brief.Nothing = nothing
brief_of brief.Full = full
brief_of (brief.Written k n) = written k n
brief_of brief.Forwarded = forwarded
brief_of (brief.Opened e) = opened e
brief_of (brief.OpeningRefused n e) = opening_refused n e
brief_of (brief.Refused n) = refused n

-- what is answered to a turn, where the call that was handled, if one was, is this one
abbrev pub turned_of : TurnedAnswer → TheCall → Answer
turned_of (turned.Handle e) call = handle e call
turned_of (turned.Part e) call = part e
turned_of (turned.Ready e) call = ready e
turned_of (turned.Quiet e) call = quiet e
turned_of turned.Full call = full
turned_of turned.Nothing call = nothing
turned_of (turned.Refused n) call = refused n
