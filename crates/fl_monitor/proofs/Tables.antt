-- What is heard makes no link more, and none less.
use Rattle.std.proofs.Common.{◌≡◌, ◌∙◌, refl, ℕ, List, length, length-set, slice_get, Option, Some, None}
use Rattle.fl_base.specs.declared.identity.LinkId.{LinkId}
use Rattle.fl_base.specs.declared.identity.Circuit.{Circuit}
use Rattle.fl_hop.specs.declared.entry.Hop.{Hop}
use Rattle.fl_hop.specs.declared.links.LinkState.{LinkState}
use Rattle.fl_hop.specs.Table.{TheCircuits, hop_at}
use Rattle.fl_hop.specs.Numbers.{changed, with_opening, with_taking, count_taking}
use Rattle.fl_monitor.specs.declared.heard.MessageOutcome.{MessageOutcome}
use Rattle.fl_monitor.specs.declared.heard.MessageOutcome.TheVariants.{OpeningWentOn, ServerMade, OpeningFailed, AnswerWentOn, EndOpened, EndRefused}
use Rattle.fl_monitor.specs.declared.message.MonitorMessage.{MonitorMessage}
use Rattle.fl_monitor.specs.declared.message.MonitorMessage.TheVariants.{OpenCircuit, CircuitOpened, CircuitRefused}
use Rattle.fl_monitor.specs.Hearing.{after_opening, after_answer, after_refusal, table_after}

changed_length : (f : LinkState → LinkState) (links : List LinkState) (l : ℕ) (a : Option LinkState) → length (changed f links l a) ≡ length links
changed_length f links l None = refl
changed_length f links l (Some a) = length-set links l (f a)

taken_length : (t : TheCircuits) (l : LinkId) → length (count_taking t.links l.0) ≡ length t.links
taken_length t l = changed_length with_taking t.links l.0 (slice_get t.links l.0)

opening_length : (t : TheCircuits) (l : LinkId) (c : Circuit) (binding : ℕ) (heard : MessageOutcome) → length (after_opening t l c binding heard).links ≡ length t.links
opening_length t l c binding (OpeningWentOn b m n) =
    changed_length with_opening (count_taking t.links l.0) m.0 (slice_get (count_taking t.links l.0) m.0) ∙ taken_length t l
opening_length t l c binding (ServerMade b dispatcher d) = taken_length t l
opening_length t l c binding (OpeningFailed b reason) = taken_length t l
opening_length t l c binding (AnswerWentOn b m n) = taken_length t l
opening_length t l c binding (EndOpened e d) = taken_length t l
opening_length t l c binding (EndRefused e reason) = taken_length t l

answer_length : (t : TheCircuits) (l : LinkId) (c : Circuit) (hop : Option Hop) → hop_at t l.0 c.0 ≡ hop → length (after_answer t l c).links ≡ length t.links
answer_length t l c None is = rw is refl
answer_length t l c (Some hop) is = rw is refl

refusal_length : (t : TheCircuits) (l : LinkId) (c : Circuit) (hop : Option Hop) → hop_at t l.0 c.0 ≡ hop → length (after_refusal t l c).links ≡ length t.links
refusal_length t l c None is = rw is refl
refusal_length t l c (Some hop) is = rw is refl

pub table_length : (t : TheCircuits) (l : LinkId) (m : MonitorMessage) (heard : MessageOutcome) → length (table_after t l m heard).links ≡ length t.links
table_length t l (OpenCircuit c binding service path) heard = opening_length t l c binding heard
table_length t l (CircuitOpened c) heard = answer_length t l c (hop_at t l.0 c.0) refl
table_length t l (CircuitRefused c reason) heard = refusal_length t l c (hop_at t l.0 c.0) refl
