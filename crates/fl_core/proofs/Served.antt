-- A message is heard with an end ready for it: k is the core before, and base the same by its fields.
use Rattle.std.proofs.Common.{◌≡◌, refl, sym, ap, ◌∙◌, subst, ℕ, ◌<◌, List, [], ◌∷◌, ◌++◌, length, slice_get, slice_set, Option, Some, Result, Ok}
use Rattle.fl_base.specs.declared.identity.LinkId.{LinkId}
use Rattle.fl_compile.specs.declared.program.Program.{Program}
use Rattle.fl_compile.specs.Programs.{program_of}
use Rattle.fl_link.specs.Queue.{TheQueue, QueueTakes}
use Rattle.fl_endpoint.specs.View.{fresh}
use Rattle.fl_core.specs.declared.board_fault.BoardFault.{BoardFault}
use Rattle.fl_core.specs.BoardView.{TheBoard}
use Rattle.fl_core.specs.BoardTurns.{over}
use Rattle.fl_monitor.specs.declared.decision.OpeningFacts.{OpeningFacts}
use Rattle.fl_monitor.specs.declared.heard.MessageOutcome.{MessageOutcome}
use Rattle.fl_monitor.specs.declared.message.MonitorMessage.{MonitorMessage}
use Rattle.fl_monitor.specs.Monitors.{TheMonitor, Hears}
use Rattle.fl_core.specs.declared.wiring.WiredEnd.{WiredEnd}
use Rattle.fl_core.specs.declared.hearing.MadeServer.{MadeServer}
use Rattle.fl_core.specs.declared.hearing.OfferedService.{OfferedService}
use Rattle.fl_core.specs.declared.answer.MonitorAnswer.{MonitorAnswer}
use Rattle.fl_core.specs.declared.answer.MonitorAnswer.TheVariants.{Opened}
use Rattle.fl_core.specs.View.{TheCore, with_monitor, slot_of, server_of, circuit_wired_end, with_circuit_wired_end, new_arrivals}
use Rattle.fl_core.specs.Sound.{IsCore}
use Rattle.fl_core.specs.Ends.{RegistersAt}
use Rattle.fl_core.specs.Hearing.{Offers, here_for, offer_for, offering, Follows, Joins, HearsAll, HearsMessage}
use Rattle.fl_core.specs.Inside.{server_in, EndFor}
use Rattle.fl_core.proofs.Seated.{lists_kinds}
use Rattle.fl_core.proofs.Kept.{parts_kept}
use Rattle.fl_core.proofs.Leaving.{registering_leaves}
use Rattle.fl_core.proofs.Begun.{has_wired_end_kept}
use Rattle.fl_core.proofs.Hearsay.{hears_length, all_heard, message_heard, new_name, follows_server, end_some}

-- room that was made changes nothing
same_room : (base : TheCore) (n2 : TheMonitor) (b2 : TheBoard) (wired_ends : List WiredEnd) (arrivals : List TheQueue) → b2 ≡ base.board → wired_ends ≡ base.wired_ends → arrivals ≡ base.arrivals
    → record base { board = b2; monitor = n2; wired_ends = wired_ends; arrivals = arrivals } ≡ with_monitor base n2
same_room base n2 b2 wired_ends arrivals b_is wired_ends_are arrivals_are =
    ap (λ (x : TheBoard). record base { board = x; monitor = n2; wired_ends = wired_ends; arrivals = arrivals }) b_is
    ∙ ap (λ (x : List WiredEnd). record base { monitor = n2; wired_ends = x; arrivals = arrivals }) wired_ends_are
    ∙ ap (λ (x : List TheQueue). record base { monitor = n2; arrivals = x }) arrivals_are

module _ (o : Offers) (l : LinkId) (m : MonitorMessage) (k base : TheCore) (same : base ≡ k) (here : OpeningFacts) (here_is : here ≡ here_for o k m) (n2 : TheMonitor) (h : MessageOutcome)
    (hears : Hears (record { names = o.names; here = here }) l m base.monitor (Ok h) n2) where
  pub none_served : (told : MonitorAnswer) (k2 : TheCore) (b2 : TheBoard) (wired_ends : List WiredEnd) (arrivals : List TheQueue) → b2 ≡ base.board → wired_ends ≡ base.wired_ends → arrivals ≡ base.arrivals
      → Follows (offering o.programs (offer_for o base m) l) h (record base { board = b2; monitor = n2; wired_ends = wired_ends; arrivals = arrivals }) told k2 → HearsMessage o l m k (Ok told) k2
  none_served told k2 b2 wired_ends arrivals b_is wired_ends_are arrivals_are follows =
      message_heard o l m k base same here here_is n2 h told k2 hears
      (subst (λ (x : TheCore). Follows (offering o.programs (offer_for o base m) l) h x told k2) (same_room base n2 b2 wired_ends arrivals b_is wired_ends_are arrivals_are) follows)

  module _ (made : MadeServer) (makes : server_in h ≡ Some made) (source : Program) (place : ℕ) (b2 b3 : TheBoard) (r : Result (Unit {0}) BoardFault) (queue q : TheQueue)
      (ended : EndFor (program_of source) place (server_in h) base.board b2) (queue_is : queue ≡ new_arrivals) (registers : RegistersAt QueueTakes place (over b2 queue) r (over b3 q))
      (ports0 wired_ends : List WiredEnd) (arrivals0 arrivals : List TheQueue) (places : List (Option ℕ)) (ports0_are : ports0 ≡ base.wired_ends) (arrivals0_are : arrivals0 ≡ base.arrivals)
      (wired_ends_are : wired_ends ≡ ports0 ++ circuit_wired_end (server_of made.binding) l (length arrivals0) ∷ []) (places_are : places ≡ slice_set base.places (slot_of (server_of made.binding)) (Some place))
      (arrivals_are : arrivals ≡ arrivals0 ++ q ∷ []) where
    left : q ≡ new_arrivals
    left = registering_leaves place r b2 b3 queue q registers ∙ queue_is

    wired_ends_base : wired_ends ≡ base.wired_ends ++ circuit_wired_end (server_of made.binding) l (length base.arrivals) ∷ []
    wired_ends_base =
        wired_ends_are ∙ ap (λ (ps : List WiredEnd). ps ++ circuit_wired_end (server_of made.binding) l (length arrivals0) ∷ []) ports0_are
        ∙ ap (λ (qs : List TheQueue). base.wired_ends ++ circuit_wired_end (server_of made.binding) l (length qs) ∷ []) arrivals0_are

    arrivals_base : arrivals ≡ base.arrivals ++ q ∷ []
    arrivals_base = arrivals_are ∙ ap (λ (qs : List TheQueue). qs ++ q ∷ []) arrivals0_are

    pub server_kept : IsCore base → l.0 < length k.link_sides → IsCore (record { board = b3; monitor = n2; wired_ends = wired_ends; places = places; link_sides = base.link_sides; arrivals = arrivals })
    server_kept sound there =
        let it = end_some (program_of source) place (server_in h) made base.board b2 makes ended in
        let name = new_name o l m k base same here here_is h made hears.0 makes in
        let there_base = subst (λ (x : TheCore). l.0 < length x.link_sides) (sym same) there in
        let kept = has_wired_end_kept base base refl sound made.dispatcher (fresh it.0 (Some made.circuit.0)) (server_of made.binding) l place b2 n2 q wired_ends places arrivals name.0 name.1 it.2
        (hears_length _ l m base.monitor n2 h hears) there_base left wired_ends_base places_are arrivals_base in
        parts_kept (record { board = b2; monitor = n2; wired_ends = wired_ends; places = places; link_sides = base.link_sides; arrivals = arrivals }) b3 n2 base.link_sides arrivals kept
        (lists_kinds b2 b3 place _ registers) refl refl refl

    rest : record base { board = b3; monitor = n2; wired_ends = wired_ends; places = places; arrivals = arrivals } ≡ with_circuit_wired_end (with_monitor base n2) b3 place (server_of made.binding) l
    rest =
        ap (λ (x : List WiredEnd). record base { board = b3; monitor = n2; wired_ends = x; places = places; arrivals = arrivals }) wired_ends_base
        ∙ ap (λ (x : List (Option ℕ)). record base { board = b3; monitor = n2; wired_ends = base.wired_ends ++ circuit_wired_end (server_of made.binding) l (length base.arrivals) ∷ []; places = x; arrivals = arrivals }) places_are
        ∙ ap (λ (x : List TheQueue). record (with_circuit_wired_end (with_monitor base n2) b3 place (server_of made.binding) l) { arrivals = x }) (arrivals_base ∙ ap (λ (x : TheQueue). base.arrivals ++ x ∷ []) left)

    joins : Joins place b2 b3
    joins =
        let empty = subst (λ (x : TheQueue). RegistersAt QueueTakes place (over b2 x) r (over b3 q)) queue_is registers in
        (r, subst (λ (x : TheQueue). RegistersAt QueueTakes place (over b2 new_arrivals) r (over b3 x)) left empty)

    pub server_served : (offer : OfferedService) → offer_for o k m ≡ Some offer → slice_get o.programs offer.interface ≡ Some source
        → HearsAll o l m k (Opened (server_of made.binding)) (record base { board = b3; monitor = n2; wired_ends = wired_ends; places = places; arrivals = arrivals })
    server_served offer offer_is source_is =
        let it = end_some (program_of source) place (server_in h) made base.board b2 makes ended in
        let offer_base = subst (λ (x : TheCore). offer_for o x m ≡ Some offer) (sym same) offer_is in
        let k2 : TheCore = record base { board = b3; monitor = n2; wired_ends = wired_ends; places = places; arrivals = arrivals } in
        all_heard o l m k base same here here_is n2 h (Opened (server_of made.binding)) k2 hears
        (follows_server o.programs (offer_for o base m) l h made (with_monitor base n2) k2 makes (record {
          program = it.0;
          program_is = record { offered = offer; offered_is = offer_base; source = source; source_is = source_is; same = it.1 };
          end = place;
          added = b2;
          adds = it.2;
          joins = joins;
          rest = rest;
        }))
