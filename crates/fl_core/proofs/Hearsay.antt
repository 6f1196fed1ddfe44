-- A message is heard: k is the core before, and base the same by its fields.
use Rattle.std.proofs.Common.{◌≡◌, sym, ap, ◌∙◌, subst, ℕ, ◌<◌, List, length, Option, Some, None, IsSome, Result, Ok, Err, IfErr}
use Rattle.fl_base.specs.declared.identity.LinkId.{LinkId}
use Rattle.fl_compile.specs.declared.program.Program.{Program}
use Rattle.fl_compile.specs.Programs.{TheProgram, program_of}
use Rattle.fl_link.specs.Queue.{TheQueue}
use Rattle.fl_hop.specs.Table.{TheCircuits}
use Rattle.fl_endpoint.specs.View.{fresh}
use Rattle.fl_core.specs.declared.kind.ChannelKind.TheVariants.{Queue}
use Rattle.fl_core.specs.BoardView.{TheBoard}
use Rattle.fl_core.specs.BoardEvents.{Adds}
use Rattle.fl_monitor.specs.declared.decision.OpeningFacts.{OpeningFacts}
use Rattle.fl_monitor.specs.declared.heard.MessageOutcome.{MessageOutcome}
use Rattle.fl_monitor.specs.declared.heard.MessageOutcome.TheVariants as heard
use Rattle.fl_monitor.specs.declared.message.MonitorMessage.{MonitorMessage}
use Rattle.fl_monitor.specs.declared.message.MonitorMessage.TheVariants.{OpenCircuit, CircuitOpened, CircuitRefused}
use Rattle.fl_monitor.specs.declared.fault.MonitorFault.{MonitorFault}
use Rattle.fl_monitor.specs.declared.fault.MonitorFault.TheVariants as fault
use Rattle.fl_monitor.specs.Fates.{Known}
use Rattle.fl_monitor.specs.Hearing.{ComesTo, circuit_in, says}
use Rattle.fl_monitor.specs.Monitors.{TheMonitor, Hears, MayHear, NotHeard}
use Rattle.fl_monitor.proofs.Tables.{table_length}
use Rattle.fl_monitor.proofs.Outcomes.{opening_says}
use Rattle.fl_core.specs.declared.wiring.WiredEnd.{WiredEnd}
use Rattle.fl_core.specs.declared.wiring.LinkSide.{LinkSide}
use Rattle.fl_core.specs.declared.hearing.MadeServer.{MadeServer}
use Rattle.fl_core.specs.declared.hearing.OfferedService.{OfferedService}
use Rattle.fl_core.specs.declared.answer.MonitorAnswer.{MonitorAnswer}
use Rattle.fl_core.specs.declared.answer.MonitorAnswer.TheVariants.{Full, Done, Opened, OpeningRefused}
use Rattle.fl_core.specs.declared.fault.LinkReceiveFault.{LinkReceiveFault}
use Rattle.fl_core.specs.declared.fault.LinkReceiveFault.TheVariants as link
use Rattle.fl_base.specs.declared.fragment.Frag.{Frag}
use Rattle.fl_monitor.specs.Saying.{Says, Refuses}
use Rattle.fl_wire.specs.declared.fault.WireFault.{WireFault}
use Rattle.fl_wire.specs.declared.fault.WireFault.TheVariants as wire
use Rattle.fl_core.specs.View.{TheCore, with_monitor, with_failed, server_of, place_of}
use Rattle.fl_core.specs.Sound.{IsCore, kinds_seated}
use Rattle.fl_core.specs.Hearing.{Offers, here_for, known_for, offer_for, offering, Follows, MakesServer, HearsAll, HearsMessage, HearsLast, HearsFrag, HearsFragLast}
use Rattle.fl_core.specs.Inside.{server_in, LeadsTo, EndFor, for_message, core_parts, HearsWith, Unheard}
use Rattle.fl_core.proofs.Kept.{parts_kept, failed_long}
use Rattle.fl_core.proofs.Offers.{offer_found, offer_leads, made_for, made_new, none_made}

-- ---- what isn't heard

pub hears_kept : (kn : Known) (l : LinkId) (m : MonitorMessage) (n n2 : TheMonitor) (f : MonitorFault) → Hears kn l m n (Err f) n2 → n2 ≡ n
hears_kept kn l m n n2 fault.Misrouted h = h.1
hears_kept kn l m n n2 fault.OutboxFull h = h.3
hears_kept kn l m n n2 fault.Memory h = h.3
hears_kept kn l m n n2 fault.Differs h = absurd h
hears_kept kn l m n n2 fault.NoRoute h = absurd h
hears_kept kn l m n n2 fault.UsedUp h = absurd h
hears_kept kn l m n n2 fault.PlansDiffer h = absurd h

pub with_kept : (kn : Known) (l : LinkId) (m : MonitorMessage) (source : TheProgram) (b b2 : TheBoard) (n n2 : TheMonitor) (f : MonitorFault) → HearsWith (for_message kn l m source) (core_parts b n) (Err f) (core_parts b2 n2) → (b2 ≡ b) × (n2 ≡ n)
with_kept kn l m source b b2 n n2 fault.Memory h = h
with_kept kn l m source b b2 n n2 fault.Misrouted h = (h.1, h.2)
with_kept kn l m source b b2 n n2 fault.OutboxFull h = (h.1, h.2)
with_kept kn l m source b b2 n n2 fault.Differs h = (h.1, h.2)
with_kept kn l m source b b2 n n2 fault.NoRoute h = (h.1, h.2)
with_kept kn l m source b b2 n n2 fault.UsedUp h = (h.1, h.2)
with_kept kn l m source b b2 n n2 fault.PlansDiffer h = (h.1, h.2)

pub unheard_length : (l : LinkId) (f : MonitorFault) (link_sides lanes2 : List LinkSide) (answer : Result MonitorAnswer LinkReceiveFault) → Unheard l f link_sides answer lanes2 → length lanes2 ≡ length link_sides
unheard_length l fault.Misrouted link_sides lanes2 answer h = failed_long link_sides lanes2 l.0 h.1
unheard_length l fault.OutboxFull link_sides lanes2 answer h = ap length h.1
unheard_length l fault.Memory link_sides lanes2 answer h = ap length h.1
unheard_length l fault.Differs link_sides lanes2 answer h = ap length h.1
unheard_length l fault.NoRoute link_sides lanes2 answer h = ap length h.1
unheard_length l fault.UsedUp link_sides lanes2 answer h = ap length h.1
unheard_length l fault.PlansDiffer link_sides lanes2 answer h = ap length h.1

not_heard_so : (o : Offers) (l : LinkId) (m : MonitorMessage) (k : TheCore) (f : MonitorFault) (n2 : TheMonitor) (answer : Result MonitorAnswer LinkReceiveFault) (link_sides : List LinkSide)
    → Hears (known_for o k m) l m k.monitor (Err f) n2 → Unheard l f k.link_sides answer link_sides → HearsMessage o l m k answer (record k { monitor = n2; link_sides = link_sides })
not_heard_so o l m k fault.Misrouted n2 answer link_sides h (answer_is, link_sides_are) =
    subst (λ (r : Result MonitorAnswer LinkReceiveFault). HearsMessage o l m k r (record k { monitor = n2; link_sides = link_sides })) (sym answer_is) (
      subst (λ (n : TheMonitor). Hears (known_for o k m) l m k.monitor (Err fault.Misrouted) n) h.1 h,
      ap (λ (n : TheMonitor). record k { monitor = n; link_sides = link_sides }) h.1 ∙ ap (λ (ls : List LinkSide). record k { link_sides = ls }) link_sides_are,
    )
not_heard_so o l m k fault.OutboxFull n2 answer link_sides h (answer_is, link_sides_are) =
    subst (λ (r : Result MonitorAnswer LinkReceiveFault). HearsMessage o l m k r (record k { monitor = n2; link_sides = link_sides })) (sym answer_is) (
      subst (λ (n : TheMonitor). Hears (known_for o k m) l m k.monitor (Err fault.OutboxFull) n) h.3 h,
      ap (λ (n : TheMonitor). record k { monitor = n; link_sides = link_sides }) h.3 ∙ ap (λ (ls : List LinkSide). record k { link_sides = ls }) link_sides_are,
    )
not_heard_so o l m k fault.Memory n2 answer link_sides h (answer_is, link_sides_are) =
    subst (λ (r : Result MonitorAnswer LinkReceiveFault). HearsMessage o l m k r (record k { monitor = n2; link_sides = link_sides })) (sym answer_is)
    (ap (λ (n : TheMonitor). record k { monitor = n; link_sides = link_sides }) h.3 ∙ ap (λ (ls : List LinkSide). record k { link_sides = ls }) link_sides_are)
not_heard_so o l m k fault.Differs n2 answer link_sides h u = absurd h
not_heard_so o l m k fault.NoRoute n2 answer link_sides h u = absurd h
not_heard_so o l m k fault.UsedUp n2 answer link_sides h u = absurd h
not_heard_so o l m k fault.PlansDiffer n2 answer link_sides h u = absurd h

-- ---- memory is wanting last

last_by : (o : Offers) (l : LinkId) (m : MonitorMessage) (k : TheCore) (f : MonitorFault) (n2 : TheMonitor) (answer : Result MonitorAnswer LinkReceiveFault) (link_sides lanes2 : List LinkSide)
    → Hears (known_for o k m) l m k.monitor (Err f) n2 → Unheard l f link_sides answer lanes2 → IfErr answer (HearsLast o l m k)
last_by o l m k fault.Misrouted n2 answer link_sides lanes2 h u = subst (λ (r : Result MonitorAnswer LinkReceiveFault). IfErr r (HearsLast o l m k)) (sym u.0) tt
last_by o l m k fault.OutboxFull n2 answer link_sides lanes2 h u = subst (λ (r : Result MonitorAnswer LinkReceiveFault). IfErr r (HearsLast o l m k)) (sym u.0) tt
last_by o l m k fault.Memory n2 answer link_sides lanes2 h u =
    subst (λ (r : Result MonitorAnswer LinkReceiveFault). IfErr r (HearsLast o l m k)) (sym u.0) (h.0, (h.1, h.2), h.4)
last_by o l m k fault.Differs n2 answer link_sides lanes2 h u = absurd h
last_by o l m k fault.NoRoute n2 answer link_sides lanes2 h u = absurd h
last_by o l m k fault.UsedUp n2 answer link_sides lanes2 h u = absurd h
last_by o l m k fault.PlansDiffer n2 answer link_sides lanes2 h u = absurd h

-- what isn't heard, memory aside, isn't heard
pub hears_not : (kn : Known) (l : LinkId) (m : MonitorMessage) (n : TheMonitor) (f : MonitorFault) → NotHeard kn l m n f → Hears kn l m n (Err f) n
hears_not kn l m n fault.Misrouted h = h
hears_not kn l m n fault.OutboxFull h = h
hears_not kn l m n fault.Memory h = absurd h
hears_not kn l m n fault.Differs h = absurd h
hears_not kn l m n fault.NoRoute h = absurd h
hears_not kn l m n fault.UsedUp h = absurd h
hears_not kn l m n fault.PlansDiffer h = absurd h

last_for : (o : Offers) (l : LinkId) (m : MonitorMessage) (k : TheCore) (h : MessageOutcome) → MayHear (known_for o k m) l m k.monitor h → IsSome (says l m h) → (f : LinkReceiveFault) → HearsLast o l m k f
last_for o l m k h may said link.Marked = tt
last_for o l m k h may said link.Failed = tt
last_for o l m k h may said link.Misrouted = tt
last_for o l m k h may said (link.Wire why) = tt
last_for o l m k h may said link.Memory = (h, may, said)

-- an opening for which there is an offer is passed on or answered
pub offered_says : (o : Offers) (k : TheCore) (offer : OfferedService) (kn : Known) (t : TheCircuits) (l : LinkId) (m : MonitorMessage) (h : MessageOutcome)
    → offer_for o k m ≡ Some offer → ComesTo kn t l m h → IsSome (says l m h)
offered_says o k offer kn t l (OpenCircuit c binding service path) h is comes = opening_says kn t l c binding service path h comes
offered_says o k offer kn t l (CircuitOpened c) h is comes = absurd (cc (is))
offered_says o k offer kn t l (CircuitRefused c reason) h is comes = absurd (cc (is))

-- ---- what is heard

pub hears_length : (kn : Known) (l : LinkId) (m : MonitorMessage) (n n2 : TheMonitor) (h : MessageOutcome) → Hears kn l m n (Ok h) n2 → length n2.circuits.links ≡ length n.circuits.links
hears_length kn l m n n2 h hears = ap (λ (t : TheCircuits). length t.links) hears.2 ∙ table_length n.circuits l m h

-- room that was made changes nothing
pub roomy_kept : (k : TheCore) (b : TheBoard) (m : TheMonitor) (link_sides : List LinkSide) (wired_ends : List WiredEnd) (arrivals : List TheQueue) → IsCore k → kinds_seated b.seats ≡ kinds_seated k.board.seats
    → length m.circuits.links ≡ length k.monitor.circuits.links → length link_sides ≡ length k.link_sides → wired_ends ≡ k.wired_ends → arrivals ≡ k.arrivals
    → IsCore (record { board = b; monitor = m; wired_ends = wired_ends; places = k.places; link_sides = link_sides; arrivals = arrivals })
roomy_kept k b m link_sides wired_ends arrivals sound kinds links link_sides_are wired_ends_are arrivals_are =
    subst (λ (ps : List WiredEnd). IsCore (record { board = b; monitor = m; wired_ends = ps; places = k.places; link_sides = link_sides; arrivals = arrivals })) (sym wired_ends_are)
    (parts_kept k b m link_sides arrivals sound kinds links link_sides_are (ap length arrivals_are))

full_follows : (programs : List Program) (offer : Option OfferedService) (l : LinkId) (h : MessageOutcome) (k k2 : TheCore) → Follows (offering programs offer l) h k Full k2 → ⊥
full_follows programs offer l (heard.ServerMade b d c) k k2 f = absurd (cc (f.0))
full_follows programs offer l (heard.EndOpened e c) k k2 f = absurd (cc (f.0))
full_follows programs offer l (heard.EndRefused e reason) k k2 f = absurd (cc (f.0))
full_follows programs offer l (heard.OpeningWentOn b n c) k k2 f = absurd (cc (f.0))
full_follows programs offer l (heard.OpeningFailed b reason) k k2 f = absurd (cc (f.0))
full_follows programs offer l (heard.AnswerWentOn b n c) k k2 f = absurd (cc (f.0))

not_full : (o : Offers) (l : LinkId) (m : MonitorMessage) (k k2 : TheCore) (told : MonitorAnswer) → HearsAll o l m k told k2 → HearsMessage o l m k (Ok told) k2
not_full o l m k k2 Full h = absurd (full_follows o.programs (offer_for o k m) l h.heard (with_monitor k h.monitor) k2 h.follows)
not_full o l m k k2 Done h = h
not_full o l m k k2 (Opened e) h = h
not_full o l m k k2 (OpeningRefused e reason) h = h

module _ (o : Offers) (l : LinkId) (m : MonitorMessage) (k base : TheCore) (same : base ≡ k) (here : OpeningFacts) (here_is : here ≡ here_for o k m) where
  at_base : here ≡ here_for o base m
  at_base = subst (λ (x : TheCore). here ≡ here_for o x m) (sym same) here_is

  pub leads_so : (offer : OfferedService) → offer_for o k m ≡ Some offer → LeadsTo (record { names = o.names; here = here }) base.monitor.circuits l m offer.dispatcher (circuit_in m)
  leads_so offer is h made comes makes =
      let f = offer_found o base m offer (subst (λ (x : TheCore). offer_for o x m ≡ Some offer) (sym same) is) in
      offer_leads o base l m offer f h made (subst (λ (x : OpeningFacts). ComesTo (record { names = o.names; here = x }) base.monitor.circuits l m h) at_base comes) makes

  pub not_heard : (f : MonitorFault) (n2 : TheMonitor) (answer : Result MonitorAnswer LinkReceiveFault) (link_sides : List LinkSide) → Hears (record { names = o.names; here = here }) l m base.monitor (Err f) n2
      → Unheard l f base.link_sides answer link_sides → HearsMessage o l m k answer (record base { monitor = n2; link_sides = link_sides })
  not_heard f n2 answer link_sides hears unheard =
      subst (λ (x : TheCore). HearsMessage o l m x answer (record base { monitor = n2; link_sides = link_sides })) same
      (not_heard_so o l m base f n2 answer link_sides (subst (λ (x : OpeningFacts). Hears (record { names = o.names; here = x }) l m base.monitor (Err f) n2) at_base hears) unheard)

  pub unheard_last : (f : MonitorFault) (n2 : TheMonitor) (answer : Result MonitorAnswer LinkReceiveFault) (link_sides : List LinkSide) → Hears (record { names = o.names; here = here }) l m base.monitor (Err f) n2
      → Unheard l f base.link_sides answer link_sides → IfErr answer (HearsLast o l m k)
  unheard_last f n2 answer link_sides hears unheard =
      subst (λ (x : TheCore). IfErr answer (HearsLast o l m x)) same
      (last_by o l m base f n2 answer base.link_sides link_sides (subst (λ (x : OpeningFacts). Hears (record { names = o.names; here = x }) l m base.monitor (Err f) n2) at_base hears) unheard)

  may_last : (h : MessageOutcome) → MayHear (record { names = o.names; here = here }) l m base.monitor h → IsSome (says l m h) → (f : LinkReceiveFault) → HearsLast o l m k f
  may_last h may said f =
      subst (λ (x : TheCore). HearsLast o l m x f) same
      (last_for o l m base h (subst (λ (x : OpeningFacts). MayHear (record { names = o.names; here = x }) l m base.monitor h) at_base may) said f)

  pub heard_last : (offer : OfferedService) → offer_for o k m ≡ Some offer → (h : MessageOutcome) (answer : Result MonitorAnswer LinkReceiveFault) → MayHear (record { names = o.names; here = here }) l m base.monitor h
      → IfErr answer (HearsLast o l m k)
  heard_last offer is h (Ok told) may = tt
  heard_last offer is h (Err f) may = may_last h may (offered_says o k offer (record { names = o.names; here = here }) base.monitor.circuits l m h is may.0) f

  -- with room that was made, and an end that was taken back
  pub not_heard_with : (source : TheProgram) (f : MonitorFault) (b2 : TheBoard) (n2 : TheMonitor) (answer : Result MonitorAnswer LinkReceiveFault) (link_sides : List LinkSide) (wired_ends : List WiredEnd) (arrivals : List TheQueue)
      → HearsWith (for_message (record { names = o.names; here = here }) l m source) (core_parts base.board base.monitor) (Err f) (core_parts b2 n2) → Unheard l f base.link_sides answer link_sides
      → wired_ends ≡ base.wired_ends → arrivals ≡ base.arrivals → HearsMessage o l m k answer (record base { board = b2; monitor = n2; wired_ends = wired_ends; link_sides = link_sides; arrivals = arrivals })
  not_heard_with source f b2 n2 answer link_sides wired_ends arrivals hears unheard wired_ends_are arrivals_are = by f hears unheard where
    kept : (b2 ≡ base.board) → (n2 ≡ base.monitor) → record base { board = b2; monitor = n2; wired_ends = wired_ends; link_sides = link_sides; arrivals = arrivals } ≡ record base { link_sides = link_sides }
    kept b_is n_is =
        ap (λ (b : TheBoard). record base { board = b; monitor = n2; wired_ends = wired_ends; link_sides = link_sides; arrivals = arrivals }) b_is
        ∙ ap (λ (n : TheMonitor). record base { monitor = n; wired_ends = wired_ends; link_sides = link_sides; arrivals = arrivals }) n_is
        ∙ ap (λ (ps : List WiredEnd). record base { wired_ends = ps; link_sides = link_sides; arrivals = arrivals }) wired_ends_are
        ∙ ap (λ (qs : List TheQueue). record base { link_sides = link_sides; arrivals = qs }) arrivals_are

    left : (g : MonitorFault) → Hears (record { names = o.names; here = here }) l m base.monitor (Err g) base.monitor → Unheard l g base.link_sides answer link_sides → (b2 ≡ base.board) → (n2 ≡ base.monitor)
        → HearsMessage o l m k answer (record base { board = b2; monitor = n2; wired_ends = wired_ends; link_sides = link_sides; arrivals = arrivals })
    left g h u b_is n_is = subst (λ (x : TheCore). HearsMessage o l m k answer x) (sym (kept b_is n_is)) (not_heard g base.monitor answer link_sides h u)

    by : (g : MonitorFault) → HearsWith (for_message (record { names = o.names; here = here }) l m source) (core_parts base.board base.monitor) (Err g) (core_parts b2 n2) → Unheard l g base.link_sides answer link_sides
        → HearsMessage o l m k answer (record base { board = b2; monitor = n2; wired_ends = wired_ends; link_sides = link_sides; arrivals = arrivals })
    by fault.Memory h u =
        subst (λ (r : Result MonitorAnswer LinkReceiveFault). HearsMessage o l m k r (record base { board = b2; monitor = n2; wired_ends = wired_ends; link_sides = link_sides; arrivals = arrivals })) (sym u.0)
        (kept h.0 h.1 ∙ ap (λ (ls : List LinkSide). record base { link_sides = ls }) u.1 ∙ same)
    by fault.Misrouted h u = left fault.Misrouted h.0 u h.1 h.2
    by fault.OutboxFull h u = left fault.OutboxFull h.0 u h.1 h.2
    by fault.Differs h u = left fault.Differs h.0 u h.1 h.2
    by fault.NoRoute h u = left fault.NoRoute h.0 u h.1 h.2
    by fault.UsedUp h u = left fault.UsedUp h.0 u h.1 h.2
    by fault.PlansDiffer h u = left fault.PlansDiffer h.0 u h.1 h.2

  pub all_heard : (n2 : TheMonitor) (h : MessageOutcome) (told : MonitorAnswer) (k2 : TheCore) → Hears (record { names = o.names; here = here }) l m base.monitor (Ok h) n2
      → Follows (offering o.programs (offer_for o base m) l) h (with_monitor base n2) told k2 → HearsAll o l m k told k2
  all_heard n2 h told k2 hears follows = subst (λ (x : TheCore). HearsAll o l m x told k2) same (record {
    heard = h;
    monitor = n2;
    hears = subst (λ (x : OpeningFacts). Hears (record { names = o.names; here = x }) l m base.monitor (Ok h) n2) at_base hears;
    follows = follows;
  })

  pub message_heard : (n2 : TheMonitor) (h : MessageOutcome) (told : MonitorAnswer) (k2 : TheCore) → Hears (record { names = o.names; here = here }) l m base.monitor (Ok h) n2
      → Follows (offering o.programs (offer_for o base m) l) h (with_monitor base n2) told k2 → HearsMessage o l m k (Ok told) k2
  message_heard n2 h told k2 hears follows = not_full o l m k k2 told (all_heard n2 h told k2 hears follows)

  -- the end that is made has a number in range, and a new name
  pub new_name : (h : MessageOutcome) (made : MadeServer) → ComesTo (record { names = o.names; here = here }) base.monitor.circuits l m h → server_in h ≡ Some made
      → (made.binding < 1024) × (place_of base (server_of made.binding) ≡ None)
  new_name h made comes makes =
      made_new o base m made (made_for (known_for o base m) base.monitor.circuits l m h made (subst (λ (x : OpeningFacts). ComesTo (record { names = o.names; here = x }) base.monitor.circuits l m h) at_base comes) makes)

  -- without an offer no end is made
  pub none_so : (h : MessageOutcome) (made : MadeServer) → offer_for o k m ≡ None → ComesTo (record { names = o.names; here = here }) base.monitor.circuits l m h → server_in h ≡ Some made → ⊥
  none_so h made missing comes makes =
      none_made o base l m h made (subst (λ (x : TheCore). offer_for o x m ≡ None) (sym same) missing) (subst (λ (x : OpeningFacts). ComesTo (record { names = o.names; here = x }) base.monitor.circuits l m h) at_base comes) makes

pub follows_server : (programs : List Program) (offer : Option OfferedService) (l : LinkId) (h : MessageOutcome) (made : MadeServer) (k k2 : TheCore) → server_in h ≡ Some made
    → MakesServer (offering programs offer l) made.binding made.dispatcher made.circuit k k2 → Follows (offering programs offer l) h k (Opened (server_of made.binding)) k2
follows_server programs offer l (heard.ServerMade b d c) made k k2 is h =
    let same : made ≡ (let x : MadeServer = record { binding = b; dispatcher = d; circuit = c } in x) = cc (is) in
    (ap (λ (x : MadeServer). Opened (server_of x.binding)) same, subst (λ (x : MadeServer). MakesServer (offering programs offer l) x.binding x.dispatcher x.circuit k k2) same h)
follows_server programs offer l (heard.EndOpened e c) made k k2 is h = absurd (cc (is))
follows_server programs offer l (heard.EndRefused e reason) made k k2 is h = absurd (cc (is))
follows_server programs offer l (heard.OpeningWentOn b n c) made k k2 is h = absurd (cc (is))
follows_server programs offer l (heard.OpeningFailed b reason) made k k2 is h = absurd (cc (is))
follows_server programs offer l (heard.AnswerWentOn b n c) made k k2 is h = absurd (cc (is))

-- no end was made, or this one
pub end_none : (source : TheProgram) (place : ℕ) (s : Option MadeServer) (b b2 : TheBoard) → s ≡ None → EndFor source place s b b2 → b2 ≡ b
end_none source place s b b2 is h = let g : EndFor source place None b b2 = subst (λ (x : Option MadeServer). EndFor source place x b b2) is h in g

pub end_some : (source : TheProgram) (place : ℕ) (s : Option MadeServer) (made : MadeServer) (b b2 : TheBoard) → s ≡ Some made → EndFor source place s b b2
    → (program : Program) × (program_of program ≡ source) × Adds b made.dispatcher (fresh program (Some made.circuit.0)) Queue (Ok place) b2
end_some source place s made b b2 is h = subst (λ (x : Option MadeServer). EndFor source place x b b2) is h

-- ---- the message of a fragment

pub frag_heard : (o : Offers) (l : LinkId) (frag : Frag) (m : MonitorMessage) (k base : TheCore) → base ≡ k → (k2 : TheCore) (answer : Result MonitorAnswer LinkReceiveFault) (field told : MonitorAnswer) → answer ≡ Ok field → field ≡ told
    → Says frag m → HearsMessage o l m base answer k2 → HearsFrag o l frag k (Ok told) k2
frag_heard o l frag m k base same k2 answer field told is told_is says h =
    let at_k = subst (λ (x : TheCore). HearsMessage o l m x answer k2) same h in
    (m, says, subst (λ (r : Result MonitorAnswer LinkReceiveFault). HearsMessage o l m k r k2) (is ∙ ap (λ (x : MonitorAnswer). let r : Result MonitorAnswer LinkReceiveFault = Ok x in r) told_is) at_k)

pub frag_not_heard : (o : Offers) (l : LinkId) (frag : Frag) (m : MonitorMessage) (k base : TheCore) → base ≡ k → (k2 : TheCore) (f : LinkReceiveFault) → Says frag m → HearsMessage o l m base (Err f) k2
    → HearsFrag o l frag k (Err f) k2
frag_not_heard o l frag m k base same k2 f says h = by f (subst (λ (x : TheCore). HearsMessage o l m x (Err f) k2) same h) where
  by : (g : LinkReceiveFault) → HearsMessage o l m k (Err g) k2 → HearsFrag o l frag k (Err g) k2
  by link.Marked h = absurd h
  by link.Failed h = absurd h
  by link.Misrouted h = (m, says, h)
  by (link.Wire fault) h = absurd h
  by link.Memory h = h

pub frag_last : (o : Offers) (l : LinkId) (frag : Frag) (m : MonitorMessage) (k base : TheCore) → base ≡ k → (f : LinkReceiveFault) → Says frag m → HearsLast o l m base f → HearsFragLast o l frag k f
frag_last o l frag m k base same f told h = by f (subst (λ (x : TheCore). HearsLast o l m x f) same h) where
  by : (g : LinkReceiveFault) → HearsLast o l m k g → HearsFragLast o l frag k g
  by link.Marked h = tt
  by link.Failed h = tt
  by link.Misrouted h = tt
  by (link.Wire fault) h = tt
  by link.Memory h = (m, told, h)

-- a fragment that says no message
pub frag_refused : (o : Offers) (l : LinkId) (frag : Frag) (k k2 : TheCore) (fault : WireFault) → Refuses frag fault → k2 ≡ with_failed k l.0 → HearsFrag o l frag k (Err (link.Wire fault)) k2
frag_refused o l frag k k2 wire.NotFirst r is = (r, is)
frag_refused o l frag k k2 wire.FirstInside r is = (r, is)
frag_refused o l frag k k2 wire.UnknownMessage r is = (r, is)
frag_refused o l frag k k2 wire.NotZero r is = (r, is)
frag_refused o l frag k k2 wire.OutOfType r is = (r, is)
frag_refused o l frag k k2 wire.TooLong r is = (r, is)
frag_refused o l frag k k2 wire.Memory r is = absurd r
