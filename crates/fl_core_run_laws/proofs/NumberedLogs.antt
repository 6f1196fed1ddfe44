-- A log, as the core's table leads; and under which number an end of a circuit takes part in it.
use Rattle.std.proofs.Common.{◌≡◌, refl, sym, ap, ◌∙◌, subst, ℕ, ◌⊎◌, inl, inr, List, [], ◌∷◌, slice_get}
use Rattle.std.proofs.Common.{Option, Some, None, true, false, Ok, Err}
use Rattle.fl_base.specs.declared.fragment.Frag.{Frag}
use Rattle.fl_base.specs.declared.identity.EndId.{EndId}
use Rattle.fl_base.specs.declared.identity.LinkId.{LinkId}
use Rattle.fl_base.specs.declared.identity.Circuit.{Circuit as Number}
use Rattle.fl_base.specs.Given.{given}
use Rattle.fl_hop.specs.declared.entry.HopTarget.TheVariants.{Link, End}
use Rattle.fl_hop.specs.declared.forward.ForwardOutcome.TheVariants.{Moved, Full, Spent}
use Rattle.fl_hop.specs.Joined.{Sound}
use Rattle.fl_hop.specs.Later.{Later, way_at}
use Rattle.fl_hop.specs.OfCircuit.{of_circuit}
use Rattle.fl_hop.specs.Stretch.{TableStep, CircuitEvent as HopEvent, passed as hop_passed, wrote as hop_wrote, said as hop_said, heard as hop_heard, goes_through, same_end, OnlyFrom, OnlyOnto, taken_from, put_on, come_to, written_by}
use Rattle.fl_hop.specs.Table.{TheCircuits}
use Rattle.fl_hop.proofs.Laws.{later_same, stretch_join, stood_finish, carried_in, own_alone, end_same}
use Rattle.fl_endpoint.specs.Laws.{OnAnotherCircuit}
use Rattle.fl_core.proofs.BoardPlaces.{one_stands}
use Rattle.fl_core.specs.BoardView.{TheEndAtChannel}
use Rattle.fl_monitor.specs.Monitors.{waiting_for}
use Rattle.fl_core.specs.View.{TheCore, place_of, arrivals_of, arriving}
use Rattle.fl_core.specs.Sound.{IsCore}
use Rattle.fl_core.specs.declared.wiring.WiredEnd.{WiredEnd}
use Rattle.fl_core.specs.declared.wiring.EndWiring.TheVariants.{Circuit}
use Rattle.fl_core.specs.declared.core_job.CoreJob.{CoreJob}
use Rattle.fl_core_run.specs.Run.{SideRelations, TheRun}
use Rattle.fl_core_run.specs.LogEntries.{LogEntry, looked, passed, arrived, heard, said, told, opened, called, ruled, wrote, acked, turned, Does, Happens}
use Rattle.fl_core_run_laws.specs.Logs.{InPlace, Goes}
use Rattle.fl_core_run_laws.specs.Led.{IsLed, stretch}
use Rattle.fl_core_run_laws.proofs.Aside.{core_aside}
use Rattle.fl_core_run_laws.proofs.Carrying.{write_put}
use Rattle.fl_core_run_laws.proofs.CircuitsMade.{MadeOn, does_make, places_to, wired_ends_to}
use Rattle.fl_core_run_laws.proofs.Laning.{link_at, steps_of, steps_by, event_steps}
use Rattle.fl_core_run_laws.proofs.Leads.{does_led, does_later}
use Rattle.fl_core_run_laws.proofs.Looking.{if_heard, if_said}
use Rattle.fl_core_run_laws.proofs.Newcomers.{Absent, not_it}
use Rattle.fl_core_run_laws.proofs.OwnNumbers.{only, only_joins}
use Rattle.fl_core_run_laws.proofs.Stepping.{grows, log_steps}
use Rattle.fl_core_run_laws.proofs.Tables.{way_there, way_of, leads_at, given_at}
use Rattle.fl_core_run_laws.proofs.Wending.{event_went}

-- ---- an end that isn't there

abbrev Only : ℕ → ℕ → EndId → List TableStep → Type 0
Only l c name steps = OnlyFrom l c name steps × OnlyOnto l c name steps

module _ (t : TheCircuits) (l c : ℕ) (name : EndId) where
  -- steps of others
  others : (log_entry : Frag → HopEvent) (frags : List Frag) → ((f g : Frag) (m : ℕ) → log_entry f ≡ hop_passed m g (End name) → ⊥) → ((f g : Frag) (m : ℕ) → log_entry f ≡ hop_wrote name m g → ⊥) → Only l c name (steps_of t log_entry frags)
  others log_entry [] from onto = (tt, tt)
  others log_entry (f ∷ frags) from onto =
      let rest = others log_entry frags from onto in
      ((λ m g is. absurd (from f g m is), rest.0), (λ m g is. absurd (onto f g m is), rest.1))

  other_end : (n : EndId) → same_end n name ≡ false → n ≡ name → ⊥
  other_end n other same = let no : true ≡ false = sym (end_same name) ∙ sym (ap (λ (x : EndId). same_end x name) same) ∙ other in absurd (cc)

  others_by : (o : Option LinkId) (n : EndId) (frags : List Frag) → same_end n name ≡ false → Only l c name (steps_by t o n frags)
  others_by None n frags other = (tt, tt)
  others_by (Some m) n frags other = others (hop_wrote n m.0) frags (λ f g i is. cc) (λ f g i is. other_end n other (wrote_same n name m.0 i f g is)) where
    wrote_same : (a b : EndId) (i j : ℕ) (f g : Frag) → hop_wrote a i f ≡ hop_wrote b j g → a ≡ b
    wrote_same a b i j f g is = cc

  passed_end : (d : EndId) (i j : ℕ) (f g : Frag) → hop_passed i f (End d) ≡ hop_passed j g (End name) → d ≡ name
  passed_end d i j f g is = cc

  passed_link : (m : LinkId) (d : Number) (i j : ℕ) (f g : Frag) → hop_passed i f (Link m d) ≡ hop_passed j g (End name) → ⊥
  passed_link m d i j f g is = cc

  no_wrote : (i j : ℕ) (f g : Frag) (w : EndId) → hop_heard i f ≡ hop_wrote w j g → ⊥
  no_wrote i j f g w is = cc

module _ {S : Type 0} (w : SideRelations S) (jobs : List CoreJob) (l c : ℕ) (name : EndId) where
  none_only : (log_entry : LogEntry) (s m : TheRun S) (by : InPlace jobs s log_entry) → Absent name s.core → (h : Does w log_entry s m) → Only l c name (event_steps w jobs log_entry s m by h)
  none_only (looked n x answer) s m by absent h = (tt, tt)
  none_only (passed n k frag d Moved) s m by absent h =
      ((λ i g is. absurd (passed_link s.core.monitor.circuits l c name by.onward d by.link.0 i frag g is), tt), (λ i g is. absurd (cc), tt))
  none_only (passed n k frag d Full) s m by absent h = (tt, tt)
  none_only (passed n k frag d Spent) s m by absent h = (tt, tt)
  none_only (arrived n x frag d (Ok Moved)) s m by absent h =
      others s.core.monitor.circuits l c name (λ f. hop_passed x.0 f (End d)) (frag ∷ [])
      (λ f g i is. other_end s.core.monitor.circuits l c name d (not_there (place_of s.core d) refl h.event.at) (passed_end s.core.monitor.circuits l c name d x.0 i f g is)) (λ f g i is. cc) where
        not_there : (o : Option ℕ) → place_of s.core d ≡ o → (given o None λ f. given (arrivals_of s.core f) None λ k. Some (arriving f k)) ≡ Some (arriving h.event.end h.event.queue) → same_end d name ≡ false
        not_there None at is = absurd (cc)
        not_there (Some f) at is = not_it w jobs name s d f absent at
  none_only (arrived n x frag d (Ok Full)) s m by absent h = (tt, tt)
  none_only (arrived n x frag d (Ok Spent)) s m by absent h = (tt, tt)
  none_only (arrived n x frag d (Err fault)) s m by absent h = (tt, tt)
  none_only (heard n x frag answer) s m by absent h = others s.core.monitor.circuits l c name (hop_heard x.0) (if_heard answer frag) (λ f g i is. cc) (λ f g i is. cc)
  none_only (said n x answer) s m by absent h = others s.core.monitor.circuits l c name (hop_said x.0) (if_said answer (waiting_for s.core.monitor.outboxes x.0)) (λ f g i is. cc) (λ f g i is. cc)
  none_only (told n x answer) s m by absent h = (tt, tt)
  none_only (opened n request answer) s m by absent h = (tt, tt)
  none_only (called n call answer) s m by absent h = (tt, tt)
  none_only (ruled n msg reply answer) s m by absent h = (tt, tt)
  none_only (wrote n out answer) s m by absent h = others_by s.core.monitor.circuits l c name (link_at s.core h.0) n (write_put w h.0 out answer s m h.2) (not_it w jobs name s n h.0 absent h.1)
  none_only (acked n i answer) s m by absent h = (tt, tt)
  none_only (turned d n from answer) s m by absent h = (tt, tt)

-- ---- a log

module _ {S : Type 0} (w : SideRelations S) (jobs : List CoreJob) where
  led_after : (log_entry : LogEntry) (s t : TheRun S) → (h : Happens w log_entry s t) → InPlace jobs s log_entry → IsLed s.core → IsLed t.core
  led_after log_entry s t h by led = subst IsLed (sym (core_aside h.0 t log_entry h.2)) (does_led w jobs s h.0 h.3.core h.3.table led log_entry by h.1)

  pub log_led : (log : List LogEntry) (s t : TheRun S) (h : Goes w jobs s log t) → IsLed s.core → IsLed t.core
  log_led [] s t h led = subst (λ (x : TheRun S). IsLed x.core) (sym h) led
  log_led (log_entry ∷ log) s t h led = log_led log h.0 t h.3 (led_after log_entry s h.0 h.1 h.2 led)

  pub log_went : OnAnotherCircuit → (log : List LogEntry) (s t : TheRun S) (h : Goes w jobs s log t) → IsLed s.core → goes_through s.core.monitor.circuits (log_steps w jobs log s t h) t.core.monitor.circuits
  log_went on [] s t h led = subst (λ (x : TheRun S). Later s.core.monitor.circuits x.core.monitor.circuits) (sym h) (later_same s.core.monitor.circuits)
  log_went on (log_entry ∷ log) s t h led =
      let one : goes_through s.core.monitor.circuits (event_steps w jobs log_entry s h.1.0 h.2 h.1.1) h.0.core.monitor.circuits =
      subst (λ (k : TheCore). goes_through s.core.monitor.circuits (event_steps w jobs log_entry s h.1.0 h.2 h.1.1) k.monitor.circuits) (sym (core_aside h.1.0 h.0 log_entry h.1.2))
      (event_went w jobs on s h.1.0 h.1.3.core h.1.3.table led log_entry h.2 h.1.4 h.1.1) in
      stretch_join s.core.monitor.circuits (event_steps w jobs log_entry s h.1.0 h.2 h.1.1) h.0.core.monitor.circuits (log_steps w jobs log h.0 t h.3) t.core.monitor.circuits one
      (log_went on log h.0 t h.3 (led_after log_entry s h.0 h.1 h.2 led))

  -- what leads to an end at last led there from when the end was made
  before : (log : List LogEntry) (s t : TheRun S) (h : Goes w jobs s log t) → IsLed s.core → (l c f : ℕ) (p : WiredEnd) → slice_get s.core.wired_ends f ≡ Some p → way_at t.core.monitor.circuits l c ≡ Some (End p.name)
      → way_at s.core.monitor.circuits l c ≡ Some (End p.name)
  before [] s t h led l c f p at last = sym (ap (λ (x : TheRun S). way_at x.core.monitor.circuits l c) h) ∙ last
  before (log_entry ∷ log) s t h led l c f p at last =
      let after = before log h.0 t h.3 (led_after log_entry s h.0 h.1 h.2 led) l c f p ((grows w jobs log_entry s h.1.0 h.0 h.1.1 h.1.2).wired_ends.0 f p at) last in
      (does_later w jobs s h.1.0 h.1.3.core h.1.3.table led log_entry h.2 h.1.1).came l c f p at (sym (ap (λ (k : TheCore). way_at k.monitor.circuits l c) (core_aside h.1.0 h.0 log_entry h.1.2)) ∙ after)

  there_only : OnAnotherCircuit → (log : List LogEntry) (s t : TheRun S) (h : Goes w jobs s log t) → IsLed s.core → (l c f : ℕ) (p : WiredEnd) → slice_get s.core.wired_ends f ≡ Some p → way_at t.core.monitor.circuits l c ≡ Some (End p.name)
      → Only l c p.name (log_steps w jobs log s t h)
  there_only on [] s t h led l c f p at last = (tt, tt)
  there_only on (log_entry ∷ log) s t h led l c f p at last =
      let first = before (log_entry ∷ log) s t h led l c f p at last in
      let (hop, stands, is) = way_there s.core.monitor.circuits l c (End p.name) first in
      only p.name l c s.core.monitor.circuits (log_steps w jobs (log_entry ∷ log) s t h) t.core.monitor.circuits (log_went on (log_entry ∷ log) s t h led) (given_at s.core.monitor.circuits l c hop h.1.3.table stands) first last

  -- an end that was made has its name; and it took part under one number
  pub record UnderOne (l c : ℕ) (name : EndId) (p : WiredEnd) (t : TheRun S) (steps : List TableStep) : Type 0 where
    pub name_is : p.name ≡ name
    pub only_there : way_at t.core.monitor.circuits l c ≡ Some (End name) → Only l c name steps

  made_only : OnAnotherCircuit → (log : List LogEntry) (s t : TheRun S) (h : Goes w jobs s log t) → IsLed s.core → (name : EndId) → Absent name s.core → (l c e : ℕ) (p : WiredEnd) → place_of t.core name ≡ Some e → slice_get t.core.wired_ends e ≡ Some p
      → UnderOne l c name p t (log_steps w jobs log s t h)
  made_only on [] s t h led name absent l c e p at there = absurd (let no : Some e ≡ None = sym at ∙ ap (λ (x : TheRun S). place_of x.core name) h ∙ absent in cc)
  made_only on (log_entry ∷ log) s t h led name absent l c e p at there =
      joined (by (does_make w jobs name log_entry s h.1.0 h.1.3.core absent h.2 h.1.1) (λ still. made_only on log h.0 t h.3 (led_after log_entry s h.0 h.1 h.2 led) name still l c e p at there)) where
        same : h.0.core ≡ h.1.0.core
        same = core_aside h.1.0 h.0 log_entry h.1.2

        made : MadeOn name h.0.core → UnderOne l c name p t (log_steps w jobs log h.0 t h.3)
        made b =
            let places : Some b.place ≡ Some e = sym (places_to w jobs name log h.0 t b.place h.3 b.place_is) ∙ at in
            let place : b.place ≡ e = cc in
            let wired_ends = one_stands t.core.wired_ends b.place b.wired_end p (wired_ends_to w jobs name log h.0 t b.place b.wired_end h.3 b.wired_end_is) (subst (λ (i : ℕ). slice_get t.core.wired_ends i ≡ Some p) (sym place) there) in
            record {
              name_is = ap (λ (x : WiredEnd). x.name) (sym wired_ends) ∙ b.name_is;
              only_there = λ last. subst (λ (n : EndId). Only l c n (log_steps w jobs log h.0 t h.3)) b.name_is
                  (there_only on log h.0 t h.3 (led_after log_entry s h.0 h.1 h.2 led) l c b.place b.wired_end b.wired_end_is (last ∙ ap (λ (n : EndId). Some (End n)) (sym b.name_is)));
            }

        by : Absent name h.1.0.core ⊎ MadeOn name h.1.0.core → (Absent name h.0.core → UnderOne l c name p t (log_steps w jobs log h.0 t h.3)) → UnderOne l c name p t (log_steps w jobs log h.0 t h.3)
        by (inl still) onward = onward (ap (λ (k : TheCore). place_of k name) same ∙ still)
        by (inr b) onward = made (subst (MadeOn name) (sym same) b)

        joined : UnderOne l c name p t (log_steps w jobs log h.0 t h.3) → UnderOne l c name p t (log_steps w jobs (log_entry ∷ log) s t h)
        joined x = record {
          name_is = x.name_is;
          only_there = λ last. only_joins l c name (event_steps w jobs log_entry s h.1.0 h.2 h.1.1) (log_steps w jobs log h.0 t h.3) (none_only w jobs l c name log_entry s h.1.0 h.2 absent h.1.1) (x.only_there last);
        }

  -- so is one that was there
  stood_only : OnAnotherCircuit → (log : List LogEntry) (s t : TheRun S) (h : Goes w jobs s log t) → IsCore s.core → IsLed s.core → (name : EndId) (l c e f : ℕ) (p : WiredEnd) → place_of s.core name ≡ Some f → place_of t.core name ≡ Some e
      → slice_get t.core.wired_ends e ≡ Some p → UnderOne l c name p t (log_steps w jobs log s t h)
  stood_only on log s t h core led name l c e f p from at there =
      let placed = core.placed name f from in
      let places : Some f ≡ Some e = sym (places_to w jobs name log s t f h from) ∙ at in
      let place : f ≡ e = cc in
      let wired_ends = one_stands t.core.wired_ends f placed.wired_end p (wired_ends_to w jobs name log s t f placed.wired_end h placed.wired_end_is) (subst (λ (i : ℕ). slice_get t.core.wired_ends i ≡ Some p) (sym place) there) in
      record {
        name_is = ap (λ (x : WiredEnd). x.name) (sym wired_ends) ∙ placed.name_is;
        only_there = λ last. subst (λ (n : EndId). Only l c n (log_steps w jobs log s t h)) placed.name_is
            (there_only on log s t h led l c f placed.wired_end placed.wired_end_is (last ∙ ap (λ (n : EndId). Some (End n)) (sym placed.name_is)));
      }

  any_only : OnAnotherCircuit → (log : List LogEntry) (s t : TheRun S) (h : Goes w jobs s log t) → IsCore s.core → IsLed s.core → (name : EndId) (l c e : ℕ) (p : WiredEnd) → place_of t.core name ≡ Some e
      → slice_get t.core.wired_ends e ≡ Some p → (o : Option ℕ) → place_of s.core name ≡ o → UnderOne l c name p t (log_steps w jobs log s t h)
  any_only on log s t h core led name l c e p at there None absent = made_only on log s t h led name absent l c e p at there
  any_only on log s t h core led name l c e p at there (Some f) from = stood_only on log s t h core led name l c e f p from at there

  pub by_number : OnAnotherCircuit → (log : List LogEntry) (s t : TheRun S) (h : Goes w jobs s log t) → IsCore s.core → IsLed s.core → Sound t.core.monitor.circuits → (name : EndId) (e a c : ℕ) (l : LinkId) (p : WiredEnd) (seat : TheEndAtChannel)
      → place_of t.core name ≡ Some e → slice_get t.core.wired_ends e ≡ Some p → p.wiring ≡ Circuit l a → slice_get t.core.board.seats e ≡ Some seat → seat.end.circuit ≡ Some c
      → (come_to name (log_steps w jobs log s t h) ≡ of_circuit c (taken_from l.0 (log_steps w jobs log s t h)))
      × (of_circuit c (put_on l.0 (log_steps w jobs log s t h)) ≡ written_by name (log_steps w jobs log s t h))
  by_number on log s t h core led table name e a c l p seat at there wiring sits bound =
      let steps = log_steps w jobs log s t h in
      let number : Number = record { 0 = c } in
      let it = any_only on log s t h core led name l.0 c e p at there (place_of s.core name) refl in
      let settled = ((log_led log s t h led).ends e a l p seat there wiring sits).bound c bound in
      let way = settled.way ∙ ap End it.name_is in
      let alone = it.only_there (way_of t.core.monitor.circuits l.0 c settled.hop (End name) settled.there way) in
      let stood = stood_finish (stretch s.core steps t.core) l.0 c settled.hop.binding (End name) (log_went on log s t h led) (table, leads_at t.core.monitor.circuits l.0 c settled.hop (End name) settled.there way) in
      (carried_in (stretch s.core steps t.core) l number settled.hop.binding name stood alone.0, own_alone (stretch s.core steps t.core) l number settled.hop.binding name stood alone.1)
