-- What passed through a core in a log.
use Rattle.std.proofs.Common.{◌≡◌, refl, sym, ap, ◌∙◌, subst, ℕ, List, [], ◌∷◌, ◌++◌, map, slice_get, Some}
use Rattle.std.proofs.lemmas.List.{map-append, append_assoc}
use Rattle.fl_base.specs.declared.fragment.Frag.{Frag}
use Rattle.fl_base.specs.declared.identity.EndId.{EndId}
use Rattle.fl_base.specs.Control.{bare}
use Rattle.fl_endpoint.specs.View.{TheEnd}
use Rattle.fl_endpoint.specs.Laws.{OnAnotherCircuit}
use Rattle.fl_core.specs.BoardView.{TheEndAtChannel}
use Rattle.fl_hop.specs.declared.entry.HopTarget.TheVariants.{Link}
use Rattle.fl_hop.specs.Stretch.{TableStep, taken_by, put_by, taken_from, put_on}
use Rattle.fl_hop.proofs.Laws.{stood_finish, carried_on}
use Rattle.fl_core.specs.declared.wiring.WiredEnd.{WiredEnd}
use Rattle.fl_core.specs.declared.wiring.EndWiring.TheVariants.{Queues, Ring}
use Rattle.fl_core.specs.View.{place_of, side_of_link}
use Rattle.fl_core.specs.Sound.{IsCore}
use Rattle.fl_core.specs.declared.core_job.CoreJob.{CoreJob}
use Rattle.fl_core_run.specs.Run.{SideRelations, TheRun}
use Rattle.fl_core_run.specs.LogEntries.{LogEntry}
use Rattle.fl_core_run_laws.specs.Logs.{Goes}
use Rattle.fl_core_run_laws.specs.Carried.{EndGoes, traffic}
use Rattle.fl_core_run_laws.specs.Led.{stretch}
use Rattle.fl_core_run_laws.specs.Flows.{EndCarries, IsApart, SideCarries, Flows}
use Rattle.fl_core_run_laws.proofs.Seating.{sits_first}
use Rattle.fl_core_run_laws.proofs.Carrying.{IsHere, acted_put, acted_took, of_end, log_put, log_took, log_goes}
use Rattle.fl_core_run_laws.proofs.Bearing.{ring_put, log_ring_put, log_ring_took, log_bears}
use Rattle.fl_core_run_laws.proofs.Laning.{event_steps, links_put, links_took}
use Rattle.fl_core_run_laws.proofs.RingEnds.{rings_put, rings_took}
use Rattle.fl_core_run_laws.proofs.QueueEnds.{log_queue_put, log_queue_took, log_queue_bears, queues_put, queues_took}
use Rattle.fl_core_run_laws.proofs.Newcomers.{made_carries}
use Rattle.fl_core_run_laws.proofs.Apart.{side_after, stays_apart}
use Rattle.fl_core_run_laws.proofs.Stepping.{grows, log_steps, end_stays}
use Rattle.fl_core_run_laws.proofs.CircuitLogs.{circuit_goes, come_bare}
use Rattle.fl_core_run_laws.proofs.CircuitsMade.{circuit_made}
use Rattle.fl_core_run_laws.proofs.NumberedLogs.{log_led, log_went, by_number}

module _ {S : Type 0} (w : SideRelations S) (jobs : List CoreJob) where
  end_carries : (s t : TheRun S) (log : List LogEntry) (name : EndId) (e : ℕ) (seat : TheEndAtChannel) → IsCore s.core → (h : Goes w jobs s log t)
      → place_of s.core name ≡ Some e → slice_get s.core.board.seats e ≡ Some seat
      → EndCarries name log (record { put = log_put w jobs name log s t h; took = log_took w jobs name log s t h }) seat.end t.core.board.seats e
  end_carries s t log name e seat core h at there =
      let here : IsHere name e seat.end s.core = record {
        has = record { seat = seat; seat_is = there; end_is = refl };
        sits = sits_first s.core name e core at;
      } in
      let after = log_goes w jobs name e log s t seat.end here h in
      record {
        after = after.has.seat;
        after_is = after.has.seat_is;
        goes = subst (λ (y : TheEnd). EndGoes (traffic name seat.end.rules log (log_put w jobs name log s t h) (log_took w jobs name log s t h)) seat.end y) (sym after.has.end_is) after.goes;
        rules = ap (λ (y : TheEnd). y.rules) after.has.end_is ∙ after.rules_are;
      }

-- ---- the core, from event to event

module _ {S : Type 0} (w : SideRelations S) (jobs : List CoreJob) where
  put_joins : (l : ℕ) (xs ys : List TableStep) → put_on l (xs ++ ys) ≡ put_on l xs ++ put_on l ys
  put_joins l [] ys = refl
  put_joins l (x ∷ xs) ys = ap (λ (fs : List Frag). put_by l x.circuit_event ++ fs) (put_joins l xs ys) ∙ sym (append_assoc (put_by l x.circuit_event) (put_on l xs) (put_on l ys))

  took_joins : (l : ℕ) (xs ys : List TableStep) → taken_from l (xs ++ ys) ≡ taken_from l xs ++ taken_from l ys
  took_joins l [] ys = refl
  took_joins l (x ∷ xs) ys = ap (λ (fs : List Frag). taken_by l x.circuit_event ++ fs) (took_joins l xs ys) ∙ sym (append_assoc (taken_by l x.circuit_event) (taken_from l xs) (taken_from l ys))

  -- ---- links

  link_put : (log : List LogEntry) (s t : TheRun S) (h : Goes w jobs s log t) → IsApart s.core → (l i : ℕ) → side_of_link s.core.link_sides l ≡ Some i
      → map bare (log_ring_put w jobs log s t h i) ≡ put_on l (log_steps w jobs log s t h)
  link_put [] s t h apart_is l i link_side = refl
  link_put (log_entry ∷ log) s t h apart_is l i link_side =
      let grown = grows w jobs log_entry s h.1.0 h.0 h.1.1 h.1.2 in
      map-append bare (ring_put w log_entry s h.1.0 h.1.1 i) (log_ring_put w jobs log h.0 t h.3 i)
      ∙ ap (λ (xs : List Frag). xs ++ map bare (log_ring_put w jobs log h.0 t h.3 i)) (links_put w jobs s h.1.0 apart_is l i link_side log_entry h.2 h.1.1)
      ∙ ap (λ (xs : List Frag). put_on l (event_steps w jobs log_entry s h.1.0 h.2 h.1.1) ++ xs)
      (link_put log h.0 t h.3 (stays_apart s.core h.0.core grown apart_is) l i (side_after s.core.link_sides h.0.core.link_sides l i grown.link_sides link_side))
      ∙ sym (put_joins l (event_steps w jobs log_entry s h.1.0 h.2 h.1.1) (log_steps w jobs log h.0 t h.3))

  link_took : (log : List LogEntry) (s t : TheRun S) (h : Goes w jobs s log t) → IsApart s.core → (l i : ℕ) → side_of_link s.core.link_sides l ≡ Some i
      → log_ring_took w jobs log s t h i ≡ taken_from l (log_steps w jobs log s t h)
  link_took [] s t h apart_is l i link_side = refl
  link_took (log_entry ∷ log) s t h apart_is l i link_side =
      let grown = grows w jobs log_entry s h.1.0 h.0 h.1.1 h.1.2 in
      ap (λ (xs : List Frag). xs ++ log_ring_took w jobs log h.0 t h.3 i) (links_took w jobs s h.1.0 apart_is l i link_side log_entry h.2 h.1.1)
      ∙ ap (λ (xs : List Frag). taken_from l (event_steps w jobs log_entry s h.1.0 h.2 h.1.1) ++ xs)
      (link_took log h.0 t h.3 (stays_apart s.core h.0.core grown apart_is) l i (side_after s.core.link_sides h.0.core.link_sides l i grown.link_sides link_side))
      ∙ sym (took_joins l (event_steps w jobs log_entry s h.1.0 h.2 h.1.1) (log_steps w jobs log h.0 t h.3))

  -- ---- rings

  ring_puts : (log : List LogEntry) (s t : TheRun S) (h : Goes w jobs s log t) → IsApart s.core → (name : EndId) (e i : ℕ) (p : WiredEnd) → place_of s.core name ≡ Some e → slice_get s.core.wired_ends e ≡ Some p
      → p.wiring ≡ Ring i → (log_ring_put w jobs log s t h i ≡ log_put w jobs name log s t h) × (log_ring_took w jobs log s t h i ≡ log_took w jobs name log s t h)
  ring_puts [] s t h apart_is name e i p at there ring = (refl, refl)
  ring_puts (log_entry ∷ log) s t h apart_is name e i p at there ring =
      let grown = grows w jobs log_entry s h.1.0 h.0 h.1.1 h.1.2 in
      let more = ring_puts log h.0 t h.3 (stays_apart s.core h.0.core grown apart_is) name e i p (end_stays w jobs log_entry s h.0 name e h.1 h.2 at) (grown.wired_ends.0 e p there) ring in (
        ap (λ (xs : List Frag). xs ++ log_ring_put w jobs log h.0 t h.3 i) (rings_put w jobs s h.1.0 apart_is h.1.3.core name e i p at there ring log_entry h.2 h.1.1)
            ∙ ap (λ (xs : List Frag). of_end name log_entry (acted_put w log_entry s h.1.0 h.1.1) ++ xs) more.0,
        ap (λ (xs : List Frag). xs ++ log_ring_took w jobs log h.0 t h.3 i) (rings_took w jobs s h.1.0 apart_is h.1.3.core name e i p at there ring log_entry h.2 h.1.1)
            ∙ ap (λ (xs : List Frag). of_end name log_entry (acted_took w log_entry s h.1.0 h.1.1) ++ xs) more.1,
      )

  -- ---- local queues

  queue_puts : (log : List LogEntry) (s t : TheRun S) (h : Goes w jobs s log t) → IsApart s.core → (name : EndId) (e i a : ℕ) (p : WiredEnd) → place_of s.core name ≡ Some e → slice_get s.core.wired_ends e ≡ Some p
      → p.wiring ≡ Queues i a → log_queue_put w jobs log s t h i ≡ log_put w jobs name log s t h
  queue_puts [] s t h apart_is name e i a p at there wiring = refl
  queue_puts (log_entry ∷ log) s t h apart_is name e i a p at there wiring =
      let grown = grows w jobs log_entry s h.1.0 h.0 h.1.1 h.1.2 in
      let more = queue_puts log h.0 t h.3 (stays_apart s.core h.0.core grown apart_is) name e i a p (end_stays w jobs log_entry s h.0 name e h.1 h.2 at) (grown.wired_ends.0 e p there) wiring in
      ap (λ (xs : List Frag). xs ++ log_queue_put w jobs log h.0 t h.3 i) (queues_put w jobs s h.1.0 apart_is h.1.3.core name e p at there i a wiring log_entry h.2 h.1.1)
      ∙ ap (λ (xs : List Frag). of_end name log_entry (acted_put w log_entry s h.1.0 h.1.1) ++ xs) more

  queue_takes : (log : List LogEntry) (s t : TheRun S) (h : Goes w jobs s log t) → IsApart s.core → (name : EndId) (e i a : ℕ) (p : WiredEnd) → place_of s.core name ≡ Some e → slice_get s.core.wired_ends e ≡ Some p
      → p.wiring ≡ Queues a i → log_queue_took w jobs log s t h i ≡ log_took w jobs name log s t h
  queue_takes [] s t h apart_is name e i a p at there wiring = refl
  queue_takes (log_entry ∷ log) s t h apart_is name e i a p at there wiring =
      let grown = grows w jobs log_entry s h.1.0 h.0 h.1.1 h.1.2 in
      let more = queue_takes log h.0 t h.3 (stays_apart s.core h.0.core grown apart_is) name e i a p (end_stays w jobs log_entry s h.0 name e h.1 h.2 at) (grown.wired_ends.0 e p there) wiring in
      ap (λ (xs : List Frag). xs ++ log_queue_took w jobs log h.0 t h.3 i) (queues_took w jobs s h.1.0 apart_is h.1.3.core name e p at there i a wiring log_entry h.2 h.1.1)
      ∙ ap (λ (xs : List Frag). of_end name log_entry (acted_took w log_entry s h.1.0 h.1.1) ++ xs) more

pub flows : {S : Type 0} (w : SideRelations S) → OnAnotherCircuit → (jobs : List CoreJob) (s t : TheRun S) (log : List LogEntry) → IsCore s.core → IsApart s.core → Goes w jobs s log t → Flows w s t log
flows {S} w on jobs s t log core apart_is h = record {
  steps = log_steps w jobs log s t h;
  went = λ led. log_went w jobs on log s t h led;
  led = λ led. log_led w jobs log s t h led;
  passes = λ led table l m c n binding leads.
      let steps = log_steps w jobs log s t h in
      carried_on (stretch s.core steps t.core) l m c n binding (stood_finish (stretch s.core steps t.core) l.0 c.0 binding (Link m n) (log_went w jobs on log s t h led) (table, leads));
  put = λ name. log_put w jobs name log s t h;
  took = λ name. log_took w jobs name log s t h;
  links = λ l n p link_side there.
      side n p (put_on l (log_steps w jobs log s t h)) (taken_from l (log_steps w jobs log s t h)) there (link_put w jobs log s t h apart_is l n link_side) (link_took w jobs log s t h apart_is l n link_side);
  rings = λ name e n wired_end p at stands ring there.
      let both = ring_puts w jobs log s t h apart_is name e n wired_end at stands ring in
      side n p (map bare (log_put w jobs name log s t h)) (log_took w jobs name log s t h) there (ap (map bare) both.0) both.1;
  queues = λ name other d e n a b x y p at stands puts on other_stands takes there.
      let (q, after, c) = log_queue_bears w jobs log s t h n p there in
      record {
        after = q;
        after_is = after;
        looks = c.looks;
        led = c.led;
        put_is = ap (map bare) (c.put_is ∙ queue_puts w jobs log s t h apart_is name d n a x at stands puts);
        took_is = c.took_is ∙ queue_takes w jobs log s t h apart_is other e n b y on other_stands takes;
      };
  circuits = λ name e a l wired_end p at there wiring stands.
      let both = circuit_goes w jobs log s t h name e a l wired_end at there wiring in
      let (q, after, c) = both.0 p stands in
      record {
        arrivals = record {
          after = q;
          after_is = after;
          looks = c.looks;
          led = c.led;
          put_is = ap (map bare) c.put_is ∙ come_bare name (log_steps w jobs log s t h);
          took_is = c.took_is;
        };
        written = both.1;
      };
  circuits_made = λ name e a l wired_end absent at there wiring.
      let made = circuit_made w jobs name log s t h absent e a l wired_end at there wiring in
      record {
        arrivals = record {
          after = made.after;
          after_is = made.after_is;
          looks = made.carries.looks;
          led = made.carries.led;
          put_is = ap (map bare) made.carries.put_is ∙ come_bare name (log_steps w jobs log s t h);
          took_is = made.carries.took_is;
        };
        written = made.written;
      };
  numbers = λ led table name e a c l wired_end seat at there wiring sits bound. by_number w jobs on log s t h core led table name e a c l wired_end seat at there wiring sits bound;
  ends = λ name e seat at there. end_carries w jobs s t log name e seat core h at there;
  made = λ name e absent at. made_carries w jobs name log s t e h absent at;
} where
  side : (n : ℕ) (p : S) (put took : List Frag) → slice_get s.rings n ≡ Some p → map bare (log_ring_put w jobs log s t h n) ≡ put → log_ring_took w jobs log s t h n ≡ took
      → SideCarries w.puts w.takes (record { put = put; took = took }) p t.rings n
  side n p put took there puts takes =
      let (q, after, c) = log_bears w jobs log s t h n p there in
      record {
        after = q;
        after_is = after;
        looks = c.looks;
        led = c.led;
        put_is = ap (map bare) c.put_is ∙ puts;
        took_is = c.took_is ∙ takes;
      }
