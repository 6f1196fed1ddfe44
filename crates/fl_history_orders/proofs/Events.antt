-- A core's log is events of its steps.
use Rattle.std.proofs.Common.{◌≡◌, List, [], ◌∷◌, ◌++◌, map, ap, subst, ◌∙◌, sym, append_assoc, append-nil}
use Rattle.atomic_table.specs.Seated.{TableId}
use Rattle.fl_core.specs.declared.core_job.CoreJob.{CoreJob}
use Rattle.fl_history_rings.specs.declared.board.Entry.{Entry}
use Rattle.fl_history_rings.specs.declared.board.SideEnd.{SideEnd}
use Rattle.fl_history_events.specs.Events.{IsEventAfter, joined}
use Rattle.fl_history_events.proofs.Cutting.{cons_none, cons_same}
use Rattle.fl_history_entries.specs.Entries.{DidAnEvent}
use Rattle.fl_history_entries.proofs.Growing.{cancel}
use Rattle.fl_history_entries.proofs.Happening.{entries_are_events}
use Rattle.fl_history_orders.specs.Orders.{CoreMoment, HoldsSides, LoggedEvent, IsNext, LogGoes}

abbrev pub steps_in : List LoggedEvent → List (List Entry)
steps_in events = map (λ (e : LoggedEvent). e.steps) events

none_split : (before behind : List (List Entry)) (steps : List Entry) → (let none : List (List Entry) = [] in none ≡ before ++ steps ∷ behind) → ⊥
none_split [] behind steps is = cons_none steps behind (sym is)
none_split (b ∷ before) behind steps is = cons_none b (before ++ steps ∷ behind) (sym is)

module _ (table : TableId) (ends : List SideEnd) (jobs : List CoreJob) where
  -- what the whole log did
  pub all_did : (x : CoreMoment) (events : List LoggedEvent) (y : CoreMoment) → LogGoes table ends jobs x events y → y.core.steps ≡ x.core.steps ++ joined (steps_in events)
  all_did x [] y goes = ap (λ (z : CoreMoment). z.core.steps) goes ∙ sym (append-nil x.core.steps)
  all_did x (e ∷ events) y goes =
      all_did goes.0 events y goes.2 ∙ ap (λ (l : List Entry). l ++ joined (steps_in events)) goes.1.did
      ∙ append_assoc x.core.steps e.steps (joined (steps_in events))

  pub next_is_event : (x : CoreMoment) (e : LoggedEvent) (m : CoreMoment) → HoldsSides table ends x → IsNext table ends jobs x e m → IsEventAfter x.core.steps e.steps
  next_is_event x e m holds next =
      let did : DidAnEvent x.core m.core =
      entries_are_events x.run m.run e.log_entry x.core m.core holds.sides next.holds.sides next.happens next.may in
      subst (λ (l : List Entry). IsEventAfter x.core.steps l) (cancel x.core.steps did.steps e.steps (sym did.did ∙ next.did)) did.is_event

  pub log_events : (x : CoreMoment) (events : List LoggedEvent) (y : CoreMoment) → HoldsSides table ends x → LogGoes table ends jobs x events y
      → (before behind : List (List Entry)) (steps : List Entry) → steps_in events ≡ before ++ steps ∷ behind → IsEventAfter (x.core.steps ++ joined before) steps
  log_events x [] y holds goes before behind steps is = absurd (none_split before behind steps is)
  log_events x (e ∷ events) y holds goes [] behind steps is =
      let parts = cons_same e.steps steps (steps_in events) behind is in
      subst (λ (l : List Entry). IsEventAfter l steps) (sym (append-nil x.core.steps))
      (subst (λ (l : List Entry). IsEventAfter x.core.steps l) parts.0 (next_is_event x e goes.0 holds goes.1))
  log_events x (e ∷ events) y holds goes (b ∷ before) behind steps is =
      let parts = cons_same e.steps b (steps_in events) (before ++ steps ∷ behind) is in
      let rest = log_events goes.0 events y goes.1.holds goes.2 before behind steps parts.1 in
      subst (λ (l : List Entry). IsEventAfter l steps)
      (ap (λ (l : List Entry). l ++ joined before) goes.1.did
      ∙ append_assoc x.core.steps e.steps (joined before)
      ∙ ap (λ (l : List Entry). x.core.steps ++ (l ++ joined before)) parts.0)
      rest
