-- The events of whole turns are in turn: what follows a look comes directly behind it.
use Rattle.std.proofs.Common.{◌≡◌, ◌≤◌, ◌⊎◌, inl, inr, refl, sym, ap, ◌∙◌, subst, ℕ, zero, suc, if◌then◌else◌, nat_lt}
use Rattle.std.proofs.Common.{List, [], ◌∷◌, ◌++◌, length, arith}
use Rattle.std.proofs.Common.{Option, Some, None, Bool, true, false, Result, Ok, Err}
use Rattle.std.proofs.lemmas.List.{length-set}
use Rattle.fl_base.specs.declared.fragment.Frag.{Frag}
use Rattle.fl_base.specs.declared.identity.Circuit.{Circuit}
use Rattle.fl_base.specs.declared.identity.EndId.{EndId}
use Rattle.fl_base.specs.declared.identity.LinkId.{LinkId}
use Rattle.fl_base.specs.Given.{given}
use Rattle.fl_value_data.specs.Value.{call_of}
use Rattle.fl_value_data.specs.declared.value.Call.{Call}
use Rattle.fl_core.specs.declared.answer.LinkFront.{LinkFront}
use Rattle.fl_core.specs.declared.answer.LinkFront.TheVariants as ahead
use Rattle.fl_core.specs.declared.fault.LinkReceiveFault.{LinkReceiveFault}
use Rattle.fl_core.specs.declared.core_job.CoreJob.{CoreJob}
use Rattle.fl_core.specs.declared.core_job.CoreJob.TheVariants as job
use Rattle.fl_core.specs.declared.core_job.OpenRequest.{OpenRequest}
use Rattle.fl_core.specs.View.{TheCore, place_of, side_of_link}
use Rattle.fl_core_run.specs.declared.lent.LentTakeEnd.{LentTakeEnd}
use Rattle.fl_core_run.specs.declared.lent.LentPutEnd.{LentPutEnd}
use Rattle.fl_core_run.specs.declared.lent.LentRingEnd.{LentRingEnd}
use Rattle.fl_core_run.specs.declared.plan.TurnPlan.{TurnPlan}
use Rattle.fl_core_run.specs.Run.{SideRelations, TheRun, next_job, lent_link_side, lent_post, lent_due, lent_ring_end}
use Rattle.fl_core_run.specs.LogEntries.{LogEntry, looked, passed, arrived, heard, said, told, opened, called, ruled}
use Rattle.fl_core_run.specs.LogEntries.{wrote, acked, turned, Happens}
use Rattle.fl_core_run.specs.Steps.{HandsOut, ForwardsOver, Forwards, SaysOver, Says, TellsOver, Tells, may_ask}
use Rattle.fl_core_run.specs.Steps.{OpensIf, CallsAt, ReplyRule, reply_rule, RulesAt, Tries, WritesFrom}
use Rattle.fl_core_run.specs.Steps.{Serves, AcksFrom, Acknowledges, awaits, DueTurn, due_turn, TurnsIf, TurnsAt}
use Rattle.fl_core_run.specs.Steps.{TakesTurn}
use Rattle.fl_core_run.specs.Turn.{Swept, At, OneTurn, Turned}
use Rattle.fl_core_run_laws.specs.Flows.{IsApart}
use Rattle.fl_core_run_laws.proofs.Apart.{side_before, stays_apart}
use Rattle.fl_core_run_laws.proofs.Aside.{rings_aside, core_aside}
use Rattle.fl_core_run_laws.proofs.Growing.{Grows, does_grow}
use Rattle.fl_core_run_laws.proofs.Lends.{as_many}
use Rattle.fl_core_turned.specs.TurnEvents.{Event, event, log_of, swept_events, each_events, handed_events}
use Rattle.fl_core_turned.specs.TurnEvents.{forward_events, said_events, told_events, opened_events, called_events}
use Rattle.fl_core_turned.specs.TurnEvents.{ruled_events, tried_events}
use Rattle.fl_core_turned.specs.TurnEvents.{wrote_events, served_events, acked_events, turned_if_events}
use Rattle.fl_core_turned.specs.TurnEvents.{turned_events, turn_events, events_of}
use Rattle.fl_cores_joined.specs.Steps.{IsWholeEvent, Follows}
use Rattle.fl_history_joined.specs.InTurn.{AreInTurn, LinksAreLent, TurnsAreInTurn}

-- ---- events in turn, and more of them

then_more : {S : Type 0} (o : Option LogEntry) (xs ys : List (Event S)) → AreInTurn o (log_of xs) → AreInTurn None (log_of ys) → AreInTurn o (log_of (xs ++ ys))
then_more None [] ys a b = b
then_more (Some look) [] ys a b = absurd a
then_more None (x ∷ xs) ys (inl whole) b = inl (whole.0, then_more None xs ys whole.1 b)
then_more None (x ∷ xs) ys (inr look) b = inr (then_more (Some x.log_entry) xs ys look b)
then_more (Some look) (x ∷ xs) ys a b = (a.0, then_more None xs ys a.1 b)

-- ---- a core that is lent its links' sides, of which no two links have one

record IsLentApart {S : Type 0} (s : TheRun S) : Type 0 where
  lent : LinksAreLent s
  apart : IsApart s.core

still_so : {S : Type 0} (w : SideRelations S) (log_entry : LogEntry) (s t : TheRun S) → Happens w log_entry s t → IsLentApart s → IsLentApart t
still_so w log_entry s t h so =
    let grows : Grows s.core h.0.core = does_grow w log_entry s h.0 h.1 in
    let core : t.core ≡ h.0.core = core_aside h.0 t log_entry h.2 in
    let many : length t.rings ≡ length s.rings = ap length (rings_aside h.0 t log_entry h.2) ∙ (as_many w log_entry s h.0 h.1).0 in
    record {
      lent = λ l n at.
          let before = side_before s.core.link_sides h.0.core.link_sides l n grows.link_sides (ap (λ (k : TheCore). side_of_link k.link_sides l) (sym core) ∙ at) in
          let below = so.lent l n before in
          omega (arith, below, many);
      apart = subst IsApart (sym core) (stays_apart s.core h.0.core grows so.apart);
    }

-- the side that is lent is the link's
side_lent : (o : Option ℕ) (many n : ℕ) → (given o None λ i. if nat_lt i many then Some i else None) ≡ Some n → o ≡ Some n
side_lent None many n is = absurd (cc)
side_lent (Some i) many n is = by (nat_lt i many) is
  where
    by : (b : Bool) → (if b then Some i else None) ≡ Some n → Some i ≡ Some n
    by true e = e
    by false e = absurd (cc)

-- what is to go on goes on: over the side of another link, which is another side
goes_on : {S : Type 0} (w : SideRelations S) (n to : ℕ) (l : LinkId) (frag : Frag) (c : Circuit) (s m : TheRun S) → lent_link_side s l ≡ Some n
    → Happens w (looked n l (Ok (ahead.Onward frag to c))) s m → IsLentApart s → (n ≡ to) ⊎ (length m.rings ≤ to) → ⊥
goes_on w n to l frag c s m link_side h so left_out =
    let over = h.1.event.0 in
    let mine : side_of_link s.core.link_sides l.0 ≡ Some n = side_lent (side_of_link s.core.link_sides l.0) (length s.rings) n link_side in
    elim left_out [
      | inl same ↦ over.seen.finds.5.1 (so.apart.link_sides l.0 over.link.0 n mine (over.side_is ∙ ap (λ (i : ℕ). Some i) (sym same)))
      | inr beyond ↦
          (let below = so.lent over.link.0 to over.side_is in
          let many : length m.rings ≡ length s.rings = ap (λ (x : TheRun _). length x.rings) (h.2 ∙ h.1.rest) ∙ length-set s.rings n h.1.after in
          absurd (omega (arith, below, many, beyond)))
    ]

-- ---- turns

module _ {S : Type 0} (w : SideRelations S) (jobs : List CoreJob) where
  -- these events, behind which the core is this
  record Told (xs : List (Event S)) (t : TheRun S) : Type 0 where
    in_turn : AreInTurn None (log_of xs)
    so : IsLentApart t

  joined : (xs ys : List (Event S)) (m t : TheRun S) → Told xs m → (IsLentApart m → Told ys t) → Told (xs ++ ys) t
  joined xs ys m t a b = let it = b a.so in record { in_turn = then_more None xs ys a.in_turn it.in_turn; so = it.so }

  nothing : (s t : TheRun S) → t ≡ s → IsLentApart s → Told [] t
  nothing s t same so = record { in_turn = tt; so = subst (λ (x : TheRun S). IsLentApart x) (sym same) so }

  one : (log_entry : LogEntry) (s t : TheRun S) → IsWholeEvent log_entry → Happens w log_entry s t → IsLentApart s → Told (event log_entry t ∷ []) t
  one log_entry s t whole h so = record { in_turn = inl (whole, tt); so = still_so w log_entry s t h so }

  only : (log_entry : LogEntry) (s m t : TheRun S) → IsWholeEvent log_entry → Happens w log_entry s m → t ≡ m → IsLentApart s → Told (event log_entry m ∷ []) t
  only log_entry s m t whole h same so =
      record { in_turn = inl (whole, tt); so = subst (λ (x : TheRun S). IsLentApart x) (sym same) (still_so w log_entry s m h so) }

  -- a look and what follows it
  both : (look log_entry : LogEntry) (s m t : TheRun S) → Follows look log_entry → Happens w look s m → Happens w log_entry m t → IsLentApart s
      → Told (event look m ∷ event log_entry t ∷ []) t
  both look log_entry s m t is h h2 so =
      record { in_turn = inr (is, tt); so = still_so w log_entry m t h2 (still_so w look s m h so) }

  -- ---- for a link

  handed : (n : ℕ) (l : LinkId) (found : Result LinkFront LinkReceiveFault) (s m t : TheRun S) → lent_link_side s l ≡ Some n → Happens w (looked n l found) s m
      → (h : HandsOut w n l found m t) → IsLentApart s → Told (event (looked n l found) m ∷ handed_events w jobs n l found m t h) t
  handed n l (Ok ahead.Nothing) s m t link_side look h so = only (looked n l (Ok ahead.Nothing)) s m t tt look h so
  handed n l (Ok ahead.Acknowledged) s m t link_side look h so = only (looked n l (Ok ahead.Acknowledged)) s m t tt look h so
  handed n l (Ok (ahead.Message frag)) s m t link_side look h so =
      both (looked n l (Ok (ahead.Message frag))) (heard n l frag h.0) s m t (refl, refl, refl, h.2) look h.1 so
  handed n l (Ok (ahead.Onward frag to c)) s m t link_side look (inl h) so =
      both (looked n l (Ok (ahead.Onward frag to c))) (passed n to frag c h.0) s m t (refl, refl, refl, refl) look h.1 so
  handed n l (Ok (ahead.Onward frag to c)) s m t link_side look (inr h) so = absurd (goes_on w n to l frag c s m link_side look so h.0)
  handed n l (Ok (ahead.Arrival frag e)) s m t link_side look h so =
      both (looked n l (Ok (ahead.Arrival frag e))) (arrived n l frag e h.0) s m t (refl, refl, refl, refl) look h.1 so
  handed n l (Err fault) s m t link_side look h so = only (looked n l (Err fault)) s m t tt look h so

  forward : (l : LinkId) (o : Option ℕ) (s t : TheRun S) → lent_link_side s l ≡ o → (h : ForwardsOver w l o s t) → IsLentApart s
      → Told (forward_events w jobs l o s t h) t
  forward l None s t link_side h so = nothing s t h so
  forward l (Some n) s t link_side h so = handed n l h.0 s h.1 t link_side h.2 h.3 so

  says : (l : LinkId) (o : Option ℕ) (s t : TheRun S) (h : SaysOver w l o s t) → IsLentApart s → Told (said_events w jobs l o s t h) t
  says l None s t h so = nothing s t h so
  says l (Some n) s t h so = one (said n l h.0) s t tt h.1 so

  tells : (l : LinkId) (o : Option ℕ) (s t : TheRun S) (h : TellsOver w l o s t) → IsLentApart s → Told (told_events w jobs l o s t h) t
  tells l None s t h so = nothing s t h so
  tells l (Some n) s t h so = one (told n l h.0) s t tt h.1 so

  -- ---- for an end

  opens : (b : Bool) (name : EndId) (request : OpenRequest) (s t : TheRun S) (h : OpensIf w b name request s t) → IsLentApart s
      → Told (opened_events w jobs b name request s t h) t
  opens false name request s t h so = nothing s t h so
  opens true name request s t h so = one (opened name request h.0) s t h.2 h.1 so

  calls : (name : EndId) (call : Call) (o : Option ℕ) (s t : TheRun S) (h : CallsAt w name call o s t) → IsLentApart s
      → Told (called_events w jobs name call o s t h) t
  calls name call None s t h so = nothing s t h so
  calls name call (Some place) s t h so = one (called name (call_of call) h.0) s t h.2 h.1 so

  rules : (x : ReplyRule) (o : Option ℕ) (s t : TheRun S) (h : RulesAt w x o s t) → IsLentApart s → Told (ruled_events w jobs x o s t h) t
  rules x None s t h so = nothing s t h so
  rules x (Some place) s t h so = one (ruled x.end x.message x.reply h.0) s t tt h.1 so

  tries : (name : EndId) (o : Option CoreJob) (s t : TheRun S) (h : Tries w name o s t) → IsLentApart s → Told (tried_events w jobs name o s t h) t
  tries name None s t h so = nothing s t h so
  tries name (Some (job.Open request)) s t h so = opens (may_ask s request) name request s t h so
  tries name (Some (job.Call e call)) s t h so = calls name call (place_of s.core name) s t h so
  tries name (Some (job.Reply e msg reply)) s t h so = rules (reply_rule name msg reply) (place_of s.core name) s t h so

  writes : (name : EndId) (o : Option LentPutEnd) (s t : TheRun S) (h : WritesFrom w name o s t) → IsLentApart s → Told (wrote_events w jobs name o s t h) t
  writes name None s t h so = nothing s t h so
  writes name (Some p) s t h so = one (wrote name p.outlet h.0) s t tt h.1 so

  serves : (name : EndId) (s t : TheRun S) (h : Serves w jobs name s t) → IsLentApart s → Told (served_events w jobs name s t h) t
  serves name s t h so =
      joined (tried_events w jobs name (next_job jobs s name) s h.0 h.1) (wrote_events w jobs name (lent_post h.0 name) h.0 t h.2) h.0 t
      (tries name (next_job jobs s name) s h.0 h.1 so) (λ then_so. writes name (lent_post h.0 name) h.0 t h.2 then_so)

  acks : (name : EndId) (o : Option LentRingEnd) (s t : TheRun S) (h : AcksFrom w name o s t) → IsLentApart s → Told (acked_events w jobs name o s t h) t
  acks name None s t h so = nothing s t h so
  acks name (Some b) s t h so = one (acked name b.side h.0) s t tt h.1 so

  -- ---- for a dispatcher

  turns_if : (b : Bool) (x : DueTurn) (s t : TheRun S) (h : TurnsIf w b x s t) → IsLentApart s → Told (turned_if_events w jobs b x s t h) t
  turns_if true x s t h so = nothing s t h so
  turns_if false x s t h so = one (turned x.dispatcher x.name x.due.inlet h.0) s t tt h.1 so

  turns : (d : ℕ) (o : Option LentTakeEnd) (s t : TheRun S) (h : TurnsAt w jobs d o s t) → IsLentApart s → Told (turned_events w jobs d o s t h) t
  turns d None s t h so = nothing s t h so
  turns d (Some due) s t h so = turns_if (awaits jobs s h.0) (due_turn d h.0 due) s t h.2 so

  -- ---- steps in a row, and turns

  swept : (step : ℕ → TheRun S → TheRun S → Type 0) (events : (n : ℕ) (s t : TheRun S) → step n s t → List (Event S))
      → ((n : ℕ) (s t : TheRun S) (h : step n s t) → IsLentApart s → Told (events n s t h) t) → (k : ℕ) (s t : TheRun S) (h : Swept step k s t) → IsLentApart s
      → Told (swept_events step events k s t h) t
  swept step events each zero s t h so = nothing s t h so
  swept step events each (suc k) s t h so =
      joined (swept_events step events k s h.0 h.1) (events k h.0 t h.2) h.0 t (swept step events each k s h.0 h.1 so) (λ then_so. each k h.0 t h.2 then_so)

  each_one : {X : Type 0} (xs : List X) (step : X → TheRun S → TheRun S → Type 0) (events : (x : X) (s t : TheRun S) → step x s t → List (Event S))
      → ((x : X) (s t : TheRun S) (h : step x s t) → IsLentApart s → Told (events x s t h) t) → (k : ℕ) (s t : TheRun S) (h : Swept (At xs step) k s t)
      → IsLentApart s → Told (each_events xs step events k s t h) t
  each_one xs step events each k s t h so =
      swept (At xs step) (λ n u v one. events one.0 u v one.2) (λ n u v one. each one.0 u v one.2) k s t h so

  turn : (plan : TurnPlan) (s t : TheRun S) (h : OneTurn w plan jobs s t) → IsLentApart s → Told (turn_events w jobs plan s t h) t
  turn plan s t h so =
      joined _ _ h.forwarded t
      (each_one plan.links.items (Forwards w) (λ l u v one. forward_events w jobs l (lent_link_side u l) u v one)
      (λ l u v one. forward l (lent_link_side u l) u v refl one) (length plan.links.items) s h.forwarded h.forwards so)
      (λ a. joined _ _ h.said t
      (each_one plan.links.items (Says w) (λ l u v one. said_events w jobs l (lent_link_side u l) u v one)
      (λ l u v one. says l (lent_link_side u l) u v one) (length plan.links.items) h.forwarded h.said h.says a)
      (λ b. joined _ _ h.served t
      (each_one plan.ends.items (Serves w jobs) (served_events w jobs) serves (length plan.ends.items) h.said h.served h.serves b)
      (λ c. joined _ _ h.turned t
      (swept (TakesTurn w jobs) (λ n u v one. turned_events w jobs n (lent_due u n) u v one)
      (λ n u v one. turns n (lent_due u n) u v one) plan.dispatchers h.served h.turned h.turns c)
      (λ d. joined _ _ h.told t
      (each_one plan.links.items (Tells w) (λ l u v one. told_events w jobs l (lent_link_side u l) u v one)
      (λ l u v one. tells l (lent_link_side u l) u v one) (length plan.links.items) h.turned h.told h.tells d)
      (λ e. each_one plan.ends.items (Acknowledges w) (λ name u v one. acked_events w jobs name (lent_ring_end u name) u v one)
      (λ name u v one. acks name (lent_ring_end u name) u v one) (length plan.ends.items) h.told t h.acks e)))))

  all_turns : (plan : TurnPlan) (k : ℕ) (s t : TheRun S) (h : Turned w plan jobs k s t) → IsLentApart s → Told (events_of w jobs plan k s t h) t
  all_turns plan k s t h so = swept (λ n. OneTurn w plan jobs) (λ n u v one. turn_events w jobs plan u v one) (λ n u v one. turn plan u v one) k s t h so

pub turns_are_in_turn : {S : Type 0} (w : SideRelations S) → TurnsAreInTurn w
turns_are_in_turn w plan jobs k s t turns apart lent = (all_turns w jobs plan k s t turns (record { lent = lent; apart = apart })).in_turn
