-- What the events that tell of no call leave of an end: whatever is read off its calls stays alike.
use Rattle.std.proofs.Common.{◌≡◌, refl, ◌∙◌, ℕ, Option, Some, None}
use Rattle.fl_base.specs.declared.identity.EndId.{EndId}
use Rattle.fl_base.specs.declared.identity.Side.{Side}
use Rattle.fl_base.specs.declared.identity.Side.TheVariants.{Client, Server}
use Rattle.fl_model.specs.Events.{DispatcherId}
use Rattle.fl_model.specs.Rings.{Label, next_of, says, acknowledges, RingEnd}
use Rattle.fl_model.specs.Ends.{Queue, End, unbound_end, joined_by}
use Rattle.fl_model.specs.Waits.{Dispatcher}
use Rattle.fl_model.specs.Monitors.{Heard, no_outbox, misrouted, opening_went_on, server_made, opening_failed, answer_went_on, end_opened, end_refused}
use Rattle.fl_model.specs.State.{Back, Binding, Route, State, end_of, end_in, dispatcher_of, change_end, change_channel, change_route, seats, binds_end, delivers}
use Rattle.fl_model.specs.Binding.{BindByNames, end_id, with_new_binding, binds_both}
use Rattle.fl_model.specs.Taking.{Chosen, finds}
use Rattle.fl_model.specs.Forwarding.{follows, takes_said}
use Rattle.fl_model_laws.proofs.Cases.{by_given}
use Rattle.fl_model_laws.proofs.EndsStep.{queue_out}
use Rattle.fl_model_laws.proofs.Ends.{end_at, end_alike, changed_alike, pushed_alike}

-- what is read off an end: its calls tell it, and a fresh end has no more than one that isn't there
pub record ReadsCalls {Y : Type 0} (G : Option End → Y) : Type 0 where
  pub by_out : (x y : End) → y.out ≡ x.out → G (Some y) ≡ G (Some x)
  pub fresh : (messages stations : ℕ) (q : Option Queue) → G (Some (unbound_end messages stations q)) ≡ G None

module _ {Y : Type 0} (G : Option End → Y) (K : ReadsCalls G) (e : EndId) where
  abbrev Alike : State → State → Type 0
  Alike s t = G (end_of t e) ≡ G (end_of s e)

  -- whatever leaves an end's calls as they are
  pub kept_alike : (f : EndId) (g : End → End) (s : State) → ((x : End) → (g x).out ≡ x.out) → G (end_of (change_end f g s) e) ≡ G (end_of s e)
  kept_alike f g s k = end_alike G e f g s (λ x. K.by_out x (g x) (k x))

  pub channel_alike : (f : EndId) (g : ℕ → End → Dispatcher → Dispatcher) (s : State) → G (end_of (change_channel f g s) e) ≡ G (end_of s e)
  channel_alike f g s = by_given (Alike s) (end_of s f) _ _ refl (λ x q. by_given (Alike s) x.seat _ _ refl (λ seat r. refl))

  pub seat_alike : (d : DispatcherId) (f : EndId) (s : State) → G (end_of (seats d f s) e) ≡ G (end_of s e)
  seat_alike d f s = by_given (Alike s) (dispatcher_of s d) _ _ refl (λ x q. kept_alike f _ s (λ y. refl))

  pub bound_alike : (f : EndId) (circuit : ℕ) (s : State) → G (end_of (binds_end f circuit s) e) ≡ G (end_of s e)
  bound_alike f circuit s = channel_alike f _ _ ∙ kept_alike f _ s (λ y. refl)

  pub both_alike : (n : ℕ) (w : BindByNames) (s : State) → G (end_of (binds_both n w s) e) ≡ G (end_of s e)
  both_alike n w s =
      bound_alike (end_id n Server) 0 _ ∙ bound_alike (end_id n Client) 0 _
      ∙ seat_alike w.service.dispatcher (end_id n Server) _ ∙ seat_alike w.client (end_id n Client) s

  pub delivered_alike : (l : Label) (f : EndId) (s : State) → G (end_of (delivers l f s) e) ≡ G (end_of s e)
  delivered_alike l f s = channel_alike f _ _ ∙ kept_alike f _ s (λ x. queue_out x (joined_by l))

  new_side : (side : Side) (w : BindByNames) (back : Back) (stations : ℕ) (q : Option Queue)
      → G (Some (end_in side (record {
        interface = w.interface;
        back = back;
        client = unbound_end w.messages stations q;
        server = unbound_end w.messages stations q;
      }))) ≡ G None
  new_side Client w back stations q = K.fresh w.messages stations q
  new_side Server w back stations q = K.fresh w.messages stations q

  pub new_alike : (w : BindByNames) (back : Back) (stations : ℕ) (q : Option Queue) (s : State) → G (end_of (with_new_binding w back stations q s) e) ≡ G (end_of s e)
  new_alike w back stations q s =
      pushed_alike (λ (o : Option Binding). G (end_at e.side o)) s.bindings e.binding _ (new_side e.side w back stations q)

  route_side : (side : Side) (f : Route → Route) (b : Binding) (back : Back) → G (Some (end_in side (record b { back = back }))) ≡ G (Some (end_in side b))
  route_side Client f b back = refl
  route_side Server f b back = refl

  pub route_alike : (n : ℕ) (f : Route → Route) (s : State) → G (end_of (change_route n f s) e) ≡ G (end_of s e)
  route_alike n f s = changed_alike (λ (o : Option Binding). G (end_at e.side o)) s.bindings e.binding n _ (λ b. route_side e.side f b _)

  pub follows_alike : (x : Heard) (s : State) → G (end_of (follows x s).state e) ≡ G (end_of s e)
  follows_alike no_outbox s = refl
  follows_alike misrouted s = refl
  follows_alike (opening_went_on n c) s = route_alike n _ s
  follows_alike (server_made n d c) s =
      bound_alike (end_id n Server) c _ ∙ seat_alike d (end_id n Server) _ ∙ route_alike n _ s
  follows_alike (opening_failed n fault) s = route_alike n _ s
  follows_alike (answer_went_on n) s = route_alike n _ s
  follows_alike (end_opened f c) s = bound_alike f c _ ∙ route_alike f.binding _ s
  follows_alike (end_refused f fault) s = route_alike f.binding _ s

  pub said_alike : (at : RingEnd) (x : Heard) (s : State) → G (end_of (takes_said at x s) e) ≡ G (end_of s e)
  said_alike at no_outbox s = refl
  said_alike at misrouted s = refl
  said_alike at (opening_went_on n c) s = refl
  said_alike at (server_made n d c) s = refl
  said_alike at (opening_failed n fault) s = refl
  said_alike at (answer_went_on n) s = refl
  said_alike at (end_opened f c) s = refl
  said_alike at (end_refused f fault) s = refl

  pub found_alike : (t : Chosen) (at : RingEnd) (l : Label) (s : State) → G (end_of (finds t at l s).state e) ≡ G (end_of s e)
  found_alike t at (next_of f k) s = refl
  found_alike t at (says m) s = refl
  found_alike t at acknowledges s = refl
