-- What a set-up's refusals look at in the machine: interfaces, each core's table of links, how many ends each of its dispatchers has, services, and how many
-- bindings there are; and what the events of a set-up make of that.
use Rattle.std.proofs.Common.{◌≡◌, refl, ◌∙◌, ap, ℕ, ◌+◌, List, [], ◌∷◌, ◌++◌, length, length-append, map, slice_get, Option, Some, None, option_map}
use Rattle.std.proofs.lemmas.List.{map-append}
use Rattle.std.proofs.lemmas.Option.{slice_get-map}
use Rattle.fl_base.specs.declared.identity.EndId.{EndId}
use Rattle.fl_base.specs.declared.identity.Side.TheVariants.{Client, Server}
use Rattle.fl_base.specs.Given.{given}
use Rattle.fl_hop.specs.Table.{TheCircuits, with_link}
use Rattle.fl_model.specs.Given.{changed_at}
use Rattle.fl_model.specs.Binding.{BindByNames, end_id, binds_both}
use Rattle.fl_model.specs.Calls.{Planned}
use Rattle.fl_model.specs.Ends.{End}
use Rattle.fl_model.specs.Events.{DispatcherId}
use Rattle.fl_model.specs.Making.{linked, with_new_link, with_dispatcher}
use Rattle.fl_model.specs.Monitors.{Core, Service}
use Rattle.fl_model.specs.Rings.{first_side, second_side}
use Rattle.fl_model.specs.State.{State, dispatcher_of, end_of, change_core, change_dispatcher, change_end, seats, binds_end, with_end_in}
use Rattle.fl_model.specs.Waits.{Dispatcher, with_end, registers, waits_in}
use Rattle.fl_model_laws.proofs.Cases.{by_given}
use Rattle.fl_model_laws.proofs.Replies.{length_changed}
use Rattle.fl_model_laws.proofs.Views.{map_changed, map_kept, given_map}

pub record View : Type 0 where
  pub interfaces : List Planned
  -- by core: its table of circuits, and of each of its dispatchers how many ends there are
  pub tables : List TheCircuits
  pub ends : List (List ℕ)
  pub services : List Service
  pub bindings : ℕ

abbrev pub table_of : Core → TheCircuits
table_of k = k.circuits

abbrev pub count_of : Dispatcher → ℕ
count_of d = length d.ends

abbrev pub counts_of : Core → List ℕ
counts_of k = map count_of k.dispatchers

abbrev pub view_of : State → View
view_of s = record {
  interfaces = s.interfaces;
  tables = map table_of s.cores;
  ends = map counts_of s.cores;
  services = s.services;
  bindings = length s.bindings;
}

-- how many ends dispatcher x has, if it is there
abbrev pub ends_at : List (List ℕ) → DispatcherId → Option ℕ
ends_at es x = given (slice_get es x.core) None λ ns. slice_get ns x.place

pub ends_are : (s : State) (x : DispatcherId) → ends_at (view_of s).ends x ≡ option_map count_of (dispatcher_of s x)
ends_are s x = given_map counts_of None (λ ns. slice_get ns x.place) s.cores x.core ∙ by (slice_get s.cores x.core)
  where
    by : (o : Option Core) → given o None (λ k. slice_get (counts_of k) x.place) ≡ option_map count_of (given o None λ k. slice_get k.dispatchers x.place)
    by None = refl
    by (Some k) = slice_get-map count_of k.dispatchers x.place

-- ---- two views that are alike in all but these

alike : (v w : View) → v.interfaces ≡ w.interfaces → v.tables ≡ w.tables → v.ends ≡ w.ends → v.services ≡ w.services → v.bindings ≡ w.bindings → v ≡ w
alike v w p q r t u =
    ap (λ x. record v { interfaces = x }) p ∙ ap (λ x. record v { interfaces = w.interfaces; tables = x }) q
    ∙ ap (λ x. record v { interfaces = w.interfaces; tables = w.tables; ends = x }) r
    ∙ ap (λ x. record w { services = x; bindings = v.bindings }) t ∙ ap (λ x. record w { bindings = x }) u

-- ---- links and dispatchers

abbrev pub table_linked : ℕ → TheCircuits → TheCircuits
table_linked neighbour t = with_link t (record { 0 = neighbour })

pub link_view : (a b size : ℕ) (s : State)
    → view_of (with_new_link a b size s) ≡ record (view_of s) { tables = changed_at b (table_linked a) (changed_at a (table_linked b) (view_of s).tables) }
link_view a b size s =
    let n = length s.rings in
    let one = changed_at a (linked b n first_side) s.cores in
    alike _ _ refl
    (map_changed table_of (linked a n second_side) (table_linked a) one b (λ k q. refl)
    ∙ ap (changed_at b (table_linked a)) (map_changed table_of (linked b n first_side) (table_linked b) s.cores a (λ k q. refl)))
    (map_kept counts_of (linked a n second_side) one b (λ k q. refl) ∙ map_kept counts_of (linked b n first_side) s.cores a (λ k q. refl))
    refl refl

abbrev pub one_more : List ℕ → List ℕ
one_more ns = ns ++ 0 ∷ []

pub dispatcher_view : (core : ℕ) (s : State) → view_of (change_core core with_dispatcher s) ≡ record (view_of s) { ends = changed_at core one_more (view_of s).ends }
dispatcher_view core s =
    alike _ _ refl (map_kept table_of with_dispatcher s.cores core (λ k q. refl))
    (map_changed counts_of with_dispatcher one_more s.cores core (λ k q. map-append count_of k.dispatchers _)) refl refl

-- ---- ends

-- dispatcher x has one end more
abbrev pub seated : DispatcherId → List (List ℕ) → List (List ℕ)
seated x es = changed_at x.core (changed_at x.place (λ n. n + 1)) es

-- a change of a dispatcher
change_view : (d : DispatcherId) (f : Dispatcher → Dispatcher) (g : ℕ → ℕ) (s : State) → ((x : Dispatcher) → count_of (f x) ≡ g (count_of x))
    → view_of (change_dispatcher d f s) ≡ record (view_of s) { ends = changed_at d.core (changed_at d.place g) (view_of s).ends }
change_view d f g s h =
    let F : Core → Core = λ k. record k { dispatchers = changed_at d.place f k.dispatchers } in
    alike _ _ refl (map_kept table_of F s.cores d.core (λ k q. refl))
    (map_changed counts_of F (changed_at d.place g) s.cores d.core (λ k q. map_changed count_of f g k.dispatchers d.place (λ x r. h x))) refl refl

still_view : (d : DispatcherId) (f : Dispatcher → Dispatcher) (s : State) → ((x : Dispatcher) → count_of (f x) ≡ count_of x)
    → view_of (change_dispatcher d f s) ≡ view_of s
still_view d f s h =
    let F : Core → Core = λ k. record k { dispatchers = changed_at d.place f k.dispatchers } in
    alike _ _ refl (map_kept table_of F s.cores d.core (λ k q. refl))
    (map_kept counts_of F s.cores d.core (λ k q. map_kept count_of f k.dispatchers d.place (λ x r. h x))) refl refl

end_view : (e : EndId) (f : End → End) (s : State) → view_of (change_end e f s) ≡ view_of s
end_view e f s = alike _ _ refl refl refl refl (length_changed s.bindings e.binding (with_end_in e.side f))

binds_view : (e : EndId) (circuit : ℕ) (s : State) → view_of (binds_end e circuit s) ≡ view_of s
binds_view e circuit s =
    let t = change_end e (λ x. record x { circuit = Some circuit }) s in
    by_given (λ (u : State). view_of u ≡ view_of s) (end_of t e) t _ (end_view e _ s)
    (λ x q. by_given (λ (u : State). view_of u ≡ view_of s) x.seat t _ (end_view e _ s)
    (λ seat r. still_view seat.dispatcher (registers seat.channel (waits_in x.queue)) t (λ y. refl) ∙ end_view e _ s))

abbrev seat_on : DispatcherId → Dispatcher → End → End
seat_on d x y = record y { seat = Some (record { dispatcher = d; channel = length x.ends }) }

pub seat_view : (d : DispatcherId) (e : EndId) (s : State) (x : Dispatcher) → dispatcher_of s d ≡ Some x
    → view_of (seats d e s) ≡ record (view_of s) { ends = seated d (view_of s).ends }
seat_view d e s x q =
    ap (λ (o : Option Dispatcher). view_of (given o s λ y. change_dispatcher d (with_end e) (change_end e (seat_on d y) s))) q
    ∙ change_view d (with_end e) (λ n. n + 1) (change_end e (seat_on d x) s) (λ y. length-append y.ends (e ∷ []))
    ∙ ap (λ (v : View). record v { ends = seated d v.ends }) (end_view e (seat_on d x) s)

pub both_view : (n : ℕ) (w : BindByNames) (s : State) (x y : Dispatcher) → dispatcher_of s w.client ≡ Some x
    → dispatcher_of (seats w.client (end_id n Client) s) w.service.dispatcher ≡ Some y
    → view_of (binds_both n w s) ≡ record (view_of s) { ends = seated w.service.dispatcher (seated w.client (view_of s).ends) }
both_view n w s x y q r =
    let one = seats w.client (end_id n Client) s in
    let two = seats w.service.dispatcher (end_id n Server) one in
    binds_view (end_id n Server) 0 (binds_end (end_id n Client) 0 two) ∙ binds_view (end_id n Client) 0 two
    ∙ seat_view w.service.dispatcher (end_id n Server) one y r
    ∙ ap (λ (v : View). record v { ends = seated w.service.dispatcher v.ends }) (seat_view w.client (end_id n Client) s x q)
