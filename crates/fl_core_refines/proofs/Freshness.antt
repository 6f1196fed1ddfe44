-- Ends and queues of a world that shows an untouched machine are new.
use Rattle.std.proofs.Common.{◌≡◌, refl, sym, ◌∙◌, ap, subst, inl, inr, ℕ, false, List, [], ◌∷◌, length, map, replicate, slice_get, Option, Some, None, IfSome}
use Rattle.std.specs.Prelude.{is_some}
use Rattle.std.specs.List.{list_any}
use Rattle.fl_base.specs.declared.fragment.Frag.{Frag}
use Rattle.fl_base.specs.declared.identity.EndId.{EndId}
use Rattle.fl_base.specs.declared.identity.Side.{Side}
use Rattle.fl_base.specs.declared.identity.Side.TheVariants.{Client, Server}
use Rattle.fl_base.specs.Ends.{other, peer}
use Rattle.fl_link.specs.Queue.{TheQueue}
use Rattle.fl_endpoint.specs.View.{TheEnd}
use Rattle.fl_core.specs.BoardView.{TheEndAtChannel}
use Rattle.fl_core.specs.View.{TheCore}
use Rattle.fl_core.specs.declared.wiring.EndWiring.TheVariants.{Queues}
use Rattle.fl_model.specs.Calls.{Planned}
use Rattle.fl_model.specs.Rings.{Label}
use Rattle.fl_model.specs.Ends.{Queue, Direction, End, fresh_direction}
use Rattle.fl_model.specs.State.{Binding, State, binding_of, interface_of, end_in}
use Rattle.fl_model.specs.Sound.{Sound}
use Rattle.fl_world_refines.specs.Fragments.{Streams, frag_of, standing, AreOf}
use Rattle.fl_world_refines.specs.Ends.{EndShows, outgoing_of, parts_of, circuit_of}
use Rattle.fl_world_refines.specs.Queues.{QueueShows}
use Rattle.fl_world_refines.specs.View.{TheWorld}
use Rattle.fl_world_refines.specs.Binding.{new_queue}
use Rattle.fl_world_refines.specs.ShowsState.{wiring_of, TakesFrom, Shows}
use Rattle.fl_world_refines.proofs.FramesBase.{same_some, end_of_binding}
use Rattle.fl_core_refines.specs.SetUpUntouched.{IsUntouched, IsNewBinding, Untouched}
use Rattle.fl_core_refines.specs.SetUpStart.{IsFresh, EndsAreFresh, QueuesAreNew}
use Rattle.fl_core_refines.proofs.Finding.{Found, found, wired}

pub side_untouched : (side : Side) (b : Binding) → IsNewBinding b → IsUntouched (end_in side b)
side_untouched Client b h = h.client
side_untouched Server b h = h.server

-- ---- ends

no_rules_are : (rules : List (Option ℕ)) → list_any is_some rules ≡ false → rules ≡ replicate (length rules) None
no_rules_are [] h = refl
no_rules_are (None ∷ rules) h = ap (λ rs. None ∷ rs) (no_rules_are rules h)
no_rules_are (Some m ∷ rules) h = absurd (cc)

-- there is a place for the rule of each message
rules_count : (s : State) (e : EndId) (b : Binding) (i : Planned) → Sound s → binding_of s e ≡ Some b → interface_of s b ≡ Some i
    → length (end_in e.side b).rules ≡ length i.interface.messages
rules_count s e b i sound there its =
    let stands = sound.ends e (end_in e.side b) (end_of_binding s e b there) in
    let same : stands.binding ≡ b = same_some (binding_of s e) stands.binding b stands.there there in
    let interface : stands.interface ≡ i
    = same_some (interface_of s b) stands.interface i (ap (interface_of s) (sym same) ∙ stands.interface_is) its in
    stands.rules ∙ ap (λ (j : Planned). length j.interface.messages) interface

fresh_end : (i : Planned) (x : End) (back : Direction) (t : TheEnd) → EndShows i x back t → IsUntouched x → back ≡ fresh_direction 2
    → length x.rules ≡ length i.interface.messages → IsFresh t
fresh_end i x back t h u still count = record {
  new = record {
    outgoing = h.outgoing ∙ ap (outgoing_of (circuit_of x) i) u.out;
    parts = h.parts ∙ ap (parts_of i) still;
    rules = h.rules ∙ no_rules_are x.rules u.rules
        ∙ ap (λ n. replicate n None) (count ∙ ap (λ (j : Planned). length j.interface.messages) (sym h.program));
  };
  circuit = h.circuit ∙ u.circuit;
  sound = h.failed;
}

pub found_fresh : (w : TheWorld) (s : State) (n : ℕ) (c : TheCore) (e : EndId) (place : ℕ) (k : Found w s n c e place) → Sound s → Untouched s → IsFresh k.at.end
found_fresh w s n c e place k sound h =
    let b = h.bindings e.binding k.binding k.binding_is in
    fresh_end k.interface (end_in e.side k.binding) (end_in (other e.side) k.binding).out k.at.end k.shows (side_untouched e.side k.binding b)
    (side_untouched (other e.side) k.binding b).out (rules_count s e k.binding k.interface sound k.binding_is k.interface_is)

pub ends_are_fresh : (w : TheWorld) (s : State) → Shows w s → Untouched s → EndsAreFresh w
ends_are_fresh w s shows h n place c e seat core_is place_is seat_is =
    let k = found w s n c e place shows core_is place_is in
    subst (λ (x : TheEndAtChannel). IsFresh x.end) (same_some (slice_get c.board.seats place) k.at seat k.at_is seat_is)
    (found_fresh w s n c e place k shows.sound h)

-- ---- queues

no_items : (streams : Streams) (labels : List Label) (items : List Frag) → labels ≡ [] → AreOf streams labels items → items ≡ []
no_items streams labels [] none h = refl
no_items streams labels (x ∷ items) none h =
    let e : standing x ∷ map standing items ≡ [] = h ∙ ap (map (frag_of streams)) none in absurd (cc)

new_by : (q : TheQueue) → q.items ≡ [] → q.acked ≡ false → q.unacknowledged ≡ 0 → q.sent ≡ 0 → q ≡ new_queue q.capacity
new_by q items acked unacknowledged sent =
    ap (λ xs. record { items = xs; unacknowledged = q.unacknowledged; sent = q.sent; capacity = q.capacity; acked = q.acked }) items
    ∙ ap (λ n. record { items = []; unacknowledged = n; sent = q.sent; capacity = q.capacity; acked = q.acked }) unacknowledged
    ∙ ap (λ n. record { items = []; unacknowledged = 0; sent = n; capacity = q.capacity; acked = q.acked }) sent
    ∙ ap (λ b. record { items = []; unacknowledged = 0; sent = 0; capacity = q.capacity; acked = b }) acked

queue_is_new : (streams : Streams) (x : Queue) (q : TheQueue) → x.labels ≡ [] → QueueShows streams x q → q ≡ new_queue q.capacity
queue_is_new streams x q none h = new_by q (no_items streams x.labels q.items none h.frags) h.freed h.unacknowledged h.sent

-- the queue that an untouched end takes from
takes_from_new : (queues : List TheQueue) (s : State) (x : End) (n : ℕ) → IsUntouched x → TakesFrom queues s x n
    → (slots : ℕ) × (slice_get queues n ≡ Some (new_queue slots))
takes_from_new queues s x n u h =
    let none : h.queue.labels ≡ [] = subst (λ (o : Option Queue). IfSome o (λ q. q.labels ≡ [])) h.queue_is u.queue in
    (h.there.capacity, h.there_is ∙ ap (λ q. Some q) (queue_is_new _ h.queue h.there none h.shows))

taken_from_new : (w : TheWorld) (s : State) (n queue out : ℕ) (c : TheCore) (e : EndId) → Shows w s → Untouched s → slice_get w.cores n ≡ Some c
    → wiring_of c e ≡ Some (Queues out queue) → (slots : ℕ) × (slice_get w.queues queue ≡ Some (new_queue slots))
taken_from_new w s n queue out c e shows h core_is wiring =
    let k = wired w s n c e (Queues out queue) shows core_is wiring in
    takes_from_new w.queues s (end_in e.side k.end.binding) queue (side_untouched e.side k.end.binding (h.bindings e.binding k.end.binding k.end.binding_is)) k.way.1

-- from a queue that an end puts to its peer takes
pub peer_takes : (w : TheWorld) (s : State) (n queue from : ℕ) (c : TheCore) (e : EndId) → Shows w s → slice_get w.cores n ≡ Some c
    → wiring_of c e ≡ Some (Queues queue from) → wiring_of c (peer e) ≡ Some (Queues from queue)
peer_takes w s n queue from c e shows core_is wiring = (wired w s n c e (Queues queue from) shows core_is wiring).way.2

pub queues_are_new : (w : TheWorld) (s : State) → Shows w s → Untouched s → QueuesAreNew w
queues_are_new w s shows h n queue c core_is names = elim names [
  | inl (e, from, wiring) ↦ taken_from_new w s n queue from c (peer e) shows h core_is (peer_takes w s n queue from c e shows core_is wiring)
  | inr (e, out, wiring) ↦ taken_from_new w s n queue out c e shows h core_is wiring
]
