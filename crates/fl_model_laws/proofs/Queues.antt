-- No queue holds more labels than it has slots.
use Rattle.std.proofs.Common.{◌≡◌, sym, ◌∙◌, ap, subst, ℕ, ◌+◌, ◌≤◌, ◌<◌, nat_lt, true}
use Rattle.std.proofs.Common.{List, [], ◌∷◌, ◌++◌, drop, length, Option, Some, None, arith}
use Rattle.std.proofs.lemmas.List.{length-append}
use Rattle.std.proofs.lemmas.Bool.Decides.{nat_tests}
use Rattle.fl_base.specs.declared.identity.Side.{Side}
use Rattle.fl_base.specs.declared.identity.Side.TheVariants.{Client, Server}
use Rattle.fl_base.specs.Given.{given}
use Rattle.fl_model.specs.Calls.{Planned}
use Rattle.fl_model.specs.Events.{Event}
use Rattle.fl_model.specs.Rings.{Label}
use Rattle.fl_model.specs.Ends.{Queue, fresh_queue, has_room, joined_by, without_first, End}
use Rattle.fl_model.specs.State.{Back, Binding, State, end_in, with_end_in, in_queue}
use Rattle.fl_model.specs.Step.{step}
use Rattle.fl_model.specs.SoundLists.{QueuesHaveRoom}
use Rattle.fl_model_laws.proofs.Cases.{by_given}
use Rattle.fl_model_laws.proofs.Outboxes.{drop_shorter}
use Rattle.fl_model_laws.proofs.BindingWalk.{IsFresh, by_queue, on_ring, on_route, KeepsBindings, Bindings, bindings_keep, end_there}
use Rattle.fl_model_laws.proofs.Walk.{step_keeps}

abbrev Fits : End → Type 0
Fits x = (q : Queue) → x.queue ≡ Some q → length q.labels ≤ q.capacity

pub record BothFit (is : List Planned) (rs : ℕ) (b : Binding) : Type 0 where
  pub client : Fits b.client
  pub server : Fits b.server

side_changed : (is : List Planned) (rs : ℕ) (side : Side) (f : End → End) (b : Binding) → (Fits (end_in side b) → Fits (f (end_in side b)))
    → BothFit is rs b → BothFit is rs (with_end_in side f b)
side_changed is rs Client f b k h = record { client = k h.client; server = h.server }
side_changed is rs Server f b k h = record { client = h.client; server = k h.server }

same_some : (p q : Queue) → Some p ≡ Some q → p ≡ q
same_some p q h = cc

room_below : (m n : ℕ) → nat_lt m n ≡ true → m < n
room_below m n h = grind (arith, nat_tests, h)

-- the queue with something done to it fits
queue_done : (f : Queue → Queue) (x : End) → ((q : Queue) → x.queue ≡ Some q → length q.labels ≤ q.capacity → length (f q).labels ≤ (f q).capacity)
    → Fits x → Fits (in_queue f x)
queue_done f x k h =
    by_given Fits x.queue x _ h
    (λ q r p e. subst (λ (w : Queue). length w.labels ≤ w.capacity) (same_some (f q) p e) (k q r (h q r)))

join_fits : (l : Label) (q : Queue) → has_room q ≡ true → length (joined_by l q).labels ≤ q.capacity
join_fits l q h =
    let longer : length (q.labels ++ l ∷ []) ≡ length q.labels + 1 = length-append q.labels (l ∷ []) in
    let below : length q.labels < q.capacity = room_below (length q.labels) q.capacity h in
    omega arith

drop_fits : (q : Queue) → length q.labels ≤ q.capacity → length (without_first q).labels ≤ q.capacity
drop_fits q h = let shorter : length (drop 1 q.labels) ≤ length q.labels = drop_shorter q.labels in omega arith

empty_fits : (capacity : ℕ) (q : Queue) → Some (fresh_queue capacity) ≡ Some q → length q.labels ≤ q.capacity
empty_fits capacity q e = subst (λ (w : Queue). length w.labels ≤ w.capacity) (same_some (fresh_queue capacity) q e) (omega arith)

fresh_fits : (rs : ℕ) (back : Back) (stations : ℕ) (o : Option Queue) → IsFresh rs back stations o → (q : Queue) → o ≡ Some q
    → length q.labels ≤ q.capacity
fresh_fits rs back stations o (by_queue r slots) q e = empty_fits slots q e
fresh_fits rs back stations o (on_ring r n a) q e = absurd (cc)
fresh_fits rs back stations o (on_route r way) q e = empty_fits 16 q e

queues_keep : KeepsBindings BothFit
queues_keep = record {
  quiet = λ is rs side f b k h. side_changed is rs side f b (λ c q e. c q (sym (k.queue (end_in side b)) ∙ e)) h;
  joined = λ is rs side l b room h.
      side_changed is rs side (in_queue (joined_by l)) b (λ c. queue_done (joined_by l) (end_in side b) (λ q e a. join_fits l q (room q e)) c) h;
  emptied = λ is rs side b h.
      side_changed is rs side (in_queue without_first) b (λ c. queue_done without_first (end_in side b) (λ q e a. drop_fits q a) c) h;
  route = λ is rs f b k h. record { client = h.client; server = h.server };
  grown = λ is rs more b a h. record { client = h.client; server = h.server };
  interface = λ is rs i b h. record { client = h.client; server = h.server };
  fresh = λ is rs w i back stations o there messages f.
      record { client = fresh_fits rs back stations o f; server = fresh_fits rs back stations o f };
}

both_of : (s : State) → QueuesHaveRoom s → Bindings BothFit s
both_of s h n b q =
    record {
      client = λ p e. h (record { binding = n; side = Client }) b.client p (ap (λ (o : Option Binding). given o None (λ x. Some x.client)) q) e;
      server = λ p e. h (record { binding = n; side = Server }) b.server p (ap (λ (o : Option Binding). given o None (λ x. Some x.server)) q) e;
    }

one_of : (is : List Planned) (rs : ℕ) (side : Side) (b : Binding) → BothFit is rs b → Fits (end_in side b)
one_of is rs Client b h = h.client
one_of is rs Server b h = h.server

pub step_keeps_queues : (s : State) (v : Event) → QueuesHaveRoom s → QueuesHaveRoom (step s v).state
step_keeps_queues s v h e x q there queue =
    let t : State = (step s v).state in
    let all : Bindings BothFit t = step_keeps (Bindings BothFit) (bindings_keep BothFit queues_keep) s v (both_of s h) in
    let (b, at, is) = end_there t e x there in
    one_of t.interfaces (length t.rings) e.side b (all e.binding b at) q (ap (λ (y : End). y.queue) is ∙ queue)
