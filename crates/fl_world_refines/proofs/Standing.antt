-- Queues: a put, a look and a take.
use Rattle.std.proofs.Common.{◌≡◌, refl, sym, ◌∙◌, ap, subst, ◌+◌, ◌<◌, ◌^◌, true, false, List, [], ◌∷◌, length, map, drop, slice_get, Some, None, arith}
use Rattle.std.proofs.lemmas.List.{length-map}
use Rattle.fl_base.specs.declared.fragment.Frag.{Frag}
use Rattle.fl_base.specs.Control.{bare}
use Rattle.fl_link.specs.Looks.{Look, placed, no_room, spent, saw, saw_ack, found, found_ack, missed, told, kept}
use Rattle.fl_link.specs.Queue.{TheQueue, QueuePuts, QueueTakes, front_of, next_epoch_of, used, with_put, with_taken}
use Rattle.fl_link.proofs.Conserved.{sees_call, sees_ack}
use Rattle.fl_link.proofs.Carried.{bare-stamped}
use Rattle.fl_model.specs.Rings.{Label, acknowledges}
use Rattle.fl_model.specs.Rings.{there_is_room, no_room as none_free}
use Rattle.fl_model.specs.Ends.{Queue, has_room, joined_by, without_first}
use Rattle.fl_world_refines.specs.Fragments.{Streams, frag_of, standing, AreOf}
use Rattle.fl_world_refines.specs.Queues.{QueueShows}
use Rattle.fl_world_refines.specs.RingLaws.{NewShow, AllCarried, IsPutOf, is_data, HoldsCalls, StandsFirst, QueuePutAgrees, QueueTakeAgrees}
use Rattle.fl_world_refines.proofs.Tests.{then_is, else_is, lt_true, lt_false}
use Rattle.fl_world_refines.proofs.Matching.{same_heads, same_tails, data_label, ack_label, are_more, are_still}

-- ---- labels and fragments

same_length : (streams : Streams) (labels : List Label) (fs : List Frag) → AreOf streams labels fs → length fs ≡ length labels
same_length streams labels fs a = sym (length-map fs standing) ∙ ap length a ∙ length-map labels (frag_of streams)

none_first : (streams : Streams) (labels : List Label) (fs : List Frag) → AreOf streams labels fs → fs ≡ [] → slice_get labels 0 ≡ None
none_first streams [] fs a e = refl
none_first streams (l ∷ ls) [] a e = absurd (cc)
none_first streams (l ∷ ls) (f ∷ fs) a e = absurd (cc)

record First (streams : Streams) (labels : List Label) (f : Frag) (fs : List Frag) : Type 0 where
  pub first : Label
  pub there : slice_get labels 0 ≡ Some first
  pub frag : frag_of streams first ≡ Some (bare f)
  pub others : AreOf streams (drop 1 labels) fs

first_of : (streams : Streams) (labels : List Label) (f : Frag) (fs : List Frag) → AreOf streams labels (f ∷ fs) → First streams labels f fs
first_of streams [] f fs a = absurd (cc)
first_of streams (l ∷ ls) f fs a = record {
  first = l;
  there = refl;
  frag = sym (same_heads (standing f) (frag_of streams l) (map standing fs) (map (frag_of streams) ls) a);
  others = same_tails (standing f) (frag_of streams l) (map standing fs) (map (frag_of streams) ls) a;
}

-- ---- a queue

same_queue : (streams : Streams) (q : Queue) (s t : TheQueue) → QueueShows streams q s → t ≡ s → QueueShows streams q t
same_queue streams q s t h e = subst (QueueShows streams q) (sym e) h

used_is : (streams : Streams) (q : Queue) (s : TheQueue) → QueueShows streams q s → used s ≡ length q.labels
used_is streams q s h =
    let long = same_length streams q.labels s.items h.frags in
    let none = h.unacknowledged in
    omega (arith, long, none)

bit : (streams : Streams) (q : Queue) (s : TheQueue) → QueueShows streams q s → next_epoch_of s < 2
bit streams q s h =
    let one : next_epoch_of s ≡ 1 = else_is s.acked _ 1 h.freed in
    omega (arith, one)

pub queue_put_agrees : (streams : Streams) (label : Label) (q : Queue) (s t : TheQueue) (look : Look)
    → QueueShows streams q s → IsPutOf streams label look
    → QueuePuts s look t → QueuePutAgrees streams label q look t
queue_put_agrees streams label q s t (placed f) h is a =
    let slots = used_is streams q s h in
    let capacity = h.capacity in
    let room = a.1.0.1 in
    let plain : bare _ ≡ bare f = bare-stamped f (next_epoch_of s) 0 (bit streams q s h) in (
      then_is (has_room q) there_is_room none_free (lt_true (length q.labels) q.capacity (omega (arith, slots, capacity, room))),
      same_queue streams (joined_by label q) (with_put s f) t (record {
        frags = are_more streams q.labels s.items label _ h.frags (is f refl ∙ ap Some (sym plain));
        capacity = h.capacity;
        freed = h.freed;
        unacknowledged = h.unacknowledged;
        sent = else_is s.acked (s.sent + 1) s.sent h.freed ∙ h.sent;
      }) a.1.1,
    )
queue_put_agrees streams label q s t no_room h is a =
    let slots = used_is streams q s h in
    let capacity = h.capacity in
    let full = a.0.1 in (
      else_is (has_room q) there_is_room none_free (lt_false (length q.labels) q.capacity (omega (arith, slots, capacity, full))),
      same_queue streams q s t h a.1,
    )
queue_put_agrees streams label q s t spent h is a = let none = h.sent in let many : s.sent ≡ 2 ^ 62 = a.0 in absurd (omega (arith, none, many))
queue_put_agrees streams label q s t (saw f) h is a = absurd a
queue_put_agrees streams label q s t saw_ack h is a = absurd a
queue_put_agrees streams label q s t (found f) h is a = absurd a
queue_put_agrees streams label q s t found_ack h is a = absurd a
queue_put_agrees streams label q s t missed h is a = absurd a
queue_put_agrees streams label q s t told h is a = absurd a
queue_put_agrees streams label q s t kept h is a = absurd a

sees : (streams : Streams) (q : Queue) (s : TheQueue) (f : Frag) → QueueShows streams q s → front_of s.items ≡ saw f → StandsFirst streams q f
sees streams q s f h e = cases s.items refl e where
  cases : (fs : List Frag) → s.items ≡ fs → front_of fs ≡ saw f → StandsFirst streams q f
  cases [] w p = absurd (cc)
  cases (g ∷ gs) w p =
      let k = sees_call g f p in
      let m = first_of streams q.labels g gs (subst (AreOf streams q.labels) w h.frags) in
      record {
        first = m.first;
        there = m.there;
        kind = data_label streams m.first g k.0 m.frag;
        frag = m.frag ∙ ap Some k.1;
      }

-- nothing in a queue only acknowledges
sees_none : {P : Type 0} (streams : Streams) (q : Queue) (s : TheQueue) → AllCarried streams → HoldsCalls q → QueueShows streams q s
    → front_of s.items ≡ saw_ack → P
sees_none {P} streams q s all calls h e = cases s.items refl e where
  cases : (fs : List Frag) → s.items ≡ fs → front_of fs ≡ saw_ack → P
  cases [] w p = absurd (cc)
  cases (g ∷ gs) w p =
      let m = first_of streams q.labels g gs (subst (AreOf streams q.labels) w h.frags) in
      let acks : m.first ≡ acknowledges = ack_label streams m.first g all (sees_ack g p) m.frag in
      let kind : is_data m.first ≡ true = calls 0 m.first m.there in
      absurd (let u : false ≡ true = sym (ap is_data acks) ∙ kind in cc)

taken_shows : (streams : Streams) (q : Queue) (s t : TheQueue) (f : Frag) (fs : List Frag) → QueueShows streams q s → s.items ≡ f ∷ fs
    → t ≡ with_taken s fs → QueueShows streams (without_first q) t
taken_shows streams q s t f fs h w e =
    same_queue streams (without_first q) (with_taken s fs) t (record {
      frags = (first_of streams q.labels f fs (subst (AreOf streams q.labels) w h.frags)).others;
      capacity = h.capacity;
      freed = h.freed;
      unacknowledged = else_is s.acked (s.unacknowledged + 1) s.unacknowledged h.freed ∙ h.unacknowledged;
      sent = h.sent;
    }) e

pub queue_take_agrees : (streams : Streams) (q : Queue) (s t : TheQueue) (look : Look)
    → QueueShows streams q s → AllCarried streams → HoldsCalls q
    → QueueTakes s look t → QueueTakeAgrees streams q look t
queue_take_agrees streams q s t (saw f) h all calls a = (sees streams q s f h a.0, same_queue streams q s t h a.1)
queue_take_agrees streams q s t (found f) h all calls a = (
  sees streams q s f h a.0,
  taken_shows streams q s t a.1.0 a.1.1 h a.1.2 a.1.3,
)
queue_take_agrees streams q s t missed h all calls a = (none_first streams q.labels s.items h.frags a.0, same_queue streams q s t h a.1)
queue_take_agrees streams q s t kept h all calls a = same_queue streams q s t h a.1
queue_take_agrees streams q s t told h all calls a = absurd (let u : true ≡ false = sym a.0 ∙ h.freed in cc)
queue_take_agrees streams q s t saw_ack h all calls a = sees_none streams q s all calls h a.0
queue_take_agrees streams q s t found_ack h all calls a = sees_none streams q s all calls h a.0
queue_take_agrees streams q s t (placed f) h all calls a = absurd a
queue_take_agrees streams q s t no_room h all calls a = absurd a
queue_take_agrees streams q s t spent h all calls a = absurd a

pub queue_still : (streams more : Streams) → ((label : Label) (f : Frag) → frag_of streams label ≡ Some f → frag_of more label ≡ Some f)
    → (q : Queue) (s : TheQueue) → QueueShows streams q s → QueueShows more q s
queue_still streams more g q s h = record {
  frags = are_still streams more q.labels s.items g h.frags;
  capacity = h.capacity;
  freed = h.freed;
  unacknowledged = h.unacknowledged;
  sent = h.sent;
}

pub new_show : NewShow
new_show = record {
  ring = λ streams size. record {
    size = refl;
    forth = record { sent = refl; known = refl; told = refl; read = refl; frags = refl; tells = refl; said = tt };
    back = record { sent = refl; known = refl; told = refl; read = refl; frags = refl; tells = refl; said = tt };
  };
  queue = λ streams capacity. record { frags = refl; capacity = refl; freed = refl; unacknowledged = refl; sent = refl };
}
