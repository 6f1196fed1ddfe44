-- Queues: for each label that the machine's queue has a fragment stands there.
use Rattle.std.proofs.Common.{◌≡◌, ◌≢◌, refl, sym, ◌∙◌, ap, subst, ℕ, suc, ◌+◌, ◌<◌, nat_lt, List, [], ◌∷◌, ◌++◌, length, map, drop, Some, arith}
use Rattle.std.proofs.lemmas.List.{length_push, length-map, map_push}
use Rattle.fl_base.specs.declared.fragment.Frag.{Frag}
use Rattle.fl_base.specs.Control.{bare, stamped}
use Rattle.fl_lists.specs.declared.place.Place.TheVariants as place
use Rattle.fl_link.specs.Cursor.{epoch_at}
use Rattle.fl_link.specs.Looks.{Look, placed, no_room, spent, saw, saw_ack, found, found_ack, missed}
use Rattle.fl_link.specs.Queue.{TheQueue, QueuePuts, QueueTakes, front_of, next_epoch_of, with_taken}
use Rattle.fl_link.proofs.Carried.{bare-stamped}
use Rattle.fl_link.proofs.Conserved.{sees_call}
use Rattle.fl_model.specs.Rings.{Label, there_is_room, no_room as none_free}
use Rattle.fl_model.specs.Ends.{has_room}
use Rattle.fl_model.specs.Waits.{waits_in}
use Rattle.fl_world_refines.proofs.Tests.{lt_true, lt_false, then_is, else_is}
use Rattle.fl_core_refines.specs.CutSides.{nothing_stands, left_one, gave_one, gave_ack, goes_on, is_full, is_spent}
use Rattle.fl_core_refines.specs.Cut.{QueueCut, ShowsQueue}
use Rattle.fl_core_refines.specs.CutEvents.{joined_one, without_one, StandsFirst, QueuePlaces, QueueGives}
use Rattle.fl_core_refines.proofs.Ends.{PutLaw}

none_left : {X : Type 0} (xs : List X) → length xs ≡ 0 → xs ≡ []
none_left [] h = refl
none_left (x ∷ xs) h = absurd (omega (arith, h))

-- as many fragments as labels
as_many : (v : QueueCut) (p : TheQueue) → ShowsQueue v p → length p.items ≡ length v.queue.labels
as_many v p h = sym (length-map p.items bare) ∙ ap length h.frags ∙ h.labels

-- ---- puts

put_one : (label : Label) (v : QueueCut) (p q : TheQueue) (f : Frag) → ShowsQueue v p → QueuePuts p (placed f) q
    → (w : QueueCut) × QueuePlaces label (goes_on f) v w × ShowsQueue w q
put_one label v p q f h (kind, (room, e)) =
    let stand = as_many v p h in
    let capacity = h.capacity in
    let unacknowledged = h.unacknowledged in
    let less = room.1 in
    let labels = h.labels in
    let long : length (v.queue.labels ++ label ∷ []) ≡ length v.queue.labels + 1 = length_push v.queue.labels label in
    let more : length (v.frags ++ bare f ∷ []) ≡ length v.frags + 1 = length_push v.frags (bare f) in
    let epoch : next_epoch_of p ≡ 1 = else_is p.acked (epoch_at p.capacity p.sent) 1 h.freed in
    let bit : next_epoch_of p < 2 = omega (arith, epoch) in (
      joined_one label f v,
      (then_is (has_room v.queue) there_is_room none_free (lt_true (length v.queue.labels) v.queue.capacity (omega (arith, less, stand, capacity, unacknowledged))), refl),
      subst (ShowsQueue (joined_one label f v)) (sym e) (record {
        frags = map_push bare p.items (stamped f (next_epoch_of p) 0)
            ∙ ap (λ (g : Frag). map bare p.items ++ g ∷ []) (bare-stamped f (next_epoch_of p) 0 bit)
            ∙ ap (λ (fs : List Frag). fs ++ bare f ∷ []) h.frags;
        labels = omega (arith, long, more, labels);
        capacity = h.capacity;
        freed = h.freed;
        unacknowledged = h.unacknowledged;
        sent = else_is p.acked (p.sent + 1) p.sent h.freed ∙ h.sent;
      }),
    )

put_full : (label : Label) (v : QueueCut) (p q : TheQueue) → ShowsQueue v p → QueuePuts p no_room q
    → (w : QueueCut) × QueuePlaces label is_full v w × ShowsQueue w q
put_full label v p q h (full, e) =
    let stand = as_many v p h in
    let capacity = h.capacity in
    let unacknowledged = h.unacknowledged in
    let all = full.1 in (
      v,
      (else_is (has_room v.queue) there_is_room none_free (lt_false (length v.queue.labels) v.queue.capacity (omega (arith, all, stand, capacity, unacknowledged))), refl),
      subst (ShowsQueue v) (sym e) h,
    )

put_over : (label : Label) (v : QueueCut) (p q : TheQueue) → ShowsQueue v p → QueuePuts p spent q
    → (w : QueueCut) × QueuePlaces label is_spent v w × ShowsQueue w q
put_over label v p q h (all, e) = let none = h.sent in absurd (omega (arith, all, none))

pub queue_puts : PutLaw QueuePuts ShowsQueue QueuePlaces
queue_puts = record { one = put_one; full = put_full; over = put_over }

-- ---- takes

-- something stands there
some_left : (v : QueueCut) (p : TheQueue) → ShowsQueue v p → p.items ≢ [] → v.queue.labels ≢ []
some_left v p h some none =
    let long : length v.queue.labels ≡ 0 = ap length none in
    let stand = as_many v p h in
    some (none_left p.items (omega (arith, long, stand)))

pub seen_some : (items : List Frag) (look : Look) → front_of items ≡ look → look ≢ missed → items ≢ []
seen_some items look e n none = n (sym e ∙ ap front_of none)

-- this one
stands_first : (v : QueueCut) (p : TheQueue) (f : Frag) → ShowsQueue v p → front_of p.items ≡ saw f → StandsFirst f v
stands_first v p f h e = by p.items refl e where
  by : (items : List Frag) → p.items ≡ items → front_of items ≡ saw f → StandsFirst f v
  by [] q r = absurd (cc)
  by (first ∷ rest) q r =
      (map bare rest, sym h.frags ∙ ap (map bare) q ∙ ap (λ (g : Frag). g ∷ map bare rest) (sees_call first f r).1)

taken_one : (v : QueueCut) (p q : TheQueue) (first : Frag) (rest : List Frag) → ShowsQueue v p → p.items ≡ first ∷ rest → q ≡ with_taken p rest
    → ShowsQueue (without_one v) q
taken_one v p q first rest h e is =
    let stand = as_many v p h in
    let long : length p.items ≡ suc (length rest) = ap length e in
    let frags : map bare rest ≡ drop 1 v.frags = ap (λ (fs : List Frag). drop 1 (map bare fs)) (sym e) ∙ ap (drop 1) h.frags in
    let counted : length (drop 1 v.frags) ≡ length rest = ap length (sym frags) ∙ length-map rest bare in
    subst (ShowsQueue (without_one v)) (sym is) (record {
      frags = frags;
      labels = counted ∙ dropped v.queue.labels (length rest) (omega (arith, stand, long));
      capacity = h.capacity;
      freed = h.freed;
      unacknowledged = else_is p.acked (p.unacknowledged + 1) p.unacknowledged h.freed ∙ h.unacknowledged;
      sent = h.sent;
    })
  where
    dropped : (ls : List Label) (n : ℕ) → length ls ≡ suc n → n ≡ length (drop 1 ls)
    dropped [] n a = absurd (omega (arith, a))
    dropped (l ∷ ls) n a = omega (arith, a)

-- what is left there says where its channel waits
pub some_wait : (v : QueueCut) (p : TheQueue) → ShowsQueue v p → p.items ≢ [] → place.Pending ≡ waits_in (Some v.queue)
some_wait v p h some = by_length v.queue.labels refl where
  by_length : (ls : List Label) → v.queue.labels ≡ ls → place.Pending ≡ waits_in (Some v.queue)
  by_length [] e = absurd (some_left v p h some e)
  by_length (l ∷ ls) e =
      let long : length v.queue.labels ≡ suc (length ls) = ap length e in
      sym (then_is (nat_lt 0 (length v.queue.labels)) place.Pending place.Idle (lt_true 0 (length v.queue.labels) (omega (arith, long))))

pub none_wait : (v : QueueCut) (p : TheQueue) → ShowsQueue v p → p.items ≡ [] → place.Idle ≡ waits_in (Some v.queue)
none_wait v p h none =
    let stand = as_many v p h in
    let long : length p.items ≡ 0 = ap length none in
    sym (else_is (nat_lt 0 (length v.queue.labels)) place.Pending place.Idle (lt_false 0 (length v.queue.labels) (omega (arith, stand, long))))

pub queue_misses : (label : Label) (v : QueueCut) (p q : TheQueue) → ShowsQueue v p → QueueTakes p missed q
    → (w : QueueCut) × QueueGives label nothing_stands v w × ShowsQueue w q
queue_misses label v p q h (none, e) =
    let stand = as_many v p h in
    let long : length p.items ≡ 0 = ap length none in
    (v, (none_left v.queue.labels (omega (arith, stand, long)), refl), subst (ShowsQueue v) (sym e) h)

pub queue_leaves : (label : Label) (v : QueueCut) (p q : TheQueue) (f : Frag) → ShowsQueue v p → QueueTakes p (saw f) q
    → (w : QueueCut) × QueueGives label (left_one f) v w × ShowsQueue w q
queue_leaves label v p q f h (first, e) = (v, (stands_first v p f h first, refl), subst (ShowsQueue v) (sym e) h)

pub queue_gives_one : (label : Label) (v : QueueCut) (p m q : TheQueue) (f : Frag) → ShowsQueue v p → QueueTakes p (saw f) m → QueueTakes m (found f) q
    → (w : QueueCut) × QueueGives label (gave_one f) v w × ShowsQueue w q
queue_gives_one label v p m q f h (first, e) (again, (one, rest, are, is)) =
    let k = subst (ShowsQueue v) (sym e) h in
    (without_one v, (stands_first v p f h first, refl), taken_one v m q one rest k are is)

pub queue_gives_ack : (label : Label) (v : QueueCut) (p m q : TheQueue) → ShowsQueue v p → QueueTakes p saw_ack m → QueueTakes m found_ack q
    → (w : QueueCut) × QueueGives label gave_ack v w × ShowsQueue w q
queue_gives_ack label v p m q h (first, e) (again, (one, rest, are, is)) =
    let k = subst (ShowsQueue v) (sym e) h in
    (without_one v, (some_left v p h (seen_some p.items saw_ack first (λ a. absurd (cc))), refl), taken_one v m q one rest k are is)
