-- What the end of a listed channel is to be: bound, of the kind of its list, and with a fragment where it is pending. Said of
-- every list at once, and what changes of ends, rings and lists leave of it.
use Rattle.std.proofs.Common.{◌≡◌, ◌≢◌, refl, sym, ◌∙◌, ap, subst, ℕ, true, ◌⊎◌, inl, inr}
use Rattle.std.proofs.Common.{List, [], ◌∷◌, ◌++◌, slice_get, Option, Some, None}
use Rattle.std.specs.Prelude.{IsSome, IsNone}
use Rattle.std.proofs.lemmas.Bool.{cases_eq}
use Rattle.fl_base.specs.declared.identity.EndId.{EndId}
use Rattle.fl_base.specs.Given.{given}
use Rattle.fl_lists.specs.declared.place.Place.{Place}
use Rattle.fl_lists.specs.declared.place.Place.TheVariants.{Idle, Polled, Pending}
use Rattle.fl_lists.specs.ThreeLists.{ThreeLists, list_at, is_in, unlinked, pushed, popped, moved, IsApart, without}
use Rattle.fl_lists.proofs.Members.{is_in_from-without}
use Rattle.fl_waitset.specs.Waiting.{triggered}
use Rattle.fl_waitset.proofs.Moves.{first_moves}
use Rattle.fl_model.specs.Events.{DispatcherId}
use Rattle.fl_model.specs.Rings.{RingLabel, Ring, RingSide, RingEnd, first_for, written_by}
use Rattle.fl_model.specs.Ends.{Queue, End, Seat}
use Rattle.fl_model.specs.Waits.{Dispatcher, with_end, registers, deregisters, triggers, puts_off}
use Rattle.fl_model.specs.Monitors.{Core}
use Rattle.fl_model.specs.State.{Binding, State, core_of, dispatcher_of, own_ring, change_core, change_dispatcher}
use Rattle.fl_model.specs.SoundLists.{IsOfCall}
use Rattle.fl_model_laws.proofs.Cases.{either}
use Rattle.fl_model_laws.proofs.Ends.{Has}
use Rattle.fl_model_laws.proofs.Seating.{dispatcher_here, dispatcher_was}
use Rattle.fl_model_laws.proofs.Seats.{view_same, Agree, seat_of, at_channel, ends_at}
use Rattle.fl_model_laws.proofs.Waitsets.{pushed_from}
use Rattle.fl_model_laws.proofs.Small.{get_push, some_same}

-- ---- what is said

-- what stands first for a side is a call's fragment, and was looked at
pub record WasLooked (side : RingSide) (r : Ring) : Type 0 where
  pub first : RingLabel
  pub first_is : first_for side r ≡ Some first
  pub call : IsOfCall first.label
  pub known : (written_by side r).known ≡ first.told

abbrev pub LookedAt : List Ring → RingEnd → Type 0
LookedAt rings at = (r : Ring) × (slice_get rings at.ring ≡ Some r) × WasLooked at.side r

abbrev pub Suits : Place → Option Queue → Type 0
Suits Idle q = IsSome q
Suits Polled q = IsNone q
Suits Pending q = Unit {0}

-- a pending end's queue holds something, and its own ring was looked at
abbrev pub Holds : List Ring → Place → Option RingEnd → Option Queue → Type 0
Holds rings Idle own queue = Unit {0}
Holds rings Polled own queue = Unit {0}
Holds rings Pending own queue =
    ((q : Queue) → queue ≡ Some q → q.labels ≢ []) × ((at : RingEnd) → own ≡ Some at → LookedAt rings at)

pub record FitEnd (rings : List Ring) (place : Place) (own : Option RingEnd) (x : End) : Type 0 where
  pub bound : IsSome x.circuit
  pub kind : Suits place x.queue
  pub holds : Holds rings place own x.queue

-- the side of its binding's own ring that is an end's
abbrev pub ring_of : List Binding → EndId → Option RingEnd
ring_of bs e = given (slice_get bs e.binding) None (λ b. own_ring e.side b.back)

abbrev pub FitAt : State → Place → EndId → Type 0
FitAt s place e = Has (FitEnd s.rings place (ring_of s.bindings e)) s e

-- a channel with an end of which G holds
pub record HasSuch (G : Place → EndId → Type 0) (y : Dispatcher) (place : Place) (c : ℕ) : Type 0 where
  pub end : EndId
  pub end_is : slice_get y.ends c ≡ Some end
  pub such : G place end

abbrev pub Listing : (Place → EndId → Type 0) → State → Type 0
Listing G s = (d : DispatcherId) (y : Dispatcher) (place : Place) (c : ℕ) → dispatcher_of s d ≡ Some y
    → is_in c (list_at y.lists place) ≡ true → HasSuch G y place c

abbrev pub ListedFit : State → Type 0
ListedFit s = Listing (FitAt s) s

-- ---- lists

pub listing_weaker : (G H : Place → EndId → Type 0) (s : State) → ((place : Place) (e : EndId) → G place e → H place e) → Listing G s → Listing H s
listing_weaker G H s k h d y place c q l =
    let was : HasSuch G y place c = h d y place c q l in record { end = was.end; end_is = was.end_is; such = k place was.end was.such }

pub listing_same : (G : Place → EndId → Type 0) (s t : State) → ((d : DispatcherId) → dispatcher_of t d ≡ dispatcher_of s d) → Listing G s → Listing G t
listing_same G s t k h d y place c q l = h d y place c (sym (k d) ∙ q) l

pub listing_core : (G : Place → EndId → Type 0) (n : ℕ) (f : Core → Core) (s : State)
    → ((k : Core) → core_of s n ≡ Some k → (f k).dispatchers ≡ k.dispatchers) → Listing G s → Listing G (change_core n f s)
listing_core G n f s k h =
    listing_same G s (change_core n f s)
    (λ d. view_same s.cores n d.core f (λ j. slice_get j.dispatchers d.place) None (λ j q. ap (λ ds. slice_get ds d.place) (k j q))) h

pub listing_changed : (G : Place → EndId → Type 0) (d : DispatcherId) (f : Dispatcher → Dispatcher) (s : State) → Listing G s
    → ((x : Dispatcher) → dispatcher_of s d ≡ Some x → (place : Place) (c : ℕ) → is_in c (list_at (f x).lists place) ≡ true → HasSuch G (f x) place c)
    → Listing G (change_dispatcher d f s)
listing_changed G d f s h k g y place c q l =
    elim (dispatcher_was d f s g y q) [
      | inl a ↦ h g y place c a l
      | inr b ↦ subst (λ (z : Dispatcher). HasSuch G z place c) (sym b.1.2)
          (k b.1.0 b.1.1 place c (subst (λ (z : Dispatcher). is_in c (list_at z.lists place) ≡ true) b.1.2 l))
    ]

-- a dispatcher gets one more end
pub listing_with_end : (G : Place → EndId → Type 0) (d : DispatcherId) (e : EndId) (s : State) → Listing G s → Listing G (change_dispatcher d (with_end e) s)
listing_with_end G d e s h =
    listing_changed G d (with_end e) s h
    (λ x q place c l.
    let was : HasSuch G x place c = h d x place c q l in
    record { end = was.end; end_is = get_push x.ends c was.end e was.end_is; such = was.such })

-- what stands in lists after something left them stood there
pub unlinked_from : (w : ThreeLists) (c : ℕ) (place : Place) (k : ℕ) → is_in k (list_at (unlinked w c) place) ≡ true
    → (k ≢ c) × (is_in k (list_at w place) ≡ true)
unlinked_from w c Idle k h = is_in_from-without k c w.idle h
unlinked_from w c Polled k h = is_in_from-without k c w.polled h
unlinked_from w c Pending k h = is_in_from-without k c w.pending h

pub listing_deregisters : (G : Place → EndId → Type 0) (d : DispatcherId) (c : ℕ) (s : State) → Listing G s → Listing G (change_dispatcher d (deregisters c) s)
listing_deregisters G d c s h =
    listing_changed G d (deregisters c) s h
    (λ x q place k l.
    let was : HasSuch G x place k = h d x place k q (unlinked_from x.lists c place k l).1 in
    record { end = was.end; end_is = was.end_is; such = was.such })

-- an end's channel comes to a list for which the end is fit
pub listing_registers : (G : Place → EndId → Type 0) (d : DispatcherId) (c : ℕ) (to : Place) (e : EndId) (s : State)
    → ((x : Dispatcher) → dispatcher_of s d ≡ Some x → slice_get x.ends c ≡ Some e) → G to e → Listing G s
    → Listing G (change_dispatcher d (registers c to) s)
listing_registers G d c to e s its g h =
    listing_changed G d (registers c to) s h
    (λ x q place k l. elim (pushed_from x.lists c to place k l) [
      | inl a ↦ let was : HasSuch G x place k = h d x place k q a in record { end = was.end; end_is = was.end_is; such = was.such }
      | inr b ↦ record {
        end = e;
        end_is = ap (slice_get x.ends) (sym b.0) ∙ its x q;
        such = subst (λ (p : Place). G p e) (sym b.1) g;
      }
    ])

triggered_from : (w : ThreeLists) (c : ℕ) (place : Place) (k : ℕ) → is_in k (list_at (triggered w c) place) ≡ true
    → (is_in k (list_at w place) ≡ true) ⊎ ((is_in c w.idle ≡ true) × (c ≡ k) × (place ≡ Pending))
triggered_from w c place k =
    either (λ (v : ThreeLists). is_in k (list_at v place) ≡ true → (is_in k (list_at w place) ≡ true) ⊎ ((is_in c w.idle ≡ true) × (c ≡ k) × (place ≡ Pending)))
    (is_in c w.idle) _ _ (λ q l. moved_from q place l) (λ q l. inl l)
  where
    moved_from : is_in c w.idle ≡ true → (place : Place) → is_in k (list_at (record w { idle = without c w.idle; pending = w.pending ++ c ∷ [] }) place) ≡ true
        → (is_in k (list_at w place) ≡ true) ⊎ ((is_in c w.idle ≡ true) × (c ≡ k) × (place ≡ Pending))
    moved_from q Idle l = inl (is_in_from-without k c w.idle l).1
    moved_from q Polled l = inl l
    moved_from q Pending l = elim (pushed_from w c Pending Pending k l) [ inl a ↦ inl a | inr b ↦ inr (q, b.0, refl) ]

-- an end's channel is triggered: from idle it becomes pending
pub listing_triggers : (G : Place → EndId → Type 0) (d : DispatcherId) (c : ℕ) (e : EndId) (s : State)
    → ((x : Dispatcher) → dispatcher_of s d ≡ Some x → slice_get x.ends c ≡ Some e) → (G Idle e → G Pending e) → Listing G s
    → Listing G (change_dispatcher d (triggers c) s)
listing_triggers G d c e s its g h =
    listing_changed G d (triggers c) s h
    (λ x q place k l. elim (triggered_from x.lists c place k l) [
      | inl a ↦ let was : HasSuch G x place k = h d x place k q a in record { end = was.end; end_is = was.end_is; such = was.such }
      | inr b ↦ from_idle x q place k b.0 b.1 b.2
    ])
  where
    from_idle : (x : Dispatcher) → dispatcher_of s d ≡ Some x → (place : Place) (k : ℕ) → is_in c x.lists.idle ≡ true → c ≡ k → place ≡ Pending
        → HasSuch G (triggers c x) place k
    from_idle x q place k a same is =
        let was : HasSuch G x Idle c = h d x Idle c q a in
        let mine : was.end ≡ e = some_same was.end e (sym was.end_is ∙ its x q) in
        record {
          end = e;
          end_is = ap (slice_get x.ends) (sym same) ∙ its x q;
          such = subst (λ (p : Place). G p e) (sym is) (g (subst (G Idle) mine was.such));
        }

-- the first channel of a list goes to the back of one; it is that end's alone
put_off_from : (w : ThreeLists) (from : Place) (c : ℕ) (to place : Place) (k : ℕ) → IsApart w → slice_get (list_at w from) 0 ≡ Some c
    → is_in k (list_at (pushed (popped w from) c to) place) ≡ true → ((k ≢ c) × (is_in k (list_at w place) ≡ true)) ⊎ ((c ≡ k) × (place ≡ to))
put_off_from w from c to place k apart first l =
    let moves : moved w c to ≡ pushed (popped w from) c to = first_moves w c from to apart first in
    elim (pushed_from (unlinked w c) c to place k (ap (λ (v : ThreeLists). is_in k (list_at v place)) moves ∙ l)) [
      | inl a ↦ inl (unlinked_from w c place k a)
      | inr b ↦ inr b
    ]

same_or_not : (d e : DispatcherId) → (d ≡ e) ⊎ (d ≢ e)
same_or_not d e =
    elim (cases_eq d.core e.core) [
      | inl a ↦ elim (cases_eq d.place e.place) [
        | inl b ↦ inl (ap (λ (n : ℕ). (at n d.place)) a ∙ ap (at e.core) b)
        | inr b ↦ inr (λ same. b (ap (λ (f : DispatcherId). f.place) same))
      ]
      | inr a ↦ inr (λ same. a (ap (λ (f : DispatcherId). f.core) same))
    ]
  where
    at : ℕ → ℕ → DispatcherId
    at core place = record { core = core; place = place }

pub listing_puts_off : (G H : Place → EndId → Type 0) (d : DispatcherId) (x : Dispatcher) (from : Place) (c : ℕ) (to : Place) (e : EndId) (s : State)
    → dispatcher_of s d ≡ Some x → slice_get (list_at x.lists from) 0 ≡ Some c → slice_get x.ends c ≡ Some e → IsApart x.lists → Agree s
    → ((place : Place) (g : EndId) → g ≢ e → G place g → H place g) → H to e → Listing G s → Listing H (change_dispatcher d (puts_off from c to) s)
listing_puts_off G H d x from c to e s there first its apart agree other mine h g y place k q l =
    elim (same_or_not g d) [
      | inl same ↦ at_d y (some_same (puts_off from c to x) y (sym (dispatcher_here d (puts_off from c to) s x there)
          ∙ ap (dispatcher_of (change_dispatcher d (puts_off from c to) s)) (sym same) ∙ q)) l
      | inr differ ↦ elim (dispatcher_was d (puts_off from c to) s g y q) [
        | inl a ↦ not_d differ (h g y place k a l) a
        | inr b ↦ absurd (differ b.0)
      ]
    ]
  where
    seat : seat_of s e ≡ Some (at_channel d c)
    seat = agree.1 e d c (ap (λ es. slice_get es c) (ends_at s d x there) ∙ its)

    -- another channel is another end's
    apart_ends : (g : DispatcherId) (y : Dispatcher) (k : ℕ) (i : EndId) → dispatcher_of s g ≡ Some y → slice_get y.ends k ≡ Some i → i ≡ e
        → at_channel g k ≡ at_channel d c
    apart_ends g y k i q its same =
        let there : seat_of s i ≡ Some (at_channel g k) = agree.1 i g k (ap (λ es. slice_get es k) (ends_at s g y q) ∙ its) in
        some_same (at_channel g k) (at_channel d c) (sym there ∙ ap (seat_of s) same ∙ seat)

    not_d : g ≢ d → HasSuch G y place k → dispatcher_of s g ≡ Some y → HasSuch H y place k
    not_d differ was q = record {
      end = was.end;
      end_is = was.end_is;
      such = other place was.end (λ same. differ (ap (λ (w : Seat). w.dispatcher) (apart_ends g y k was.end q was.end_is same))) was.such;
    }

    at_d : (y : Dispatcher) → puts_off from c to x ≡ y → is_in k (list_at y.lists place) ≡ true → HasSuch H y place k
    at_d y made l =
        subst (λ (z : Dispatcher). HasSuch H z place k) made
        (elim (put_off_from x.lists from c to place k apart first (subst (λ (z : Dispatcher). is_in k (list_at z.lists place) ≡ true) (sym made) l)) [
          | inl a ↦ stays (h d x place k there a.1) a.0
          | inr b ↦ record {
            end = e;
            end_is = ap (slice_get x.ends) (sym b.0) ∙ its;
            such = subst (λ (p : Place). H p e) (sym b.1) mine;
          }
        ])
      where
        stays : HasSuch G x place k → k ≢ c → HasSuch H (puts_off from c to x) place k
        stays was ne = record {
          end = was.end;
          end_is = was.end_is;
          such = other place was.end (λ same. ne (ap (λ (w : Seat). w.channel) (apart_ends d x k was.end there was.end_is same))) was.such;
        }
