-- An end of a world acknowledges as in the machine: over a ring, where half of it was read and isn't told.
use Rattle.std.proofs.Common.{◌≡◌, refl, sym, ◌∙◌, ap, subst, ℕ, not, true, false, if◌then◌else◌, slice_get, slice_set, Option, Some, None, Result, Ok, Err, ◌⊎◌, inl, inr}
use Rattle.std.specs.Prelude.{IsSome, IsNone, is_some}
use Rattle.fl_base.specs.declared.identity.EndId.{EndId}
use Rattle.fl_base.specs.Given.{given}
use Rattle.fl_hop.proofs.Lists.{set_here}
use Rattle.fl_link.specs.Looks.{Look, told, kept, no_room}
use Rattle.fl_ring.specs.Duo.{TheDuo, DuoTakes}
use Rattle.fl_ring.specs.Side.{SideTakes}
use Rattle.fl_ring.specs.declared.one_duo.WhichSide.{WhichSide}
use Rattle.fl_ring.specs.declared.duo_side.DuoSide.{DuoSide}
use Rattle.fl_core.specs.declared.kind.ChannelKind.TheVariants as kind
use Rattle.fl_core.specs.declared.turn_answer.AckAnswer.{AckAnswer}
use Rattle.fl_core.specs.declared.turn_answer.AckAnswer.TheVariants as ack
use Rattle.fl_core.specs.declared.board_fault.BoardFault.{BoardFault}
use Rattle.fl_core.specs.declared.board_fault.BoardFault.TheVariants.{NotBound, Registered, NotRegistered, TooManyEnds, Failed, Memory}
use Rattle.fl_core.specs.BoardView.{TheEndAtChannel}
use Rattle.fl_core.specs.BoardEvents.{Acks}
use Rattle.fl_core.specs.declared.wiring.EndWiring.{EndWiring}
use Rattle.fl_core.specs.declared.wiring.EndWiring.TheVariants.{Queues, Ring as OverRing, Circuit}
use Rattle.fl_core.specs.View.{TheCore, kind_of, inlet_by}
use Rattle.fl_core.specs.Sound.{IsCore}
use Rattle.fl_model.specs.Given.{changed_at}
use Rattle.fl_model.specs.Events.{Answer, done, nothing, full, refused}
use Rattle.fl_model.specs.Rings.{Ring, RingEnd, RingSide, Room, no_room as none_free, spent as used_up, room, owes, puts, makes_sure, for_acknowledgement, acknowledges}
use Rattle.fl_model.specs.Ends.{Queue, is_bound}
use Rattle.fl_model.specs.State.{Back, local, over_ring, over_route, Binding, State, StepOutcome, answers, binding_of, end_in, own_ring, change_ring, ring_makes_sure, ring_room}
use Rattle.fl_model.specs.Taking.{acknowledges_end, acknowledges_on, acknowledges_by}
use Rattle.fl_model.specs.SoundPlaces.{TakesFrom as EndTakesFrom}
use Rattle.fl_model.specs.Sound.{Sound}
use Rattle.fl_world_refines.specs.Fragments.{Streams, calls_off_links}
use Rattle.fl_world_refines.specs.Rings.{which_of, RingShows}
use Rattle.fl_world_refines.specs.RingLaws.{TakeAgrees, sure_to_acknowledge, room_to_acknowledge}
use Rattle.fl_world_refines.proofs.Sides.{take_agrees}
use Rattle.fl_world_refines.proofs.Tests.{unless_is, past_not}
use Rattle.fl_world_refines.specs.View.{TheWorld, WhereEnd, nowhere, unmade, made, location_of, with_core, with_ring, ring_at, which_at}
use Rattle.fl_world_refines.specs.ShowsState.{IsWiring, Carries, ShowsState, Shows}
use Rattle.fl_world_refines.specs.Lending.{answer_at}
use Rattle.fl_world_refines.specs.Taking.{IsAcked, AcksOver, AcksAt, TellsNothing}
use Rattle.fl_world_refines.specs.Laws.{Agrees, AcknowledgesAgree}
use Rattle.fl_world_refines.proofs.Frames.{Stands}
use Rattle.fl_world_refines.proofs.FramesBase.{same_some, not_both}
use Rattle.fl_world_refines.proofs.FramesEnds.{changed_is}
use Rattle.fl_world_refines.proofs.FramesQuiet.{set_twice}
use Rattle.fl_world_refines.proofs.FramesRings.{ring_frame}
use Rattle.fl_world_refines.proofs.FramesFind.{find_none, find_unmade, find_made}
use Rattle.fl_world_refines.proofs.Holding.{agrees_by, in_world, same_answer, refuses, set_same}
use Rattle.fl_world_refines.proofs.Listing.{bound_is, some_is, none_is, unbound}
use Rattle.fl_world_refines.proofs.Owning.{Owns, owns_ring, takes_from_of, carries_all}
use Rattle.fl_world_refines.proofs.Registering.{kind_is, inlet_is}

-- ---- a ring, changed by one look and what follows

-- what a look comes to shows for whatever the ring carries
abbrev AllAgree : State → ℕ → RingSide → Ring → Look → TheDuo → Type 0
AllAgree s n side r look t = (streams : Streams) → Carries s n streams → TakeAgrees streams side r look t

all_agree : (w : TheWorld) (s : State) (e : EndId) (n place : ℕ) (h : Stands w s e n place) (m : ℕ) (o : Owns w s e n place h m) (look : Look) (t : TheDuo)
    → Shows w s → DuoTakes (which_of o.at.side) o.duo look t → AllAgree s o.at.ring o.at.side o.ring look t
all_agree w s e n place h m o look t shown takes streams c =
    take_agrees streams o.at.side o.ring o.duo t look (shown.showing.rings.each o.at.ring o.ring o.duo streams o.there o.duo_is c)
    (shown.sound.counts o.at.ring o.ring o.there) (shown.sound.sizes o.at.ring o.ring o.there) (carries_all w s o.at.ring streams shown c) takes

-- what a side that is lent comes to is the ring's own
pub own_takes : (w : TheWorld) (s : State) (e : EndId) (n place : ℕ) (h : Stands w s e n place) (m : ℕ) (o : Owns w s e n place h m) (p q : DuoSide) (look : Look)
    → p.which ≡ which_at m → p.duo.now ≡ o.duo → SideTakes p look q → DuoTakes (which_of o.at.side) o.duo look q.duo.now
own_takes w s e n place h m o p q look which now takes =
    subst (λ (x : WhichSide). DuoTakes x o.duo look q.duo.now) (which ∙ ap which_of o.side_is)
    (subst (λ (d : TheDuo). DuoTakes p.which d look q.duo.now) now takes.1)

-- a ring that shows what it showed
pub same_ring : (w : TheWorld) (s : State) (n : ℕ) (r : Ring) (t : TheDuo) → ShowsState w s → slice_get s.rings n ≡ Some r
    → ((streams : Streams) → Carries s n streams → RingShows streams r t) → ShowsState (with_ring w n t) s
same_ring w s n r t p q shows =
    subst (λ rs. ShowsState (with_ring w n t) (record s { rings = rs })) (changed_is s.rings n (λ x. x) r q ∙ set_same s.rings n r q)
    (ring_frame w s n r (λ x. x) t p q shows)

-- one changed twice
pub twice_ring : (w : TheWorld) (s : State) (n : ℕ) (r : Ring) (f g : Ring → Ring) (t : TheDuo) → ShowsState w s → slice_get s.rings n ≡ Some r
    → ((streams : Streams) → Carries s n streams → RingShows streams (g (f r)) t) → ShowsState (with_ring w n t) (change_ring n g (change_ring n f s))
twice_ring w s n r f g t p q shows =
    let one : changed_at n f s.rings ≡ slice_set s.rings n (f r) = changed_is s.rings n f r q in
    let two : changed_at n g (changed_at n f s.rings) ≡ slice_set s.rings n (g (f r))
    = ap (changed_at n g) one ∙ changed_is (slice_set s.rings n (f r)) n g (f r) (set_here s.rings n r (f r) q) ∙ set_twice s.rings n (f r) (g (f r)) in
    let both : changed_at n (λ x. g (f x)) s.rings ≡ slice_set s.rings n (g (f r)) = changed_is s.rings n (λ x. g (f x)) r q in
    subst (λ rs. ShowsState (with_ring w n t) (record s { rings = rs })) (both ∙ sym two) (ring_frame w s n r (λ x. g (f x)) t p q shows)

-- ---- in the machine

abbrev acks_by : EndId → Binding → State → StepOutcome
acks_by e b s =
    if not (is_bound (end_in e.side b)) then answers s (refused 43)
    else given (own_ring e.side b.back) (answers s nothing) λ at.
    acknowledges_on at s

acks_at : (e : EndId) (s : State) (o : Option Binding) → binding_of s e ≡ o → acknowledges_end e s ≡ given o (answers s (refused 92)) (λ b. acks_by e b s)
acks_at e s o q = ap (λ p. given p (answers s (refused 92)) (λ b. acks_by e b s)) q

abbrev looked_for : RingEnd → State → State
looked_for at s = ring_makes_sure for_acknowledgement at s

abbrev tells_on : RingEnd → State → Ring → StepOutcome
tells_on at s r =
    if not (owes at.side r) then answers s nothing
    else acknowledges_by at (ring_room for_acknowledgement at (looked_for at s)) (looked_for at s)

on_ring : (at : RingEnd) (s : State) (r : Ring) → slice_get s.rings at.ring ≡ Some r → acknowledges_on at s ≡ tells_on at s r
on_ring at s r q = ap (λ o. given o (answers s nothing) (λ x. tells_on at s x)) q

room_there : (at : RingEnd) (s : State) (r : Ring) → slice_get s.rings at.ring ≡ Some r
    → ring_room for_acknowledgement at (looked_for at s) ≡ room_to_acknowledge at.side r
room_there at s r q =
    ap (λ o. given o none_free (room for_acknowledgement at.side))
    (ap (λ rs. slice_get rs at.ring) (changed_is s.rings at.ring (makes_sure for_acknowledgement at.side) r q)
    ∙ set_here s.rings at.ring r (sure_to_acknowledge at.side r) q)

-- ---- over a ring

-- the end told what it has read
told_on : (w : TheWorld) (s : State) (e : EndId) (n place : ℕ) (h : Stands w s e n place) (m : ℕ) (o : Owns w s e n place h m) (a : Answer) (t : TheDuo)
    → Shows w s → AllAgree s o.at.ring o.at.side o.ring told t → a ≡ done → Agrees (tells_on o.at s o.ring) a (with_ring w o.at.ring t)
told_on w s e n place h m o a t shown all is =
    let x = all (calls_off_links s) o.carries in
    agrees_by (tells_on o.at s o.ring) (answers (change_ring o.at.ring (puts o.at.side acknowledges) (looked_for o.at s)) done) a (with_ring w o.at.ring t)
    (past_not (owes o.at.side o.ring) _ _ x.0
    ∙ ap (λ y. acknowledges_by o.at y (looked_for o.at s)) (room_there o.at s o.ring o.there ∙ x.1))
    (record {
      answer = sym is;
      showing = twice_ring w s o.at.ring o.ring (makes_sure for_acknowledgement o.at.side) (puts o.at.side acknowledges) t shown.showing o.there
          (λ streams c. (all streams c).2);
    })

-- it has nothing to tell
kept_on : (w : TheWorld) (s : State) (e : EndId) (n place : ℕ) (h : Stands w s e n place) (m : ℕ) (o : Owns w s e n place h m) (a : Answer) (t : TheDuo)
    → Shows w s → AllAgree s o.at.ring o.at.side o.ring kept t → a ≡ nothing → Agrees (tells_on o.at s o.ring) a (with_ring w o.at.ring t)
kept_on w s e n place h m o a t shown all is =
    let x = all (calls_off_links s) o.carries in
    agrees_by (tells_on o.at s o.ring) (answers s nothing) a (with_ring w o.at.ring t) (unless_is (owes o.at.side o.ring) _ _ x.0)
    (record { answer = sym is; showing = same_ring w s o.at.ring o.ring t shown.showing o.there (λ streams c. (all streams c).1) })

-- it finds no room, and has looked
full_on : (w : TheWorld) (s : State) (e : EndId) (n place : ℕ) (h : Stands w s e n place) (m : ℕ) (o : Owns w s e n place h m) (a : Answer) (t : TheDuo)
    → Shows w s → AllAgree s o.at.ring o.at.side o.ring no_room t → a ≡ full → Agrees (tells_on o.at s o.ring) a (with_ring w o.at.ring t)
full_on w s e n place h m o a t shown all is =
    let x = all (calls_off_links s) o.carries in
    let looked = looked_for o.at s in
    agrees_by (tells_on o.at s o.ring) (answers looked full) a (with_ring w o.at.ring t)
    (past_not (owes o.at.side o.ring) _ _ x.0
    ∙ ap (λ y. acknowledges_by o.at y looked) (room_there o.at s o.ring o.there) ∙ by (room_to_acknowledge o.at.side o.ring) x.1)
    (record {
      answer = sym is;
      showing = ring_frame w s o.at.ring o.ring (makes_sure for_acknowledgement o.at.side) t shown.showing o.there (λ streams c. (all streams c).2);
    })
  where
    by : (r : Room) → (r ≡ none_free) ⊎ (r ≡ used_up) → acknowledges_by o.at r (looked_for o.at s) ≡ answers (looked_for o.at s) full
    by r (inl q) = ap (λ y. acknowledges_by o.at y (looked_for o.at s)) q
    by r (inr q) = ap (λ y. acknowledges_by o.at y (looked_for o.at s)) q

-- ---- by where the end takes from

-- an end with a queue has no ring of its own
no_ring : (w : TheWorld) (s : State) (e : EndId) (n place : ℕ) (h : Stands w s e n place) (x : Queue) → Sound s → (end_in e.side h.binding).queue ≡ Some x
    → own_ring e.side h.binding.back ≡ None
no_ring w s e n place h x sound q = by h.binding.back refl
  where
    by : (back : Back) → h.binding.back ≡ back → own_ring e.side back ≡ None
    by local k = refl
    by (over_ring j) k =
        let takes = subst (λ (y : Back). EndTakesFrom s y (end_in e.side h.binding)) k (takes_from_of w s e n place h sound) in
        absurd (let z : true ≡ false = sym (ap is_some q) ∙ none (end_in e.side h.binding).queue takes.0 in cc)
      where
        none : (o : Option Queue) → IsNone o → is_some o ≡ false
        none None r = refl
        none (Some y) r = absurd (let z : true ≡ false = r in cc)
    by (over_route r) k = refl

-- it has nothing to tell, or isn't bound
tells_nothing : (w v : TheWorld) (s : State) (e : EndId) (n place : ℕ) (h : Stands w s e n place) (a : Answer) (x : Queue) → Shows w s
    → (end_in e.side h.binding).queue ≡ Some x → TellsNothing h.at.end a → v ≡ w → Agrees (acks_by e h.binding s) a v
tells_nothing w v s e n place h a x shown q (inl t) r =
    agrees_by (acks_by e h.binding s) (answers s (refused 43)) a v
    (unless_is (is_bound (end_in e.side h.binding)) _ _ (bound_is w s e n place h ∙ none_is h.at.end.circuit t.0))
    (same_answer w v s a (refused 43) shown.showing t.1 r)
tells_nothing w v s e n place h a x shown q (inr t) r =
    agrees_by (acks_by e h.binding s) (answers s nothing) a v
    (past_not (is_bound (end_in e.side h.binding)) _ _ (bound_is w s e n place h ∙ some_is h.at.end.circuit t.0)
    ∙ ap (λ o. given o (answers s nothing) (λ at. acknowledges_on at s)) (no_ring w s e n place h x shown.sound q))
    (same_answer w v s a nothing shown.showing t.1 r)

seat_here : (w : TheWorld) (s : State) (e : EndId) (n place : ℕ) (h : Stands w s e n place) (c : TheCore) (x : TheEndAtChannel) → c ≡ h.core
    → slice_get c.board.seats place ≡ Some x → x ≡ h.at
seat_here w s e n place h c x core q =
    same_some (slice_get h.core.board.seats place) x h.at (ap (λ (y : TheCore). slice_get y.board.seats place) (sym core) ∙ q) h.at_is

-- by what the end made of it
acked : (w v : TheWorld) (s : State) (e : EndId) (n place : ℕ) (h : Stands w s e n place) (m : ℕ) (o : Owns w s e n place h m) (a : Answer)
    (p q : DuoSide) (r : Result AckAnswer BoardFault) → Shows w s → p.which ≡ which_at m → p.duo.now ≡ o.duo → v ≡ with_ring w o.at.ring q.duo.now
    → Acks SideTakes kind.Ring h.at.end p r q → IsAcked r a → Agrees (acks_by e h.binding s) a v
acked w v s e n place h m o a p q r shown which now world acks is = by r acks is
  where
    bound : IsSome h.at.end.circuit → acks_by e h.binding s ≡ tells_on o.at s o.ring
    bound k =
        past_not (is_bound (end_in e.side h.binding)) _ _ (bound_is w s e n place h ∙ some_is h.at.end.circuit k)
        ∙ ap (λ y. given y (answers s nothing) (λ at. acknowledges_on at s)) o.own ∙ on_ring o.at s o.ring o.there

    all : (look : Look) → SideTakes p look q → AllAgree s o.at.ring o.at.side o.ring look q.duo.now
    all look k = all_agree w s e n place h m o look q.duo.now shown (own_takes w s e n place h m o p q look which now k)

    over : IsSome h.at.end.circuit → Agrees (tells_on o.at s o.ring) a (with_ring w o.at.ring q.duo.now) → Agrees (acks_by e h.binding s) a v
    over k g =
        agrees_by (acks_by e h.binding s) (tells_on o.at s o.ring) a v (bound k)
        (in_world (tells_on o.at s o.ring) a v (with_ring w o.at.ring q.duo.now) world g)

    by : (r : Result AckAnswer BoardFault) → Acks SideTakes kind.Ring h.at.end p r q → IsAcked r a → Agrees (acks_by e h.binding s) a v
    by (Ok ack.Done) u i = over u.0 (told_on w s e n place h m o a q.duo.now shown (all told u.1) i)
    by (Ok ack.Nothing) u i = over u.0 (kept_on w s e n place h m o a q.duo.now shown (all kept u.1) i)
    by (Ok ack.Full) u i = over u.0 (full_on w s e n place h m o a q.duo.now shown (all no_room u.1) i)
    by (Err NotBound) u i =
        agrees_by (acks_by e h.binding s) (answers s (refused 43)) a v
        (unless_is (is_bound (end_in e.side h.binding)) _ _ (bound_is w s e n place h ∙ none_is h.at.end.circuit u.0))
        (same_answer w v s a (refused 43) shown.showing i
        (world ∙ ap (with_ring w o.at.ring) (ap (λ (x : DuoSide). x.duo.now) u.1 ∙ now)
        ∙ ap (λ rs. let x : TheWorld = record w { rings = rs } in x) (set_same w.rings o.at.ring o.duo o.duo_is)))
    by (Err Registered) u i = absurd u
    by (Err NotRegistered) u i = absurd u
    by (Err TooManyEnds) u i = absurd u
    by (Err Failed) u i = absurd u
    by (Err Memory) u i = absurd u

acks_over : (w v : TheWorld) (s : State) (e : EndId) (n place : ℕ) (h : Stands w s e n place) (a : Answer) (core : TheCore) → Shows w s → core ≡ h.core
    → (wiring : EndWiring) → h.wired_end.wiring ≡ wiring → AcksOver (inlet_by wiring) core n (answer_at place a) w v → Agrees (acks_by e h.binding s) a v
acks_over w v s e n place h a core shown same (Queues out from) q u =
    let k = subst (IsWiring w h.core s e h.binding) q h.wiring in
    let x = seat_here w s e n place h core u.0.0 same u.0.1 in
    tells_nothing w v s e n place h a k.1.queue shown k.1.queue_is (subst (λ (y : TheEndAtChannel). TellsNothing y.end a) x u.0.2) u.1
acks_over w v s e n place h a core shown same (Circuit l b) q u =
    let k = subst (IsWiring w h.core s e h.binding) q h.wiring in
    let x = seat_here w s e n place h core u.0.0 same u.0.1 in
    tells_nothing w v s e n place h a k.1.queue shown k.1.queue_is (subst (λ (y : TheEndAtChannel). TellsNothing y.end a) x u.0.2) u.1
acks_over w v s e n place h a core shown same (OverRing m) q (inr u) =
    let o = owns_ring w s e n place h m shown (subst (IsWiring w h.core s e h.binding) q h.wiring) in
    not_both (slice_get w.rings o.at.ring) o.duo (ap (slice_get w.rings) (sym o.ring_is) ∙ u.0) o.duo_is
acks_over w v s e n place h a core shown same (OverRing m) q (inl u) =
    let o = owns_ring w s e n place h m shown (subst (IsWiring w h.core s e h.binding) q h.wiring) in
    let before : u.before ≡ h.core = same_some (slice_get w.cores n) u.before h.core u.before_is h.core_is in
    let x = seat_here w s e n place h u.before u.event.1.0 before u.event.1.1 in
    let kinds : h.at.kind ≡ kind.Ring = kind_is w s e n place h (subst (λ (y : TheCore). IsCore y) before u.whole.core) ∙ ap kind_of q in
    let ring : u.ring ≡ o.duo = same_some (slice_get w.rings o.at.ring) u.ring o.duo (ap (slice_get w.rings) (sym o.ring_is) ∙ u.ring_is) o.duo_is in
    let cores : with_core w n u.after ≡ w
    = ap (with_core w n) u.event.2 ∙ ap (λ cs. let y : TheWorld = record w { cores = cs } in y) (set_same w.cores n u.before u.before_is) in
    let world : v ≡ with_ring w o.at.ring u.left.duo.now
    = u.rest ∙ ap (λ (y : TheWorld). with_ring y (ring_at m) u.left.duo.now) cores ∙ ap (λ j. with_ring w j u.left.duo.now) o.ring_is in
    let acks : Acks SideTakes kind.Ring h.at.end u.side u.event.0 u.left
    = subst (λ y. Acks SideTakes y h.at.end u.side u.event.0 u.left) kinds
    (subst (λ (y : TheEndAtChannel). Acks SideTakes y.kind y.end u.side u.event.0 u.left) x u.event.1.2) in
    acked w v s e n place h m o a u.side u.left u.event.0 shown u.lent.which (u.lent.ring ∙ ring) world acks u.event.3

pub acknowledges_agree : AcknowledgesAgree
acknowledges_agree e w v s a shown event = by (location_of w e) refl event
  where
    by : (location : WhereEnd) → location_of w e ≡ location → AcksAt location w a v → Agrees (acknowledges_end e s) a v
    by nowhere q u =
        agrees_by (acknowledges_end e s) (answers s (refused 92)) a v (acks_at e s None (find_none w s e shown.showing q))
        (refuses w v s a 92 shown.showing u)
    by unmade q u =
        let h = find_unmade w s e shown q in
        agrees_by (acknowledges_end e s) (answers s (refused 43)) a v
        (acks_at e s (Some h.binding) h.binding_is ∙ unless_is (is_bound (end_in e.side h.binding)) _ _ (unbound w s e h))
        (refuses w v s a 43 shown.showing u)
    by (made n place) q u =
        let h = find_made w s e n place shown q in
        let i = inlet_is w s e n place h u.0 u.1.0 in
        let core : u.1.0.core ≡ h.core = same_some (slice_get w.cores n) u.1.0.core h.core u.1.0.core_is h.core_is in
        agrees_by (acknowledges_end e s) (acks_by e h.binding s) a v (acks_at e s (Some h.binding) h.binding_is)
        (acks_over w v s e n place h a u.1.0.core shown core h.wired_end.wiring refl (subst (λ y. AcksOver y u.1.0.core n (answer_at place a) w v) i u.1.1))
