-- The fragment that an end of a world would write next is the machine's.
use Rattle.std.proofs.Common.{◌≡◌, refl, sym, ◌∙◌, ap, subst, ℕ, ◌%◌, slice_get, Option, Some, None, Result, Ok, Err, inl, inr}
use Rattle.fl_base.specs.declared.fragment.Frag.{Frag}
use Rattle.fl_base.specs.declared.identity.EndId.{EndId}
use Rattle.fl_base.specs.Control.{stamped}
use Rattle.fl_base.specs.Ends.{other}
use Rattle.fl_base.specs.Given.{given}
use Rattle.fl_link.specs.Cursor.{epoch_at}
use Rattle.fl_link.specs.Queue.{TheQueue, next_epoch_of}
use Rattle.fl_ring.specs.Duo.{TheDuo, side_of as duo_side, got}
use Rattle.fl_endpoint.specs.declared.fault.EndFault.{EndFault}
use Rattle.fl_endpoint.specs.declared.fault.EndFault.TheVariants.{Spent, Busy, UnknownMessage, Misfit, NotBound, Failed, Wire as OnWiring, Memory}
use Rattle.fl_endpoint.specs.Events.{ShowsNext}
use Rattle.fl_core.specs.BoardView.{TheEndAtChannel}
use Rattle.fl_core.specs.declared.wiring.EndWiring.{EndWiring}
use Rattle.fl_core.specs.declared.wiring.EndWiring.TheVariants.{Queues, Ring as OverRing, Circuit}
use Rattle.fl_core.specs.declared.wiring.Outlet.{Outlet}
use Rattle.fl_core.specs.declared.wiring.Outlet.TheVariants as outlet
use Rattle.fl_core.specs.declared.wiring.WiredEnd.{WiredEnd}
use Rattle.fl_core.specs.View.{TheCore, outlet_of, outlet_by as outlet_on}
use Rattle.fl_model.specs.Events.{Answer, nothing, words, refused}
use Rattle.fl_model.specs.Calls.{Planned}
use Rattle.fl_model.specs.Rings.{RingEnd, read_by}
use Rattle.fl_model.specs.Ends.{is_bound}
use Rattle.fl_model.specs.State.{Binding, State, answers, binding_of, interface_of, end_in, own_ring, side_of, peer_queue, ring_side, outlet_by, Outlet as Goal}
use Rattle.fl_model.specs.Sending.{shows, shows_next, stamped_for, epoch_next}
use Rattle.fl_world_refines.specs.Rings.{which_of}
use Rattle.fl_world_refines.specs.EndLaws.{NextAgrees}
use Rattle.fl_world_refines.proofs.EndCalling.{next_agrees}
use Rattle.fl_world_refines.proofs.Leaving.{next_is_written}
use Rattle.fl_world_refines.proofs.Sides.{stamps}
use Rattle.fl_world_refines.proofs.Tests.{unless_is, past_not, else_is}
use Rattle.fl_world_refines.specs.View.{TheWorld, WhereEnd, nowhere, unmade, made, location_of, ring_at, side_in, side_at, which_at}
use Rattle.fl_world_refines.specs.ShowsState.{IsWiring, ShowsState, Shows}
use Rattle.fl_world_refines.specs.Sending.{IsShown, PreviewsWith, PreviewsOver, PreviewsAt}
use Rattle.fl_world_refines.specs.Laws.{Agrees, PreviewsAgree}
use Rattle.fl_world_refines.proofs.Frames.{Stands}
use Rattle.fl_world_refines.proofs.FramesBase.{gets, same_some, not_both}
use Rattle.fl_world_refines.proofs.FramesFind.{find_none, find_unmade, find_made}
use Rattle.fl_world_refines.proofs.Holding.{agrees_by, same_answer, refuses}
use Rattle.fl_world_refines.proofs.Listing.{unbound}
use Rattle.fl_world_refines.proofs.Owning.{owns_ring}
use Rattle.fl_world_refines.proofs.WritingStreams.{puts_on}
use Rattle.fl_world_refines.proofs.WritingQueues.{peer_of}

-- ---- in the machine

shown_at : (e : EndId) (s : State) (b : Binding) (i : Planned) → binding_of s e ≡ Some b → interface_of s b ≡ Some i
    → shows e s ≡ shows_next e i b (end_in e.side b) s
shown_at e s b i q r =
    ap (λ o. given o (answers s (refused 92)) (λ (x : Binding). given (interface_of s x) (answers s (refused 92)) (λ j. shows_next e j x (end_in e.side x) s))) q
    ∙ ap (λ o. given o (answers s (refused 92)) (λ j. shows_next e j b (end_in e.side b) s)) r

not_shown : (e : EndId) (s : State) → binding_of s e ≡ None → shows e s ≡ answers s (refused 92)
not_shown e s q =
    ap (λ o. given o (answers s (refused 92)) (λ (x : Binding). given (interface_of s x) (answers s (refused 92)) (λ j. shows_next e j x (end_in e.side x) s))) q

-- ---- by what the end shows

-- an outlet of the machine at which this epoch and this count are told
record TellsAt (w : TheWorld) (s : State) (e : EndId) (n place : ℕ) (h : Stands w s e n place) (epoch told : ℕ) : Type 0 where
  pub goal : Goal
  pub goal_is : outlet_by s e.side h.binding.back ≡ Some goal
  pub tells : (f : Frag) → stamped_for goal s f ≡ stamped f epoch told

previewed : (w v : TheWorld) (s : State) (e : EndId) (n place : ℕ) (h : Stands w s e n place) (epoch told : ℕ) (a : Answer) (r : Result (Option Frag) EndFault)
    → ShowsState w s → TellsAt w s e n place h epoch told → NextAgrees epoch told h.interface (end_in e.side h.binding) r → IsShown r a → v ≡ w
    → Agrees (shows_next e h.interface h.binding (end_in e.side h.binding) s) a v
previewed w v s e n place h epoch told a (Ok (Some frag)) p t g is same =
    let x = end_in e.side h.binding in
    agrees_by (shows_next e h.interface h.binding x s) (answers s (words frag)) a v
    (past_not (is_bound x) _ _ g.0
    ∙ ap (λ o. given o (answers s nothing) (λ f. given (outlet_by s e.side h.binding.back) (answers s nothing) (λ z. answers s (words (stamped_for z s f))))) g.1.1
    ∙ ap (λ o. given o (answers s nothing) (λ z. answers s (words (stamped_for z s g.1.0)))) t.goal_is
    ∙ ap (λ f. answers s (words f)) (t.tells g.1.0 ∙ sym g.1.2))
    (same_answer w v s a (words frag) p is same)
previewed w v s e n place h epoch told a (Ok None) p t g is same =
    let x = end_in e.side h.binding in
    agrees_by (shows_next e h.interface h.binding x s) (answers s nothing) a v
    (past_not (is_bound x) _ _ g.0
    ∙ ap (λ o. given o (answers s nothing) (λ f. given (outlet_by s e.side h.binding.back) (answers s nothing) (λ z. answers s (words (stamped_for z s f))))) g.1)
    (same_answer w v s a nothing p is same)
previewed w v s e n place h epoch told a (Err NotBound) p t g is same =
    let x = end_in e.side h.binding in
    agrees_by (shows_next e h.interface h.binding x s) (answers s (refused 43)) a v (unless_is (is_bound x) _ _ g)
    (same_answer w v s a (refused 43) p is same)
previewed w v s e n place h epoch told a (Err Spent) p t g is same = absurd g
previewed w v s e n place h epoch told a (Err Busy) p t g is same = absurd g
previewed w v s e n place h epoch told a (Err UnknownMessage) p t g is same = absurd g
previewed w v s e n place h epoch told a (Err Misfit) p t g is same = absurd g
previewed w v s e n place h epoch told a (Err Failed) p t g is same = absurd g
previewed w v s e n place h epoch told a (Err (OnWiring f)) p t g is same = absurd g
previewed w v s e n place h epoch told a (Err Memory) p t g is same = absurd g

preview : (w v : TheWorld) (s : State) (e : EndId) (n place : ℕ) (h : Stands w s e n place) (epoch told : ℕ) (a : Answer) (core : TheCore)
    → ShowsState w s → core ≡ h.core → TellsAt w s e n place h epoch told → PreviewsWith epoch told core place a → v ≡ w
    → Agrees (shows_next e h.interface h.binding (end_in e.side h.binding) s) a v
preview w v s e n place h epoch told a core p same t u q =
    let seat : u.1.0 ≡ h.at
    = same_some (slice_get h.core.board.seats place) u.1.0 h.at (ap (λ (c : TheCore). slice_get c.board.seats place) (sym same) ∙ u.1.1) h.at_is in
    let g = next_agrees epoch told h.interface (end_in e.side h.binding) (end_in (other e.side) h.binding).out h.at.end u.0 h.shows
    (subst (λ (x : TheEndAtChannel). ShowsNext epoch told x.end u.0) seat u.1.2) in
    previewed w v s e n place h epoch told a u.0 p t g u.2 q

-- ---- by where the end puts

-- onto a ring, its epoch and the count that its side would tell
ring_tells : (w : TheWorld) (s : State) (e : EndId) (n place : ℕ) (h : Stands w s e n place) (m : ℕ) (at : RingEnd) (d : TheDuo) → Shows w s
    → outlet_by s e.side h.binding.back ≡ Some (ring_side at) → side_at m ≡ at → slice_get w.rings (ring_at m) ≡ Some d
    → TellsAt w s e n place h (epoch_at d.size (duo_side (which_at m) d).sent) (got (duo_side (which_at m) d) % 65536)
ring_tells w s e n place h m at d shown q same r =
    let p = puts_on s e h.binding h.interface at next_is_written shown.sound h.binding_is h.interface_is q in
    let duo : slice_get w.rings at.ring ≡ Some d = ap (λ (x : RingEnd). slice_get w.rings x.ring) (sym same) ∙ r in
    let k = stamps p.streams at.side p.ring d (shown.showing.rings.each at.ring p.ring d p.streams p.ring_is duo p.carries) in
    let side : which_of at.side ≡ which_at m = ap (λ (x : RingEnd). which_of x.side) (sym same) in
    record {
      goal = ring_side at;
      goal_is = q;
      tells = λ f.
          ap (λ o. given o f (λ x. stamped f (epoch_next at.side x) ((read_by at.side x).read % 65536))) p.ring_is
          ∙ ap (λ j. stamped f j ((read_by at.side p.ring).read % 65536)) (k.epoch ∙ ap (λ x. epoch_at d.size (duo_side x d).sent) side)
          ∙ ap (λ j. stamped f (epoch_at d.size (duo_side (which_at m) d).sent) j) (k.number ∙ ap (λ x. got (duo_side x d) % 65536) side);
    }

-- no ring is missing
ring_missing : {P : Type 0} (w : TheWorld) (s : State) (e : EndId) (n place : ℕ) (h : Stands w s e n place) (m : ℕ) (at : RingEnd) → Shows w s
    → outlet_by s e.side h.binding.back ≡ Some (ring_side at) → side_at m ≡ at → slice_get w.rings (ring_at m) ≡ None → P
ring_missing {P} w s e n place h m at shown q same r =
    let p = puts_on s e h.binding h.interface at next_is_written shown.sound h.binding_is h.interface_is q in
    let d = gets s.rings w.rings at.ring p.ring shown.showing.rings.count p.ring_is in
    not_both (slice_get w.rings at.ring) d.0 (ap (λ (x : RingEnd). slice_get w.rings x.ring) (sym same) ∙ r) d.1

over_side : (w v : TheWorld) (s : State) (e : EndId) (n place : ℕ) (h : Stands w s e n place) (m : ℕ) (at : RingEnd) (a : Answer) (core : TheCore) → Shows w s
    → core ≡ h.core → outlet_by s e.side h.binding.back ≡ Some (ring_side at) → side_at m ≡ at → PreviewsOver w core place (outlet.Side m) a v
    → Agrees (shows_next e h.interface h.binding (end_in e.side h.binding) s) a v
over_side w v s e n place h m at a core shown same q r (inl u) =
    preview w v s e n place h _ _ a core shown.showing same (ring_tells w s e n place h m at u.0 shown q r u.1) u.2 u.3
over_side w v s e n place h m at a core shown same q r (inr u) = ring_missing w s e n place h m at shown q r u.0

-- by its wiring
preview_over : (w v : TheWorld) (s : State) (e : EndId) (n place : ℕ) (h : Stands w s e n place) (a : Answer) (core : TheCore) (o : Outlet) → Shows w s
    → core ≡ h.core → (wiring : EndWiring) → h.wired_end.wiring ≡ wiring → outlet_on h.core.link_sides wiring ≡ Some o → PreviewsOver w core place o a v
    → Agrees (shows_next e h.interface h.binding (end_in e.side h.binding) s) a v
preview_over w v s e n place h a core o shown same (Queues out from) q r u =
    let o_is : o ≡ outlet.Queue out = same_some (outlet_on h.core.link_sides (Queues out from)) o (outlet.Queue out) r refl in
    by (subst (λ x. PreviewsOver w core place x a v) o_is u)
  where
    by : PreviewsOver w core place (outlet.Queue out) a v → Agrees (shows_next e h.interface h.binding (end_in e.side h.binding) s) a v
    by (inl x) =
        let p = peer_of w s e n place h out from shown q in
        let t : x.0 ≡ p.there = same_some (slice_get w.queues out) x.0 p.there x.1 p.there_is in
        let epoch : next_epoch_of x.0 ≡ 1 = else_is x.0.acked _ 1 (ap (λ (y : TheQueue). y.acked) t ∙ p.shows.freed) in
        preview w v s e n place h (next_epoch_of x.0) 0 a core shown.showing same (record {
          goal = peer_queue;
          goal_is = ap (outlet_by s e.side) p.back;
          tells = λ f. ap (λ j. stamped f j 0) (sym epoch);
        }) x.2 x.3
    by (inr x) =
        let p = peer_of w s e n place h out from shown q in
        not_both (slice_get w.queues out) p.there x.0 p.there_is
preview_over w v s e n place h a core o shown same (OverRing m) q r u =
    let k = owns_ring w s e n place h m shown (subst (IsWiring w h.core s e h.binding) q h.wiring) in
    let o_is : o ≡ outlet.Side m = same_some (outlet_on h.core.link_sides (OverRing m)) o (outlet.Side m) r refl in
    let at_is : k.at ≡ record { ring = k.at.ring; side = side_of e.side }
    = same_some (own_ring e.side h.binding.back) k.at _ k.own (ap (own_ring e.side) k.back) in
    let goal : outlet_by s e.side h.binding.back ≡ Some (ring_side k.at)
    = ap (outlet_by s e.side) k.back ∙ ap (λ x. Some (ring_side x)) (sym at_is) in
    let side : side_at m ≡ k.at = at_side m k.at k.ring_is k.side_is in
    over_side w v s e n place h m k.at a core shown same goal side (subst (λ x. PreviewsOver w core place x a v) o_is u)
  where
    at_side : (m : ℕ) (at : RingEnd) → ring_at m ≡ at.ring → side_in m ≡ at.side → side_at m ≡ at
    at_side m at x y =
        ap (λ j. let z : RingEnd = record { ring = j; side = side_in m } in z) x ∙ ap (λ by. let z : RingEnd = record { ring = at.ring; side = by } in z) y
preview_over w v s e n place h a core o shown same (Circuit l b) q r u =
    let k = subst (IsWiring w h.core s e h.binding) q h.wiring in
    let o_is : o ≡ outlet.Side k.0.0
    = same_some (outlet_on h.core.link_sides (Circuit l b)) o (outlet.Side k.0.0) r (ap (λ x. given x None (λ side. Some (outlet.Side side))) k.0.1) in
    over_side w v s e n place h k.0.0 (side_at k.0.0) a core shown same k.0.2 refl (subst (λ x. PreviewsOver w core place x a v) o_is u)

pub previews_agree : PreviewsAgree
previews_agree e w v s a shown event = by (location_of w e) refl event
  where
    by : (location : WhereEnd) → location_of w e ≡ location → PreviewsAt location w a v → Agrees (shows e s) a v
    by nowhere q u =
        agrees_by (shows e s) (answers s (refused 92)) a v (not_shown e s (find_none w s e shown.showing q)) (refuses w v s a 92 shown.showing u)
    by unmade q u =
        let h = find_unmade w s e shown q in
        agrees_by (shows e s) (answers s (refused 43)) a v
        (shown_at e s h.binding h.interface h.binding_is h.interface_is ∙ unless_is (is_bound (end_in e.side h.binding)) _ _ (unbound w s e h))
        (refuses w v s a 43 shown.showing u)
    by (made n place) q u =
        let h = find_made w s e n place shown q in
        let core : u.1.0.core ≡ h.core = same_some (slice_get w.cores n) u.1.0.core h.core u.1.0.core_is h.core_is in
        let o : outlet_on h.core.link_sides h.wired_end.wiring ≡ Some u.0
        = sym (ap (λ x. given x None (λ (p : WiredEnd). outlet_on h.core.link_sides p.wiring)) h.wired_end_is) ∙ ap (λ (c : TheCore). outlet_of c place) (sym core) ∙ u.1.0.outlet_is in
        agrees_by (shows e s) (shows_next e h.interface h.binding (end_in e.side h.binding) s) a v
        (shown_at e s h.binding h.interface h.binding_is h.interface_is)
        (preview_over w v s e n place h a u.1.0.core u.0 shown core h.wired_end.wiring refl o u.1.1)
