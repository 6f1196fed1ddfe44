-- Where fragments stand in a world, in the world's own words: on the link from one core to another, and
-- before an end.
use Rattle.std.specs.Prelude.{ℕ, ◌≡◌, ◌==◌, not, List, [], filter, map, slice_get, Some}
use Rattle.fl_base.specs.declared.fragment.Frag.{Frag}
use Rattle.fl_base.specs.declared.identity.EndId.{EndId}
use Rattle.fl_base.specs.Control.{bare, circuit_of, is_ack_only}
use Rattle.fl_base.specs.Given.{given}
use Rattle.fl_hop.specs.Table.{link_of}
use Rattle.fl_ring.specs.Duo.{side_of}
use Rattle.fl_core.specs.View.{TheCore, side_of_link}
use Rattle.fl_core.specs.declared.wiring.EndWiring.{EndWiring}
use Rattle.fl_core.specs.declared.wiring.EndWiring.TheVariants.{Queues, Ring as OverRing, Circuit}
use Rattle.fl_world_refines.specs.View.{TheWorld, ring_at, which_at}
use Rattle.fl_world_refines.specs.ShowsState.{wiring_of}

-- ---- places

-- before a side of one of the world's rings: what the other side has put there and this one hasn't taken
abbrev pub before_side : TheWorld → ℕ → List Frag
before_side w n = given (slice_get w.rings (ring_at n)) [] λ d. (side_of (which_at n) d).waiting

-- on the link from core a to core b: what stands before core b's side of the link's ring
abbrev pub on_the_link : TheWorld → ℕ → ℕ → List Frag
on_the_link w a b =
    given (slice_get w.cores b) [] λ c.
    given (link_of c.monitor.circuits a) [] λ l.
    given (side_of_link c.link_sides l) [] λ n.
    before_side w n

-- an end, at one of the world's cores, and its wiring there
pub record IsAt (w : TheWorld) (e : EndId) (c : TheCore) (wiring : EndWiring) : Type 0 where
  pub place : ℕ
  pub core_is : slice_get w.cores place ≡ Some c
  pub wiring_is : wiring_of c e ≡ Some wiring

-- before an end of core c with this wiring: in its local queue, on its binding's ring, or in its arrival
-- queue
abbrev pub before_end : TheWorld → TheCore → EndWiring → List Frag
before_end w c (Queues out from) = given (slice_get w.queues from) [] λ q. q.items
before_end w c (OverRing side) = before_side w side
before_end w c (Circuit link arrivals) = given (slice_get c.arrivals arrivals) [] λ q. q.items

-- ---- what is set aside

-- what links write into control words, which is the epoch and the count told: the fragments without it
abbrev pub aside : List Frag → List Frag
aside frags = map bare frags

-- of these fragments those on this circuit, in order
abbrev pub on_circuit : ℕ → List Frag → List Frag
on_circuit circuit frags = filter (λ (f : Frag). circuit_of f.control == circuit) frags

-- those that belong to calls: a ring has fragments that only acknowledge beside them, a queue has none
abbrev pub of_calls : EndWiring → List Frag → List Frag
of_calls (OverRing side) frags = filter (λ (f : Frag). not (is_ack_only f)) frags
of_calls wiring frags = frags
