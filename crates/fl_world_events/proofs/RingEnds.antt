-- The ends of a binding over a new ring, from what their cores say of them.
use Rattle.std.proofs.Common.{◌≡◌, ◌≢◌, ◌<◌, ◌+◌, refl, sym, ap, ◌∙◌, subst, ℕ}
use Rattle.std.proofs.Common.{List, [], ◌∷◌, ◌++◌, length, slice_get, slice_set, slice_index_or, Option, Some, None}
use Rattle.std.proofs.lemmas.List.{length-map, get_or-set_other, get_or-set_same, set-set}
use Rattle.std.proofs.lemmas.Option.{slice_get_read, slice_get_within}
use Rattle.fl_base.specs.declared.identity.EndId.{EndId}
use Rattle.fl_base.specs.Given.{given}
use Rattle.fl_hop.proofs.Lists.{set_swap}
use Rattle.fl_lists.specs.declared.place.Place.TheVariants as place
use Rattle.fl_ring.specs.Duo.{TheDuo}
use Rattle.fl_core.specs.declared.kind.ChannelKind.TheVariants.{Ring as RingKind}
use Rattle.fl_core.specs.BoardView.{TheBoard}
use Rattle.fl_core.specs.BoardTurns.{lent}
use Rattle.fl_core.specs.declared.wiring.WiredEnd.{WiredEnd}
use Rattle.fl_core.specs.declared.wiring.EndWiring.TheVariants.{Ring}
use Rattle.fl_core.specs.View.{TheCore, arrivals_by, place_of}
use Rattle.fl_core.specs.Sound.{IsCore}
use Rattle.fl_core.specs.Making.{HasNewEnd, TakesBackEnd}
use Rattle.fl_model.specs.Events.{DispatcherId}
use Rattle.fl_model.specs.Views.{id_of}
use Rattle.fl_world_refines.specs.View.{IsWhole}
use Rattle.fl_world_events.specs.declared.by_ring.NewRingEnd.{NewRingEnd}
use Rattle.fl_world_events.specs.Parts.{InCore}
use Rattle.fl_world_events.specs.RingEnds.{HasRoom, AddsEnd, TakesFromRing, RegistersOver, Joins, JoinsBoth}
use Rattle.fl_world_events.proofs.Lifts.{one_value}
use Rattle.fl_world_events.proofs.Makes.{taken_back}

-- ---- an end is added

last_of : {X : Type 0} (xs : List X) (x : X) → slice_get (xs ++ x ∷ []) (length xs) ≡ Some x
last_of [] x = refl
last_of (y ∷ xs) x = last_of xs x

as_many : (k : TheCore) → IsCore k → length k.board.seats ≡ length k.wired_ends
as_many k h = sym (length-map k.board.seats _) ∙ ap length h.kinds ∙ length-map k.wired_ends _

pub takes_from_ring : (x : NewRingEnd) (k k2 : TheCore) (e : ℕ) → IsCore k → AddsEnd x k e k2 → TakesFromRing k2 e
takes_from_ring x k k2 e sound ((e_is, (d, at, few, is)), grown) = record {
  seat = record { end = x.end; dispatcher = x.at.place; channel = length d.ends; kind = RingKind };
  seat_is = ap (λ (b : TheBoard). slice_get b.seats e) is ∙ ap (slice_get (k.board.seats ++ _ ∷ [])) e_is ∙ last_of k.board.seats _;
  kind = refl;
  lent =
      let wired_end : WiredEnd = record { name = x.name; wiring = Ring x.side } in
      let here : slice_get k2.wired_ends e ≡ Some wired_end
      = ap (λ (c : TheCore). slice_get c.wired_ends e) grown ∙ ap (slice_get (k.wired_ends ++ wired_end ∷ [])) (e_is ∙ as_many k sound) ∙ last_of k.wired_ends wired_end in
      ap (λ (o : Option WiredEnd). given o None λ p. arrivals_by p.wiring) here;
}

-- ---- it is registered

pub end_joins : (x : NewRingEnd) (ring ring2 : TheDuo) (k k1 k2 : TheCore) (e : ℕ) → IsWhole k → AddsEnd x k e k1 → ring2 ≡ ring → InCore (RegistersOver x.side e ring2) k1 k2
    → InCore (Joins x ring) k k2
end_joins x ring ring2 k k1 k2 e whole adds same h = record {
  whole = whole;
  still = h.still;
  event = record {
    place = e;
    added = k1;
    adds = adds;
    registers = subst (λ (r : TheDuo). RegistersOver x.side e r k1 k2) same h.event;
  };
}

-- ---- both

-- where an end may be made at a core that was read
module _ (xs : List TheCore) (d : DispatcherId) (name : EndId) (room : HasRoom xs d name) where
  pub room_below : d.core < length xs
  room_below = slice_get_within xs d.core room.core room.core_is

  room_is : (k : TheCore) → k ≡ slice_index_or xs d.core k → room.core ≡ k
  room_is k read = one_value room.core k (sym room.core_is ∙ slice_get_read xs (length xs) d.core k refl room_below read)

  pub room_there : (k : TheCore) → k ≡ slice_index_or xs d.core k → d.place < length k.board.dispatchers
  room_there k read = subst (λ (c : TheCore). d.place < length c.board.dispatchers) (room_is k read) room.there

  pub room_new : (k : TheCore) → k ≡ slice_index_or xs d.core k → place_of k name ≡ None
  room_new k read = subst (λ (c : TheCore). place_of c name ≡ None) (room_is k read) room.new

-- k is the core of the first end, k1 the same with the end; l is the core of the second
module _ (x y : NewRingEnd) (ring : TheDuo) (xs : List TheCore) (first : HasRoom xs (id_of x.at) x.name) (second : HasRoom xs (id_of y.at) y.name)
    (apart : x.at.core ≢ y.at.core) (k k1 l : TheCore) (k_is : k ≡ slice_index_or xs x.at.core k) (whole : IsWhole k)
    (e : ℕ) (adds : AddsEnd x k e k1) (l_is : l ≡ slice_index_or (slice_set xs x.at.core k1) y.at.core l) where
  elsewhere : l ≡ slice_index_or xs y.at.core l
  elsewhere = l_is ∙ get_or-set_other xs x.at.core y.at.core k1 l (λ e. apart (sym e))

  pub second_there : y.at.place < length l.board.dispatchers
  second_there = room_there xs (id_of y.at) y.name second l elsewhere

  pub second_new : place_of l y.name ≡ None
  second_new = room_new xs (id_of y.at) y.name second l elsewhere

  -- at the first core there is still what was put there
  back_at_first : (l2 m : TheCore) → m ≡ slice_index_or (slice_set (slice_set xs x.at.core k1) y.at.core l2) x.at.core m → m ≡ k1
  back_at_first l2 m m_is =
      m_is ∙ get_or-set_other (slice_set xs x.at.core k1) y.at.core x.at.core l2 m apart
      ∙ get_or-set_same xs x.at.core k1 m (room_below xs (id_of x.at) x.name first)

  module _ (l2 m : TheCore) (m_is : m ≡ slice_index_or (slice_set (slice_set xs x.at.core k1) y.at.core l2) x.at.core m) where
    pub first_registers : TakesFromRing m e
    first_registers = subst (λ (c : TheCore). TakesFromRing c e) (sym (back_at_first l2 m m_is)) (takes_from_ring x k k1 e whole.core adds)

    pub has_new : x.name.binding < 1024 → HasNewEnd m
    has_new few = record {
      before = k;
      sound = whole.core;
      board = whole.board;
      dispatcher = x.at.place;
      end = x.end;
      wired_end = record { name = x.name; wiring = Ring x.side };
      few = few;
      new = room_new xs (id_of x.at) x.name first k k_is;
      place = e;
      adds = subst (λ (c : TheCore). AddsEnd x k e c) (sym (back_at_first l2 m m_is)) adds;
    }

    -- where the second is refused the first is taken back
    pub none_left : x.name.binding < 1024 → l2 ≡ l → (m2 : TheCore) → TakesBackEnd m m2
        → slice_set (slice_set (slice_set xs x.at.core k1) y.at.core l2) x.at.core m2 ≡ xs
    none_left few kept m2 back =
        taken_back xs x.at.core y.at.core k k1 l l2 m2 k_is l_is kept
        (back k x.at.place x.end (record { name = x.name; wiring = Ring x.side }) e few (room_new xs (id_of x.at) x.name first k k_is)
        (subst (λ (c : TheCore). AddsEnd x k e c) (sym (back_at_first l2 m m_is)) adds))

    pub joins_both : (m2 : TheCore) (ring2 : TheDuo) → ring2 ≡ ring → InCore (Joins y ring) l l2 → InCore (RegistersOver x.side e ring2) m m2
        → JoinsBoth x y ring xs (slice_set (slice_set (slice_set xs x.at.core k1) y.at.core l2) x.at.core m2)
    joins_both m2 ring2 same server client = record {
      first = k;
      first_is = slice_get_read xs (length xs) x.at.core k refl (room_below xs (id_of x.at) x.name first) k_is;
      first_after = m2;
      client = end_joins x ring ring2 k k1 m2 e whole adds same (subst (λ (c : TheCore). InCore (RegistersOver x.side e ring2) c m2) (back_at_first l2 m m_is) client);
      second = l;
      second_is = slice_get_read xs (length xs) y.at.core l refl (room_below xs (id_of y.at) y.name second) elsewhere;
      second_after = l2;
      server = server;
      rest = ap (λ (ys : List TheCore). slice_set ys x.at.core m2) (set_swap xs x.at.core y.at.core k1 l2 apart)
          ∙ set-set (slice_set xs y.at.core l2) x.at.core k1 m2 ∙ set_swap xs y.at.core x.at.core l2 m2 (λ e. apart (sym e));
    }
