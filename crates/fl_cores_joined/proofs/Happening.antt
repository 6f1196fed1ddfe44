-- There are steps of a side whose loads find what stands there.
use Rattle.std.proofs.Common.{◌≡◌, inl, inr, refl, sym, ℕ, ◌+◌, ◌/◌, ◌^◌, ◌<◌, ◌≤◌, false, List, [], ◌∷◌, length, None, arith}
use Rattle.fl_base.specs.declared.fragment.Frag.{Frag}
use Rattle.fl_base.specs.Control.{is_ack_only}
use Rattle.fl_link.specs.Looks.{placed, no_room, saw, found, missed, told}
use Rattle.fl_link.specs.Queue.{look_at}
use Rattle.fl_ring.specs.Duo.{acknowledgement}
use Rattle.fl_ring.specs.SharedSides.{TheSide, SharedPuts, SharedTakes, SideMayCome, MayStand, KnowsSent, free_of, unacknowledged_of, side_written, side_seen, side_taken, side_missed}
use Rattle.fl_world_refines.proofs.FramesBase.{not_both}
use Rattle.fl_world_refines.proofs.PassingLists.{some_is}
use Rattle.fl_cores_joined.specs.Rings.{FacingSide, standing_for, Truly, told_by, TrueStepsHappen}

no_more : {X : Type 0} (a : ℕ) → a < a → X
no_more a h = absurd (omega (arith, h))

no_one_more : {X : Type 0} (a : ℕ) → a + 1 ≡ a → X
no_one_more a e = absurd (omega (arith, e))

few : {X : Type 0} (s : TheSide) → free_of s < 2 → 2 ≤ free_of s → X
few s h room = absurd (omega (arith, h, room))

none_free : {X : Type 0} (s : TheSide) → free_of s < 1 → 1 ≤ free_of s → X
none_free s h room = absurd (omega (arith, h, room))

puts_so : (x : FacingSide) (frag : Frag) → is_ack_only frag ≡ false → length x.side.sent < 2 ^ 62 → 2 ≤ free_of x.side
    → Truly SharedPuts x (placed frag) (record x { side = side_written x.side frag })
puts_so x frag plain most room = (
  (plain, most, (x.side, record { by_known = λ h. refl; by_look = λ h. few x.side h room }, room, refl)),
  record { nothing = λ h. no_more x.side.misses h; something = λ same h. no_more x.side.loads h },
  refl,
)

takes_so : (x : FacingSide) (first frag : Frag) (rest : List Frag) → standing_for x.side x.across ≡ first ∷ rest → look_at first ≡ saw frag
    → SideMayCome x.side first → KnowsSent (side_taken x.side first) → Truly SharedTakes x (found frag) (record x { side = side_taken x.side first })
takes_so x first frag rest stood is may knows = (
  (first, is, (may, refl, knows)),
  record {
    nothing = λ h. no_more x.side.misses h;
    something = λ same h. record {
      first = first;
      rest = rest;
      stood_is = stood;
      known = refl;
      saw = λ f e. not_both None f refl e;
      took = inr refl;
    };
  },
  refl,
)

sees_so : (x : FacingSide) (first frag : Frag) (rest : List Frag) → standing_for x.side x.across ≡ first ∷ rest → look_at first ≡ saw frag
    → SideMayCome x.side first → KnowsSent (side_seen x.side first) → Truly SharedTakes x (saw frag) (record x { side = side_seen x.side first })
sees_so x first frag rest stood is may knows = (
  (first, is, (may, refl, knows)),
  record {
    nothing = λ h. no_more x.side.misses h;
    something = λ same h. record {
      first = first;
      rest = rest;
      stood_is = stood;
      known = refl;
      saw = λ f e. some_is f first (sym e);
      took = inl refl;
    };
  },
  refl,
)

misses_so : (x : FacingSide) → standing_for x.side x.across ≡ [] → x.side.peeked ≡ None
    → Truly SharedTakes x missed (record x { side = side_missed x.side })
misses_so x none unseen = (
  (unseen, refl),
  record { nothing = λ h. none; something = λ same h. no_one_more x.side.misses same },
  refl,
)

looks_so : (x : FacingSide) (first frag : Frag) (rest : List Frag) → is_ack_only frag ≡ false → length x.side.sent < 2 ^ 62 → free_of x.side < 2
    → standing_for x.side x.across ≡ first ∷ rest → SideMayCome x.side first → MayStand x.side first.control → KnowsSent (told_by x.side first)
    → 2 ≤ free_of (told_by x.side first) → Truly SharedPuts x (placed frag) (record x { side = side_written (told_by x.side first) frag })
looks_so x first frag rest plain most little stood is may knows room = (
  (
    plain,
    most,
    (
      told_by x.side first,
      record { by_known = λ h. few x.side little h; by_look = λ h. inr (first.control, may, refl, knows) },
      room,
      refl,
    ),
  ),
  record {
    nothing = λ h. no_more x.side.misses h;
    something = λ same h. record {
      first = first;
      rest = rest;
      stood_is = stood;
      known = refl;
      saw = λ f e. sym (is f e);
      took = inl refl;
    };
  },
  refl,
)

full_so : (x : FacingSide) → length x.side.sent < 2 ^ 62 → free_of x.side < 2 → standing_for x.side x.across ≡ [] → x.side.peeked ≡ None
    → Truly SharedPuts x no_room (record x { side = side_missed x.side })
full_so x most little none unseen = (
  (most, record { by_known = λ h. few x.side little h; by_look = λ h. inl (unseen, refl) }, little, little),
  record { nothing = λ h. none; something = λ same h. no_one_more x.side.misses same },
  refl,
)

tells_so : (x : FacingSide) → x.side.size / 2 ≤ unacknowledged_of x.side → length x.side.sent < 2 ^ 62 → 1 ≤ free_of x.side
    → Truly SharedTakes x told (record x { side = side_written x.side acknowledgement })
tells_so x enough most room = (
  (enough, most, (x.side, record { by_known = λ h. refl; by_look = λ h. none_free x.side h room }, room, refl)),
  record { nothing = λ h. no_more x.side.misses h; something = λ same h. no_more x.side.loads h },
  refl,
)

pub steps_happen : TrueStepsHappen
steps_happen = record {
  puts = puts_so;
  looks_and_puts = looks_so;
  finds_no_room = full_so;
  sees = sees_so;
  takes = takes_so;
  misses = misses_so;
  tells = tells_so;
}
