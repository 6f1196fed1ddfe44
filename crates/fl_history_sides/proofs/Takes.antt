-- Looks and takes of a side, as it is shown.
use Rattle.std.proofs.Common.{ℕ, ◌≡◌, ◌≢◌, ◌≤◌, Bool, true, false, if◌then◌else◌, Option, Some, None, MatchOption, ◌∷◌, [], length, ap, subst, ◌∙◌, sym, refl}
use Rattle.fl_base.specs.declared.fragment.Frag.{Frag}
use Rattle.fl_base.specs.Control.{is_ack_only, bare}
use Rattle.fl_link.specs.declared.sides.Sight.TheVariants.{Data, Acknowledgement}
use Rattle.fl_link.specs.Looks.{Look, saw, saw_ack, found, found_ack, missed, peeked, taken}
use Rattle.fl_link.specs.Queue.{look_at}
use Rattle.fl_ring.specs.SharedSeats.{front_seen}
use Rattle.fl_ring.specs.SharedSides.{TheSide, SharedTakes, KnowsSent, SideMayCome, SideSees, SideGets}
use Rattle.fl_history_rings.specs.declared.board.Action.TheVariants.{Found, Missed, Saw, Took}
use Rattle.fl_history_rings.specs.declared.place.RingSide.{RingSide}
use Rattle.fl_history_rings.specs.Rule.{seen_at, puts_at}
use Rattle.fl_history_rings.specs.Cores.{TheCore}
use Rattle.fl_history_rings.specs.Sides.{SideFor, Misses, Sees, Takes, counting, having_taken}
use Rattle.fl_history_sides.specs.Lent.{sight_in}
use Rattle.fl_history_sides.proofs.Steps.{after_missed, after_seen, after_taken}
use Rattle.fl_history_sides.proofs.Calls.{shared_of, counts_of, Does}

-- where nothing is found nothing was seen, and what is found is what was seen
unseen : (seen : Option Frag) → ((frag : Frag) → seen ≡ Some frag → (let none : Option Frag = None in none ≡ Some frag)) → (let nothing : Option Frag = None in seen ≡ nothing)
unseen None again = refl
unseen (Some frag) again = let no = again frag refl in absurd (cc)

same_frag : (f g : Frag) → (let found_one : Option Frag = Some f in found_one ≡ Some g) → f ≡ g
same_frag f g same = cc

-- ---- labels

peeked_by : (f : Frag) (b : Bool) → peeked (if b then Acknowledgement else Data f) ≡ (if b then saw_ack else saw (bare f))
peeked_by f true = refl
peeked_by f false = refl

abbrev pub got_as : Look → Look
got_as (saw frag) = found frag
got_as saw_ack = found_ack
got_as look = look

taken_by : (f : Frag) (b : Bool) → taken (if b then Acknowledgement else Data f) ≡ got_as (if b then saw_ack else saw (bare f))
taken_by f true = refl
taken_by f false = refl

-- after a look that saw something it is that again
pub again_front : (seen was : Option Frag) → ((f : Frag) → was ≡ Some f → seen ≡ Some f) → (look : Look) → look ≢ missed → front_seen was ≡ look → peeked (sight_in seen) ≡ look
again_front seen None again look ne is = absurd (ne (sym is))
again_front seen (Some g) again look ne is = ap (λ (o : Option Frag). peeked (sight_in o)) (again g refl) ∙ (peeked_by g (is_ack_only g) ∙ is)

pub again_taken : (seen was : Option Frag) → ((f : Frag) → was ≡ Some f → seen ≡ Some f) → (look : Look) → look ≢ missed → front_seen was ≡ look → taken (sight_in seen) ≡ got_as look
again_taken seen None again look ne is = absurd (ne (sym is))
again_taken seen (Some g) again look ne is = ap (λ (o : Option Frag). taken (sight_in o)) (again g refl) ∙ (taken_by g (is_ack_only g) ∙ ap got_as is)

call_by : (f frag : Frag) (b : Bool) → is_ack_only f ≡ b → (if b then Acknowledgement else Data f) ≡ Data frag → is_ack_only frag ≡ false
call_by f frag true is same = absurd (cc)
call_by f frag false is same = let one : f ≡ frag = cc in ap is_ack_only (sym one) ∙ is

pub is_call : (seen : Option Frag) (frag : Frag) → sight_in seen ≡ Data frag → is_ack_only frag ≡ false
is_call None frag same = absurd (cc)
is_call (Some f) frag same = call_by f frag (is_ack_only f) refl same

module _ (c : TheCore) (a : RingSide) (at : SideFor c a) (t : TheCore) (b : RingSide) (after : SideFor t b) where
  -- what it knows to be taken it put
  knows_sent : b.put.side ≡ a.put.side → KnowsSent (shared_of t b)
  knows_sent same =
      let sent = (counts_of t b after).sent in
      let known = (counts_of t b after).known in
      let less = after.known_put in
      subst (λ (k : ℕ). k ≤ length (puts_at b.put.side t.steps)) (sym known) (subst (λ (k : ℕ). b.known ≤ k) (sym sent) less)

  missed_so : ((frag : Frag) → seen_at a.put.side c.steps ≡ Some frag → (let none : Option Frag = None in none ≡ Some frag)) → Misses c a b t → SharedTakes (shared_of c a) missed (shared_of t b) × Does c a missed t b
  missed_so again (is, same) = (
    (
      unseen (seen_at a.put.side c.steps) again,
      ap (λ (x : RingSide). shared_of t x) same ∙ ap (λ (x : TheCore). shared_of x a) is ∙ after_missed c.table a.put.cursor.size a.put.side c.number c.steps,
    ),
    record { did = Missed ∷ []; notes = refl; then_is = is; number = ap (λ (x : RingSide). x.put.side) same },
  )

  module _ (frag : Frag) (again : (f : Frag) → seen_at a.put.side c.steps ≡ Some f → (let found_one : Option Frag = Some frag in found_one ≡ Some f)) where
    comes : SideMayCome (shared_of c a) frag
    comes = λ f was. same_frag frag f (again f was)

    module _ (sees : Sees c a frag b t) where
      seen_number : b.put.side ≡ a.put.side
      seen_number = ap (λ (x : RingSide). x.put.side) sees.1

      side_sees : SideSees (shared_of c a) frag (shared_of t b)
      side_sees = (
        comes,
        ap (λ (x : RingSide). shared_of t x) sees.1 ∙ ap (λ (x : TheCore). shared_of x (counting a frag.control)) sees.0 ∙ after_seen c.table a.put.cursor.size a.put.side c.number c.steps frag,
        knows_sent seen_number,
      )

      seen_so : (ack : Bool) → is_ack_only frag ≡ ack → SharedTakes (shared_of c a) (peeked (if ack then Acknowledgement else Data frag)) (shared_of t b) × Does c a (peeked (if ack then Acknowledgement else Data frag)) t b
      seen_so true is =
          let look : look_at frag ≡ saw_ack = ap (λ (x : Bool). if x then saw_ack else saw (bare frag)) is in
          ((frag, look, side_sees), record { did = Found frag.control ∷ Saw frag ∷ []; notes = (frag, look, refl); then_is = sees.0; number = seen_number })
      seen_so false is =
          let look : look_at frag ≡ saw (bare frag) = ap (λ (x : Bool). if x then saw_ack else saw (bare frag)) is in
          ((frag, look, side_sees), record { did = Found frag.control ∷ Saw frag ∷ []; notes = (frag, look, refl); then_is = sees.0; number = seen_number })

    module _ (takes : Takes c a frag b t) where
      taken_number : b.put.side ≡ a.put.side
      taken_number = ap (λ (x : RingSide). x.put.side) takes.1

      side_gets : SideGets (shared_of c a) frag (shared_of t b)
      side_gets = (
        comes,
        ap (λ (x : RingSide). shared_of t x) takes.1 ∙ ap (λ (x : TheCore). shared_of x (having_taken (counting a frag.control))) takes.0 ∙ after_taken c.table a.put.cursor.size a.put.side c.number c.steps frag,
        knows_sent taken_number,
      )

      taken_so : (ack : Bool) → is_ack_only frag ≡ ack → SharedTakes (shared_of c a) (taken (if ack then Acknowledgement else Data frag)) (shared_of t b) × Does c a (taken (if ack then Acknowledgement else Data frag)) t b
      taken_so true is =
          let look : look_at frag ≡ saw_ack = ap (λ (x : Bool). if x then saw_ack else saw (bare frag)) is in
          ((frag, look, side_gets), record { did = Found frag.control ∷ Took frag ∷ []; notes = (frag, look, refl); then_is = takes.0; number = taken_number })
      taken_so false is =
          let look : look_at frag ≡ saw (bare frag) = ap (λ (x : Bool). if x then saw_ack else saw (bare frag)) is in
          ((frag, look, side_gets), record { did = Found frag.control ∷ Took frag ∷ []; notes = (frag, look, refl); then_is = takes.0; number = taken_number })

  -- ---- by what a call finds

  pub looks_so : (seen : Option Frag) → ((f : Frag) → seen_at a.put.side c.steps ≡ Some f → seen ≡ Some f) → MatchOption seen (Misses c a b t) (λ frag. Sees c a frag b t)
      → SharedTakes (shared_of c a) (peeked (sight_in seen)) (shared_of t b) × Does c a (peeked (sight_in seen)) t b
  looks_so None again misses = missed_so again misses
  looks_so (Some frag) again sees = seen_so frag again sees (is_ack_only frag) refl

  pub takes_so : (seen : Option Frag) → ((f : Frag) → seen_at a.put.side c.steps ≡ Some f → seen ≡ Some f) → MatchOption seen (Misses c a b t) (λ frag. Takes c a frag b t)
      → SharedTakes (shared_of c a) (taken (sight_in seen)) (shared_of t b) × Does c a (taken (sight_in seen)) t b
  takes_so None again misses = missed_so again misses
  takes_so (Some frag) again takes = taken_so frag again takes (is_ack_only frag) refl

  -- what was seen stands first
  pub front_so : (seen : Option Frag) → ((f : Frag) → seen_at a.put.side c.steps ≡ Some f → seen ≡ Some f) → MatchOption seen (Misses c a b t) (λ frag. Sees c a frag b t)
      → peeked (sight_in seen) ≡ front_seen (shared_of t b).peeked
  front_so None again misses =
      let so = (missed_so again misses).0 in
      sym (ap (λ (x : TheSide). front_seen x.peeked) so.1 ∙ ap front_seen so.0)
  front_so (Some frag) again sees = peeked_by frag (is_ack_only frag) ∙ sym (ap (λ (x : TheSide). front_seen x.peeked) (side_sees frag again sees).1)
