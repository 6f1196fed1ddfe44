-- The payload words of a fragment, stored or loaded one by one.
use Rattle.std.proofs.Common.{ℕ, ◌≡◌, ◌<◌, List, [], ◌∷◌, ◌++◌, length, take, ap, subst, ◌∙◌, sym, arith}
use Rattle.std.proofs.lemmas.List.{length-take-le}
use Rattle.atomic_table.specs.Seated.{TableId}
use Rattle.fl_history_rings.specs.declared.board.SideEnd.{SideEnd}
use Rattle.fl_history_rings.specs.declared.board.Plan.{Plan}
use Rattle.fl_history_rings.specs.declared.board.Insight.{Insight}
use Rattle.fl_history_rings.specs.declared.board.Insight.TheVariants.{Nothing, Reading}
use Rattle.fl_history_rings.specs.declared.board.CoreView.{CoreView}
use Rattle.fl_history_rings.specs.declared.place.SlotPlace.{SlotPlace}
use Rattle.fl_history_rings.specs.Rule.{knowing, core_of, alone, part_in, control_in}
use Rattle.fl_history_rings.specs.Seats.{RingsSeat, view_at, put_insight, IsSeated, IsPutPlace, HasSlot, IsNextWord, IsReading}
use Rattle.fl_history_rings.proofs.Changes.{part_in_put}
use Rattle.fl_history_rings.proofs.Allowed.{Seated}
use Rattle.fl_history_rings.proofs.Rows.{me_with, sides_are, by_ends}

pub taken_length : (k : ℕ) (xs : List ℕ) → length xs ≡ 7 → k < 7 → length (take k xs) ≡ k
taken_length k xs seven lt = length-take-le k xs (omega arith)

-- ---- stored

pub none_stored : (table : TableId) (plan : Plan) (seat : RingsSeat) → IsSeated table plan seat → (view_at seat).knows ≡ Nothing → (k : ℕ) → seat.me ≡ alone (knowing (view_at seat) (put_insight k []))
none_stored table plan seat s rest k =
    by_ends (view_at seat).sides plan.sides.items (view_at seat).core (view_at seat).steps Nothing seat.me (sides_are table plan seat s) (me_with table plan seat s Nothing rest)

module _ (old new : RingsSeat) (place : SlotPlace) (part : List ℕ) (is : new.me ≡ alone (knowing (view_at old) (put_insight place.side part))) where
  -- what the core knows then
  pub view_is : view_at new ≡ knowing (view_at old) (put_insight place.side part)
  view_is = ap (λ (m : Seated). core_of m.0) is

  pub stored_place : (ends : List SideEnd) → IsPutPlace ends (view_at old) place → IsPutPlace ends (view_at new) place
  stored_place ends pp = subst (λ (h : CoreView). IsPutPlace ends h place) (sym view_is) (record { end = pp.end; there = pp.there; mine = pp.mine; base_is = pp.base_is; size_is = pp.size_is; index_is = pp.index_is })

  pub stored_room : HasSlot (view_at old) place → HasSlot (view_at new) place
  stored_room room = subst (λ (h : CoreView). HasSlot h place) (sym view_is) room

  pub stored_next : (k : ℕ) → length part ≡ k → k < 7 → IsNextWord (view_at new) place k
  stored_next k len small =
      subst (λ (h : CoreView). IsNextWord h place k) (sym view_is)
      (record {
        in_hand = ap (λ (l : List ℕ). put_insight place.side l) (sym (part_in_put place.side part));
        next = sym len ∙ ap length (sym (part_in_put place.side part));
        seven = small;
      })

  pub one_stored : (last : RingsSeat) (q : List ℕ) (x : ℕ) → last.me ≡ alone (knowing (view_at new) (put_insight place.side (part_in (view_at new).knows ++ x ∷ []))) → part ++ x ∷ [] ≡ q → last.me ≡ alone (knowing (view_at old) (put_insight place.side q))
  one_stored last q x now more =
      now ∙ ap (λ (h : CoreView). alone (knowing h (put_insight place.side (part_in h.knows ++ x ∷ [])))) view_is
      ∙ ap (λ (l : List ℕ). alone (knowing (view_at old) (put_insight place.side (l ++ x ∷ [])))) (part_in_put place.side part)
      ∙ ap (λ (l : List ℕ). alone (knowing (view_at old) (put_insight place.side l))) more

  -- with all of them
  pub all_stored : (q : List ℕ) → part ≡ q → new.me ≡ alone (knowing (view_at old) (put_insight place.side q))
  all_stored q same = is ∙ ap (λ (l : List ℕ). alone (knowing (view_at old) (put_insight place.side l))) same

-- ---- loaded

pub none_loaded : (table : TableId) (plan : Plan) (seat : RingsSeat) (place : SlotPlace) → IsSeated table plan seat → IsReading (view_at seat) place [] → seat.me ≡ alone (knowing (view_at seat) (Reading place.side [] (control_in (view_at seat).knows)))
none_loaded table plan seat place s reading =
    let i : Insight = Reading place.side [] (control_in (view_at seat).knows) in
    by_ends (view_at seat).sides plan.sides.items (view_at seat).core (view_at seat).steps i seat.me (sides_are table plan seat s) (me_with table plan seat s i reading.in_hand)

pub one_loaded : (h : CoreView) (k c : ℕ) (p q : List ℕ) (x : ℕ) (m : Seated) → m ≡ alone (knowing h (Reading k (p ++ x ∷ []) c)) → p ++ x ∷ [] ≡ q → m ≡ alone (knowing h (Reading k q c))
one_loaded h k c p q x m is more = is ∙ ap (λ (l : List ℕ). alone (knowing h (Reading k l c))) more
