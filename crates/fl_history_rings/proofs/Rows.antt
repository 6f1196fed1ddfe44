-- Steps in a row at a seat, at a place of one of its sides.
use Rattle.std.proofs.Common.{Some, ℕ, ◌≡◌, ◌≢◌, ◌<◌, ◌≤◌, ◌+◌, ◌*◌, ◌-◌, ◌%◌, ◌^◌, List, [], ◌∷◌, ◌++◌, length, take, set, ap, subst, ◌∙◌, sym, refl, arith}
use Rattle.std.proofs.lemmas.List.{length_push}
use mathlib.Core.Option.{some, none}
use lib.ListN.{get_elem?}
use Rattle.atomic_table.specs.Table.{step, Allows}
use Rattle.atomic_table.specs.Seated.{TableId}
use Rattle.fl_base.specs.declared.fragment.Frag.{Frag}
use Rattle.fl_base.specs.Control.{epoch_of, told_of}
use Rattle.fl_link.specs.Cursor.{epoch_at}
use Rattle.fl_ring.specs.Counts.{count_from}
use Rattle.fl_ring.specs.Way.{slot}
use Rattle.fl_ring.specs.SharedWay.{frag_from}
use Rattle.fl_ring.proofs.Places.{slot_within}
use Rattle.fl_ring.proofs.SharedRuns.{last_stored}
use Rattle.fl_ring.proofs.SharedLooks.{seven_words}
use Rattle.fl_history_rings.specs.declared.board.Action.{Action}
use Rattle.fl_history_rings.specs.declared.board.Action.TheVariants.{Put, Found, Missed, Saw, Took}
use Rattle.fl_history_rings.specs.declared.board.Entry.{Entry}
use Rattle.fl_history_rings.specs.declared.board.SideEnd.{SideEnd}
use Rattle.fl_history_rings.specs.declared.board.Plan.{Plan}
use Rattle.fl_history_rings.specs.declared.board.Insight.{Insight}
use Rattle.fl_history_rings.specs.declared.board.Insight.TheVariants.{Nothing, Writing, Reading}
use Rattle.fl_history_rings.specs.declared.board.CoreView.{CoreView}
use Rattle.fl_history_rings.specs.declared.place.SlotPlace.{SlotPlace}
use Rattle.fl_history_rings.specs.Rings.{mate, entry}
use Rattle.fl_history_rings.specs.Rule.{first_word, putter_of, RingsHold, view_of, knowing, with_action, one_core, core_of, alone, part_in, loaded_in, control_in, frag_in, puts_at, takes_at, known_at, seen_at, one_took, due_at}
use Rattle.fl_history_rings.specs.Rule.{finds_word, stores_word, stores_control, CountsSent, IsSeenControl, IsSeenFrag, looks, counts, loads_word, sees_frag, takes_frag}
use Rattle.fl_history_rings.specs.Seats.{RingsSeat, view_at, put_insight, IsSeated, IsPutPlace, IsTakePlace, HasSlot, IsNextWord, IsReading, CountsWithin}
use Rattle.fl_history_rings.proofs.Logs.{not_gathered}
use Rattle.fl_history_rings.proofs.Told.{seen_here}
use Rattle.fl_history_rings.proofs.Words.{mate_back, way_within, slot_putter, slots_here, slot_index}
use Rattle.fl_history_rings.proofs.Changes.{part_in_put}
use Rattle.fl_history_rings.proofs.Allowed.{Seated, allows_found, allows_stored, allows_put, allows_look, allows_count, allows_loaded, allows_saw, allows_took}

-- ---- views

-- with a word more, some are in hand
pub push_insight : (k : ℕ) (p : List ℕ) (x : ℕ) → Writing k (p ++ x ∷ []) ≡ put_insight k (p ++ x ∷ [])
push_insight k [] x = refl
push_insight k (y ∷ ys) x = refl

-- what a step tells, at the way that its word is of
told_so : (old new : Seated) (F : ℕ → CoreView) (y k : ℕ) → (let m : Seated = (one_core (F y), old.1) in new ≡ m) → y ≡ k → old.1 ≡ [] → new ≡ alone (F k)
told_so old new F y k told here held =
    told ∙ ap (λ (z : ℕ). let m : Seated = (one_core (F z), old.1) in m) here ∙ ap (λ (l : List (ℕ × Unit {0})). let m : Seated = (one_core (F k), l) in m) held

-- the table's ways, and those that a view names
pub by_ends : (ways ends : List SideEnd) (core : ℕ) (did : List Entry) (i : Insight) (m : Seated) → ways ≡ ends → m ≡ alone (view_of ends core did i) → m ≡ alone (view_of ways core did i)
by_ends ways ends core did i m same is = is ∙ ap (λ (w : List SideEnd). alone (view_of w core did i)) (sym same)

pub to_ends : (ways ends : List SideEnd) (core : ℕ) (did : List Entry) (i : Insight) (m : Seated) → ways ≡ ends → m ≡ alone (view_of ways core did i) → m ≡ alone (view_of ends core did i)
to_ends ways ends core did i m same is = is ∙ ap (λ (w : List SideEnd). alone (view_of w core did i)) same

-- the seat after a step
pub seated_after : (table : TableId) (plan : Plan) (old new : RingsSeat) (core : ℕ) (did : List Entry) (i : Insight) → IsSeated table plan old → new.table_id ≡ old.table_id → new.me ≡ alone (view_of plan.sides.items core did i) → IsSeated table plan new
seated_after table plan old new core did i s same is = record {
  same = same ∙ s.same;
  laid = s.laid;
  alone_is = is ∙ ap (λ (m : Seated). alone (view_of plan.sides.items (core_of m.0).core (core_of m.0).steps (core_of m.0).knows)) (sym is);
}

module _ (table : TableId) (plan : Plan) (seat : RingsSeat) (s : IsSeated table plan seat) where
  abbrev ends : List SideEnd
  ends = plan.sides.items

  abbrev h : CoreView
  h = view_at seat

  pub sides_are : (view_at seat).sides ≡ plan.sides.items
  sides_are = ap (λ (m : Seated). (core_of m.0).sides) s.alone_is

  pub none_held : seat.me.1 ≡ []
  none_held = ap (λ (m : Seated). m.1) s.alone_is

  -- with this in hand
  pub me_with : (i : Insight) → (view_at seat).knows ≡ i → seat.me ≡ alone (view_of plan.sides.items (view_at seat).core (view_at seat).steps i)
  me_with i is = s.alone_is ∙ ap (λ (x : Insight). alone (view_of ends h.core h.steps x)) is

  -- the seat, once more is in hand, or something more is done
  pub seated_knowing : (new : RingsSeat) (i : Insight) → new.table_id ≡ seat.table_id → new.me ≡ alone (knowing (view_at seat) i) → IsSeated table plan new
  seated_knowing new i same is = seated_after table plan seat new h.core h.steps i s same (to_ends h.sides ends h.core h.steps i new.me sides_are is)

  pub seated_acting : (new : RingsSeat) (k : ℕ) (d : Action) (i : Insight) → new.table_id ≡ seat.table_id → new.me ≡ alone (with_action (view_at seat) k d i) → IsSeated table plan new
  seated_acting new k d i same is =
      seated_after table plan seat new h.core (h.steps ++ entry h.core k d ∷ []) i s same (to_ends h.sides ends h.core (h.steps ++ entry h.core k d ∷ []) i new.me sides_are is)

  -- ---- words of a place, whose slots are those of the way of side w

  module _ (place : SlotPlace) (w : ℕ) (end : SideEnd) (there : get_elem? plan.sides.items w ≡ some end) (base_is : place.base ≡ first_word plan.sides.items w) (size_is : place.cursor.size ≡ end.slots) where
    pub some_slot : 0 < end.slots
    some_slot = (s.laid.some_slots w end there).0

    pub place_fits : (place.base + 8 * place.cursor.size < table.words) × (table.words < 2 ^ 64)
    place_fits = let inside = way_within ends w end there in (omega (arith, inside, base_is, size_is, s.laid.wide), s.laid.short)

    pub slot_low : (word k : ℕ) → k < 8 → word ≡ slot place.base place.cursor.size place.cursor.index + k → word < table.words
    slot_low word k small is =
        let any = some_slot in
        let inside = slot_within place.base place.cursor.size place.cursor.index (omega (arith, any, size_is)) in
        let fits = place_fits.0 in
        omega (arith, is, inside, fits, small)

    slot_at : (m word k : ℕ) → place.cursor.index ≡ m → word ≡ slot place.base place.cursor.size place.cursor.index + k → word ≡ slot (first_word plan.sides.items w) end.slots m + k
    slot_at m word k index is =
        is ∙ ap (λ (y : ℕ). slot y place.cursor.size place.cursor.index + k) base_is ∙ ap (λ (y : ℕ). slot (first_word ends w) y place.cursor.index + k) size_is ∙ ap (λ (y : ℕ). slot (first_word ends w) end.slots y + k) index

    -- the side that puts there, by the sides that the view names
    slot_here : (word k : ℕ) → k < 8 → word ≡ slot place.base place.cursor.size place.cursor.index + k → putter_of h.sides word ≡ w
    slot_here word k small is = ap (λ (l : List SideEnd). putter_of l word) sides_are ∙ slot_putter ends w end there word place.cursor.index k some_slot small (slot_at place.cursor.index word k refl is)

  pub put_low : (place : SlotPlace) (pp : IsPutPlace plan.sides.items (view_at seat) place) (word k : ℕ) → k < 8 → word ≡ slot place.base place.cursor.size place.cursor.index + k → word < table.words
  put_low place pp word k small is = slot_low place place.side pp.end pp.there pp.base_is pp.size_is word k small is

  pub put_fits : (place : SlotPlace) (pp : IsPutPlace plan.sides.items (view_at seat) place) → (place.base + 8 * place.cursor.size < table.words) × (table.words < 2 ^ 64)
  put_fits place pp = place_fits place place.side pp.end pp.there pp.base_is pp.size_is

  -- the other side of a ring, whose slots are taken from
  across : (place : SlotPlace) (pp : IsTakePlace plan.sides.items (view_at seat) place) → (other : SideEnd) × (get_elem? plan.sides.items (mate place.side) ≡ some other) × (other.slots ≡ pp.end.slots)
  across place pp = s.laid.paired place.side pp.end pp.there

  across_size : (place : SlotPlace) (pp : IsTakePlace plan.sides.items (view_at seat) place) → place.cursor.size ≡ (across place pp).0.slots
  across_size place pp = pp.size_is ∙ sym (across place pp).2

  pub take_low : (place : SlotPlace) (pp : IsTakePlace plan.sides.items (view_at seat) place) (word k : ℕ) → k < 8 → word ≡ slot place.base place.cursor.size place.cursor.index + k → word < table.words
  take_low place pp word k small is = let o = across place pp in slot_low place (mate place.side) o.0 o.1 pp.base_is (across_size place pp) word k small is

  pub take_fits : (place : SlotPlace) (pp : IsTakePlace plan.sides.items (view_at seat) place) → (place.base + 8 * place.cursor.size < table.words) × (table.words < 2 ^ 64)
  take_fits place pp = let o = across place pp in place_fits place (mate place.side) o.0 o.1 pp.base_is (across_size place pp)

  -- a word of a slot that is taken from, by the ring's slots, and the side that takes there
  take_at : (place : SlotPlace) (pp : IsTakePlace plan.sides.items (view_at seat) place) (m word k : ℕ) → place.cursor.index ≡ m → word ≡ slot place.base place.cursor.size place.cursor.index + k → word ≡ slot (first_word plan.sides.items (mate place.side)) pp.end.slots m + k
  take_at place pp m word k index is =
      is ∙ ap (λ (y : ℕ). slot y place.cursor.size place.cursor.index + k) pp.base_is ∙ ap (λ (y : ℕ). slot (first_word ends (mate place.side)) y place.cursor.index + k) pp.size_is
      ∙ ap (λ (y : ℕ). slot (first_word ends (mate place.side)) pp.end.slots y + k) index

  take_here : (place : SlotPlace) (pp : IsTakePlace plan.sides.items (view_at seat) place) (word k : ℕ) → k < 8 → word ≡ slot place.base place.cursor.size place.cursor.index + k → mate (putter_of h.sides word) ≡ place.side
  take_here place pp word k small is =
      let o = across place pp in
      ap mate (slot_here place (mate place.side) o.0 o.1 pp.base_is (across_size place pp) word k small is) ∙ mate_back place.side

  -- ---- a payload word found, and another stored there

  module _ (place : SlotPlace) (pp : IsPutPlace plan.sides.items (view_at seat) place) (k word : ℕ) (next : IsNextWord (view_at seat) place k) (is : word ≡ slot place.base place.cursor.size place.cursor.index + k) where
    abbrev part : List ℕ
    part = part_in h.knows

    small : k < 8
    small = let low = next.seven in omega (arith, low)

    word_is : word ≡ slot (first_word ends place.side) pp.end.slots (length (puts_at place.side h.steps)) + k
    word_is = slot_at place place.side pp.end pp.there pp.base_is pp.size_is (length (puts_at place.side h.steps)) word k pp.index_is is

    pub found_may : (slots id : ℕ) → Allows (RingsHold plan.sides.items) slots id seat.me word (λ x. x) (finds_word (step slots word 0 0 none) seat.me)
    found_may slots id =
        allows_found ends slots id place.side pp.end pp.there h.core h.steps pp.mine part (let low = next.seven in let so = next.next in omega (arith, low, so)) word
        (word_is ∙ ap (λ (y : ℕ). slot (first_word ends place.side) pp.end.slots (length (puts_at place.side h.steps)) + y) next.next)
        seat.me (me_with (put_insight place.side part) next.in_hand)

    -- the words so far, and this one
    pub after_found : (slots x : ℕ) (me1 : Seated) → finds_word (step slots word 0 0 none) seat.me x me1 → me1 ≡ alone (view_of plan.sides.items (view_at seat).core (view_at seat).steps (Writing place.side (part_in (view_at seat).knows ++ x ∷ [])))
    after_found slots x me1 told =
        to_ends h.sides ends h.core h.steps (Writing place.side (part ++ x ∷ [])) me1 sides_are
        (told_so seat.me me1 (λ y. knowing h (Writing y (part ++ x ∷ []))) (putter_of h.sides word) place.side told (slot_here place place.side pp.end pp.there pp.base_is pp.size_is word k small is) none_held)

    pub stored_may : HasSlot (view_at seat) place → (slots id x old : ℕ) (me1 : Seated) → me1 ≡ alone (view_of plan.sides.items (view_at seat).core (view_at seat).steps (Writing place.side (part_in (view_at seat).knows ++ old ∷ [])))
        → Allows (RingsHold plan.sides.items) slots id me1 word (λ _. x) (λ _. stores_word (step slots word x 0 none) me1 x)
    stored_may room slots id x old me1 now =
        let size = pp.size_is in
        let so = next.next in
        allows_stored ends slots id place.side pp.end pp.there h.core h.steps pp.mine (part ++ old ∷ []) k x (omega (arith, so, length_push part old)) next.seven (omega (arith, room, size)) word word_is
        me1 (now ∙ ap (λ (i : Insight). alone (view_of ends h.core h.steps i)) (push_insight place.side part old))

    pub after_stored : (slots x old : ℕ) (me1 me2 : Seated) → me1 ≡ alone (view_of plan.sides.items (view_at seat).core (view_at seat).steps (Writing place.side (part_in (view_at seat).knows ++ old ∷ [])))
        → stores_word (step slots word x 0 none) me1 x me2 → me2 ≡ alone (view_of plan.sides.items (view_at seat).core (view_at seat).steps (Writing place.side (part_in (view_at seat).knows ++ x ∷ [])))
    after_stored slots x old me1 me2 now told =
        let here : putter_of ends word ≡ place.side = slot_putter ends place.side pp.end pp.there word (length (puts_at place.side h.steps)) k (some_slot place place.side pp.end pp.there pp.base_is pp.size_is) small word_is in
        let index : (word - first_word ends (putter_of ends word)) % 8 ≡ k =
        ap (λ (y : ℕ). (word - first_word ends y) % 8) here ∙ slot_index (first_word ends place.side) pp.end.slots (length (puts_at place.side h.steps)) k word small word_is in
        told
        ∙ ap (λ (m : Seated).
        let y : Seated = (one_core (knowing (core_of m.0) (Writing (putter_of (core_of m.0).sides word) (take ((word - first_word (core_of m.0).sides (putter_of (core_of m.0).sides word)) % 8) (part_in (core_of m.0).knows) ++ x ∷ []))), m.1) in y) now
        ∙ ap (λ (y : ℕ). alone (view_of ends h.core h.steps (Writing (putter_of ends word) (take y (part ++ old ∷ []) ++ x ∷ [])))) index
        ∙ ap (λ (y : ℕ). alone (view_of ends h.core h.steps (Writing y (take k (part ++ old ∷ []) ++ x ∷ [])))) here
        ∙ ap (λ (l : List ℕ). alone (view_of ends h.core h.steps (Writing place.side l))) (last_stored part k old x next.next)

    -- as it is asked for
    pub word_stands : (x : ℕ) (m : Seated) → m ≡ alone (view_of plan.sides.items (view_at seat).core (view_at seat).steps (Writing place.side (part_in (view_at seat).knows ++ x ∷ [])))
        → m ≡ alone (knowing (view_at seat) (put_insight place.side (part_in (view_at seat).knows ++ x ∷ [])))
    word_stands x m now =
        by_ends h.sides ends h.core h.steps (Writing place.side (part ++ x ∷ [])) m sides_are now ∙ ap (λ (i : Insight). alone (knowing h i)) (push_insight place.side part x)

  -- ---- a fragment put

  module _ (place : SlotPlace) (pp : IsPutPlace plan.sides.items (view_at seat) place) (words : List ℕ) (x word : ℕ) (is : word ≡ slot place.base place.cursor.size place.cursor.index + 7) (me1 : Seated) (now : me1 ≡ alone (knowing (view_at seat) (put_insight place.side words))) where
    put_now : me1 ≡ alone (view_of ends h.core h.steps (put_insight place.side words))
    put_now = to_ends h.sides ends h.core h.steps (put_insight place.side words) me1 sides_are now

    pub put_may : length words ≡ 7 → HasSlot (view_at seat) place → place.cursor.index < 2 ^ 62 → epoch_of x ≡ epoch_at place.cursor.size place.cursor.index
        → told_of x ≡ length (takes_at place.side (view_at seat).steps) % 65536 → (slots id : ℕ) → Allows (RingsHold plan.sides.items) slots id me1 word (λ _. x) (λ _. stores_control (step slots word x 0 none) me1 x)
    put_may seven room unspent turn number slots id =
        let size = pp.size_is in
        let index = pp.index_is in
        allows_put ends slots id place.side pp.end pp.there h.core h.steps pp.mine words x seven (omega (arith, room, size)) (omega (arith, unspent, index))
        (turn ∙ ap (λ (y : ℕ). epoch_at y place.cursor.index) size ∙ ap (λ (y : ℕ). epoch_at pp.end.slots y) index) number word (slot_at place place.side pp.end pp.there pp.base_is pp.size_is (length (puts_at place.side h.steps)) word 7 index is) me1 put_now

    pub after_put : (slots : ℕ) (me2 : Seated) → stores_control (step slots word x 0 none) me1 x me2 → me2 ≡ alone (with_action (view_at seat) place.side (Put (frag_from words x)) Nothing)
    after_put slots me2 told =
        told
        ∙ ap (λ (m : Seated). let y : Seated = (one_core (with_action (core_of m.0) (putter_of (core_of m.0).sides word) (Put (frag_from (part_in (core_of m.0).knows) x)) Nothing), m.1) in y) now
        ∙ ap (λ (l : List ℕ). alone (with_action h (putter_of h.sides word) (Put (frag_from l x)) Nothing)) (part_in_put place.side words)
        ∙ ap (λ (y : ℕ). alone (with_action h y (Put (frag_from words x)) Nothing)) (slot_here place place.side pp.end pp.there pp.base_is pp.size_is word 7 (omega arith) is)

  module _ (place : SlotPlace) (pp : IsTakePlace plan.sides.items (view_at seat) place) where
    -- ---- a control word loaded

    module _ (word : ℕ) (is : word ≡ slot place.base place.cursor.size place.cursor.index + 7) where
      pub look_may : (view_at seat).knows ≡ Nothing → (slots id : ℕ) → Allows (RingsHold plan.sides.items) slots id seat.me word (λ x. x) (looks (step slots word 0 0 none) seat.me)
      look_may rest slots id =
          allows_look ends slots id place.side pp.end pp.there h.core h.steps pp.mine word (take_at place pp (length (takes_at place.side h.steps)) word 7 pp.index_is is) seat.me (me_with Nothing rest)

      here7 : mate (putter_of h.sides word) ≡ place.side
      here7 = take_here place pp word 7 (omega arith) is

      due_is : due_at h.sides (mate (putter_of h.sides word)) h.steps ≡ epoch_at place.cursor.size place.cursor.index
      due_is =
          ap (λ (y : ℕ). due_at h.sides y h.steps) here7 ∙ ap (λ (w : List SideEnd). due_at w place.side h.steps) sides_are
          ∙ ap (λ (y : ℕ). epoch_at y (length (takes_at place.side h.steps))) (slots_here ends place.side pp.end pp.there ∙ sym pp.size_is)
          ∙ ap (λ (y : ℕ). epoch_at place.cursor.size y) (sym pp.index_is)

      pub after_found_one : (slots x : ℕ) (me1 : Seated) → looks (step slots word 0 0 none) seat.me x me1 → epoch_of x ≡ epoch_at place.cursor.size place.cursor.index
          → me1 ≡ alone (with_action (view_at seat) place.side (Found x) (Reading place.side [] x))
      after_found_one slots x me1 told due =
          told_so seat.me me1 (λ y. with_action h y (Found x) (Reading y [] x)) (mate (putter_of h.sides word)) place.side (told.1 (due ∙ sym due_is)) here7 none_held

      pub after_missed : (slots x : ℕ) (me1 : Seated) → looks (step slots word 0 0 none) seat.me x me1 → epoch_of x ≢ epoch_at place.cursor.size place.cursor.index
          → me1 ≡ alone (with_action (view_at seat) place.side Missed Nothing)
      after_missed slots x me1 told other =
          told_so seat.me me1 (λ y. with_action h y Missed Nothing) (mate (putter_of h.sides word)) place.side (told.2 (λ due. other (due ∙ due_is))) here7 none_held

      -- for room alone

      pub count_may : (view_at seat).knows ≡ Nothing → (slots id : ℕ) → Allows (RingsHold plan.sides.items) slots id seat.me word (λ x. x) (counts (step slots word 0 0 none) seat.me)
      count_may rest slots id =
          allows_count ends slots id place.side pp.end pp.there h.core h.steps pp.mine word (take_at place pp (length (takes_at place.side h.steps)) word 7 pp.index_is is) seat.me (me_with Nothing rest)

      pub after_counted : (slots x : ℕ) (me1 : Seated) → counts (step slots word 0 0 none) seat.me x me1 → epoch_of x ≡ epoch_at place.cursor.size place.cursor.index
          → me1 ≡ alone (with_action (view_at seat) place.side (Found x) Nothing)
      after_counted slots x me1 told due = told_so seat.me me1 (λ y. with_action h y (Found x) Nothing) (mate (putter_of h.sides word)) place.side (told.1 (due ∙ sym due_is)) here7 none_held

      pub after_no_count : (slots x : ℕ) (me1 : Seated) → counts (step slots word 0 0 none) seat.me x me1 → epoch_of x ≢ epoch_at place.cursor.size place.cursor.index
          → me1 ≡ alone (with_action (view_at seat) place.side Missed Nothing)
      after_no_count slots x me1 told other = told_so seat.me me1 (λ y. with_action h y Missed Nothing) (mate (putter_of h.sides word)) place.side (told.2 (λ due. other (due ∙ due_is))) here7 none_held

      -- what is known then was put
      pub counts_within : (slots x : ℕ) → CountsSent (step slots word 0 0 none) seat.me.0 x → epoch_of x ≡ epoch_at place.cursor.size place.cursor.index → CountsWithin (view_at seat) place.side x
      counts_within slots x told due = subst (λ (z : ℕ). count_from (known_at z h.steps) (told_of x) ≤ length (puts_at z h.steps)) here7 (told (due ∙ sym due_is))

      -- what was seen stands there
      pub again_control : (slots x : ℕ) → IsSeenControl (step slots word 0 0 none) seat.me.0 x → (frag : Frag) → seen_at place.side (view_at seat).steps ≡ Some frag
          → (epoch_of x ≡ epoch_at place.cursor.size place.cursor.index) × (frag.control ≡ x)
      again_control slots x told frag was = let stands = told frag (ap (λ (z : ℕ). seen_at z h.steps) here7 ∙ was) in (stands.0 ∙ due_is, stands.1)

    -- ---- payload words loaded, with these in hand

    module _ (part : List ℕ) (c : ℕ) (due : epoch_of c ≡ epoch_at place.cursor.size place.cursor.index) (me1 : Seated) (now : me1 ≡ alone (knowing (view_at seat) (Reading place.side part c))) (k word : ℕ) (len : length part ≡ k)
        (is : word ≡ slot place.base place.cursor.size place.cursor.index + k) where
      due_so : epoch_of c ≡ epoch_at pp.end.slots (length (takes_at place.side h.steps))
      due_so = due ∙ ap (λ (y : ℕ). epoch_at y place.cursor.index) pp.size_is ∙ ap (λ (y : ℕ). epoch_at pp.end.slots y) pp.index_is

      word_so : word ≡ slot (first_word ends (mate place.side)) pp.end.slots (length (takes_at place.side h.steps)) + length part
      word_so =
          take_at place pp (length (takes_at place.side h.steps)) word k pp.index_is is
          ∙ ap (λ (y : ℕ). slot (first_word ends (mate place.side)) pp.end.slots (length (takes_at place.side h.steps)) + y) (sym len)

      now_so : me1 ≡ alone (view_of ends h.core h.steps (Reading place.side part c))
      now_so = to_ends h.sides ends h.core h.steps (Reading place.side part c) me1 sides_are now

      pub load_may : k < 6 → (slots id : ℕ) → Allows (RingsHold plan.sides.items) slots id me1 word (λ x. x) (loads_word (step slots word 0 0 none) me1)
      load_may few slots id =
          allows_loaded ends slots id place.side pp.end pp.there h.core h.steps pp.mine part c due_so word word_so (omega (arith, len, few)) me1 now_so

      pub after_load : k < 6 → (slots x : ℕ) (me2 : Seated) → loads_word (step slots word 0 0 none) me1 x me2 → me2 ≡ alone (knowing (view_at seat) (Reading place.side (part ++ x ∷ []) c))
      after_load few slots x me2 told =
          told
          ∙ ap (λ (m : Seated). let y : Seated = (one_core (knowing (core_of m.0) (Reading (mate (putter_of (core_of m.0).sides word)) (loaded_in (core_of m.0).knows ++ x ∷ []) (control_in (core_of m.0).knows))), m.1) in y) now
          ∙ ap (λ (y : ℕ). alone (knowing h (Reading y (part ++ x ∷ []) c))) (take_here place pp word k (omega (arith, few)) is)

      pub see_may : k ≡ 6 → (slots id : ℕ) → Allows (RingsHold plan.sides.items) slots id me1 word (λ x. x) (sees_frag (step slots word 0 0 none) me1)
      see_may six slots id = allows_saw ends slots id place.side pp.end pp.there h.core h.steps pp.mine part c due_so word word_so (len ∙ six) me1 now_so

      pub take_may : k ≡ 6 → (slots id : ℕ) → Allows (RingsHold plan.sides.items) slots id me1 word (λ x. x) (takes_frag (step slots word 0 0 none) me1)
      take_may six slots id = allows_took ends slots id place.side pp.end pp.there h.core h.steps pp.mine part c due_so word word_so (len ∙ six) me1 now_so

      after_seventh : (d : Frag → Action) (x : ℕ) (me2 : Seated) → k ≡ 6
          → (let y : Seated = (one_core (with_action (core_of me1.0) (mate (putter_of (core_of me1.0).sides word)) (d (frag_in (core_of me1.0).knows x)) Nothing), me1.1) in me2 ≡ y)
          → me2 ≡ alone (with_action h place.side (d (frag_from (part ++ x ∷ []) c)) Nothing)
      after_seventh d x me2 six told =
          told
          ∙ ap (λ (m : Seated). let y : Seated = (one_core (with_action (core_of m.0) (mate (putter_of (core_of m.0).sides word)) (d (frag_in (core_of m.0).knows x)) Nothing), m.1) in y) now
          ∙ ap (λ (y : ℕ). alone (with_action h y (d (frag_from (part ++ x ∷ []) c)) Nothing)) (take_here place pp word k (omega (arith, six)) is)

      pub after_see : k ≡ 6 → (slots x : ℕ) (me2 : Seated) → sees_frag (step slots word 0 0 none) me1 x me2 → me2 ≡ alone (with_action (view_at seat) place.side (Saw (frag_from (part ++ x ∷ []) c)) Nothing)
      after_see six slots x me2 told = after_seventh (λ f. Saw f) x me2 six told.0

      pub after_take : k ≡ 6 → (slots x : ℕ) (me2 : Seated) → takes_frag (step slots word 0 0 none) me1 x me2
          → (me2 ≡ alone (with_action (view_at seat) place.side (Took (frag_from (part ++ x ∷ []) c)) Nothing)) × (place.cursor.index < 2 ^ 62)
      after_take six slots x me2 told =
          let few : length (takes_at place.side h.steps) < 2 ^ 62 = subst (λ (y : ℕ). length (takes_at y h.steps) < 2 ^ 62)
          (take_here place pp word k (omega (arith, six)) is)
          (subst (λ (m : Seated). length (takes_at (mate (putter_of (core_of m.0).sides word)) (core_of m.0).steps) < 2 ^ 62) now told.1) in
          let index = pp.index_is in
          (after_seventh (λ f. Took f) x me2 six told.0, omega (arith, few, index))

      -- it is the one that was seen before
      pub again_frag : (slots x : ℕ) → k ≡ 6 → IsSeenFrag (step slots word 0 0 none) me1.0 x → (frag : Frag) → seen_at place.side h.steps ≡ Some frag → frag_from (part ++ x ∷ []) c ≡ frag
      again_frag slots x six told frag was =
          let here = take_here place pp word k (omega (arith, six)) is in
          let same : IsSeenFrag (step slots word 0 0 none) (one_core (knowing h (Reading place.side part c))) x = subst (λ (m : Seated). IsSeenFrag (step slots word 0 0 none) m.0 x) now told in
          same frag (ap (λ (z : ℕ). seen_at z h.steps) here ∙ was)

-- ---- the same place, once a fragment is found there

module _ (table : TableId) (plan : Plan) (old new : RingsSeat) (s : IsSeated table plan old) (place : SlotPlace) (c : ℕ) (is : new.me ≡ alone (with_action (view_at old) place.side (Found c) (Reading place.side [] c))) where
  pub found_place : IsTakePlace plan.sides.items (view_at old) place → IsTakePlace plan.sides.items (view_at new) place
  found_place pp = record {
    end = pp.end;
    there = pp.there;
    base_is = pp.base_is;
    size_is = pp.size_is;
    mine = pp.mine ∙ ap (λ (m : Seated). (core_of m.0).core) (sym is);
    index_is =
        pp.index_is
        ∙ ap length (sym (not_gathered one_took place.side (view_at old).steps (entry (view_at old).core place.side (Found c)) refl))
        ∙ ap (λ (m : Seated). length (takes_at place.side (core_of m.0).steps)) (sym is);
  }

  pub found_control : control_in (view_at new).knows ≡ c
  found_control = ap (λ (m : Seated). control_in (core_of m.0).knows) is

  pub found_reading : epoch_of c ≡ epoch_at place.cursor.size place.cursor.index → IsReading (view_at new) place []
  found_reading due = record {
    in_hand = ap (λ (m : Seated). (core_of m.0).knows) is ∙ ap (λ (y : ℕ). Reading place.side [] y) (sym found_control);
    due = ap epoch_of found_control ∙ due;
  }

  -- it has seen what it had
  pub found_seen : (frag : Frag) → seen_at place.side (view_at old).steps ≡ Some frag → seen_at place.side (view_at new).steps ≡ Some frag
  found_seen frag was =
      ap (λ (m : Seated). seen_at place.side (core_of m.0).steps) is ∙ seen_here place.side (view_at old).steps (entry (view_at old).core place.side (Found c)) refl ∙ was

  -- what was done since
  pub found_then : (d : Action) (m : Seated) → m ≡ alone (with_action (view_at new) place.side d Nothing) → m ≡ alone (with_action (with_action (view_at old) place.side (Found c) Nothing) place.side d Nothing)
  found_then d m done = done ∙ ap (λ (x : Seated). alone (with_action (core_of x.0) place.side d Nothing)) is

-- the fragment that is answered
pub the_frag : (words : List ℕ) (x c c' : ℕ) → length words ≡ 7 → c' ≡ c → frag_from (take 6 words ++ x ∷ []) c' ≡ frag_from (set words 6 x) c
the_frag words x c c' seven same = ap (λ (l : List ℕ). frag_from l c') (seven_words words x seven) ∙ ap (λ (y : ℕ). frag_from (set words 6 x) y) same
