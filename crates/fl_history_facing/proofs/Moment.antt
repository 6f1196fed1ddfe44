-- A side's steps within an event, at its moment, are true ones.
use Rattle.std.proofs.Common.{ℕ, suc, ◌≡◌, ◌≢◌, ◌+◌, ◌-◌, ⊎_elim, lt_of_not-le, Option, Some, None, List, [], ◌∷◌, ◌++◌, length, drop, slice_get, ap, subst, ◌∙◌, sym, refl, arith, append_assoc, append-nil}
use Rattle.std.specs.List.{AllByRecursion}
use mathlib.Core.Logic.{dite}
use mathlib.Core.Option.{some}
use native.Mathlib.Decide.{dec_le}
use lib.ListN.{get_elem?}
use Rattle.atomic_table.specs.Seated.{TableId}
use Rattle.fl_base.specs.declared.fragment.Frag.{Frag}
use Rattle.fl_link.specs.Looks.{Look, placed, no_room, spent, saw, saw_ack, found, found_ack, missed, told, kept}
use Rattle.fl_ring.specs.SharedSides.{TheSide, Looked, SharedPuts, SharedTakes}
use Rattle.fl_cores_joined.specs.Rings.{standing_for, FindsWhatStood}
use Rattle.fl_cores_joined.specs.Steps.{true_ways}
use Rattle.fl_history_rings.specs.declared.board.Action.{Action}
use Rattle.fl_history_rings.specs.declared.board.Action.TheVariants.{Put, Found, Missed, Saw, Took}
use Rattle.fl_history_rings.specs.declared.board.Entry.{Entry}
use Rattle.fl_history_rings.specs.declared.board.SideEnd.{SideEnd}
use Rattle.fl_history_rings.specs.Rings.{mate, Way, Goes, Runs, all_empty, IsByItsCore, steps_of}
use Rattle.fl_history_rings.specs.Rule.{gather, one_took, one_action, takes_at, slots_of, seen_from, ArePaired}
use Rattle.fl_history_rings.specs.Cores.{TheCore}
use Rattle.fl_history_rings.proofs.Logs.{within, there}
use Rattle.fl_history_rings.proofs.Words.{mate_back}
use Rattle.fl_history_sides.specs.States.{TheHistorySide, until_last, side_after, shown_of, numbers_of}
use Rattle.fl_history_sides.specs.Noted.{Notes, IsNoted}
use Rattle.fl_history_sides.specs.Core.{IsStepBy}
use Rattle.fl_history_sides.proofs.Prefixes.{Numbered, numbered}
use Rattle.fl_history_events.proofs.Cutting.{gather_join}
use Rattle.fl_history_sides.specs.Ways.{history_ways}
use Rattle.fl_history_entries.proofs.Growing.{all_at, all_behind, cancel, gather_until, grew_on}
use Rattle.fl_history_facing.specs.Facing.{side_at}
use Rattle.fl_history_facing.specs.Moments.{AreSidesAt, AreOfTwoCores, beside}
use Rattle.fl_history_facing.proofs.Acted.{over, over_join, gather_over, side_by, side_is, FindAlong, shape_of, finds_what_stood}
use Rattle.fl_history_facing.proofs.Along.{seen_run, find_among}
use Rattle.fl_history_facing.proofs.Sides.{put_and_taken, long, slots_at, own_steps}
use Rattle.fl_history_facing.proofs.Carrying.{Carried}

-- ---- a step keeps which side it is

looked_keeps : (need : ℕ) (p q : TheSide) → Looked need p q → (q.ring ≡ p.ring) × (q.size ≡ p.size)
looked_keeps need p q looked =
    dite (dec_le need (p.size + p.known - length p.sent))
    (λ free. let same = looked.by_known free in (ap (λ (z : TheSide). z.ring) same, ap (λ (z : TheSide). z.size) same))
    (λ few.
    ⊎_elim
    (λ none. (ap (λ (z : TheSide). z.ring) none.1, ap (λ (z : TheSide). z.size) none.1))
    (λ some_word. (ap (λ (z : TheSide). z.ring) some_word.2, ap (λ (z : TheSide). z.size) some_word.2))
    (looked.by_look (lt_of_not-le few)))

same_keeps : (p q : TheSide) → q ≡ p → (q.ring ≡ p.ring) × (q.size ≡ p.size)
same_keeps p q same = (ap (λ (z : TheSide). z.ring) same, ap (λ (z : TheSide). z.size) same)

then_keeps : (p m q : TheSide) → (m.ring ≡ p.ring) × (m.size ≡ p.size) → (q.ring ≡ m.ring) × (q.size ≡ m.size) → (q.ring ≡ p.ring) × (q.size ≡ p.size)
then_keeps p m q one two = (two.0 ∙ one.0, two.1 ∙ one.1)

pub puts_keep : (p : TheSide) (look : Look) (q : TheSide) → SharedPuts p look q → (q.ring ≡ p.ring) × (q.size ≡ p.size)
puts_keep p (placed frag) q (plain, few, (m, looked, free, is)) =
    then_keeps p m q (looked_keeps 2 p m looked) (ap (λ (z : TheSide). z.ring) is, ap (λ (z : TheSide). z.size) is)
puts_keep p no_room q puts = looked_keeps 2 p q puts.1
puts_keep p spent q puts = same_keeps p q puts.1
puts_keep p (saw frag) q puts = absurd puts
puts_keep p saw_ack q puts = absurd puts
puts_keep p (found frag) q puts = absurd puts
puts_keep p found_ack q puts = absurd puts
puts_keep p missed q puts = absurd puts
puts_keep p told q puts = absurd puts
puts_keep p kept q puts = absurd puts

pub takes_keep : (p : TheSide) (look : Look) (q : TheSide) → SharedTakes p look q → (q.ring ≡ p.ring) × (q.size ≡ p.size)
takes_keep p (saw frag) q (first, at, (may, is, knows)) = (ap (λ (z : TheSide). z.ring) is, ap (λ (z : TheSide). z.size) is)
takes_keep p saw_ack q (first, at, (may, is, knows)) = (ap (λ (z : TheSide). z.ring) is, ap (λ (z : TheSide). z.size) is)
takes_keep p (found frag) q (first, at, (may, is, knows)) = (ap (λ (z : TheSide). z.ring) is, ap (λ (z : TheSide). z.size) is)
takes_keep p found_ack q (first, at, (may, is, knows)) = (ap (λ (z : TheSide). z.ring) is, ap (λ (z : TheSide). z.size) is)
takes_keep p missed q takes = (ap (λ (z : TheSide). z.ring) takes.1, ap (λ (z : TheSide). z.size) takes.1)
takes_keep p told q (half, few, (m, looked, free, is)) =
    then_keeps p m q (looked_keeps 1 p m looked) (ap (λ (z : TheSide). z.ring) is, ap (λ (z : TheSide). z.size) is)
takes_keep p kept q takes = same_keeps p q takes.1
takes_keep p no_room q takes =
    ⊎_elim (λ none_left. same_keeps p q none_left.1) (λ full. looked_keeps 1 p q full.1) takes.1
takes_keep p (placed frag) q takes = absurd takes
takes_keep p spent q takes = absurd takes

-- ---- what stands once some was taken

drop_more : (xs ys zs : List Frag) → drop (length (xs ++ ys)) (xs ++ zs) ≡ drop (length ys) zs
drop_more [] ys zs = refl
drop_more (x ∷ xs) ys zs = drop_more xs ys zs

-- of what stood, what is left once these were done
abbrev left_of : List Frag → List Action → List Frag
left_of stood done = drop (length (over one_took done)) stood

along_left : (stood : List Frag) (done more : List Action) → FindAlong stood (done ++ more) → FindAlong (left_of stood done) more
along_left stood [] more along = along
along_left stood (Put f ∷ done) more along = along_left stood done more along
along_left stood (Found control ∷ done) more along = along_left stood done more along.1
along_left stood (Missed ∷ done) more along = along_left stood done more along.1
along_left stood (Saw f ∷ done) more along = along_left stood done more along.1
along_left stood (Took f ∷ done) more along =
    subst (λ (l : List Frag). FindAlong (drop (suc (length (over one_took done))) l) more) (sym along.1) (along_left along.0 done more along.2)

along_first : (stood : List Frag) (done more : List Action) → FindAlong stood (done ++ more) → FindAlong stood done
along_first stood [] more along = tt
along_first stood (Put f ∷ done) more along = along_first stood done more along
along_first stood (Found control ∷ done) more along = (along.0, along_first stood done more along.1)
along_first stood (Missed ∷ done) more along = (along.0, along_first stood done more along.1)
along_first stood (Saw f ∷ done) more along = (along.0, along_first stood done more along.1)
along_first stood (Took f ∷ done) more along = (along.0, along.1, along_first along.0 done more along.2)

abbrev FirstIs : Frag → List Frag → Type 0
FirstIs frag l = (rest : List Frag) × (l ≡ frag ∷ rest)

some_same : (f g : Frag) → (let a : Option Frag = Some f in a ≡ Some g) → f ≡ g
some_same f g e = cc

none_some : (g : Frag) → (let a : Option Frag = None in a ≡ Some g) → ⊥
none_some g e = cc

seen_left : (seen : Option Frag) (stood : List Frag) (done : List Action) → ((frag : Frag) → seen ≡ Some frag → FirstIs frag stood) → FindAlong stood done
    → (frag : Frag) → seen_from seen done ≡ Some frag → FirstIs frag (left_of stood done)
seen_left seen stood [] begins along frag is = begins frag is
seen_left seen stood (Put f ∷ done) begins along frag is = seen_left seen stood done begins along frag is
seen_left seen stood (Found control ∷ done) begins along frag is = seen_left seen stood done begins along.1 frag is
seen_left seen stood (Missed ∷ done) begins along frag is = seen_left seen stood done begins along.1 frag is
seen_left seen stood (Saw f ∷ done) begins along frag is =
    seen_left (Some f) stood done
    (λ g same. let e = some_same f g same in (along.0.0, along.0.1 ∙ ap (λ (z : Frag). z ∷ along.0.0) e)) along.1 frag is
seen_left seen stood (Took f ∷ done) begins along frag is =
    subst (λ (l : List Frag). FirstIs frag (drop (suc (length (over one_took done))) l)) (sym along.1)
    (seen_left None along.0 done (λ g none. absurd (none_some g none)) along.2 frag is)

seen_over : (seen : Option Frag) (xs ys : List Action) → seen_from seen (xs ++ ys) ≡ seen_from (seen_from seen xs) ys
seen_over seen [] ys = refl
seen_over seen (Put f ∷ xs) ys = seen_over seen xs ys
seen_over seen (Found control ∷ xs) ys = seen_over seen xs ys
seen_over seen (Missed ∷ xs) ys = seen_over seen xs ys
seen_over seen (Saw f ∷ xs) ys = seen_over (Some f) xs ys
seen_over seen (Took f ∷ xs) ys = seen_over None xs ys

-- ---- one step within an event

module _ (table : TableId) (slots n : ℕ) (past : List Action) (stood : List Frag) (across : TheSide)
    (sent : across.sent ≡ over one_took past ++ stood) (begins : (frag : Frag) → seen_from None past ≡ Some frag → FirstIs frag stood) where
  pub step_finds : (a b : TheSide) (look : Look) (done did rest : List Action) → Notes look did → a ≡ side_by table slots n (past ++ done)
      → b ≡ side_by table slots n ((past ++ done) ++ did) → FindAlong stood (done ++ (did ++ rest)) → FindsWhatStood (standing_for a across) a b
  step_finds a b look done did rest notes a_is b_is along =
      let shape = shape_of look did notes in
      let left : List Frag = left_of stood done in
      let more : FindAlong left (did ++ rest) = along_left stood done (did ++ rest) along in
      let seen : (frag : Frag) → seen_from None (past ++ done) ≡ Some frag → FirstIs frag left =
      λ frag is. seen_left (seen_from None past) stood done begins (along_first stood done (did ++ rest) along) frag (sym (seen_over None past done) ∙ is) in
      let found_so : FindsWhatStood left (side_by table slots n (past ++ done)) (side_by table slots n ((past ++ done) ++ did)) =
      subst (λ (l : List Action). FindsWhatStood left (side_by table slots n (past ++ done)) (side_by table slots n ((past ++ done) ++ l))) (sym shape.1)
      (finds_what_stood table slots n (past ++ done) left seen shape.0
      (subst (λ (l : List Action). FindAlong left l) shape.1 (along_first left did rest more))) in
      let stands : standing_for a across ≡ left =
      ap (λ (z : TheSide). standing_for z across) a_is
      ∙ ap (drop (length (over one_took (past ++ done)))) sent
      ∙ ap (λ (l : List Frag). drop (length l) (over one_took past ++ stood)) (over_join one_took past done)
      ∙ drop_more (over one_took past) (over one_took done) stood in
      subst (λ (l : List Frag). FindsWhatStood l a b) (sym stands)
      (subst (λ (z : TheSide). FindsWhatStood left z b) (sym a_is)
      (subst (λ (z : TheSide). FindsWhatStood left (side_by table slots n (past ++ done)) z) (sym b_is) found_so))

-- ---- the sides of a core, at its event's moment

module _ (table : TableId) (ends : List SideEnd) (log steps : List Entry) (ways after : List Way) (c d : TheCore) (ss ts : List TheHistorySide)
    (paired : ArePaired ends) (apart : AreOfTwoCores ends) (by : (i : ℕ) (e : Entry) → get_elem? log i ≡ some e → IsByItsCore ends e)
    (run : Runs (Goes ends) (all_empty (length ends)) log ways) (goes : Runs (Goes ends) ways steps after)
    (h : AreSidesAt table ends log c ss) (k : AreSidesAt table ends (log ++ steps) d ts) (same_number : d.number ≡ c.number)
    (more : d.steps ≡ c.steps ++ steps) where
  -- no step of the event is by a side across from one of its core
  none_across : (n : ℕ) (end other : SideEnd) → get_elem? ends n ≡ some end → end.core ≡ c.number → get_elem? ends (mate n) ≡ some other → (es : List Entry)
      → AllByRecursion (IsStepBy d.number (numbers_of ts)) es → AllByRecursion (λ e. e.side ≢ mate n) es
  none_across n end other at own far [] all_so = tt
  none_across n end other at own far (e ∷ es) all_so =
      let x : Numbered ts all_so.0.1.0 e.side = numbered ts all_so.0.1.0 e.side all_so.0.1.1 in
      let owned = k.owns all_so.0.1.0 x.side x.there in (
        (λ is.
            let there_is : get_elem? ends (mate n) ≡ some owned.0 = subst (λ (j : ℕ). get_elem? ends j ≡ some owned.0) (x.number ∙ is) owned.1 in
            apart n end owned.0 at there_is (own ∙ sym same_number ∙ sym owned.2)),
        none_across n end other at own far es all_so.1,
      )

  module _ (i : ℕ) (p q : TheHistorySide) (at : slice_get ss i ≡ Some p) (at2 : slice_get ts i ≡ Some q) (number : q.number ≡ p.number) where
    abbrev n : ℕ
    n = p.number

    abbrev slots : ℕ
    slots = slots_of ends n

    abbrev past : List Action
    past = gather one_action n log

    abbrev acts : List Action
    acts = gather one_action n steps

    owned : (end : SideEnd) × (get_elem? ends n ≡ some end) × (end.core ≡ c.number) × (end.slots ≡ p.side.size)
    owned = h.owns i p at

    owned2 : (end : SideEnd) × (get_elem? ends q.number ≡ some end) × (end.core ≡ d.number) × (end.slots ≡ q.side.size)
    owned2 = k.owns i q at2

    slots_p : slots ≡ p.side.size
    slots_p = slots_at ends log ways run n owned.0 owned.1 ∙ owned.3

    slots_q : slots ≡ q.side.size
    slots_q =
        slots_at ends log ways run n owned2.0 (subst (λ (j : ℕ). get_elem? ends j ≡ some owned2.0) number owned2.1) ∙ owned2.3

    done_c : gather one_action n c.steps ≡ past
    done_c =
        ap (gather one_action n) (h.did ∙ ap (λ (j : ℕ). steps_of j log) (sym owned.2))
        ∙ own_steps ends n owned.0 log owned.1 by

    done_d : gather one_action n d.steps ≡ past ++ acts
    done_d = ap (gather one_action n) more ∙ gather_join one_action n c.steps steps ∙ ap (λ (l : List Action). l ++ acts) done_c

    p_is : p ≡ shown_of c p.side.size n
    p_is = all_at (λ (z : TheHistorySide). z ≡ shown_of c z.side.size z.number) ss i p h.sides.each at

    q_is : q ≡ shown_of d q.side.size q.number
    q_is = all_at (λ (z : TheHistorySide). z ≡ shown_of d z.side.size z.number) ts i q k.sides.each at2

    p_shown : p.side ≡ side_by table slots n past
    p_shown =
        ap (λ (z : TheHistorySide). z.side) p_is
        ∙ ap (λ (r : TableId). side_after r p.side.size n c.steps) h.table_is
        ∙ ap (λ (z : ℕ). side_after table z n c.steps) (sym slots_p)
        ∙ side_is table slots n c.steps ∙ ap (side_by table slots n) done_c

    q_shown : q.side ≡ side_by table slots n (past ++ acts)
    q_shown =
        ap (λ (z : TheHistorySide). z.side) q_is
        ∙ ap (λ (r : TableId). side_after r q.side.size q.number d.steps) k.table_is
        ∙ ap (λ (z : ℕ). side_after table z q.number d.steps) (sym slots_q)
        ∙ ap (λ (z : ℕ). side_after table slots z d.steps) number
        ∙ side_is table slots n d.steps ∙ ap (side_by table slots n) done_d

    p_acts : gather one_action n p.core.steps ≡ past
    p_acts = ap (λ (z : TheHistorySide). gather one_action n z.core.steps) p_is ∙ gather_until n c.steps ∙ done_c

    q_acts : gather one_action n q.core.steps ≡ past ++ acts
    q_acts =
        ap (λ (z : TheHistorySide). gather one_action n z.core.steps) q_is
        ∙ ap (λ (j : ℕ). gather one_action n (until_last j d.steps)) number
        ∙ gather_until n d.steps ∙ done_d

    -- the way that it takes from
    other : (end : SideEnd) × (get_elem? ends (mate n) ≡ some end) × (end.slots ≡ owned.0.slots)
    other = paired n owned.0 owned.1

    way : (q : Way) × (get_elem? ways (mate n) ≡ some q)
    way = let far = within ends (mate n) other.0 other.1 in there ways (mate n) (omega (arith, far, long ends log ways run))

    abbrev stood : List Frag
    stood = way.0.waiting

    abbrev across : TheSide
    across = side_at table ends log (mate n)

    sent : across.sent ≡ over one_took past ++ stood
    sent =
        put_and_taken ends log ways run (mate n) way.0 way.1
        ∙ ap (λ (j : ℕ). takes_at j log ++ stood) (mate_back n)
        ∙ ap (λ (l : List Frag). l ++ stood) (gather_over one_took n log)

    begins : (frag : Frag) → seen_from None past ≡ Some frag → FirstIs frag stood
    begins frag is =
        seen_run ends (all_empty (length ends)) ways n None log (λ f none. absurd (none_some f none)) run frag is way.0 way.1

    along : FindAlong stood acts
    along =
        find_among ends n steps ways after way.0 way.1
        (none_across n owned.0 other.0 owned.1 owned.2 other.1 steps
        (all_behind (IsStepBy d.number (numbers_of ts)) c.steps steps
        (subst (λ (l : List Entry). AllByRecursion (IsStepBy d.number (numbers_of ts)) l) more k.sides.did)))
        goes

    -- what a step added
    grown : (a : TheHistorySide) (look : Look) (b : TheHistorySide) (is : IsNoted a look b) (done : List Action) → a.number ≡ n → gather one_action n a.core.steps ≡ past ++ done
        → gather one_action n b.core.steps ≡ (past ++ done) ++ is.did
    grown a look b is done here has =
        let g = (grew_on a b is.did is.number is.goes_on).grows in
        ap (gather one_action n) g.steps_are ∙ gather_join one_action n a.core.steps g.more
        ∙ ap (λ (l : List Action). l ++ gather one_action n g.more) has
        ∙ ap (λ (l : List Action). (past ++ done) ++ l) (ap (λ (j : ℕ). gather one_action j g.more) (sym here) ∙ g.acts_are)

    past_none : past ++ [] ≡ past
    past_none = append-nil past

    -- one step is all of it
    once : (look : Look) → IsNoted p look q → FindsWhatStood (standing_for p.side across) p.side q.side
    once look is =
        let all_acts : is.did ≡ acts =
        cancel past is.did acts
        (ap (λ (l : List Action). l ++ is.did) (sym past_none) ∙ sym (grown p look q is [] refl (p_acts ∙ sym past_none)) ∙ q_acts) in
        step_finds table slots n past stood across sent begins p.side q.side look [] is.did [] is.notes
        (p_shown ∙ ap (side_by table slots n) (sym past_none))
        (q_shown ∙ ap (λ (l : List Action). side_by table slots n (past ++ l)) (sym all_acts) ∙ ap (λ (l : List Action). side_by table slots n (l ++ is.did)) (sym past_none))
        (subst (λ (l : List Action). FindAlong stood l) (sym (append-nil is.did ∙ all_acts)) along)

    -- two steps are, by way of x
    module _ (x : TheHistorySide) (one two : Look) (first : IsNoted p one x) (second : IsNoted x two q)
        (ring : x.side.ring ≡ p.side.ring) (size : x.side.size ≡ p.side.size) where
      x_acts : gather one_action n x.core.steps ≡ past ++ first.did
      x_acts = grown p one x first [] refl (p_acts ∙ sym past_none) ∙ ap (λ (l : List Action). l ++ first.did) past_none

      both_acts : first.did ++ second.did ≡ acts
      both_acts =
          cancel past (first.did ++ second.did) acts
          (sym (append_assoc past first.did second.did) ∙ sym (grown x two q second first.did first.number x_acts) ∙ q_acts)

      x_shown : x.side ≡ side_by table slots n (past ++ first.did)
      x_shown =
          first.shown
          ∙ ap (λ (r : TableId). side_after r x.side.size x.number x.core.steps) (ring ∙ ap (λ (z : TheSide). z.ring) p_shown)
          ∙ ap (λ (z : ℕ). side_after table z x.number x.core.steps) (size ∙ sym slots_p)
          ∙ ap (λ (z : ℕ). side_after table slots z x.core.steps) first.number
          ∙ side_is table slots n x.core.steps ∙ ap (side_by table slots n) x_acts

      step_one : FindsWhatStood (standing_for p.side across) p.side x.side
      step_one =
          step_finds table slots n past stood across sent begins p.side x.side one [] first.did second.did first.notes
          (p_shown ∙ ap (side_by table slots n) (sym past_none))
          (x_shown ∙ ap (λ (l : List Action). side_by table slots n (l ++ first.did)) (sym past_none))
          (subst (λ (l : List Action). FindAlong stood l) (sym both_acts) along)

      step_two : FindsWhatStood (standing_for x.side across) x.side q.side
      step_two =
          step_finds table slots n past stood across sent begins x.side q.side two first.did second.did [] second.notes x_shown
          (q_shown ∙ ap (λ (l : List Action). side_by table slots n (past ++ l)) (sym both_acts) ∙ ap (side_by table slots n) (sym (append_assoc past first.did second.did)))
          (subst (λ (l : List Action). FindAlong stood l) (sym (ap (λ (l : List Action). first.did ++ l) (append-nil second.did) ∙ both_acts)) along)

  -- ---- so each step is a true one

  module _ (i : ℕ) (p q : TheHistorySide) (at : slice_get ss i ≡ Some p) (at2 : slice_get ts i ≡ Some q) where
    across_same : (a b : TheHistorySide) → b.number ≡ a.number → (beside table ends log b).across ≡ (beside table ends log a).across
    across_same a b is = ap (λ (j : ℕ). side_at table ends log (mate j)) is

    -- from the side before to that in the middle, and on
    pub two_true : (x : TheHistorySide) (one two : Look) (first : IsNoted p one x) (second : IsNoted x two q) → (x.side.ring ≡ p.side.ring) × (x.side.size ≡ p.side.size)
        → FindsWhatStood (standing_for p.side (beside table ends log p).across) p.side x.side
        × FindsWhatStood (standing_for x.side (beside table ends log x).across) x.side q.side
    two_true x one two first second keeps =
        let number : q.number ≡ p.number = second.number ∙ first.number in (
          step_one i p q at at2 number x one two first second keeps.0 keeps.1,
          subst (λ (z : TheSide). FindsWhatStood (standing_for x.side z) x.side q.side) (sym (across_same p x first.number))
              (step_two i p q at at2 number x one two first second keeps.0 keeps.1),
        )

    pub carried : Carried (beside table ends log) history_ways true_ways p q
    carried = record {
      put = λ look step. (step.0, once i p q at at2 step.1.number look step.1, across_same p q step.1.number);
      take = λ look step. (step.0, once i p q at at2 step.1.number look step.1, across_same p q step.1.number);
      takes = λ x one two first second.
          let both = two_true x one two first.1 second.1 (takes_keep p.side one x.side first.0) in
          ((first.0, both.0, across_same p x first.1.number), (second.0, both.1, across_same x q second.1.number));
      front = refl;
    }

    -- a put, and a take by the same side
    pub carried_back : (x : TheHistorySide) (one two : Look) → history_ways.puts p one x → history_ways.takes x two q
        → true_ways.puts (beside table ends log p) one (beside table ends log x) × true_ways.takes (beside table ends log x) two (beside table ends log q)
    carried_back x one two first second =
        let both = two_true x one two first.1 second.1 (puts_keep p.side one x.side first.0) in
        ((first.0, both.0, across_same p x first.1.number), (second.0, both.1, across_same x q second.1.number))
