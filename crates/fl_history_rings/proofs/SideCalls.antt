-- The sides of rings, once their core did more.
use Rattle.std.proofs.Common.{ℕ, ◌≡◌, ◌<◌, ◌≤◌, ◌+◌, ◌^◌, ◌⊎◌, inl, inr, List, [], ◌∷◌, ◌++◌, length, ap, subst, ◌∙◌, sym, refl, arith, true, false, ltb, ltb-true, ltb-false, ◌≢◌, get_or, Option, Some, None}
use Rattle.std.proofs.lemmas.List.{length_push}
use Rattle.std.proofs.lemmas.Bool.{cases_lt}
use mathlib.Core.Option.{some}
use lib.ListN.{get_elem?}
use Rattle.atomic_table.specs.Seated.{TableId}
use Rattle.atomic_table.proofs.Lists.{at_index}
use Rattle.fl_base.specs.declared.fragment.Frag.{Frag}
use Rattle.fl_base.specs.Control.{epoch_of, told_of}
use Rattle.fl_link.specs.Cursor.{epoch_at}
use Rattle.fl_ring.specs.Counts.{count_from}
use Rattle.fl_ring.proofs.Numbers.{count_rises}
use Rattle.fl_history_rings.specs.declared.board.Action.{Action}
use Rattle.fl_history_rings.specs.declared.board.Action.TheVariants.{Put, Found, Missed, Saw, Took}
use Rattle.fl_history_rings.specs.declared.board.Entry.{Entry}
use Rattle.fl_history_rings.specs.declared.board.SideEnd.{SideEnd}
use Rattle.fl_history_rings.specs.declared.board.Plan.{Plan}
use Rattle.fl_history_rings.specs.declared.board.RingsBoard.{RingsBoard}
use Rattle.fl_history_rings.specs.declared.board.Insight.TheVariants.{Nothing}
use Rattle.fl_history_rings.specs.declared.board.CoreView.{CoreView}
use Rattle.fl_history_rings.specs.declared.place.RingSide.{RingSide}
use Rattle.fl_history_rings.specs.Rings.{mate, entry}
use Rattle.fl_history_rings.specs.Rule.{words_of, at_rest, with_action, core_of, alone, gather, known_from, one_put, one_took, one_found, puts_at, takes_at, known_at, told_at, seen_at}
use Rattle.fl_history_rings.specs.Seats.{RingsSeat, view_at, IsSeated, CountsWithin}
use Rattle.fl_history_rings.specs.Cores.{TheCore, core_shown, noting, key_of, IsWhole, IsSameCore, Owns, OwnsSlots}
use Rattle.fl_history_rings.specs.Sides.{side_from, StepsBy, SideFor, HasFree, MayStand, LooksForRoom, FindsRoom, counting, having_put, having_taken}
use Rattle.fl_history_rings.specs.Laws.{SidesStay}
use Rattle.fl_history_rings.proofs.Logs.{within, same_there, gather_here, gather_else, not_gathered, known_push}
use Rattle.fl_history_rings.proofs.Told.{told_put, told_else, told_still, told_taken}
use Rattle.fl_history_rings.proofs.Allowed.{Seated}
use Rattle.fl_history_rings.proofs.Rows.{sides_are}

-- ---- a core that did this too

module _ (old new : RingsSeat) (s : ℕ) (d : Action) (is : new.me ≡ alone (with_action (view_at old) s d Nothing)) where
  pub view_so : view_at new ≡ with_action (view_at old) s d Nothing
  view_so = ap (λ (m : Seated). core_of m.0) is

  pub rests_so : (view_at new).knows ≡ Nothing
  rests_so = ap (λ (h : CoreView). h.knows) view_so

  pub core_so : (view_at new).core ≡ (view_at old).core
  core_so = ap (λ (h : CoreView). h.core) view_so

  pub noted_so : new.table_id ≡ old.table_id → core_shown new ≡ noting (core_shown old) s d
  noted_so same =
      ap (λ (h : CoreView). let t : TheCore = record { table = new.table_id; sides = h.sides; number = h.core; steps = h.steps } in t) view_so
      ∙ ap (λ (t : TableId). let u : TheCore = record { table = t; sides = (view_at old).sides; number = (view_at old).core; steps = (view_at old).steps ++ entry (view_at old).core s d ∷ [] } in u) same

module _ (old new : RingsSeat) (s : ℕ) (d e : Action) (is : new.me ≡ alone (with_action (with_action (view_at old) s d Nothing) s e Nothing)) where
  pub view_twice : view_at new ≡ with_action (with_action (view_at old) s d Nothing) s e Nothing
  view_twice = ap (λ (m : Seated). core_of m.0) is

  pub rests_twice : (view_at new).knows ≡ Nothing
  rests_twice = ap (λ (h : CoreView). h.knows) view_twice

  pub core_twice : (view_at new).core ≡ (view_at old).core
  core_twice = ap (λ (h : CoreView). h.core) view_twice

  pub noted_twice : new.table_id ≡ old.table_id → core_shown new ≡ noting (noting (core_shown old) s d) s e
  noted_twice same =
      ap (λ (h : CoreView). let t : TheCore = record { table = new.table_id; sides = h.sides; number = h.core; steps = h.steps } in t) view_twice
      ∙ ap (λ (t : TableId). let u : TheCore = record {
        table = t;
        sides = (view_at old).sides;
        number = (view_at old).core;
        steps = ((view_at old).steps ++ entry (view_at old).core s d ∷ []) ++ entry (view_at old).core s e ∷ [];
      } in u) same

-- at the number of the side that puts
module _ (old new : RingsSeat) (a : RingSide) (one : a.take.side ≡ a.put.side) where
  pub by_one : (d : Action) → new.me ≡ alone (with_action (view_at old) a.take.side d Nothing) → new.me ≡ alone (with_action (view_at old) a.put.side d Nothing)
  by_one d is = is ∙ ap (λ (s : ℕ). alone (with_action (view_at old) s d Nothing)) one

  pub by_one_twice : (d e : Action) → new.me ≡ alone (with_action (with_action (view_at old) a.take.side d Nothing) a.take.side e Nothing) → new.me ≡ alone (with_action (with_action (view_at old) a.put.side d Nothing) a.put.side e Nothing)
  by_one_twice d e is = is ∙ ap (λ (s : ℕ). alone (with_action (with_action (view_at old) s d Nothing) s e Nothing)) one

-- ---- its side

module _ (ends : List SideEnd) (h : CoreView) (a : RingSide) (at : StepsBy ends h a) where
  -- once something was done that puts, takes and finds nothing
  pub steps_still : (d : Action) → one_put d ≡ [] → one_took d ≡ [] → one_found d ≡ [] → StepsBy ends (with_action h a.put.side d Nothing) a
  steps_still d no_put no_took no_found =
      let e : Entry = entry h.core a.put.side d in
      let p = at.put in
      let t = at.take in
      record {
        put = record { end = p.end; there = p.there; mine = p.mine; base_is = p.base_is; size_is = p.size_is; index_is = p.index_is ∙ ap length (sym (not_gathered one_put a.put.side h.steps e no_put)) };
        take = record { end = t.end; there = t.there; mine = t.mine; base_is = t.base_is; size_is = t.size_is; index_is = t.index_is ∙ ap length (sym (not_gathered one_took a.take.side h.steps e no_took)) };
        one = at.one;
        known_is = at.known_is ∙ sym (ap (λ (xs : List ℕ). known_from 0 xs) (not_gathered one_found a.put.side h.steps e no_found));
        known_put = at.known_put;
        near = at.near;
        most = at.most;
        most_taken = at.most_taken;
        told_is = at.told_is ∙ sym (told_still a.put.side h.steps e no_put);
      }

  -- once a fragment was found, whose control word tells a count
  pub steps_found : (c : ℕ) → CountsWithin h a.put.side c → StepsBy ends (with_action h a.put.side (Found c) Nothing) (counting a c)
  steps_found c within_put =
      let e : Entry = entry h.core a.put.side (Found c) in
      let p = at.put in
      let t = at.take in
      let known = at.known_is in
      let count : count_from a.known (told_of c) ≡ count_from (known_at a.put.side h.steps) (told_of c) = ap (λ (k : ℕ). count_from k (told_of c)) known in
      let rises = count_rises a.known (told_of c) in
      let near = at.near in
      record {
        put = record { end = p.end; there = p.there; mine = p.mine; base_is = p.base_is; size_is = p.size_is; index_is = p.index_is ∙ ap length (sym (not_gathered one_put a.put.side h.steps e refl)) };
        take = record { end = t.end; there = t.there; mine = t.mine; base_is = t.base_is; size_is = t.size_is; index_is = t.index_is ∙ ap length (sym (not_gathered one_took a.take.side h.steps e refl)) };
        one = at.one;
        known_is = count ∙ sym (known_push 0 (gather one_found a.put.side h.steps) c) ∙ sym (ap (λ (xs : List ℕ). known_from 0 xs) (gather_here one_found a.put.side h.steps e refl));
        known_put = let index = p.index_is in let within_so : count_from a.known (told_of c) ≤ length (puts_at a.put.side h.steps) = subst (λ (k : ℕ). k ≤ length (puts_at a.put.side h.steps)) (sym count) within_put in
            subst (λ (k : ℕ). count_from a.known (told_of c) ≤ k) (sym index) within_so;
        near = let k : ℕ = count_from a.known (told_of c) in let up : a.known ≤ k = rises in omega (arith, near, up);
        most = at.most;
        most_taken = at.most_taken;
        told_is = at.told_is ∙ sym (told_still a.put.side h.steps e refl);
      }

  -- once it put a fragment
  pub steps_put : (frag : Frag) → HasFree 1 a → a.put.cursor.index < 2 ^ 62 → StepsBy ends (with_action h a.put.side (Put frag) Nothing) (having_put a)
  steps_put frag free unspent =
      let e : Entry = entry h.core a.put.side (Put frag) in
      let p = at.put in
      let t = at.take in
      let more : length (puts_at a.put.side (h.steps ++ e ∷ [])) ≡ length (puts_at a.put.side h.steps) + 1 = ap length (gather_here one_put a.put.side h.steps e refl) ∙ length_push (puts_at a.put.side h.steps) frag in
      let was = p.index_is in
      let less = at.known_put in
      record {
        put = record { end = p.end; there = p.there; mine = p.mine; base_is = p.base_is; size_is = p.size_is; index_is = omega (arith, more, was) };
        take = record { end = t.end; there = t.there; mine = t.mine; base_is = t.base_is; size_is = t.size_is; index_is = t.index_is ∙ ap length (sym (not_gathered one_took a.take.side h.steps e refl)) };
        one = at.one;
        known_is = at.known_is ∙ sym (ap (λ (xs : List ℕ). known_from 0 xs) (not_gathered one_found a.put.side h.steps e refl));
        known_put = omega (arith, less);
        near = omega (arith, free);
        most = omega (arith, unspent);
        most_taken = at.most_taken;
        told_is = t.index_is ∙ ap (λ (k : ℕ). length (takes_at k h.steps)) at.one ∙ sym (told_put a.put.side h.steps e frag refl refl);
      }

  -- once it took a fragment
  pub steps_took : (frag : Frag) → a.take.cursor.index < 2 ^ 62 → StepsBy ends (with_action h a.put.side (Took frag) Nothing) (having_taken a)
  steps_took frag few =
      let e : Entry = entry h.core a.put.side (Took frag) in
      let p = at.put in
      let t = at.take in
      let more : length (takes_at a.take.side (h.steps ++ e ∷ [])) ≡ length (takes_at a.take.side h.steps) + 1 = ap length (gather_here one_took a.take.side h.steps e (sym at.one)) ∙ length_push (takes_at a.take.side h.steps) frag in
      let was = t.index_is in
      record {
        put = record { end = p.end; there = p.there; mine = p.mine; base_is = p.base_is; size_is = p.size_is; index_is = p.index_is ∙ ap length (sym (not_gathered one_put a.put.side h.steps e refl)) };
        take = record { end = t.end; there = t.there; mine = t.mine; base_is = t.base_is; size_is = t.size_is; index_is = omega (arith, more, was) };
        one = at.one;
        known_is = at.known_is ∙ sym (ap (λ (xs : List ℕ). known_from 0 xs) (not_gathered one_found a.put.side h.steps e refl));
        known_put = at.known_put;
        near = at.near;
        most = at.most;
        most_taken = omega (arith, few);
        told_is = at.told_is ∙ sym (told_still a.put.side h.steps e refl);
      }

-- by the view of the seat after it
pub steps_by : (ends : List SideEnd) (h g : CoreView) (a : RingSide) → g ≡ h → StepsBy ends h a → StepsBy ends g a
steps_by ends h g a same at = subst (λ (x : CoreView). StepsBy ends x a) (sym same) at

-- ---- what a call of a side leaves: the seat, the side, and what callers see

-- nothing is in hand, it is the same core, its side is this, and it did this
abbrev pub Leaves : List SideEnd → RingsSeat → RingsSeat → RingSide → TheCore → Type 0
Leaves ends old new a t = ((view_at new).knows ≡ Nothing) × ((view_at new).core ≡ (view_at old).core) × StepsBy ends (view_at new) a × (core_shown new ≡ t)

module _ (ends : List SideEnd) (old new : RingsSeat) (a : RingSide) (same : new.table_id ≡ old.table_id) (at : StepsBy ends (view_at old) a) where
  abbrev s : ℕ
  s = a.put.side

  one : a.take.side ≡ a.put.side
  one = at.one

  -- a look found nothing
  pub side_missed : new.me ≡ alone (with_action (view_at old) a.take.side Missed Nothing) → Leaves ends old new a (noting (core_shown old) a.put.side Missed)
  side_missed is =
      let so = by_one old new a one Missed is in (
        rests_so old new s Missed so,
        core_so old new s Missed so,
        steps_by ends (with_action (view_at old) s Missed Nothing) (view_at new) a (view_so old new s Missed so) (steps_still ends (view_at old) a at Missed refl refl refl),
        noted_so old new s Missed so same,
      )

  counts_here : (c : ℕ) → CountsWithin (view_at old) a.take.side c → CountsWithin (view_at old) a.put.side c
  counts_here c h = subst (λ (k : ℕ). CountsWithin (view_at old) k c) one h

  -- it found a control word, for the count that it tells
  pub side_counted : (c : ℕ) → new.me ≡ alone (with_action (view_at old) a.take.side (Found c) Nothing) → CountsWithin (view_at old) a.take.side c → Leaves ends old new (counting a c) (noting (core_shown old) a.put.side (Found c))
  side_counted c is told =
      let so = by_one old new a one (Found c) is in (
        rests_so old new s (Found c) so,
        core_so old new s (Found c) so,
        steps_by ends (with_action (view_at old) s (Found c) Nothing) (view_at new) (counting a c) (view_so old new s (Found c) so) (steps_found ends (view_at old) a at c (counts_here c told)),
        noted_so old new s (Found c) so same,
      )

  -- it found a fragment, and left it, or took it
  pub side_saw : (frag : Frag) → new.me ≡ alone (with_action (with_action (view_at old) a.take.side (Found frag.control) Nothing) a.take.side (Saw frag) Nothing) → CountsWithin (view_at old) a.take.side frag.control
      → Leaves ends old new (counting a frag.control) (noting (noting (core_shown old) a.put.side (Found frag.control)) a.put.side (Saw frag))
  side_saw frag is told =
      let so = by_one_twice old new a one (Found frag.control) (Saw frag) is in
      let mid : CoreView = with_action (view_at old) s (Found frag.control) Nothing in (
        rests_twice old new s (Found frag.control) (Saw frag) so,
        core_twice old new s (Found frag.control) (Saw frag) so,
        steps_by ends (with_action mid s (Saw frag) Nothing) (view_at new) (counting a frag.control) (view_twice old new s (Found frag.control) (Saw frag) so)
            (steps_still ends mid (counting a frag.control) (steps_found ends (view_at old) a at frag.control (counts_here frag.control told)) (Saw frag) refl refl refl),
        noted_twice old new s (Found frag.control) (Saw frag) so same,
      )

  pub side_took : (frag : Frag) → a.take.cursor.index < 2 ^ 62 → new.me ≡ alone (with_action (with_action (view_at old) a.take.side (Found frag.control) Nothing) a.take.side (Took frag) Nothing) → CountsWithin (view_at old) a.take.side frag.control
      → Leaves ends old new (having_taken (counting a frag.control)) (noting (noting (core_shown old) a.put.side (Found frag.control)) a.put.side (Took frag))
  side_took frag few is told =
      let so = by_one_twice old new a one (Found frag.control) (Took frag) is in
      let mid : CoreView = with_action (view_at old) s (Found frag.control) Nothing in (
        rests_twice old new s (Found frag.control) (Took frag) so,
        core_twice old new s (Found frag.control) (Took frag) so,
        steps_by ends (with_action mid s (Took frag) Nothing) (view_at new) (having_taken (counting a frag.control)) (view_twice old new s (Found frag.control) (Took frag) so)
            (steps_took ends mid (counting a frag.control) (steps_found ends (view_at old) a at frag.control (counts_here frag.control told)) frag few),
        noted_twice old new s (Found frag.control) (Took frag) so same,
      )

  -- a fragment is put
  pub side_wrote : (frag : Frag) → HasFree 1 a → a.put.cursor.index < 2 ^ 62 → new.me ≡ alone (with_action (view_at old) a.put.side (Put frag) Nothing) → Leaves ends old new (having_put a) (noting (core_shown old) a.put.side (Put frag))
  side_wrote frag free unspent is = (
    rests_so old new s (Put frag) is,
    core_so old new s (Put frag) is,
    steps_by ends (with_action (view_at old) s (Put frag) Nothing) (view_at new) (having_put a) (view_so old new s (Put frag) is) (steps_put ends (view_at old) a at frag free unspent),
    noted_so old new s (Put frag) is same,
  )

-- what a look for room finds, where a fragment was seen before
seen_none : (seen : Option Frag) → ((frag : Frag) → seen ≡ Some frag → (let none : Option ℕ = None in none ≡ Some frag.control)) → (let nothing : Option Frag = None in seen ≡ nothing)
seen_none None again = refl
seen_none (Some frag) again = let no = again frag refl in absurd (cc)

some_same : (x y : ℕ) → (let a : Option ℕ = Some x in a ≡ Some y) → y ≡ x
some_same x y same = cc

module _ (a : RingSide) (es : List Entry) (one : a.take.side ≡ a.put.side) where
  pub none_seen : ((frag : Frag) → seen_at a.take.side es ≡ Some frag → (let none : Option ℕ = None in none ≡ Some frag.control)) → (let nothing : Option Frag = None in seen_at a.put.side es ≡ nothing)
  none_seen again = seen_none (seen_at a.put.side es) (λ frag was. again frag (ap (λ (s : ℕ). seen_at s es) one ∙ was))

  pub seen_found : (control : ℕ) → ((frag : Frag) → seen_at a.take.side es ≡ Some frag → (let found : Option ℕ = Some control in found ≡ Some frag.control)) → (frag : Frag) → seen_at a.put.side es ≡ Some frag → frag.control ≡ control
  seen_found control again frag was = some_same control frag.control (again frag (ap (λ (s : ℕ). seen_at s es) one ∙ was))

pub may_stand : (ends : List SideEnd) (seat : RingsSeat) (a : RingSide) → StepsBy ends (view_at seat) a → (control : ℕ) → CountsWithin (view_at seat) a.take.side control → epoch_of control ≡ epoch_at a.take.cursor.size a.take.cursor.index
    → ((frag : Frag) → seen_at a.put.side (view_at seat).steps ≡ Some frag → frag.control ≡ control) → MayStand (core_shown seat) a control
may_stand ends seat a at control within_put due seen =
    let here : CountsWithin (view_at seat) a.put.side control = subst (λ (s : ℕ). CountsWithin (view_at seat) s control) at.one within_put in
    let known : count_from a.known (told_of control) ≡ count_from (known_at a.put.side (view_at seat).steps) (told_of control) = ap (λ (k : ℕ). count_from k (told_of control)) at.known_is in
    record {
      due = due;
      seen = seen;
      told_put = subst (λ (k : ℕ). count_from a.known (told_of control) ≤ k) (sym at.put.index_is) (subst (λ (k : ℕ). k ≤ length (puts_at a.put.side (view_at seat).steps)) (sym known) here);
    }

-- a look for room leaves the places
pub room_same : (need : ℕ) (s : TheCore) (a a' : RingSide) (t : TheCore) → FindsRoom need s a a' t → a'.put ≡ a.put
room_same need s a a' t h = by (cases_lt (a.known + a.put.cursor.size) (a.put.cursor.index + need))
  where
    looked : LooksForRoom s a a' t → a'.put ≡ a.put
    looked (inl (_, same, _)) = ap (λ (x : RingSide). x.put) same
    looked (inr (c, _, same, _)) = ap (λ (x : RingSide). x.put) same

    by : (a.known + a.put.cursor.size < a.put.cursor.index + need) ⊎ (a.put.cursor.index + need ≤ a.known + a.put.cursor.size) → a'.put ≡ a.put
    by (inl lacks) = looked (h.by_look lacks)
    by (inr free) = ap (λ (x : RingSide). x.put) (h.by_known free).1

-- it took what it told
pub told_low : (ends : List SideEnd) (h : CoreView) (a : RingSide) → StepsBy ends h a → a.told ≤ a.take.cursor.index
told_low ends h a at =
    let told = at.told_is in
    let index : a.take.cursor.index ≡ length (takes_at a.put.side h.steps) = at.take.index_is ∙ ap (λ (s : ℕ). length (takes_at s h.steps)) at.one in
    omega (arith, told, index, told_taken a.put.side h.steps)

-- how large its numbers are
pub side_few : (table : TableId) (plan : Plan) (seat : RingsSeat) (a : RingSide) → IsSeated table plan seat → StepsBy plan.sides.items (view_at seat) a → (a.known ≤ 2 ^ 62) × (a.put.cursor.size ≤ 1024)
side_few table plan seat a s at =
    let most = at.most in
    let less = at.known_put in
    let slots = (s.laid.some_slots a.put.side at.put.end at.put.there).1 in
    (omega (arith, most, less), omega (arith, slots, at.put.size_is))

-- ---- as callers see a core

-- what a side asks of a core's view is told by what callers see of it
same_view : (ends : List SideEnd) (h g : CoreView) (a : RingSide) → g.core ≡ h.core → g.steps ≡ h.steps → StepsBy ends h a → StepsBy ends g a
same_view ends h g a core steps at =
    let p = at.put in
    let t = at.take in
    record {
      put = record { end = p.end; there = p.there; mine = p.mine ∙ sym core; base_is = p.base_is; size_is = p.size_is; index_is = p.index_is ∙ ap (λ (es : List Entry). length (puts_at a.put.side es)) (sym steps) };
      take = record { end = t.end; there = t.there; mine = t.mine ∙ sym core; base_is = t.base_is; size_is = t.size_is; index_is = t.index_is ∙ ap (λ (es : List Entry). length (takes_at a.take.side es)) (sym steps) };
      one = at.one;
      known_is = at.known_is ∙ ap (λ (es : List Entry). known_at a.put.side es) (sym steps);
      known_put = at.known_put;
      near = at.near;
      most = at.most;
      most_taken = at.most_taken;
      told_is = at.told_is ∙ ap (λ (es : List Entry). told_at a.put.side es) (sym steps);
    }

pub steps_seen : (ends sides : List SideEnd) (h : CoreView) (a : RingSide) → sides ≡ ends → StepsBy sides (at_rest sides h.core h.steps) a → StepsBy ends h a
steps_seen ends sides h a same at = subst (λ (x : List SideEnd). StepsBy x h a) same (same_view sides (at_rest sides h.core h.steps) h a refl refl at)

pub seen_steps : (ends sides : List SideEnd) (h : CoreView) (a : RingSide) → sides ≡ ends → StepsBy ends h a → StepsBy sides (at_rest sides h.core h.steps) a
seen_steps ends sides h a same at = same_view sides h (at_rest sides h.core h.steps) a refl refl (subst (λ (x : List SideEnd). StepsBy x h a) (sym same) at)

-- a call of a core comes to a call of its side: the board is the one that the core holds
module _ (board b : RingsBoard) (seat : RingsSeat) (number : ℕ) (s : TheCore) (whole : IsWhole board seat number) (shows : core_shown seat ≡ s) (is : b ≡ board) where
  pub call_seated : IsSeated b.table.shared.table_id (key_of b) seat
  call_seated = subst (λ (x : RingsBoard). IsSeated x.table.shared.table_id (key_of x) seat) (sym is) whole.seated

  sides_so : (view_at seat).sides ≡ (key_of b).sides.items
  sides_so = sides_are b.table.shared.table_id (key_of b) seat call_seated

  pub call_steps : (a : RingSide) → SideFor s a → StepsBy (key_of b).sides.items (view_at seat) a
  call_steps a at = steps_seen (key_of b).sides.items (view_at seat).sides (view_at seat) a sides_so (subst (λ (x : TheCore). SideFor x a) (sym shows) at)

  -- and after it
  module _ (new : RingsSeat) (seated : IsSeated b.table.shared.table_id (key_of b) new) where
    pub call_whole : (view_at new).knows ≡ Nothing → (view_at new).core ≡ (view_at seat).core → IsWhole board new number
    call_whole rest core = record {
      seated = subst (λ (x : RingsBoard). IsSeated x.table.shared.table_id (key_of x) new) is seated;
      rest = rest;
      number_is = core ∙ whole.number_is;
      plan_is = whole.plan_is;
    }

    pub called_same : (view_at new).core ≡ (view_at seat).core → IsSameCore s (core_shown new)
    called_same core = record {
      table_is = seated.same ∙ sym call_seated.same ∙ ap (λ (x : TheCore). x.table) shows;
      sides_are = sides_are b.table.shared.table_id (key_of b) new seated ∙ sym sides_so ∙ ap (λ (x : TheCore). x.sides) shows;
      number_is = core ∙ ap (λ (x : TheCore). x.number) shows;
    }

    pub called_steps : (a : RingSide) → StepsBy (key_of b).sides.items (view_at new) a → SideFor (core_shown new) a
    called_steps a at = seen_steps (key_of b).sides.items (view_at new).sides (view_at new) a (sides_are b.table.shared.table_id (key_of b) new seated) at

pub same_table : (table : TableId) (plan : Plan) (old new : RingsSeat) → IsSeated table plan old → IsSeated table plan new → new.table_id ≡ old.table_id
same_table table plan old new s t = t.same ∙ sym s.same

-- ---- whose side it is, as code finds it

pub there_as_read : (ends : List SideEnd) (s : ℕ) (e : SideEnd) → true ≡ ltb s (length ends) → e ≡ get_or ends s e → get_elem? ends s ≡ some e
there_as_read ends s e low here = at_index ends s e (ltb-true s (length ends) (sym low)) here

pub nobody_there : (ends : List SideEnd) (s : ℕ) (e : SideEnd) → false ≡ ltb s (length ends) → get_elem? ends s ≡ some e → ⊥
nobody_there ends s e past at = let a = within ends s e at in let b = ltb-false s (length ends) (sym past) in omega (arith, a, b)

pub owned_else : (ends : List SideEnd) (s core : ℕ) (e : SideEnd) → get_elem? ends s ≡ some e → e.core ≢ core → Owns ends s core → ⊥
owned_else ends s core e here other (u, at, owns) = other (ap (λ (x : SideEnd). x.core) (same_there ends s e u here at) ∙ owns)

-- ---- a core's other sides

pub sides_stay : SidesStay
sides_stay = λ c s d a ne at.
    let e : Entry = entry c.number s d in
    let away : s ≢ a.put.side = λ x. ne (sym x) in
    let away_too : s ≢ a.take.side = λ x. ne (sym (x ∙ at.one)) in
    let p = at.put in
    let t = at.take in
    record {
      put = record { end = p.end; there = p.there; mine = p.mine; base_is = p.base_is; size_is = p.size_is; index_is = p.index_is ∙ ap length (sym (gather_else one_put a.put.side c.steps e away)) };
      take = record { end = t.end; there = t.there; mine = t.mine; base_is = t.base_is; size_is = t.size_is; index_is = t.index_is ∙ ap length (sym (gather_else one_took a.take.side c.steps e away_too)) };
      one = at.one;
      known_is = at.known_is ∙ sym (ap (λ (xs : List ℕ). known_from 0 xs) (gather_else one_found a.put.side c.steps e away));
      known_put = at.known_put;
      near = at.near;
      most = at.most;
      most_taken = at.most_taken;
      told_is = at.told_is ∙ sym (told_else a.put.side c.steps e away);
    }

-- ---- a side made, as code finds it

module _ (board b : RingsBoard) (seat : RingsSeat) (number : ℕ) (s : TheCore) (whole : IsWhole board seat number) (shows : core_shown seat ≡ s) (is : b ≡ board) (xs : List SideEnd) (list : xs ≡ b.plan.sides.items) where
  key_so : (key_of board).sides.items ≡ xs
  key_so = ap (λ (p : Plan). p.sides.items) whole.plan_is ∙ (ap (λ (x : RingsBoard). x.plan.sides.items) (sym is) ∙ sym list)

  shown_sides : s.sides ≡ xs
  shown_sides = ap (λ (x : TheCore). x.sides) (sym shows) ∙ (sides_are board.table.shared.table_id (key_of board) seat whole.seated ∙ key_so)

  shown_number : s.number ≡ number
  shown_number = ap (λ (x : TheCore). x.number) (sym shows) ∙ whole.number_is

  pub not_owned : (k : ℕ) → ¬ (Owns xs k number) → ¬ (Owns s.sides k s.number)
  not_owned k none mine = none (subst (λ (n : ℕ). Owns xs k n) shown_number (subst (λ (l : List SideEnd). Owns l k s.number) shown_sides mine))

  -- the table has the words of these ways, this side and the other one are there, and have a slot
  pub side_may : (k slots : ℕ) (end : SideEnd) → get_elem? xs k ≡ some end → end.slots ≡ slots → (words_of xs < 2 ^ 64) × (k < length xs) × (mate k < length xs) × (0 < slots)
  side_may k slots end at sized =
      let laid = whole.seated.laid in
      let wide : board.table.shared.table_id.words ≡ words_of xs + 1 = laid.wide ∙ ap (λ (l : List SideEnd). words_of l + 1) key_so in
      let short = laid.short in
      let at_key : get_elem? (key_of board).sides.items k ≡ some end = subst (λ (l : List SideEnd). get_elem? l k ≡ some end) (sym key_so) at in
      let some_slot = (laid.some_slots k end at_key).0 in
      let other = laid.paired k end at_key in
      (omega (arith, wide, short), within xs k end at, within xs (mate k) other.0 (subst (λ (l : List SideEnd). get_elem? l (mate k) ≡ some other.0) key_so other.1), omega (arith, some_slot, sized))

  pub made_side : (k slots : ℕ) (a : RingSide) → s.steps ≡ [] → OwnsSlots xs k number slots → a ≡ side_from xs k slots → SideFor s a × (a.put.side ≡ k)
  made_side k slots a new (end, at, mine, sized) is_side =
      let so : side_from s.sides k slots ≡ a = ap (λ (l : List SideEnd). side_from l k slots) shown_sides ∙ sym is_side in
      let at_s : get_elem? s.sides k ≡ some end = subst (λ (l : List SideEnd). get_elem? l k ≡ some end) (sym shown_sides) at in
      let mine_s : end.core ≡ s.number = mine ∙ sym shown_number in (
        subst (λ (x : RingSide). SideFor s x) so (record {
          put = record { end = end; there = at_s; mine = mine_s; base_is = refl; size_is = sym sized; index_is = ap (λ (es : List Entry). length (puts_at k es)) (sym new) };
          take = record { end = end; there = at_s; mine = mine_s; base_is = refl; size_is = sym sized; index_is = ap (λ (es : List Entry). length (takes_at k es)) (sym new) };
          one = refl;
          known_is = ap (λ (es : List Entry). known_at k es) (sym new);
          known_put = omega arith;
          near = omega arith;
          most = omega arith;
          most_taken = omega arith;
          told_is = ap (λ (es : List Entry). told_at k es) (sym new);
        }),
        ap (λ (x : RingSide). x.put.side) is_side,
      )
