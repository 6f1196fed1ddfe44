-- What a call of a core by one of its sides is, as that side is shown.
use Rattle.std.proofs.Common.{ℕ, ◌≡◌, ◌<◌, ◌≤◌, ◌+◌, ◌%◌, ◌⊎◌, inl, inr, Option, None, [], ◌∷◌, ◌++◌, List, length, ap, subst, ◌∙◌, sym, refl, arith}
use Rattle.std.proofs.lemmas.Bool.{cases_lt}
use mathlib.Core.Option.{some}
use lib.ListN.{get_elem?}
use Rattle.fl_base.specs.declared.fragment.Frag.{Frag}
use Rattle.fl_base.specs.Control.{told_of, bare, stamped}
use Rattle.fl_link.specs.Cursor.{epoch_at}
use Rattle.fl_link.specs.Looks.{Look}
use Rattle.fl_link.proofs.Carried.{bare-stamped}
use Rattle.fl_ring.specs.Counts.{count_from}
use Rattle.fl_ring.specs.SharedSides.{TheSide, Looked, free_of, side_missed, side_counted, side_written, KnowsSent}
use Rattle.fl_history_rings.specs.declared.board.Action.{Action}
use Rattle.fl_history_rings.specs.declared.board.Action.TheVariants.{Put, Found, Missed}
use Rattle.fl_history_rings.specs.declared.board.SideEnd.{SideEnd}
use Rattle.fl_history_rings.specs.declared.place.RingSide.{RingSide}
use Rattle.fl_history_rings.specs.declared.place.SlotPlace.{SlotPlace}
use Rattle.fl_history_rings.specs.Rule.{puts_at, takes_at, known_at, seen_at}
use Rattle.fl_history_rings.specs.Cores.{TheCore, noting}
use Rattle.fl_history_rings.specs.Sides.{SideFor, HasFree, LacksFree, LooksForRoom, FindsRoom, MayStand, counting, having_put, put_by}
use Rattle.fl_history_rings.proofs.Logs.{same_there}
use Rattle.fl_history_sides.specs.States.{side_shown, core_until}
use Rattle.fl_history_sides.specs.Noted.{NotesFound, NotesFull, NotesPut, Notes, IsNoted, GoesOn, noting_all}
use Rattle.fl_history_sides.proofs.Until.{goes_on, noting_push}
use Rattle.fl_history_sides.proofs.Steps.{after_until, after_missed, after_found, after_written}

-- the side, as those of a ring with a table of its own are shown
abbrev pub shared_of : TheCore → RingSide → TheSide
shared_of c a = (side_shown c a).side

-- ---- its numbers

-- what the code keeps is what the core did
pub record Counts (c : TheCore) (a : RingSide) : Type 0 where
  pub sent : length (puts_at a.put.side c.steps) ≡ a.put.cursor.index
  pub known : known_at a.put.side c.steps ≡ a.known
  pub got : length (takes_at a.put.side c.steps) ≡ a.take.cursor.index
  pub slots : a.take.cursor.size ≡ a.put.cursor.size

pub counts_of : (c : TheCore) (a : RingSide) → SideFor c a → Counts c a
counts_of c a at =
    let there : get_elem? c.sides a.put.side ≡ some at.take.end = subst (λ (s : ℕ). get_elem? c.sides s ≡ some at.take.end) at.one at.take.there in
    let end : at.take.end ≡ at.put.end = same_there c.sides a.put.side at.take.end at.put.end there at.put.there in
    record {
      sent = sym at.put.index_is;
      known = sym at.known_is;
      got = sym (at.take.index_is ∙ ap (λ (s : ℕ). length (takes_at s c.steps)) at.one);
      slots = at.take.size_is ∙ ap (λ (e : SideEnd). e.slots) end ∙ sym at.put.size_is;
    }

-- free slots, as the code counts them and as they are shown
pub is_free : (need : ℕ) (c : TheCore) (a : RingSide) → Counts c a → 0 < need → HasFree need a → need ≤ free_of (shared_of c a)
is_free need c a h any free = let sent = h.sent in let known = h.known in omega (arith, sent, known, free)

pub is_short : (need : ℕ) (c : TheCore) (a : RingSide) → Counts c a → LacksFree need a → 0 < need → free_of (shared_of c a) < need
is_short need c a h lacks any = let sent = h.sent in let known = h.known in omega (arith, sent, known, lacks, any)

-- ---- what a call noted

pub record Does (c : TheCore) (a : RingSide) (look : Look) (t : TheCore) (b : RingSide) : Type 0 where
  pub did : List Action
  pub notes : Notes look did
  pub then_is : t ≡ noting_all c a.put.side did
  pub number : b.put.side ≡ a.put.side

pub noted : (c : TheCore) (a : RingSide) (look : Look) (t : TheCore) (b : RingSide) → Does c a look t b → IsNoted (side_shown c a) look (side_shown t b)
noted c a look t b h =
    let s : ℕ = a.put.side in
    let by_all : GoesOn s (core_until s c) h.did (core_until s t) = subst (λ (x : TheCore). GoesOn s (core_until s c) h.did (core_until s x)) (sym h.then_is) (goes_on c s h.did) in
    record {
      number = h.number;
      did = h.did;
      notes = h.notes;
      goes_on = subst (λ (k : ℕ). GoesOn s (core_until s c) h.did (core_until k t)) (sym h.number) by_all;
      shown = sym (after_until t.table b.put.cursor.size b.put.side t.steps);
    }

-- ---- a look for room

pub record Room (need : ℕ) (c : TheCore) (a mid : RingSide) (between : TheCore) : Type 0 where
  pub did : List Action
  pub notes : NotesFull did
  pub finds : HasFree need mid → NotesFound did
  pub then_is : between ≡ noting_all c a.put.side did
  pub put_is : mid.put ≡ a.put
  pub shown : Looked need (shared_of c a) (shared_of between mid)
  pub counts : Counts between mid

module _ (need : ℕ) (some_need : 0 < need) (c : TheCore) (a : RingSide) (at : SideFor c a) where
  counts : Counts c a
  counts = counts_of c a at

  s : ℕ
  s = a.put.side

  by_known : HasFree need a → Room need c a a c
  by_known free = record {
    did = [];
    notes = inl (inl refl);
    finds = λ _. inl refl;
    then_is = refl;
    put_is = refl;
    shown = record { by_known = λ _. refl; by_look = λ short. let enough = is_free need c a counts some_need free in absurd (omega (arith, short, enough)) };
    counts = counts;
  }

  -- it finds nothing
  missed_so : shared_of (noting c a.put.side Missed) a ≡ side_missed (shared_of c a)
  missed_so = after_missed c.table a.put.cursor.size a.put.side c.number c.steps

  by_miss : LacksFree need a → (let nothing : Option Frag = None in seen_at a.put.side c.steps ≡ nothing) → Room need c a a (noting c a.put.side Missed)
  by_miss lacks none = record {
    did = Missed ∷ [];
    notes = inr refl;
    finds = λ enough. absurd (omega (arith, lacks, enough));
    then_is = refl;
    put_is = refl;
    shown = record { by_known = λ enough. let short = is_short need c a counts lacks some_need in absurd (omega (arith, short, enough)); by_look = λ _. inl (none, missed_so) };
    counts = record {
      sent = ap (λ (x : TheSide). length x.sent) missed_so ∙ counts.sent;
      known = ap (λ (x : TheSide). x.known) missed_so ∙ counts.known;
      got = ap (λ (x : TheSide). length x.got) missed_so ∙ counts.got;
      slots = counts.slots;
    };
  }

  -- it finds a control word
  module _ (control : ℕ) (may : MayStand c a control) where
    counted : TheSide
    counted = side_counted (shared_of c a) (count_from (known_at a.put.side c.steps) (told_of control))

    found_so : shared_of (noting c a.put.side (Found control)) (counting a control) ≡ side_counted (shared_of c a) (count_from (known_at a.put.side c.steps) (told_of control))
    found_so = after_found c.table a.put.cursor.size a.put.side c.number c.steps control

    known_so : count_from (known_at a.put.side c.steps) (told_of control) ≡ count_from a.known (told_of control)
    known_so = ap (λ (k : ℕ). count_from k (told_of control)) counts.known

    put_so : count_from (known_at a.put.side c.steps) (told_of control) ≤ length (puts_at a.put.side c.steps)
    put_so = subst (λ (k : ℕ). k ≤ length (puts_at a.put.side c.steps)) (sym known_so) (subst (λ (k : ℕ). count_from a.known (told_of control) ≤ k) (sym counts.sent) may.told_put)

    by_find : LacksFree need a → Room need c a (counting a control) (noting c a.put.side (Found control))
    by_find lacks = record {
      did = Found control ∷ [];
      notes = inl (inr (control, refl));
      finds = λ _. inr (control, refl);
      then_is = refl;
      put_is = refl;
      shown = record {
        by_known = λ enough. let short = is_short need c a counts lacks some_need in absurd (omega (arith, short, enough));
        by_look = λ _. inr (
          control,
          record {
            due = may.due ∙ ap (λ (n : ℕ). epoch_at n a.take.cursor.index) counts.slots ∙ ap (λ (k : ℕ). epoch_at a.put.cursor.size k) (sym counts.got);
            seen = may.seen;
          },
          found_so,
          subst (λ (x : TheSide). KnowsSent x) (sym found_so) put_so,
        );
      };
      counts = record {
        sent = ap (λ (x : TheSide). length x.sent) found_so ∙ counts.sent;
        known = ap (λ (x : TheSide). x.known) found_so ∙ known_so;
        got = ap (λ (x : TheSide). length x.got) found_so ∙ counts.got;
        slots = counts.slots;
      };
    }

  pub finds_room : (mid : RingSide) (between : TheCore) → FindsRoom need c a mid between → Room need c a mid between
  finds_room mid between h = by (cases_lt (a.known + a.put.cursor.size) (a.put.cursor.index + need))
    where
      as_is : (x : TheCore) (b : RingSide) → between ≡ x → mid ≡ b → Room need c a b x → Room need c a mid between
      as_is x b core side room = subst (λ (y : TheCore). Room need c a mid y) (sym core) (subst (λ (y : RingSide). Room need c a y x) (sym side) room)

      looked : LacksFree need a → LooksForRoom c a mid between → Room need c a mid between
      looked lacks (inl (is, same, none)) = as_is (noting c a.put.side Missed) a is same (by_miss lacks none)
      looked lacks (inr (control, is, same, may)) = as_is (noting c a.put.side (Found control)) (counting a control) is same (by_find control may lacks)

      by : (a.known + a.put.cursor.size < a.put.cursor.index + need) ⊎ (a.put.cursor.index + need ≤ a.known + a.put.cursor.size) → Room need c a mid between
      by (inl lacks) = looked lacks (h.by_look lacks)
      by (inr free) = let kept = h.by_known free in as_is c a kept.0 kept.1 (by_known free)

-- ---- a put, where there is room

module _ (need : ℕ) (c : TheCore) (a mid : RingSide) (between : TheCore) (room : Room need c a mid between) (frag : Frag) (t : TheCore) (b : RingSide) (is : t ≡ noting between a.put.side (Put (put_by mid frag))) (same : b ≡ having_put mid) where
  side_is : mid.put.side ≡ a.put.side
  side_is = ap (λ (p : SlotPlace). p.side) room.put_is

  at_mid : t ≡ noting between mid.put.side (Put (put_by mid frag))
  at_mid = is ∙ ap (λ (s : ℕ). noting between s (Put (put_by mid frag))) (sym side_is)

  stamp_is : put_by mid frag ≡ stamped frag (epoch_at mid.put.cursor.size (length (puts_at mid.put.side between.steps))) (length (takes_at mid.put.side between.steps) % 65536)
  stamp_is =
      ap (λ (k : ℕ). stamped frag (epoch_at mid.put.cursor.size k) (mid.take.cursor.index % 65536)) (sym room.counts.sent)
      ∙ ap (λ (k : ℕ). stamped frag (epoch_at mid.put.cursor.size (length (puts_at mid.put.side between.steps))) (k % 65536)) (sym room.counts.got)

  pub wrote : shared_of t b ≡ side_written (shared_of between mid) frag
  wrote =
      ap (λ (x : RingSide). shared_of t x) same ∙ ap (λ (x : TheCore). shared_of x (having_put mid)) at_mid
      ∙ ap (λ (f : Frag). shared_of (noting between mid.put.side (Put f)) (having_put mid)) stamp_is
      ∙ after_written between.table mid.put.cursor.size mid.put.side between.number between.steps frag

  pub number_is : b.put.side ≡ a.put.side
  number_is = ap (λ (x : RingSide). x.put.side) same ∙ side_is

  abbrev pub all_did : List Action
  all_did = room.did ++ Put (put_by mid frag) ∷ []

  pub all_noted : t ≡ noting_all c a.put.side (room.did ++ Put (put_by mid frag) ∷ [])
  all_noted =
      is ∙ ap (λ (x : TheCore). noting x a.put.side (Put (put_by mid frag))) room.then_is ∙ sym (noting_push c a.put.side room.did (Put (put_by mid frag)))

  pub notes_put : HasFree need mid → NotesPut (bare frag) (room.did ++ Put (put_by mid frag) ∷ [])
  notes_put free = (room.did, put_by mid frag, room.finds free, bare-stamped frag (epoch_at mid.put.cursor.size mid.put.cursor.index) (mid.take.cursor.index % 65536) (omega arith), refl)
