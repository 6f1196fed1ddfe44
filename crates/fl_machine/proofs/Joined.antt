-- Places, each with its room.
use Rattle.std.proofs.Common.{◌≡◌, ℕ, zero, suc, ◌+◌, ◌-◌, ◌<◌, ◌≤◌, List, [], ◌∷◌, ◌++◌, map, length, take, drop, get_or, set, Some, None, refl, sym, subst, ap, ◌∙◌, arith}
use Rattle.std.specs.Prelude.{slice_get, Option, option_map, Result, Ok, Err, OnErr}
use Rattle.std.specs.Global.{Vec}
use Rattle.std.specs.Option.{MatchOption, option_to_list}
use Rattle.std.specs.Vec.{with_items}
use Rattle.std.proofs.lemmas.List.{length-take-le, length-drop, length_push, take_at, with_items_is}
use Rattle.std.proofs.lemmas.Option.{none-some, same_Some, get_or_from_slice_get, slice_get_read, slice_get-map}
use Rattle.fl_base.specs.declared.fragment.Frag.{Frag}
use Rattle.fl_compile.specs.declared.program.Program.{Program}
use Rattle.fl_compile.specs.Programs.{TheProgram, program_of}
use Rattle.fl_machine.specs.declared.recv.PartialCall.{PartialCall}
use Rattle.fl_machine.specs.declared.rooms.Rooms.{Rooms}
use Rattle.fl_machine.specs.declared.reassembly.Assembly.{Assembly}
use Rattle.fl_machine.specs.declared.reassembly.Taken.{Taken}
use Rattle.fl_machine.specs.declared.reassembly.TakeFault.{TakeFault}
use Rattle.fl_machine.specs.declared.reassembly.TakeFault.TheVariants.{Wire, Memory}
use Rattle.fl_machine.specs.Receiving.{HoldsParts}
use Rattle.fl_machine.specs.Reassembling.{TheReassembly, Takes, ChangesPlace, IsUnderWay, new_reassembly, without_parts, reassembly_on}
use Rattle.fl_machine.specs.Rooms.{TheRoom, IsOpened, IsThere, LiesAt, AreRooms, not_there, frags_from, room_in, rooms_of}
use Rattle.fl_machine.specs.Places.{AreJoined, IsPlace, StandsOn, joined, frags_in, reassembly_at}
use Rattle.fl_machine.proofs.Laid.{are_same, is_written, set_there, written, written_length}

pub length_joined : (ps : List Assembly) (ts : List TheRoom) → AreJoined ps ts → length (joined ps ts) ≡ length ps
length_joined [] ts h = refl
length_joined (p ∷ ps) [] h = absurd h
length_joined (p ∷ ps) (t ∷ ts) h = ap suc (length_joined ps ts h.1)

pub length_rooms : (ps : List Assembly) (ts : List TheRoom) → AreJoined ps ts → length ts ≡ length ps
length_rooms [] [] h = refl
length_rooms [] (t ∷ ts) h = absurd h
length_rooms (p ∷ ps) [] h = absurd h
length_rooms (p ∷ ps) (t ∷ ts) h = ap suc (length_rooms ps ts h.1)

-- a place's room, and what both are
pub record Found (ps : List Assembly) (ts : List TheRoom) (k : ℕ) (p : Assembly) : Type 0 where
  pub room : TheRoom
  pub there : slice_get ts k ≡ Some room
  pub place : IsPlace p room
  pub shown : slice_get (joined ps ts) k ≡ Some (reassembly_at p room)

pub found : (ps : List Assembly) (ts : List TheRoom) (k : ℕ) (p : Assembly) → AreJoined ps ts → slice_get ps k ≡ Some p → Found ps ts k p
found [] ts k p h e = absurd (none-some p e)
found (q ∷ ps) [] k p h e = absurd h
found (q ∷ ps) (t ∷ ts) zero p h e =
    let same : q ≡ p = same_Some q p e in
    record { room = t; there = refl; place = subst (λ (x : Assembly). IsPlace x t) same h.0; shown = ap (λ (x : Assembly). Some (reassembly_at x t)) same }
found (q ∷ ps) (t ∷ ts) (suc k) p h e =
    let rest = found ps ts k p h.1 e in
    record { room = rest.room; there = rest.there; place = rest.place; shown = rest.shown }

pub joined_set : (ps : List Assembly) (ts : List TheRoom) (k : ℕ) (p : Assembly) (t : TheRoom) → AreJoined ps ts → joined (set ps k p) (set ts k t) ≡ set (joined ps ts) k (reassembly_at p t)
joined_set [] ts k p t h = refl
joined_set (q ∷ ps) [] k p t h = absurd h
joined_set (q ∷ ps) (u ∷ ts) zero p t h = refl
joined_set (q ∷ ps) (u ∷ ts) (suc k) p t h = ap (λ (xs : List TheReassembly). reassembly_at q u ∷ xs) (joined_set ps ts k p t h.1)

pub are_set : (ps : List Assembly) (ts : List TheRoom) (k : ℕ) (p : Assembly) (t : TheRoom) → AreJoined ps ts → IsPlace p t → AreJoined (set ps k p) (set ts k t)
are_set [] [] k p t h is = tt
are_set [] (u ∷ ts) k p t h is = absurd h
are_set (q ∷ ps) [] k p t h is = absurd h
are_set (q ∷ ps) (u ∷ ts) zero p t h is = (is, h.1)
are_set (q ∷ ps) (u ∷ ts) (suc k) p t h is = (h.0, are_set ps ts k p t h.1 is)

pub joined_push : (ps : List Assembly) (ts : List TheRoom) (p : Assembly) (t : TheRoom) → AreJoined ps ts → joined (ps ++ p ∷ []) (ts ++ t ∷ []) ≡ joined ps ts ++ reassembly_at p t ∷ []
joined_push [] [] p t h = refl
joined_push [] (u ∷ ts) p t h = absurd h
joined_push (q ∷ ps) [] p t h = absurd h
joined_push (q ∷ ps) (u ∷ ts) p t h = ap (λ (xs : List TheReassembly). reassembly_at q u ∷ xs) (joined_push ps ts p t h.1)

pub are_pushed : (ps : List Assembly) (ts : List TheRoom) (p : Assembly) (t : TheRoom) → AreJoined ps ts → IsPlace p t → AreJoined (ps ++ p ∷ []) (ts ++ t ∷ [])
are_pushed [] [] p t h is = (is, tt)
are_pushed [] (u ∷ ts) p t h is = absurd h
are_pushed (q ∷ ps) [] p t h is = absurd h
are_pushed (q ∷ ps) (u ∷ ts) p t h is = (h.0, are_pushed ps ts p t h.1 is)

-- without the last place
pub record Shorter (ps : List Assembly) (p : Assembly) (ts : List TheRoom) : Type 0 where
  pub before : List TheRoom
  pub last : TheRoom
  pub rooms_are : ts ≡ before ++ last ∷ []
  pub are : AreJoined ps before
  pub shown : joined (ps ++ p ∷ []) ts ≡ joined ps before ++ reassembly_at p last ∷ []

pub shorter : (ps : List Assembly) (p : Assembly) (ts : List TheRoom) → AreJoined (ps ++ p ∷ []) ts → Shorter ps p ts
shorter [] p [] h = absurd h
shorter [] p (t ∷ []) h = record { before = []; last = t; rooms_are = refl; are = tt; shown = refl }
shorter [] p (t ∷ u ∷ ts) h = absurd h.1
shorter (q ∷ ps) p [] h = absurd h
shorter (q ∷ ps) p (t ∷ ts) h =
    let rest = shorter ps p ts h.1 in
    record {
      before = t ∷ rest.before;
      last = rest.last;
      rooms_are = ap (λ (xs : List TheRoom). t ∷ xs) rest.rooms_are;
      are = (h.0, rest.are);
      shown = ap (λ (xs : List TheReassembly). reassembly_at q t ∷ xs) rest.shown;
    }

-- ---- one place changes

pub new_place : (program : Program) (capacity : ℕ) → HoldsParts (program_of program).plan (program_of program).interface capacity → IsPlace (record { program = program; begun = None }) (not_there capacity)
new_place program capacity holds = record { holds = holds; stands = refl }

-- a call under way has its room
pub inside_there : (ps : List Assembly) (ts : List TheRoom) (k : ℕ) (p : Assembly) (b : PartialCall) → AreJoined ps ts → slice_get ps k ≡ Some p → p.begun ≡ Some b → IsThere ts k
inside_there ps ts k p b h at some =
    let f = found ps ts k p h at in
    let frags = by_frags f.room.frags f.place.stands in
    record { room = f.room; at = f.there; frags = frags.0; frags_are = frags.1 }
  where
    by_frags : (o : Option (List Frag)) → StandsOn (program_of p.program) o p.begun → (ns : List Frag) × (o ≡ Some ns)
    by_frags None none = absurd (none-some b (sym none ∙ some))
    by_frags (Some ns) stands = (ns, refl)

-- between two calls a room may be opened
pub record Opened (ps : List Assembly) (ts us : List TheRoom) (k : ℕ) : Type 0 where
  pub are : AreJoined ps us
  pub same : joined ps us ≡ joined ps ts
  pub there : IsThere us k

pub opened : (ps : List Assembly) (ts us : List TheRoom) (k : ℕ) (p : Assembly) → AreJoined ps ts → slice_get ps k ≡ Some p → p.begun ≡ None → IsOpened ts k us → Opened ps ts us k
opened ps ts us k p h at none o =
    let f = found ps ts k p h at in
    let now : TheRoom = record { size = o.was.size; frags = Some o.frags } in
    let was : f.room ≡ o.was = same_Some f.room o.was (sym f.there ∙ o.was_there) in
    let place : IsPlace p now = record {
      holds = subst (λ (t : TheRoom). HoldsParts (program_of p.program).plan (program_of p.program).interface t.size) was f.place.holds;
      stands = subst (λ (x : Option PartialCall). IsUnderWay (program_of p.program) o.frags x) (sym none) tt;
    } in
    let shown : reassembly_at p now ≡ reassembly_at p f.room
    = ap (λ (x : Option PartialCall). reassembly_on p.program o.frags x) none ∙ sym (ap (λ (x : Option PartialCall). reassembly_on p.program (frags_in f.room.frags) x) none) in
    let there : slice_get (set ts k now) k ≡ Some now = get_set ts k now f.room f.there in
    record {
      are = subst (λ (xs : List TheRoom). AreJoined ps xs) (sym o.after_is) (subst (λ (xs : List Assembly). AreJoined xs (set ts k now)) (set_there ps k p at) (are_set ps ts k p now h place));
      same = ap (joined ps) o.after_is ∙ ap (λ (xs : List Assembly). joined xs (set ts k now)) (sym (set_there ps k p at)) ∙ joined_set ps ts k p now h
          ∙ ap (λ (x : TheReassembly). set (joined ps ts) k x) shown ∙ set_there (joined ps ts) k (reassembly_at p f.room) f.shown;
      there = record { room = now; at = ap (λ (xs : List TheRoom). slice_get xs k) o.after_is ∙ there; frags = o.frags; frags_are = refl };
    }
  where
    get_set : {X : Type 0} (xs : List X) (i : ℕ) (x y : X) → slice_get xs i ≡ Some y → slice_get (set xs i x) i ≡ Some x
    get_set [] i x y e = absurd (none-some y e)
    get_set (z ∷ xs) zero x y e = refl
    get_set (z ∷ xs) (suc i) x y e = get_set xs i x y e

-- a call of one fragment changes nothing
pub not_changed : (ps : List Assembly) (ts : List TheRoom) (k : ℕ) (p : Assembly) (Event : TheReassembly → TheReassembly → Type 0) → AreJoined ps ts → slice_get ps k ≡ Some p → p.begun ≡ None
    → Event (new_reassembly p.program) (new_reassembly p.program) → ChangesPlace (joined ps ts) k Event (joined ps ts)
not_changed ps ts k p Event h at none event =
    let f = found ps ts k p h at in
    let was : slice_get (joined ps ts) k ≡ Some (new_reassembly p.program)
    = f.shown ∙ ap (λ (x : Option PartialCall). Some (reassembly_on p.program (frags_in f.room.frags) x)) none in
    record {
      was = new_reassembly p.program;
      was_there = was;
      is = new_reassembly p.program;
      event = event;
      after_is = sym (set_there (joined ps ts) k (new_reassembly p.program) was);
    }

-- done with a call
pub record Finished (ps : List Assembly) (ts : List TheRoom) (k : ℕ) (q : Assembly) : Type 0 where
  pub are : AreJoined (set ps k q) ts
  pub changes : ChangesPlace (joined ps ts) k (λ s t. t ≡ without_parts s) (joined (set ps k q) ts)

pub finished : (ps : List Assembly) (ts : List TheRoom) (k : ℕ) (p q : Assembly) → AreJoined ps ts → slice_get ps k ≡ Some p → q.program ≡ p.program → q.begun ≡ None → Finished ps ts k q
finished ps ts k p q h at program none =
    let f = found ps ts k p h at in
    let rooms : set ts k f.room ≡ ts = set_there ts k f.room f.there in
    let place : IsPlace q f.room = record {
      holds = subst (λ (x : Program). HoldsParts (program_of x).plan (program_of x).interface f.room.size) (sym program) f.place.holds;
      stands = subst (λ (x : Option PartialCall). StandsOn (program_of q.program) f.room.frags x) (sym none) (by_frags (program_of q.program) f.room.frags);
    } in
    let is : reassembly_at q f.room ≡ without_parts (reassembly_at p f.room)
    = ap (λ (x : Option PartialCall). reassembly_on q.program (frags_in f.room.frags) x) none ∙ ap new_reassembly program in
    record {
      are = subst (λ (xs : List TheRoom). AreJoined (set ps k q) xs) rooms (are_set ps ts k q f.room h place);
      changes = record {
        was = reassembly_at p f.room;
        was_there = f.shown;
        is = reassembly_at q f.room;
        event = is;
        after_is = ap (joined (set ps k q)) (sym rooms) ∙ joined_set ps ts k q f.room h;
      };
    }
  where
    by_frags : (x : TheProgram) (o : Option (List Frag)) → StandsOn x o None
    by_frags x None = refl
    by_frags x (Some ns) = tt

-- ---- a fragment is taken on a room

pub lies : (t : Rooms) (k start end : ℕ) (l : LiesAt t k start end)
    → slice_get (rooms_of t) k ≡ Some (record { size = l.span.size; frags = Some (take (end - start) (drop start t.block.items)) })
lies t k start end l =
    let size : l.span.size ≡ end - start = omega (arith, l.end_is) in
    slice_get-map (room_in t.block.items) t.spans.items k ∙ ap (option_map (room_in t.block.items)) l.span_there
    ∙ ap (λ (o : Option (List Frag)). Some (record { size = l.span.size; frags = o }))
    (ap (frags_from t.block.items l.span.size) l.start_is ∙ ap (λ (n : ℕ). Some (take n (drop start t.block.items))) size)

pub record InRoom (p : Assembly) (room : List Frag) : Type 0 where
  pub under_way : IsUnderWay (program_of p.program) room p.begun
  pub holds : HoldsParts (program_of p.program).plan (program_of p.program).interface (length room)

pub in_room : (t : Rooms) (ps : List Assembly) (k start end : ℕ) (p : Assembly) → AreJoined ps (rooms_of t) → slice_get ps k ≡ Some p → LiesAt t k start end
    → InRoom p (take (end - start) (drop start t.block.items))
in_room t ps k start end p h at l =
    let f = found ps (rooms_of t) k p h at in
    let room = take (end - start) (drop start t.block.items) in
    let is : TheRoom = record { size = l.span.size; frags = Some room } in
    let place : IsPlace p is = subst (λ (x : TheRoom). IsPlace p x) (same_Some f.room is (sym f.there ∙ lies t k start end l)) f.place in
    let long : length room ≡ l.span.size = length-take-le (end - start) (drop start t.block.items) (omega (arith, l.within, l.end_is, length-drop start t.block.items)) ∙ omega (arith, l.end_is) in
    record {
      under_way = place.stands;
      holds = subst (λ (n : ℕ). HoldsParts (program_of p.program).plan (program_of p.program).interface n) (sym long) place.holds;
    }

-- what was written on a room, and a place changed beside it
pub record TakenOn (t : Rooms) (block : List Frag) (capacity : ℕ) (ps : List Assembly) (k : ℕ) (q : Assembly) (Event : TheReassembly → TheReassembly → Type 0) : Type 0 where
  pub rooms : AreRooms (length block) capacity t.spans.items t.owed
  pub are : AreJoined (set ps k q) (map (room_in block) t.spans.items)
  pub changes : ChangesPlace (joined ps (rooms_of t)) k Event (joined (set ps k q) (map (room_in block) t.spans.items))

pub taken_on : (t : Rooms) (capacity : ℕ) (ps : List Assembly) (k start end : ℕ) (p q : Assembly) (room block : List Frag) (Event : TheReassembly → TheReassembly → Type 0)
    → AreRooms (length t.block.items) capacity t.spans.items t.owed → AreJoined ps (rooms_of t) → slice_get ps k ≡ Some p → LiesAt t k start end
    → length room ≡ end - start → block ≡ written t.block.items start room → q.program ≡ p.program → IsUnderWay (program_of p.program) room q.begun
    → Event (reassembly_on p.program (take (end - start) (drop start t.block.items)) p.begun) (reassembly_on p.program room q.begun)
    → TakenOn t block capacity ps k q Event
taken_on t capacity ps k start end p q room block Event rooms h at l long written_is program under_way event =
    let ts = rooms_of t in
    let f = found ps ts k p h at in
    let was : TheRoom = record { size = l.span.size; frags = Some (take (end - start) (drop start t.block.items)) } in
    let now : TheRoom = record { size = l.span.size; frags = Some room } in
    let size : length room ≡ l.span.size = omega (arith, long, l.end_is) in
    let same : f.room ≡ was = same_Some f.room was (sym f.there ∙ lies t k start end l) in
    let set_is : map (room_in block) t.spans.items ≡ set ts k now
    = ap (λ (b : List Frag). map (room_in b) t.spans.items) written_is
    ∙ is_written t.block.items capacity t.spans.items t.owed k l.span start room rooms l.span_there l.start_is size in
    let place : IsPlace q now = record {
      holds = subst (λ (x : Program). HoldsParts (program_of x).plan (program_of x).interface l.span.size) (sym program)
          (subst (λ (x : TheRoom). HoldsParts (program_of p.program).plan (program_of p.program).interface x.size) same f.place.holds);
      stands = subst (λ (x : Program). IsUnderWay (program_of x) room q.begun) (sym program) under_way;
    } in
    record {
      rooms = are_same rooms (ap length written_is ∙ written_length t.block.items start room (omega (arith, size, l.end_is, l.within))) refl refl;
      are = subst (λ (xs : List TheRoom). AreJoined (set ps k q) xs) (sym set_is) (are_set ps ts k q now h place);
      changes = record {
        was = reassembly_on p.program (take (end - start) (drop start t.block.items)) p.begun;
        was_there = f.shown ∙ ap (λ (x : TheRoom). Some (reassembly_at p x)) same;
        is = reassembly_on p.program room q.begun;
        event = event;
        after_is = ap (joined (set ps k q)) set_is ∙ joined_set ps ts k q now h ∙ ap (λ (x : Program). set (joined ps ts) k (reassembly_on x room q.begun)) program;
      };
    }

-- ---- faults

pub kept : (before after : List TheReassembly) (k : ℕ) (f : Frag) (r : Result Taken TakeFault) → ChangesPlace before k (λ s t. Takes s f r t) after → OnErr r (after ≡ before)
kept before after k f (Ok taken) c = tt
kept before after k f (Err (Wire fault)) c = c.after_is ∙ ap (set before k) c.event.1 ∙ set_there before k c.was c.was_there
kept before after k f (Err Memory) c = c.after_is ∙ ap (set before k) c.event.1 ∙ set_there before k c.was c.was_there

-- ---- the place that is read

pub read : (ps : List Assembly) (ts : List TheRoom) (k : ℕ) (x : Assembly) → AreJoined ps ts → k < length (joined ps ts) → x ≡ get_or ps k x → slice_get ps k ≡ Some x
read ps ts k x h inside e = slice_get_read ps (length ps) k x refl (omega (arith, inside, length_joined ps ts h)) e

-- the one that is known to stand there is the one read
pub same_read : (ps : List Assembly) (k : ℕ) (p x : Assembly) → slice_get ps k ≡ Some p → x ≡ get_or ps k x → x ≡ p
same_read ps k p x at e = e ∙ get_or_from_slice_get ps k p x at

-- a part of a block was lent and written
pub lent : (v : Vec Frag) (shown room : List Frag) (start end : ℕ) → shown ≡ v.items → length room ≡ end - start → start ≤ end → end ≤ length v.items
    → (with_items v (take start shown ++ (room ++ drop (end - start) (drop start shown)))).items ≡ written v.items start room
lent v shown room start end e long ordered within =
    let ws : List Frag = take start shown ++ (room ++ drop (end - start) (drop start shown)) in
    let is : ws ≡ written v.items start room
    = ap (λ (xs : List Frag). take start xs ++ (room ++ drop (end - start) (drop start xs))) e
    ∙ ap (λ (n : ℕ). take start v.items ++ (room ++ drop n (drop start v.items))) (sym long) in
    with_items_is v ws (ap length is ∙ written_length v.items start room (omega (arith, long, ordered, within)) ∙ sym v.ok.0) ∙ is

-- ---- the last place is taken back

same_before : (xs ys : List TheReassembly) (x y : TheReassembly) → xs ++ x ∷ [] ≡ ys ++ y ∷ [] → xs ≡ ys
same_before xs ys x y e =
    let long : length xs ≡ length ys = omega (arith, length_push xs x, length_push ys y, ap length e) in
    sym (take_at xs (x ∷ []) (length xs) refl) ∙ ap (take (length xs)) e ∙ take_at ys (y ∷ []) (length xs) (sym long)

pub record TakenBack (ps qs : List Assembly) (ts us : List TheRoom) : Type 0 where
  pub are : AreJoined qs us
  pub before : (places : List TheReassembly) (last : TheReassembly) → joined ps ts ≡ places ++ last ∷ [] → joined qs us ≡ places

pub taken_back : (ps qs : List Assembly) (o : Option Assembly) (n m : ℕ) (ts us : List TheRoom) → AreJoined ps ts → 0 < length (joined ps ts) → n ≡ length ps
    → ps ≡ qs ++ option_to_list o → MatchOption o ((n ≡ 0) × (m ≡ 0)) (λ p. m + 1 ≡ n) → ((rooms : List TheRoom) (last : TheRoom) → ts ≡ rooms ++ last ∷ [] → us ≡ rooms)
    → TakenBack ps qs ts us
taken_back ps qs None n m ts us h some count is by_case by_rooms = absurd (omega (arith, some, length_joined ps ts h, count, by_case.0))
taken_back ps qs (Some p) n m ts us h some count is by_case by_rooms =
    let less = shorter qs p ts (subst (λ (xs : List Assembly). AreJoined xs ts) is h) in
    let rooms : us ≡ less.before = by_rooms less.before less.last less.rooms_are in
    record {
      are = subst (λ (xs : List TheRoom). AreJoined qs xs) (sym rooms) less.are;
      before = λ places last e.
          ap (joined qs) rooms
          ∙ same_before (joined qs less.before) places (reassembly_at p less.last) last (sym less.shown ∙ sym (ap (λ (xs : List Assembly). joined xs ts) is) ∙ e);
    }
