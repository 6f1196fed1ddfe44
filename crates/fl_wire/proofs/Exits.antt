-- What stands first in a list of fragments, as far as reading one call of it tells.
use Rattle.std.proofs.Common.{◌≡◌, ℕ, zero, suc, ◌+◌, ◌*◌, ◌/◌, ◌%◌, ◌<◌, ◌≤◌, ◌^◌, Bool, true, false, inl, inr, ◌⊎◌, List, [], ◌∷◌, ◌++◌, map, length, take, drop, get_or, append_assoc, Some, None, refl, sym, ◌∙◌, ap, subst, arith, cond, leb, eqb}
use Rattle.std.specs.Prelude.{slice_get, slice_index, Option}
use Rattle.std.specs.List.{zip, list_all, flat_map}
use Rattle.std.specs.Int.{byte_at}
use Rattle.std.specs.Cmp.{first_so, second_so}
use Rattle.std.proofs.lemmas.List.{append-nil, map-append, take-append-drop, length-append, length-take-le, take-take, take_more, take_all, length-take}
use Rattle.std.proofs.lemmas.Option.{slice_get-get_or, slice_get_within}
use Rattle.std.proofs.lemmas.Bool.{leb-true, lt-ltb, eqb-true}
use Rattle.fl_base.specs.declared.fragment.Frag.{Frag}
use Rattle.fl_base.specs.Control.{message_of, bare}
use Rattle.fl_interface.specs.Interface.{TheType, scalar, enumeration, structure, array, TheTypes, no_more, field, TheArgType, fixed, text, sized, TheMessage, TheInterface}
use Rattle.fl_interface.specs.Limits.{is_within_limits, is_well_made, are_well_made, is_argument_within, are_arguments_within, is_message_within, are_messages_within, count_of}
use Rattle.fl_value_data.specs.Value.{Datum, TheCall}
use Rattle.fl_value_data.specs.Fits.{fits_of, fit_message, are_arguments}
use Rattle.fl_value_data.specs.Plan.{arranged, of_ranks}
use Rattle.fl_value_data.specs.declared.value.PlanNo.{PlanNo}
use Rattle.fl_layout.specs.Leaves.{Leaf, leaves, argument_types}
use Rattle.fl_layout.specs.Places.{size, count, count_for}
use Rattle.fl_wire.specs.Alive.{has_values, all_have_values, argument_has_values}
use Rattle.fl_interface.specs.Counts.{interface_words_fit}
use Rattle.fl_value_data.specs.Tape.{Argument, kind, types_of}
use Rattle.fl_wire.specs.Payload.{frags_of}
use Rattle.fl_wire.specs.Standing.{byte_in, words_in}
use Rattle.fl_wire.specs.Covered.{is_covered, is_length}
use Rattle.fl_wire.specs.Reading.{AllFit, IsPart, IsWrong, ReadsLeaving}
use Rattle.fl_wire.specs.Shapes.{Agrees, IsWhy, StreamCut, calls_of}
use Rattle.fl_wire.specs.Whole.{leaves_of, Whole, NearCall, WrongCall, StopsWhole}
use Rattle.fl_wire.specs.Wrong.{start_fault, follow_fault, header_fault, IsWrongAt, BeginsWell, BeginsAfterCalls, IsFirstFault}
use Rattle.fl_wire.specs.Headers.{Line, Group, StandsFirst}
use Rattle.fl_wire.specs.declared.leaf.CallReadFault.{CallReadFault}
use Rattle.fl_wire.specs.declared.leaf.CallReadFault.TheVariants.{Short, Padding, Value, Length, Memory}
use Rattle.fl_wire.specs.declared.fault.WireFault.{WireFault}
use Rattle.fl_wire.specs.declared.fault.WireFault.TheVariants.{NotZero, OutOfType, TooLong, Memory as NoMemory}
use Rattle.fl_wire.proofs.Arguments.{leaves_ranks, arranged_ranks, arguments_fit}
use Rattle.fl_wire.proofs.Readings.{make_call, length_frags, count_positive}
use Rattle.fl_wire.proofs.Decoding.{short_count}
use Rattle.fl_wire.proofs.Steps.{fewer}
use Rattle.fl_wire.proofs.Frames.{start_known, follow_message, group_prefix}
use Rattle.fl_wire.proofs.Unread.{IsUnderWay, with_one, wrong_at, wrong_after, reads_right, all_join, flat_join, one_fits}

-- ---- interfaces within the limits

mutual
  alive_type : (t : TheType) → is_well_made t ≡ true → has_values t ≡ true
  alive_type (scalar s) h = refl
  alive_type (enumeration n) h = lt-ltb 0 n (leb-true 1 n h)
  alive_type (structure ts) h = alive_types ts (second_so (leb (count_of ts) 32) (are_well_made ts) (second_so (leb 1 (count_of ts)) _ h))
  alive_type (array n t) h = alive_type t (second_so (leb n 1024) (is_well_made t) (second_so (leb 1 n) _ h))

  alive_types : (ts : TheTypes) → are_well_made ts ≡ true → all_have_values ts ≡ true
  alive_types no_more h = refl
  alive_types (field t ts) h = rw (alive_type t (first_so (is_well_made t) _ h)) (alive_types ts (second_so (is_well_made t) _ h))

alive_argument : (t : TheArgType) → is_argument_within t ≡ true → argument_has_values t ≡ true
alive_argument (fixed t) h = alive_type t (first_so (is_well_made t) _ h)
alive_argument (text max) h = refl
alive_argument (sized max t) h = alive_type t (first_so (is_well_made t) _ (second_so (leb max 4096) _ (second_so (leb 1 max) _ h)))

alive_arguments : (ts : List TheArgType) → are_arguments_within ts ≡ true → list_all argument_has_values ts ≡ true
alive_arguments [] h = refl
alive_arguments (t ∷ ts) h = rw (alive_argument t (first_so (is_argument_within t) _ h)) (alive_arguments ts (second_so (is_argument_within t) _ h))

alive_messages : (ms : List TheMessage) (n : ℕ) → are_messages_within ms ≡ true → list_all argument_has_values (types_of (slice_get ms n)) ≡ true
alive_messages [] n h = refl
alive_messages (m ∷ ms) zero h = alive_arguments m.args (first_so (are_arguments_within m.args) _ (second_so (leb (length m.args) 32) _ (first_so (is_message_within m) _ h)))
alive_messages (m ∷ ms) (suc n) h = alive_messages ms n (second_so (is_message_within m) _ h)

-- what the reading asks of an interface
pub record Sound (i : TheInterface) : Type 0 where
  pub words : interface_words_fit i ≡ true
  pub room : length i.messages ≤ 2 ^ 16
  pub alive : (msg : ℕ) → list_all argument_has_values (argument_types i msg) ≡ true

pub sound_within : (i : TheInterface) → interface_words_fit i ≡ true → is_within_limits i ≡ true → Sound i
sound_within i words within =
    let few : length i.messages ≤ 256 = leb-true (length i.messages) 256 (first_so (leb (length i.messages) 256) _ within) in
    record {
      words = words;
      room = omega (arith, few);
      alive = λ msg. alive_messages i.messages msg (second_so _ (are_messages_within i.messages) (second_so (leb (length i.messages) 256) _ within));
    }

-- ---- the first fragment

pub start_wrong : (plan : PlanNo) (i : TheInterface) (frags : List Frag) (f : Frag) (fault : WireFault) → Sound i → slice_get frags 0 ≡ Some f → start_fault i f ≡ Some fault → IsWrongAt plan i frags fault
start_wrong plan i frags f fault sound is h = wrong_at plan i frags 0 f fault sound.words sound.room is (inl refl) (inl h)

-- ---- a group of fragments

pub blank : Frag
blank = record { words = []; control = 0 }

group_known : (i : TheInterface) (msg : ℕ) (group : List Frag) → Group i msg group → msg < length i.messages
group_known i msg group g =
    let f = get_or group 0 blank in
    let is : slice_get group 0 ≡ Some f = slice_get-get_or group 0 blank g.some in
    subst (λ (n : ℕ). n < length i.messages) (g.names f is) (start_known i f (g.starts f is))

fits_known : (ms : List TheMessage) (n : ℕ) (ds : List Datum) → n < length ms → are_arguments (types_of (slice_get ms n)) ds ≡ true → fit_message (slice_get ms n) ds ≡ true
fits_known [] n ds small h = absurd (omega (arith, small))
fits_known (m ∷ ms) zero ds small h = h
fits_known (m ∷ ms) (suc n) ds small h = fits_known ms n ds (omega (arith, small)) h

call_fits : (i : TheInterface) (msg : ℕ) (group : List Frag) (ds : List Datum) → Group i msg group → are_arguments (argument_types i msg) ds ≡ true → fits_of i (make_call msg ds) ≡ true
call_fits i msg group ds g h = fits_known i.messages msg ds (group_known i msg group g) h

call_leaves : (plan : PlanNo) (i : TheInterface) (msg : ℕ) (ds : List Datum) → leaves plan i (make_call msg ds) ≡ leaves_of plan (argument_types i msg) ds
call_leaves plan i msg ds = leaves_ranks plan i (make_call msg ds)

-- cut short, it is part of a call
pub part_of : (plan : PlanNo) (i : TheInterface) (msg : ℕ) (group : List Frag) → Sound i → Group i msg group → StreamCut (calls_of plan (argument_types i msg)) group [] → IsPart plan i group
part_of plan i msg group sound g cut =
    let near = cut.near (sound.alive msg) in
    let c = make_call msg near.one in
    let same = call_leaves plan i msg near.one in
    let longer : 56 * length group < size (leaves plan i c) = subst (λ (ls : List Leaf). 56 * length group < size ls) (sym same) near.longer in
    let short = short_count (size (leaves plan i c)) (count plan i c) (length group) refl longer in
    record {
      call = c;
      fits = call_fits i msg group near.one g near.fit;
      short = short;
      prefix = ap (map bare) (sym (take_all (length group) group (omega arith)))
          ∙ group_prefix plan i c group (length group) g (omega arith) (omega (arith, short)) (subst (λ (ls : List Leaf). Agrees group ls (56 * length group)) (sym same) near.agree);
    }

-- its first fragments mean a call
pub whole_of : (plan : PlanNo) (i : TheInterface) (msg : ℕ) (frags : List Frag) (n : ℕ) (ds : List Datum) (many : ℕ) → n ≤ length frags → Group i msg (take n frags)
    → Whole plan (argument_types i msg) (take n frags) ds many → StandsFirst plan i frags (make_call msg ds) many
whole_of plan i msg frags n ds many within g w =
    let c = make_call msg ds in
    let group = take n frags in
    let long : length group ≡ n = length-take-le n frags within in
    let same = call_leaves plan i msg ds in
    let counts : many ≡ count plan i c = w.counts ∙ ap (λ (ls : List Leaf). count_for (size ls)) (sym same) in
    record {
      fits = call_fits i msg group ds g w.fit;
      some = omega (arith, counts, count_positive plan i c);
      within = omega (arith, w.within, long, within);
      means = ap (map bare) (sym (take-take many n frags (omega (arith, w.within, long))))
          ∙ group_prefix plan i c group many g w.within (omega (arith, counts)) (subst (λ (ls : List Leaf). Agrees group ls (56 * many)) (sym same) w.agree)
          ∙ take_all many (frags_of plan i c) (omega (arith, length_frags plan i c, counts));
    }

-- the control word of a fragment after some of a group
header_after : (i : TheInterface) (msg : ℕ) (rest : List Frag) (f : Frag) → 0 < length rest → ((g : Frag) → slice_get rest 0 ≡ Some g → message_of g.control ≡ msg) → header_fault i rest f ≡ follow_fault msg f
header_after i msg [] f some names = absurd (omega (arith, some))
header_after i msg (g ∷ rest) f some names = ap (λ (m : ℕ). follow_fault m f) (names g refl)

-- cut short by a fragment whose control word has a fault
pub cut_wrong : (plan : PlanNo) (i : TheInterface) (msg : ℕ) (frags : List Frag) (n : ℕ) (f : Frag) (fault : WireFault) → Sound i → Group i msg (take n frags)
    → StreamCut (calls_of plan (argument_types i msg)) (take n frags) [] → slice_get frags n ≡ Some f → follow_fault msg f ≡ Some fault → IsWrongAt plan i frags fault
cut_wrong plan i msg frags n f fault sound g cut is h =
    wrong_at plan i frags n f fault sound.words sound.room is (inr (part_of plan i msg (take n frags) sound g cut)) (inl (header_after i msg (take n frags) f g.some g.names ∙ h))

-- ---- a wrong byte

-- the fault that a reading's stop is
abbrev pub IsFaultOf : CallReadFault → WireFault → Type 0
IsFaultOf Short fault = ⊥
IsFaultOf Padding fault = fault ≡ NotZero
IsFaultOf Value fault = fault ≡ OutOfType
IsFaultOf Length fault = fault ≡ TooLong
IsFaultOf Memory fault = ⊥

fault_told : (stop : CallReadFault) (fault : WireFault) (of_length covered : Bool) → IsFaultOf stop fault → IsWhy stop of_length covered → fault ≡ cond of_length TooLong (cond covered OutOfType NotZero)
fault_told Short fault of_length covered h why = absurd h
fault_told Padding fault of_length covered h why = h ∙ sym (ap (λ (v : Bool). cond v TooLong (cond covered OutOfType NotZero)) why.0 ∙ ap (λ (v : Bool). cond v OutOfType NotZero) why.1)
fault_told Value fault of_length covered h why = h ∙ sym (ap (λ (v : Bool). cond v TooLong (cond covered OutOfType NotZero)) why.0 ∙ ap (λ (v : Bool). cond v OutOfType NotZero) why.1)
fault_told Length fault of_length covered h why = h ∙ sym (ap (λ (v : Bool). cond v TooLong (cond covered OutOfType NotZero)) why)
fault_told Memory fault of_length covered h why = absurd h

-- elements and bytes of a prefix
get_prefix : (n k : ℕ) (frags : List Frag) → k < n → slice_get (take n frags) k ≡ slice_get frags k
get_prefix zero k frags h = absurd (omega (arith, h))
get_prefix (suc n) k [] h = refl
get_prefix (suc n) zero (f ∷ frags) h = refl
get_prefix (suc n) (suc k) (f ∷ frags) h = get_prefix n k frags (omega (arith, h))

byte_prefix : (n p : ℕ) (frags : List Frag) → p < 56 * n → byte_in (take n frags) p ≡ byte_in frags p
byte_prefix n p frags h = ap (λ (o : Option Frag). byte_at (p % 8) (slice_index (words_in o) (p / 8 % 7))) (get_prefix n (p / 56) frags (omega (arith, h)))

pub wrong_call : (plan : PlanNo) (i : TheInterface) (msg : ℕ) (frags : List Frag) (n : ℕ) (stop : CallReadFault) (fault : WireFault) → n ≤ length frags → Sound i → Group i msg (take n frags)
    → WrongCall stop plan (argument_types i msg) (take n frags) → IsFaultOf stop fault → IsWrongAt plan i frags fault
wrong_call plan i msg frags n stop fault within sound g w told =
    wrong_at plan i frags k f fault sound.words sound.room is (under_way k refl) (inr (
      header k refl,
      record {
        p = w.p;
        inside = omega (arith, length_prefix);
        call = c;
        of = sym (name k refl);
        fits = fits;
        before = record { at = λ q small. prefix_byte q (omega (arith, small)) ∙ agree.at q small };
        none = λ d named fd agrees. none_of d named fd (record { at = λ q small. sym (prefix_byte q (omega (arith, small))) ∙ agrees.at q small });
        is = fault_told stop fault _ _ told near.why ∙ sym (ap (λ (v : Bool). cond v TooLong (cond (is_covered (leaves plan i c) w.p) OutOfType NotZero)) lengths
            ∙ ap (λ (ls : List Leaf). cond (is_length false (of_ranks kind plan 5 0 (zip ts near.one)) [] w.p) TooLong (cond (is_covered ls w.p) OutOfType NotZero)) same);
      },
    ))
  where
    group : List Frag
    group = take n frags

    ts : List TheArgType
    ts = argument_types i msg

    near : NearCall stop plan ts group w.p
    near = w.near (sound.alive msg)

    c : TheCall
    c = make_call msg near.one

    k : ℕ
    k = w.p / 56

    long : length group ≡ n
    long = length-take-le n frags within

    small : k < n
    small = omega (arith, w.inside, long)

    f : Frag
    f = get_or frags k blank

    is : slice_get frags k ≡ Some f
    is = slice_get-get_or frags k blank (omega (arith, small, within))

    in_group : slice_get group k ≡ Some f
    in_group = get_prefix n k frags small ∙ is

    same : leaves plan i c ≡ leaves_of plan ts near.one
    same = call_leaves plan i msg near.one

    agree : Agrees group (leaves plan i c) w.p
    agree = subst (λ (ls : List Leaf). Agrees group ls w.p) (sym same) near.agree

    fits : fits_of i c ≡ true
    fits = call_fits i msg group near.one g near.fit

    longer : w.p < 56 * count plan i c
    longer = subst (λ (ls : List Leaf). w.p < 56 * count_for (size ls)) (sym same) near.longer

    more : k < count plan i c
    more = omega (arith, longer)

    lengths : is_length false (arranged kind plan (zip ts near.one)) [] w.p ≡ is_length false (of_ranks kind plan 5 0 (zip ts near.one)) [] w.p
    lengths = ap (λ (xs : List Argument). is_length false xs [] w.p) (arranged_ranks kind plan (zip ts near.one))

    length_prefix : w.p < 56 * length (with_one (take k frags) f)
    length_prefix =
        let prefix = length-take-le k frags (omega (arith, small, within)) in
        let one = length-append (take k frags) (f ∷ []) in
        omega (arith, prefix, one)

    prefix_byte : (q : ℕ) → q < w.p + 1 → byte_in (with_one (take k frags) f) q ≡ byte_in group q
    prefix_byte q before =
        ap (λ (xs : List Frag). byte_in xs q) (sym (take_more frags k blank (omega (arith, small, within))))
        ∙ byte_prefix (k + 1) q frags (omega (arith, before)) ∙ sym (byte_prefix n q frags (omega (arith, before, small)))

    name : (m : ℕ) → k ≡ m → message_of f.control ≡ msg
    name zero e = g.names f (ap (slice_get group) (sym e) ∙ in_group)
    name (suc m) e = follow_message msg f (g.follow (suc m) f (omega arith) (ap (slice_get group) (sym e) ∙ in_group))

    none_of : (d : TheCall) → d.msg ≡ message_of f.control → fits_of i d ≡ true → Agrees group (leaves plan i d) (w.p + 1) → ⊥
    none_of d named fd agrees =
        let own : d.msg ≡ msg = named ∙ name k refl in
        w.none d.args (subst (λ (m : ℕ). are_arguments (argument_types i m) d.args ≡ true) own (arguments_fit (slice_get i.messages d.msg) d.args fd))
        (subst (λ (ls : List Leaf). Agrees group ls (w.p + 1)) (leaves_ranks plan i d ∙ ap (λ (m : ℕ). leaves_of plan (argument_types i m) d.args) own) agrees)

    header : (m : ℕ) → k ≡ m → header_fault i (take k frags) f ≡ None
    header zero e = ap (λ (n : ℕ). header_fault i (take n frags) f) e ∙ g.starts f (ap (slice_get group) (sym e) ∙ in_group)
    header (suc m) e =
        header_after i msg (take k frags) f (omega (arith, e, length-take-le k frags (omega (arith, small, within))))
        (λ h first. g.names h (get_prefix n 0 frags (omega (arith, small)) ∙ sym (get_prefix k 0 frags (omega (arith, e))) ∙ first))
        ∙ g.follow (suc m) f (omega arith) (ap (slice_get group) (sym e) ∙ in_group)

    under_way : (m : ℕ) → k ≡ m → IsUnderWay plan i (take k frags)
    under_way zero e = inl (ap (λ (n : ℕ). take n frags) e)
    under_way (suc m) e =
        let few = length-take-le k frags (omega (arith, small, within)) in
        inr record {
          call = c;
          fits = fits;
          short = subst (λ (x : ℕ). x < count plan i c) (sym few) more;
          prefix = ap (map bare) (sym (take-take k n frags (omega (arith, small))))
              ∙ group_prefix plan i c group k g (omega (arith, small, long)) (omega (arith, more)) (fewer group (leaves plan i c) (56 * k) w.p (omega arith) agree)
              ∙ ap (λ (x : ℕ). take x (frags_of plan i c)) (sym few);
        }

-- ---- calls, one after another

-- the fragments are those of the calls, and then what is left
pub record MeansCalls (plan : PlanNo) (i : TheInterface) (frags : List Frag) (calls : List TheCall) (left : List Frag) : Type 0 where
  pub whole : List Frag
  pub joined : frags ≡ whole ++ left
  pub fit : AllFit i calls
  pub mean : map bare whole ≡ flat_map (frags_of plan i) calls

pub no_calls : (plan : PlanNo) (i : TheInterface) (frags : List Frag) → MeansCalls plan i frags [] frags
no_calls plan i frags = record { whole = []; joined = refl; fit = λ k c small. absurd (omega (arith, small)); mean = refl }

-- one call more
pub one_call : (plan : PlanNo) (i : TheInterface) (frags left after : List Frag) (calls all : List TheCall) (c : TheCall) (count : ℕ) → MeansCalls plan i frags calls left → StandsFirst plan i left c count
    → all ≡ calls ++ c ∷ [] → after ≡ drop count left → MeansCalls plan i frags all after
one_call plan i frags left after calls all c count m first is rest =
    subst (λ (xs : List Frag). MeansCalls plan i frags all xs) (sym rest) (subst (λ (cs : List TheCall). MeansCalls plan i frags cs (drop count left)) (sym is) record {
      whole = m.whole ++ take count left;
      joined = m.joined ∙ ap (λ (xs : List Frag). m.whole ++ xs) (sym (take-append-drop count left)) ∙ sym (append_assoc m.whole (take count left) (drop count left));
      fit = all_join i calls (c ∷ []) m.fit (one_fits i c first.fits);
      mean = map-append bare m.whole (take count left) ∙ ap (λ (xs : List Frag). xs ++ map bare (take count left)) m.mean
          ∙ ap (λ (xs : List Frag). flat_map (frags_of plan i) calls ++ xs) (first.means ∙ sym (append-nil (frags_of plan i c))) ∙ sym (flat_join plan i calls (c ∷ []));
    })

-- where nothing is left, and where part of a call is
pub all_read : (plan : PlanNo) (i : TheInterface) (frags : List Frag) (calls : List TheCall) (left : List Frag) → MeansCalls plan i frags calls left → IsUnderWay plan i left → ReadsLeaving plan i frags calls (length left)
all_read plan i frags calls left m part = record {
  rest = left;
  counts = refl;
  reads = record { whole = m.whole; joined = m.joined; fit = m.fit; mean = m.mean; part = part };
}

pub leaves_right : (plan : PlanNo) (i : TheInterface) (frags : List Frag) (calls : List TheCall) (left : ℕ) → ReadsLeaving plan i frags calls left → IsWrong plan i frags → ⊥
leaves_right plan i frags calls left r = reads_right plan i frags calls r.rest r.reads

-- the calls so far, and what begins behind them
pub calls_then : (plan : PlanNo) (i : TheInterface) (frags : List Frag) (calls : List TheCall) (left : List Frag) → MeansCalls plan i frags calls left → BeginsWell i left → BeginsAfterCalls plan i frags
calls_then plan i frags calls left m begins = record {
  before = m.whole;
  rest = left;
  is = m.joined;
  calls = calls;
  reads = record { whole = m.whole; joined = sym (append-nil m.whole); fit = m.fit; mean = m.mean; part = inl refl };
  begins = begins;
}

-- a group's first fragment begins well
pub begins_well : (i : TheInterface) (msg n : ℕ) (frags : List Frag) → 0 < length frags → Group i msg (take n frags) → BeginsWell i frags
begins_well i msg n frags some group =
    let is = slice_get-get_or frags 0 blank some in
    let few : 0 < n = omega (arith, group.some, length-take n frags) in
    record { one = get_or frags 0 blank; first = is; starts = group.starts (get_or frags 0 blank) (get_prefix n 0 frags few ∙ is) }

pub wrong_left : (plan : PlanNo) (i : TheInterface) (frags : List Frag) (calls : List TheCall) (left : List Frag) (fault : WireFault) → interface_words_fit i ≡ true → MeansCalls plan i frags calls left
    → ((fault ≡ NoMemory) × BeginsWell i left) ⊎ IsWrongAt plan i left fault → IsFirstFault plan i frags fault
wrong_left plan i frags calls left fault words m (inl memory) = inl (memory.0, calls_then plan i frags calls left m memory.1)
wrong_left plan i frags calls left fault words m (inr wrong) =
    inr (subst (λ (xs : List Frag). IsWrongAt plan i xs fault) (sym m.joined) (wrong_after plan i m.whole left calls fault words m.fit m.mean wrong))

-- ---- a group from its first fragment and those that follow

pub none_other : {A : Type 0} (o : Option A) → ((x : A) → o ≡ Some x → ⊥) → o ≡ None
none_other None h = refl
none_other (Some x) h = absurd (h x refl)

pub group_made : (i : TheInterface) (msg others : ℕ) (frags rest : List Frag) (d : Frag) → rest ≡ drop 1 frags → 0 < length frags → start_fault i (get_or frags 0 d) ≡ None → msg ≡ message_of (get_or frags 0 d).control → Line (get_or frags 0 d)
    → ((k : ℕ) (f : Frag) → k < others → slice_get rest k ≡ Some f → follow_fault msg f ≡ None) → ((k : ℕ) (f : Frag) → k < others → slice_get rest k ≡ Some f → Line f) → Group i msg (take (1 + others) frags)
group_made i msg others [] rest d is some starts named line follow lines = absurd (omega (arith, some))
group_made i msg others (first ∷ frags) rest d is some starts named line follow lines =
    subst (λ (n : ℕ). Group i msg (take n (first ∷ frags))) one_more record {
      some = omega arith;
      starts = λ f e. subst (λ (g : Frag). start_fault i g ≡ None) (some_same first f e) starts;
      names = λ f e. subst (λ (g : Frag). message_of g.control ≡ msg) (some_same first f e) (sym named);
      follow = λ k f late e. follow_at k f late e;
      lines = λ k f e. line_at k f e;
    }
  where
    one_more : suc others ≡ 1 + others
    one_more = omega arith

    some_same : (f g : Frag) → Some f ≡ Some g → f ≡ g
    some_same f g e = cc

    short : (k : ℕ) (f : Frag) → slice_get (take others frags) k ≡ Some f → k < others
    short k f e = omega (arith, slice_get_within (take others frags) k f e, length-take others frags)

    there : (k : ℕ) (f : Frag) → slice_get (take others frags) k ≡ Some f → slice_get rest k ≡ Some f
    there k f e = ap (λ (xs : List Frag). slice_get xs k) is ∙ sym (get_prefix others k frags (short k f e)) ∙ e

    follow_at : (k : ℕ) (f : Frag) → 0 < k → slice_get (first ∷ take others frags) k ≡ Some f → follow_fault msg f ≡ None
    follow_at zero f late e = absurd (omega (arith, late))
    follow_at (suc k) f late e = follow k f (short k f e) (there k f e)

    line_at : (k : ℕ) (f : Frag) → slice_get (first ∷ take others frags) k ≡ Some f → Line f
    line_at zero f e = subst Line (some_same first f e) line
    line_at (suc k) f e = lines k f (short k f e) (there k f e)

pub get_after : (frags rest : List Frag) (k : ℕ) → rest ≡ drop 1 frags → slice_get frags (1 + k) ≡ slice_get rest k
get_after [] rest k is = sym (ap (λ (xs : List Frag). slice_get xs k) is)
get_after (f ∷ frags) rest k is = ap (slice_get (f ∷ frags)) one_more ∙ sym (ap (λ (xs : List Frag). slice_get xs k) is)
  where
    one_more : 1 + k ≡ suc k
    one_more = omega arith

-- ---- why the reading of a group stops

pub cut_told : (plan : PlanNo) (ts us : List TheArgType) (frags : List Frag) (stop : CallReadFault) → stop ≡ Short → ts ≡ us → StopsWhole stop plan ts frags → StreamCut (calls_of plan us) frags []
cut_told plan ts us frags stop e same h = subst (λ (vs : List TheArgType). StopsWhole Short plan vs frags) same (subst (λ (s : CallReadFault). StopsWhole s plan ts frags) e h)

pub stop_told : (plan : PlanNo) (ts us : List TheArgType) (frags : List Frag) (stop other : CallReadFault) → stop ≡ other → ts ≡ us → StopsWhole stop plan ts frags → StopsWhole other plan us frags
stop_told plan ts us frags stop other e same h = subst (λ (vs : List TheArgType). StopsWhole other plan vs frags) same (subst (λ (s : CallReadFault). StopsWhole s plan ts frags) e h)

pub nothing_left : (frags : List Frag) → eqb (length frags) 0 ≡ true → frags ≡ []
nothing_left [] e = refl
nothing_left (f ∷ frags) e = absurd (omega (arith, eqb-true (length (f ∷ frags)) 0 e))
