-- Fragments that no list of calls has, and the first of them.
use Rattle.std.proofs.Common.{◌≡◌, ℕ, zero, suc, ◌+◌, ◌*◌, ◌/◌, ◌%◌, ◌^◌, ◌<◌, ◌≤◌, Bool, true, ◌⊎◌, inl, inr, ⊎_elim, List, [], ◌∷◌, ◌++◌, map, length, take, drop, get_or, Some, None, refl, sym, ◌∙◌, ap, arith, eqb, append_assoc}
use Rattle.std.specs.Prelude.{slice_get, slice_index, Option, option_map}
use Rattle.std.specs.List.{flat_map}
use Rattle.std.specs.Int.{byte_at}
use Rattle.std.proofs.lemmas.List.{length-append, length-map, map-append, take-append-le, append_cancel_left, get_or-take, take_at, take-take, take-append-drop, drop_more, append-nil, get_or-map}
use Rattle.std.proofs.lemmas.Option.{slice_get-map, slice_get_within, get_or_from_slice_get}
use Rattle.std.proofs.lemmas.Bool.{cases_lt, ne_eqb, false≢true}
use Rattle.fl_base.specs.declared.fragment.Frag.{Frag}
use Rattle.fl_base.specs.Control.{message_of, control_word, bare}
use Rattle.fl_interface.specs.Interface.{TheInterface, TheMessage}
use Rattle.fl_value_data.specs.Value.{Datum, TheCall}
use Rattle.fl_value_data.specs.Fits.{fits_of, fit_message}
use Rattle.fl_value_data.specs.declared.value.PlanNo.{PlanNo}
use Rattle.fl_layout.specs.Leaves.{leaves}
use Rattle.fl_layout.specs.Places.{count}
use Rattle.fl_interface.specs.Counts.{interface_words_fit}
use Rattle.fl_wire.specs.Payload.{payload_of, frag_on, frags_of}
use Rattle.fl_wire.specs.Standing.{byte_in, words_in}
use Rattle.fl_wire.specs.Reading.{AllFit, IsPart, IsWrong, Reads}
use Rattle.fl_wire.specs.Shapes.{Agrees}
use Rattle.fl_wire.specs.Wrong.{follow_fault, header_fault, HasFault, IsWrongAt}
use Rattle.fl_wire.specs.declared.fault.WireFault.{WireFault}
use Rattle.fl_wire.proofs.Readings.{count_positive, length_frags, frag_at, two_begin, begins_with, first_fits, rest_fit}
use Rattle.fl_wire.proofs.Decoding.{prefix_holds}
use Rattle.fl_wire.proofs.Frames.{starts_well, follows_well}

-- nothing, or part of a fitting call
abbrev pub IsUnderWay : PlanNo → TheInterface → List Frag → Type 0
IsUnderWay plan i rest = (rest ≡ []) ⊎ IsPart plan i rest

-- with one fragment more
abbrev pub with_one : List Frag → Frag → List Frag
with_one rest f = rest ++ f ∷ []

length_one : (rest : List Frag) (f : Frag) → length (with_one rest f) ≡ length rest + 1
length_one rest f = length-append rest (f ∷ []) ∙ omega arith

-- the call that goes on with that fragment
pub record GoesOn (plan : PlanNo) (i : TheInterface) (rest : List Frag) (f : Frag) (d : TheCall) : Type 0 where
  pub fits : fits_of i d ≡ true
  pub longer : length rest < count plan i d
  pub prefix : map bare (with_one rest f) ≡ take (length rest + 1) (frags_of plan i d)

-- calls whose fragments begin with part of a call and one more: the first one goes on with it
pub next_call : (plan : PlanNo) (i : TheInterface) (rest : List Frag) (f : Frag) (cs : List TheCall) (more : List Frag) → interface_words_fit i ≡ true → IsUnderWay plan i rest → AllFit i cs
    → flat_map (frags_of plan i) cs ≡ map bare (with_one rest f) ++ more → (d : TheCall) × GoesOn plan i rest f d
next_call plan i rest f [] more words part fit e =
    let long : 0 ≡ length (map bare (with_one rest f)) + length more = ap length e ∙ length-append (map bare (with_one rest f)) more in
    absurd (omega (arith, long, length-map (with_one rest f) bare, length_one rest f))
next_call plan i rest f (d ∷ ds) more words part fit e = ⊎_elim
    (λ (longer : length rest < count plan i d). (
      d,
      record {
        fits = own;
        longer = longer;
        prefix = sym (take_at (map bare all) more n long) ∙ ap (take n) (sym e) ∙ take-append-le n (frags_of plan i d) after (omega (arith, longer, length_frags plan i d));
      },
    ))
    (λ (whole : count plan i d ≤ length rest). absurd (not_whole part whole))
    (cases_lt (length rest) (count plan i d))
  where
    all : List Frag
    all = with_one rest f

    n : ℕ
    n = length rest + 1

    after : List Frag
    after = flat_map (frags_of plan i) ds

    own : fits_of i d ≡ true
    own = first_fits i d ds fit

    long : length (map bare all) ≡ n
    long = length-map all bare ∙ length_one rest f

    -- the call's fragments are the first of those under way
    prefix_of : count plan i d ≤ length rest → frags_of plan i d ≡ take (count plan i d) (map bare rest)
    prefix_of whole =
        let split : map bare all ++ more ≡ map bare rest ++ (bare f ∷ more) = ap (λ (xs : List Frag). xs ++ more) (map-append bare rest (f ∷ [])) ∙ append_assoc (map bare rest) (bare f ∷ []) more in
        sym (take_at (frags_of plan i d) after (count plan i d) (length_frags plan i d)) ∙ ap (take (count plan i d)) (e ∙ split)
        ∙ take-append-le (count plan i d) (map bare rest) (bare f ∷ more) (omega (arith, whole, length-map rest bare))

    not_whole : IsUnderWay plan i rest → count plan i d ≤ length rest → ⊥
    not_whole (inl none) whole = absurd (omega (arith, whole, ap length none, count_positive plan i d))
    not_whole (inr part) whole =
        let c = part.call in
        let prefix : frags_of plan i d ≡ take (count plan i d) (frags_of plan i c)
        = prefix_of whole ∙ ap (take (count plan i d)) part.prefix ∙ take-take (count plan i d) (length rest) (frags_of plan i c) whole in
        let same : d ≡ c = begins_with plan i d c words own part.fits (omega (arith, whole, part.short)) prefix in
        absurd (omega (arith, whole, part.short, ap (count plan i) same))

-- ---- control words

fits_known : (ms : List TheMessage) (n : ℕ) (ds : List Datum) → fit_message (slice_get ms n) ds ≡ true → n < length ms
fits_known [] n ds h = absurd (false≢true h)
fits_known (m ∷ ms) zero ds h = omega arith
fits_known (m ∷ ms) (suc n) ds h = omega (arith, fits_known ms n ds h)

control_same : (f g : Frag) → f ≡ g → f.control ≡ g.control
control_same f g e = ap (λ (h : Frag). h.control) e

-- the control words of the fragments of a call that goes on
control_at : (plan : PlanNo) (i : TheInterface) (all : List Frag) (n k : ℕ) (g : Frag) (d : TheCall) → map bare all ≡ take n (frags_of plan i d) → n ≤ count plan i d → k < n → slice_get all k ≡ Some g
    → 2 * (g.control / 2 % 2 ^ 47) ≡ control_word (eqb k 0) d.msg 0
control_at plan i all n k g d prefix few small is =
    let inside = slice_get_within all k g is in
    control_same (bare g) (frag_on 0 d.msg (payload_of plan i d) k)
    (ap bare (sym (get_or_from_slice_get all k g g is)) ∙ sym (get_or-map bare all k g g inside)
    ∙ ap (λ (xs : List Frag). get_or xs k g) prefix ∙ get_or-take n (frags_of plan i d) k g small ∙ frag_at plan i d k g (omega (arith, small, few)))

last_at : (rest : List Frag) (f : Frag) → slice_get (with_one rest f) (length rest) ≡ Some f
last_at [] f = refl
last_at (g ∷ rest) f = last_at rest f

-- the fragment with which a call goes on has no fault in its control word
well_formed : (plan : PlanNo) (i : TheInterface) (rest : List Frag) (f : Frag) (d : TheCall) → length i.messages ≤ 2 ^ 16 → GoesOn plan i rest f d
    → (header_fault i rest f ≡ None) × (message_of f.control ≡ d.msg)
well_formed plan i [] f d room on =
    let known = fits_known i.messages d.msg d.args on.fits in
    starts_well i f d.msg (omega (arith, known, room)) known (control_at plan i (f ∷ []) 1 0 f d on.prefix (omega (arith, on.longer)) (omega arith) refl)
well_formed plan i (g ∷ rest) f d room on =
    let known = fits_known i.messages d.msg d.args on.fits in
    let small : d.msg < 2 ^ 16 = omega (arith, known, room) in
    let n = length (g ∷ rest) + 1 in
    let few : n ≤ count plan i d = omega (arith, on.longer) in
    let (starts, first) = starts_well i g d.msg small known (control_at plan i (with_one (g ∷ rest) f) n 0 g d on.prefix few (omega arith) refl) in
    let last = control_at plan i (with_one (g ∷ rest) f) n (length (g ∷ rest)) f d on.prefix few (omega arith) (last_at (g ∷ rest) f) in
    let (follows, is) = follows_well f d.msg small (last ∙ ap (λ (v : Bool). control_word v d.msg 0) (ne_eqb (length (g ∷ rest)) 0 (λ e. absurd (omega (arith, e))))) in
    (ap (λ (m : ℕ). follow_fault m f) first ∙ follows, is)

-- ---- a fragment with a fault

byte_bare : (frags : List Frag) (p : ℕ) → byte_in (map bare frags) p ≡ byte_in frags p
byte_bare frags p = ap (λ (ws : List ℕ). byte_at (p % 8) (slice_index ws (p / 8 % 7))) (ap words_in (slice_get-map bare frags (p / 56)) ∙ same_words (slice_get frags (p / 56)))
  where
    same_words : (o : Option Frag) → words_in (option_map bare o) ≡ words_in o
    same_words None = refl
    same_words (Some f) = refl

none_some : {A : Type 0} (x : A) (o : Option A) → o ≡ None → o ≡ Some x → ⊥
none_some x o e h = cc

pub fault_is_wrong : (plan : PlanNo) (i : TheInterface) (rest : List Frag) (f : Frag) (fault : WireFault) → interface_words_fit i ≡ true → length i.messages ≤ 2 ^ 16 → IsUnderWay plan i rest
    → HasFault plan i rest f fault → IsWrong plan i (with_one rest f)
fault_is_wrong plan i rest f fault words room part (inl header) cs more fit e =
    let (d, on) = next_call plan i rest f cs more words part fit e in
    none_some fault (header_fault i rest f) (well_formed plan i rest f d room on).0 header
fault_is_wrong plan i rest f fault words room part (inr (header, w)) cs more fit e =
    let (d, on) = next_call plan i rest f cs more words part fit e in
    let n = length rest + 1 in
    let holds = prefix_holds plan i d n (map bare (with_one rest f)) (omega (arith, on.longer)) on.prefix in
    let long = length-map (with_one rest f) bare in
    let agree : Agrees (with_one rest f) (leaves plan i d) (w.p + 1)
    = record { at = λ p small. sym (byte_bare (with_one rest f) p) ∙ holds.at p (omega (arith, small, w.inside, long)) } in
    w.none d (sym (well_formed plan i rest f d room on).1) on.fits agree

-- ---- the first such fragment of a list

no_calls_fit : (i : TheInterface) → AllFit i []
no_calls_fit i k c small = absurd (omega (arith, small))

reads_part : (plan : PlanNo) (i : TheInterface) (rest : List Frag) → IsUnderWay plan i rest → Reads plan i rest [] rest
reads_part plan i rest part = record { whole = []; joined = refl; fit = no_calls_fit i; mean = refl; part = part }

pub wrong_at : (plan : PlanNo) (i : TheInterface) (frags : List Frag) (k : ℕ) (f : Frag) (fault : WireFault) → interface_words_fit i ≡ true → length i.messages ≤ 2 ^ 16 → slice_get frags k ≡ Some f
    → IsUnderWay plan i (take k frags) → HasFault plan i (take k frags) f fault → IsWrongAt plan i frags fault
wrong_at plan i frags k f fault words room is part first = record {
  before = take k frags;
  one = f;
  after = drop (k + 1) frags;
  is = sym (take-append-drop k frags) ∙ ap (λ (xs : List Frag). take k frags ++ xs) (drop_more frags k f (slice_get_within frags k f is) ∙ ap (λ (g : Frag). g ∷ drop (k + 1) frags) (get_or_from_slice_get frags k f f is));
  calls = [];
  rest = take k frags;
  reads = reads_part plan i (take k frags) part;
  wrong = fault_is_wrong plan i (take k frags) f fault words room part first;
  first = first;
}

-- ---- after whole calls

pub all_join : (i : TheInterface) (cs ds : List TheCall) → AllFit i cs → AllFit i ds → AllFit i (cs ++ ds)
all_join i [] ds fc fd k x small = fd k x small
all_join i (c ∷ cs) ds fc fd zero x small = fc 0 x (omega arith)
all_join i (c ∷ cs) ds fc fd (suc k) x small = all_join i cs ds (rest_fit i c cs fc) fd k x (omega (arith, small))

pub one_fits : (i : TheInterface) (c : TheCall) → fits_of i c ≡ true → AllFit i (c ∷ [])
one_fits i c f zero x small = f
one_fits i c f (suc k) x small = absurd (omega (arith, small))

pub flat_join : (plan : PlanNo) (i : TheInterface) (cs ds : List TheCall) → flat_map (frags_of plan i) (cs ++ ds) ≡ flat_map (frags_of plan i) cs ++ flat_map (frags_of plan i) ds
flat_join plan i [] ds = refl
flat_join plan i (c ∷ cs) ds = ap (λ (xs : List Frag). frags_of plan i c ++ xs) (flat_join plan i cs ds) ∙ sym (append_assoc (frags_of plan i c) (flat_map (frags_of plan i) cs) (flat_map (frags_of plan i) ds))

-- calls whose fragments begin with those of some calls go on after them
after_calls : (plan : PlanNo) (i : TheInterface) (cs ds : List TheCall) (x : List Frag) → interface_words_fit i ≡ true → AllFit i cs → AllFit i ds
    → flat_map (frags_of plan i) ds ≡ flat_map (frags_of plan i) cs ++ x → (es : List TheCall) × (AllFit i es × (flat_map (frags_of plan i) es ≡ x))
after_calls plan i [] ds x words fc fd e = (ds, (fd, e))
after_calls plan i (c ∷ cs) [] x words fc fd e =
    let rest = flat_map (frags_of plan i) cs in
    let long : 0 ≡ length (frags_of plan i c) + length (rest ++ x) = ap length (e ∙ append_assoc (frags_of plan i c) rest x) ∙ length-append (frags_of plan i c) (rest ++ x) in
    absurd (omega (arith, long, length_frags plan i c, count_positive plan i c))
after_calls plan i (c ∷ cs) (d ∷ ds) x words fc fd e =
    let rest = flat_map (frags_of plan i) cs in
    let e' : frags_of plan i d ++ flat_map (frags_of plan i) ds ≡ frags_of plan i c ++ (rest ++ x) = e ∙ append_assoc (frags_of plan i c) rest x in
    let same : d ≡ c = two_begin plan i d c (flat_map (frags_of plan i) ds) (rest ++ x) words (first_fits i d ds fd) (first_fits i c cs fc) e' in
    let tails : flat_map (frags_of plan i) ds ≡ rest ++ x
    = append_cancel_left (frags_of plan i d) (flat_map (frags_of plan i) ds) (rest ++ x) (e' ∙ ap (λ (b : TheCall). frags_of plan i b ++ (rest ++ x)) (sym same)) in
    after_calls plan i cs ds x words (rest_fit i c cs fc) (rest_fit i d ds fd) tails

pub wrong_after : (plan : PlanNo) (i : TheInterface) (whole left : List Frag) (cs : List TheCall) (fault : WireFault) → interface_words_fit i ≡ true → AllFit i cs
    → map bare whole ≡ flat_map (frags_of plan i) cs → IsWrongAt plan i left fault → IsWrongAt plan i (whole ++ left) fault
wrong_after plan i whole left cs fault words fit mean w = record {
  before = whole ++ w.before;
  one = w.one;
  after = w.after;
  is = ap (λ (xs : List Frag). whole ++ xs) w.is ∙ sym (append_assoc whole w.before (w.one ∷ w.after));
  calls = cs ++ w.calls;
  rest = w.rest;
  reads = record {
    whole = whole ++ w.reads.whole;
    joined = ap (λ (xs : List Frag). whole ++ xs) w.reads.joined ∙ sym (append_assoc whole w.reads.whole w.rest);
    fit = all_join i cs w.calls fit w.reads.fit;
    mean = map-append bare whole w.reads.whole ∙ ap (λ (xs : List Frag). xs ++ map bare w.reads.whole) mean ∙ ap (λ (xs : List Frag). flat_map (frags_of plan i) cs ++ xs) w.reads.mean
        ∙ sym (flat_join plan i cs w.calls);
    part = w.reads.part;
  };
  wrong = λ ds more fd e.
      let split : map bare (with_one (whole ++ w.before) w.one) ≡ flat_map (frags_of plan i) cs ++ map bare (with_one w.before w.one)
      = ap (map bare) (append_assoc whole w.before (w.one ∷ [])) ∙ map-append bare whole (with_one w.before w.one) ∙ ap (λ (xs : List Frag). xs ++ map bare (with_one w.before w.one)) mean in
      let (es, (fe, rest)) = after_calls plan i cs ds (map bare (with_one w.before w.one) ++ more) words fit fd
      (e ∙ ap (λ (xs : List Frag). xs ++ more) split ∙ append_assoc (flat_map (frags_of plan i) cs) (map bare (with_one w.before w.one)) more) in
      w.wrong es more fe rest;
  first = w.first;
}

-- ---- fragments that read are not wrong

pub reads_right : (plan : PlanNo) (i : TheInterface) (frags : List Frag) (cs : List TheCall) (rest : List Frag) → Reads plan i frags cs rest → IsWrong plan i frags → ⊥
reads_right plan i frags cs rest r wrong = ⊎_elim
    (λ (none : rest ≡ []). wrong cs [] r.fit (sym (ap (λ (xs : List Frag). xs ++ []) (joined ∙ ap (λ (xs : List Frag). flat_map (frags_of plan i) cs ++ map bare xs) none) ∙ append_assoc (flat_map (frags_of plan i) cs) [] [] ∙ nothing_after)))
    (λ (part : IsPart plan i rest).
    let c = part.call in
    wrong (cs ++ c ∷ []) (drop (length rest) (frags_of plan i c)) (all_join i cs (c ∷ []) r.fit (one_fits i c part.fits))
    (flat_join plan i cs (c ∷ []) ∙ ap (λ (xs : List Frag). flat_map (frags_of plan i) cs ++ xs) (only_one c ∙ sym (take-append-drop (length rest) (frags_of plan i c)) ∙ ap (λ (xs : List Frag). xs ++ drop (length rest) (frags_of plan i c)) (sym part.prefix))
    ∙ sym (append_assoc (flat_map (frags_of plan i) cs) (map bare rest) (drop (length rest) (frags_of plan i c))) ∙ ap (λ (xs : List Frag). xs ++ drop (length rest) (frags_of plan i c)) (sym joined)))
    r.part
  where
    joined : map bare frags ≡ flat_map (frags_of plan i) cs ++ map bare rest
    joined = ap (map bare) r.joined ∙ map-append bare r.whole rest ∙ ap (λ (xs : List Frag). xs ++ map bare rest) r.mean

    nothing_after : flat_map (frags_of plan i) cs ++ [] ≡ flat_map (frags_of plan i) cs
    nothing_after = append-nil (flat_map (frags_of plan i) cs)

    only_one : (c : TheCall) → flat_map (frags_of plan i) (c ∷ []) ≡ frags_of plan i c
    only_one c = append-nil (frags_of plan i c)
