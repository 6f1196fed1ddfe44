-- The calls of a message of few numbers, their tapes and their fragments.
use Rattle.std.proofs.Common.{◌≡◌, ℕ, zero, suc, ◌+◌, ◌<◌, ◌≤◌, Bool, true, false, cond, leb, eqb, ltb, List, [], ◌∷◌, length, map, get_or, take, replicate, refl, sym, ◌∙◌, ap, subst, arith}
use Rattle.std.specs.Prelude.{Option, Some, None, slice_get}
use Rattle.std.specs.List.{zip, flat_map, list_all, remove, range_with_len}
use Rattle.std.specs.Cmp.{first_so, second_so}
use Rattle.std.proofs.lemmas.Bool.{false≢true, leb-true, eqb-true}
use Rattle.std.proofs.lemmas.List.{map-id}
use Rattle.std.proofs.lemmas.List.Edits.{length-remove}
use Rattle.std.proofs.lemmas.List.Sums.{count_by-le-length}
use Rattle.fl_base.specs.declared.fragment.Frag.{Frag}
use Rattle.fl_base.specs.Control.{control_word, bare}
use Rattle.fl_base.specs.Given.{given}
use Rattle.fl_interface.specs.Interface.{TheArgType, TheMessage, TheInterface}
use Rattle.fl_interface.specs.Sizes.{round_up}
use Rattle.fl_value_data.specs.declared.value.PlanNo.{PlanNo}
use Rattle.fl_value_data.specs.declared.value.PlanNo.TheVariants.{One, Two}
use Rattle.fl_value_data.specs.Value.{Datum, string, TheCall}
use Rattle.fl_value_data.specs.Fits.{is_argument, are_arguments, fit_message}
use Rattle.fl_value_data.specs.Plan.{arranged}
use Rattle.fl_value_data.specs.Tape.{Argument, kind, tape_of_argument, types_of}
use Rattle.fl_value_data.specs.Taken.{HasTape, planned_types}
use Rattle.fl_value_data.proofs.Ranked.{rank, before, rearranged, seconds_arranged, firsts_arranged, types_arranged, rearranged_typed, order_step}
use Rattle.fl_value_data.proofs.Untaped.{call_found, all_types}
use Rattle.fl_layout.specs.Leaves.{Leaf, leaves, argument_types, arguments_onto}
use Rattle.fl_layout.specs.Places.{size, count}
use Rattle.fl_layout.proofs.Order.{all_arranged}
use Rattle.fl_wire.specs.Payload.{payload_of, frag_on, frags_on}
use Rattle.fl_codec.specs.declared.place.NumberPlace.{NumberPlace}
use Rattle.fl_codec.specs.declared.codec.Codec.{Codec}
use Rattle.fl_codec.specs.NumberPlaces.{is_number, has_few_numbers, width_of, places_behind}
use Rattle.fl_codec.specs.Words.{is_inside, filled, Emptied, taken, numbers_filling, AreWords}
use Rattle.fl_codec.specs.Codecs.{IsCodecOf, IsFragOfTape, OneTapeOneFrag}
use Rattle.fl_codec.proofs.Leaves.{words_of}
use Rattle.fl_codec.proofs.Puts.{refills}
use Rattle.fl_codec.proofs.Values.{AreValuesOf, leaves_onto, numbers_of, their_tape, they_stand, as_many_values, sizes_within, values_fill, values_taken, values_there}

-- ---- the plan's order, there and back

pairs_again : (args : List Argument) → zip (map (λ (a : Argument). a.0) args) (map (λ (a : Argument). a.1) args) ≡ args
pairs_again [] = refl
pairs_again (a ∷ args) = ap (λ (l : List Argument). a ∷ l) (pairs_again args)

arranged_zip : (plan : PlanNo) (ts : List TheArgType) (xs : List Datum) → length xs ≡ length ts → arranged kind plan (zip ts xs) ≡ zip (planned_types plan ts) (rearranged plan ts xs)
arranged_zip plan ts xs long =
    let args = arranged kind plan (zip ts xs) in
    sym (pairs_again args)
    ∙ ap (λ (us : List TheArgType). zip us (map (λ (a : Argument). a.1) args)) (firsts_arranged plan ts xs long)
    ∙ ap (zip (planned_types plan ts)) (seconds_arranged plan ts xs long)

-- values in declared order that the plan puts into this one
record InOrder (plan : PlanNo) (ts : List TheArgType) (rs : List Datum) : Type 0 where
  vs : List Datum
  many : length vs ≡ length ts
  back : rearranged plan ts vs ≡ rs

in_order : (plan : PlanNo) (ts : List TheArgType) (rs : List Datum) → length rs ≡ length ts → InOrder plan ts rs
in_order One ts rs long = record { vs = rs; many = long; back = refl }
in_order Two [] [] long = record { vs = []; many = refl; back = refl }
in_order Two [] (r ∷ rs) long = absurd (omega (arith, long))
in_order Two (t ∷ ts) rs long =
    let n = before t ts in
    let inside : n < length rs = omega (arith, long, count_by-le-length (λ (u : TheArgType). ltb (rank u) (rank t)) ts) in
    let x = get_or rs n (string []) in
    let rest = in_order Two ts (remove rs n) (omega (arith, length-remove rs n inside, long)) in
    record {
      vs = x ∷ rest.vs;
      many = ap (λ (k : ℕ). suc k) rest.many;
      back = order_step (λ (d : Datum). d) t ts rs n x refl inside (in_place rs n inside) rest.vs rest.many (rest.back ∙ sym (map-id (remove rs n))) ∙ map-id rs;
    }
  where
    in_place : (rs : List Datum) (n : ℕ) → n < length rs → get_or rs n (string []) ≡ get_or rs n (get_or rs n (string []))
    in_place [] n h = absurd (omega (arith, h))
    in_place (r ∷ rs) zero h = refl
    in_place (r ∷ rs) (suc n) h = in_place rs n (omega (arith, h))

-- ---- a message of few numbers

pub record IsFew (i : TheInterface) (msg : ℕ) : Type 0 where
  pub m : TheMessage
  pub here : slice_get i.messages msg ≡ Some m
  pub few : length m.args ≤ 7
  pub numbers : list_all is_number m.args ≡ true

few_at : (i : TheInterface) (msg : ℕ) (o : Option TheMessage) → slice_get i.messages msg ≡ o → has_few_numbers o ≡ true → IsFew i msg
few_at i msg None e h = absurd (false≢true h)
few_at i msg (Some m) e h = record { m = m; here = e; few = leb-true (length m.args) 7 (first_so _ _ h); numbers = second_so (leb (length m.args) 7) _ h }

pub few_of : (i : TheInterface) (msg : ℕ) → has_few_numbers (slice_get i.messages msg) ≡ true → IsFew i msg
few_of i msg h = few_at i msg (slice_get i.messages msg) refl h

-- its arguments' types in the plan's order
abbrev pub types_in : (plan : PlanNo) (i : TheInterface) (msg : ℕ) → IsFew i msg → List TheArgType
types_in plan i msg x = planned_types plan x.m.args

types_number : (plan : PlanNo) (i : TheInterface) (msg : ℕ) (x : IsFew i msg) → list_all is_number (types_in plan i msg x) ≡ true
types_number plan i msg x = all_arranged is_number (λ (t : TheArgType). t) plan x.m.args x.numbers

types_few : (plan : PlanNo) (i : TheInterface) (msg : ℕ) (x : IsFew i msg) → length (types_in plan i msg x) ≤ 7
types_few plan i msg x = omega (arith, x.few, all_types plan x.m.args)

-- ---- its calls

-- a call's values in the plan's order, with this tape
record IsCallOf (plan : PlanNo) (i : TheInterface) (msg : ℕ) (x : IsFew i msg) (tape : List ℕ) (c : TheCall) : Type 0 where
  has : HasTape plan i msg tape c
  ds : List Datum
  are : AreValuesOf (types_in plan i msg x) ds tape
  leaves_are : leaves plan i c ≡ leaves_onto (types_in plan i msg x) ds []

arguments_many : (ts : List TheArgType) (ds : List Datum) → are_arguments ts ds ≡ true → length ds ≡ length ts
arguments_many [] [] h = refl
arguments_many [] (d ∷ ds) h = absurd (false≢true h)
arguments_many (t ∷ ts) [] h = absurd (false≢true h)
arguments_many (t ∷ ts) (d ∷ ds) h = ap (λ (n : ℕ). suc n) (arguments_many ts ds (second_so (is_argument t d) _ h))

call_of : (plan : PlanNo) (i : TheInterface) (msg : ℕ) (x : IsFew i msg) (tape : List ℕ) (c : TheCall) → HasTape plan i msg tape c → IsCallOf plan i msg x tape c
call_of plan i msg x tape c h =
    let ts = x.m.args in
    let us = types_in plan i msg x in
    let rs = rearranged plan ts c.args in
    let found : slice_get i.messages c.msg ≡ Some x.m = ap (slice_get i.messages) h.message ∙ x.here in
    let fit : are_arguments ts c.args ≡ true = subst (λ (o : Option TheMessage). fit_message o c.args ≡ true) found h.fits in
    let many = arguments_many ts c.args fit in
    let order = arranged_zip plan ts c.args many in
    let typed : are_arguments us rs ≡ true = subst (λ (vs : List TheArgType). are_arguments vs rs ≡ true) (sym (types_arranged plan ts)) (rearranged_typed plan ts c.args many fit) in
    let (ns, are) = numbers_of us rs (types_number plan i msg x) typed in
    let kinds : argument_types i c.msg ≡ ts = ap types_of found in
    let whole : ns ≡ tape
    = sym (h.whole ∙ ap (λ (vs : List TheArgType). flat_map tape_of_argument (arranged kind plan (zip vs c.args))) kinds ∙ ap (flat_map tape_of_argument) order ∙ their_tape us rs ns are) in
    record {
      has = h;
      ds = rs;
      are = subst (AreValuesOf us rs) whole are;
      leaves_are = ap (λ (vs : List TheArgType). arguments_onto false (arranged kind plan (zip vs c.args)) []) kinds ∙ ap (λ (args : List Argument). arguments_onto false args []) order;
    }

call_there : (plan : PlanNo) (i : TheInterface) (msg : ℕ) (x : IsFew i msg) (tape : List ℕ) (ds : List Datum) → AreValuesOf (types_in plan i msg x) ds tape → (c : TheCall) × HasTape plan i msg tape c
call_there plan i msg x tape ds are =
    let us = types_in plan i msg x in
    let y = in_order plan x.m.args ds (as_many_values us ds tape are ∙ all_types plan x.m.args) in
    (record { msg = msg; args = y.vs }, call_found plan i x.m msg tape ds y.vs x.here (they_stand us ds tape are) y.many y.back)

-- ---- their fragments

abbrev frag_of : ℕ → ℕ → List Leaf → Frag
frag_of circuit msg ls = record { words = words_of ls; control = control_word true msg circuit }

one_frag : (plan : PlanNo) (i : TheInterface) (circuit : ℕ) (c : TheCall) → size (leaves plan i c) ≤ 56 → frags_on circuit plan i c ≡ frag_of circuit c.msg (leaves plan i c) ∷ []
one_frag plan i circuit c few =
    let one : count plan i c ≡ 1 = omega (arith, few) in
    ap (λ (n : ℕ). map (frag_on circuit c.msg (payload_of plan i c)) (range_with_len 0 n)) one

only_frag : (plan : PlanNo) (i : TheInterface) (circuit msg : ℕ) (x : IsFew i msg) (tape : List ℕ) (c : TheCall) (h : IsCallOf plan i msg x tape c)
    → frags_on circuit plan i c ≡ frag_of circuit msg (leaves_onto (types_in plan i msg x) h.ds []) ∷ []
only_frag plan i circuit msg x tape c h =
    let us = types_in plan i msg x in
    let within = sizes_within us h.ds tape [] 0 (types_number plan i msg x) h.are (omega arith) in
    let same = ap size h.leaves_are in
    one_frag plan i circuit c (omega (arith, within, same, types_few plan i msg x))
    ∙ ap (λ (n : ℕ). frag_of circuit n (leaves plan i c) ∷ []) h.has.message ∙ ap (λ (ls : List Leaf). frag_of circuit msg ls ∷ []) h.leaves_are

-- ---- encoding

abbrev zeros : List ℕ
zeros = replicate 7 0

fills : (plan : PlanNo) (i : TheInterface) (msg : ℕ) (x : IsFew i msg) (tape : List ℕ) (ds : List Datum) → AreValuesOf (types_in plan i msg x) ds tape
    → filled (places_behind 0 (types_in plan i msg x)) tape zeros ≡ Some (words_of (leaves_onto (types_in plan i msg x) ds []))
fills plan i msg x tape ds are = values_fill (types_in plan i msg x) ds tape [] 0 (types_number plan i msg x) are (omega arith) (omega (arith, types_few plan i msg x))

some_told : (a b : List ℕ) → Some a ≡ Some b → a ≡ b
some_told a b e = cc

-- words that a tape fills are its call's
pub encoded : (plan : PlanNo) (i : TheInterface) (circuit msg : ℕ) (x : IsFew i msg) (tape ws : List ℕ) → filled (places_behind 0 (types_in plan i msg x)) tape zeros ≡ Some ws
    → IsFragOfTape plan i circuit msg tape (record { words = ws; control = control_word true msg circuit })
encoded plan i circuit msg x tape ws e =
    let us = types_in plan i msg x in
    let (ds, are) = values_there us tape zeros ws 0 (types_number plan i msg x) e in
    let (c, has) = call_there plan i msg x tape ds are in
    let h = call_of plan i msg x tape c has in
    let same : words_of (leaves_onto us h.ds []) ≡ ws = some_told _ _ (sym (fills plan i msg x tape h.ds h.are) ∙ e) in
    let made : List ℕ → List Frag = λ vs. record { words = vs; control = control_word true msg circuit } ∷ [] in
    record { call = c; has = has; frags = only_frag plan i circuit msg x tape c h ∙ ap made same }

-- a tape that fills none is no call's
pub not_encoded : (plan : PlanNo) (i : TheInterface) (msg : ℕ) (x : IsFew i msg) (tape : List ℕ) → filled (places_behind 0 (types_in plan i msg x)) tape zeros ≡ None
    → (c : TheCall) → HasTape plan i msg tape c → ⊥
not_encoded plan i msg x tape e c has =
    let h = call_of plan i msg x tape c has in
    let some = sym (fills plan i msg x tape h.ds h.are) ∙ e in
    cc

-- ---- decoding

all_zero : (n : ℕ) (ws : List ℕ) → length ws ≡ n → list_all (λ w. eqb w 0) ws ≡ true → ws ≡ replicate n 0
all_zero zero [] long h = refl
all_zero zero (w ∷ ws) long h = absurd (omega (arith, long))
all_zero (suc n) [] long h = absurd (omega (arith, long))
all_zero (suc n) (w ∷ ws) long h =
    let one : w ≡ 0 = eqb-true w 0 (first_so (eqb w 0) _ h) in
    let rest : ws ≡ replicate n 0 = all_zero n ws (omega (arith, long)) (second_so (eqb w 0) _ h) in
    cc

-- numbers that were taken whole fill the words
record FillsWhole (ps : List NumberPlace) (ws ns : List ℕ) : Type 0 where
  whole : filled ps ns zeros ≡ Some ws

whole_by : (ps : List NumberPlace) (ws ns : List ℕ) (t : Emptied) (b : Bool) → list_all (λ w. eqb w 0) t.left ≡ b → list_all is_inside ps ≡ true → AreWords ws → taken ps ws ≡ Some t
    → cond b (Some t.numbers) None ≡ Some ns → FillsWhole ps ws ns
whole_by ps ws ns t false blank inside words is e = absurd (cc)
whole_by ps ws ns t true blank inside words is e =
    let r = refills ps ws t inside words is in
    let none : t.left ≡ zeros = all_zero 7 t.left r.words.seven blank in
    let same : t.numbers ≡ ns = cc in
    record { whole = ap (λ (l : List ℕ). filled ps l zeros) (sym same) ∙ ap (filled ps t.numbers) (sym none) ∙ r.fills }

whole_at : (ps : List NumberPlace) (ws ns : List ℕ) (o : Option Emptied) → taken ps ws ≡ o → list_all is_inside ps ≡ true → AreWords ws
    → given o None (λ (t : Emptied). cond (list_all (λ w. eqb w 0) t.left) (Some t.numbers) None) ≡ Some ns → FillsWhole ps ws ns
whole_at ps ws ns None is inside words e = absurd (cc)
whole_at ps ws ns (Some t) is inside words e = whole_by ps ws ns t (list_all (λ w. eqb w 0) t.left) refl inside words is e

-- words from which a tape is taken are its call's
pub decoded : (plan : PlanNo) (i : TheInterface) (circuit msg : ℕ) (x : IsFew i msg) (tape ws : List ℕ) → list_all is_inside (places_behind 0 (types_in plan i msg x)) ≡ true → AreWords ws
    → numbers_filling (places_behind 0 (types_in plan i msg x)) ws ≡ Some tape → IsFragOfTape plan i circuit msg tape (record { words = ws; control = control_word true msg circuit })
decoded plan i circuit msg x tape ws inside words e =
    let ps = places_behind 0 (types_in plan i msg x) in
    encoded plan i circuit msg x tape ws (whole_at ps ws tape (taken ps ws) refl inside words e).whole

first_told : (f g : Frag) → f ∷ [] ≡ g ∷ [] → f ≡ g
first_told f g e = cc

-- a fragment of one call has its words and its control word
pub record IsFilledBy (plan : PlanNo) (i : TheInterface) (circuit msg : ℕ) (x : IsFew i msg) (tape : List ℕ) (f : Frag) : Type 0 where
  pub ds : List Datum
  pub are : AreValuesOf (types_in plan i msg x) ds tape
  pub words_are : f.words ≡ words_of (leaves_onto (types_in plan i msg x) ds [])
  pub control_is : f.control ≡ control_word true msg circuit

pub frag_is : (plan : PlanNo) (i : TheInterface) (circuit msg : ℕ) (x : IsFew i msg) (tape : List ℕ) (f : Frag) → IsFragOfTape plan i circuit msg tape f → IsFilledBy plan i circuit msg x tape f
frag_is plan i circuit msg x tape f o =
    let h = call_of plan i msg x tape o.call o.has in
    let same : f ≡ frag_of circuit msg (leaves_onto (types_in plan i msg x) h.ds []) = first_told _ _ (sym o.frags ∙ only_frag plan i circuit msg x tape o.call h) in
    record { ds = h.ds; are = h.are; words_are = ap (λ (g : Frag). g.words) same; control_is = ap (λ (g : Frag). g.control) same }

-- words from which none is taken are no call's
pub not_decoded : (plan : PlanNo) (i : TheInterface) (circuit msg : ℕ) (x : IsFew i msg) (f : Frag) → numbers_filling (places_behind 0 (types_in plan i msg x)) f.words ≡ None
    → (tape : List ℕ) → IsFragOfTape plan i circuit msg tape f → ⊥
not_decoded plan i circuit msg x f e tape o =
    let us = types_in plan i msg x in
    let h = frag_is plan i circuit msg x tape f o in
    let all = ap (taken (places_behind 0 us)) h.words_are ∙ values_taken us h.ds tape [] 0 (types_number plan i msg x) h.are (omega arith) (omega (arith, types_few plan i msg x)) in
    let some : numbers_filling (places_behind 0 us) f.words ≡ Some tape
    = ap (λ (o : Option Emptied). given o None (λ (t : Emptied). cond (list_all (λ w. eqb w 0) t.left) (Some t.numbers) None)) all in
    let none = sym some ∙ e in
    cc

-- ---- the codec of the message

pub places_are : (plan : PlanNo) (i : TheInterface) (msg : ℕ) (c : Codec) (k : IsCodecOf plan i msg c) → take c.count c.places ≡ places_behind 0 (types_in plan i msg (few_of i msg k.few))
places_are plan i msg c k =
    let x = few_of i msg k.few in
    k.places ∙ ap (λ (o : Option TheMessage). places_behind 0 (planned_types plan (types_of o))) x.here

length_places : (end : ℕ) (ts : List TheArgType) → length (places_behind end ts) ≡ length ts
length_places end [] = refl
length_places end (t ∷ ts) = ap (λ (n : ℕ). suc n) (length_places (round_up end (width_of t) + width_of t) ts)

pub as_many_places : (plan : PlanNo) (i : TheInterface) (msg : ℕ) (c : Codec) (k : IsCodecOf plan i msg c) → length (take c.count c.places) ≡ c.count
as_many_places plan i msg c k =
    let ts = argument_types i msg in
    ap length k.places ∙ length_places 0 (planned_types plan ts) ∙ all_types plan ts ∙ sym k.count

-- what a codec encodes and decodes
pub codec_encodes : (plan : PlanNo) (i : TheInterface) (circuit msg control : ℕ) (c : Codec) (k : IsCodecOf plan i msg c) (tape ws : List ℕ) → Some ws ≡ filled (take c.count c.places) tape zeros
    → control ≡ control_word true c.msg.0 circuit → IsFragOfTape plan i circuit msg tape (record { words = ws; control = control })
codec_encodes plan i circuit msg control c k tape ws e is =
    let same : control_word true msg circuit ≡ control = sym (is ∙ ap (λ (n : ℕ). control_word true n circuit) k.message) in
    subst (λ (n : ℕ). IsFragOfTape plan i circuit msg tape (record { words = ws; control = n })) same
    (encoded plan i circuit msg (few_of i msg k.few) tape ws (sym (e ∙ ap (λ (ps : List NumberPlace). filled ps tape zeros) (places_are plan i msg c k))))

pub codec_encodes_none : (plan : PlanNo) (i : TheInterface) (msg : ℕ) (c : Codec) (k : IsCodecOf plan i msg c) (tape : List ℕ) → None ≡ filled (take c.count c.places) tape zeros
    → (d : TheCall) → HasTape plan i msg tape d → ⊥
codec_encodes_none plan i msg c k tape e =
    not_encoded plan i msg (few_of i msg k.few) tape (sym (e ∙ ap (λ (ps : List NumberPlace). filled ps tape zeros) (places_are plan i msg c k)))

pub codec_decodes : (plan : PlanNo) (i : TheInterface) (circuit msg : ℕ) (c : Codec) (k : IsCodecOf plan i msg c) (f : Frag) (ns : List ℕ) → list_all is_inside (take c.count c.places) ≡ true → AreWords f.words
    → Some (take (length (take c.count c.places)) ns) ≡ numbers_filling (take c.count c.places) f.words → (bare f).control ≡ control_word true c.msg.0 circuit
    → IsFragOfTape plan i circuit msg (take c.count ns) (bare f)
codec_decodes plan i circuit msg c k f ns inside words e is =
    let x = few_of i msg k.few in
    let ps = places_are plan i msg c k in
    let tape = take c.count ns in
    let same : control_word true msg circuit ≡ (bare f).control = sym (is ∙ ap (λ (n : ℕ). control_word true n circuit) k.message) in
    subst (λ (n : ℕ). IsFragOfTape plan i circuit msg tape (record { words = f.words; control = n })) same
    (decoded plan i circuit msg x tape f.words (subst (λ (qs : List NumberPlace). list_all is_inside qs ≡ true) ps inside) words
    (sym (ap (λ (n : ℕ). Some (take n ns)) (sym (as_many_places plan i msg c k)) ∙ e ∙ ap (λ (qs : List NumberPlace). numbers_filling qs f.words) ps)))

pub codec_decodes_none : (plan : PlanNo) (i : TheInterface) (circuit msg : ℕ) (c : Codec) (k : IsCodecOf plan i msg c) (f : Frag) → None ≡ numbers_filling (take c.count c.places) f.words
    → (tape : List ℕ) → IsFragOfTape plan i circuit msg tape (bare f) → ⊥
codec_decodes_none plan i circuit msg c k f e =
    not_decoded plan i circuit msg (few_of i msg k.few) (bare f) (sym (e ∙ ap (λ (ps : List NumberPlace). numbers_filling ps f.words) (places_are plan i msg c k)))

-- ---- one tape, one fragment

filled_same : (plan : PlanNo) (i : TheInterface) (circuit msg : ℕ) (x : IsFew i msg) (s t : List ℕ) (f g : Frag) → IsFilledBy plan i circuit msg x s f → IsFilledBy plan i circuit msg x t g → s ≡ t → f ≡ g
filled_same plan i circuit msg x s t f g a b e =
    let ps = places_behind 0 (types_in plan i msg x) in
    let words : f.words ≡ g.words
    = a.words_are ∙ some_told _ _ (sym (fills plan i msg x s a.ds a.are) ∙ ap (λ (ns : List ℕ). filled ps ns zeros) e ∙ fills plan i msg x t b.ds b.are) ∙ sym b.words_are in
    let made : List ℕ → ℕ → Frag = λ ws n. record { words = ws; control = n } in
    ap (λ (ws : List ℕ). made ws f.control) words ∙ ap (made g.words) (a.control_is ∙ sym b.control_is)

numbers_told : (a b : Emptied) → Some a ≡ Some b → a.numbers ≡ b.numbers
numbers_told a b e = cc

taken_same : (plan : PlanNo) (i : TheInterface) (circuit msg : ℕ) (x : IsFew i msg) (s t : List ℕ) (f g : Frag) → IsFilledBy plan i circuit msg x s f → IsFilledBy plan i circuit msg x t g → f ≡ g → s ≡ t
taken_same plan i circuit msg x s t f g a b e =
    let us = types_in plan i msg x in
    let from = λ (ns : List ℕ) (h : Frag) (k : IsFilledBy plan i circuit msg x ns h).
    ap (taken (places_behind 0 us)) k.words_are ∙ values_taken us k.ds ns [] 0 (types_number plan i msg x) k.are (omega arith) (omega (arith, types_few plan i msg x)) in
    numbers_told _ _ (sym (from s f a) ∙ ap (λ (h : Frag). taken (places_behind 0 us) h.words) e ∙ from t g b)

pub one_tape_one_frag : OneTapeOneFrag
one_tape_one_frag plan i circuit msg s t f g few a b =
    let x = few_of i msg few in
    let k = frag_is plan i circuit msg x s f a in
    let l = frag_is plan i circuit msg x t g b in
    (filled_same plan i circuit msg x s t f g k l, taken_same plan i circuit msg x s t f g k l)
