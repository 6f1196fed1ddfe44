-- A call that fits an interface is printed, and read as that call.
use Rattle.std.proofs.Common.{◌≡◌, ◌≤◌, ◌<◌, ◌+◌, ◌^◌, ◌&&◌, ◌||◌, not, ℕ, zero, suc, ℤ, pos, negsuc, cond, List, [], ◌∷◌, length, map, arith, refl, ap, sym, subst, ◌∙◌, Bool, true, false, ltb, leb, Some, None, Result, Ok, Err}
use Rattle.std.specs.Prelude.{slice_get}
use Rattle.std.specs.Str.{bytes_eq}
use Rattle.std.proofs.lemmas.Slice.Eq.{bytes_eq-Decides}
use Rattle.std.specs.List.{list_all}
use Rattle.std.specs.Cmp.{first_so, second_so}
use Rattle.std.proofs.lemmas.Bool.{ltb-true, ltb-false, lt-ltb, leb-true, false≢true, and_parts, cond-true}
use Rattle.fl_interface.specs.declared.interface.Scalar.{Scalar}
use Rattle.fl_interface.specs.declared.interface.Scalar.TheVariants.{Uint8, Int8, Bool as BoolType, Char, Uint16, Int16, Uint32, Int32, Iref, Uint64, Int64, Uintptr, Intptr, Size, Errval}
use Rattle.fl_interface.specs.Interface.{TheType, scalar, enumeration, structure, array, TheTypes, no_more, field, TheArgType, fixed, text, sized, TheMessage, TheInterface, message_of, interface_of}
use Rattle.fl_interface.specs.declared.interface.Interface.{Interface}
use Rattle.fl_interface.specs.declared.interface.Message.{Message}
use Rattle.fl_lex.specs.Words.{is_name}
use Rattle.fl_interface.specs.Limits.{is_type_within, is_argument_within, are_arguments_within, is_message_within, are_messages_within, are_distinct}
use Rattle.fl_interface.specs.Counts.{words_fit, all_words_fit, argument_words_fit}
use Rattle.fl_interface.specs.Depth.{depth_of as type_depth, deepest}
use Rattle.fl_interface.specs.Limits.{is_among}
use Rattle.fl_value_data.specs.Value.{Datum, number, string, elements, fields, Data, nothing_more, also, TheCall, data_from, call_of}
use Rattle.fl_value_data.specs.declared.value.Call.{Call}
use Rattle.fl_value.specs.declared.fault.ValueFault.{ValueFault}
use Rattle.fl_value.specs.declared.fault.ValueFault.TheVariants.{NotACall, NoSuchMessage, DoesNotFit, Memory}
use Rattle.fl_value_data.specs.Fits.{fits_of, least_above, how_many_below, is_scalar_value, is_enumerator, count_of, has_type, have_types, all_have_type, is_text_byte, is_argument, are_arguments, fit_message}
use Rattle.fl_value.specs.Printed.{is_short, is_printable, are_printable, printed_call, HasText}
use Rattle.fl_value.specs.CallText.{SpellsCall, depth_of, greatest_depth}
use Rattle.fl_value.specs.Resolve.{named_from, where_fitting, resolved_at, resolved, ComesTo, ReadsAs, Answers, AnswersUnlessMemory}
use Rattle.fl_value.proofs.Prints.{call_reads}
use Rattle.fl_value.proofs.Words.{call_once}

least_small : (s : Scalar) → least_above s ≤ 2 ^ 64
least_small Uint8 = omega arith
least_small Int8 = omega arith
least_small BoolType = omega arith
least_small Char = omega arith
least_small Uint16 = omega arith
least_small Int16 = omega arith
least_small Uint32 = omega arith
least_small Int32 = omega arith
least_small Iref = omega arith
least_small Uint64 = omega arith
least_small Int64 = omega arith
least_small Uintptr = omega arith
least_small Intptr = omega arith
least_small Size = omega arith
least_small Errval = omega arith

below_small : (s : Scalar) → how_many_below s ≤ 2 ^ 64
below_small Uint8 = omega arith
below_small Int8 = omega arith
below_small BoolType = omega arith
below_small Char = omega arith
below_small Uint16 = omega arith
below_small Int16 = omega arith
below_small Uint32 = omega arith
below_small Int32 = omega arith
below_small Iref = omega arith
below_small Uint64 = omega arith
below_small Int64 = omega arith
below_small Uintptr = omega arith
below_small Intptr = omega arith
below_small Size = omega arith
below_small Errval = omega arith

scalar_short : (s : Scalar) (z : ℤ) → is_scalar_value s z ≡ true → is_short z ≡ true
scalar_short s (pos n) h = lt-ltb n (10 ^ 20) (omega (arith, ltb-true n (least_above s) h, least_small s))
scalar_short s (negsuc n) h = lt-ltb (n + 1) (10 ^ 20) (omega (arith, ltb-true n (how_many_below s) h, below_small s))

enumerator_short : (n : ℕ) (z : ℤ) → leb n (2 ^ 32) ≡ true → is_enumerator n z ≡ true → is_short z ≡ true
enumerator_short n (pos k) small h = lt-ltb k (10 ^ 20) (omega (arith, ltb-true k n h, leb-true n (2 ^ 32) small))
enumerator_short n (negsuc k) small h = absurd (false≢true h)

text_printable : (bytes : List ℕ) → list_all is_text_byte bytes ≡ true → list_all (λ b. ltb b 256) bytes ≡ true
text_printable [] h = refl
text_printable (b ∷ bs) h =
    let one = second_so (ltb 0 b) (ltb b 256) (first_so (is_text_byte b) (list_all is_text_byte bs) h) in
    ap (λ t. t && list_all (λ c. ltb c 256) bs) one ∙ text_printable bs (second_so (is_text_byte b) (list_all is_text_byte bs) h)

both : (s t : Bool) → s ≡ true → t ≡ true → (s && t) ≡ true
both s t h k = ap (λ x. x && t) h ∙ k

mutual
  type_printable : (t : TheType) (d : Datum) → words_fit t ≡ true → has_type t d ≡ true → is_printable d ≡ true
  type_printable (scalar s) (number z) small h = scalar_short s z h
  type_printable (enumeration n) (number z) small h = enumerator_short n z small h
  type_printable (structure ts) (fields ds) small h = types_printable ts ds small h
  type_printable (array n t) (elements ds) small h = all_printable t ds small (second_so _ (all_have_type t ds) h)
  type_printable t d small h = absurd (false≢true h)

  types_printable : (ts : TheTypes) (ds : Data) → all_words_fit ts ≡ true → have_types ts ds ≡ true → are_printable ds ≡ true
  types_printable no_more nothing_more small h = refl
  types_printable (field t ts) (also d ds) small h =
      both (is_printable d) (are_printable ds)
      (type_printable t d (first_so (words_fit t) (all_words_fit ts) small) (first_so (has_type t d) (have_types ts ds) h))
      (types_printable ts ds (second_so (words_fit t) (all_words_fit ts) small) (second_so (has_type t d) (have_types ts ds) h))
  types_printable ts ds small h = absurd (false≢true h)

  all_printable : (t : TheType) (ds : Data) → words_fit t ≡ true → all_have_type t ds ≡ true → are_printable ds ≡ true
  all_printable t nothing_more small h = refl
  all_printable t (also d ds) small h =
      both (is_printable d) (are_printable ds)
      (type_printable t d small (first_so (has_type t d) (all_have_type t ds) h))
      (all_printable t ds small (second_so (has_type t d) (all_have_type t ds) h))

argument_printable : (t : TheArgType) (d : Datum) → argument_words_fit t ≡ true → is_argument t d ≡ true → is_printable d ≡ true
argument_printable (fixed t) d small h = type_printable t d small h
argument_printable (text max) (string bytes) small h = text_printable bytes (second_so (leb (length bytes) max) (list_all is_text_byte bytes) h)
argument_printable (sized max t) (elements ds) small h = all_printable t ds (second_so (leb max (2 ^ 32)) (words_fit t) small) (second_so (leb (count_of ds) max) (all_have_type t ds) h)
argument_printable t d small h = absurd (false≢true h)

arguments_printable : (ts : List TheArgType) (ds : List Datum) → list_all argument_words_fit ts ≡ true → are_arguments ts ds ≡ true → are_printable (data_from ds) ≡ true
arguments_printable [] [] small h = refl
arguments_printable (t ∷ ts) (d ∷ ds) small h =
    both (is_printable d) (are_printable (data_from ds))
    (argument_printable t d (first_so (argument_words_fit t) (list_all argument_words_fit ts) small) (first_so (is_argument t d) (are_arguments ts ds) h))
    (arguments_printable ts ds (second_so (argument_words_fit t) (list_all argument_words_fit ts) small) (second_so (is_argument t d) (are_arguments ts ds) h))
arguments_printable ts ds small h = absurd (false≢true h)

-- ---- a value nests no deeper than its type

mutual
  value_depth : (t : TheType) (d : Datum) → has_type t d ≡ true → depth_of d ≤ type_depth t
  value_depth (scalar s) (number z) h = omega arith
  value_depth (enumeration n) (number z) h = omega arith
  value_depth (structure ts) (fields ds) h = omega (arith, fields_depth ts ds h)
  value_depth (array n t) (elements ds) h = omega (arith, elements_depth t ds (second_so _ (all_have_type t ds) h))
  value_depth t d h = absurd (false≢true h)

  fields_depth : (ts : TheTypes) (ds : Data) → have_types ts ds ≡ true → greatest_depth ds ≤ deepest ts
  fields_depth no_more nothing_more h = omega arith
  fields_depth (field t ts) (also d ds) h =
      omega (arith, value_depth t d (first_so (has_type t d) (have_types ts ds) h), fields_depth ts ds (second_so (has_type t d) (have_types ts ds) h))
  fields_depth ts ds h = absurd (false≢true h)

  elements_depth : (t : TheType) (ds : Data) → all_have_type t ds ≡ true → greatest_depth ds ≤ type_depth t
  elements_depth t nothing_more h = omega arith
  elements_depth t (also d ds) h =
      omega (arith, value_depth t d (first_so (has_type t d) (all_have_type t ds) h), elements_depth t ds (second_so (has_type t d) (all_have_type t ds) h))

first_false : (a b : Bool) → not (a || b) ≡ true → (a ≡ false) × (b ≡ false)
first_false true b h = absurd (false≢true h)
first_false false true h = absurd (false≢true h)
first_false false false h = (refl, refl)

or_parts : (a b : Bool) → (a || b) ≡ false → (a ≡ false) × (b ≡ false)
or_parts true b h = absurd (false≢true (sym h))
or_parts false b h = (refl, h)

type_shallow : (t : TheType) → is_type_within t ≡ true → type_depth t ≤ 16
type_shallow t h =
    let small = first_false _ _ (and_parts _ _ h).1 in
    ltb-false 16 (type_depth t) (or_parts (ltb 16 (type_depth t)) _ small.1).0

argument_shallow : (t : TheArgType) (d : Datum) → is_argument_within t ≡ true → is_argument t d ≡ true → depth_of d ≤ 17
argument_shallow (fixed t) d w h = omega (arith, value_depth t d h, type_shallow t w)
argument_shallow (text max) (string bytes) w h = omega arith
argument_shallow (sized max t) (elements ds) w h =
    omega (arith, elements_depth t ds (second_so (leb (count_of ds) max) (all_have_type t ds) h), type_shallow t (and_parts _ _ (and_parts _ _ w).1).1)
argument_shallow t d w h = absurd (false≢true h)

arguments_shallow : (ts : List TheArgType) (ds : List Datum) → are_arguments_within ts ≡ true → are_arguments ts ds ≡ true → greatest_depth (data_from ds) ≤ 17
arguments_shallow [] [] w h = omega arith
arguments_shallow (t ∷ ts) (d ∷ ds) w h =
    let within = and_parts (is_argument_within t) (are_arguments_within ts) w in
    omega (arith, argument_shallow t d within.0 (first_so (is_argument t d) (are_arguments ts ds) h), arguments_shallow ts ds within.1 (second_so (is_argument t d) (are_arguments ts ds) h))
arguments_shallow ts ds w h = absurd (false≢true h)

-- ---- a message of an interface within the limits

none_some : (m : TheMessage) → None ≡ Some m → ⊥
none_some m e = cc

some_same : (x m : TheMessage) → Some x ≡ Some m → x ≡ m
some_same x m e = cc

message_within : (ms : List TheMessage) (n : ℕ) (m : TheMessage) → are_messages_within ms ≡ true → slice_get ms n ≡ Some m → is_message_within m ≡ true
message_within [] n m w h = absurd (none_some m h)
message_within (x ∷ ms) zero m w h = subst (λ (y : TheMessage). is_message_within y ≡ true) (some_same x m h) (and_parts (is_message_within x) (are_messages_within ms) w).0
message_within (x ∷ ms) (suc n) m w h = message_within ms n m (and_parts (is_message_within x) (are_messages_within ms) w).1 h

message_counted : (ms : List TheMessage) (n : ℕ) (m : TheMessage) → list_all (λ (x : TheMessage). list_all argument_words_fit x.args) ms ≡ true → slice_get ms n ≡ Some m
    → list_all argument_words_fit m.args ≡ true
message_counted [] n m w h = absurd (none_some m h)
message_counted (x ∷ ms) zero m w h = subst (λ (y : TheMessage). list_all argument_words_fit y.args ≡ true) (some_same x m h) (and_parts (list_all argument_words_fit x.args) _ w).0
message_counted (x ∷ ms) (suc n) m w h = message_counted ms n m (and_parts (list_all argument_words_fit x.args) _ w).1 h

message_early : (ms : List TheMessage) (n : ℕ) (m : TheMessage) → slice_get ms n ≡ Some m → n < length ms
message_early [] n m h = absurd (none_some m h)
message_early (x ∷ ms) zero m h = omega arith
message_early (x ∷ ms) (suc n) m h = omega (arith, message_early ms n m h)

-- the first message of its name
is_same : (a b : List ℕ) → a ≡ b → bytes_eq a b ≡ true
is_same a b e = (bytes_eq-Decides a b).1 e

or_right : (a b : Bool) → b ≡ true → (a || b) ≡ true
or_right true b h = refl
or_right false b h = h

abbrev names_of : List TheMessage → List (List ℕ)
names_of ms = map (λ (x : TheMessage). x.name) ms

among : (ms : List TheMessage) (n : ℕ) (m : TheMessage) (name : List ℕ) → m.name ≡ name → slice_get ms n ≡ Some m → is_among (names_of ms) name ≡ true
among [] n m name e h = absurd (none_some m h)
among (x ∷ ms) zero m name e h =
    ap (λ (v : Bool). v || is_among (names_of ms) name) (is_same x.name name (ap (λ (y : TheMessage). y.name) (some_same x m h) ∙ e))
among (x ∷ ms) (suc n) m name e h = or_right (bytes_eq x.name name) (is_among (names_of ms) name) (among ms n m name e h)

first_named : (ms : List TheMessage) (n : ℕ) (m : TheMessage) (k : ℕ) → are_distinct (names_of ms) ≡ true → slice_get ms n ≡ Some m → named_from m.name ms k ≡ Some (k + n)
first_named [] n m k w h = absurd (none_some m h)
first_named (x ∷ ms) zero m k w h =
    let e = is_same x.name m.name (ap (λ (y : TheMessage). y.name) (some_same x m h)) in
    cond-true (bytes_eq x.name m.name) (Some k) (named_from m.name ms (k + 1)) e ∙ ap (λ (j : ℕ). Some j) (omega arith)
first_named (x ∷ ms) (suc n) m k w h =
    step (first_named ms n m (k + 1) (and_parts (not (is_among (names_of ms) x.name)) (are_distinct (names_of ms)) w).1 h) (bytes_eq x.name m.name) refl
  where
    apart : (not (is_among (names_of ms) x.name) ≡ true) × (are_distinct (names_of ms) ≡ true)
    apart = and_parts (not (is_among (names_of ms) x.name)) (are_distinct (names_of ms)) w

    step : named_from m.name ms (k + 1) ≡ Some (k + 1 + n) → (v : Bool) → bytes_eq x.name m.name ≡ v → cond v (Some k) (named_from m.name ms (k + 1)) ≡ Some (k + suc n)
    step later true e =
        let same : m.name ≡ x.name = sym ((bytes_eq-Decides x.name m.name).0 e) in
        absurd (false≢true (ap not (sym (among ms n m x.name same h)) ∙ apart.0))
    step later false e = later ∙ ap (λ (j : ℕ). Some j) (omega arith)

pub call_printable : (i : TheInterface) (m : TheMessage) (c : TheCall) → HasText i m c → are_printable (data_from c.args) ≡ true
call_printable i m c h = arguments_printable m.args c.args (message_counted i.messages c.msg m h.counted h.message) (ap (λ o. fit_message o c.args) (sym h.message) ∙ h.fits)

pub call_comes_back : (i : TheInterface) (m : TheMessage) (c : TheCall) → HasText i m c → ComesTo i (printed_call m.name c.args) (Ok c)
call_comes_back i m c h =
    let limits = and_parts (leb (length i.messages) 256) _ h.within in
    let names = and_parts (are_distinct (map (λ (x : TheMessage). x.name) i.messages)) (are_messages_within i.messages) limits.1 in
    let within = message_within i.messages c.msg m names.1 h.message in
    let args = (and_parts (are_arguments_within m.args) _ (and_parts (leb (length m.args) 32) _ within).1).0 in
    let small : c.msg < 2 ^ 16 = omega (arith, message_early i.messages c.msg m h.message, leb-true (length i.messages) 256 limits.0) in
    let few : ltb c.msg 65536 ≡ true = lt-ltb c.msg 65536 (omega (arith, small)) in
    let shallow : greatest_depth (data_from c.args) ≤ 20 = omega (arith, arguments_shallow m.args c.args args (ap (λ o. fit_message o c.args) (sym h.message) ∙ h.fits)) in
    let named : named_from m.name i.messages 0 ≡ Some c.msg = first_named i.messages c.msg m 0 names.0 h.message ∙ ap (λ (j : ℕ). Some j) (omega arith) in
    let fitting : where_fitting i c ≡ Ok c = ap (λ b. cond b (Ok c) (Err DoesNotFit)) h.fits in
    let f : Bool → Result TheCall ValueFault = λ b. cond b (where_fitting i c) (Err NoSuchMessage) in
    (m.name, c.args, call_reads m.name c.args h.word (call_printable i m c h) shallow, ap (resolved_at i c.args) named ∙ ap f few ∙ fitting)

-- the names of an interface in memory are words
words_named : (ms : List Message) (n : ℕ) (m : TheMessage) → slice_get (map message_of ms) n ≡ Some m → is_name m.name ≡ true
words_named [] n m h = absurd (none_some m h)
words_named (x ∷ ms) zero m h = subst (λ (y : TheMessage). is_name y.name ≡ true) (some_same (message_of x) m h) x.name.named
words_named (x ∷ ms) (suc n) m h = words_named ms n m h

pub fitting_comes_back : (i : Interface) (m : TheMessage) (c : TheCall) → fits_of (interface_of i) c ≡ true → slice_get (interface_of i).messages c.msg ≡ Some m
    → ComesTo (interface_of i) (printed_call m.name c.args) (Ok c)
fitting_comes_back i m c fits message =
    call_comes_back (interface_of i) m c
    (record { within = i.within; counted = i.counted; fits = fits; message = message; word = words_named i.messages.items c.msg m message })

same_answer : (i : TheInterface) (bytes : List ℕ) (a b : Result TheCall ValueFault) → ComesTo i bytes a → ComesTo i bytes b → b ≡ a
same_answer i bytes a b (name, values, s, e) (other, others, r, f) =
    let (names, lists) = call_once bytes name other values others s r in
    sym f ∙ ap (λ n. resolved i n others) (sym names) ∙ ap (λ vs. resolved i name vs) (sym lists) ∙ e

pub only_resolved : (i : TheInterface) (bytes name : List ℕ) (values : List Datum) → SpellsCall bytes name values → (r : Result Call ValueFault) → Answers r (resolved i name values) → (answer : Result TheCall ValueFault) → ComesTo i bytes answer → AnswersUnlessMemory r answer
only_resolved i bytes name values s (Ok c) h answer k = same_answer i bytes (Ok (call_of c)) answer (name, values, s, h) k
only_resolved i bytes name values s (Err NotACall) h answer k = same_answer i bytes (Err NotACall) answer (name, values, s, h) k
only_resolved i bytes name values s (Err NoSuchMessage) h answer k = same_answer i bytes (Err NoSuchMessage) answer (name, values, s, h) k
only_resolved i bytes name values s (Err DoesNotFit) h answer k = same_answer i bytes (Err DoesNotFit) answer (name, values, s, h) k
only_resolved i bytes name values s (Err Memory) h answer k = tt

-- a call of a message that the interface has is never refused for its name
fitting_by : (b : Bool) (c : TheCall) → cond b (Ok c) (Err DoesNotFit) ≡ Err NoSuchMessage → ⊥
fitting_by true c e = absurd (cc)
fitting_by false c e = absurd (cc)

pub fitting_known : (i : TheInterface) (c : TheCall) → where_fitting i c ≡ Err NoSuchMessage → ⊥
fitting_known i c e = fitting_by (fits_of i c) c e

-- a text that is no call of the interface comes to nothing else
pub only_read : (i : TheInterface) (bytes : List ℕ) (e : ValueFault) → ReadsAs i bytes (Err e) → (answer : Result TheCall ValueFault) → ComesTo i bytes answer → AnswersUnlessMemory (Err e) answer
only_read i bytes NotACall h answer (name, values, s, e) = absurd (h name values s)
only_read i bytes NoSuchMessage h answer k = same_answer i bytes (Err NoSuchMessage) answer h k
only_read i bytes DoesNotFit h answer k = same_answer i bytes (Err DoesNotFit) answer h k
only_read i bytes Memory h answer k = tt
