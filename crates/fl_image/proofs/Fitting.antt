-- Which interfaces have an image: those that reading accepts.
use Rattle.std.proofs.Common.{◌≡◌, ℕ, zero, suc, ◌<◌, ◌≤◌, inl, inr, Bool, true, false, ◌&&◌, ◌||◌, List, [], ◌∷◌, ◌++◌, length, map, Ok, refl, sym, ap, subst, ◌∙◌, arith}
use Rattle.std.specs.Prelude.{nat_le, nat_lt, not}
use Rattle.std.specs.List.{list_all}
use Rattle.std.specs.Str.{bytes_eq}
use Rattle.std.proofs.lemmas.Bool.{and_parts, or_parts, leb-true, le-leb, ltb-false}
use Rattle.std.proofs.lemmas.List.{map-append}
use Rattle.std.proofs.lemmas.Slice.Eq.{bytes_eq-Decides}
use Rattle.fl_interface.specs.Interface.{TheType, scalar, enumeration, structure, array, TheTypes, no_more, field, TheArgType, fixed, text, sized, TheMessage, TheInterface, fields_from}
use Rattle.fl_interface.specs.Sizes.{size_of}
use Rattle.fl_interface.specs.Depth.{depth_of, deepest, array_depth_of, is_too_big}
use Rattle.fl_interface.specs.Limits.{is_among}
use Rattle.fl_interface.specs.Limits.{count_of, is_well_made, are_well_made, is_type_within, is_argument_within, are_arguments_within, is_message_within, are_messages_within, are_distinct, is_within_limits}
use Rattle.fl_interface.specs.Limits.{is_too_long}
use Rattle.fl_image.specs.Image.{is_name, has_short_enums, have_short_enums, argument_has_short_enums, is_message_spellable, has_image}
use Rattle.fl_image.specs.Reading.{is_next, name_at, messages_at, interface_at}
use Rattle.fl_image.proofs.ReadBack.{IsBytes, AllAfter}
use Rattle.fl_image.proofs.TypeLaws.{NestsIn}
use Rattle.fl_image.proofs.MessageLaws.{HasArgument, HasMessage, IsNext, HasInterface, interface_law}

both : (a b : Bool) → a ≡ true → b ≡ true → (a && b) ≡ true
both a b e f = rw (e, f) refl

not_true : (b : Bool) → not b ≡ true → b ≡ false
not_true true e = absurd cc
not_true false e = refl

-- ---- types

-- the fields of a struct as a list
abbrev list_of : TheTypes → List TheType
list_of no_more = []
list_of (field t ts) = t ∷ list_of ts

of_list : (ts : TheTypes) → ts ≡ fields_from (list_of ts)
of_list no_more = refl
of_list (field t ts) = ap (field t) (of_list ts)

list_count : (ts : TheTypes) → length (list_of ts) ≡ count_of ts
list_count no_more = refl
list_count (field t ts) = rw (list_count ts) (omega arith)

fields_short : (left : ℕ) → ((t : TheType) → NestsIn left t → has_short_enums t ≡ true) → (before ts : List TheType) → AllAfter (λ before. NestsIn left) before ts → have_short_enums (fields_from ts) ≡ true
fields_short left each before [] h = refl
fields_short left each before (t ∷ ts) h = both (has_short_enums t) (have_short_enums (fields_from ts)) (each t h.0) (fields_short left each (before ++ t ∷ []) ts h.1)

type_short : (left : ℕ) (t : TheType) → NestsIn left t → has_short_enums t ≡ true
type_short zero t h = absurd h
type_short (suc left) t (inl h) = subst (λ (u : TheType). has_short_enums u ≡ true) (sym h.1) (le-leb h.0 65535 (omega (arith, h.2)))
type_short (suc left) t (inr (inl h)) = subst (λ (u : TheType). has_short_enums u ≡ true) (sym h.1) (fields_short left (type_short left) [] h.0 h.3)
type_short (suc left) t (inr (inr (inl h))) = subst (λ (u : TheType). has_short_enums u ≡ true) (sym h.2) (type_short left h.1 h.4)
type_short (suc left) t (inr (inr (inr h))) = subst (λ (u : TheType). has_short_enums u ≡ true) (sym h.1) refl

fields_nest : (left : ℕ) → ((t : TheType) → is_well_made t ≡ true → has_short_enums t ≡ true → depth_of t < left → NestsIn left t)
    → (before : List TheType) (ts : TheTypes) → are_well_made ts ≡ true → have_short_enums ts ≡ true → deepest ts < left → AllAfter (λ before. NestsIn left) before (list_of ts)
fields_nest left each before no_more made short lt = tt
fields_nest left each before (field t ts) made short lt =
    let m = and_parts (is_well_made t) (are_well_made ts) made in
    let s = and_parts (has_short_enums t) (have_short_enums ts) short in
    (each t m.0 s.0 (omega (arith, lt)), fields_nest left each (before ++ t ∷ []) ts m.1 s.1 (omega (arith, lt)))

pub type_nests : (left : ℕ) (t : TheType) → is_well_made t ≡ true → has_short_enums t ≡ true → depth_of t < left → NestsIn left t
type_nests zero t made short lt = absurd (omega (arith, lt))
type_nests (suc left) (scalar s) made short lt = inr (inr (inr (s, refl)))
type_nests (suc left) (enumeration n) made short lt =
    let le : n ≤ 65535 = leb-true n 65535 short in
    inl (n, refl, omega (arith, le))
type_nests (suc left) (structure ts) made short lt =
    let m = and_parts (nat_le 1 (count_of ts)) (nat_le (count_of ts) 32 && are_well_made ts) made in
    let k = and_parts (nat_le (count_of ts) 32) (are_well_made ts) m.1 in
    let few : count_of ts ≤ 32 = leb-true (count_of ts) 32 k.0 in
    inr (inl (list_of ts, ap structure (of_list ts), omega (arith, few, list_count ts), fields_nest left (type_nests left) [] ts k.1 short (omega (arith, lt))))
type_nests (suc left) (array n t) made short lt =
    let m = and_parts (nat_le 1 n) (nat_le n 1024 && is_well_made t) made in
    let k = and_parts (nat_le n 1024) (is_well_made t) m.1 in
    let few : n ≤ 1024 = leb-true n 1024 k.0 in
    inr (inr (inl (n, t, refl, omega (arith, few), type_nests left t k.1 short (omega (arith, lt)))))

pub within_type : (t : TheType) → is_type_within t ≡ true → (is_well_made t ≡ true) × (depth_of t ≤ 16)
within_type t h =
    let m = and_parts (is_well_made t) (not (is_too_big t)) h in
    let a = or_parts (nat_lt 4096 (size_of t)) (nat_lt 16 (depth_of t) || nat_lt 7 (array_depth_of t)) (not_true (is_too_big t) m.1) in
    let b = or_parts (nat_lt 16 (depth_of t)) (nat_lt 7 (array_depth_of t)) a.1 in
    (m.0, ltb-false 16 (depth_of t) b.0)

pub small_type : (t : TheType) → is_type_within t ≡ true → size_of t ≤ 4096
small_type t h =
    let m = and_parts (is_well_made t) (not (is_too_big t)) h in
    let a = or_parts (nat_lt 4096 (size_of t)) (nat_lt 16 (depth_of t) || nat_lt 7 (array_depth_of t)) (not_true (is_too_big t) m.1) in
    ltb-false 4096 (size_of t) a.0

-- ---- arguments

argument_short : (a : TheArgType) → HasArgument a → argument_has_short_enums a ≡ true
argument_short a (inl h) = subst (λ (b : TheArgType). argument_has_short_enums b ≡ true) (sym h.1) refl
argument_short a (inr (inl h)) = subst (λ (b : TheArgType). argument_has_short_enums b ≡ true) (sym h.2) (type_short 17 h.1 h.4)
argument_short a (inr (inr h)) = subst (λ (b : TheArgType). argument_has_short_enums b ≡ true) (sym h.1) (type_short 18 h.0 h.2)

argument_has : (a : TheArgType) → is_argument_within a ≡ true → argument_has_short_enums a ≡ true → HasArgument a
argument_has (fixed t) within short =
    let w = within_type t within in
    inr (inr (t, refl, type_nests 18 t w.0 short (omega (arith, w.1))))
argument_has (text n) within short =
    let w = and_parts (nat_le 1 n) (nat_le n 4096) within in
    let le : n ≤ 4096 = leb-true n 4096 w.1 in
    inl (n, refl, omega (arith, le))
argument_has (sized n t) within short =
    let w = and_parts (nat_le 1 n) (nat_le n 4096 && is_type_within t) within in
    let k = and_parts (nat_le n 4096) (is_type_within t) w.1 in
    let le : n ≤ 4096 = leb-true n 4096 k.0 in
    let m = within_type t k.1 in
    inr (inl (n, t, refl, omega (arith, le), type_nests 17 t m.0 short (omega (arith, m.1))))

arguments_short : (before args : List TheArgType) → AllAfter (λ before. HasArgument) before args → list_all argument_has_short_enums args ≡ true
arguments_short before [] h = refl
arguments_short before (a ∷ args) h = both (argument_has_short_enums a) (list_all argument_has_short_enums args) (argument_short a h.0) (arguments_short (before ++ a ∷ []) args h.1)

arguments_have : (before args : List TheArgType) → are_arguments_within args ≡ true → list_all argument_has_short_enums args ≡ true → AllAfter (λ before. HasArgument) before args
arguments_have before [] within short = tt
arguments_have before (a ∷ args) within short =
    let w = and_parts (is_argument_within a) (are_arguments_within args) within in
    let s = and_parts (argument_has_short_enums a) (list_all argument_has_short_enums args) short in
    (argument_has a w.0 s.0, arguments_have (before ++ a ∷ []) args w.1 s.1)

-- ---- messages

message_spellable : (m : TheMessage) → HasMessage m → is_message_spellable m ≡ true
message_spellable m h = both (is_name m.name) (list_all argument_has_short_enums m.args) h.name (arguments_short [] m.args h.args.1)

message_has : (m : TheMessage) → is_message_within m ≡ true → is_message_spellable m ≡ true → HasMessage m
message_has m within spelled =
    let w = and_parts (nat_le (length m.args) 32) (are_arguments_within m.args && not (is_too_long m)) within in
    let k = and_parts (are_arguments_within m.args) (not (is_too_long m)) w.1 in
    let s = and_parts (is_name m.name) (list_all argument_has_short_enums m.args) spelled in
    record { name = s.0; args = (w.0, arguments_have [] m.args k.0 s.1) }

abbrev names : List TheMessage → List (List ℕ)
names ms = map (λ (m : TheMessage). m.name) ms

-- none of the second is among the first
abbrev NoneAmong : List (List ℕ) → List (List ℕ) → Type 0
NoneAmong before [] = Unit {0}
NoneAmong before (n ∷ ns) = (is_among before n ≡ false) × NoneAmong before ns

turned_step : (a b : List ℕ) (x y : Bool) → x ≡ bytes_eq a b → y ≡ bytes_eq b a → x ≡ y
turned_step a b true true p q = refl
turned_step a b false false p q = refl
turned_step a b true false p q = let s = (bytes_eq-Decides a b).0 (sym p) in let t = (bytes_eq-Decides b a).1 (sym s) in cc
turned_step a b false true p q = let s = (bytes_eq-Decides b a).0 (sym q) in let t = (bytes_eq-Decides a b).1 (sym s) in cc

eq_turned : (a b : List ℕ) → bytes_eq a b ≡ bytes_eq b a
eq_turned a b = turned_step a b (bytes_eq a b) (bytes_eq b a) refl refl

or_false : (b : Bool) → (b || false) ≡ b
or_false true = refl
or_false false = refl

or_three : (a b c : Bool) → (a || (b || c)) ≡ ((a || b) || c)
or_three true b c = refl
or_three false b c = refl

among_push : (before : List (List ℕ)) (k n : List ℕ) → is_among (before ++ k ∷ []) n ≡ (is_among before n || bytes_eq k n)
among_push [] k n = or_false (bytes_eq k n)
among_push (b ∷ before) k n = ap (λ (x : Bool). bytes_eq b n || x) (among_push before k n) ∙ or_three (bytes_eq b n) (is_among before n) (bytes_eq k n)

-- one name more in front
none_push : (before : List (List ℕ)) (k : List ℕ) (ns : List (List ℕ)) → NoneAmong before ns → is_among ns k ≡ false → NoneAmong (before ++ k ∷ []) ns
none_push before k [] h e = tt
none_push before k (n ∷ ns) h e =
    let p = or_parts (bytes_eq n k) (is_among ns k) e in
    (among_push before k n ∙ rw (h.0, eq_turned k n, p.0) refl, none_push before k ns h.1 p.1)

none_pop : (before : List (List ℕ)) (k : List ℕ) (ns : List (List ℕ)) → NoneAmong (before ++ k ∷ []) ns → NoneAmong before ns × (is_among ns k ≡ false)
none_pop before k [] h = (tt, refl)
none_pop before k (n ∷ ns) h =
    let p = or_parts (is_among before n) (bytes_eq k n) (sym (among_push before k n) ∙ h.0) in
    let r = none_pop before k ns h.1 in
    ((p.0, r.0), rw (eq_turned n k, p.1, r.1) refl)

names_push : (before : List TheMessage) (m : TheMessage) → names (before ++ m ∷ []) ≡ names before ++ m.name ∷ []
names_push before m = map-append (λ (m : TheMessage). m.name) before (m ∷ [])

pub record Good (before ms : List TheMessage) : Type 0 where
  pub spelled : list_all is_message_spellable ms ≡ true
  pub within : are_messages_within ms ≡ true
  pub distinct : are_distinct (names ms) ≡ true
  pub fresh : NoneAmong (names before) (names ms)

messages_good : (before ms : List TheMessage) → AllAfter IsNext before ms → Good before ms
messages_good before [] h = record { spelled = refl; within = refl; distinct = refl; fresh = tt }
messages_good before (m ∷ ms) h =
    let n = and_parts (is_message_within m) (not (is_among (names before) m.name)) h.0.1 in
    let r = messages_good (before ++ m ∷ []) ms h.1 in
    let f = none_pop (names before) m.name (names ms) (subst (λ (ns : List (List ℕ)). NoneAmong ns (names ms)) (names_push before m) r.fresh) in
    record {
      spelled = both (is_message_spellable m) (list_all is_message_spellable ms) (message_spellable m h.0.0) r.spelled;
      within = both (is_message_within m) (are_messages_within ms) n.0 r.within;
      distinct = rw (f.1, r.distinct) refl;
      fresh = (not_true (is_among (names before) m.name) n.1, f.0);
    }

messages_have : (before ms : List TheMessage) → Good before ms → AllAfter IsNext before ms
messages_have before [] g = tt
messages_have before (m ∷ ms) g =
    let s = and_parts (is_message_spellable m) (list_all is_message_spellable ms) g.spelled in
    let w = and_parts (is_message_within m) (are_messages_within ms) g.within in
    let d = and_parts (not (is_among (names ms) m.name)) (are_distinct (names ms)) g.distinct in
    let next : is_next before m ≡ true = rw (w.0, g.fresh.0) refl in
    let behind : NoneAmong (names before ++ m.name ∷ []) (names ms) = none_push (names before) m.name (names ms) g.fresh.1 (not_true (is_among (names ms) m.name) d.0) in (
      (message_has m w.0 s.0, next),
      messages_have (before ++ m ∷ []) ms record {
        spelled = s.1;
        within = w.1;
        distinct = d.1;
        fresh = subst (λ (ns : List (List ℕ)). NoneAmong ns (names ms)) (sym (names_push before m)) behind;
      },
    )

-- ---- interfaces

none_fresh : (ns : List (List ℕ)) → NoneAmong [] ns
none_fresh [] = tt
none_fresh (n ∷ ns) = (refl, none_fresh ns)

pub read_has_image : (x : TheInterface) → HasInterface x → has_image x ≡ true
read_has_image x h =
    let g = messages_good [] x.messages h.messages.1 in
    rw (h.messages.0, g.distinct, g.within, h.name, g.spelled) refl

pub image_has : (x : TheInterface) → has_image x ≡ true → HasInterface x
image_has x h =
    let a = and_parts (is_within_limits x) (is_name x.name && list_all is_message_spellable x.messages) h in
    let b = and_parts (is_name x.name) (list_all is_message_spellable x.messages) a.1 in
    let c = and_parts (nat_le (length x.messages) 256) (are_distinct (names x.messages) && are_messages_within x.messages) a.0 in
    let d = and_parts (are_distinct (names x.messages)) (are_messages_within x.messages) c.1 in
    record {
      name = b.0;
      messages = (c.0, messages_have [] x.messages record { spelled = b.1; within = d.1; distinct = d.0; fresh = none_fresh (names x.messages) });
    }

within_limits : (x : TheInterface) → has_image x ≡ true → is_within_limits x ≡ true
within_limits x h = (and_parts (is_within_limits x) (is_name x.name && list_all is_message_spellable x.messages) h).0

-- a name and messages that were read are those of an interface within the limits
pub kept : (bytes behind rest name : List ℕ) (messages : List TheMessage) → IsBytes bytes → name_at bytes ≡ Ok (name, behind) → messages_at behind ≡ Ok (messages, rest)
    → is_within_limits (record { name = name; messages = messages }) ≡ true
unfolding interface_at
kept bytes behind rest name messages h e f =
    let x : TheInterface = record { name = name; messages = messages } in
    let read : interface_at bytes ≡ Ok (x, rest) = rw (e, f) refl in
    within_limits x (read_has_image x (interface_law.takes bytes x rest h read).1)
