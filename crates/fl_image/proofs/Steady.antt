-- Reading is steady: bytes behind those that it looks at change nothing, and only an early end can give way to something else.
use Rattle.std.proofs.Common.{◌≡◌, ◌⊎◌, inl, inr, ℕ, zero, suc, ◌+◌, ◌*◌, ◌≤◌, Bool, true, false, cond, eqb, List, [], ◌∷◌, ◌++◌, length, take, drop, Option, Some, None, Ok, Err, refl, sym, ap, subst, arith, length-append}
use Rattle.std.specs.Prelude.{nat_le, nat_lt}
use Rattle.std.proofs.lemmas.Bool.{ltb-false}
use Rattle.std.proofs.lemmas.List.{take-append-le, drop-append-le}
use Rattle.fl_interface.specs.Interface.{TheType, scalar, enumeration, structure, array, fixed, text, sized, TheMessage, TheInterface, fields_from}
use Rattle.fl_value_data.specs.declared.value.PlanNo.{PlanNo}
use Rattle.fl_value_data.specs.declared.value.PlanNo.TheVariants.{One, Two}
use Rattle.fl_stub.specs.declared.op.Column.{Column}
use Rattle.fl_stub.specs.declared.op.Column.TheVariants.{Send, Receive}
use Rattle.fl_stub.specs.Structure.{is_within}
use Rattle.fl_image.specs.declared.fault.BadImage.TheVariants.{OtherMagic, OtherVersion, EndsEarly, BadField}
use Rattle.fl_image.specs.Image.{Codes, Fields, is_word}
use Rattle.fl_image.specs.Reading.{Read, ◌>>=◌, in_range, known, more_at, many_at, one_at, two_at, four_at, word_at, len_at, name_at, scalar_with, enumeration_at, scalar_at, structure_at, array_at, coded_at, type_at, text_at, sized_at, fixed_at, argument_at, argument_count_at, arguments_at, message_at, is_next, message_after, message_count_at, messages_at, op_with, takes_operand, op_at, code_at, codes_at, magic_at, plan_at, interface_at, fields_at}

-- what was read, and what is read where more bytes follow
abbrev pub Keeps : {A : Type 0} → List ℕ → Read A → Read A → Type 0
Keeps more (Ok p) later = later ≡ Ok (p.0, p.1 ++ more)
Keeps more (Err e) later = (e ≡ EndsEarly) ⊎ (later ≡ Err e)

abbrev pub Steady : {A : Type 0} → (List ℕ → Read A) → Type 0
Steady read = (bytes more : List ℕ) → Keeps more (read bytes) (read (bytes ++ more))

keeps_then : {A B : Type 0} (more : List ℕ) (r later : Read A) (f : A × List ℕ → Read B) → Keeps more r later → ((x : A) → Steady (λ bytes. f (x, bytes)))
    → Keeps more (r >>= f) (later >>= f)
keeps_then {A = A} more (Ok p) later f k s = subst (λ (r : Read A). Keeps more (f p) (r >>= f)) (sym k) (s p.0 p.1 more)
keeps_then more (Err e) later f (inl h) s = inl h
keeps_then {A = A} more (Err e) later f (inr h) s = inr (ap (λ (r : Read A). r >>= f) h)

steady_then : {A B : Type 0} (read : List ℕ → Read A) (f : A × List ℕ → Read B) → Steady read → ((x : A) → Steady (λ bytes. f (x, bytes))) → Steady (λ bytes. read bytes >>= f)
steady_then read f s t bytes more = keeps_then more (read bytes) (read (bytes ++ more)) f (s bytes more) t

steady_ok : {A : Type 0} (x : A) → Steady (λ bytes. Ok (x, bytes))
steady_ok x bytes more = refl

steady_range : {A : Type 0} (test : Bool) (x : A) → Steady (λ bytes. in_range test (x, bytes))
steady_range true x bytes more = refl
steady_range false x bytes more = inr refl

steady_known : {A : Type 0} (x : Option A) → Steady (known x)
steady_known None bytes more = inr refl
steady_known (Some x) bytes more = refl

keeps_choice : {A : Type 0} (more : List ℕ) (test : Bool) (r1 later1 r2 later2 : Read A) → Keeps more r1 later1 → Keeps more r2 later2 → Keeps more (cond test r1 r2) (cond test later1 later2)
keeps_choice more true r1 later1 r2 later2 h k = h
keeps_choice more false r1 later1 r2 later2 h k = k

steady_choice : {A : Type 0} (test : Bool) (f g : List ℕ → Read A) → Steady f → Steady g → Steady (λ bytes. cond test (f bytes) (g bytes))
steady_choice test f g s t bytes more = keeps_choice more test (f bytes) (f (bytes ++ more)) (g bytes) (g (bytes ++ more)) (s bytes more) (t bytes more)

steady_more : {A : Type 0} (read : List A → List ℕ → Read A) → ((before : List A) → Steady (read before)) → (n : ℕ) (before : List A) → Steady (more_at read n before)
steady_more read s zero before bytes more = refl
steady_more {A = A} read s (suc n) before bytes more =
    steady_then (read before) (λ (x : A × List ℕ). more_at read n (before ++ x.0 ∷ []) x.1) (s before) (λ x. steady_more read s n (before ++ x ∷ [])) bytes more

steady_many : {A : Type 0} (read : List ℕ → Read A) → Steady read → (n : ℕ) → Steady (many_at read n)
steady_many read s n = steady_more (λ before. read) (λ before. s) n []

-- ---- numbers and names

one_steady : Steady one_at
unfolding one_at
one_steady [] more = inl refl
one_steady (b ∷ bytes) more = refl

two_steady : Steady two_at
unfolding two_at
two_steady = steady_then one_at (λ low. one_at low.1 >>= λ high. Ok (low.0 + 256 * high.0, high.1)) one_steady
    (λ low. steady_then one_at (λ high. Ok (low + 256 * high.0, high.1)) one_steady (λ high. steady_ok (low + 256 * high)))

four_steady : Steady four_at
unfolding four_at
four_steady = steady_then two_at (λ low. two_at low.1 >>= λ high. Ok (low.0 + 65536 * high.0, high.1)) two_steady
    (λ low. steady_then two_at (λ high. Ok (low + 65536 * high.0, high.1)) two_steady (λ high. steady_ok (low + 65536 * high)))

abbrev word_of : ℕ → List ℕ → Bool → Read (List ℕ)
word_of len bytes short = cond short (Err EndsEarly) (in_range (is_word (take len bytes)) (take len bytes, drop len bytes))

word_keeps : (len : ℕ) (bytes more : List ℕ) (short later : Bool) → nat_lt (length bytes) len ≡ short → nat_lt (length (bytes ++ more)) len ≡ later
    → Keeps more (word_of len bytes short) (word_of len (bytes ++ more) later)
word_keeps len bytes more true later e f = inl refl
word_keeps len bytes more false true e f = absurd (grind (arith, e, f, length-append bytes more))
word_keeps len bytes more false false e f =
    let le : len ≤ length bytes = ltb-false (length bytes) len e in
    rw (take-append-le len bytes more le, drop-append-le len bytes more le) (steady_range (is_word (take len bytes)) (take len bytes) (drop len bytes) more)

word_steady : (len : ℕ) → Steady (word_at len)
unfolding word_at
word_steady len bytes more = word_keeps len bytes more (nat_lt (length bytes) len) (nat_lt (length (bytes ++ more)) len) refl refl

len_steady : Steady len_at
unfolding len_at
len_steady = steady_then one_at (λ len. in_range (is_within 64 len.0) len) one_steady (λ len. steady_range (is_within 64 len) len)

name_steady : Steady name_at
unfolding name_at
name_steady = steady_then len_at (λ len. word_at len.0 len.1) len_steady word_steady

-- ---- types

enumeration_steady : Steady enumeration_at
unfolding enumeration_at
enumeration_steady = steady_then two_at (λ count. Ok (enumeration count.0, count.1)) two_steady (λ count. steady_ok (enumeration count))

scalar_steady : (code : ℕ) → Steady (scalar_at code)
unfolding scalar_at
scalar_steady code = steady_then (known (scalar_with code)) (λ kind. Ok (scalar kind.0, kind.1)) (steady_known (scalar_with code)) (λ kind. steady_ok (scalar kind))

structure_steady : (inner : List ℕ → Read TheType) → Steady inner → Steady (structure_at inner)
unfolding structure_at
structure_steady inner s = steady_then one_at (λ count. many_at inner count.0 count.1 >>= λ fields. Ok (structure (fields_from fields.0), fields.1)) one_steady
    (λ count. steady_then (many_at inner count) (λ fields. Ok (structure (fields_from fields.0), fields.1)) (steady_many inner s count) (λ fields. steady_ok (structure (fields_from fields))))

array_steady : (inner : List ℕ → Read TheType) → Steady inner → Steady (array_at inner)
unfolding array_at
array_steady inner s = steady_then two_at (λ count. inner count.1 >>= λ element. Ok (array count.0 element.0, element.1)) two_steady
    (λ count. steady_then inner (λ element. Ok (array count element.0, element.1)) s (λ element. steady_ok (array count element)))

coded_steady : (inner : List ℕ → Read TheType) → Steady inner → (code : ℕ) → Steady (coded_at inner code)
coded_steady inner s code =
    steady_choice (eqb code 16) enumeration_at (λ rest. cond (eqb code 17) (structure_at inner rest) (cond (eqb code 18) (array_at inner rest) (scalar_at code rest))) enumeration_steady
    (steady_choice (eqb code 17) (structure_at inner) (λ rest. cond (eqb code 18) (array_at inner rest) (scalar_at code rest)) (structure_steady inner s)
    (steady_choice (eqb code 18) (array_at inner) (scalar_at code) (array_steady inner s) (scalar_steady code)))

type_steady : (left : ℕ) → Steady (type_at left)
unfolding type_at
type_steady zero = steady_then one_at (λ code. Err BadField) one_steady (λ code bytes more. inr refl)
type_steady (suc left) = steady_then one_at (λ code. coded_at (type_at left) code.0 code.1) one_steady (coded_steady (type_at left) (type_steady left))

text_steady : Steady text_at
unfolding text_at
text_steady = steady_then two_at (λ most. Ok (text most.0, most.1)) two_steady (λ most. steady_ok (text most))

sized_steady : Steady sized_at
unfolding sized_at
sized_steady = steady_then two_at (λ most. type_at 17 most.1 >>= λ element. Ok (sized most.0 element.0, element.1)) two_steady
    (λ most. steady_then (type_at 17) (λ element. Ok (sized most element.0, element.1)) (type_steady 17) (λ element. steady_ok (sized most element)))

fixed_steady : Steady fixed_at
unfolding fixed_at
fixed_steady = steady_then (type_at 18) (λ type. Ok (fixed type.0, type.1)) (type_steady 18) (λ type. steady_ok (fixed type))

argument_steady : Steady argument_at
unfolding argument_at
argument_steady [] more = inl refl
argument_steady (code ∷ rest) more =
    keeps_choice more (eqb code 32) (text_at rest) (text_at (rest ++ more)) (cond (eqb code 33) (sized_at rest) (fixed_at (code ∷ rest))) (cond (eqb code 33) (sized_at (rest ++ more)) (fixed_at (code ∷ rest ++ more)))
    (text_steady rest more)
    (keeps_choice more (eqb code 33) (sized_at rest) (sized_at (rest ++ more)) (fixed_at (code ∷ rest)) (fixed_at (code ∷ rest ++ more)) (sized_steady rest more) (fixed_steady (code ∷ rest) more))

-- ---- messages

argument_count_steady : Steady argument_count_at
unfolding argument_count_at
argument_count_steady = steady_then one_at (λ count. in_range (nat_le count.0 32) count) one_steady (λ count. steady_range (nat_le count 32) count)

arguments_steady : Steady arguments_at
unfolding arguments_at
arguments_steady = steady_then argument_count_at (λ count. many_at argument_at count.0 count.1) argument_count_steady (steady_many argument_at argument_steady)

message_steady : Steady message_at
unfolding message_at
message_steady = steady_then name_at (λ name. arguments_at name.1 >>= λ args. Ok (record { name = name.0; args = args.0 }, args.1)) name_steady
    (λ name. steady_then arguments_at (λ args. Ok (record { name = name; args = args.0 }, args.1)) arguments_steady (λ args. steady_ok (record { name = name; args = args })))

after_steady : (before : List TheMessage) → Steady (message_after before)
unfolding message_after
after_steady before = steady_then message_at (λ m. in_range (is_next before m.0) m) message_steady (λ m. steady_range (is_next before m) m)

message_count_steady : Steady message_count_at
unfolding message_count_at
message_count_steady = steady_then two_at (λ count. in_range (nat_le count.0 256) count) two_steady (λ count. steady_range (nat_le count 256) count)

messages_steady : Steady messages_at
unfolding messages_at
messages_steady = steady_then message_count_at (λ count. more_at message_after count.0 [] count.1) message_count_steady (λ count. steady_more message_after after_steady count [])

interface_steady : Steady interface_at
unfolding interface_at
interface_steady = steady_then name_at (λ name. messages_at name.1 >>= λ messages. Ok (record { name = name.0; messages = messages.0 }, messages.1)) name_steady
    (λ name. steady_then messages_at (λ messages. Ok (record { name = name; messages = messages.0 }, messages.1)) messages_steady (λ messages. steady_ok (record { name = name; messages = messages })))

-- ---- code

op_steady : (column : Column) → Steady (op_at column)
unfolding op_at
op_steady column =
    steady_then one_at (λ code. known (op_with column code.0 0) code.1 >>= λ op. two_at op.1 >>= λ operand. known (op_with column code.0 operand.0) operand.1 >>= λ whole. in_range (takes_operand operand.0 whole.0) whole) one_steady
    (λ code. steady_then (known (op_with column code 0)) (λ op. two_at op.1 >>= λ operand. known (op_with column code operand.0) operand.1 >>= λ whole. in_range (takes_operand operand.0 whole.0) whole) (steady_known (op_with column code 0))
    (λ op. steady_then two_at (λ operand. known (op_with column code operand.0) operand.1 >>= λ whole. in_range (takes_operand operand.0 whole.0) whole) two_steady
    (λ operand. steady_then (known (op_with column code operand)) (λ whole. in_range (takes_operand operand whole.0) whole) (steady_known (op_with column code operand))
    (λ whole. steady_range (takes_operand operand whole) whole))))

code_steady : (column : Column) → Steady (code_at column)
unfolding code_at
code_steady column = steady_then four_at (λ count. many_at (op_at column) count.0 count.1) four_steady (steady_many (op_at column) (op_steady column))

codes_steady : Steady codes_at
unfolding codes_at
codes_steady = steady_then (code_at Send) (λ send. code_at Receive send.1 >>= λ receive. Ok (record { send = send.0; receive = receive.0 }, receive.1)) (code_steady Send)
    (λ send. steady_then (code_at Receive) (λ receive. Ok (record { send = send; receive = receive.0 }, receive.1)) (code_steady Receive) (λ receive. steady_ok (record { send = send; receive = receive })))

-- ---- whole images

magic_steady : Steady magic_at
unfolding magic_at
magic_steady = steady_then four_at (λ number. cond (eqb number.0 1145982022) (Ok (tt, number.1)) (Err OtherMagic)) four_steady
    (λ number. steady_choice (eqb number 1145982022) (λ bytes. Ok (tt, bytes)) (λ bytes. Err OtherMagic) (steady_ok tt) (λ bytes more. inr refl))

plan_steady : Steady plan_at
unfolding plan_at
plan_steady = steady_then two_at (λ version. cond (eqb version.0 1) (Ok (One, version.1)) (cond (eqb version.0 2) (Ok (Two, version.1)) (Err OtherVersion))) two_steady
    (λ version. steady_choice (eqb version 1) (λ bytes. Ok (One, bytes)) (λ bytes. cond (eqb version 2) (Ok (Two, bytes)) (Err OtherVersion)) (steady_ok One)
    (steady_choice (eqb version 2) (λ bytes. Ok (Two, bytes)) (λ bytes. Err OtherVersion) (steady_ok Two) (λ bytes more. inr refl)))

abbrev fields_of : PlanNo → TheInterface → List Codes → Fields
fields_of plan interface codes = record { plan = plan; interface = interface; codes = codes }

pub fields_steady : Steady fields_at
unfolding fields_at
fields_steady =
    steady_then magic_at (λ start. plan_at start.1 >>= λ plan. interface_at plan.1 >>= λ interface. many_at codes_at (length interface.0.messages) interface.1 >>= λ codes. Ok (fields_of plan.0 interface.0 codes.0, codes.1)) magic_steady
    (λ start. steady_then plan_at (λ plan. interface_at plan.1 >>= λ interface. many_at codes_at (length interface.0.messages) interface.1 >>= λ codes. Ok (fields_of plan.0 interface.0 codes.0, codes.1)) plan_steady
    (λ plan. steady_then interface_at (λ interface. many_at codes_at (length interface.0.messages) interface.1 >>= λ codes. Ok (fields_of plan interface.0 codes.0, codes.1)) interface_steady
    (λ interface. steady_then (many_at codes_at (length interface.messages)) (λ codes. Ok (fields_of plan interface codes.0, codes.1)) (steady_many codes_at codes_steady (length interface.messages))
    (λ codes. steady_ok (fields_of plan interface codes)))))
