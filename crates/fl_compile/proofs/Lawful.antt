-- The laws of the compiler's code.
use Rattle.std.proofs.Common.{◌≡◌, ℕ, ◌+◌, true, false, List, [], map, length, refl, sym, ◌∙◌, ap, subst, arith}
use Rattle.std.specs.Prelude.{Option}
use Rattle.std.specs.List.{zip, list_all, flat_map}
use Rattle.fl_interface.specs.Interface.{TheArgType, TheMessage, TheInterface}
use Rattle.fl_interface.specs.Limits.{are_arguments_within}
use Rattle.fl_value_data.specs.declared.value.PlanNo.{PlanNo}
use Rattle.fl_value_data.specs.Value.{Datum, TheCall}
use Rattle.fl_value_data.specs.Fits.{fits_of, fit_message, are_arguments}
use Rattle.fl_value_data.specs.Plan.{arranged}
use Rattle.fl_value_data.specs.Tape.{Argument, kind, tape_of_argument, tape_of, types_of}
use Rattle.fl_layout.specs.Leaves.{arguments_onto}
use Rattle.fl_wire.specs.Payload.{payload_bytes, payload_of}
use Rattle.fl_interface.specs.Counts.{argument_words_fit}
use Rattle.fl_stub.specs.declared.op.Column.{Column}
use Rattle.fl_stub.specs.declared.op.Column.TheVariants.{Send, Receive}
use Rattle.fl_stub.specs.Meaning.{BlockTurns, moment_first, moment_last, Turns}
use Rattle.fl_compile.specs.declared.arguments.ArgOffset.TheVariants.{At}
use Rattle.fl_compile.specs.Compiled.{arguments_block, in_order, message_block}
use Rattle.fl_compile.specs.Laws.{HasMessage, Carries, SendsCalls, TakesCalls, CompilesToCode}
use Rattle.fl_compile.proofs.Placing.{arguments_bytes, is_sound, arguments_lie, arguments_turn, arguments_come}
use Rattle.fl_compile.proofs.Ordering.{all_arranged, arranged_kinds, zip_kinds, zip_sound, undo}
use Rattle.fl_compile.proofs.Depths.{message_args, message_is_code, message_within, message_words}

-- arguments in the plan's order
abbrev pub ordered : PlanNo → List TheArgType → List Datum → List Argument
ordered plan ts ds = arranged kind plan (zip ts ds)

pub order_sound : (plan : PlanNo) (ts : List TheArgType) (ds : List Datum) → are_arguments ts ds ≡ true → are_arguments_within ts ≡ true → list_all argument_words_fit ts ≡ true
    → list_all is_sound (ordered plan ts ds) ≡ true
order_sound plan ts ds h w f = all_arranged is_sound kind plan (zip ts ds) (zip_sound ts ds h w f)

-- their payload
order_lies : (args : List Argument) → list_all is_sound args ≡ true → payload_bytes (arguments_onto false args []) ≡ arguments_bytes false 0 args
order_lies args h = arguments_lie false args [] h

message_turns : (column : Column) (plan : PlanNo) (m : TheMessage) (ds : List Datum) → are_arguments m.args ds ≡ true → are_arguments_within m.args ≡ true → list_all argument_words_fit m.args ≡ true
    → Turns (message_block column plan m) (flat_map tape_of_argument (ordered plan m.args ds)) (payload_bytes (arguments_onto false (ordered plan m.args ds) []))
message_turns column plan m ds h w f =
    let order = ordered plan m.args ds in
    let sound = order_sound plan m.args ds h w f in
    let kinds : map kind order ≡ in_order plan m = arranged_kinds plan (zip m.args ds) ∙ ap (arranged (λ (t : TheArgType). t) plan) (zip_kinds m.args ds h) in
    let bytes = arguments_bytes false 0 order in
    let tape = flat_map tape_of_argument order in
    let turn = arguments_turn column (At 0) false 0 order refl sound in
    let long : 0 + length bytes ≡ length bytes = omega arith in
    let here : Turns (arguments_block column (At 0) (map kind order)) tape bytes
    = subst (λ (k : ℕ). BlockTurns (arguments_block column (At 0) (map kind order)) (moment_first tape bytes) (moment_last k)) long turn in
    subst (λ (bs : List ℕ). Turns (message_block column plan m) tape bs) (sym (order_lies order sound))
    (subst (λ (ts : List TheArgType). Turns (arguments_block column (At 0) ts) tape bytes) kinds here)

-- by the message that a call has
abbrev CallTurns : Column → PlanNo → TheMessage → Option TheMessage → List Datum → Type 0
CallTurns column plan m found ds =
    Turns (message_block column plan m) (flat_map tape_of_argument (ordered plan (types_of found) ds)) (payload_bytes (arguments_onto false (ordered plan (types_of found) ds) []))

pub call_turns : (column : Column) (plan : PlanNo) (i : TheInterface) (m : TheMessage) (c : TheCall) → HasMessage i c.msg m → fits_of i c ≡ true
    → Turns (message_block column plan m) (tape_of plan i c) (payload_of plan i c)
call_turns column plan i m c has fits =
    let e = has.message in
    let h : are_arguments m.args c.args ≡ true = subst (λ (o : Option TheMessage). fit_message o c.args ≡ true) e fits in
    let turns = message_turns column plan m c.args h (message_args m (message_within i c.msg m has.within e)).1 (message_words i c.msg m has.words e) in
    subst (λ (o : Option TheMessage). CallTurns column plan m o c.args) (sym e) turns

pub sends_calls : SendsCalls
sends_calls plan i m c has fits = call_turns Send plan i m c has fits

given : (plan : PlanNo) (i : TheInterface) (msg : ℕ) (m : TheMessage) (tape bytes : List ℕ) → HasMessage i msg m
    → ((c : TheCall) × Carries plan i msg tape bytes c) → Turns (message_block Receive plan m) tape bytes
given plan i msg m tape bytes has (c, carries) =
    let own : HasMessage i c.msg m = subst (λ (k : ℕ). HasMessage i k m) (sym carries.message) has in
    subst (λ (t : List ℕ). Turns (message_block Receive plan m) t bytes) (sym carries.tape_is)
    (subst (λ (b : List ℕ). Turns (message_block Receive plan m) (tape_of plan i c) b) (sym carries.bytes_are) (call_turns Receive plan i m c own carries.fits))

-- what receive code takes is a call's
takes : (plan : PlanNo) (i : TheInterface) (msg : ℕ) (m : TheMessage) (tape bytes : List ℕ) → HasMessage i msg m
    → Turns (message_block Receive plan m) tape bytes → (c : TheCall) × Carries plan i msg tape bytes c
takes plan i msg m tape bytes has turns =
    let e = has.message in
    let within = (message_args m (message_within i msg m has.within e)).1 in
    let words = message_words i msg m has.words e in
    let came = arguments_come (At 0) false (in_order plan m) (moment_first tape bytes) (length bytes) refl (all_arranged argument_words_fit (λ (t : TheArgType). t) plan m.args words) turns in
    let u = undo plan m.args came.args came.kinds came.typed in
    let c : TheCall = record { msg = msg; args = u.ds } in
    let order = ordered plan m.args u.ds in
    let tape_is : tape ≡ flat_map tape_of_argument order = came.tape_is ∙ ap (flat_map tape_of_argument) (sym u.back) in
    let bytes_are : bytes ≡ payload_bytes (arguments_onto false order [])
    = came.bytes_are ∙ ap (arguments_bytes false 0) (sym u.back) ∙ sym (order_lies order (order_sound plan m.args u.ds u.fit within words)) in (
      c,
      record {
        message = refl;
        fits = subst (λ (o : Option TheMessage). fit_message o u.ds ≡ true) (sym e) u.fit;
        tape_is = subst (λ (o : Option TheMessage). tape ≡ flat_map tape_of_argument (ordered plan (types_of o) u.ds)) (sym e) tape_is;
        bytes_are = subst (λ (o : Option TheMessage). bytes ≡ payload_bytes (arguments_onto false (ordered plan (types_of o) u.ds) [])) (sym e) bytes_are;
      },
    )

pub takes_calls : TakesCalls
takes_calls plan i msg m tape bytes has = (takes plan i msg m tape bytes has, given plan i msg m tape bytes has)

pub compiles_to_code : CompilesToCode
compiles_to_code column plan i msg m has = message_is_code column plan m (message_within i msg m has.within has.message) (message_words i msg m has.words has.message)
