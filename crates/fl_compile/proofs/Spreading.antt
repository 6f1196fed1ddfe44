-- The laws of send code and packed tapes.
use Rattle.std.proofs.Common.{◌≡◌, ℕ, true, List, [], ◌∷◌, map, refl, sym, ◌∙◌, ap, subst}
use Rattle.std.specs.Prelude.{Option, Some, None, slice_get}
use Rattle.std.specs.List.{zip, list_all, flat_map}
use Rattle.std.proofs.lemmas.Bool.{and_parts, false≢true}
use Rattle.fl_interface.specs.Interface.{TheArgType, TheMessage}
use Rattle.fl_value_data.specs.declared.value.PlanNo.{PlanNo}
use Rattle.fl_value_data.specs.Value.{Datum, TheCall}
use Rattle.fl_value_data.specs.Fits.{fits_of, fit_message, is_argument, are_arguments}
use Rattle.fl_value_data.specs.Plan.{arranged}
use Rattle.fl_value_data.specs.Tape.{Argument, kind, tape_of_argument, tape_of, types_of}
use Rattle.fl_wire.specs.Payload.{payload_of}
use Rattle.fl_stub.specs.declared.op.Column.{Column}
use Rattle.fl_stub.specs.declared.op.Column.TheVariants.{Send}
use Rattle.fl_compile.specs.declared.arguments.ArgOffset.TheVariants.{At}
use Rattle.fl_compile.specs.Compiled.{arguments_block, in_order, message_block}
use Rattle.fl_compile.proofs.Ordering.{all_arranged, arranged_kinds, zip_kinds}
use Rattle.fl_compile.proofs.Lawful.{sends_calls, compiles_to_code}
use Rattle.fl_value_tape.specs.Packed.{packed_argument, packed_of}
use Rattle.fl_stub_steps.specs.Spreading.{Packing, packed_for, block_packed, block_spread, spread_first}
use Rattle.fl_stub.specs.Structure.{Block}
use Rattle.fl_stub_steps.proofs.Spreads.{spreads}
use Rattle.fl_stub_steps.specs.Spreading.{Spread}
use Rattle.fl_stub_steps.specs.Steps.{TheSteps, steps_in, steps_done, all_of, IsPlain, Means}
use Rattle.std.proofs.lemmas.List.{append-nil}
use Rattle.fl_compile.specs.Programs.{TheProgram, code_in, Prepares}
use Rattle.fl_compile.specs.Codes.{compiled_code}
use Rattle.fl_compile.specs.Compiled.{message_code}
use Rattle.fl_stub.proofs.Structures.{structure_is}
use Rattle.fl_stub.specs.Code.{TheCode}
use Rattle.fl_stub.specs.Frames.{block_of}
use Rattle.fl_stub_steps.specs.declared.step.PreparedCode.{PreparedCode}
use Rattle.std.specs.Option.{option_map}
use Rattle.fl_interface.specs.Limits.{is_within_limits}
use Rattle.fl_interface.specs.Counts.{interface_words_fit}
use Rattle.fl_compile.specs.PackedLaws.{PacksCalls, SpreadsCalls, IsPrepared}
use Rattle.fl_compile.proofs.Packs.{packing, is_fit, arguments_pack}

-- arguments in the plan's order
abbrev ordered : PlanNo → List TheArgType → List Datum → List Argument
ordered plan ts ds = arranged kind plan (zip ts ds)

zip_fit : (ts : List TheArgType) (ds : List Datum) → are_arguments ts ds ≡ true → list_all is_fit (zip ts ds) ≡ true
zip_fit [] [] h = refl
zip_fit [] (d ∷ ds) h = absurd (false≢true h)
zip_fit (t ∷ ts) [] h = absurd (false≢true h)
zip_fit (t ∷ ts) (d ∷ ds) h =
    let has = and_parts (is_argument t d) (are_arguments ts ds) h in
    rw (has.0) (zip_fit ts ds (has.1))

message_packs : (plan : PlanNo) (m : TheMessage) (ds : List Datum) → are_arguments m.args ds ≡ true
    → block_packed (message_block Send plan m) (flat_map tape_of_argument (ordered plan m.args ds)) ≡ packing (flat_map packed_argument (ordered plan m.args ds)) []
message_packs plan m ds h =
    let order = ordered plan m.args ds in
    let fit = all_arranged is_fit kind plan (zip m.args ds) (zip_fit m.args ds h) in
    let kinds : map kind order ≡ in_order plan m = arranged_kinds plan (zip m.args ds) ∙ ap (arranged (λ (t : TheArgType). t) plan) (zip_kinds m.args ds h) in
    subst (λ (ts : List TheArgType). block_packed (arguments_block Send (At 0) ts) (flat_map tape_of_argument order) ≡ packing (flat_map packed_argument order) []) kinds
    (arguments_pack (At 0) order fit)

-- by the message that a call has
abbrev CallPacks : PlanNo → TheMessage → Option TheMessage → List Datum → Type 0
CallPacks plan m found ds =
    packed_for (message_block Send plan m) (flat_map tape_of_argument (ordered plan (types_of found) ds)) ≡ flat_map packed_argument (ordered plan (types_of found) ds)

pub packs : PacksCalls
packs plan i m c has fits =
    let e = has.message in
    let h : are_arguments m.args c.args ≡ true = subst (λ (o : Option TheMessage). fit_message o c.args ≡ true) e fits in
    let here : CallPacks plan m (Some m) c.args = ap (λ (p : Packing). p.bytes) (message_packs plan m c.args h) in
    subst (λ (o : Option TheMessage). CallPacks plan m o c.args) (sym e) here

pub spreads_calls : SpreadsCalls
spreads_calls plan i m c has fits =
    let code = compiles_to_code Send plan i c.msg m has in
    ap (λ (bs : List ℕ). block_spread (message_block Send plan m) (spread_first bs)) (sym (packs plan i m c has fits))
    ∙ spreads Send (message_block Send plan m) (tape_of plan i c) (payload_of plan i c) code.fits (sends_calls plan i m c has fits)

-- a program's prepared code makes the payload
steps_make : (p : TheProgram) (c : TheCall) (steps : TheSteps) (o : Option TheMessage) → is_within_limits p.interface ≡ true → interface_words_fit p.interface ≡ true
    → fits_of p.interface c ≡ true → IsPrepared Send p c.msg steps → slice_get p.interface.messages c.msg ≡ o
    → steps_done steps (spread_first (packed_of p.plan p.interface c)) ≡ record { given = payload_of p.plan p.interface c; left = [] }
steps_make p c steps None within words fits prepared e = absurd (false≢true (subst (λ (o : Option TheMessage). fit_message o c.args ≡ true) e fits))
steps_make p c steps (Some m) within words fits prepared e =
    prepared m e (spread_first (packed_of p.plan p.interface c))
    ∙ spreads_calls p.plan p.interface m c (record { within = within; words = words; message = e }) fits

pub makes_payload : (p : TheProgram) (c : TheCall) (steps : TheSteps) (old packed : List ℕ) → is_within_limits p.interface ≡ true → interface_words_fit p.interface ≡ true
    → fits_of p.interface c ≡ true → IsPrepared Send p c.msg steps → old ≡ [] → packed ≡ packed_of p.plan p.interface c
    → (steps_done steps (record { given = old; left = packed })).given ≡ payload_of p.plan p.interface c
makes_payload p c steps old packed within words fits prepared none is =
    ap (λ (g : List ℕ). (steps_done steps (record { given = g; left = packed })).given) none
    ∙ ap (λ (l : List ℕ). (steps_done steps (spread_first l)).given) is
    ∙ ap (λ (s : Spread). s.given) (steps_make p c steps (slice_get p.interface.messages c.msg) within words fits prepared refl)

-- where it puts nothing between the tape's bytes, the tape is the payload
pub plain_payload : (p : TheProgram) (c : TheCall) (steps : TheSteps) → is_within_limits p.interface ≡ true → interface_words_fit p.interface ≡ true
    → fits_of p.interface c ≡ true → IsPrepared Send p c.msg steps → IsPlain steps → packed_of p.plan p.interface c ≡ payload_of p.plan p.interface c
plain_payload p c steps within words fits prepared plain =
    sym (plain (packed_of p.plan p.interface c))
    ∙ ap all_of (steps_make p c steps (slice_get p.interface.messages c.msg) within words fits prepared refl)
    ∙ append-nil (payload_of p.plan p.interface c)

the_same : (a b : TheCode) → Some a ≡ Some b → a ≡ b
the_same a b e = cc

-- the prepared code that a program has of a call's message, of either column
pub prepared_for : (column : Column) (p : TheProgram) (c : TheCall) (code : PreparedCode) → is_within_limits p.interface ≡ true → interface_words_fit p.interface ≡ true
    → Prepares (code_in column p c.msg) code → IsPrepared column p c.msg (steps_in code)
prepared_for column p c code within words prepares m e x =
    let (d, has, means) = prepares in
    let told : code_in column p c.msg ≡ Some (compiled_code column p.plan m) = ap (option_map (compiled_code column p.plan)) e in
    let its : d ≡ compiled_code column p.plan m = the_same d (compiled_code column p.plan m) (sym has ∙ told) in
    let is = structure_is column (message_code column p.plan m) (message_block column p.plan m)
    (compiles_to_code column p.plan p.interface c.msg m (record { within = within; words = words; message = e })) in
    subst (λ (o : TheCode). Means (steps_in code) (block_of o.ops)) its means x ∙ ap (λ (b : Block). block_spread b x) is

pub prepared_is : (p : TheProgram) (c : TheCall) (code : PreparedCode) → is_within_limits p.interface ≡ true → interface_words_fit p.interface ≡ true
    → Prepares (code_in Send p c.msg) code → IsPrepared Send p c.msg (steps_in code)
prepared_is p c code within words prepares = prepared_for Send p c code within words prepares

-- a fitting call's message has code
has_code : (p : TheProgram) (c : TheCall) (o : Option TheMessage) → fit_message o c.args ≡ true → option_map (compiled_code Send p.plan) o ≡ None → ⊥
has_code p c None fits none = false≢true fits
has_code p c (Some m) fits none = absurd (cc)

pub no_code : (p : TheProgram) (c : TheCall) → fits_of p.interface c ≡ true → code_in Send p c.msg ≡ None → ⊥
no_code p c fits none = has_code p c (slice_get p.interface.messages c.msg) fits none
