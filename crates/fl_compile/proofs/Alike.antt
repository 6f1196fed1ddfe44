-- Both codes of a message copy the same bytes and put the same zeros between them.
use Rattle.std.proofs.Common.{◌≡◌, ℕ, zero, suc, ◌+◌, true, false, Bool, eqb, cond, List, [], ◌∷◌, refl, sym, ◌∙◌, ap, subst}
use Rattle.std.specs.Prelude.{Option, Some, None, slice_get}
use Rattle.std.specs.Option.{option_map}
use Rattle.fl_interface.specs.declared.interface.Scalar.{Scalar}
use Rattle.fl_interface.specs.declared.interface.Scalar.TheVariants.{Uint8, Int8, Bool as BoolType, Char, Uint16, Int16, Uint32, Int32, Iref, Uint64, Int64, Uintptr, Intptr, Size, Errval}
use Rattle.fl_interface.specs.Interface.{TheType, scalar, enumeration, structure, array, TheTypes, no_more, field, TheArgType, fixed, text, sized, TheMessage}
use Rattle.fl_interface.specs.Sizes.{round_up, scalar_size, size_of, align_of, greatest_align}
use Rattle.fl_interface.specs.Limits.{is_within_limits}
use Rattle.fl_interface.specs.Counts.{interface_words_fit}
use Rattle.fl_value_data.specs.declared.value.PlanNo.{PlanNo}
use Rattle.fl_stub.specs.declared.op.Column.{Column}
use Rattle.fl_stub.specs.declared.op.Column.TheVariants.{Send, Receive}
use Rattle.fl_stub.specs.Structure.{Block, finished, next, one}
use Rattle.fl_stub.specs.Meaning.{move_of}
use Rattle.fl_stub.specs.Code.{TheCode}
use Rattle.fl_stub.specs.Frames.{block_of}
use Rattle.fl_stub.proofs.Structures.{structure_is}
use Rattle.fl_stub_steps.specs.declared.step.PreparedCode.{PreparedCode}
use Rattle.fl_stub_steps.specs.Spreading.{Spread, copied, padded, aligned, repeated, length_at, move_spread, block_spread}
use Rattle.fl_stub_steps.specs.Steps.{TheSteps, steps_in, Means}
use Rattle.fl_compile.specs.declared.arguments.ArgOffset.{ArgOffset}
use Rattle.fl_compile.specs.declared.arguments.ArgOffset.TheVariants.{At, AfterDynamic}
use Rattle.fl_compile.specs.Compiled.{scalar_op, text_op, pad_op, padding, zeros_then, type_then, fields_then, start_at, start_then, counted_then, arguments_block}
use Rattle.fl_compile.specs.Compiled.{in_order, message_block, message_code}
use Rattle.fl_compile.specs.Codes.{compiled_code}
use Rattle.fl_compile.specs.Programs.{TheProgram, code_in, Prepares}
use Rattle.fl_compile.specs.PackedLaws.{CodesMoveAlike}
use Rattle.fl_compile.proofs.Lawful.{compiles_to_code}

-- two blocks that do so
abbrev Alike : Block → Block → Type 0
Alike a b = (x : Spread) → block_spread a x ≡ block_spread b x

-- zeros
zeros_by : (count : ℕ) (a b : Block) (none : Bool) → Alike a b → Alike (cond none a (next (one (pad_op Receive count)) a)) (cond none b (next (one (pad_op Send count)) b))
zeros_by count a b true same x = same x
zeros_by count a b false same x = same (padded count x)

zeros_alike : (count : ℕ) (a b : Block) → Alike a b → Alike (zeros_then Receive count a) (zeros_then Send count b)
zeros_alike count a b same x = zeros_by count a b (eqb count 0) same x

-- loops
turns_alike : (a b : Block) → Alike a b → (k : ℕ) (x : Spread) → repeated (block_spread a) k x ≡ repeated (block_spread b) k x
turns_alike a b same zero x = refl
turns_alike a b same (suc k) x = ap (repeated (block_spread a) k) (same x) ∙ turns_alike a b same k (block_spread b x)

counted_alike : (most : ℕ) (a b inner other : Block) → Alike inner other → Alike a b → Alike (counted_then most inner a) (counted_then most other b)
counted_alike most a b inner other turns same x =
    let y = aligned x in
    ap (block_spread a) (turns_alike inner other turns (length_at y.left) (copied 8 y)) ∙ same (repeated (block_spread other) (length_at y.left) (copied 8 y))

-- both instructions of a scalar have its width
scalar_width : (s : Scalar) (x : Spread) → move_spread (move_of (scalar_op Receive s)) x ≡ copied (scalar_size s) x
scalar_width Uint8 x = refl
scalar_width Int8 x = refl
scalar_width BoolType x = refl
scalar_width Char x = refl
scalar_width Uint16 x = refl
scalar_width Int16 x = refl
scalar_width Uint32 x = refl
scalar_width Int32 x = refl
scalar_width Iref x = refl
scalar_width Uint64 x = refl
scalar_width Int64 x = refl
scalar_width Uintptr x = refl
scalar_width Intptr x = refl
scalar_width Size x = refl
scalar_width Errval x = refl

nothing_alike : Alike finished finished
nothing_alike x = refl

mutual
  type_alike : (t : TheType) (a b : Block) → Alike a b → Alike (type_then Receive t a) (type_then Send t b)
  type_alike (scalar s) a b same x = ap (block_spread a) (scalar_width s x) ∙ same (copied (scalar_size s) x)
  type_alike (enumeration n) a b same x = same (copied 4 x)
  type_alike (structure ts) a b same x = fields_alike (greatest_align ts) 0 ts a b same x
  type_alike (array n t) a b same x =
      let turn = type_alike t finished finished nothing_alike in
      ap (block_spread a) (turns_alike (type_then Receive t finished) (type_then Send t finished) turn n x)
      ∙ same (repeated (block_spread (type_then Send t finished)) n x)

  fields_alike : (align at : ℕ) (ts : TheTypes) (a b : Block) → Alike a b → Alike (fields_then Receive align at ts a) (fields_then Send align at ts b)
  fields_alike align at no_more a b same x = zeros_alike (padding at align) a b same x
  fields_alike align at (field t ts) a b same x =
      let on = round_up at (align_of t) + size_of t in
      let c = fields_then Receive align on ts a in
      let d = fields_then Send align on ts b in
      zeros_alike (padding at (align_of t)) (type_then Receive t c) (type_then Send t d) (type_alike t c d (fields_alike align on ts a b same)) x

start_alike : (standing : ArgOffset) (align : ℕ) (a b : Block) → Alike a b → Alike (start_then Receive standing align a) (start_then Send standing align b)
start_alike (At at) align a b same x = zeros_alike (padding at align) a b same x
start_alike AfterDynamic align a b same x = same (aligned x)

letter_alike : Alike (next (one (text_op Receive)) finished) (next (one (text_op Send)) finished)
letter_alike x = refl

arguments_alike : (standing : ArgOffset) (args : List TheArgType) → Alike (arguments_block Receive standing args) (arguments_block Send standing args)
arguments_alike standing [] x = refl
arguments_alike standing (fixed t ∷ args) x =
    let after = At (start_at standing (align_of t) + size_of t) in
    let a = arguments_block Receive after args in
    let b = arguments_block Send after args in
    start_alike standing (align_of t) (type_then Receive t a) (type_then Send t b) (type_alike t a b (arguments_alike after args)) x
arguments_alike standing (text most ∷ args) x =
    counted_alike most (arguments_block Receive AfterDynamic args) (arguments_block Send AfterDynamic args) (next (one (text_op Receive)) finished) (next (one (text_op Send)) finished)
    letter_alike (arguments_alike AfterDynamic args) x
arguments_alike standing (sized most t ∷ args) x =
    counted_alike most (arguments_block Receive AfterDynamic args) (arguments_block Send AfterDynamic args) (type_then Receive t finished) (type_then Send t finished)
    (type_alike t finished finished nothing_alike) (arguments_alike AfterDynamic args) x

pub codes_move_alike : CodesMoveAlike
codes_move_alike plan m x = arguments_alike (At 0) (in_order plan m) x

-- ---- prepared code

-- steps that mean either code of a message mean its send code
pub means_send : (column : Column) (plan : PlanNo) (m : TheMessage) (steps : TheSteps) → Means steps (message_block column plan m) → Means steps (message_block Send plan m)
means_send Send plan m steps means x = means x
means_send Receive plan m steps means x = means x ∙ codes_move_alike plan m x

some_is : (a b : TheCode) → Some a ≡ Some b → a ≡ b
some_is a b e = cc

none_is : (a : TheCode) → None ≡ Some a → ⊥
none_is a e = absurd (cc)

receives_at : (p : TheProgram) (msg : ℕ) (code : PreparedCode) (o : Option TheMessage) → is_within_limits p.interface ≡ true → interface_words_fit p.interface ≡ true
    → slice_get p.interface.messages msg ≡ o → Prepares (option_map (compiled_code Send p.plan) o) code → Prepares (option_map (compiled_code Receive p.plan) o) code
receives_at p msg code None within words e (d, has, means) = absurd (none_is d has)
receives_at p msg code (Some m) within words e (d, has, means) =
    let its : d ≡ compiled_code Send p.plan m = some_is d (compiled_code Send p.plan m) (sym has) in
    let sends = structure_is Send (message_code Send p.plan m) (message_block Send p.plan m)
    (compiles_to_code Send p.plan p.interface msg m (record { within = within; words = words; message = e })) in
    let takes = structure_is Receive (message_code Receive p.plan m) (message_block Receive p.plan m)
    (compiles_to_code Receive p.plan p.interface msg m (record { within = within; words = words; message = e })) in (
      compiled_code Receive p.plan m,
      refl,
      λ x.
          subst (λ (o : TheCode). Means (steps_in code) (block_of o.ops)) its means x ∙ ap (λ (b : Block). block_spread b x) sends ∙ sym (codes_move_alike p.plan m x)
          ∙ sym (ap (λ (b : Block). block_spread b x) takes),
    )

-- what means a message's send code means its receive code
pub receives : (p : TheProgram) (msg : ℕ) (code : PreparedCode) → is_within_limits p.interface ≡ true → interface_words_fit p.interface ≡ true → Prepares (code_in Send p msg) code
    → Prepares (code_in Receive p msg) code
receives p msg code within words sends = receives_at p msg code (slice_get p.interface.messages msg) within words refl sends
