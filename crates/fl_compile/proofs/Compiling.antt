-- What the compiler has made of a message.
use Rattle.std.proofs.Common.{◌≡◌, ℕ, zero, suc, ◌<◌, ◌≤◌, true, List, [], ◌∷◌, ◌++◌, map, length, get_or, sym, ◌∙◌, ap, subst, arith}
use Rattle.std.specs.Prelude.{slice_get, Some}
use Rattle.std.specs.List.{list_all}
use Rattle.std.proofs.lemmas.List.{length-map}
use Rattle.fl_interface.specs.Interface.{TheArgType, TheMessage}
use Rattle.fl_interface.specs.Limits.{is_argument_within, are_arguments_within, is_message_within}
use Rattle.fl_value_data.specs.declared.value.PlanNo.{PlanNo}
use Rattle.fl_interface.specs.Counts.{argument_words_fit}
use Rattle.fl_stub.specs.declared.op.Op.{Op}
use Rattle.fl_stub.specs.declared.op.Column.{Column}
use Rattle.fl_stub.specs.Structure.{block_ops, last_op, IsCode, OneStructure}
use Rattle.fl_stub.specs.Code.{TheCode, IsVerified}
use Rattle.fl_stub.specs.Frames.{block_of}
use Rattle.fl_compile.specs.declared.arguments.ArgOffset.TheVariants.{At}
use Rattle.fl_compile.specs.Compiled.{arguments_block, in_order, message_block, message_code}
use Rattle.fl_compile.specs.Codes.{compiled_code}
use Rattle.fl_compile.proofs.Ordering.{all_arranged, arranged_short}
use Rattle.fl_compile.proofs.Depths.{all_within, within_all, message_args, message_is_code}

-- arguments in the plan's order are within the limits, and few
pub order_within : {A : Type 0} (type : A → TheArgType) (plan : PlanNo) (m : TheMessage) (args order : List A) → args ≡ order → map type order ≡ in_order plan m
    → is_message_within m ≡ true → are_arguments_within (map type args) ≡ true
order_within type plan m args order e f h =
    let whole = all_arranged is_argument_within (λ (t : TheArgType). t) plan m.args (all_within m.args (message_args m h).1) in
    subst (λ (ts : List TheArgType). are_arguments_within ts ≡ true) (sym (ap (map type) e ∙ f)) (within_all (in_order plan m) whole)

pub order_few : {A : Type 0} (type : A → TheArgType) (plan : PlanNo) (m : TheMessage) (args order : List A) → args ≡ order → map type order ≡ in_order plan m
    → is_message_within m ≡ true → length args ≤ 160
order_few type plan m args order e f h =
    let long : length (map type args) ≡ length (in_order plan m) = ap length (ap (map type) e ∙ f) in
    omega (arith, long, length-map args type, arranged_short plan m.args (message_args m h).0)

-- the instructions are the compiler's code
pub code_is : {A : Type 0} (type : A → TheArgType) (column : Column) (plan : PlanNo) (m : TheMessage) (args order : List A) (ops : List Op) → args ≡ order → map type order ≡ in_order plan m
    → ops ≡ block_ops column (arguments_block column (At 0) (map type args)) ++ last_op column ∷ [] → ops ≡ message_code column plan m
code_is type column plan m args order ops e f is =
    is ∙ ap (λ (ts : List TheArgType). block_ops column (arguments_block column (At 0) ts) ++ last_op column ∷ []) (ap (map type) e ∙ f)

-- and so they have its structure
pub is_code : (column : Column) (plan : PlanNo) (m : TheMessage) (ops : List Op) → ops ≡ message_code column plan m → is_message_within m ≡ true → list_all argument_words_fit m.args ≡ true
    → IsCode column ops (message_block column plan m)
is_code column plan m ops e w f = subst (λ (o : List Op). IsCode column o (message_block column plan m)) (sym e) (message_is_code column plan m w f)

abbrev make_code : Column → List Op → TheCode
make_code column ops = record { column = column; ops = ops }

-- verified code of one structure is the compiler's
pub verified_is : (column : Column) (plan : PlanNo) (m : TheMessage) (ops : List Op) (code : TheCode) → OneStructure → IsCode column ops (message_block column plan m)
    → ops ≡ message_code column plan m → code.ops ≡ ops → IsVerified code → code ≡ compiled_code column plan m
verified_is column plan m ops code one is e same verified =
    let own : IsCode code.column ops (block_of code.ops) = subst (λ (o : List Op). IsCode code.column o (block_of code.ops)) same verified in
    let told = one ops code.column column (block_of code.ops) (message_block column plan m) own is in
    ap (λ (c : Column). make_code c code.ops) told.0 ∙ ap (make_code column) (same ∙ e)

-- the message at a place
pub message_at : {A B : Type 0} (view : A → B) (xs : List A) (k : ℕ) (x : A) → k < length xs → x ≡ get_or xs k x → slice_get (map view xs) k ≡ Some (view x)
message_at view [] k x h e = absurd (omega (arith, h))
message_at {A = A} view (y ∷ ys) zero x h e = ap (λ (z : A). Some (view z)) (sym e)
message_at view (y ∷ ys) (suc k) x h e = message_at view ys k x (omega (arith, h)) e
