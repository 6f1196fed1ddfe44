-- Receive code tells the fault of each byte.
use Rattle.std.proofs.Common.{◌≡◌, ℕ, true, false, Bool, cond, List, [], map, refl, sym, ◌∙◌, ap, subst}
use Rattle.std.specs.Prelude.{Option}
use Rattle.std.specs.List.{list_all, flat_map}
use Rattle.fl_interface.specs.Interface.{TheArgType, TheMessage}
use Rattle.fl_interface.specs.Limits.{are_arguments_within}
use Rattle.fl_value_data.specs.declared.value.PlanNo.{PlanNo}
use Rattle.fl_value_data.specs.Value.{Datum}
use Rattle.fl_value_data.specs.Fits.{fit_message, are_arguments}
use Rattle.fl_value_data.specs.Plan.{arranged}
use Rattle.fl_value_data.specs.Tape.{kind, tape_of_argument, types_of}
use Rattle.fl_interface.specs.Counts.{argument_words_fit}
use Rattle.fl_wire.specs.declared.fault.WireFault.TheVariants.{NotZero, OutOfType, TooLong}
use Rattle.fl_stub.specs.declared.mark.ByteKind.{ByteKind}
use Rattle.fl_stub.specs.declared.mark.ByteKind.TheVariants.{Length, Number, Zero}
use Rattle.fl_stub.specs.declared.op.Column.TheVariants.{Receive}
use Rattle.fl_stub.specs.Marks.{marks_of, mark_at}
use Rattle.fl_compile.specs.declared.arguments.ArgOffset.TheVariants.{At}
use Rattle.fl_compile.specs.Compiled.{arguments_block, in_order, message_block}
use Rattle.fl_compile.specs.Laws.{fault_of, TellsFaults}
use Rattle.fl_compile.proofs.Ordering.{arranged_kinds, zip_kinds}
use Rattle.fl_compile.proofs.Depths.{message_args, message_within, message_words}
use Rattle.fl_compile.proofs.Lawful.{ordered, order_sound}
use Rattle.fl_compile.proofs.Marking.{arguments_marks, arguments_marked}
use Rattle.fl_compile.proofs.Covering.{stands_at, all_stand}

-- the two tests of a byte, as a mark
fault_by : (length covered : Bool) → cond length TooLong (cond covered OutOfType NotZero) ≡ fault_of (cond length Length (cond covered Number Zero))
fault_by true covered = refl
fault_by false true = refl
fault_by false false = refl

message_marks : (plan : PlanNo) (m : TheMessage) (ds : List Datum) → are_arguments m.args ds ≡ true → are_arguments_within m.args ≡ true → list_all argument_words_fit m.args ≡ true
    → marks_of (message_block Receive plan m) (flat_map tape_of_argument (ordered plan m.args ds)) ≡ arguments_marks false 0 (ordered plan m.args ds)
message_marks plan m ds h w f =
    let order = ordered plan m.args ds in
    let kinds : map kind order ≡ in_order plan m = arranged_kinds plan _ ∙ ap (arranged (λ (t : TheArgType). t) plan) (zip_kinds m.args ds h) in
    ap (λ (ts : List TheArgType). marks_of (arguments_block Receive (At 0) ts) (flat_map tape_of_argument order)) (sym kinds)
    ∙ arguments_marked Receive (At 0) false 0 order refl (order_sound plan m.args ds h w f)

message_tells : (plan : PlanNo) (m : TheMessage) (ds : List Datum) → are_arguments m.args ds ≡ true → are_arguments_within m.args ≡ true → list_all argument_words_fit m.args ≡ true → (p : ℕ)
    → stands_at false (ordered plan m.args ds) [] p ≡ mark_at (marks_of (message_block Receive plan m) (flat_map tape_of_argument (ordered plan m.args ds))) p
message_tells plan m ds h w f p =
    all_stand (ordered plan m.args ds) (order_sound plan m.args ds h w f) p ∙ ap (λ (ms : List ByteKind). mark_at ms p) (sym (message_marks plan m ds h w f))

-- by the message that a call has
abbrev Tells : PlanNo → TheMessage → Option TheMessage → List Datum → ℕ → Type 0
Tells plan m found ds p =
    stands_at false (ordered plan (types_of found) ds) [] p
    ≡ mark_at (marks_of (message_block Receive plan m) (flat_map tape_of_argument (ordered plan (types_of found) ds))) p

pub tells_faults : TellsFaults
tells_faults plan i m c has fits p =
    let e = has.message in
    let h : are_arguments m.args c.args ≡ true = subst (λ (o : Option TheMessage). fit_message o c.args ≡ true) e fits in
    let within = (message_args m (message_within i c.msg m has.within e)).1 in
    let tells = message_tells plan m c.args h within (message_words i c.msg m has.words e) p in
    fault_by _ _ ∙ ap fault_of (subst (λ (o : Option TheMessage). Tells plan m o c.args p) (sym e) tells)
