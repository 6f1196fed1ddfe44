use Rattle.std.proofs.Common.{◌≡◌, ◌∙◌, ◌∷◌, [], ap, rules}
use Rattle.fl_lex.specs.Words.{is_name}
use Rattle.fl_check.specs.Views.{before_of}
use Rattle.fl_check.specs.declared.fault.CheckFault.TheVariants.{Memory}
use Rattle.fl_check.proofs.FirstFaults.{tells_here, tells_past, none_past, err_of, memory_tells, ok_by}
use Rattle.fl_check.proofs.Added.{messages_added, same_message}
use Rattle.fl_check.proofs.Looks.{err_after, call_after}
use Rattle.fl_check.proofs.declared.Declared.declare_message.Goals as goal

pub returns-in_err-check_message_name-clause-fault : goal.returns-in_err-check_message_name-clause-fault
returns-in_err-check_message_name-clause-fault c =
    let e = c.in_err-check_message_name.field-0.0 in
    err_of c.from_residual.result e _ c.from_residual.ensures.1 (tells_here e _ _ c.in_err-check_message_name.ensures.fault)

pub returns-in_err-types-clause-fault : goal.returns-in_err-types-clause-fault
returns-in_err-types-clause-fault c =
    let e = c.in_err-types.field-0.0 in
    err_of c.from_residual-in_err-types.result e _ c.from_residual-in_err-types.ensures.1 (tells_past e _ _ c.in_ok-check_message_name.ensures.sound c.in_err-types.ensures.fault)

pub returns-in_err-to_vec-clause-fault : goal.returns-in_err-to_vec-clause-fault
returns-in_err-to_vec-clause-fault c = err_of c.from_residual-in_err-to_vec.result Memory _ c.from_residual-in_err-to_vec.ensures.1 tt

pub returns-clause-fault : goal.returns-clause-fault
returns-clause-fault c = memory_tells c.push_message.result _ c.push_message.ensures.memory

pub returns-clause-sound : goal.returns-clause-sound
returns-clause-sound c = ok_by c.push_message.result _ (none_past _ _ c.in_ok-check_message_name.ensures.sound ∙ c.in_ok-types.ensures.sound)

pub returns-clause-after : goal.returns-clause-after
returns-clause-after c =
    let t : c.in_ok-to_vec.field-0.items ≡ c.args.name.now.text.now = search rules in
    messages_added c.push_message.result (before_of c.args.self.now) (before_of c.push_message.new.self) _ _ c.push_message.ensures.types c.push_message.ensures.messages
    (ap (λ m. m ∷ []) (same_message _ _ _ _ t c.in_ok-types.ensures.stands))

pub returns-in_err-check_message_name-clause-memory : goal.returns-in_err-check_message_name-clause-memory
returns-in_err-check_message_name-clause-memory c =
    err_after c.from_residual.result c.in_err-check_message_name.field-0.0 _ c.from_residual.ensures.1 c.in_err-check_message_name.ensures.memory

pub returns-in_err-types-clause-memory : goal.returns-in_err-types-clause-memory
returns-in_err-types-clause-memory c = call_after c.from_residual-in_err-types.result _ c.in_ok-check_message_name.ensures.sound

pub returns-in_err-to_vec-clause-memory : goal.returns-in_err-to_vec-clause-memory
returns-in_err-to_vec-clause-memory c = call_after c.from_residual-in_err-to_vec.result _ c.in_ok-check_message_name.ensures.sound

pub returns-clause-memory : goal.returns-clause-memory
returns-clause-memory c = call_after c.push_message.result _ c.in_ok-check_message_name.ensures.sound

pub push_message-requires-clause-word : goal.push_message-requires-clause-word
push_message-requires-clause-word c =
    let t : c.in_ok-to_vec.field-0.items ≡ c.args.name.now.text.now = search rules in
    ap is_name t ∙ c.args.name.now.named
