use Rattle.std.proofs.Common.{◌≡◌, ℕ, true, List, map, length, refl, ◌∙◌, ap}
use Rattle.std.specs.List.{range_with_len}
use Rattle.fl_layout.specs.Leaves.{leaves}
use Rattle.fl_layout.specs.Places.{count_for}
use Rattle.fl_value_data.specs.Tape.{tape_of}
use Rattle.fl_wire.specs.Payload.{payload_of, frag_on}
use Rattle.fl_stub.specs.declared.op.Column.TheVariants.{Send}
use Rattle.fl_stub.specs.Structure.{Block}
use Rattle.fl_stub.specs.Code.{TheCode}
use Rattle.fl_stub.specs.Frames.{block_of}
use Rattle.fl_stub.specs.Given.{bytes_given}
use Rattle.fl_stub.proofs.Giving.{turns_into_given}
use Rattle.fl_stub.proofs.Structures.{structure_is}
use Rattle.fl_compile.specs.Compiled.{message_block, message_code}
use Rattle.fl_compile.proofs.Payloads.{length_payload}
use Rattle.fl_compile.proofs.Lawful.{sends_calls, compiles_to_code}
use Rattle.fl_machine.specs.Sending.{frags_holding}
use Rattle.fl_machine.specs.Laws.{SendsFragments}
use Rattle.fl_machine.proofs.law.law_sends_fragments.Goals as goal

-- so many bytes fill the fragments of a call
frags_are : (circuit msg : ℕ) (bytes : List ℕ) → frags_holding true msg circuit bytes ≡ map (frag_on circuit msg bytes) (range_with_len 0 (count_for (length bytes)))
frags_are circuit msg bytes = refl

sends : SendsFragments
sends circuit plan i m c code has fits is =
    let bytes = payload_of plan i c in
    let block : block_of code.ops ≡ message_block Send plan m
    = ap (λ (k : TheCode). block_of k.ops) is ∙ structure_is Send (message_code Send plan m) (message_block Send plan m) (compiles_to_code Send plan i c.msg m has) in
    let given : bytes_given (block_of code.ops) (tape_of plan i c) ≡ bytes
    = ap (λ (b : Block). bytes_given b (tape_of plan i c)) block ∙ turns_into_given (message_block Send plan m) (tape_of plan i c) bytes (sends_calls plan i m c has fits) in
    ap (frags_holding true c.msg circuit) given ∙ frags_are circuit c.msg bytes
    ∙ ap (λ (n : ℕ). map (frag_on circuit c.msg bytes) (range_with_len 0 (count_for n))) (length_payload (leaves plan i c))

pub returns : goal.returns
returns c = record { sends = sends }
