use Rattle.std.proofs.Common.{◌≡◌, ◌∙◌, ◌+◌, ◌++◌, sym, ap, append_assoc, arith, ℕ, List, map, take}
use lib.Seq.{take_all}
use Rattle.std.specs.List.{flat_map}
use Rattle.fl_value_data.specs.Value.{TheCall, call_of}
use Rattle.fl_model.specs.Events.{handle}
use Rattle.fl_script_lines.specs.Answers.{answer_text, line}
use Rattle.fl_script_lines.specs.Told.{names_of}
use Rattle.fl_cores_file.proofs.Lists.{one_text_more}
use Rattle.fl_cores_file.proofs.printing.put_calls.Goals as goal

pub loop-call-preserved : goal.loop-call-preserved
loop-call-preserved c =
    let text : TheCall → List ℕ = λ call. line (answer_text (names_of c.args.names.now) (handle c.args.end call)) in
    let so_far : List ℕ = flat_map text (map call_of (take c.loop-call.call-index c.args.calls.now)) in
    let last : List ℕ = text (call_of c.call-item.result) in (
      c.put_line.ensures.head,
      c.in_ok-put_line.ensures.ok
          ∙ (ap (λ (t : List ℕ). t ++ last) c.loop-call.invariant.1
          ∙ (append_assoc c.args.out.now.items so_far last
          ∙ ap (λ (t : List ℕ). c.args.out.now.items ++ t)
          (sym (one_text_more call_of text c.args.calls.now c.loop-call.call-index (c.loop-call.call-index + 1) c.call-item.result (omega arith) c.loop-call-test.true c.call-item.is)))),
    )

pub returns : goal.returns
returns c =
    let text : TheCall → List ℕ = λ call. line (answer_text (names_of c.args.names.now) (handle c.args.end call)) in
    let all : take c.loop-call.call-index c.args.calls.now ≡ c.args.calls.now = take_all c.loop-call.call-index c.args.calls.now c.loop-call-test.false in
    record { ok = c.loop-call.invariant.1 ∙ ap (λ calls. c.args.out.now.items ++ flat_map text (map call_of calls)) all }
