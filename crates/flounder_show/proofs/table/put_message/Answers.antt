use Rattle.std.proofs.Common.{◌≡◌, ◌∙◌, ℕ, List, ◌++◌, refl, ap, append_assoc}
use Rattle.std.proofs.lemmas.Result.{on_ok_weaker}
use Rattle.fl_interface.specs.Interface.{TheInterface, TheMessage, interface_of, message_of}
use Rattle.fl_value_data.specs.declared.value.PlanNo.{PlanNo}
use Rattle.fl_layout.specs.Layouts.{payload_length, IsLeast, IsGreatest}
use Rattle.fl_layout.specs.Places.{count_for}
use Rattle.flounder_show.specs.declared.row.MessageSizes.{MessageSizes}
use Rattle.flounder_show.specs.Table.{message_line, TellsEach, TellsArgument, TellsMessage}
use Rattle.flounder_show.proofs.table.put_message.Goals as goal

message_told : (plan : PlanNo) (i : TheInterface) (msg : ℕ) (m : TheMessage) (f : MessageSizes) (old mid new : List ℕ)
    → IsLeast (payload_length plan i) i msg f.least → IsGreatest (payload_length plan i) i msg f.greatest
    → f.fragments ≡ count_for f.greatest
    → mid ≡ old ++ message_line msg m.name f
    → (rest : List ℕ) × TellsEach (TellsArgument plan i msg) 0 m.args rest × (new ≡ mid ++ rest)
    → (lines : List ℕ) × TellsMessage plan i msg m lines × (new ≡ old ++ lines)
message_told plan i msg m f old mid new l g n e (rest, h, w) =
    let line = message_line msg m.name f in (
      line ++ rest,
      (line, rest, record { figures = f; is_least = l; is_greatest = g; are_fragments = n; spelled = refl }, h, refl),
      w ∙ ap (λ z. z ++ rest) e ∙ append_assoc old line rest,
    )

pub returns : goal.returns
returns c =
    let f : MessageSizes = record { least = c.least-least.result; greatest = c.greatest-greatest.result; fragments = c.fragment_count-fragments.result } in
    let line = c.in_ok-put_figures.ensures.told ∙ ap (λ z. c.args.table.now.items ++ message_line c.args.msg.0 z f) c.deref.ensures.value in
    record {
      told =
          on_ok_weaker c.put_arguments.result
          (message_told c.args.plans.now.plan (interface_of c.args.plans.now.interface) c.args.msg.0 (message_of c.args.message.now) f _ _ _
          c.least-least.ensures.least c.greatest-greatest.ensures.greatest c.fragment_count-fragments.ensures.count line)
          c.put_arguments.ensures.told;
    }
