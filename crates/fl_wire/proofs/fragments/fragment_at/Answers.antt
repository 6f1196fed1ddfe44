use Rattle.std.proofs.Common.{◌∙◌, ap, List, ℕ, Some}
use Rattle.fl_interface.specs.Interface.{interface_of}
use Rattle.fl_value_data.specs.Value.{call_of}
use Rattle.fl_layout.specs.Places.{count_for}
use Rattle.fl_wire.specs.Payload.{frag_on}
use Rattle.fl_wire.proofs.Bytes.{frag_of_payload, no_frag_past}
use Rattle.fl_wire.proofs.fragments.fragment_at.Goals as goal

pub returns-then-k-fragment_count : goal.returns-then-k-fragment_count
returns-then-k-fragment_count c =
    let i = interface_of c.args.interface.now in
    let call = call_of c.args.call.now in
    let long = c.fragment_count.ensures.count ∙ ap count_for (c.len.ensures ∙ c.in_ok-bytes.bytes.ok.0) in
    record {
      frag = ap Some (c.fragment.ensures.frag ∙ ap (λ (bs : List ℕ). frag_on 0 call.msg bs c.args.k) c.deref.ensures.value)
          ∙ frag_of_payload c.args.plan i call c.in_ok-bytes.bytes.items c.fragment_count.result c.args.k c.in_ok-bytes.ensures.payload long c.if-k-fragment_count.true;
    }

pub returns : goal.returns
returns c =
    let i = interface_of c.args.interface.now in
    let call = call_of c.args.call.now in
    let long = c.fragment_count.ensures.count ∙ ap count_for (c.len.ensures ∙ c.in_ok-bytes.bytes.ok.0) in
    record { frag = no_frag_past c.args.plan i call c.in_ok-bytes.bytes.items c.fragment_count.result c.args.k c.in_ok-bytes.ensures.payload long c.if-k-fragment_count.false }
