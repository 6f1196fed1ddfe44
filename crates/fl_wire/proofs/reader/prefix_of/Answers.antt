use Rattle.std.proofs.Common.{◌∙◌, sym}
use Rattle.std.proofs.lemmas.List.{take_rest}
use Rattle.fl_interface.specs.Interface.{interface_of}
use Rattle.fl_wire.proofs.Exits.{none_other, group_made, get_after}
use Rattle.fl_wire.proofs.reader.prefix_of.Goals as goal

pub returns-clause-group : goal.returns-clause-group
returns-clause-group c =
    let frags = c.args.frags.now in
    let starts = sym c.start_fault.ensures.fault ∙ none_other c.start_fault.result c.in_default.not-Some in
    group_made (interface_of c.args.interface.now) c.msg-msg.result.0 c.following-others.result.0 frags _ _ (take_rest frags 1) c.requires.some starts c.msg-msg.ensures c.is_line.ensures.line
    c.following-others.ensures.follow c.following-others.ensures.lines

pub returns-clause-next : goal.returns-clause-next
returns-clause-next c = λ f is.
    let frags = c.args.frags.now in
    c.following-others.ensures.next f (sym (get_after frags _ c.following-others.result.0 (take_rest frags 1)) ∙ is)
