use Rattle.std.proofs.Common.{◌≡◌, rules}
use Rattle.fl_parse.specs.Tree.{name_of}
use Rattle.fl_check.specs.Known.{call_name, response_name}
use Rattle.fl_check.proofs.Names.{rpc_named}
use Rattle.fl_check.proofs.declared.Declared.name_rpc.Goals as goal

pub returns-clause-words : goal.returns-clause-words
returns-clause-words c =
    let call : c.in_ok-call.call.items ≡ call_name (name_of c.args.name.now) = search rules in
    let response : c.in_ok-response.response.items ≡ response_name (name_of c.args.name.now) = search rules in
    rpc_named (name_of c.args.name.now) c.in_ok-call.call.items c.in_ok-response.response.items c.args.name.now.named c.in_ok-check_rpc_name.ensures.short call response
