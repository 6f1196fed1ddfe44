use Rattle.std.proofs.Common.{◌≡◌, Some, sym, ap, ◌∙◌}
use Rattle.fl_value_data.specs.Value.{call_of}
use Rattle.fl_compile.specs.Programs.{program_of}
use Rattle.fl_endpoint.specs.View.{rule_at}
use Rattle.fl_endpoint.specs.Rules.{rules_of}
use Rattle.fl_endpoint.proofs.Sounds.{reply_fits}
use Rattle.fl_endpoint.proofs.incoming.reply_by_rule.Goals as goal

pub of_compact-requires : goal.of_compact-requires
of_compact-requires c =
    let p = program_of c.args.program.now in
    let rules = rules_of c.args.rules.now.replies.items in
    let d = call_of c.args.call.now in
    let reply = c.in-Some.reply.0 in
    let rule : rule_at rules d.msg ≡ Some reply = ap (rule_at rules) (sym c.msg.ensures.msg) ∙ sym c.in-Some.ensures.rule in
    record {
      sends = record {
        fits = c.requires.fits;
        fits_so = reply_fits p.interface rules d reply c.requires.rules rule c.requires.fits;
        types = (c.requires.rules.each d.msg reply rule).types;
      };
    }
