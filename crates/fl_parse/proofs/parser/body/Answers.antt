use Rattle.fl_parse.proofs.Heads.{has_head, on_memory}
use Rattle.fl_parse.proofs.parser.body.Goals as goal

pub returns-in_err-all-clause-memory : goal.returns-in_err-all-clause-memory
returns-in_err-all-clause-memory c =
    on_memory c.from_residual-in_err-all.result
    (has_head _ _ _ _ _ _ _ c.in_ok-rest.ensures.reads c.in_ok-interface_name.ensures.reads c.description.ensures.reads c.in_ok-rest-2.ensures.reads)
