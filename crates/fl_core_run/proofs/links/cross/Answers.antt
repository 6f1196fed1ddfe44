use Rattle.std.proofs.Common.{◌≡◌, ◌∙◌, sym, ap, subst, false, Err}
use Rattle.fl_base.specs.Control.{is_ack_only}
use Rattle.fl_base.specs.declared.fragment.Frag.{Frag}
use Rattle.fl_core_run.specs.Run.{run_by}
use Rattle.fl_core_run.specs.LogEntries.{passing}
use Rattle.fl_core_run.proofs.Foreseen.{as_many, stands_elsewhere, put_on, passed_on}
use Rattle.fl_core_run.proofs.links.cross.Goals as goal

pub put-requires-clause-call : goal.put-requires-clause-call
put-requires-clause-call g c = subst (λ (f : Frag). is_ack_only f ≡ false) (sym c.with_circuit-sent.ensures.set) c.requires.call

pub returns-in-Err-Full : goal.returns-in-Err-Full
returns-in-Err-Full g c = record {
  passed = put_on g.S.CoreSides.ways (run_by g.S.CoreSides.states c.args.run.now) c.args.to _ c.args.frag.now _ _ c.put.result _
      c.with_circuit-sent.ensures.set (c.in-Err-Full.is ∙ ap Err c.in-Err-Full.field-0-is) c.put.ensures.puts;
}

pub returns-in-Err-Spent : goal.returns-in-Err-Spent
returns-in-Err-Spent g c = record {
  passed = put_on g.S.CoreSides.ways (run_by g.S.CoreSides.states c.args.run.now) c.args.to _ c.args.frag.now _ _ c.put.result _
      c.with_circuit-sent.ensures.set (c.in-Err-Spent.is ∙ ap Err c.in-Err-Spent.field-0-is) c.put.ensures.puts;
}

pub take-requires-clause-side : goal.take-requires-clause-side
take-requires-clause-side g c = as_many c.args.from c.args.to _ _ _ c.put.ensures.puts c.requires.from

pub take-requires-clause-seen : goal.take-requires-clause-seen
take-requires-clause-seen g c =
    stands_elsewhere g.S.CoreSides.ways.front c.args.from c.args.to c.args.frag.now _ _ _ c.requires.two c.put.ensures.puts c.requires.seen

pub returns-in-Ok : goal.returns-in-Ok
returns-in-Ok g c = record {
  passed = passed_on g.S.CoreSides.ways (run_by g.S.CoreSides.states c.args.run.now) (passing c.args.from c.args.to c.args.frag.now c.args.circuit) _ _
      (put_on g.S.CoreSides.ways (run_by g.S.CoreSides.states c.args.run.now) c.args.to _ c.args.frag.now _ _ c.put.result _ c.with_circuit-sent.ensures.set c.in-Ok.is c.put.ensures.puts)
      c.take.ensures.takes;
}
