-- A working file, on which no public promise rests by itself: ends by their fields.
use Rattle.std.specs.Prelude.{ℕ, [], Option}
use Rattle.std.specs.Option.{option_map}
use Rattle.fl_base.specs.declared.identity.Circuit.{Circuit}
use Rattle.fl_compile.specs.Programs.{TheProgram, program_of}
use Rattle.fl_endpoint.specs.View.{TheEnd, number_or_0}
use Rattle.fl_endpoint.specs.Accounts.{Sound}
use Rattle.fl_endpoint.specs.Rules.{rules_of}
use Rattle.fl_endpoint.specs.Stored.{outgoing_of, IsOutgoing}
use Rattle.fl_endpoint.specs.declared.end.End.TheInside.{Inside}

abbrev pub circuit_of : Option Circuit → Option ℕ
circuit_of circuit = option_map (λ (c : Circuit). c.0) circuit

abbrev pub program_in : Inside → TheProgram
program_in e = program_of e.program

-- by itself, with nothing of a call under way
abbrev pub end_of : Inside → TheEnd
end_of e = record {
  program = e.program;
  circuit = circuit_of e.circuit;
  rules = rules_of e.rules.replies.items;
  outgoing = outgoing_of (program_in e) (number_or_0 (circuit_of e.circuit)) e.outgoing;
  parts = [];
  failed = e.failed;
}

-- what is to be sent is in order
pub record IsEnd (e : Inside) : Type 0 where
  pub outgoing : IsOutgoing (program_in e) e.outgoing
  pub sound : Sound (end_of e)
