use Rattle.std.proofs.Common.{ℕ, subst}
use Rattle.fl_compile.specs.declared.program.Program.{Program}
use Rattle.fl_compile.specs.Programs.{program_of}
use Rattle.fl_endpoint.specs.View.{TheEnd}
use Rattle.fl_c_operations.specs.Shorts.{IsFragOfNumbers}
use Rattle.fl_c_operations.specs.Transmissions.{IsFragFrom}
use Rattle.fl_c_operations.proofs.Transmissions.{short_transmitting}
use Rattle.fl_c_operations.proofs.transmitting.TransmittingEnd.taped_frag.Goals as goal

pub returns : goal.returns
returns c =
    let h = c.self.inside in
    let numbers = c.args.numbers.now in
    let frag = c.in-Some.frag in
    let of = subst (λ (p : Program). IsFragOfNumbers (program_of p) c.circuit_of.result.0 numbers frag) c.program.ensures.program c.in-Some.ensures.short in
    let short : IsFragFrom h.end numbers frag = subst (λ (n : ℕ). IsFragOfNumbers (program_of h.end.program) n numbers frag) c.circuit_of.ensures.circuit of in
    record {
      short = subst (λ (s : TheEnd). IsFragFrom s numbers frag) c.self.view_is (short_transmitting h.in_transmission h.end numbers frag short);
      own = c.in-Some.ensures.own;
    }
