use Rattle.std.proofs.Common.{ℕ, sym, subst}
use Rattle.fl_compile.specs.Programs.{program_of}
use Rattle.fl_endpoint.specs.View.{TheEnd}
use Rattle.fl_c_operations.specs.Codecs.{AreCodecs}
use Rattle.fl_c_operations.specs.Shorts.{IsFragOfNumbers, AreNoShorts}
use Rattle.fl_c_operations.specs.Transmissions.{IsFragFrom}
use Rattle.fl_c_operations.proofs.Transmissions.{short_transmitting, no_numbers_transmitting}
use Rattle.fl_c_operations.proofs.transmitting.TransmittingEnd.short_frag.Goals as goal

pub returns-in_default : goal.returns-in_default
returns-in_default c =
    let h = c.self.inside in
    let numbers = c.args.numbers.now in
    let x = program_of h.end.program in
    let coded = subst (AreCodecs x) (sym c.as_slice-codecs.ensures.value) c.self.invariant.coded in
    record {
      short = tt;
      own = tt;
      none = subst (λ (s : TheEnd). AreNoShorts (program_of s.program) numbers) c.self.view_is
          (no_numbers_transmitting h.in_transmission h.end numbers (c.in_default.ensures.none x coded));
    }

pub returns : goal.returns
returns c =
    let h = c.self.inside in
    let numbers = c.args.numbers.now in
    let frag = c.in-Some.frag in
    let x = program_of h.end.program in
    let coded = subst (AreCodecs x) (sym c.as_slice-codecs.ensures.value) c.self.invariant.coded in
    let short : IsFragFrom h.end numbers frag = subst (λ (n : ℕ). IsFragOfNumbers x n numbers frag) c.circuit_of.ensures.circuit (c.in-Some.ensures.short x coded) in
    record {
      short = subst (λ (s : TheEnd). IsFragFrom s numbers frag) c.self.view_is (short_transmitting h.in_transmission h.end numbers frag short);
      own = c.in-Some.ensures.own x coded;
      none = tt;
    }
