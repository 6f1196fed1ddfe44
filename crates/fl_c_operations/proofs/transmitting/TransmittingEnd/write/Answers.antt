use Rattle.std.proofs.Common.{◌≡◌, ◌+◌, [], Ok, Err, refl, sym, ap, subst, ◌∙◌, arith, rules}
use Rattle.fl_base.specs.declared.fragment.Frag.{Frag}
use Rattle.fl_link.specs.Looks.{placed}
use Rattle.fl_ring.specs.SharedSides.{SharedPuts}
use Rattle.fl_endpoint.specs.declared.answer.WriteAnswer.TheVariants.{Written, Full}
use Rattle.fl_endpoint.specs.declared.fault.EndFault.TheVariants.{Failed, Spent}
use Rattle.fl_endpoint.specs.View.{TheEnd}
use Rattle.fl_endpoint.specs.Events.{Writes}
use Rattle.fl_c_operations.specs.Transmissions.{transmitting}
use Rattle.fl_c_operations.proofs.Transmissions.{none_is, some_is, transmits_is, transmits_none, coded_as, program_transmitting, wrote_transmitting}
use Rattle.fl_c_operations.proofs.transmitting.TransmittingEnd.write.Goals as goal

pub invariant_of-self : goal.invariant_of-self
invariant_of-self c = record {
  transmits = transmits_none c.self.inside.in_transmission c.write.new.self c.in_default.is;
  coded = coded_as c.self.inside.end c.write.new.self c.self.inside.codecs.items c.write.ensures.program c.self.invariant.coded;
}

pub returns-in_default : goal.returns-in_default
returns-in_default c =
    let h = c.self.inside in
    let same = none_is h.in_transmission h.end c.in_default.is ∙ c.self.view_is in
    let after = none_is h.in_transmission c.write.new.self c.in_default.is in
    record {
      writes = subst (λ (s : TheEnd). Writes SharedPuts s c.args.side.now c.write.result (transmitting h.in_transmission c.write.new.self) c.write.new.out) same
          (subst (λ (t : TheEnd). Writes SharedPuts h.end c.args.side.now c.write.result t c.write.new.out) after c.write.ensures.writes);
      program = program_transmitting h.in_transmission c.write.new.self ∙ c.write.ensures.program ∙ ap (λ (s : TheEnd). s.program) same;
    }

pub returns-then-is_failed : goal.returns-then-is_failed
returns-then-is_failed c =
    let h = c.self.inside in
    let same = some_is h.in_transmission c.in-Some.frag h.end c.in-Some.is ∙ c.self.view_is in
    let transmits = transmits_is h.in_transmission c.in-Some.frag h.end c.in-Some.is c.self.invariant.transmits in
    record {
      writes = subst (λ (s : TheEnd). Writes SharedPuts s c.args.side.now (Err Failed) s c.args.side.now) same ((transmits.bound, sym c.if-is_failed.ensures.failed), refl, refl);
      program = refl;
    }

pub try_put-requires : goal.try_put-requires
try_put-requires c = (transmits_is c.self.inside.in_transmission c.in-Some.frag c.self.inside.end c.in-Some.is c.self.invariant.transmits).own.data_is

pub returns-in-Err-Full : goal.returns-in-Err-Full
returns-in-Err-Full c =
    let h = c.self.inside in
    let same = some_is h.in_transmission c.in-Some.frag h.end c.in-Some.is ∙ c.self.view_is in
    let transmits = transmits_is h.in_transmission c.in-Some.frag h.end c.in-Some.is c.self.invariant.transmits in
    record {
      writes = subst (λ (s : TheEnd). Writes SharedPuts s c.args.side.now (Ok Full) s c.try_put.new.self) same
          ((transmits.bound, sym c.if-is_failed.ensures.failed), (λ e. absurd (cc)), search rules, refl);
      program = refl;
    }

pub returns-in-Err-Spent : goal.returns-in-Err-Spent
returns-in-Err-Spent c =
    let h = c.self.inside in
    let same = some_is h.in_transmission c.in-Some.frag h.end c.in-Some.is ∙ c.self.view_is in
    let transmits = transmits_is h.in_transmission c.in-Some.frag h.end c.in-Some.is c.self.invariant.transmits in
    record {
      writes = subst (λ (s : TheEnd). Writes SharedPuts s c.args.side.now (Err Spent) s c.try_put.new.self) same
          ((transmits.bound, sym c.if-is_failed.ensures.failed), (λ e. absurd (cc)), search rules, refl);
      program = refl;
    }

pub returns-in-Ok : goal.returns-in-Ok
returns-in-Ok c =
    let h = c.self.inside in
    let f = c.in-Some.frag in
    let same = some_is h.in_transmission f h.end c.in-Some.is ∙ c.self.view_is in
    let transmits = transmits_is h.in_transmission f h.end c.in-Some.is c.self.invariant.transmits in
    let put : SharedPuts c.args.side.now (placed f) c.try_put.new.self
    = subst (λ (x : Frag). SharedPuts c.args.side.now (placed x) c.try_put.new.self) transmits.own.bare_is (search rules) in
    let one : 1 + 0 ≡ 1 = omega arith in
    record {
      writes = subst (λ (s : TheEnd). Writes SharedPuts s c.args.side.now (Ok (Written 1 1)) h.end c.try_put.new.self) same
          ((transmits.bound, sym c.if-is_failed.ensures.failed), (f, [], refl, refl, one, put, wrote_transmitting f h.end transmits));
      program = ap (λ (s : TheEnd). s.program) same;
    }
