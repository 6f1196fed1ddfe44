use Rattle.std.proofs.Common.{sym, subst}
use Rattle.fl_base.specs.Control.{bare}
use Rattle.fl_compile.specs.Programs.{program_of}
use Rattle.fl_codec.specs.Codecs.{numbers_of}
use Rattle.fl_endpoint.specs.View.{TheEnd}
use Rattle.fl_c_operations.specs.Codecs.{AreCodecs}
use Rattle.fl_c_operations.specs.Transmissions.{IsShortAt, IsNoShortAt}
use Rattle.fl_c_operations.proofs.Transmissions.{taken_transmitting, no_short_transmitting, ruled}
use Rattle.fl_c_operations.proofs.transmitting.TransmittingEnd.short_call.Goals as goal

pub returns-in_default : goal.returns-in_default
returns-in_default c =
    let h = c.self.inside in
    let f = bare c.args.frag.now in
    let x = program_of h.end.program in
    let coded = subst (AreCodecs x) (sym c.as_slice.ensures.value) c.self.invariant.coded in
    let none : IsNoShortAt h.end f = λ call fits few only rule. c.in_default.ensures.none x coded call fits few only in
    record { short = tt; none = subst (λ (s : TheEnd). IsNoShortAt s f) c.self.view_is (no_short_transmitting h.in_transmission h.end f none) }

-- there is a reply to it by rule
pub returns-in-Some-rule_for : goal.returns-in-Some-rule_for
returns-in-Some-rule_for c =
    let h = c.self.inside in
    let f = bare c.args.frag.now in
    let x = program_of h.end.program in
    let coded = subst (AreCodecs x) (sym c.as_slice.ensures.value) c.self.invariant.coded in
    let call = c.in-Some.call in
    let none = ruled h.end c.args.frag.now call.msg.0 _ (numbers_of call.numbers) coded.within (c.in-Some.ensures.few x coded) (c.in-Some.ensures.short x coded) c.in-Some-rule_for.ensures.rule in
    record { short = tt; none = subst (λ (s : TheEnd). IsNoShortAt s f) c.self.view_is (no_short_transmitting h.in_transmission h.end f none) }

pub returns-in-None : goal.returns-in-None
returns-in-None c =
    let h = c.self.inside in
    let f = bare c.args.frag.now in
    let x = program_of h.end.program in
    let coded = subst (AreCodecs x) (sym c.as_slice.ensures.value) c.self.invariant.coded in
    let call = c.in-Some.call in
    let tape = numbers_of call.numbers in
    let at : IsShortAt h.end call.msg.0 tape f = record { short = c.in-Some.ensures.short x coded; rule = sym c.in-None.ensures.rule; words = c.law_sound.ensures.sound.words } in
    record { short = subst (λ (s : TheEnd). IsShortAt s call.msg.0 tape f) c.self.view_is (taken_transmitting h.in_transmission h.end call.msg.0 tape f at); none = tt }
