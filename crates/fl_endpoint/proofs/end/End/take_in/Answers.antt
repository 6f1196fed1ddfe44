use Rattle.std.proofs.Common.{◌≡◌, ℕ, true, Option, Some, Ok, Err, refl, sym, ap, subst, ◌∙◌}
use Rattle.std.specs.Prelude.{IsSome}
use Rattle.fl_wire.specs.Words.{interface_words_fit}
use Rattle.fl_machine.specs.Reassembling.{Takes, ChangesPlace}
use Rattle.fl_machine.specs.declared.reassembly.Taken.{Taken}
use Rattle.fl_machine.specs.declared.reassembly.TakeFault.{TakeFault}
use Rattle.fl_endpoint.specs.View.{TheEnd, interface_in, with_failed}
use Rattle.fl_wire.specs.declared.fault.WireFault.{WireFault}
use Rattle.fl_endpoint.specs.declared.fault.EndFault.TheVariants.{Wire}
use Rattle.fl_endpoint.specs.Lent.{taking, TakesInAt}
use Rattle.fl_endpoint.specs.Inside.{end_of}
use Rattle.fl_endpoint.proofs.Sounds.{sound_failed}
use Rattle.fl_endpoint.proofs.Lendings.{place_below, refused_at, part_at, memory_at, whole_refused, whole_fits, below_after, whole_handled}
use Rattle.fl_endpoint.proofs.end.End.take_in.Goals as goal

pub take-requires : goal.take-requires
take-requires c = record { there = place_below c.args.self.now c.args.calls.now c.args.place c.requires.place }

pub invariant_of-self : goal.invariant_of-self
invariant_of-self c =
    let e = c.self.inside in
    let bound : (end_of e).circuit ≡ Some c.args.circuit.0 = ap (λ (s : TheEnd). s.circuit) c.self.view_is ∙ c.requires.bound in
    let some : IsSome (end_of e).circuit = subst (λ (o : Option ℕ). IsSome o) (sym bound) refl in
    record { outgoing = c.self.invariant.outgoing; sound = sound_failed (end_of e) some c.self.invariant.sound }

pub returns-in-Err-Wire : goal.returns-in-Err-Wire
returns-in-Err-Wire c =
    let takes = subst (λ (x : TakeFault). ChangesPlace c.args.calls.now c.args.place (λ a b. Takes a c.args.frag.now (Err x) b) c.take.new.self) c.in-Err-Wire.field-0-is c.in-Err-Wire.ensures.takes in
    let failed : with_failed (end_of c.self.inside) ≡ with_failed c.args.self.now = ap (λ (s : TheEnd). with_failed s) c.self.view_is in
    record {
      takes_in = subst (λ (x : WireFault). TakesInAt (taking c.args.self.now c.args.frag.now (Err (Wire x)) (with_failed (end_of c.self.inside))) c.args.calls.now c.args.place c.take.new.self) (sym c.in-Err-Wire.fault-is)
          (refused_at c.args.self.now c.args.calls.now c.args.place c.requires.place c.args.frag.now c.requires.bare c.take.new.self c.in-Err-Wire.fault (with_failed (end_of c.self.inside)) failed takes);
    }

pub returns-in-Err-Memory : goal.returns-in-Err-Memory
returns-in-Err-Memory c =
    let takes = subst (λ (x : TakeFault). ChangesPlace c.args.calls.now c.args.place (λ a b. Takes a c.args.frag.now (Err x) b) c.take.new.self) c.in-Err-Memory.field-0-is c.in-Err-Memory.ensures.takes in
    let words = subst (λ (s : TheEnd). interface_words_fit (interface_in s) ≡ true) c.self.view_is c.self.invariant.sound.words in
    record { takes_in = memory_at c.args.self.now c.args.calls.now c.args.place c.requires.place c.args.frag.now c.requires.bare c.take.new.self c.law_one_reading.ensures.reading words takes }

pub returns-in-Ok-Part : goal.returns-in-Ok-Part
returns-in-Ok-Part c =
    let takes = subst (λ (x : Taken). ChangesPlace c.args.calls.now c.args.place (λ a b. Takes a c.args.frag.now (Ok x) b) c.take.new.self) c.in-Ok-Part.field-0-is c.in-Ok-Part.ensures.takes in
    record { takes_in = part_at c.args.self.now c.args.calls.now c.args.place c.requires.place c.args.frag.now c.requires.bare c.take.new.self takes }

pub handle-requires : goal.handle-requires
handle-requires c =
    let takes = subst (λ (x : Taken). ChangesPlace c.args.calls.now c.args.place (λ a b. Takes a c.args.frag.now (Ok x) b) c.take.new.self) c.in-Ok-Whole.field-0-is c.in-Ok-Whole.ensures.takes in
    record { bound = c.requires.bound; takes = c.requires.takes; fits = whole_fits c.args.self.now c.args.calls.now c.args.place c.requires.place c.args.frag.now c.requires.bare c.take.new.self c.in-Ok-Whole.call takes }

pub returns-in-Err : goal.returns-in-Err
returns-in-Err c =
    let takes = subst (λ (x : Taken). ChangesPlace c.args.calls.now c.args.place (λ a b. Takes a c.args.frag.now (Ok x) b) c.take.new.self) c.in-Ok-Whole.field-0-is c.in-Ok-Whole.ensures.takes in
    let words = subst (λ (s : TheEnd). interface_words_fit (interface_in s) ≡ true) c.self.view_is c.self.invariant.sound.words in
    record { takes_in = whole_refused c.args.self.now c.args.calls.now c.args.place c.requires.place c.args.frag.now c.requires.bare c.take.new.self c.law_one_reading.ensures.reading words c.in-Ok-Whole.call takes c.in-Err.refused c.handle.new.self c.in-Err.ensures.handles }

pub finish-requires : goal.finish-requires
finish-requires c =
    let takes = subst (λ (x : Taken). ChangesPlace c.args.calls.now c.args.place (λ a b. Takes a c.args.frag.now (Ok x) b) c.take.new.self) c.in-Ok-Whole.field-0-is c.in-Ok-Whole.ensures.takes in
    record { there = below_after c.args.self.now c.args.calls.now c.args.place c.requires.place c.args.frag.now c.requires.bare c.take.new.self c.in-Ok-Whole.call takes }

pub returns-in-Ok : goal.returns-in-Ok
returns-in-Ok c =
    let takes = subst (λ (x : Taken). ChangesPlace c.args.calls.now c.args.place (λ a b. Takes a c.args.frag.now (Ok x) b) c.take.new.self) c.in-Ok-Whole.field-0-is c.in-Ok-Whole.ensures.takes in
    let words = subst (λ (s : TheEnd). interface_words_fit (interface_in s) ≡ true) c.self.view_is c.self.invariant.sound.words in
    record { takes_in = whole_handled c.args.self.now c.args.calls.now c.args.place c.requires.place c.args.frag.now c.requires.bare c.take.new.self c.in-Ok-Whole.call takes c.law_one_reading.ensures.reading words c.in-Ok.answer c.handle.new.self c.finish.new.self c.in-Ok.ensures.handles c.finish.ensures.finished }
