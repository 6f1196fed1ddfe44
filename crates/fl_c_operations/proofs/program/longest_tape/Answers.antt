use Rattle.std.proofs.Common.{◌≡◌, ◌<◌, ◌≤◌, ⊎_elim, refl, ◌∙◌, arith}
use Rattle.std.proofs.lemmas.List.{length-map}
use Rattle.std.proofs.lemmas.Bool.{cases_lt}
use Rattle.fl_interface.specs.Interface.{message_of, interface_of}
use Rattle.fl_c_operations.proofs.Messages.{known}
use Rattle.fl_c_operations.proofs.program.longest_tape.Goals as goal

pub loop-msg-preserved : goal.loop-msg-preserved
loop-msg-preserved c = λ k d small of.
    ⊎_elim
    (λ (before : k < c.loop-msg.msg). let less = c.loop-msg.invariant k d before of in omega (arith, less, c.max-most.ensures))
    (λ (here : c.loop-msg.msg ≤ k).
    let same : k ≡ c.loop-msg.msg = omega (arith, here, small) in
    let less = c.tape_capacity.ensures.greatest.bounds d (record { fits = of.fits; names = of.names ∙ same }) in
    omega (arith, less, c.max-most.ensures))
    (cases_lt k c.loop-msg.msg)

pub returns : goal.returns
returns c = record {
  enough = λ d fits.
      let i = interface_of c.args.plans.now.interface in
      let many = length-map c.args.plans.now.interface.messages.items message_of in
      c.loop-msg.invariant d.msg d (omega (arith, known i.messages d.msg d.args fits, many, c.loop-msg-test.false)) (record { fits = fits; names = refl });
}
