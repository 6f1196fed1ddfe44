use Rattle.std.proofs.Common.{◌≡◌, ◌<◌, ◌≤◌, ℕ, zero, suc, true, ⊎_elim, List, [], ◌∷◌, length, refl, ◌∙◌, subst, arith}
use Rattle.std.specs.Prelude.{slice_get}
use Rattle.std.proofs.lemmas.List.{length-map}
use Rattle.std.proofs.lemmas.Bool.{cases_lt, and_parts, leb-true, false≢true}
use Rattle.fl_interface.specs.Interface.{TheMessage, message_of, interface_of}
use Rattle.fl_value_data.specs.Value.{Datum}
use Rattle.fl_value_data.specs.Fits.{fit_message}
use Rattle.test_texts.proofs.stub.recv_tests.capacity.Goals.{then-from-len, else-from-len}
use Rattle.test_texts.proofs.stub.recv_tests.capacity.Goals as goal

-- a call that fits is one of a message
known : (ms : List TheMessage) (n : ℕ) (ds : List Datum) → fit_message (slice_get ms n) ds ≡ true → n < length ms
known [] n ds h = absurd (false≢true h)
known (m ∷ ms) zero ds h = omega arith
known (m ∷ ms) (suc n) ds h = omega (arith, known ms n ds h)

pub loop-msg-preserved : goal.loop-msg-preserved
loop-msg-preserved c = λ k d small of.
    let i = interface_of c.args.plans.now.interface in
    let inside : d.msg < length c.args.plans.now.interface.messages.items
    = subst (λ (n : ℕ). d.msg < n) (length-map c.args.plans.now.interface.messages.items message_of) (known i.messages d.msg d.args of.fits) in
    let names : d.msg ≡ k = of.names in
    elim c.if-from-len.branch [
      | then-from-len w ↦ ⊎_elim
          (λ (before : k < c.loop-msg.msg). let less = c.loop-msg.invariant k d before of in omega (arith, less, w.most-is, w.max-most.ensures))
          (λ (here : c.loop-msg.msg ≤ k).
          let same : k ≡ c.loop-msg.msg = omega (arith, here, small) in
          let less = w.tape_capacity.ensures.greatest.bounds d (record { fits = of.fits; names = names ∙ same }) in
          omega (arith, less, w.most-is, w.max-most.ensures))
          (cases_lt k c.loop-msg.msg)
      | else-from-len w ↦ ⊎_elim
          (λ (before : k < c.loop-msg.msg). let less = c.loop-msg.invariant k d before of in omega (arith, less, w.most-is))
          (λ (here : c.loop-msg.msg ≤ k). absurd (omega (arith, here, small, inside, names, w.if-from-len.false, c.len.ensures, c.from.ensures)))
          (cases_lt k c.loop-msg.msg)
    ]

pub returns : goal.returns
returns c = record {
  enough = λ d fits.
      let i = interface_of c.args.plans.now.interface in
      let few = leb-true (length i.messages) 256 (and_parts _ _ c.args.plans.now.interface.within).0 in
      c.loop-msg.invariant d.msg d (omega (arith, known i.messages d.msg d.args fits, few, c.loop-msg-test.false)) (record { fits = fits; names = refl });
}
