use Rattle.std.proofs.Common.{◌≡◌, ◌<◌, ◌≤◌, ℕ, zero, suc, true, ⊎_elim, List, [], ◌∷◌, length, refl, ◌∙◌, arith}
use Rattle.std.specs.Prelude.{slice_get}
use Rattle.std.proofs.lemmas.List.{length-map}
use Rattle.std.proofs.lemmas.Bool.{cases_lt, false≢true}
use Rattle.fl_interface.specs.Interface.{TheMessage, message_of, interface_of}
use Rattle.fl_value_data.specs.Value.{Datum}
use Rattle.fl_value_data.specs.Fits.{fit_message}
use Rattle.fl_layout.specs.Leaves.{leaves}
use Rattle.fl_layout.specs.Places.{size, count_for}
use Rattle.fl_endpoint.proofs.incoming.most_fragments.Goals as goal

-- a call that fits is one of a message
known : (ms : List TheMessage) (n : ℕ) (ds : List Datum) → fit_message (slice_get ms n) ds ≡ true → n < length ms
known [] n ds h = absurd (false≢true h)
known (m ∷ ms) zero ds h = omega arith
known (m ∷ ms) (suc n) ds h = omega (arith, known ms n ds h)

-- a shorter payload has no more fragments
fewer : (few many fragments : ℕ) → few ≤ many → fragments ≡ count_for many → count_for few ≤ fragments
fewer few many fragments less is = omega (arith, less, is)

pub loop-msg-preserved : goal.loop-msg-preserved
loop-msg-preserved c = λ k d small of.
    ⊎_elim
    (λ (before : k < c.loop-msg.msg). let less = c.loop-msg.invariant k d before of in omega (arith, less, c.max-most.ensures))
    (λ (here : c.loop-msg.msg ≤ k).
    let same : k ≡ c.loop-msg.msg = omega (arith, here, small) in
    let less = c.greatest.ensures.greatest.bounds d (record { fits = of.fits; names = of.names ∙ same }) in
    omega (arith, less, c.max-most.ensures))
    (cases_lt k c.loop-msg.msg)

pub returns : goal.returns
returns c = record {
  enough = λ d fits.
      let plan = c.args.plans.now.plan in
      let i = interface_of c.args.plans.now.interface in
      let many = length-map c.args.plans.now.interface.messages.items message_of in
      let less : size (leaves plan i d) ≤ c.loop-msg.most
      = c.loop-msg.invariant d.msg d (omega (arith, known i.messages d.msg d.args fits, many, c.loop-msg-test.false)) (record { fits = fits; names = refl }) in
      fewer (size (leaves plan i d)) c.loop-msg.most c.fragment_count.result less c.fragment_count.ensures.count;
}
