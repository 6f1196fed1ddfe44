-- Two ends of one binding: what one handled is what the other sent. Law.
use Rattle.std.specs.Prelude.{◌≡◌, ◌<◌, ◌^◌, List, [], map}
use Rattle.fl_base.specs.declared.fragment.Frag.{Frag}
use Rattle.fl_base.specs.Control.{bare}
use Rattle.fl_base.specs.Prefix.{IsPrefix}
use Rattle.fl_compile.specs.Programs.{program_of}
use Rattle.fl_hop.specs.OfCircuit.{as_carried}
use Rattle.fl_endpoint.specs.View.{TheEnd, number_or_0, nothing_to_send}
use Rattle.fl_endpoint.specs.Accounts.{Sound}
use Rattle.fl_core_run_laws.specs.Carried.{Traffic, EndGoes}

-- since the end was made so much happened there, and it came to this
pub record SinceMade (d : Traffic) (x : TheEnd) : Type 0 where
  pub began : TheEnd
  pub sound : Sound began
  pub outgoing : began.outgoing ≡ nothing_to_send
  pub parts : began.parts ≡ []
  pub goes : EndGoes d began x
  pub number : number_or_0 x.circuit < 2 ^ 16

-- fragments that were taken are the first of those that were put, as a circuit carries them
abbrev pub Arrived : List Frag → List Frag → Type 0
Arrived took put = IsPrefix took (map as_carried put)

-- of two ends with one program: where what one took is the first of what the other put, what it handled is the first of what that sent
abbrev pub EndsAgree : Type 0
EndsAgree = (sender taker : Traffic) (x y : TheEnd) → SinceMade sender x → SinceMade taker y → program_of y.program ≡ program_of x.program
    → Arrived taker.took sender.put → IsPrefix taker.handled sender.sent

-- off links fragments are on circuit 0, and carried with epochs and counts set aside
abbrev pub CarriedOffLinks : Type 0
CarriedOffLinks = (sender : Traffic) (x : TheEnd) → SinceMade sender x → number_or_0 x.circuit ≡ 0 → map as_carried sender.put ≡ map bare sender.put
