-- Reports of running cores, and when one is honest.
use Rattle.std.specs.Prelude.{ℕ, ◌≡◌, List, [], slice_get, Option, None}
use Rattle.fl_base.specs.declared.identity.EndId.{EndId}
use Rattle.fl_base.specs.declared.identity.Side.{Side}
use Rattle.fl_base.specs.declared.identity.Side.TheVariants.{Client, Server}
use Rattle.fl_base.specs.Ends.{peer}
use Rattle.fl_base.specs.Prefix.{IsPrefix}
use Rattle.fl_base.specs.Given.{given}
use Rattle.fl_value_data.specs.Value.{TheCall}
use Rattle.fl_cores_file.specs.Jobs.{Job, handed_in}

-- calls at a binding's two ends, in order
pub record BothEnds : Type 0 where
  pub client : List TheCall
  pub server : List TheCall

-- how a run came to its end: all cores had finished, or one had not when its turns were used up
pub data Ending : Type 0 where
  complete : Ending
  turns_out : Ending

pub record TheReport : Type 0 where
  -- by binding: the calls that its ends made, and those that they handled
  pub made : List BothEnds
  pub handled : List BothEnds
  -- by binding: the fault for which its opening was refused
  pub refused : List (Option ℕ)
  -- by core: how many turns were counted
  pub turns : List ℕ
  pub ending : Ending

-- the calls at one end of a binding
abbrev pub at_side : Side → BothEnds → List TheCall
at_side Client b = b.client
at_side Server b = b.server

-- the calls at an end: none where its binding isn't there
abbrev pub at_end : List BothEnds → EndId → List TheCall
at_end bindings e = given (slice_get bindings e.binding) [] (at_side e.side)

-- the fault for which a binding's opening was refused
abbrev pub refusal_of : TheReport → ℕ → Option ℕ
refusal_of r binding = given (slice_get r.refused binding) None λ fault. fault

-- what an end handled is a prefix of what the other made, and what an end made is a prefix of what was handed in for it
pub record Honest (jobs : List Job) (r : TheReport) : Type 0 where
  pub handled : (e : EndId) → IsPrefix (at_end r.handled e) (at_end r.made (peer e))
  pub made : (e : EndId) → IsPrefix (at_end r.made e) (handed_in jobs e)

-- all that was handed in was handled, but on bindings whose opening was refused
abbrev pub AllHandled : List Job → TheReport → Type 0
AllHandled jobs r = (e : EndId) → refusal_of r e.binding ≡ None → at_end r.handled e ≡ handed_in jobs (peer e)
