-- The limit on payloads, which the checker looks at message by message, before there is an interface. It looks at the greatest
-- payload under the first plan: so a message is too long exactly where one of its calls is.
use Rattle.std.specs.Prelude.{◌≡◌, ◌↔◌, ◌<◌, ℕ, true, slice_get, Some}
use Rattle.fl_interface.specs.Interface.{TheMessage, TheInterface}
use Rattle.fl_interface.specs.Payload.{greatest_payload}
use Rattle.fl_interface.specs.Limits.{is_too_long}
use Rattle.fl_interface.specs.Limits.{are_arguments_within}
use Rattle.fl_value_data.specs.declared.value.PlanNo.TheVariants.{One}
use Rattle.fl_value_data.specs.Value.{TheCall}
use Rattle.fl_layout.specs.Layouts.{payload_length, IsCallOf, IsGreatest}

-- a message of an interface, accepted or refused, whose arguments' types are such as may be declared
pub record HasTypes (i : TheInterface) (msg : ℕ) (m : TheMessage) : Type 0 where
  pub message : slice_get i.messages msg ≡ Some m
  pub types : are_arguments_within m.args ≡ true

-- a fitting call of the message whose payload passes 32,768 bytes under the first plan
pub record HasLongCall (i : TheInterface) (msg : ℕ) : Type 0 where
  pub call : TheCall
  pub fits : IsCallOf i msg call
  pub long : 32768 < payload_length One i call

-- the greatest payload that the checker looks at is that of the message's calls under the first plan
abbrev pub GreatestIsOfPlanOne : Type 0
GreatestIsOfPlanOne = (i : TheInterface) (msg : ℕ) (m : TheMessage) → HasTypes i msg m → IsGreatest (payload_length One i) i msg (greatest_payload m.args)

-- a message is too long exactly where one of its calls is
abbrev pub TooLongHasLongCall : Type 0
TooLongHasLongCall = (i : TheInterface) (msg : ℕ) (m : TheMessage) → HasTypes i msg m → is_too_long m ≡ true ↔ HasLongCall i msg
