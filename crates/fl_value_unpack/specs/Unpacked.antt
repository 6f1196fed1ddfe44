-- Which call a packed tape is of.
use Rattle.std.specs.Prelude.{◌≡◌, ℕ, true, List, ◌++◌}
use Rattle.fl_interface.specs.Interface.{TheInterface}
use Rattle.fl_value_data.specs.declared.value.PlanNo.{PlanNo}
use Rattle.fl_value_data.specs.Value.{TheCall}
use Rattle.fl_value_data.specs.Fits.{fits_of}
use Rattle.fl_value_tape.specs.Packed.{packed_of}

-- a fitting call of a message, whose packed tape stands first on this one; anything may follow
pub record HasPacked (plan : PlanNo) (i : TheInterface) (msg : ℕ) (tape : List ℕ) (c : TheCall) : Type 0 where
  pub message : c.msg ≡ msg
  pub fits : fits_of i c ≡ true
  pub after : List ℕ
  pub prefix : tape ≡ packed_of plan i c ++ after
