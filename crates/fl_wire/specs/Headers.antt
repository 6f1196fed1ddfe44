-- The fragments of one call at most, by their control words.
use Rattle.std.specs.Prelude.{◌≡◌, ℕ, ◌^◌, ◌<◌, ◌≤◌, true, length, take, List, All, slice_get, Some, None}
use Rattle.fl_base.specs.declared.fragment.Frag.{Frag}
use Rattle.fl_base.specs.Control.{message_of}
use Rattle.fl_interface.specs.Interface.{TheInterface}
use Rattle.fl_value_data.specs.Value.{TheCall}
use Rattle.fl_value_data.specs.Fits.{fits_of}
use Rattle.fl_value_data.specs.declared.value.PlanNo.{PlanNo}
use Rattle.fl_wire.specs.Reading.{Means}
use Rattle.fl_wire.specs.Wrong.{start_fault, follow_fault}

-- a fragment's payload as it is in memory: seven words of 64 bits
pub record Line (f : Frag) : Type 0 where
  pub seven : length f.words ≡ 7
  pub small : All (λ w. w < 2 ^ 64) f.words

-- the first may begin a call of that message, and the others follow in it
pub record Group (i : TheInterface) (msg : ℕ) (frags : List Frag) : Type 0 where
  pub some : 0 < length frags
  pub starts : (f : Frag) → slice_get frags 0 ≡ Some f → start_fault i f ≡ None
  pub names : (f : Frag) → slice_get frags 0 ≡ Some f → message_of f.control ≡ msg
  pub follow : (k : ℕ) (f : Frag) → 0 < k → slice_get frags k ≡ Some f → follow_fault msg f ≡ None
  pub lines : (k : ℕ) (f : Frag) → slice_get frags k ≡ Some f → Line f

-- so many first fragments mean a fitting call
pub record StandsFirst (plan : PlanNo) (i : TheInterface) (frags : List Frag) (call : TheCall) (count : ℕ) : Type 0 where
  pub fits : fits_of i call ≡ true
  pub some : 0 < count
  pub within : count ≤ length frags
  pub means : Means plan i (take count frags) call 0
