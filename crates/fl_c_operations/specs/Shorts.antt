-- Calls of one fragment, and among them those of messages of few numbers: at most seven arguments, each a scalar or an enum.
use Rattle.std.specs.Prelude.{◌≡◌, ℕ, true, false, List, [], ◌∷◌, slice_get}
use Rattle.fl_base.specs.declared.fragment.Frag.{Frag}
use Rattle.fl_value_data.specs.Value.{TheCall}
use Rattle.fl_value_data.specs.Fits.{fits_of}
use Rattle.fl_value_data.specs.Taken.{HasTape}
use Rattle.fl_wire.specs.Payload.{frags_on}
use Rattle.fl_compile.specs.Programs.{TheProgram}
use Rattle.fl_codec.specs.NumberPlaces.{has_few_numbers}
use Rattle.fl_c_operations.specs.Calls.{AreCall}

-- the call's message has at most seven arguments, each a scalar or an enum
abbrev pub IsOfFew : TheProgram → TheCall → Type 0
IsOfFew x c = has_few_numbers (slice_get x.interface.messages c.msg) ≡ true

-- this is the call's only fragment on a circuit
abbrev pub IsOnlyFrag : TheProgram → ℕ → TheCall → Frag → Type 0
IsOnlyFrag x circuit c f = frags_on circuit x.plan x.interface c ≡ f ∷ []

-- a fitting call of the message has this tape, and this is its only fragment
abbrev pub IsFragOfTape : TheProgram → ℕ → ℕ → List ℕ → Frag → Type 0
IsFragOfTape x circuit msg tape f = (c : TheCall) × HasTape x.plan x.interface msg tape c × IsOnlyFrag x circuit c f

-- these numbers are a fitting call's, and this is its only fragment
abbrev pub IsFragOfNumbers : TheProgram → ℕ → List ℕ → Frag → Type 0
IsFragOfNumbers x circuit numbers f = (c : TheCall) × AreCall x numbers c × IsOnlyFrag x circuit c f

-- these numbers are those of no call of a message of few numbers
abbrev pub AreNoShorts : TheProgram → List ℕ → Type 0
AreNoShorts x numbers = (c : TheCall) → AreCall x numbers c → has_few_numbers (slice_get x.interface.messages c.msg) ≡ false

-- this is the fragment, off circuits, of no fitting call of a message of few numbers
abbrev pub IsNoShorts : TheProgram → Frag → Type 0
IsNoShorts x f = (c : TheCall) → fits_of x.interface c ≡ true → IsOfFew x c → IsOnlyFrag x 0 c f → ⊥
