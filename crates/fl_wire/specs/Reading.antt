-- What lists of fragments mean. The epoch and the count told, which change from one writing to the next,
-- are set aside.
use Rattle.std.specs.Prelude.{◌≡◌, ◌^◌, nat_lt, if◌then◌else◌, Option, Some, None, ℕ, ◌<◌, ◌≤◌, true, List, [], ◌++◌, map, take, length, ◌⊎◌, All}
use Rattle.std.specs.List.{flat_map}
use Rattle.fl_base.specs.declared.fragment.Frag.{Frag}
use Rattle.fl_base.specs.Control.{bare}
use Rattle.fl_interface.specs.Interface.{TheInterface}
use Rattle.fl_value_data.specs.Value.{TheCall}
use Rattle.fl_value_data.specs.Fits.{fits_of}
use Rattle.fl_value_data.specs.declared.value.PlanNo.{PlanNo}
use Rattle.fl_interface.specs.Counts.{interface_words_fit}
use Rattle.fl_layout.specs.Places.{count}
use Rattle.fl_wire.specs.Payload.{frags_of, frags_on}

-- the fragments mean the call, on a circuit
abbrev pub Means : PlanNo → TheInterface → List Frag → TheCall → ℕ → Type 0
Means plan i frags c circuit = map bare frags ≡ frags_on circuit plan i c

-- the fragments are some of the first of a fitting call, and not all
pub record IsPart (plan : PlanNo) (i : TheInterface) (frags : List Frag) : Type 0 where
  pub call : TheCall
  pub fits : fits_of i call ≡ true
  pub short : length frags < count plan i call
  pub prefix : map bare frags ≡ take (length frags) (frags_of plan i call)

-- what is read of a fitting call's first fragments: that call once all are there, else none
abbrev pub ReadsBack : PlanNo → TheInterface → List Frag → Option TheCall → Type 0
ReadsBack plan i frags found = (c : TheCall) (k : ℕ) → fits_of i c ≡ true → c.msg < 2 ^ 16 → 0 < k → k ≤ count plan i c
    → frags ≡ take k (frags_of plan i c) → found ≡ (if nat_lt k (count plan i c) then None else Some c)

-- calls that fit the interface
abbrev pub AllFit : TheInterface → List TheCall → Type 0
AllFit i cs = All (λ c. fits_of i c ≡ true) cs

-- the fragments are those of fitting calls and then a rest, which is empty or part of a fitting call
pub record Reads (plan : PlanNo) (i : TheInterface) (frags : List Frag) (calls : List TheCall) (rest : List Frag) : Type 0 where
  pub whole : List Frag
  pub joined : frags ≡ whole ++ rest
  pub fit : AllFit i calls
  pub mean : map bare whole ≡ flat_map (frags_of plan i) calls
  pub part : (rest ≡ []) ⊎ IsPart plan i rest

-- with a rest of so many fragments
pub record ReadsLeaving (plan : PlanNo) (i : TheInterface) (frags : List Frag) (calls : List TheCall) (left : ℕ) : Type 0 where
  pub rest : List Frag
  pub counts : length rest ≡ left
  pub reads : Reads plan i frags calls rest

-- no list of fitting calls has fragments that begin so
abbrev pub IsWrong : PlanNo → TheInterface → List Frag → Type 0
IsWrong plan i frags =
    (calls : List TheCall) (more : List Frag) → AllFit i calls
    → flat_map (frags_of plan i) calls ≡ map bare frags ++ more → ⊥

-- fragments, with epoch 0 and nothing told, that are empty or some of the first of a fitting call
pub record Starts (plan : PlanNo) (i : TheInterface) (frags : List Frag) (call : TheCall) : Type 0 where
  pub fits : fits_of i call ≡ true
  pub short : length frags < count plan i call
  pub prefix : frags ≡ take (length frags) (frags_of plan i call)

-- what may stand behind whole calls: nothing, or some of the first fragments of a fitting call, but not all
abbrev pub IsRest : PlanNo → TheInterface → List Frag → Type 0
IsRest plan i frags = (frags ≡ []) ⊎ ((call : TheCall) × Starts plan i frags call)

-- no list of fragments has two readings
abbrev pub OneReading : Type 0
OneReading = (plan : PlanNo) (i : TheInterface) (cs ds : List TheCall) (x y : List Frag) → interface_words_fit i ≡ true
    → AllFit i cs → AllFit i ds → IsRest plan i x → IsRest plan i y
    → flat_map (frags_of plan i) cs ++ x ≡ flat_map (frags_of plan i) ds ++ y → (cs ≡ ds) × (x ≡ y)

-- a fitting call whose fragments begin with those of another is that one
abbrev pub NoneBeginsWithAnother : Type 0
NoneBeginsWithAnother = (plan : PlanNo) (i : TheInterface) (c d : TheCall) → interface_words_fit i ≡ true → fits_of i c ≡ true → fits_of i d ≡ true
    → count plan i c ≤ count plan i d → frags_of plan i c ≡ take (count plan i c) (frags_of plan i d) → c ≡ d

-- no list of fragments reads in two ways
abbrev pub ReadsOnce : Type 0
ReadsOnce = (plan : PlanNo) (i : TheInterface) (frags : List Frag) (cs ds : List TheCall) (x y : List Frag) → interface_words_fit i ≡ true
    → Reads plan i frags cs x → Reads plan i frags ds y → (cs ≡ ds) × (x ≡ y)
