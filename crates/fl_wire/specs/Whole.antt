-- Working definitions of the reader: what reading a message's whole call tells: its arguments, and the zeros up to its last fragment's end.
use Rattle.std.specs.Prelude.{◌≡◌, ℕ, ◌+◌, ◌*◌, ◌<◌, ◌≤◌, true, List, [], length}
use Rattle.std.specs.List.{list_all}
use Rattle.fl_base.specs.declared.fragment.Frag.{Frag}
use Rattle.fl_interface.specs.Interface.{TheArgType}
use Rattle.fl_value_data.specs.Value.{Datum}
use Rattle.fl_value_data.specs.Fits.{are_arguments}
use Rattle.fl_value_data.specs.declared.value.PlanNo.{PlanNo}
use Rattle.fl_layout.specs.Leaves.{Leaf}
use Rattle.fl_layout.specs.Places.{size, count_for}
use Rattle.fl_wire.specs.Alive.{argument_has_values}
use Rattle.fl_wire.specs.Covered.{is_covered}
use Rattle.fl_wire.specs.Shapes.{Agrees, IsWhy, StreamCut, calls_of}
use Rattle.fl_wire.specs.declared.leaf.CallReadFault.{CallReadFault}
use Rattle.fl_wire.specs.declared.leaf.CallReadFault.TheVariants.{Short, Padding, Value, Length, Memory}

-- the leaves of a call's arguments
abbrev pub leaves_of : PlanNo → List TheArgType → List Datum → List Leaf
leaves_of plan ts ds = (calls_of plan ts).onto ds []

-- so many fragments hold a call's payload and zeros after it
pub record Whole (plan : PlanNo) (ts : List TheArgType) (frags : List Frag) (ds : List Datum) (count : ℕ) : Type 0 where
  pub fit : are_arguments ts ds ≡ true
  pub counts : count ≡ count_for (size (leaves_of plan ts ds))
  pub within : count ≤ length frags
  pub agree : Agrees frags (leaves_of plan ts ds) (56 * count)

-- a call that agrees with the first n bytes, and what stands at byte n of it
pub record NearCall (stop : CallReadFault) (plan : PlanNo) (ts : List TheArgType) (frags : List Frag) (n : ℕ) : Type 0 where
  pub one : List Datum
  pub fit : are_arguments ts one ≡ true
  pub agree : Agrees frags (leaves_of plan ts one) n
  pub longer : n < 56 * count_for (size (leaves_of plan ts one))
  pub why : IsWhy stop ((calls_of plan ts).lengths one [] n) (is_covered (leaves_of plan ts one) n)

-- at a byte of the fragments, no call agrees any more; one does up to that byte
pub record WrongCall (stop : CallReadFault) (plan : PlanNo) (ts : List TheArgType) (frags : List Frag) : Type 0 where
  pub p : ℕ
  pub inside : p < 56 * length frags
  pub none : (e : List Datum) → are_arguments ts e ≡ true → Agrees frags (leaves_of plan ts e) (p + 1) → ⊥
  pub near : list_all argument_has_values ts ≡ true → NearCall stop plan ts frags p

-- why the reading of a whole call stops
abbrev pub StopsWhole : CallReadFault → PlanNo → List TheArgType → List Frag → Type 0
StopsWhole Short plan ts frags = StreamCut (calls_of plan ts) frags []
StopsWhole Padding plan ts frags = WrongCall Padding plan ts frags
StopsWhole Value plan ts frags = WrongCall Value plan ts frags
StopsWhole Length plan ts frags = WrongCall Length plan ts frags
StopsWhole Memory plan ts frags = Unit {0}
