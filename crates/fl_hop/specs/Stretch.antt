-- A stretch of time at one core: fragments are passed on, ends and the monitor here write theirs, and meanwhile circuits are
-- opened and removed.
use Rattle.std.specs.Prelude.{ℕ, ◌≡◌, ◌==◌, ◌&&◌, Bool, true, false, if◌then◌else◌, List, [], ◌∷◌, ◌++◌, Some}
use Rattle.fl_base.specs.declared.fragment.Frag.{Frag}
use Rattle.fl_base.specs.declared.identity.EndId.{EndId}
use Rattle.fl_base.specs.declared.identity.Side.{Side}
use Rattle.fl_base.specs.declared.identity.Side.TheVariants.{Client, Server}
use Rattle.fl_base.specs.Control.{circuit_of, with_circuit, bare}
use Rattle.fl_hop.specs.declared.entry.HopTarget.{HopTarget}
use Rattle.fl_hop.specs.declared.entry.HopTarget.TheVariants.{Link, End}
use Rattle.fl_hop.specs.Table.{TheCircuits}
use Rattle.fl_hop.specs.Joined.{Sound, Leads}
use Rattle.fl_hop.specs.Later.{Later, way_at}
use Rattle.fl_hop.specs.OfCircuit.{as_carried}

-- ---- what happens to a fragment at a core

pub data CircuitEvent : Type 0 where
  -- it was taken from this link, as it stood there, and went this way
  passed : ℕ → Frag → HopTarget → CircuitEvent
  -- an end here put it on this link
  wrote : EndId → ℕ → Frag → CircuitEvent
  -- the monitor here put it on this link
  said : ℕ → Frag → CircuitEvent
  -- the monitor here took it from this link
  heard : ℕ → Frag → CircuitEvent

-- as the table leads: a forward by the entry, an end under its own number, the monitor on circuit 0
abbrev pub AsLed : TheCircuits → CircuitEvent → Type 0
AsLed t (passed l frag way) = way_at t l (circuit_of frag.control) ≡ Some way
AsLed t (wrote e l frag) = way_at t l (circuit_of frag.control) ≡ Some (End e)
AsLed t (said l frag) = circuit_of frag.control ≡ 0
AsLed t (heard l frag) = circuit_of frag.control ≡ 0

-- a circuit event, and the table of that moment
pub record TableStep : Type 0 where
  pub moment : TheCircuits
  pub circuit_event : CircuitEvent

pub record Went (p : TableStep) : Type 0 where
  pub sound : Sound p.moment
  pub led : AsLed p.moment p.circuit_event

-- ---- a stretch

-- what was done, in order, while the table at the start became the one at the finish
pub record TableHistory : Type 0 where
  pub start : TheCircuits
  pub steps : List TableStep
  pub finish : TheCircuits

-- the table went through the moments of the steps, one after another; calls changed it before, between and after them
abbrev pub goes_through : TheCircuits → List TableStep → TheCircuits → Type 0
goes_through t [] u = Later t u
goes_through t (p ∷ ps) u = Later t p.moment × Went p × goes_through p.moment ps u

abbrev pub AllWent : TableHistory → Type 0
AllWent s = goes_through s.start s.steps s.finish

-- an entry of this binding led from number n of link l this way at some moment of a stretch: after some of its steps, and
-- before the others. It may have come later than the start, and gone before the finish
pub record Stood (s : TableHistory) (l n binding : ℕ) (way : HopTarget) : Type 0 where
  pub moment : TheCircuits
  pub sound : Sound moment
  pub leads : Leads moment l n binding way
  pub before : List TableStep
  pub after : List TableStep
  pub all : s.steps ≡ before ++ after
  pub until : goes_through s.start before moment
  pub since : goes_through moment after s.finish

-- ---- what went in and came out; of each fragment what a label of a side says, with its epoch and the count told set aside

-- the one fragment, or none
abbrev pub if_so : Bool → Frag → List Frag
if_so so frag = if so then frag ∷ [] else []

-- whether two sides are one, and two ends
abbrev pub same_side : Side → Side → Bool
same_side Client Client = true
same_side Server Server = true
same_side _ _ = false

abbrev pub same_end : EndId → EndId → Bool
same_end a b = (a.binding == b.binding) && same_side a.side b.side

-- what a circuit event took from link l
abbrev pub taken_by : ℕ → CircuitEvent → List Frag
taken_by l (passed m frag way) = if_so (m == l) (bare frag)
taken_by l (wrote e m frag) = []
taken_by l (said m frag) = []
taken_by l (heard m frag) = if_so (m == l) (bare frag)

-- what a fragment that goes this way is on link l, and at an end
abbrev pub sent_to : ℕ → Frag → HopTarget → List Frag
sent_to l frag (Link m c) = if_so (m.0 == l) (bare (with_circuit c.0 frag))
sent_to l frag (End e) = []

abbrev pub brought_to : EndId → Frag → HopTarget → List Frag
brought_to e frag (Link m c) = []
brought_to e frag (End f) = if_so (same_end f e) (as_carried frag)

-- what a circuit event put on link l
abbrev pub put_by : ℕ → CircuitEvent → List Frag
put_by l (passed m frag way) = sent_to l frag way
put_by l (wrote e m frag) = if_so (m == l) (bare frag)
put_by l (said m frag) = if_so (m == l) (bare frag)
put_by l (heard m frag) = []

-- what a circuit event brought to an end's arrival queue
abbrev pub come_by : EndId → CircuitEvent → List Frag
come_by e (passed m frag way) = brought_to e frag way
come_by e (wrote f m frag) = []
come_by e (said m frag) = []
come_by e (heard m frag) = []

-- what a circuit event of an end wrote, as it is carried
abbrev pub written_in : EndId → CircuitEvent → List Frag
written_in e (passed m frag way) = []
written_in e (wrote f m frag) = if_so (same_end f e) (as_carried frag)
written_in e (said m frag) = []
written_in e (heard m frag) = []

-- the same of all steps, in order
abbrev pub taken_from : ℕ → List TableStep → List Frag
taken_from l [] = []
taken_from l (p ∷ ps) = taken_by l p.circuit_event ++ taken_from l ps

abbrev pub put_on : ℕ → List TableStep → List Frag
put_on l [] = []
put_on l (p ∷ ps) = put_by l p.circuit_event ++ put_on l ps

abbrev pub come_to : EndId → List TableStep → List Frag
come_to e [] = []
come_to e (p ∷ ps) = come_by e p.circuit_event ++ come_to e ps

abbrev pub written_by : EndId → List TableStep → List Frag
written_by e [] = []
written_by e (p ∷ ps) = written_in e p.circuit_event ++ written_by e ps

-- whatever came to the end came under number n of link l
abbrev pub OnlyFrom : ℕ → ℕ → EndId → List TableStep → Type 0
OnlyFrom l n e [] = Unit {0}
OnlyFrom l n e (p ∷ ps) =
    ((m : ℕ) (frag : Frag) → p.circuit_event ≡ passed m frag (End e) → (m ≡ l) × (circuit_of frag.control ≡ n)) × OnlyFrom l n e ps

-- whatever the end wrote it wrote under number n of link l
abbrev pub OnlyOnto : ℕ → ℕ → EndId → List TableStep → Type 0
OnlyOnto l n e [] = Unit {0}
OnlyOnto l n e (p ∷ ps) =
    ((m : ℕ) (frag : Frag) → p.circuit_event ≡ wrote e m frag → (m ≡ l) × (circuit_of frag.control ≡ n)) × OnlyOnto l n e ps
