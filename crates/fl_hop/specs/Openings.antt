-- How entries come to be. The core of a circuit's client opens it; a core in between takes the neighbour's opening and opens
-- the next; the last core takes it. Each gives new numbers and joins them in one step.
use Rattle.std.specs.Prelude.{ℕ, ◌≡◌, ◌⊎◌, ◌==◌, Bool, true, false, nat_lt, if◌then◌else◌, length, Option, Some, None}
use Rattle.fl_base.specs.declared.identity.LinkId.{LinkId}
use Rattle.fl_base.specs.declared.identity.Circuit.{Circuit}
use Rattle.fl_base.specs.declared.identity.Side.TheVariants.{Client, Server}
use Rattle.fl_hop.specs.declared.entry.HopTarget.TheVariants.{Link, End}
use Rattle.fl_hop.specs.declared.fault.HopFault.{HopFault}
use Rattle.fl_hop.specs.declared.fault.HopFault.TheVariants.{Misrouted, NoLink, UsedUp, Memory}
use Rattle.fl_hop.specs.Table.{TheCircuits, hop_at, stands, with_entry}
use Rattle.fl_hop.specs.declared.entry.Hop.{Hop}
use Rattle.fl_hop.specs.Numbers.{OpenedHere, next_own, next_due, after_opening, after_taking}

-- whether a number is the next
abbrev pub is_next : Option ℕ → ℕ → Bool
is_next None n = false
is_next (Some next) n = next == n

-- all numbers of this core's own are given
abbrev pub if_used_up : Option ℕ → Option HopFault
if_used_up None = Some UsedUp
if_used_up (Some next) = None

-- why no circuit is opened on link l for a binding's client, out of memory aside
abbrev pub open_fault : TheCircuits → ℕ → ℕ → Option HopFault
open_fault t l binding =
    if nat_lt l (length t.links) then (if stands t binding then Some Misrouted else if_used_up (next_own t l)) else Some NoLink

-- the table with a circuit opened on link l, joined with the binding's client
abbrev pub opened : TheCircuits → LinkId → Circuit → ℕ → TheCircuits
opened t l c binding =
    with_entry (after_opening t l.0) binding false (End (record { binding = binding; side = Client })) (Link l c)

-- why the neighbour's opening c on link l isn't passed on over link m, out of memory aside
abbrev pub pass_fault : TheCircuits → ℕ → ℕ → ℕ → ℕ → Option HopFault
pass_fault t l c m binding =
    if is_next (next_due t l) c then
    (if stands t binding then Some Misrouted
    else if l == m then Some NoLink
    else if nat_lt m (length t.links) then if_used_up (next_own t m)
    else Some NoLink)
    else Some Misrouted

-- the table with the neighbour's opening c on link l taken, and joined with one that this core opens on link m
abbrev pub passed_on : TheCircuits → LinkId → Circuit → LinkId → Circuit → ℕ → TheCircuits
passed_on t l c m d binding = with_entry (after_opening (after_taking t l.0) m.0) binding false (Link l c) (Link m d)

-- why the neighbour's opening c on link l doesn't arrive here, out of memory aside
abbrev pub arrive_fault : TheCircuits → ℕ → ℕ → ℕ → Option HopFault
arrive_fault t l c binding =
    if is_next (next_due t l) c then (if stands t binding then Some Misrouted else None) else Some Misrouted

-- the table with the neighbour's opening c on link l taken, and joined with the binding's server
abbrev pub arrived : TheCircuits → LinkId → Circuit → ℕ → TheCircuits
arrived t l c binding =
    with_entry (after_taking t l.0) binding false (Link l c) (End (record { binding = binding; side = Server }))

-- why the neighbour's opening c on link l isn't counted as refused
abbrev pub refuse_fault : TheCircuits → ℕ → ℕ → Option HopFault
refuse_fault t l c = if is_next (next_due t l) c then None else Some Misrouted

-- number n of link l is an opening of this core's own whose answer hasn't come, and its entry says this
pub record IsWaiting (t : TheCircuits) (l n : ℕ) (hop : Hop) : Type 0 where
  pub here : OpenedHere t l n
  pub there : hop_at t l n ≡ Some hop
  pub unanswered : hop.answered ≡ false

-- the table with the entry at number c of link l answered
abbrev pub answered : TheCircuits → LinkId → Circuit → Hop → TheCircuits
answered t l c hop = with_entry t hop.binding true hop.way (Link l c)

-- a refusal: the fault that is due, or out of memory where none is
abbrev pub IsRefusal : Option HopFault → HopFault → Type 0
IsRefusal due fault = (due ≡ Some fault) ⊎ ((due ≡ None) × (fault ≡ Memory))
