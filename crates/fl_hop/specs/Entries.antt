-- What stands after an opening: its entry, of its binding, at its numbers.
use Rattle.std.specs.Prelude.{ℕ, ◌≡◌, Some, None}
use Rattle.fl_base.specs.declared.identity.LinkId.{LinkId}
use Rattle.fl_base.specs.declared.identity.Circuit.{Circuit}
use Rattle.fl_base.specs.declared.identity.Side.TheVariants.{Client, Server}
use Rattle.fl_hop.specs.declared.entry.HopTarget.TheVariants.{Link, End}
use Rattle.fl_hop.specs.Table.{TheCircuits}
use Rattle.fl_hop.specs.Numbers.{next_own}
use Rattle.fl_hop.specs.Joined.{Sound, Leads}
use Rattle.fl_hop.specs.Openings.{opened, pass_fault, passed_on, arrive_fault, arrived}

-- at the client's core, between the client's end and the number that was given
abbrev pub OpenedLeads : Type 0
OpenedLeads =
    (t : TheCircuits) (l : LinkId) (c : Circuit) (binding : ℕ) → Sound t → next_own t l.0 ≡ Some c.0
    → Leads (opened t l c binding) l.0 c.0 binding (End (record { binding = binding; side = Client }))

-- in between, both ways between the number that was taken and the one that was given
abbrev pub PassedLeads : Type 0
PassedLeads =
    (t : TheCircuits) (l m : LinkId) (c d : Circuit) (binding : ℕ) → Sound t
    → pass_fault t l.0 c.0 m.0 binding ≡ None → next_own t m.0 ≡ Some d.0
    → Leads (passed_on t l c m d binding) l.0 c.0 binding (Link m d)
    × Leads (passed_on t l c m d binding) m.0 d.0 binding (Link l c)

-- at the server's core, between the number that was taken and the server's end
abbrev pub ArrivedLeads : Type 0
ArrivedLeads =
    (t : TheCircuits) (l : LinkId) (c : Circuit) (binding : ℕ) → Sound t → arrive_fault t l.0 c.0 binding ≡ None
    → Leads (arrived t l c binding) l.0 c.0 binding (End (record { binding = binding; side = Server }))
