-- Calls of an interface, counted in fragments.
use Rattle.std.specs.Prelude.{ℕ, ◌+◌, ◌-◌, nat_le, if◌then◌else◌, List, [], ◌∷◌}
use Rattle.std.specs.List.{flat_map}
use Rattle.fl_base.specs.declared.fragment.Frag.{Frag}
use Rattle.fl_interface.specs.Interface.{TheInterface}
use Rattle.fl_value_data.specs.Value.{TheCall}
use Rattle.fl_value_data.specs.declared.value.PlanNo.{PlanNo}
use Rattle.fl_layout.specs.Places.{count}
use Rattle.fl_wire.specs.Payload.{frags_on}

-- an interface, and the plan by which its calls are laid out
pub record Planned : Type 0 where
  pub interface : TheInterface
  pub plan : PlanNo

-- how many fragments a call has
abbrev pub fragments : Planned → TheCall → ℕ
fragments i c = count i.plan i.interface c

-- how many fragments some calls have together
abbrev pub total : Planned → List TheCall → ℕ
total i [] = 0
total i (c ∷ cs) = fragments i c + total i cs

-- how many the last call has
abbrev pub last_count : Planned → List TheCall → ℕ
last_count i [] = 0
last_count i (c ∷ []) = fragments i c
last_count i (c ∷ d ∷ cs) = last_count i (d ∷ cs)

-- the calls of which every fragment is among the first so many
abbrev pub whole_in : Planned → List TheCall → ℕ → List TheCall
whole_in i [] n = []
whole_in i (c ∷ cs) n = if nat_le (fragments i c) n then c ∷ whole_in i cs (n - fragments i c) else []

-- the fragments of calls made one after another, on a circuit, with epoch 0 and nothing told
abbrev pub stream : ℕ → Planned → List TheCall → List Frag
stream circuit i cs = flat_map (frags_on circuit i.plan i.interface) cs
