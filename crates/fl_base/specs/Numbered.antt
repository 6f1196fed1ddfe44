-- Cores, links and circuits by their numbers, and how many cores and bindings there may be.
use Rattle.std.specs.Prelude.{ℕ}
use Rattle.fl_base.specs.declared.identity.CoreId.{CoreId}
use Rattle.fl_base.specs.declared.identity.LinkId.{LinkId}
use Rattle.fl_base.specs.declared.identity.Circuit.{Circuit}

abbrev pub core_id : ℕ → CoreId
core_id n = record { 0 = n }

abbrev pub link_id : ℕ → LinkId
link_id l = record { 0 = l }

abbrev pub circuit_id : ℕ → Circuit
circuit_id c = record { 0 = c }

-- how many cores a world may have
abbrev pub most_cores : ℕ
most_cores = 16

-- bindings are numbered below this
abbrev pub most_bindings : ℕ
most_bindings = 1024
