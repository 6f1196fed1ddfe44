use Rattle.std.proofs.Common.{◌≡◌, ◌==◌, ℕ}
use Rattle.std.specs.List.{list_any}
use Rattle.slab.specs.Slab.{entries}
use Rattle.fl_hop.specs.declared.entry.Entry.{Entry}
use Rattle.fl_hop.proofs.entry.is_kept.Given as goal

-- whether one is among all entries is whether one is among those that are left
abbrev pub invariant-loop-entry : goal.invariant-loop-entry
invariant-loop-entry l =
    (goal.iterator-loop-entry).can_next l.entry-iterator ×
    (goal.iterator-loop-entry).is_finite l.entry-iterator ×
    (list_any (λ (e : ℕ × Entry). e.1.binding == l.binding) (entries l.kept) ≡ list_any (λ (e : ℕ × Entry). e.1.binding == l.binding) l.entry-iterator)
