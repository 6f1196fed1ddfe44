-- Links of a set-up: as a core's run begins it has just those that the machine has behind the set-up.
use Rattle.std.proofs.Common.{◌≡◌, refl, sym, ap, ◌∙◌, subst, ℕ, ◌+◌, true, false, is_some, List, length, slice_get, position, Option, Some, None, ◌==◌, arith}
use Rattle.std.proofs.lemmas.Bool.Decides.{nat_tests}
use Rattle.std.proofs.lemmas.List.Quantifiers.{position-Some}
use Rattle.std.proofs.lemmas.Option.{slice_get_within, get_or_from_slice_get}
use Rattle.fl_base.specs.declared.identity.CoreId.{CoreId}
use Rattle.fl_base.specs.Given.{given}
use Rattle.fl_hop.specs.Table.{TheCircuits, link_of}
use Rattle.fl_monitor.specs.Monitors.{TheMonitor}
use Rattle.fl_monitor.specs.Routing.{is_core, next_on}
use Rattle.fl_core.specs.View.{TheCore}
use Rattle.fl_model.specs.Making.{has_link}
use Rattle.fl_model.specs.Monitors.{Core}
use Rattle.fl_model.specs.State.{State, core_of}
use Rattle.fl_world_refines.specs.ShowsState.{Shows}
use Rattle.fl_cores_jobs.specs.Rules.{RulesOf}
use Rattle.fl_cores_laws.specs.Cores.{OneCore}
use Rattle.fl_cores.proofs.Runs.{is_there}
use Rattle.fl_cores.proofs.CoresCoreThreads.{on_boards}
use Rattle.fl_cores.proofs.StartBindings.{TheBeginning, IsBegun, made_of}
use Rattle.fl_cores.proofs.StartRested.{was_at}

-- ---- places on a route

-- the core, and the one behind it, where that is told
pub record Stands (path : List CoreId) (core : ℕ) (next : CoreId) : Type 0 where
  pub place : ℕ
  pub here : CoreId
  pub here_is : slice_get path place ≡ Some here
  pub same : here.0 ≡ core
  pub next_is : slice_get path (place + 1) ≡ Some next

stands_by : (path : List CoreId) (core : ℕ) (next : CoreId) (o : Option ℕ) → position (is_core core) path ≡ o
    → given o None (λ place. slice_get path (place + 1)) ≡ Some next → Stands path core next
stands_by path core next None at h = absurd (cc)
stands_by path core next (Some place) at h =
    let found = position-Some (is_core core) path place next at in
    let (here, here_is) = is_there path place found.0 in
    let test : (here.0 == core) ≡ true = subst (λ (c : CoreId). is_core core c ≡ true) (get_or_from_slice_get path place here next here_is) found.1 in
    record { place = place; here = here; here_is = here_is; same = grind (arith, nat_tests, test); next_is = h }

pub stands_on : (path : List CoreId) (core : ℕ) (next : CoreId) → next_on path core ≡ Some next → Stands path core next
stands_on path core next h = stands_by path core next (position (is_core core) path) refl h

-- ---- links

module _ (b : TheBeginning) (h : IsBegun b) (s : State) (shows : Shows b.world s) where
  of_them : RulesOf b.made.bindings.items b.asked b.world.cores b.parts.cores.items
  of_them = subst (λ (ks : List TheCore). RulesOf b.made.bindings.items b.asked ks b.parts.cores.items) h.made.cores h.rules

  -- a core's table as its run begins is that of the machine's core
  pub starts_as : (n : ℕ) (c : OneCore) → slice_get b.cores n ≡ Some c → (k : Core) → core_of s n ≡ Some k → c.start.core.monitor.circuits ≡ k.circuits
  starts_as n c c_is k k_is =
      let m = made_of b h n c c_is in
      let was = was_at b.made.bindings.items b.asked b.world.cores b.parts.cores.items of_them n m.core m.core_is in
      let monitors : c.start.core.monitor ≡ was.core.monitor = ap (λ (x : TheCore). x.monitor) m.numbers ∙ ap (λ (x : TheCore). x.monitor) was.rests.same in
      ap (λ (x : TheMonitor). x.circuits) monitors ∙ (shows.showing.cores.each n k was.core k_is was.core_is).monitor.circuits

  -- and so is that of the core that was made
  pub made_as : (n : ℕ) (c : OneCore) → slice_get b.cores n ≡ Some c → (k : Core) → core_of s n ≡ Some k → (made : TheCore) → slice_get b.world.cores n ≡ Some made
      → c.start.core.monitor.circuits ≡ made.monitor.circuits
  made_as n c c_is k k_is made made_is = starts_as n c c_is k k_is ∙ sym (shows.showing.cores.each n k made k_is made_is).monitor.circuits

  -- there are as many dispatchers as the machine's core has
  pub as_many_dispatchers : (n : ℕ) (c : OneCore) → slice_get b.cores n ≡ Some c → (k : Core) → core_of s n ≡ Some k
      → length c.start.core.board.dispatchers ≡ length k.dispatchers
  as_many_dispatchers n c c_is k k_is =
      let m = made_of b h n c c_is in
      let was = (on_boards b.made.bindings.items b.asked b.world.cores b.parts.cores.items of_them).each n m.core m.core_is in
      ap (λ (x : TheCore). length x.board.dispatchers) m.numbers ∙ was.seats.many ∙ (shows.showing.cores.each n k was.core k_is was.core_is).count

  no_link_by : (n : ℕ) (c : OneCore) → slice_get b.cores n ≡ Some c → (next : ℕ) → link_of c.start.core.monitor.circuits next ≡ None
      → (o : Option Core) → core_of s n ≡ o → given o false (λ k. is_some (link_of k.circuits next)) ≡ false
  no_link_by n c c_is next none None is = refl
  no_link_by n c c_is next none (Some k) is =
      ap is_some (ap (λ (t : TheCircuits). link_of t next) (sym (starts_as n c c_is k is)) ∙ none)

  pub no_link : (n : ℕ) (c : OneCore) → slice_get b.cores n ≡ Some c → (next : ℕ) → link_of c.start.core.monitor.circuits next ≡ None → has_link n next s ≡ false
  no_link n c c_is next none = no_link_by n c c_is next none (core_of s n) refl

  -- the machine has each core
  pub its_core : (n : ℕ) (c : OneCore) → slice_get b.cores n ≡ Some c → (k : Core) × (core_of s n ≡ Some k)
  its_core n c c_is =
      let m = made_of b h n c c_is in
      let was = was_at b.made.bindings.items b.asked b.world.cores b.parts.cores.items of_them n m.core m.core_is in
      let inside = slice_get_within b.world.cores n was.core was.core_is in
      let count = shows.showing.cores.count in
      is_there s.cores n (omega (arith, inside, count))
