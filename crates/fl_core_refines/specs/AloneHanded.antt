-- A core as its thread is handed it: it names its queues by other numbers, where they stand then. Law.
use Rattle.std.specs.Prelude.{ℕ, ◌≡◌, false, List, [], ◌∷◌, slice_get, Some}
use Rattle.fl_link.specs.Queue.{TheQueue}
use Rattle.fl_core.specs.View.{TheCore}
use Rattle.fl_core.specs.Numbers.{moved, renumbered}
use Rattle.fl_model.specs.State.{State}
use Rattle.fl_world_refines.specs.View.{TheWorld}
use Rattle.fl_world_refines.specs.ShowsState.{Shows, NamesQueue}
use Rattle.fl_core_refines.specs.AloneShown.{alone_with}

-- each queue that the core names stands where its new number says, and no two have one
pub record AreHanded (w : TheWorld) (k : TheCore) (numbers : List ℕ) (queues : List TheQueue) : Type 0 where
  pub there : (n : ℕ) (q : TheQueue) → NamesQueue k n → slice_get w.queues n ≡ Some q → slice_get queues (moved numbers n) ≡ Some q
  pub apart : (n m : ℕ) → NamesQueue k n → NamesQueue k m → moved numbers n ≡ moved numbers m → n ≡ m

-- the world of one core, without links and rings, whose number of cores stands, shows what it showed
abbrev pub HandedShow : Type 0
HandedShow = (w : TheWorld) (k : TheCore) (sides numbers : List ℕ) (queues : List TheQueue) (s : State) → Shows w s → w.cores ≡ k ∷ []
    → w.rings ≡ [] → k.link_sides ≡ []
    → s.may_set_cores ≡ false → AreHanded w k numbers queues → Shows (alone_with w (renumbered sides numbers k) queues) s
