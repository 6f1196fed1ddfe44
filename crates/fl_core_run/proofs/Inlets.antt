-- An end takes from a side that is lent exactly where it has no arrival queue of its own.
use Rattle.std.proofs.Common.{◌≡◌, refl, subst, ℕ, slice_get, Option, Some, None, IsSome, rules}
use Rattle.fl_base.specs.Given.{given}
use Rattle.fl_core.specs.declared.wiring.EndWiring.{EndWiring}
use Rattle.fl_core.specs.declared.wiring.EndWiring.TheVariants.{Queues, Ring, Circuit}
use Rattle.fl_core.specs.declared.wiring.WiredEnd.{WiredEnd}
use Rattle.fl_core.specs.declared.wiring.Inlet.{Inlet}
use Rattle.fl_core.specs.declared.wiring.Inlet.TheVariants.{Queue, Side, Arrivals}
use Rattle.fl_core.specs.View.{TheCore, inlet_by, arrivals_by, inlet_of, arrivals_of}

Own : Inlet → Option ℕ → Type 0
Own (Queue n) a = a ≡ None
Own (Side n) a = a ≡ None
Own Arrivals a = IsSome a

some_inlet : (i j : Inlet) → Some i ≡ Some j → i ≡ j
some_inlet i j same = cc

by_wiring : (w : EndWiring) → Own (inlet_by w) (arrivals_by w)
unfolding Own
by_wiring (Queues out from) = refl
by_wiring (Ring side) = refl
by_wiring (Circuit link arrivals) = search rules

by_wired_end : (o : Option WiredEnd) (i : Inlet) → given o None (λ (p : WiredEnd). Some (inlet_by p.wiring)) ≡ Some i → Own i (given o None (λ (p : WiredEnd). arrivals_by p.wiring))
by_wired_end None i is = absurd (cc)
by_wired_end (Some p) i is = subst (λ (j : Inlet). Own j (arrivals_by p.wiring)) (some_inlet (inlet_by p.wiring) i is) (by_wiring p.wiring)

own : (k : TheCore) (e : ℕ) (i : Inlet) → inlet_of k e ≡ Some i → Own i (arrivals_of k e)
own k e i is = by_wired_end (slice_get k.wired_ends e) i is

pub queue_lent : (k : TheCore) (e n : ℕ) → inlet_of k e ≡ Some (Queue n) → arrivals_of k e ≡ None
unfolding Own
queue_lent k e n is = own k e (Queue n) is

pub side_lent : (k : TheCore) (e n : ℕ) → inlet_of k e ≡ Some (Side n) → arrivals_of k e ≡ None
unfolding Own
side_lent k e n is = own k e (Side n) is

pub own_queue : (k : TheCore) (e : ℕ) → inlet_of k e ≡ Some Arrivals → IsSome (arrivals_of k e)
unfolding Own
own_queue k e is = own k e Arrivals is
