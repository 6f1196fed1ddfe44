-- An opening that its own core refuses is refused alike for any binding that isn't made yet.
use Rattle.std.proofs.Common.{◌≡◌, refl, sym, ◌∙◌, ap, ℕ, suc, ◌/◌, ◌%◌, ◌<◌, ◌≤◌, ◌==◌, ◌||◌, nat_lt, Bool, true, false, if◌then◌else◌, List, [], ◌∷◌, length, slice_get, Option, Some, None, arith}
use Rattle.std.specs.Prelude.{Err}
use Rattle.std.specs.List.{list_any}
use Rattle.std.proofs.lemmas.Bool.{eq-eqb}
use Rattle.std.proofs.lemmas.Bool.Decides.{nat_tests}
use Rattle.fl_base.specs.declared.identity.LinkId.{LinkId}
use Rattle.fl_compile.specs.declared.program.Program.{Program}
use Rattle.fl_hop.specs.declared.links.LinkState.{LinkState}
use Rattle.fl_hop.specs.declared.entry.Hop.{Hop}
use Rattle.fl_hop.specs.declared.fault.HopFault.TheVariants.{NoLink, Misrouted as IsHere}
use Rattle.fl_hop.specs.Numbers.{next_own}
use Rattle.fl_hop.specs.Openings.{if_used_up, open_fault}
use Rattle.fl_hop.specs.Table.{TheCircuits, is_of, stands, slot}
use Rattle.fl_hop.proofs.Counting.{none_there}
use Rattle.fl_hop.proofs.Lists.{within, at_within}
use Rattle.fl_monitor.specs.declared.opening.Opening.{Opening}
use Rattle.fl_monitor.specs.declared.fault.MonitorFault.{MonitorFault}
use Rattle.fl_monitor.specs.declared.fault.MonitorFault.TheVariants as monitor
use Rattle.fl_monitor.specs.Monitors.{TheMonitor, Opens}
use Rattle.fl_core.specs.declared.fault.OpenFault.{OpenFault}
use Rattle.fl_core.specs.declared.fault.OpenFault.TheVariants.{Board, Monitor}
use Rattle.fl_core.specs.Making.{asked, Asks}
use Rattle.fl_core.specs.View.{TheCore}
use Rattle.fl_model.specs.Monitors.{Core, link_to}
use Rattle.fl_model.specs.State.{State, core_of}
use Rattle.fl_model.specs.Sound.{Sound}
use Rattle.fl_model.specs.SoundEntries.{EntryAt}
use Rattle.fl_model_laws.proofs.OpeningsMoves.{names_to}
use Rattle.fl_model_laws.proofs.TableSteps.{there_stands}
use Rattle.fl_world_refines.specs.View.{TheWorld}
use Rattle.fl_world_refines.specs.ShowsState.{Shows}
use Rattle.fl_world_refines.proofs.JoiningRoutes.{link_within}
use Rattle.fl_world_refines.proofs.MakingCores.{all_of, core_there}
use Rattle.fl_world_refines.proofs.Tests.{by_test}

-- ---- no entry of such a binding stands anywhere

any_there : {X : Type 0} (p : X → Bool) (xs : List X) → list_any p xs ≡ true → (i : ℕ) × ((x : X) × (slice_get xs i ≡ Some x) × (p x ≡ true))
any_there p [] h = absurd (cc)
any_there {X} p (x ∷ xs) h = by (p x) refl h (λ r. any_there p xs r)
  where
    by : (b : Bool) → p x ≡ b → (b || list_any p xs) ≡ true → (list_any p xs ≡ true → (i : ℕ) × ((y : X) × (slice_get xs i ≡ Some y) × (p y ≡ true)))
        → (i : ℕ) × ((y : X) × (slice_get (x ∷ xs) i ≡ Some y) × (p y ≡ true))
    by true q r f = (0, (x, refl, q))
    by false q r f = (let e = f r in (suc e.0, e.1))

module _ (s : State) (sound : Sound s) (n : ℕ) (k : Core) (at : core_of s n ≡ Some k) (number : ℕ) (far : length s.bindings ≤ number) where
  -- the link at a place is found by its neighbour
  by_neighbour : (l : ℕ) (a : LinkState) → slice_get k.circuits.links l ≡ Some a → link_to a.neighbour.0 k ≡ Some l
  by_neighbour l a q = by (link_to a.neighbour.0 k) refl
    where
      by : (o : Option ℕ) → link_to a.neighbour.0 k ≡ o → o ≡ Some l
      by None r = absurd (let e : true ≡ false = sym (eq-eqb a.neighbour.0 a.neighbour.0 refl)
          ∙ none_there (λ (b : LinkState). b.neighbour.0 == a.neighbour.0) k.circuits.links r l a q in cc)
      by (Some m) r =
          (let (b, bt) = at_within k.circuits.links m (link_within k a.neighbour.0 m r) in
          let same : b.neighbour.0 ≡ a.neighbour.0 = names_to a.neighbour.0 m k.circuits.links b r bt in
          ap (λ z. Some z) ((sound.cores n k at).table.once m l b a bt q same))

  no_hop : (j : ℕ) (hop : Hop) → slice_get k.circuits.hops j ≡ Some (Some hop) → hop.binding ≡ number → ⊥
  no_hop j hop q its =
      let table = (sound.cores n k at).table in
      let few = within k.circuits.hops j (Some hop) q in
      let whole = table.whole in
      let l : ℕ = j / 2047 in
      let r : ℕ = j % 2047 in
      let is : j ≡ slot l r = omega arith in
      let inside : l < length k.circuits.links = omega (arith, few, whole) in
      let (a, there) = at_within k.circuits.links l inside in
      let entry : EntryAt s (record { core = n; neighbour = a.neighbour.0; number = r }) hop = record {
        core = k;
        core_is = at;
        link = l;
        link_is = by_neighbour l a there;
        there = there_stands k.circuits l r (Some hop) (omega arith) (ap (slice_get k.circuits.hops) (sym is) ∙ q);
      } in
      let (route, routed, rest) = sound.only_entries (record { core = n; neighbour = a.neighbour.0; number = r }) hop entry in
      let small = within s.bindings hop.binding routed.binding routed.there in
      absurd (omega (arith, small, its, far))

  none_yet : stands k.circuits number ≡ false
  none_yet = by_test (stands k.circuits number) (λ q. absurd (found q)) (λ q. q)
    where
      found : stands k.circuits number ≡ true → ⊥
      found q =
          let (j, o) = any_there (is_of number) k.circuits.hops q in
          one j o.0 o.1 o.2
        where
          one : (j : ℕ) (o : Option Hop) → slice_get k.circuits.hops j ≡ Some o → is_of number o ≡ true → ⊥
          one j None r u = absurd (cc)
          one j (Some hop) r u = no_hop j hop r (grind (arith, nat_tests, u))

-- ---- so the fault of an opening is one for all of them

module _ (w : TheWorld) (s : State) (show : Shows w s) (n : ℕ) (core : TheCore) (core_is : slice_get w.cores n ≡ Some core) where
  none_here : (number : ℕ) → length s.bindings ≤ number → stands core.monitor.circuits number ≡ false
  none_here number far =
      let (k, k_is) = core_there s.cores w.cores n core (all_of w s show.showing.cores) core_is in
      ap (λ (t : TheCircuits). stands t number) (show.showing.cores.each n k core k_is core_is).monitor.circuits
      ∙ none_yet s show.sound n k k_is number far

  same_fault : (l a b : ℕ) → length s.bindings ≤ a → length s.bindings ≤ b → open_fault core.monitor.circuits l a ≡ open_fault core.monitor.circuits l b
  same_fault l a b p q =
      ap (λ (here : Bool). if nat_lt l (length core.monitor.circuits.links)
      then (if here then Some IsHere else if_used_up (next_own core.monitor.circuits l)) else Some NoLink)
      (none_here a p ∙ sym (none_here b q))

refuses_too : (l : LinkId) (o u : Opening) (m : TheMonitor) → open_fault m.circuits l.0 u.binding ≡ open_fault m.circuits l.0 o.binding
    → (fault : MonitorFault) → Opens l o m (Err fault) m → Opens l u m (Err fault) m
refuses_too l o u m same monitor.OutboxFull (none, full, is) = (same ∙ none, full, is)
refuses_too l o u m same monitor.Memory (none, room, is) = (same ∙ none, room, is)
refuses_too l o u m same monitor.Misrouted (due, is) = (same ∙ due, is)
refuses_too l o u m same monitor.NoRoute (due, is) = (same ∙ due, is)
refuses_too l o u m same monitor.UsedUp (due, is) = (same ∙ due, is)
refuses_too l o u m same monitor.Differs (due, is) = absurd due
refuses_too l o u m same monitor.PlansDiffer (due, is) = absurd due

pub asks_alike : (w : TheWorld) (s : State) → Shows w s → (n : ℕ) (core : TheCore) → slice_get w.cores n ≡ Some core
    → (dispatcher : ℕ) (program : Program) (l : LinkId) (o u : Opening) → length s.bindings ≤ o.binding → length s.bindings ≤ u.binding
    → (fault : OpenFault) (after : TheCore) → Asks (asked dispatcher program l o) core (Err fault) after → Asks (asked dispatcher program l u) core (Err fault) after
asks_alike w s show n core core_is dispatcher program l o u p q (Board fault) after (adds, same) = (adds, same)
asks_alike w s show n core core_is dispatcher program l o u p q (Monitor fault) after (place, opens, same) =
    (place, refuses_too l o u core.monitor (same_fault w s show n core core_is l.0 u.binding o.binding q p) fault opens, same)
