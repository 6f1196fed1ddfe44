-- Why a core refuses the opening that a job of its own asks for.
use Rattle.std.proofs.Common.{◌≡◌, ◌⊎◌, inl, inr, refl, ap, ◌∙◌, ℕ, zero, suc, ◌≤◌, ◌/◌, ◌%◌, ◌||◌, nat_lt, if◌then◌else◌}
use Rattle.std.proofs.Common.{Bool, true, false, List, [], ◌∷◌, length, slice_get, Option, Some, None, Err, arith}
use Rattle.std.specs.List.{list_any}
use Rattle.std.proofs.lemmas.Bool.{ltb-true}
use Rattle.std.proofs.lemmas.Bool.Decides.{nat_tests}
use Rattle.fl_base.specs.declared.fragment.Frag.{Frag}
use Rattle.fl_base.specs.declared.identity.LinkId.{LinkId}
use Rattle.fl_core.specs.declared.board_fault.BoardFault.{BoardFault}
use Rattle.fl_core.specs.declared.board_fault.BoardFault.TheVariants as board
use Rattle.fl_core.specs.BoardEvents.{Adds}
use Rattle.fl_core.specs.BoardView.{TheDispatcher, TheBoard}
use Rattle.fl_core.specs.declared.kind.ChannelKind.{ChannelKind}
use Rattle.fl_core.specs.declared.kind.ChannelKind.TheVariants.{Queue}
use Rattle.fl_endpoint.specs.View.{TheEnd, fresh}
use Rattle.fl_nameserv.specs.Registrations.{TheRegistration}
use Rattle.fl_hop.specs.declared.entry.Hop.{Hop}
use Rattle.fl_hop.specs.declared.entry.HopTarget.{HopTarget}
use Rattle.fl_hop.specs.declared.entry.HopTarget.TheVariants.{Link, End}
use Rattle.fl_hop.specs.declared.fault.HopFault.TheVariants.{NoLink, Misrouted, UsedUp as NoNumber}
use Rattle.fl_hop.specs.Joined.{Sound, Leads, IsClientWay}
use Rattle.fl_hop.specs.Later.{way_at}
use Rattle.fl_hop.specs.Numbers.{OpenedThere, next_own}
use Rattle.fl_hop.specs.Openings.{if_used_up, open_fault}
use Rattle.fl_hop.specs.Table.{TheCircuits, slot, hop_at, is_of, stands}
use Rattle.fl_hop.proofs.Lists.{at_within, index_there}
use Rattle.fl_monitor.specs.declared.fault.MonitorFault.{MonitorFault}
use Rattle.fl_monitor.specs.declared.fault.MonitorFault.TheVariants as monitor
use Rattle.fl_monitor.specs.declared.opening.Opening.{Opening}
use Rattle.fl_monitor.specs.Monitors.{TheMonitor, Opens}
use Rattle.fl_core.specs.declared.fault.OpenFault.{OpenFault}
use Rattle.fl_core.specs.declared.fault.OpenFault.TheVariants as opening
use Rattle.fl_core.specs.Faults.{open_number}
use Rattle.fl_core.specs.Making.{Asked, Asks}
use Rattle.fl_core.specs.View.{TheCore, client_of}
use Rattle.fl_core_run.specs.Steps.{lacks_to_open}
use Rattle.fl_core_run_laws.proofs.Tables.{way_of}
use Rattle.fl_cores_laws.specs.Reasons.{IsUsedUp, CameUnder, AreReasoned, as_talk}
use Rattle.fl_cores_laws.proofs.Neighbours.{leads_of}
use Rattle.fl_cores_laws.proofs.ReasonsOwn.{is_used_up}
use Rattle.fl_cores_laws.proofs.Refused.{test_true, less_true}

-- ---- an entry of a binding

both_tests : (a b : Bool) → (a || b) ≡ true → (a ≡ true) ⊎ (b ≡ true)
both_tests true b h = inl refl
both_tests false b h = inr h

its_binding : (binding : ℕ) (o : Option Hop) → is_of binding o ≡ true → (hop : Hop) × (o ≡ Some hop) × (hop.binding ≡ binding)
its_binding binding None h = absurd (cc)
its_binding binding (Some hop) h = (hop, refl, grind (arith, nat_tests, h))

entry_in : (binding : ℕ) (xs : List (Option Hop)) → list_any (is_of binding) xs ≡ true → (i : ℕ) × (hop : Hop) × (slice_get xs i ≡ Some (Some hop)) × (hop.binding ≡ binding)
entry_in binding [] h = absurd (cc)
entry_in binding (x ∷ xs) h = elim (both_tests (is_of binding x) (list_any (is_of binding) xs) h) [
  | inl here ↦ (let (hop, is, same) = its_binding binding x here in (0, hop, ap Some is, same))
  | inr there ↦ (let (i, hop, at, same) = entry_in binding xs there in (suc i, hop, at, same))
]

-- the binding has an entry at this number
pub record HasEntry (t : TheCircuits) (binding : ℕ) : Type 0 where
  pub link : ℕ
  pub number : ℕ
  pub hop : Hop
  pub at : hop_at t link number ≡ Some hop
  pub binding_is : hop.binding ≡ binding

number_of : (i : ℕ) → (l : ℕ) × (n : ℕ) × (slot l n ≡ i) × (n ≤ 2046)
number_of i = (i / 2047, i % 2047, omega arith, omega arith)

pub has_entry : (t : TheCircuits) (binding : ℕ) → stands t binding ≡ true → HasEntry t binding
has_entry t binding h =
    let (i, hop, at, same) = entry_in binding t.hops h in
    let (l, n, is, few) = number_of i in
    record {
      link = l;
      number = n;
      hop = hop;
      at = test_true (nat_lt n 2047) _ None (less_true n 2047 (omega (arith, few))) ∙ index_there t.hops (slot l n) None (Some hop) (ap (slice_get t.hops) is ∙ at);
      binding_is = same;
    }

-- it leads to the client's end, or an opening of the binding was heard
pub entry_came : (names : List TheRegistration) (NoPlace Requests : Opening → Type 0) (t0 : TheCircuits) (said heard : ℕ → List Frag) (m : TheMonitor) → Sound m.circuits → AreReasoned names NoPlace Requests t0 (as_talk said heard m) → (binding : ℕ) → HasEntry m.circuits binding
    → ((l n : ℕ) × (way_at m.circuits l n ≡ Some (End (client_of binding)))) ⊎ ((l n : ℕ) × (o : Opening) × CameUnder t0 heard l n o × (o.binding ≡ binding))
entry_came names NoPlace Requests t0 said heard m sound reasoned binding x = by x.hop.way refl where
  leads : (way : HopTarget) → x.hop.way ≡ way → Leads m.circuits x.link x.number binding way
  leads way same = leads_of m.circuits x.link x.number x.hop binding way x.at x.binding_is same

  came : (l n : ℕ) (hop : Hop) → OpenedThere m.circuits l n → hop_at m.circuits l n ≡ Some hop → hop.binding ≡ binding → (l n : ℕ) × (o : Opening) × CameUnder t0 heard l n o × (o.binding ≡ binding)
  came l n hop there at same = (let (o, c, is) = reasoned.told l n hop there at in (l, n, o, c, is ∙ same))

  here : (way : HopTarget) → x.hop.way ≡ way → IsClientWay m.circuits.core m.circuits.links binding way
      → ((l n : ℕ) × (way_at m.circuits l n ≡ Some (End (client_of binding)))) ⊎ ((l n : ℕ) × (o : Opening) × CameUnder t0 heard l n o × (o.binding ≡ binding))
  here (End e) same client = inl (x.link, x.number, way_of m.circuits x.link x.number x.hop (End (client_of binding)) x.at (same ∙ ap End client))
  here (Link m d) same taken =
      let back = sound.both (record { 0 = x.link }) m (record { 0 = x.number }) d binding (leads (Link m d) same) in
      let hop : Hop = record { binding = binding; way = Link (record { 0 = x.link }) (record { 0 = x.number }); answered = back.answered } in
      inr (came m.0 d.0 hop taken back.there refl)

  by : (way : HopTarget) → x.hop.way ≡ way → ((l n : ℕ) × (way_at m.circuits l n ≡ Some (End (client_of binding)))) ⊎ ((l n : ℕ) × (o : Opening) × CameUnder t0 heard l n o × (o.binding ≡ binding))
  by way same = elim (sound.toward x.link x.number binding way (leads way same)) [
    | inl own ↦ here way same own.1
    | inr other ↦ inr (came x.link x.number x.hop other.0 x.at x.binding_is)
  ]

-- ---- why an opening is refused

used_up : (o : Option ℕ) → if_used_up o ≡ Some Misrouted → ⊥
used_up None h = cc
used_up (Some n) h = cc

stands_by : (a b : Bool) (o : Option ℕ) → (if a then (if b then Some Misrouted else if_used_up o) else Some NoLink) ≡ Some Misrouted → b ≡ true
stands_by true true o h = refl
stands_by true false o h = absurd (used_up o h)
stands_by false b o h = absurd (cc)

no_link_by : (a b : Bool) (o : Option ℕ) → (if a then (if b then Some Misrouted else if_used_up o) else Some NoLink) ≡ Some NoLink → a ≡ false
no_link_by true true o h = absurd (cc)
no_link_by true false None h = absurd (cc)
no_link_by true false (Some n) h = absurd (cc)
no_link_by false b o h = refl

no_number_by : (a b : Bool) (o : Option ℕ) → (if a then (if b then Some Misrouted else if_used_up o) else Some NoLink) ≡ Some NoNumber → (a ≡ true) × (o ≡ None)
no_number_by true true o h = absurd (cc)
no_number_by true false None h = (refl, refl)
no_number_by true false (Some n) h = absurd (cc)
no_number_by false b o h = absurd (cc)

none_past : {X : Type 0} (xs : List X) (l : ℕ) → length xs ≤ l → slice_get xs l ≡ None
none_past [] l past = refl
none_past (x ∷ xs) zero past = absurd (omega (arith, past))
none_past (x ∷ xs) (suc l) past = none_past xs l (omega (arith, past))

-- why a core whose table is this refuses the opening that is to begin on link l
abbrev pub RefusesOn : Type 0 → TheCircuits → ℕ → ℕ → Type 0
RefusesOn Full t l reason = ((reason ≡ 54) × Full) ⊎ ((reason ≡ 73) × (slice_get t.links l ≡ None)) ⊎ ((reason ≡ 74) × IsUsedUp t l)

no_link : (t : TheCircuits) (l binding : ℕ) → open_fault t l binding ≡ Some NoLink → slice_get t.links l ≡ None
no_link t l binding h =
    let past : nat_lt l (length t.links) ≡ false = no_link_by (nat_lt l (length t.links)) (stands t binding) (next_own t l) h in
    none_past t.links l (grind (arith, nat_tests, past))

no_number : (t : TheCircuits) (l binding : ℕ) → open_fault t l binding ≡ Some NoNumber → IsUsedUp t l
no_number t l binding h =
    let (inside, none) = no_number_by (nat_lt l (length t.links)) (stands t binding) (next_own t l) h in
    let (link, at) = at_within t.links l (ltb-true l (length t.links) inside) in
    is_used_up t l link at none

-- for a reason, or since an entry of the binding stands, where memory wasn't wanted
by_board : (Full : Type 0) (b : TheBoard) (n : ℕ) (s : TheEnd) (kind : ChannelKind) (fault : BoardFault)
    → ((d : TheDispatcher) → slice_get b.dispatchers n ≡ Some d → length d.ends ≡ 1024 → Full) → Adds b n s kind (Err fault) b
    → lacks_to_open (Err (opening.Board fault)) ≡ false → (open_number (opening.Board fault) ≡ 54) × Full
by_board Full b n s kind board.TooManyEnds full h ample = (refl, full h.0.0 h.0.1 h.0.2)
by_board Full b n s kind board.Memory full h ample = absurd (cc)
by_board Full b n s kind board.NotBound full h ample = absurd h
by_board Full b n s kind board.Registered full h ample = absurd h
by_board Full b n s kind board.NotRegistered full h ample = absurd h
by_board Full b n s kind board.Failed full h ample = absurd h

by_monitor : (Full : Type 0) (l : LinkId) (o : Opening) (m : TheMonitor) (fault : MonitorFault) → Opens l o m (Err fault) m → (fault ≡ monitor.OutboxFull → ⊥)
    → lacks_to_open (Err (opening.Monitor fault)) ≡ false → RefusesOn Full m.circuits l.0 (open_number (opening.Monitor fault)) ⊎ (stands m.circuits o.binding ≡ true)
by_monitor Full l o m monitor.OutboxFull h some ample = absurd (some refl)
by_monitor Full l o m monitor.Memory h some ample = absurd (cc)
by_monitor Full l o m monitor.NoRoute h some ample = inl (inr (inl (refl, no_link m.circuits l.0 o.binding h.0)))
by_monitor Full l o m monitor.UsedUp h some ample = inl (inr (inr (refl, no_number m.circuits l.0 o.binding h.0)))
by_monitor Full l o m monitor.Misrouted h some ample =
    inr (stands_by (nat_lt l.0 (length m.circuits.links)) (stands m.circuits o.binding) (next_own m.circuits l.0) h.0)
by_monitor Full l o m monitor.Differs h some ample = absurd h.0
by_monitor Full l o m monitor.PlansDiffer h some ample = absurd h.0

pub refused_here : (Full : Type 0) (a : Asked) (k k2 : TheCore) (fault : OpenFault)
    → ((d : TheDispatcher) → slice_get k.board.dispatchers a.dispatcher ≡ Some d → length d.ends ≡ 1024 → Full) → Asks a k (Err fault) k2 → (fault ≡ opening.Monitor monitor.OutboxFull → ⊥)
    → lacks_to_open (Err fault) ≡ false → RefusesOn Full k.monitor.circuits a.link.0 (open_number fault) ⊎ (stands k.monitor.circuits a.opening.binding ≡ true)
refused_here Full a k k2 (opening.Board fault) full h some ample = inl (inl (by_board Full k.board a.dispatcher (fresh a.program None) Queue fault full h.0 ample))
refused_here Full a k k2 (opening.Monitor fault) full h some ample = by_monitor Full a.link a.opening k.monitor fault h.1 (λ is. some (ap opening.Monitor is)) ample
