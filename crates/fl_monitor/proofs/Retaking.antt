-- The link that was added last is taken back: base is the monitor with it, and m the one before.
use Rattle.std.proofs.Common.{◌≡◌, sym, ap, ◌∙◌, subst, ℕ, ◌-◌, List, [], ◌∷◌, ◌++◌, length, take, length-append, arith}
use Rattle.fl_base.specs.declared.fragment.Frag.{Frag}
use Rattle.fl_base.specs.declared.identity.CoreId.{CoreId}
use Rattle.fl_hop.specs.declared.links.LinkState.{LinkState}
use Rattle.fl_hop.specs.Table.{TheCircuits}
use Rattle.fl_hop.proofs.Lists.{pop_front}
use Rattle.fl_monitor.specs.Monitors.{TheMonitor, HasOutboxes, with_new_link}

module _ (m base : TheMonitor) (to : CoreId) (grown : base ≡ with_new_link m to) (circuits : TheCircuits) (circuits_are : circuits ≡ m.circuits)
    (outboxes : List (List Frag)) (many : ℕ) (many_is : many ≡ length base.outboxes) (outboxes_are : outboxes ≡ take (many - 1) base.outboxes) where
  pub monitor_back : (let x : TheMonitor = record { circuits = circuits; outboxes = outboxes } in x) ≡ m
  monitor_back =
      let none : List Frag = [] in
      let boxes : outboxes ≡ m.outboxes = pop_front base.outboxes m.outboxes outboxes none many many_is outboxes_are (ap (λ (x : TheMonitor). x.outboxes) grown) in
      ap (λ (t : TheCircuits). let x : TheMonitor = record { circuits = t; outboxes = outboxes } in x) circuits_are
      ∙ ap (λ (o : List (List Frag)). let x : TheMonitor = record { circuits = m.circuits; outboxes = o } in x) boxes

  pub monitor_kept : HasOutboxes base → HasOutboxes (record { circuits = circuits; outboxes = outboxes })
  monitor_kept sound =
      let none : List Frag = [] in
      let link : LinkState = record { neighbour = to; opened = 0; taken = 0 } in
      let boxes : length base.outboxes ≡ length (m.outboxes ++ none ∷ []) = ap (λ (x : TheMonitor). length x.outboxes) grown in
      let links : length base.circuits.links ≡ length (m.circuits.links ++ link ∷ []) = ap (λ (x : TheMonitor). length x.circuits.links) grown in
      let before : HasOutboxes m = omega (arith, sound, boxes, links, length-append m.outboxes (none ∷ []), length-append m.circuits.links (link ∷ [])) in
      subst HasOutboxes (sym monitor_back) before
