-- What is known of the core at any moment, as worlds want it.
use Rattle.std.proofs.Common.{◌≡◌, refl, sym, ◌∙◌, ap, subst, List, [], ◌∷◌, length, map, arith}
use Rattle.fl_base.specs.declared.fragment.Frag.{Frag}
use Rattle.fl_core.specs.declared.wiring.LinkSide.{LinkSide}
use Rattle.fl_core.specs.View.{TheCore}
use Rattle.fl_monitor.specs.Monitors.{HasOutboxes}
use Rattle.fl_model.specs.Monitors.{Link}
use Rattle.fl_world_refines.specs.Cores.{OutboxesShow}
use Rattle.fl_world_refines.specs.View.{TheWorld, IsWhole}
use Rattle.fl_world_refines.specs.ShowsState.{link_side_of, CoreShows}
use Rattle.fl_world_refines.proofs.FramesBase.{gets}
use Rattle.fl_core_run.specs.Run.{TheRun}
use Rattle.fl_core_run.specs.LogEntries.{IsSound}
use Rattle.fl_core_refines.specs.AloneTurns.{MachineRun}
use Rattle.fl_core_refines.specs.AloneShown.{world_with, ShowsAlone}

no_links : (link_sides : List LinkSide) (links : List Link) → link_sides ≡ map link_side_of links → link_sides ≡ [] → links ≡ []
no_links link_sides [] q none = refl
no_links link_sides (l ∷ links) q none = let other : [] ≡ link_side_of l ∷ map link_side_of links = sym none ∙ q in absurd (cc)

no_boxes : (links : List Link) (outboxes : List (List Frag)) → OutboxesShow links outboxes → links ≡ [] → outboxes ≡ []
no_boxes [] [] h q = refl
no_boxes [] (b ∷ outboxes) h q = absurd h
no_boxes (l ∷ links) outboxes h q = absurd (cc)

none_long : {X : Type 0} (xs : List X) → 0 ≡ length xs → xs ≡ []
none_long [] q = refl
none_long (x ∷ xs) q = absurd (omega (arith, q))

-- the monitor has nothing to say
pub no_outboxes : {S : Type 0} (w : TheWorld) (r : TheRun S) (a : MachineRun) → ShowsAlone w r a → r.core.monitor.outboxes ≡ []
no_outboxes w r a x =
    let p = x.shows.showing in
    let k = gets (world_with w r).cores a.state.cores 0 r.core (sym p.cores.count) refl in
    let shown : CoreShows k.0 r.core = p.cores.each 0 k.0 r.core k.1 refl in
    no_boxes k.0.links r.core.monitor.outboxes shown.monitor.outboxes (no_links r.core.link_sides k.0.links shown.link_sides x.no_links)

pub whole_of : {S : Type 0} (w : TheWorld) (r : TheRun S) (a : MachineRun) → ShowsAlone w r a → IsSound r.core → IsWhole r.core
whole_of w r a x sound =
    let none : 0 ≡ length r.core.monitor.circuits.links = ap (λ (ls : List LinkSide). length ls) (sym x.no_links) ∙ sound.core.link_sides in
    record {
      core = sound.core;
      board = sound.board;
      outboxes = ap (λ (bs : List (List Frag)). length bs) (no_outboxes w r a x) ∙ none;
    }

pub whole_after : (c d : TheCore) → IsWhole c → IsSound d → d.monitor ≡ c.monitor → IsWhole d
whole_after c d h sound same = record { core = sound.core; board = sound.board; outboxes = subst HasOutboxes (sym same) h.outboxes }
