-- How cores are wired stays, whatever they do; and what is known of them is known of them under other numbers of bindings.
use Rattle.std.proofs.Common.{◌≡◌, ◌∙◌, ℕ, refl, subst, inl, inr, arith, Bool, List, None, Option, Some, ap, slice_get, sym}
use Rattle.fl_base.specs.Given.{given}
use Rattle.fl_core.specs.View.{TheCore}
use Rattle.fl_core.specs.declared.core_job.CoreJob.{CoreJob}
use Rattle.fl_core.specs.declared.wiring.LinkSide.{LinkSide}
use Rattle.fl_core_run.specs.LogEntries.{LogEntry}
use Rattle.fl_core_run.specs.Run.{TheRun}
use Rattle.fl_cores_joined.specs.Joined.{AreWhole, JoinedCore, alone}
use Rattle.fl_ring.specs.SharedSides.{TheSide}
use Rattle.fl_core.specs.declared.wiring.EndWiring.TheVariants.{Ring}
use Rattle.fl_core.specs.declared.wiring.EndWiring.{EndWiring}
use Rattle.fl_core_run_laws.proofs.Aside.{core_aside}
use Rattle.fl_core_run_laws.proofs.Growing.{Grows, IsCircuit, does_grow}
use Rattle.fl_core_run_laws.proofs.Leads.{does_led}
use Rattle.fl_core_run_laws.specs.Led.{IsLed}
use Rattle.fl_hop.proofs.Lists.{set_cases, within, at_within}
use Rattle.fl_cores_joined.specs.Steps.{true_ways, HappensAt}
use Rattle.fl_cores_joined.specs.Renamed.{Renaming, AreUnder}
use Rattle.fl_cores_joined.specs.RenamedRuns.{IsWiredFor, AreWiredFor}
use Rattle.fl_cores_joined.proofs.Exchanging.{sides_stay}
use Rattle.fl_cores_joined.proofs.RenamedSound.{whole_under}

pub side_found : (ls : List LinkSide) (l side : ℕ) (o : Option LinkSide) → slice_get ls l ≡ o → (given o None λ (x : LinkSide). Some x.side) ≡ Some side
    → (x : LinkSide) × (slice_get ls l ≡ Some x) × (x.side ≡ side)
side_found ls l side None q h = absurd (cc)
side_found ls l side (Some x) q h = (x, q, let e : x.side ≡ side = cc in e)

no_ring : (w : EndWiring) (side : ℕ) → w ≡ Ring side → IsCircuit w → ⊥
no_ring w side same h = subst IsCircuit same h

module _ (links : ℕ → Bool) (jobs : List CoreJob) (n : ℕ) (log_entry : LogEntry) (xs ms : List JoinedCore) (h : HappensAt jobs n log_entry xs ms)
    (wired : AreWiredFor links xs) where
  was : IsWiredFor links h.before
  was = wired n h.before h.before_is

  core_was : h.beside.core ≡ h.before.run.core
  core_was = ap (λ (t : TheRun TheSide). t.core) h.beside_is.own

  core_is : h.after.core ≡ h.happens.0.core
  core_is = core_aside h.happens.0 h.after log_entry h.happens.2

  grows : Grows h.before.run.core h.after.core
  grows =
      subst (λ (k : TheCore). Grows k h.after.core) core_was
      (subst (λ (k : TheCore). Grows h.beside.core k) (sym core_is) (does_grow true_ways log_entry h.beside h.happens.0 h.happens.1))

  abbrev last : JoinedCore
  last = record h.before { run = alone h.after }

  wired_last : IsWiredFor links last
  wired_last = record {
    long = was.long ∙ sym (sides_stay jobs n log_entry xs ms h);
    link_sides = λ l side number side_is number_is.
        let (x, x_is, same) = side_found h.after.core.link_sides l side (slice_get h.after.core.link_sides l) refl side_is in
        let (before, before_is, kept) = grows.link_sides.1 l x x_is in
        was.link_sides l side number
        (ap (λ (o : Option LinkSide). given o None λ (z : LinkSide). Some z.side) before_is ∙ ap (λ (i : ℕ). Some i) (sym kept ∙ same)) number_is;
    rings = λ e side number p p_is ring number_is.
        elim (grows.wired_ends.1 e p p_is) [
          | inl stood ↦ was.rings e side number p stood ring number_is
          | inr circuit ↦ absurd (no_ring p.wiring side ring circuit)
        ];
    led =
        subst IsLed (sym core_is)
        (does_led true_ways jobs h.beside h.happens.0 h.happens.3.core h.happens.3.table (subst IsLed (sym core_was) was.led) log_entry h.in_place h.happens.1);
  }

  pub wired_on : AreWiredFor links ms
  wired_on k x x_is =
      elim (set_cases xs n last k x (ap (λ (l : List JoinedCore). slice_get l k) (sym h.rest) ∙ x_is)) [
        | inl (place, same) ↦ subst (IsWiredFor links) (sym same) wired_last
        | inr (apart, stood) ↦ wired k x stood
      ]

-- cores are whole under other numbers
pub whole_there : (r : Renaming) (links : ℕ → Bool) (xs ys : List JoinedCore) → AreUnder r links xs ys → AreWhole xs → AreWhole ys
whole_there r links xs ys a whole n y y_is =
    let less = within ys n y y_is in
    let count = a.count in
    let (x, x_is) = at_within xs n (omega (arith, less, count)) in
    whole_under r x.run.core y.run.core (a.each n x y x_is y_is).run.core (whole n x x_is)
