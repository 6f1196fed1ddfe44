-- What went over a core's links in a run, and over one link between two cores.
use Rattle.std.proofs.Common.{◌≡◌, ◌⊎◌, inl, inr, refl, sym, ap, ◌∙◌, subst, ℕ, List, [], ◌∷◌, ◌++◌, map, slice_get, Option, Some, None}
use Rattle.std.proofs.lemmas.List.{map-append}
use Rattle.fl_base.specs.declared.fragment.Frag.{Frag}
use Rattle.fl_base.specs.declared.identity.LinkId.{LinkId}
use Rattle.fl_base.specs.Control.{bare}
use Rattle.fl_base.specs.Prefix.{IsPrefix}
use Rattle.fl_base.specs.Given.{given}
use Rattle.fl_cores_shares.specs.Settled.{RingsConserve}
use Rattle.fl_hop.specs.Stretch.{TableStep, put_on, taken_from}
use Rattle.fl_core.specs.View.{side_of_link}
use Rattle.fl_ring.specs.SharedSides.{TheSide}
use Rattle.fl_core.specs.declared.core_job.CoreJob.{CoreJob}
use Rattle.fl_core_run.specs.Run.{SideRelations, TheRun}
use Rattle.fl_core_run.specs.LogEntries.{LogEntry}
use Rattle.fl_core_run_laws.specs.Logs.{Goes}
use Rattle.fl_core_run_laws.specs.Flows.{IsApart, SideCarries}
use Rattle.fl_core_run_laws.proofs.Apart.{side_after, stays_apart}
use Rattle.fl_core_run_laws.proofs.Bearing.{ring_put, log_ring_put, log_ring_took, log_bears}
use Rattle.fl_core_run_laws.proofs.Laning.{event_steps, links_put, links_took}
use Rattle.fl_core_run_laws.proofs.Stepping.{grows, log_steps}
use Rattle.fl_cores_laws.specs.Cores.{shared_ways, OneCore}
use Rattle.fl_cores_laws.specs.Circuits.{AreOneLink}
use Rattle.fl_cores_laws.specs.Crossing.{Crosses}
use Rattle.fl_cores_laws.specs.Named.{Has}
use Rattle.fl_cores_laws.proofs.Logged.{put_joins, took_joins}
use Rattle.fl_cores_laws.proofs.Named.{has_first}
use Rattle.fl_cores_laws.proofs.Passages.{through_rings}

-- ---- fragments

-- where no outbox has any none waits
pub none_waits : (f : Frag) (o : Option (List Frag)) → ((frags : List Frag) → o ≡ Some frags → frags ≡ []) → Has f (given o [] (λ box. box)) → ⊥
none_waits f None none h = h
none_waits f (Some frags) none h = subst (Has f) (none frags refl) h

-- of the first of a list each is one of the list
pub has_before : (f : Frag) (xs ys : List Frag) → IsPrefix xs ys → Has f xs → Has f ys
has_before f xs ys p h = subst (Has f) (sym p.1) (has_first f xs p.0 h)

-- ---- over a core's links

module _ {S : Type 0} (w : SideRelations S) (jobs : List CoreJob) where
  link_put : (log : List LogEntry) (s t : TheRun S) (h : Goes w jobs s log t) → IsApart s.core → (l i : ℕ) → side_of_link s.core.link_sides l ≡ Some i
      → map bare (log_ring_put w jobs log s t h i) ≡ put_on l (log_steps w jobs log s t h)
  link_put [] s t h apart_is l i link_side = refl
  link_put (log_entry ∷ log) s t h apart_is l i link_side =
      let grown = grows w jobs log_entry s h.1.0 h.0 h.1.1 h.1.2 in
      map-append bare (ring_put w log_entry s h.1.0 h.1.1 i) (log_ring_put w jobs log h.0 t h.3 i)
      ∙ ap (λ (xs : List Frag). xs ++ map bare (log_ring_put w jobs log h.0 t h.3 i)) (links_put w jobs s h.1.0 apart_is l i link_side log_entry h.2 h.1.1)
      ∙ ap (λ (xs : List Frag). put_on l (event_steps w jobs log_entry s h.1.0 h.2 h.1.1) ++ xs)
      (link_put log h.0 t h.3 (stays_apart s.core h.0.core grown apart_is) l i (side_after s.core.link_sides h.0.core.link_sides l i grown.link_sides link_side))
      ∙ sym (put_joins l (event_steps w jobs log_entry s h.1.0 h.2 h.1.1) (log_steps w jobs log h.0 t h.3))

  link_took : (log : List LogEntry) (s t : TheRun S) (h : Goes w jobs s log t) → IsApart s.core → (l i : ℕ) → side_of_link s.core.link_sides l ≡ Some i
      → log_ring_took w jobs log s t h i ≡ taken_from l (log_steps w jobs log s t h)
  link_took [] s t h apart_is l i link_side = refl
  link_took (log_entry ∷ log) s t h apart_is l i link_side =
      let grown = grows w jobs log_entry s h.1.0 h.0 h.1.1 h.1.2 in
      ap (λ (xs : List Frag). xs ++ log_ring_took w jobs log h.0 t h.3 i) (links_took w jobs s h.1.0 apart_is l i link_side log_entry h.2 h.1.1)
      ∙ ap (λ (xs : List Frag). taken_from l (event_steps w jobs log_entry s h.1.0 h.2 h.1.1) ++ xs)
      (link_took log h.0 t h.3 (stays_apart s.core h.0.core grown apart_is) l i (side_after s.core.link_sides h.0.core.link_sides l i grown.link_sides link_side))
      ∙ sym (took_joins l (event_steps w jobs log_entry s h.1.0 h.2 h.1.1) (log_steps w jobs log h.0 t h.3))

  pub side_carries : (log : List LogEntry) (s t : TheRun S) (h : Goes w jobs s log t) → IsApart s.core → (l n : ℕ) (p : S) → side_of_link s.core.link_sides l ≡ Some n → slice_get s.rings n ≡ Some p
      → SideCarries w.puts w.takes (record { put = put_on l (log_steps w jobs log s t h); took = taken_from l (log_steps w jobs log s t h) }) p t.rings n
  side_carries log s t h apart_is l n p link_side there =
      let (q, after, c) = log_bears w jobs log s t h n p there in
      record {
        after = q;
        after_is = after;
        looks = c.looks;
        led = c.led;
        put_is = ap (map bare) c.put_is ∙ link_put log s t h apart_is l n link_side;
        took_is = c.took_is ∙ link_took log s t h apart_is l n link_side;
      }

-- ---- over one link

-- the sides of a core's links placed and took what these steps put on them and took from them
abbrev pub AreCarried : OneCore → List TableStep → Type 0
AreCarried c steps = (l n : ℕ) (p : TheSide) → side_of_link c.start.core.link_sides l ≡ Some n → slice_get c.start.rings n ≡ Some p
    → SideCarries shared_ways.puts shared_ways.takes (record { put = put_on l steps; took = taken_from l steps }) p c.finish.rings n

module _ (rings : RingsConserve) (c d : OneCore) (xs ys : List TableStep) (x : AreCarried c xs) (y : AreCarried d ys) (l m : LinkId) where
  abbrev BothWays : Type 0
  BothWays = IsPrefix (taken_from m.0 ys) (put_on l.0 xs) × IsPrefix (taken_from l.0 xs) (put_on m.0 ys)

  by_ring : (near far : ℕ) → side_of_link c.start.core.link_sides l.0 ≡ Some near → side_of_link d.start.core.link_sides m.0 ≡ Some far
      → Crosses c.start.rings c.finish.rings d.start.rings d.finish.rings near far ⊎ Crosses d.start.rings d.finish.rings c.start.rings c.finish.rings far near → BothWays
  by_ring near far here there (inl ring) =
      through_rings rings c.start.rings c.finish.rings d.start.rings d.finish.rings near far ring (put_on l.0 xs) (taken_from l.0 xs) (put_on m.0 ys) (taken_from m.0 ys)
      (x l.0 near ring.one here ring.one_is) (y m.0 far ring.two there ring.two_is)
  by_ring near far here there (inr ring) =
      let both = through_rings rings d.start.rings d.finish.rings c.start.rings c.finish.rings far near ring (put_on m.0 ys) (taken_from m.0 ys) (put_on l.0 xs) (taken_from l.0 xs)
      (y m.0 far ring.one there ring.one_is) (x l.0 near ring.two here ring.two_is) in
      (both.1, both.0)

  -- what each of its cores took from it is the first of what the other put there
  pub both_ways : AreOneLink c l d m → IsPrefix (taken_from m.0 ys) (put_on l.0 xs) × IsPrefix (taken_from l.0 xs) (put_on m.0 ys)
  both_ways link = by_ring link.near link.far link.near_is link.far_is link.ring
