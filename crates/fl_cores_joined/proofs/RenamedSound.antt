-- What is known of a core at any time is known of it under other numbers of bindings.
use Rattle.std.proofs.Common.{◌≡◌, ◌⊎◌, ◌∙◌, ℕ, refl, subst, inl, inr, Bool, List, None, Option, Some, ap, length, option_map, sym}
use Rattle.fl_base.specs.declared.identity.Circuit.{Circuit}
use Rattle.fl_base.specs.declared.identity.EndId.{EndId}
use Rattle.fl_base.specs.declared.identity.LinkId.{LinkId}
use Rattle.fl_core.specs.BoardSound.{IsBoard}
use Rattle.fl_core.specs.View.{TheCore}
use Rattle.fl_hop.specs.Table.{TheCircuits, hop_at, leading}
use Rattle.fl_hop.specs.declared.entry.Hop.{Hop}
use Rattle.fl_hop.specs.declared.entry.HopTarget.{HopTarget}
use Rattle.fl_hop.specs.declared.links.LinkState.{LinkState}
use Rattle.std.specs.List.{AllZip}
use Rattle.fl_base.specs.declared.identity.Side.TheVariants.{Client, Server}
use Rattle.fl_hop.specs.declared.entry.HopTarget.TheVariants.{Link, End}
use Rattle.fl_hop.specs.Joined.{Sound as IsTable, Leads, IsClientWay, IsServerWay}
use Rattle.fl_core_run.specs.LogEntries.{IsSound}
use Rattle.fl_world_refines.specs.View.{IsWhole}
use Rattle.fl_cores_joined.proofs.Passing.{long_map}
use Rattle.fl_cores_joined.specs.Renamed.{Renaming, reversed, end_under, way_under, hop_under, circuits_under, SaysRenamed, CoreUnder}
use Rattle.fl_cores_joined.proofs.RenamedTable.{hop_there}
use Rattle.fl_cores_joined.proofs.RenamedCore.{cores_stay}
use Rattle.fl_cores_joined.proofs.RenamedSteps.{zip_long}
use Rattle.fl_cores_joined.proofs.RenamedLinks.{board_is, links_are}

module _ (r : Renaming) where
  -- ---- where an entry leads, by the way back

  way_here : (way : HopTarget) → way_under r (way_under (reversed r) way) ≡ way
  way_here (Link l c) = refl
  way_here (End e) = λ i. End (record { binding = r.here e.binding i; side = e.side })

  back_at : (o : Option Hop) (binding : ℕ) (answered : Bool) (way : HopTarget) → option_map (hop_under r) o ≡ leading binding answered way
      → o ≡ leading (r.back binding) answered (way_under (reversed r) way)
  back_at None binding answered way h = absurd (cc)
  back_at (Some hop) binding answered way h =
      let same : hop_under r hop ≡ record { binding = binding; way = way; answered = answered } = cc in
      let number : r.to hop.binding ≡ binding = ap (λ (x : Hop). x.binding) same in
      let leads : way_under r hop.way ≡ way = ap (λ (x : Hop). x.way) same in
      let flag : hop.answered ≡ answered = ap (λ (x : Hop). x.answered) same in
      let here : hop.binding ≡ r.back binding = sym (r.there hop.binding) ∙ ap r.back number in
      let goes : hop.way ≡ way_under (reversed r) way = sym (way_home hop.way) ∙ ap (way_under (reversed r)) leads in
      λ i. Some (record { binding = here i; way = goes i; answered = flag i })
    where
      way_home : (w : HopTarget) → way_under (reversed r) (way_under r w) ≡ w
      way_home (Link l c) = refl
      way_home (End e) = λ i. End (record { binding = r.there e.binding i; side = e.side })

  module _ (t : TheCircuits) where
    abbrev u : TheCircuits
    u = circuits_under r t

    leads_back : (l n binding : ℕ) (way : HopTarget) → Leads u l n binding way → Leads t l n (r.back binding) (way_under (reversed r) way)
    leads_back l n binding way h = record {
      answered = h.answered;
      there = back_at (hop_at t l n) binding h.answered way (sym (hop_there r t l n) ∙ h.there);
    }

    leads_on : (l n binding : ℕ) (way : HopTarget) → Leads t l n (r.back binding) way → Leads u l n binding (way_under r way)
    leads_on l n binding way h = record {
      answered = h.answered;
      there = hop_there r t l n ∙ ap (option_map (hop_under r)) h.there
          ∙ ap (λ (b : ℕ). leading b h.answered (way_under r way)) (r.here binding);
    }

    client_way : (binding : ℕ) (way : HopTarget) → IsClientWay t.core t.links (r.back binding) (way_under (reversed r) way)
        → IsClientWay t.core t.links binding way
    client_way binding (Link l c) h = h
    client_way binding (End e) h =
        sym (end_here e) ∙ ap (end_under r) h ∙ (λ i. record { binding = r.here binding i; side = Client })
      where
        end_here : (x : EndId) → end_under r (end_under (reversed r) x) ≡ x
        end_here x = λ i. record { binding = r.here x.binding i; side = x.side }

    server_way : (binding : ℕ) (way : HopTarget) → IsServerWay t.core t.links (r.back binding) (way_under (reversed r) way)
        → IsServerWay t.core t.links binding way
    server_way binding (Link l c) h = h
    server_way binding (End e) h =
        sym (end_here e) ∙ ap (end_under r) h ∙ (λ i. record { binding = r.here binding i; side = Server })
      where
        end_here : (x : EndId) → end_under r (end_under (reversed r) x) ≡ x
        end_here x = λ i. record { binding = r.here x.binding i; side = x.side }

    one_way : (l m : LinkId) (c d : Circuit) (a : HopTarget) → ((l ≡ m) × (c ≡ d)) ⊎ (way_under (reversed r) a ≡ Link m d)
        → ((l ≡ m) × (c ≡ d)) ⊎ (a ≡ Link m d)
    one_way l m c d a (inl same) = inl same
    one_way l m c d a (inr other) = inr (sym (way_here a) ∙ ap (way_under r) other)

    pub table_under : IsTable t → IsTable u
    table_under h = record {
      few = h.few;
      whole = long_map (option_map (hop_under r)) t.hops ∙ h.whole;
      apart = h.apart;
      once = h.once;
      counts = h.counts;
      toward = λ l n binding way leads.
          elim (h.toward l n (r.back binding) (way_under (reversed r) way) (leads_back l n binding way leads)) [
            | inl (here, is) ↦ inl (here, client_way binding way is)
            | inr (there, is) ↦ inr (there, server_way binding way is)
          ];
      both = λ l m c d binding leads.
          leads_on m.0 d.0 binding (Link l c) (h.both l m c d (r.back binding) (leads_back l.0 c.0 binding (Link m d) leads));
      over = λ l n binding m d leads. h.over l n (r.back binding) m d (leads_back l n binding (Link m d) leads);
      one = λ l m c d binding a b p q.
          one_way l m c d a
          (h.one l m c d (r.back binding) (way_under (reversed r) a) (way_under (reversed r) b) (leads_back l.0 c.0 binding a p)
          (leads_back m.0 d.0 binding b q));
    }

  -- ---- a core

  module _ (k kk : TheCore) (u : CoreUnder r k kk) where
    pub sound_under : IsSound k → IsSound kk
    sound_under h = record {
      core = cores_stay r k kk u h.core;
      board = subst IsBoard (sym (board_is r k kk u)) h.board;
      table = subst IsTable (sym u.circuits) (table_under k.monitor.circuits h.table);
    }

    pub whole_under : IsWhole k → IsWhole kk
    whole_under h = record {
      core = cores_stay r k kk u h.core;
      board = subst IsBoard (sym (board_is r k kk u)) h.board;
      outboxes = zip_long (AllZip (SaysRenamed r)) k.monitor.outboxes kk.monitor.outboxes u.outboxes ∙ h.outboxes
          ∙ sym (ap (λ (ls : List LinkState). length ls) (links_are r k kk u));
    }
