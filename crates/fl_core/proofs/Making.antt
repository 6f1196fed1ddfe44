-- A link or an end is added: k is the core before, and base the same by its fields.
use Rattle.std.proofs.Common.{◌≡◌, refl, sym, ap, ◌∙◌, subst, ℕ, ◌<◌, false, List, [], ◌∷◌, ◌++◌, length, slice_set, Option, Some, None, Ok, Err, arith}
use Rattle.fl_base.specs.declared.identity.CoreId.{CoreId}
use Rattle.fl_base.specs.declared.fragment.Frag.{Frag}
use Rattle.fl_endpoint.specs.View.{TheEnd}
use Rattle.fl_hop.specs.Table.{TheCircuits, with_link}
use Rattle.fl_core.specs.declared.kind.ChannelKind.{ChannelKind}
use Rattle.fl_core.specs.declared.board_fault.BoardFault.{BoardFault}
use Rattle.fl_core.specs.BoardView.{TheEndAtChannel, TheBoard}
use Rattle.fl_core.specs.BoardEvents.{Adds}
use Rattle.fl_monitor.specs.Monitors.{TheMonitor}
use Rattle.fl_core.specs.declared.wiring.EndWiring.{EndWiring}
use Rattle.fl_core.specs.declared.wiring.EndWiring.TheVariants.{Queues, Ring, Circuit}
use Rattle.fl_core.specs.declared.wiring.WiredEnd.{WiredEnd}
use Rattle.fl_core.specs.declared.wiring.LinkSide.{LinkSide}
use Rattle.fl_core.specs.View.{TheCore, slot_of, place_of, kind_of, arrivals_by, with_wired_end}
use Rattle.fl_core.specs.Sound.{IsCore, IsWired, kinds_seated}
use Rattle.fl_core.specs.Making.{linked, HasNoPlace, AddsWiredEnd}
use Rattle.fl_core.proofs.HasWiredEnd.{seats_wired_ends, grown_kept}

pub linked_is : (k base : TheCore) → base ≡ k → (m : TheMonitor) (link_sides : List LinkSide) (neighbour : CoreId) (side : ℕ)
    → m.circuits ≡ with_link base.monitor.circuits neighbour → m.outboxes ≡ base.monitor.outboxes ++ [] ∷ [] → link_sides ≡ base.link_sides ++ record { side = side; failed = false } ∷ []
    → record base { monitor = m; link_sides = link_sides } ≡ linked k neighbour side
linked_is k base same m link_sides neighbour side circuits outboxes link_sides_are =
    ap (λ (t : TheCircuits). record base { monitor = record { circuits = t; outboxes = m.outboxes }; link_sides = link_sides }) circuits
    ∙ ap (λ (o : List (List Frag)). record base { monitor = record { circuits = with_link base.monitor.circuits neighbour; outboxes = o }; link_sides = link_sides }) outboxes
    ∙ ap (λ (ls : List LinkSide). record base { monitor = record { circuits = with_link base.monitor.circuits neighbour; outboxes = base.monitor.outboxes ++ [] ∷ [] }; link_sides = ls }) link_sides_are
    ∙ ap (λ (x : TheCore). linked x neighbour side) same

-- one end more
kinds_append : (seats : List TheEndAtChannel) (s : TheEndAtChannel) → kinds_seated (seats ++ s ∷ []) ≡ kinds_seated seats ++ s.kind ∷ []
kinds_append [] s = refl
kinds_append (x ∷ seats) s = ap (λ (ks : List ChannelKind). x.kind ∷ ks) (kinds_append seats s)

pub added_kinds : (b c : TheBoard) (n e : ℕ) (s : TheEnd) (kind : ChannelKind) → Adds b n s kind (Ok e) c → kinds_seated c.seats ≡ kinds_seated b.seats ++ kind ∷ []
added_kinds b c n e s kind (e_is, (d, at, few, c_is)) = ap (λ (x : TheBoard). kinds_seated x.seats) c_is ∙ kinds_append b.seats _

lone_wired : (k : TheCore) (w : EndWiring) → arrivals_by w ≡ None → IsWired k w
lone_wired k (Queues out from) h = tt
lone_wired k (Ring side) h = tt
lone_wired k (Circuit link arrivals) h = absurd (cc)

pub no_place_kept : (k base : TheCore) → base ≡ k → (n : ℕ) (s : TheEnd) (p : WiredEnd) (fault : BoardFault) (wired_ends : List WiredEnd) → wired_ends ≡ base.wired_ends → HasNoPlace base.board n fault
    → AddsWiredEnd n s p k (Err fault) (record base { wired_ends = wired_ends })
no_place_kept k base same n s p fault wired_ends wired_ends_are h =
    subst (λ (x : TheCore). AddsWiredEnd n s p x (Err fault) (record base { wired_ends = wired_ends })) same
    (h s (kind_of p.wiring), ap (λ (ps : List WiredEnd). record base { wired_ends = ps }) wired_ends_are)

pub not_added : (k base : TheCore) → base ≡ k → (n : ℕ) (s : TheEnd) (p : WiredEnd) (fault : BoardFault) (wired_ends : List WiredEnd) (b : TheBoard) → wired_ends ≡ base.wired_ends
    → Adds base.board n s (kind_of p.wiring) (Err fault) b → b ≡ base.board → AddsWiredEnd n s p k (Err fault) (record base { board = b; wired_ends = wired_ends })
not_added k base same n s p fault wired_ends b wired_ends_are h kept =
    subst (λ (x : TheCore). AddsWiredEnd n s p x (Err fault) (record base { board = b; wired_ends = wired_ends })) same (
      subst (λ (x : TheBoard). Adds base.board n s (kind_of p.wiring) (Err fault) x) kept h,
      ap (λ (ps : List WiredEnd). record base { board = b; wired_ends = ps }) wired_ends_are ∙ ap (λ (x : TheBoard). record base { board = x }) kept,
    )

module _ (k base : TheCore) (same : base ≡ k) (sound : IsCore base) (n : ℕ) (s : TheEnd) (p : WiredEnd) (place : ℕ) (b : TheBoard) (wired_ends : List WiredEnd) (places : List (Option ℕ))
    (few : p.name.binding < 1024) (new : place_of k p.name ≡ None) (lone : arrivals_by p.wiring ≡ None) (adds : Adds base.board n s (kind_of p.wiring) (Ok place) b)
    (wired_ends_are : wired_ends ≡ base.wired_ends ++ p ∷ []) (places_are : places ≡ slice_set base.places (slot_of p.name) (Some place)) where
  place_is : place ≡ length base.wired_ends
  place_is = adds.0 ∙ seats_wired_ends base sound

  added_is : record base { board = b; wired_ends = wired_ends; places = places } ≡ with_wired_end base b place p
  added_is =
      ap (λ (ps : List WiredEnd). record base { board = b; wired_ends = ps; places = places }) wired_ends_are
      ∙ ap (λ (qs : List (Option ℕ)). record base { board = b; wired_ends = base.wired_ends ++ p ∷ []; places = qs }) places_are

  pub added_kept : IsCore (record base { board = b; wired_ends = wired_ends; places = places })
  added_kept =
      let new_base : place_of base p.name ≡ None = subst (λ (x : TheCore). place_of x p.name ≡ None) (sym same) new in
      let lasts = grown_kept base sound b base.monitor base.arrivals p (added_kinds base.board b n place s (kind_of p.wiring) adds) refl (omega arith) few new_base (lone_wired (record { board = b; monitor = base.monitor; wired_ends = base.wired_ends ++ p ∷ []; places = slice_set base.places (slot_of p.name) (Some (length base.wired_ends)); link_sides = base.link_sides; arrivals = base.arrivals }) p.wiring lone)
      (λ f a q at there mine. absurd (cc (lone, mine))) in
      subst IsCore (sym (added_is ∙ ap (λ (e : ℕ). with_wired_end base b e p) place_is)) lasts

  pub added_adds : AddsWiredEnd n s p k (Ok place) (record base { board = b; wired_ends = wired_ends; places = places })
  added_adds = subst (λ (x : TheCore). AddsWiredEnd n s p x (Ok place) (record base { board = b; wired_ends = wired_ends; places = places })) same (adds, added_is)
