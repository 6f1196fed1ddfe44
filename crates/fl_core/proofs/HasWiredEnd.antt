-- One end more at a core, with its wired end: what is known stays.
use Rattle.std.proofs.Common.{◌≡◌, ◌≢◌, refl, sym, ap, ◌∙◌, subst, ℕ, ◌<◌, ◌≤◌, inl, inr, List, [], ◌∷◌, ◌++◌, length, slice_get, slice_set, Some, None, arith}
use Rattle.std.proofs.lemmas.Option.{slice_get_within}
use Rattle.std.proofs.lemmas.List.{length-map, length-set}
use Rattle.fl_base.specs.declared.identity.EndId.{EndId}
use Rattle.fl_link.specs.Queue.{TheQueue}
use Rattle.fl_core.specs.BoardView.{TheEndAtChannel, TheBoard}
use Rattle.fl_core.specs.declared.kind.ChannelKind.{ChannelKind}
use Rattle.fl_core.proofs.BoardPlaces.{push_stays, push_last, push_cases}
use Rattle.fl_monitor.specs.Monitors.{TheMonitor}
use Rattle.fl_core.specs.declared.wiring.EndWiring.{EndWiring}
use Rattle.fl_core.specs.declared.wiring.EndWiring.TheVariants.{Queues, Ring, Circuit}
use Rattle.fl_core.specs.declared.wiring.WiredEnd.{WiredEnd}
use Rattle.fl_core.specs.View.{TheCore, slot_of, place_of, kind_of, arrivals_by}
use Rattle.fl_core.specs.Sound.{IsCore, IsWired, IsPlaced, kinds_seated, kinds_wired}
use Rattle.fl_core.proofs.Named.{put_here, put_elsewhere, here_or_not}

-- as many ends as wired ends
pub seats_wired_ends : (k : TheCore) → IsCore k → length k.board.seats ≡ length k.wired_ends
seats_wired_ends k sound =
    sym (length-map k.board.seats (λ (s : TheEndAtChannel). s.kind)) ∙ ap length sound.kinds ∙ length-map k.wired_ends (λ (p : WiredEnd). kind_of p.wiring)

-- what is found by a name is on the board
pub placed_below : (k : TheCore) (name : EndId) (e : ℕ) → IsCore k → place_of k name ≡ Some e → e < length k.board.seats
placed_below k name e sound at =
    let it = sound.placed name e at in
    let within = slice_get_within k.wired_ends e it.wired_end it.wired_end_is in
    omega (arith, within, seats_wired_ends k sound)

wired_more : (k k2 : TheCore) (w : EndWiring) → length k.link_sides ≤ length k2.link_sides → length k.arrivals ≤ length k2.arrivals → IsWired k w → IsWired k2 w
wired_more k k2 (Queues out from) link_sides queues h = h
wired_more k k2 (Ring side) link_sides queues h = h
wired_more k k2 (Circuit link arrivals) link_sides queues h = (omega (arith, link_sides, h.0), omega (arith, queues, h.1))

kinds_more : (wired_ends : List WiredEnd) (p : WiredEnd) → kinds_wired (wired_ends ++ p ∷ []) ≡ kinds_wired wired_ends ++ kind_of p.wiring ∷ []
kinds_more [] p = refl
kinds_more (q ∷ wired_ends) p = ap (λ (ks : List ChannelKind). kind_of q.wiring ∷ ks) (kinds_more wired_ends p)

module _ (k : TheCore) (sound : IsCore k) (b : TheBoard) (m : TheMonitor) (queues : List TheQueue) (p : WiredEnd)
    (kinds : kinds_seated b.seats ≡ kinds_seated k.board.seats ++ kind_of p.wiring ∷ []) (links : length m.circuits.links ≡ length k.monitor.circuits.links)
    (longer : length k.arrivals ≤ length queues) (few : p.name.binding < 1024) (new : place_of k p.name ≡ None) where
  abbrev pub grown : TheCore
  grown = record {
    board = b;
    monitor = m;
    wired_ends = k.wired_ends ++ p ∷ [];
    places = slice_set k.places (slot_of p.name) (Some (length k.wired_ends));
    link_sides = k.link_sides;
    arrivals = queues;
  }

  here : place_of grown p.name ≡ Some (length k.wired_ends)
  here = put_here k.places p.name (Some (length k.wired_ends)) sound.slots few

  elsewhere : (name : EndId) → slot_of name ≢ slot_of p.name → place_of grown name ≡ place_of k name
  elsewhere name other = put_elsewhere k.places p.name name (Some (length k.wired_ends)) other

  named_more : (e : ℕ) (q : WiredEnd) → slice_get (k.wired_ends ++ p ∷ []) e ≡ Some q → place_of grown q.name ≡ Some e
  named_more e q at = elim (push_cases k.wired_ends p e q at) [
    | inl last ↦ ap (λ (x : WiredEnd). place_of grown x.name) last.1 ∙ here ∙ ap Some (sym last.0)
    | inr there ↦ old there
  ] where
    old : slice_get k.wired_ends e ≡ Some q → place_of grown q.name ≡ Some e
    old there = elim (here_or_not q.name p.name) [
      | inl same ↦ absurd (cc (sound.named e q there, ap (place_of k) same, new))
      | inr other ↦ elsewhere q.name other ∙ sound.named e q there
    ]

  placed_more : (name : EndId) (e : ℕ) → place_of grown name ≡ Some e → IsPlaced (k.wired_ends ++ p ∷ []) name e
  placed_more name e at = elim (here_or_not name p.name) [
    | inl same ↦ last same
    | inr other ↦ old (sym (elsewhere name other) ∙ at)
  ] where
    last : name ≡ p.name → IsPlaced (k.wired_ends ++ p ∷ []) name e
    last same =
        let it : length k.wired_ends ≡ e = cc (here, ap (place_of grown) same, at) in
        record { wired_end = p; wired_end_is = subst (λ (x : ℕ). slice_get (k.wired_ends ++ p ∷ []) x ≡ Some p) it (push_last k.wired_ends p); name_is = sym same }

    old : place_of k name ≡ Some e → IsPlaced (k.wired_ends ++ p ∷ []) name e
    old there =
        let it = sound.placed name e there in
        record { wired_end = it.wired_end; wired_end_is = push_stays k.wired_ends p e it.wired_end it.wired_end_is; name_is = it.name_is }

  module _ (wired : IsWired grown p.wiring) (fresh : (f a : ℕ) (q : WiredEnd) → slice_get k.wired_ends f ≡ Some q → arrivals_by q.wiring ≡ Some a → arrivals_by p.wiring ≡ Some a → ⊥) where
    wired_each : (e : ℕ) (q : WiredEnd) → slice_get (k.wired_ends ++ p ∷ []) e ≡ Some q → IsWired grown q.wiring
    wired_each e q at = elim (push_cases k.wired_ends p e q at) [
      | inl last ↦ subst (λ (x : WiredEnd). IsWired grown x.wiring) (sym last.1) wired
      | inr there ↦ wired_more k grown q.wiring (omega arith) longer (sound.wired e q there)
    ]

    apart_each : (e f a : ℕ) (q r : WiredEnd) → slice_get (k.wired_ends ++ p ∷ []) e ≡ Some q → slice_get (k.wired_ends ++ p ∷ []) f ≡ Some r
        → arrivals_by q.wiring ≡ Some a → arrivals_by r.wiring ≡ Some a → e ≡ f
    apart_each e f a q r ate atf qa ra = elim (push_cases k.wired_ends p e q ate) [
      | inl laste ↦ elim (push_cases k.wired_ends p f r atf) [
        | inl lastf ↦ laste.0 ∙ sym lastf.0
        | inr theref ↦ absurd (fresh f a r theref ra (ap (λ (x : WiredEnd). arrivals_by x.wiring) (sym laste.1) ∙ qa))
      ]
      | inr theree ↦ elim (push_cases k.wired_ends p f r atf) [
        | inl lastf ↦ absurd (fresh e a q theree qa (ap (λ (x : WiredEnd). arrivals_by x.wiring) (sym lastf.1) ∙ ra))
        | inr theref ↦ sound.apart e f a q r theree theref qa ra
      ]
    ]

    pub grown_kept : IsCore grown
    grown_kept = record {
      kinds = kinds ∙ ap (λ (ks : List ChannelKind). ks ++ kind_of p.wiring ∷ []) sound.kinds ∙ sym (kinds_more k.wired_ends p);
      link_sides = sound.link_sides ∙ sym links;
      slots = length-set k.places (slot_of p.name) (Some (length k.wired_ends)) ∙ sound.slots;
      named = named_more;
      placed = placed_more;
      wired = wired_each;
      apart = apart_each;
    }
