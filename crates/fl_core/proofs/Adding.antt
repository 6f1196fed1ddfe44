-- An end is added at a dispatcher, or there is no room: k is the board before, and base the same by its fields.
use Rattle.std.proofs.Common.{◌≡◌, sym, ap, ◌∙◌, subst, ℕ, ◌<◌, List, [], ◌∷◌, ◌++◌, length, slice_set, slice_index_or, Ok, Err, arith}
use Rattle.fl_base.specs.declared.fragment.Frag.{Frag}
use Rattle.fl_machine.specs.Reassembling.{TheReassembly}
use Rattle.fl_endpoint.specs.View.{TheEnd, with_parts}
use Rattle.fl_core.specs.declared.kind.ChannelKind.{ChannelKind}
use Rattle.fl_core.specs.declared.board_fault.BoardFault.{BoardFault}
use Rattle.fl_core.specs.declared.board_fault.BoardFault.TheVariants.{NotBound, Registered, NotRegistered, TooManyEnds, Failed, Memory}
use Rattle.fl_core.specs.BoardView.{TheDispatcher, TheEndAtChannel, TheBoard, with_new_end}
use Rattle.fl_core.specs.BoardSound.{IsBoard}
use Rattle.fl_core.specs.BoardEvents.{Adds}
use Rattle.fl_core.specs.BoardInside.{HasNoRoom, seats_of, GoTogether}
use Rattle.fl_core.proofs.BoardPlaces.{set_same}
use Rattle.fl_core.proofs.Together.{one_more}
use Rattle.fl_core.proofs.Dispatchers.{finds, finds_before}
use Rattle.fl_core.proofs.BoardKept.{new_end_kept}

-- base with other ends at a dispatcher d, and other seats
abbrev pub with_both : TheBoard → ℕ → TheDispatcher → List ℕ → List TheEndAtChannel → TheBoard
with_both base n d ends seats = record { dispatchers = slice_set base.dispatchers n (record { lists = d.lists; ends = ends }); seats = seats }

module _ (k base : TheBoard) (same : base ≡ k) (n : ℕ) (below : n < length k.dispatchers) (d read : TheDispatcher) (value : read ≡ slice_index_or base.dispatchers n read) (view : d ≡ read)
    (sound : IsBoard base) (ends : List ℕ) (seats : List TheEndAtChannel) where
  -- nothing was added
  as_before : ends ≡ d.ends → seats ≡ base.seats → with_both base n d ends seats ≡ base
  as_before e f =
      ap (λ (x : List ℕ). with_both base n d x seats) e ∙ ap (λ (x : List TheEndAtChannel). with_both base n d d.ends x) f
      ∙ ap (λ (x : List TheDispatcher). let c : TheBoard = record { dispatchers = x; seats = base.seats } in c) (set_same base.dispatchers n d (finds k base same n below d read value view))

  pub refused_kept : ends ≡ d.ends → seats ≡ base.seats → IsBoard (with_both base n d ends seats)
  refused_kept e f = subst IsBoard (sym (as_before e f)) sound

  pub refused_adds : (s : TheEnd) (kind : ChannelKind) (fault : BoardFault) → HasNoRoom (length d.ends) fault → ends ≡ d.ends → seats ≡ base.seats → Adds k n s kind (Err fault) (with_both base n d ends seats)
  refused_adds s kind TooManyEnds h e f =
      let few = (sound.dispatchers n d (finds k base same n below d read value view)).few in
      let full : length d.ends ≡ 1024 = omega (arith, h, few) in
      ((d, finds_before k base same n below d read value view, full), as_before e f ∙ same)
  refused_adds s kind Memory h e f = ((d, finds_before k base same n below d read value view, h), as_before e f ∙ same)
  refused_adds s kind NotBound h e f = absurd h
  refused_adds s kind Registered h e f = absurd h
  refused_adds s kind NotRegistered h e f = absurd h
  refused_adds s kind Failed h e f = absurd h

  -- the end was added
  module _ (s : TheEnd) (kind : ChannelKind) (place channel : ℕ) (place_is : place ≡ length base.seats) (channel_is : channel ≡ length d.ends) (room : length d.ends < 1024)
      (ends_are : ends ≡ d.ends ++ place ∷ []) (seats_are : seats ≡ base.seats ++ record { end = s; dispatcher = n; channel = channel; kind = kind } ∷ []) where
    grown : with_both base n d ends seats ≡ with_new_end base n d s kind
    grown =
        ap (λ (x : List ℕ). with_both base n d x seats) (ends_are ∙ ap (λ (p : ℕ). d.ends ++ p ∷ []) place_is)
        ∙ ap (λ (x : List TheEndAtChannel). with_both base n d (d.ends ++ length base.seats ∷ []) x) (seats_are ∙ ap (λ (c : ℕ). base.seats ++ record { end = s; dispatcher = n; channel = c; kind = kind } ∷ []) channel_is)

    pub added_kept : IsBoard (with_both base n d ends seats)
    added_kept = subst IsBoard (sym grown) (new_end_kept base n d s kind sound (finds k base same n below d read value view) room)

    pub added_adds : Adds k n s kind (Ok place) (with_both base n d ends seats)
    added_adds =
        (place_is ∙ ap (λ (x : TheBoard). length x.seats) same, (d, finds_before k base same n below d read value view, room, grown ∙ ap (λ (x : TheBoard). with_new_end x n d s kind) same))

-- an end that has taken nothing, with a place of its own
pub new_seat : (seats : List TheEndAtChannel) (calls : List TheReassembly) → GoTogether seats calls → (s : TheEnd) (r : TheReassembly) (n channel : ℕ) (kind : ChannelKind) → s.parts ≡ [] → r.parts ≡ []
    → seats_of (seats ++ record { end = s; dispatcher = n; channel = channel; kind = kind } ∷ []) (calls ++ r ∷ []) ≡ seats_of seats calls ++ record { end = s; dispatcher = n; channel = channel; kind = kind } ∷ []
new_seat seats calls together s r n channel kind alone none =
    one_more seats calls together (record { end = s; dispatcher = n; channel = channel; kind = kind }) r
    ∙ ap (λ (xs : List Frag). seats_of seats calls ++ record { end = with_parts s xs; dispatcher = n; channel = channel; kind = kind } ∷ []) (none ∙ sym alone)
