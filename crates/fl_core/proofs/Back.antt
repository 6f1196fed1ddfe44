-- The end that was added last is taken back: base is the board with it, by its fields, and k the board before.
use Rattle.std.proofs.Common.{◌≡◌, refl, sym, ap, ◌∙◌, ℕ, ◌<◌, ◌-◌, List, [], ◌∷◌, ◌++◌, length, take, slice_get, slice_set, slice_index_or, Some, length-append, arith}
use Rattle.std.proofs.lemmas.Option.{slice_get_read, slice_get_within}
use Rattle.fl_endpoint.specs.View.{TheEnd}
use Rattle.fl_core.specs.declared.kind.ChannelKind.{ChannelKind}
use Rattle.fl_core.specs.BoardView.{TheDispatcher, TheEndAtChannel, TheBoard, with_new_end}
use Rattle.fl_core.proofs.BoardPlaces.{one_stands, set_here, set_same, set_twice, last_parts, without_last}

module _ (k : TheBoard) (n : ℕ) (d : TheDispatcher) (s : TheEnd) (kind : ChannelKind) (dispatcher_is : slice_get k.dispatchers n ≡ Some d) (base : TheBoard) (grown : base ≡ with_new_end k n d s kind)
    (seats : List TheEndAtChannel) (last : TheEndAtChannel) (seats_are : base.seats ≡ seats ++ last ∷ []) where
  new_seat : TheEndAtChannel
  new_seat = record { end = s; dispatcher = n; channel = length d.ends; kind = kind }

  after : TheDispatcher
  after = record { lists = d.lists; ends = d.ends ++ length k.seats ∷ [] }

  parts : (seats ≡ k.seats) × (last ≡ new_seat)
  unfolding new_seat
  parts = last_parts seats k.seats last new_seat (sym seats_are ∙ ap (λ (x : TheBoard). x.seats) grown)

  at_n : last.dispatcher ≡ n
  unfolding new_seat
  at_n = ap (λ (x : TheEndAtChannel). x.dispatcher) parts.1

  there : slice_get base.dispatchers last.dispatcher ≡ Some after
  unfolding after
  there = ap (slice_get base.dispatchers) at_n ∙ ap (λ (x : TheBoard). slice_get x.dispatchers n) grown ∙ set_here k.dispatchers n d after dispatcher_is

  pub last_below : last.dispatcher < length base.dispatchers
  last_below = slice_get_within base.dispatchers last.dispatcher after there

  module _ (d2 read : TheDispatcher) (value : read ≡ slice_index_or base.dispatchers last.dispatcher read) (view : d2 ≡ read) (ends : List ℕ) (many : ℕ)
      (many_are : many ≡ length d2.ends) (ends_are : ends ≡ take (many - 1) d2.ends) where
    is_after : d2 ≡ after
    is_after = one_stands base.dispatchers last.dispatcher d2 after (slice_get_read base.dispatchers (length base.dispatchers) last.dispatcher read refl last_below value ∙ ap Some (sym view)) there

    ends_before : ends ≡ d.ends
    unfolding after
    ends_before =
        let all : d2.ends ≡ d.ends ++ length k.seats ∷ [] = ap (λ (x : TheDispatcher). x.ends) is_after in
        let few : many - 1 ≡ length d.ends = omega (arith, many_are, ap length all, length-append d.ends (length k.seats ∷ [])) in
        ends_are ∙ ap (λ (x : List ℕ). take (many - 1) x) all ∙ without_last d.ends (length k.seats) (many - 1) few

    d_before : (let x : TheDispatcher = record { lists = d2.lists; ends = ends } in x) ≡ d
    unfolding after
    d_before =
        ap (λ (x : TheDispatcher). let y : TheDispatcher = record { lists = x.lists; ends = ends } in y) is_after
        ∙ ap (λ (x : List ℕ). let y : TheDispatcher = record { lists = d.lists; ends = x } in y) ends_before

    dispatchers_before : slice_set base.dispatchers last.dispatcher (record { lists = d2.lists; ends = ends }) ≡ k.dispatchers
    unfolding after
    dispatchers_before =
        ap (λ (x : TheDispatcher). slice_set base.dispatchers last.dispatcher x) d_before
        ∙ ap (λ (i : ℕ). slice_set base.dispatchers i d) at_n
        ∙ ap (λ (x : TheBoard). slice_set x.dispatchers n d) grown
        ∙ set_twice k.dispatchers n after d
        ∙ set_same k.dispatchers n d dispatcher_is

    pub back : (let x : TheBoard = record { dispatchers = slice_set base.dispatchers last.dispatcher (record { lists = d2.lists; ends = ends }); seats = seats } in x) ≡ k
    back =
        ap (λ (x : List TheDispatcher). let y : TheBoard = record { dispatchers = x; seats = seats } in y) dispatchers_before
        ∙ ap (λ (x : List TheEndAtChannel). let y : TheBoard = record { dispatchers = k.dispatchers; seats = x } in y) parts.0

    -- the same, for other seats that are these
    pub back_as : (others : List TheEndAtChannel) → others ≡ seats → (let x : TheBoard = record { dispatchers = slice_set base.dispatchers last.dispatcher (record { lists = d2.lists; ends = ends }); seats = others } in x) ≡ k
    back_as others e = ap (λ (x : List TheEndAtChannel). let y : TheBoard = record { dispatchers = slice_set base.dispatchers last.dispatcher (record { lists = d2.lists; ends = ends }); seats = x } in y) e ∙ back
