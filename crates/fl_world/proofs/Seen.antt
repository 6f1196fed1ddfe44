-- What a look at one of a world's lists tells, as it is lent: w is the world, and base the same by its fields.
use Rattle.std.proofs.Common.{◌≡◌, refl, sym, ap, ◌∙◌, subst, ℕ, ◌<◌, ◌≤◌, length, nat_lt, slice_get, slice_index_or, Bool, true, false, List, Option, Some, None}
use Rattle.std.proofs.lemmas.Bool.{lt-ltb, le-ltb}
use Rattle.std.proofs.lemmas.Option.{slice_get_past}
use Rattle.fl_base.specs.Given.{given}
use Rattle.fl_core.specs.BoardView.{TheBoard, due}
use Rattle.fl_core.specs.View.{TheCore}
use Rattle.fl_core.specs.Making.{has_places as has_places_on}
use Rattle.fl_core.specs.Hearing.{has_end}
use Rattle.fl_model.specs.Events.{DispatcherId}
use Rattle.fl_world_refines.specs.View.{TheWorld, has_dispatcher}
use Rattle.fl_world_refines.specs.Taking.{due_at}
use Rattle.fl_world_refines.specs.Binding.{has_places}
use Rattle.fl_world_events.proofs.Lifts.{stands}
use Rattle.fl_world.specs.Requests.{has_end_of}

-- ---- what stands at a place

pub seen : {X : Type 0} (w base : TheWorld) → base ≡ w → (list : TheWorld → List X) (xs : List X) → xs ≡ list base → (n : ℕ) (read : X)
    → n < length xs → read ≡ slice_index_or xs n read → slice_get (list w) n ≡ Some read
seen {X} w base same list xs lent n read below value =
    subst (λ (x : TheWorld). slice_get (list x) n ≡ Some read) same
    (subst (λ (ys : List X). slice_get ys n ≡ Some read) lent (stands xs n read read below value refl))

pub unseen : {X : Type 0} (w base : TheWorld) → base ≡ w → (list : TheWorld → List X) (xs : List X) → xs ≡ list base → (n : ℕ) → length xs ≤ n
    → slice_get (list w) n ≡ None
unseen {X} w base same list xs lent n past =
    subst (λ (x : TheWorld). slice_get (list x) n ≡ None) same
    (subst (λ (ys : List X). slice_get ys n ≡ None) lent (slice_get_past xs n past))

-- ---- an end at a core

pub no_end_at : (n core : ℕ) (w : TheWorld) → slice_get w.cores core ≡ None → false ≡ has_end_of n core w
no_end_at n core w none = sym (ap (λ (o : Option TheCore). given o false (λ k. has_end k n)) none)

pub end_at : (n core : ℕ) (w : TheWorld) (k : TheCore) → slice_get w.cores core ≡ Some k → (b : Bool) → b ≡ has_end k n → b ≡ has_end_of n core w
end_at n core w k is b has = has ∙ sym (ap (λ (o : Option TheCore). given o false (λ k. has_end k n)) is)

-- ---- a dispatcher, where its core isn't there

module _ (w : TheWorld) (d : DispatcherId) (none : slice_get w.cores d.core ≡ None) where
  pub no_dispatcher_at : false ≡ has_dispatcher w d
  no_dispatcher_at = sym (ap (λ (o : Option TheCore). given o false (λ k. nat_lt d.place (length k.board.dispatchers))) none)

  pub no_places_at : (n : ℕ) → false ≡ has_places d n w
  no_places_at n = sym (ap (λ (o : Option TheCore). given o false (λ k. has_places_on n k.board d.place)) none)

-- ---- and where it is

module _ (w : TheWorld) (d : DispatcherId) (k : TheCore) (is : slice_get w.cores d.core ≡ Some k) where
  pub dispatcher_at : (n : ℕ) → n ≡ length k.board.dispatchers → nat_lt d.place n ≡ has_dispatcher w d
  dispatcher_at n all = ap (nat_lt d.place) all ∙ sym (ap (λ (o : Option TheCore). given o false (λ c. nat_lt d.place (length c.board.dispatchers))) is)

  module _ (board : TheBoard) (same : board ≡ k.board) (n : ℕ) (all : n ≡ length board.dispatchers) where
    pub lacks_dispatcher : n ≤ d.place → has_dispatcher w d ≡ false
    lacks_dispatcher past = sym (dispatcher_at n (all ∙ ap (λ (b : TheBoard). length b.dispatchers) same)) ∙ le-ltb d.place n past

    pub holds_dispatcher : d.place < n → has_dispatcher w d ≡ true
    holds_dispatcher there = sym (dispatcher_at n (all ∙ ap (λ (b : TheBoard). length b.dispatchers) same)) ∙ lt-ltb d.place n there

    pub dispatcher_below : d.place < n → d.place < length k.board.dispatchers
    dispatcher_below there = subst (λ (x : ℕ). d.place < x) (all ∙ ap (λ (b : TheBoard). length b.dispatchers) same) there

  pub places_at : (n : ℕ) (board : TheBoard) → board ≡ k.board → (b : Bool) → b ≡ has_places_on n board d.place → b ≡ has_places d n w
  places_at n board same b h =
      h ∙ ap (λ (x : TheBoard). has_places_on n x d.place) same ∙ sym (ap (λ (o : Option TheCore). given o false (λ c. has_places_on n c.board d.place)) is)

  pub due_is_at : due_at w d ≡ due k.board d.place
  due_is_at = ap (λ (o : Option TheCore). given o None (λ c. due c.board d.place)) is
