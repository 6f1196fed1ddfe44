-- The ends of bindings that are set up: each is at its core, on the board, and speaks its binding's interface.
use Rattle.std.proofs.Common.{◌≡◌, refl, sym, ◌∙◌, ap, ℕ, suc, ◌<◌, not, ◌&&◌, ◌||◌, nat_le, nat_lt, cond, Bool, true, false, List, [], ◌∷◌, length, map, slice_get, Option, Some, None, option_map, arith}
use Rattle.std.specs.Prelude.{IsSome}
use Rattle.std.proofs.lemmas.Bool.{lt-leb, lt-ltb}
use Rattle.std.proofs.lemmas.Option.{slice_get-map, slice_get_within}
use Rattle.fl_base.specs.declared.identity.EndId.{EndId}
use Rattle.fl_base.specs.declared.identity.Side.{Side}
use Rattle.fl_base.specs.declared.identity.Side.TheVariants.{Client, Server}
use Rattle.fl_base.specs.Ends.{other}
use Rattle.fl_base.specs.Given.{given}
use Rattle.fl_core.specs.BoardView.{TheEndAtChannel}
use Rattle.fl_core.specs.View.{TheCore, place_of, client_of, server_of}
use Rattle.fl_hop.proofs.Lists.{at_within}
use Rattle.fl_model.specs.Calls.{Planned}
use Rattle.fl_model.specs.Ends.{Seat}
use Rattle.fl_model.specs.SoundPlaces.{EndStands}
use Rattle.fl_model.specs.SoundRoutes.{BoundWhere}
use Rattle.fl_model.specs.State.{Back, local, over_ring, over_route, Binding, State, interface_of, end_in}
use Rattle.fl_model.specs.Taking.{has_message, arguments_of}
use Rattle.fl_interface.specs.SameTypes.{same_arguments}
use Rattle.fl_model_laws.proofs.Faces.{some_there}
use Rattle.fl_model_laws.proofs.Small.{some_same}
use Rattle.fl_world_refines.specs.declared.binding.Binding.{Binding as Kept}
use Rattle.fl_world_refines.specs.Ends.{planned_of}
use Rattle.fl_world_refines.specs.ShowsState.{IsMade, BindingShows, Shows}
use Rattle.fl_world_refines.specs.View.{TheWorld, core_in}
use Rattle.fl_cores_file.specs.Draft.{Bound, rule_fault, is_for_calls, is_for_rules, use_at}
use Rattle.fl_cores_jobs.specs.Faults.{misfit, core_fault, end_fault, fault_at_once}
use Rattle.fl_cores_jobs.specs.Whole.{binding_fault}
use Rattle.fl_cores_file_laws.proofs.BoundKinds.{kind_by, kind_of, kinds, known}
use Rattle.fl_cores_file_laws.proofs.Lists.{got_map}

-- ---- of a binding that no circuit joins

-- both of its ends have seats
seats_by : (back : Back) (i j : ℕ) (b : Binding) → kind_by back i ≡ Some j → BoundWhere back b → (side : Side) → IsSome (end_in side b).seat
seats_by local i j b k h Client = h.2
seats_by local i j b k h Server = h.3
seats_by (over_ring n) i j b k h Client = h.2
seats_by (over_ring n) i j b k h Server = h.3
seats_by (over_route route) i j b k h side = absurd (cc)

pub kind_is : (back : Back) (i j : ℕ) → kind_by back i ≡ Some j → i ≡ j
kind_is local i j h = some_same i j h
kind_is (over_ring n) i j h = some_same i j h
kind_is (over_route route) i j h = absurd (cc)

-- what is kept of bindings has these interfaces
pub interfaces_are : (xs : List Kept) (bs : List Binding) (ns : List ℕ) → length xs ≡ length bs
    → ((n : ℕ) (b : Binding) (x : Kept) → slice_get bs n ≡ Some b → slice_get xs n ≡ Some x → x.interface ≡ b.interface)
    → map kind_of bs ≡ known ns → map (λ (x : Kept). x.interface) xs ≡ ns
interfaces_are [] [] [] long each same = refl
interfaces_are [] [] (n ∷ ns) long each same = absurd (cc)
interfaces_are [] (b ∷ bs) ns long each same = absurd (omega (arith, long))
interfaces_are (x ∷ xs) [] ns long each same = absurd (omega (arith, long))
interfaces_are (x ∷ xs) (b ∷ bs) [] long each same = absurd (cc)
interfaces_are (x ∷ xs) (b ∷ bs) (n ∷ ns) long each same =
    let here : kind_of b ≡ Some n = cc in
    let rest : map kind_of bs ≡ known ns = cc in
    ap (λ m. m ∷ map (λ (y : Kept). y.interface) xs) (each 0 b x refl refl ∙ kind_is b.back b.interface n here)
    ∙ ap (λ ms. n ∷ ms) (interfaces_are xs bs ns (omega (arith, long)) (λ m c y p q. each (suc m) c y p q) rest)

-- ---- an end

pub record HasSpeakingEnd (w : TheWorld) (s : State) (x : Kept) (e : EndId) : Type 0 where
  pub planned : Planned
  pub planned_is : slice_get s.interfaces x.interface ≡ Some planned
  pub core : TheCore
  pub core_is : slice_get w.cores (core_in e.side x) ≡ Some core
  pub place : ℕ
  pub place_is : place_of core e ≡ Some place
  pub at : TheEndAtChannel
  pub at_is : slice_get core.board.seats place ≡ Some at
  pub speaks : planned_of at.end.program ≡ planned

module _ (w : TheWorld) (s : State) (shown : Shows w s) (ns : List ℕ) (at_once : kinds s ≡ known ns) where
  pub seated : (e : EndId) (x : Kept) → slice_get w.bindings e.binding ≡ Some x → HasSpeakingEnd w s x e
  seated e x at = record {
    planned = stands.interface;
    planned_is = ap (slice_get s.interfaces) shows.interface ∙ spoken;
    core = made.core;
    core_is = ap (slice_get w.cores) (shows.seated e seat.0 refl seat.1) ∙ made.core_is;
    place = made.place;
    place_is = made.place_is;
    at = made.at;
    at_is = made.at_is;
    speaks = made.shows.program;
  }
    where
      there : (b : Binding) × (slice_get s.bindings e.binding ≡ Some b)
      there = at_within s.bindings e.binding (omega (arith, slice_get_within w.bindings e.binding x at, shown.showing.bindings.count))

      b : Binding
      b = there.0

      shows : BindingShows s e.binding b x
      shows = shown.showing.bindings.each e.binding b x there.1 at

      kind : (i : ℕ) × (slice_get ns e.binding ≡ Some i) × (Some i ≡ kind_of b)
      kind =
          got_map (λ (i : ℕ). Some i) ns e.binding (kind_of b)
          (ap (λ ks. slice_get ks e.binding) (sym at_once) ∙ slice_get-map kind_of s.bindings e.binding
          ∙ ap (λ (o : Option Binding). option_map kind_of o) there.1)

      seat : (x : Seat) × ((end_in e.side b).seat ≡ Some x)
      seat = some_there (end_in e.side b).seat (seats_by b.back b.interface kind.0 b (sym kind.2) (shown.sound.bound e.binding b there.1) e.side)

      stands : EndStands s e (end_in e.side b)
      stands = shown.sound.ends e (end_in e.side b) (ap (λ (o : Option Binding). given o None λ y. Some (end_in e.side y)) there.1)

      spoken : slice_get s.interfaces b.interface ≡ Some stands.interface
      spoken = ap (λ (y : Binding). interface_of s y) (some_same b stands.binding (sym there.1 ∙ stands.there)) ∙ stands.interface_is

      made : IsMade w s e b stands.interface seat.0
      made = shown.showing.ends.made e b stands.interface seat.0 there.1 spoken seat.1

  -- so no binding is refused where jobs are joined to it
  pub none_taken : (n : ℕ) (x : Kept) → slice_get w.bindings n ≡ Some x → binding_fault (length w.cores) n x ≡ None
  none_taken n x at =
      let client = seated (client_of n) x at in
      let server = seated (server_of n) x at in
      let few : n < 1024 = omega (arith, slice_get_within w.bindings n x at, shown.showing.bindings.count, shown.sound.few_bindings) in
      let below : nat_le 1024 n ≡ false = lt-leb 1024 n few in
      let first : nat_lt x.client (length w.cores) ≡ true = lt-ltb x.client (length w.cores) (slice_get_within w.cores x.client client.core client.core_is) in
      let other : nat_lt x.server (length w.cores) ≡ true = lt-ltb x.server (length w.cores) (slice_get_within w.cores x.server server.core server.core_is) in
      rw (below, first, other) refl

-- ---- a rule there

fits_by : (x y z : Bool) → cond {A = Option ℕ} x (Some 41) (cond {A = Option ℕ} y (Some 42) (cond {A = Option ℕ} z (Some 44) None)) ≡ None
    → cond {A = Option ℕ} x (Some 41) (cond {A = Option ℕ} y (Some 42) None) ≡ None
fits_by true y z h = absurd (cc)
fits_by false true z h = absurd (cc)
fits_by false false z h = refl

-- a rule that the reader accepts fits
pub fits : (side : Side) (msg answer : ℕ) (b : Bound) (i : Planned) → rule_fault side msg answer b i ≡ None → misfit msg answer i ≡ None
fits side msg answer b i h =
    fits_by (not (has_message msg i && has_message answer i)) (not (same_arguments (arguments_of msg i) (arguments_of answer i)))
    (is_for_calls (use_at side b) || is_for_rules (use_at (other side) b)) h

-- at an end that speaks the interface it is set at once
pub set_at_once : (w : TheWorld) (s : State) (set_up : List Kept) (e : EndId) (msg answer : ℕ) (i : Planned) → misfit msg answer i ≡ None
    → ((x : Kept) → slice_get set_up e.binding ≡ Some x → HasSpeakingEnd w s x e × (slice_get s.interfaces x.interface ≡ Some i))
    → fault_at_once w.cores set_up e msg answer ≡ None
set_at_once w s set_up e msg answer i fit there = by (slice_get set_up e.binding) refl
  where
    here : (x : Kept) → HasSpeakingEnd w s x e → slice_get s.interfaces x.interface ≡ Some i → end_fault w.cores (core_in e.side x) e msg answer ≡ None
    here x seat is =
        ap (λ (o : Option TheCore). given o (Some 92) λ k. core_fault k e msg answer) seat.core_is
        ∙ ap (λ (o : Option ℕ). given o (Some 92) λ place. given (slice_get seat.core.board.seats place) None λ
        (at : TheEndAtChannel). misfit msg answer (planned_of at.end.program)) seat.place_is
        ∙ ap (λ (o : Option TheEndAtChannel). given o None λ at. misfit msg answer (planned_of at.end.program)) seat.at_is
        ∙ ap (misfit msg answer) (seat.speaks ∙ some_same seat.planned i (sym seat.planned_is ∙ is)) ∙ fit

    by : (o : Option Kept) → slice_get set_up e.binding ≡ o → given o None (λ x. end_fault w.cores (core_in e.side x) e msg answer) ≡ None
    by None at = refl
    by (Some x) at = let h = there x at in here x h.0 h.1
