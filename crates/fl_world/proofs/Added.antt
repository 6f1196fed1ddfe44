-- What is added to a world, from the facts of the code: a dispatcher, and a link; w is the world before, and base the same by its fields.
use Rattle.std.proofs.Common.{◌≡◌, ◌∙◌, ◌≤◌, ◌<◌, ◌+◌, ◌*◌, ◌≢◌, ◌==◌, ◌&&◌, ◌||◌, not, nat_le, refl, sym, ap, ap₂, subst, ℕ, Bool, true, false, List, [], ◌∷◌, ◌++◌, length, length-set, slice_get, slice_set, slice_index_or, Option, Some, None, is_some, inr, arith}
use Rattle.std.proofs.lemmas.Bool.{leb-true, le-leb, ltb-true, eq-eqb, false≢true}
use Rattle.std.specs.Option.{option_map}
use Rattle.fl_base.specs.declared.identity.LinkId.{LinkId}
use Rattle.fl_base.specs.Given.{given}
use Rattle.fl_base.specs.Numbered.{core_id}
use Rattle.fl_hop.specs.declared.circuits.Circuits.{Circuits}
use Rattle.fl_hop.specs.Table.{link_of}
use Rattle.fl_ring.specs.Duo.{TheDuo, MayHaveSlots}
use Rattle.fl_core.specs.BoardView.{with_dispatcher}
use Rattle.fl_core.specs.Making.{linked}
use Rattle.fl_core.specs.View.{TheCore, with_board}
use Rattle.fl_model.specs.Events.{Answer, done, refused}
use Rattle.fl_world_refines.specs.Lending.{Refuses}
use Rattle.fl_world_refines.specs.Making.{new_duo, is_core, has_link, IsLinked, AddsLink, AddsDispatcher}
use Rattle.fl_world_refines.specs.View.{Given, TheWorld}
use Rattle.fl_world_events.specs.Parts.{LinksBoth}
use Rattle.fl_world_events.proofs.Lifts.{stands}
use Rattle.fl_world.specs.Parts.{is_no_pair}
use Rattle.fl_world.proofs.Requested.{if_true, if_false, given_some}

-- ---- a dispatcher

still_room : (b : Bool) (n : ℕ) → nat_le 256 n ≡ b → n < 256 → b ≡ false
still_room true n e h = absurd (omega (arith, leb-true 256 n e, h))
still_room false n e h = refl

module _ (n : ℕ) (w base : TheWorld) (same : base ≡ w) where
  pub no_room : 256 ≤ base.dispatchers → AddsDispatcher n w (refused 94) w
  no_room full = if_true _ _ _ (subst (λ (x : TheWorld). nat_le 256 x.dispatchers ≡ true) same (le-leb 256 base.dispatchers full)) (refl, refl)

  module _ (few : base.dispatchers < 256) where
    room : nat_le 256 w.dispatchers ≡ false
    room = subst (λ (x : TheWorld). nat_le 256 x.dispatchers ≡ false) same (still_room _ base.dispatchers refl few)

    pub no_core : slice_get w.cores n ≡ None → AddsDispatcher n w (refused 73) base
    no_core none = if_false _ _ _ room (subst (λ (o : Option TheCore). Given o (Refuses 73 w (refused 73) base) (λ k.
        (refused 73 ≡ done) × (base ≡ record w { cores = slice_set w.cores n (with_board k (with_dispatcher k.board)); dispatchers = w.dispatchers + 1 })))
        (sym none) (refl, same))

    pub added : n < length base.cores → (k read : TheCore) → read ≡ slice_index_or base.cores n read → k ≡ read
        → (k2 : TheCore) → k2 ≡ with_board k (with_dispatcher k.board)
        → AddsDispatcher n w done (record base { cores = slice_set base.cores n k2; dispatchers = base.dispatchers + 1 })
    added below k read value view k2 is =
        let standing : slice_get w.cores n ≡ Some k
        = subst (λ (x : TheWorld). slice_get x.cores n ≡ Some k) same (stands base.cores n k read below value view) in
        if_false _ _ _ room (given_some _ _ _ k standing (
          refl,
          ap (λ (x : TheCore). record base { cores = slice_set base.cores n x; dispatchers = base.dispatchers + 1 }) is
              ∙ ap (λ (x : TheWorld). record x { cores = slice_set x.cores n (with_board k (with_dispatcher k.board)); dispatchers = x.dispatchers + 1 })
              same,
        ))

-- ---- whether there is a link

some_mapped : (o : Option LinkId) → is_some (option_map {T = LinkId} {U = ℕ} (λ l. l.0) o) ≡ is_some o
some_mapped None = refl
some_mapped (Some l) = refl

pub no_link_at : (a b : ℕ) (w : TheWorld) → slice_get w.cores a ≡ None → false ≡ has_link a b w
no_link_at a b w none = sym (ap (λ (o : Option TheCore). given o false (λ k. is_some (link_of k.monitor.circuits b))) none)

pub link_at : (a b : ℕ) (w : TheWorld) (k : TheCore) → slice_get w.cores a ≡ Some k → (t : Circuits) → t ≡ k.monitor.circuits
    → (o : Option LinkId) → option_map {T = LinkId} {U = ℕ} (λ l. l.0) o ≡ link_of t b → (r : Bool) → r ≡ is_some o → r ≡ has_link a b w
link_at a b w k is t table o found r told =
    told ∙ sym (some_mapped o) ∙ ap is_some found ∙ ap (λ (x : Circuits). is_some (link_of x b)) table
    ∙ sym (ap (λ (o : Option TheCore). given o false (λ c. is_some (link_of c.monitor.circuits b))) is)

-- ---- a link

pair_parts : (x y e l : Bool) → (not (x && y) || e || l) ≡ false → (x ≡ true) × (y ≡ true) × (e ≡ false)
pair_parts true true true l h = absurd (cc)
pair_parts true true false l h = (refl, refl, refl)
pair_parts true false e l h = absurd (cc)
pair_parts false y e l h = absurd (cc)

module _ (a b : ℕ) (w : TheWorld) (pair : is_no_pair a b w ≡ false) where
  parts : (is_core a w ≡ true) × (is_core b w ≡ true) × ((a == b) ≡ false)
  parts = pair_parts (is_core a w) (is_core b w) (a == b) (has_link a b w) pair

  pub first_there : a < length w.cores
  first_there = ltb-true a (length w.cores) parts.0

  pub second_there : b < length w.cores
  second_there = ltb-true b (length w.cores) parts.1

  pub apart : a ≢ b
  apart = λ one. false≢true (sym parts.2 ∙ eq-eqb a b one)

  pub adds_link : (size slots : ℕ) → size ≡ slots → (answer : Answer) (w2 : TheWorld) → (answer ≡ done) × IsLinked a b size w w2 → AddsLink a b slots w
      answer w2
  adds_link size slots same answer w2 h = if_false _ _ _ pair (inr (h.0, subst (λ (n : ℕ). IsLinked a b n w w2) same h.1))

pub as_many_linked : (a b side : ℕ) (cores cores2 : List TheCore) → LinksBoth a b side cores cores2 → length cores2 ≡ length cores
as_many_linked a b side cores cores2 h =
    ap length h.rest ∙ length-set (slice_set cores a (linked h.first (core_id b) side)) b (linked h.second (core_id a) (side + 1))
    ∙ length-set cores a (linked h.first (core_id b) side)

pub links : (a b : ℕ) (w base : TheWorld) → base ≡ w → (read : List TheCore) → read ≡ base.cores → (cores2 : List TheCore)
    → (side : ℕ) → side ≡ 2 * length base.rings → LinksBoth a b side read cores2 → (cores3 : List TheCore) → cores3 ≡ cores2
    → (ring : TheDuo) → ring ≡ new_duo ring.size → MayHaveSlots ring.size → (rings2 : List TheDuo) → rings2 ≡ base.rings ++ ring ∷ []
    → IsLinked a b ring.size w (record base { cores = cores3; rings = rings2 })
links a b w base same read read_is cores2 side side_is h cores3 left ring fresh sized rings2 rings_are =
    let both : List TheCore → ℕ → List TheCore
    = λ (xs : List TheCore) (m : ℕ). slice_set (slice_set xs a (linked h.first (core_id b) m)) b (linked h.second (core_id a) (m + 1)) in
    subst (λ (x : TheWorld). IsLinked a b ring.size x (record base { cores = cores3; rings = rings2 })) same (record {
      slots = sized;
      first = h.first;
      first_is = subst (λ (xs : List TheCore). slice_get xs a ≡ Some h.first) read_is h.first_is;
      first_whole = h.first_whole;
      second = h.second;
      second_is = subst (λ (xs : List TheCore). slice_get xs b ≡ Some h.second) read_is h.second_is;
      second_whole = h.second_whole;
      rest = ap₂ (λ (xs : List TheCore) (rs : List TheDuo). record base { cores = xs; rings = rs })
          (left ∙ h.rest ∙ ap₂ both read_is side_is) (rings_are ∙ ap (λ (r : TheDuo). base.rings ++ r ∷ []) fresh);
    })
