-- An event at one end of a world, wherever the end is: made, or kept until it is made. And refusals, which change nothing.
use Rattle.std.proofs.Common.{◌≡◌, refl, sym, ◌∙◌, ap, subst, ℕ, zero, suc, ◌≤◌, List, [], ◌∷◌, length, slice_get, slice_set, Some, None, arith}
use Rattle.fl_base.specs.declared.identity.Side.{Side}
use Rattle.fl_base.specs.declared.identity.Side.TheVariants.{Client, Server}
use Rattle.fl_base.specs.declared.identity.EndId.{EndId}
use Rattle.fl_base.specs.Ends.{other, peer}
use Rattle.fl_endpoint.specs.View.{TheEnd}
use Rattle.fl_core.specs.BoardView.{TheEndAtChannel}
use Rattle.fl_core.specs.BoardEvents.{ChangesEnd}
use Rattle.fl_core.specs.View.{TheCore, with_board}
use Rattle.fl_core.specs.Ends.{OnBoard}
use Rattle.fl_model.specs.Given.{changed_at}
use Rattle.fl_model.specs.Events.{Answer, refused}
use Rattle.fl_model.specs.Calls.{Planned, total}
use Rattle.fl_model.specs.Ends.{taken_of, End}
use Rattle.fl_model.specs.State.{Back, local, over_ring, over_route, Binding, State, StepOutcome, answers, binding_of, interface_of, end_in, with_end_in, change_end}
use Rattle.fl_model.specs.SoundPlaces.{stations}
use Rattle.fl_model.specs.Sound.{Sound}
use Rattle.fl_world_refines.specs.Ends.{EndShows}
use Rattle.fl_world_refines.specs.EndLaws.{PartsStay}
use Rattle.fl_world_refines.proofs.Others.{parts_stay}
use Rattle.fl_world_refines.proofs.Turns.{first_in_turn}
use Rattle.fl_world_refines.specs.declared.binding.Binding.{Binding as TheBinding}
use Rattle.fl_world_refines.specs.View.{TheWorld, with_core, with_binding, keeping}
use Rattle.fl_world_refines.specs.Lending.{Refuses, AtCore, AtUnmade, KeepsNone}
use Rattle.fl_world_refines.specs.ShowsState.{IsSilent, ShowsState}
use Rattle.fl_world_refines.specs.Laws.{Agrees}
use Rattle.fl_world_refines.proofs.Frames.{Stands, Awaits, EndStays}
use Rattle.fl_world_refines.proofs.FramesBase.{same_some, not_both, end_of_binding}
use Rattle.fl_world_refines.proofs.FramesWhole.{prefix_same}
use Rattle.fl_world_refines.proofs.FramesEnds.{with_end_at, changed_is, other_twice, end_frame}
use Rattle.fl_world_refines.proofs.FramesQuiet.{unmade_frame}

-- ---- answers

pub agrees_by : (o p : StepOutcome) (a : Answer) (w : TheWorld) → o ≡ p → Agrees p a w → Agrees o a w
agrees_by o p a w q h = subst (λ (x : StepOutcome). Agrees x a w) (sym q) h

pub in_world : (o : StepOutcome) (a : Answer) (v w : TheWorld) → v ≡ w → Agrees o a w → Agrees o a v
in_world o a v w q h = subst (Agrees o a) (sym q) h

pub same_answer : (w v : TheWorld) (s : State) (a b : Answer) → ShowsState w s → a ≡ b → v ≡ w → Agrees (answers s b) a v
same_answer w v s a b p q r = record { answer = sym q; showing = subst (λ x. ShowsState x s) (sym r) p }

pub refuses : (w v : TheWorld) (s : State) (a : Answer) (n : ℕ) → ShowsState w s → Refuses n w a v → Agrees (answers s (refused n)) a v
refuses w v s a n p h = same_answer w v s a (refused n) p h.0 h.1

-- ---- an end, wherever it is

pub record Held (w : TheWorld) (s : State) (e : EndId) : Type 0 where
  pub binding : Binding
  pub binding_is : binding_of s e ≡ Some binding
  pub interface : Planned
  pub interface_is : interface_of s binding ≡ Some interface
  -- what it is in the world, and the world with another in its place
  pub end : TheEnd
  pub with_other : TheEnd → TheWorld
  pub shows : EndShows interface (end_in e.side binding) (end_in (other e.side) binding).out end
  pub frame : (f : End → End) (t : TheEnd) → EndStays interface (end_in e.side binding) (f (end_in e.side binding))
      → EndShows interface (f (end_in e.side binding)) (end_in (other e.side) binding).out t → ShowsState (with_other t) (change_end e f s)

pub held_made : (w : TheWorld) (s : State) (e : EndId) (n place : ℕ) → Stands w s e n place → ShowsState w s → Held w s e
held_made w s e n place h p = record {
  binding = h.binding;
  binding_is = h.binding_is;
  interface = h.interface;
  interface_is = h.interface_is;
  end = h.at.end;
  with_other = λ t. with_core w n (with_end_at h.core place h.at t);
  shows = h.shows;
  frame = λ f t stays shows. end_frame w s e n place h f t p stays shows;
}

pub held_unmade : (w : TheWorld) (s : State) (e : EndId) → Awaits w s e → ShowsState w s → Held w s e
held_unmade w s e h p = record {
  binding = h.binding;
  binding_is = h.binding_is;
  interface = h.interface;
  interface_is = h.interface_is;
  end = h.kept.end;
  with_other = λ t. with_binding w e.binding (keeping h.there t);
  shows = subst (λ (side : Side). EndShows h.interface (end_in side h.binding) (end_in (other side) h.binding).out h.kept.end) (sym h.server) h.kept.shows;
  frame = λ f t stays shows.
      unmade_frame w s e h f t p
      (subst (λ (side : Side). EndStays h.interface (end_in side h.binding) (f (end_in side h.binding))) h.server stays)
      (subst (λ (side : Side). EndShows h.interface (f (end_in side h.binding)) (end_in (other side) h.binding).out t) h.server shows);
}

-- ---- an end that shows the same still

pub set_same : {X : Type 0} (xs : List X) (n : ℕ) (x : X) → slice_get xs n ≡ Some x → slice_set xs n x ≡ xs
set_same [] n x q = refl
set_same (y ∷ xs) zero x q = let e : x ≡ y = cc in ap (λ z. z ∷ xs) e
set_same (y ∷ xs) (suc n) x q = ap (λ ys. y ∷ ys) (set_same xs n x q)

no_change : (side : Side) (b : Binding) → with_end_in side (λ x. x) b ≡ b
no_change Client b = refl
no_change Server b = refl

unchanged : (s : State) (e : EndId) (b : Binding) → binding_of s e ≡ Some b → changed_at e.binding (with_end_in e.side (λ x. x)) s.bindings ≡ s.bindings
unchanged s e b q =
    changed_is s.bindings e.binding (with_end_in e.side (λ x. x)) b q
    ∙ ap (slice_set s.bindings e.binding) (no_change e.side b) ∙ set_same s.bindings e.binding b q

pub end_stays_same : (s : State) (e : EndId) (b : Binding) (i : Planned) → ((x : End) → x ≡ end_in e.side b → x.circuit ≡ None → IsSilent x.out)
    → EndStays i (end_in e.side b) (end_in e.side b)
end_stays_same s e b i silent = record {
  seat = refl;
  queue = refl;
  accepted = prefix_same (end_in e.side b).out.accepted;
  parts = refl;
  silent = silent (end_in e.side b) refl;
}

pub same_frame : (w : TheWorld) (s : State) (e : EndId) (h : Held w s e) (t : TheEnd) → ShowsState w s
    → EndShows h.interface (end_in e.side h.binding) (end_in (other e.side) h.binding).out t → ShowsState (h.with_other t) s
same_frame w s e h t p shows =
    subst (λ bs. ShowsState (h.with_other t) (record s { bindings = bs })) (unchanged s e h.binding h.binding_is)
    (h.frame (λ x. x) t (end_stays_same s e h.binding h.interface (λ x q r. p.bindings.silent e x (end_of_binding s e h.binding h.binding_is ∙ ap (λ y. Some y) (sym q)) r))
    shows)

-- ---- what the other end has taken stays

-- each way has two stations or more
two_stations : (s : State) (e : EndId) (b : Binding) → Sound s → binding_of s e ≡ Some b → 2 ≤ stations b.back
two_stations s e b sound q = by b.back refl
  where
    by : (back : Back) → b.back ≡ back → 2 ≤ stations back
    by local k = omega arith
    by (over_ring n) k = omega arith
    by (over_route r) k =
        let leads = sound.routes e.binding r (record { binding = b; there = q; back = k }) in
        let some : 2 ≤ length r.cores = leads.some in
        omega (arith, some)

passed_two : (s : State) (e : EndId) (b : Binding) → Sound s → binding_of s e ≡ Some b → 2 ≤ length (end_in e.side b).out.passed
passed_two s e b sound q =
    let stands = sound.ends e (end_in e.side b) (end_of_binding s e b q) in
    let same : stands.binding ≡ b = same_some (binding_of s e) stands.binding b stands.there q in
    subst (λ n. 2 ≤ n) (ap (λ (x : Binding). stations x.back) (sym same) ∙ sym stands.passed) (two_stations s e b sound q)

few_taken : (s : State) (e : EndId) (b : Binding) (i : Planned) → Sound s → binding_of s e ≡ Some b → interface_of s b ≡ Some i
    → taken_of (end_in e.side b).out ≤ total i (end_in e.side b).out.accepted
few_taken s e b i sound q r =
    let first = first_in_turn s sound.ends sound.routes sound.labels sound.ways sound.counted in
    subst (λ (side : Side). taken_of (end_in side b).out ≤ total i (end_in side b).out.accepted) (other_twice e.side)
    (first.few (peer e) b i (record { binding = q; interface = r }))

pub others_parts : (s : State) (e : EndId) (b : Binding) (i : Planned) → Sound s → binding_of s e ≡ Some b → interface_of s b ≡ Some i
    → PartsStay i (end_in e.side b).out
others_parts s e b i sound q r = parts_stay i (end_in e.side b).out (passed_two s e b sound q) (few_taken s e b i sound q r)

-- ---- what an event comes to at the end's own place

-- the end has become this one, by what happened to it, and nothing else has changed
pub record Becomes (w : TheWorld) (s : State) (e : EndId) (h : Held w s e) (Event : TheEnd → TheEnd → Type 0) (v : TheWorld) : Type 0 where
  pub end : TheEnd
  pub event : Event h.end end
  pub world : v ≡ h.with_other end

pub becomes_made : {R : Type 0} (E : R → TheEnd → TheEnd → Type 0) (P : R → Type 0) (w v : TheWorld) (s : State) (e : EndId) (n place : ℕ)
    (h : Stands w s e n place) (p : ShowsState w s) → AtCore w n (λ k l. (r : R) × OnBoard k (λ b d. ChangesEnd b place (E r) d) l × P r) v
    → (r : R) × P r × Becomes w s e (held_made w s e n place h p) (E r) v
unfolding held_made
becomes_made E P w v s e n place h p u =
    let r = u.event.0 in
    let board = u.event.1 in
    let end = board.event in
    let core : u.before ≡ h.core = same_some (slice_get w.cores n) u.before h.core u.before_is h.core_is in
    let seat : end.seat ≡ h.at
    = same_some (slice_get h.core.board.seats place) end.seat h.at (ap (λ (c : TheCore). slice_get c.board.seats place) (sym core) ∙ end.seat_is) h.at_is in
    let after : u.after ≡ with_end_at h.core place h.at end.end
    = board.rest ∙ ap (with_board u.before) end.board ∙ ap (λ (c : TheCore). with_end_at c place end.seat end.end) core
    ∙ ap (λ (x : TheEndAtChannel). with_end_at h.core place x end.end) seat in (
      r,
      u.event.2,
      record {
        end = end.end;
        event = subst (λ (x : TheEndAtChannel). E r x.end end.end) seat end.event;
        world = u.rest ∙ ap (with_core w n) after;
      },
    )

pub becomes_unmade : {R : Type 0} (E : R → TheEnd → TheEnd → Type 0) (P : R → Type 0) (w v : TheWorld) (s : State) (e : EndId) (h : Awaits w s e)
    (p : ShowsState w s) → AtUnmade w e.binding (λ x y. (r : R) × E r x y × P r) v → (r : R) × P r × Becomes w s e (held_unmade w s e h p) (E r) v
unfolding held_unmade
becomes_unmade E P w v s e h p u =
    let r = u.event.0 in
    let there : u.binding ≡ h.there = same_some (slice_get w.bindings e.binding) u.binding h.there u.binding_is h.there_is in
    let end : u.before ≡ h.kept.end
    = same_some h.there.unmade u.before h.kept.end (ap (λ (b : TheBinding). b.unmade) (sym there) ∙ u.before_is) h.kept.end_is in (
      r,
      u.event.2,
      record {
        end = u.after;
        event = subst (λ (x : TheEnd). E r x u.after) end u.event.1;
        world = u.rest ∙ ap (λ (b : TheBinding). with_binding w e.binding (keeping b u.after)) there;
      },
    )

-- a binding that keeps an end isn't one that keeps none
pub keeps_one : {P : Type 0} (w : TheWorld) (s : State) (e : EndId) → Awaits w s e → KeepsNone w e.binding → P
keeps_one {P} w s e h k =
    let there : k.binding ≡ h.there = same_some (slice_get w.bindings e.binding) k.binding h.there k.binding_is h.there_is in
    not_both h.there.unmade h.kept.end (ap (λ (b : TheBinding). b.unmade) (sym there) ∙ k.none) h.kept.end_is
