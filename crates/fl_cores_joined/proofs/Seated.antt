-- A world that shows a state shows it too where no end that is made is kept at its binding any more.
use Rattle.std.proofs.Common.{◌≡◌, refl, sym, ◌∙◌, ap, subst, ℕ, zero, suc, List, [], ◌∷◌, length, slice_get, Option, Some, None, arith}
use Rattle.fl_base.specs.declared.identity.EndId.{EndId}
use Rattle.fl_base.specs.declared.identity.Side.{Side}
use Rattle.fl_base.specs.declared.identity.Side.TheVariants.{Client, Server}
use Rattle.fl_base.specs.Given.{given}
use Rattle.fl_endpoint.specs.View.{TheEnd}
use Rattle.fl_core.specs.declared.wiring.EndWiring.{EndWiring}
use Rattle.fl_core.specs.declared.wiring.EndWiring.TheVariants.{Queues, Ring, Circuit}
use Rattle.fl_core.specs.View.{TheCore, place_of}
use Rattle.fl_model.specs.Ends.{Seat, End}
use Rattle.fl_model.specs.State.{State, Binding, end_in, end_of}
use Rattle.fl_world_refines.specs.declared.binding.Binding.{Binding as TheBinding}
use Rattle.fl_world_refines.specs.View.{TheWorld, core_in}
use Rattle.fl_world_refines.specs.ShowsState.{IsWiring, BindingShows, Shows}
use Rattle.fl_world_refines.proofs.FramesBase.{gets, same_some}
use Rattle.fl_cores_joined.specs.Joined.{JoinedCore, UnmadeHaveNoRules}
use Rattle.fl_cores_joined.specs.Laws.{TheyShow}

-- where the server's end of the first has its seat, none is kept at the second
abbrev pub closed : Binding → TheBinding → TheBinding
closed b there = given b.server.seat there λ (seat : Seat). record there { unmade = None }

abbrev pub closed_all : List Binding → List TheBinding → List TheBinding
closed_all [] theirs = theirs
closed_all (b ∷ bs) [] = []
closed_all (b ∷ bs) (there ∷ theirs) = closed b there ∷ closed_all bs theirs

closed_long : (bs : List Binding) (theirs : List TheBinding) → length (closed_all bs theirs) ≡ length theirs
closed_long [] theirs = refl
closed_long (b ∷ bs) [] = refl
closed_long (b ∷ bs) (there ∷ theirs) = let e = closed_long bs theirs in omega (arith, e)

closed_was : (bs : List Binding) (theirs : List TheBinding) (n : ℕ) (b : Binding) (now : TheBinding) → slice_get bs n ≡ Some b
    → slice_get (closed_all bs theirs) n ≡ Some now → (there : TheBinding) × (slice_get theirs n ≡ Some there) × (now ≡ closed b there)
closed_was [] theirs n b now p q = absurd (cc)
closed_was (c ∷ bs) [] n b now p q = absurd (cc)
closed_was (c ∷ bs) (there ∷ theirs) zero b now p q =
    let same : c ≡ b = same_some (Some c) c b refl p in
    let is : closed c there ≡ now = same_some (Some (closed c there)) (closed c there) now refl q in
    (there, refl, sym is ∙ ap (λ (z : Binding). closed z there) same)
closed_was (c ∷ bs) (there ∷ theirs) (suc n) b now p q = closed_was bs theirs n b now p q

-- ---- the binding stands for the same

seated_none : (b : Binding) (there : TheBinding) (seat : Seat) → b.server.seat ≡ Some seat → (closed b there).unmade ≡ None
seated_none b there seat is = ap (λ (o : Option Seat). (given o there λ (x : Seat). record there { unmade = None }).unmade) is

keeps_less : (b : Binding) (there : TheBinding) (end : TheEnd) → (closed b there).unmade ≡ Some end → there.unmade ≡ Some end
keeps_less b there end h = by b.server.seat h
  where
    by : (o : Option Seat) → (given o there λ (x : Seat). record there { unmade = None }).unmade ≡ Some end → there.unmade ≡ Some end
    by None q = q
    by (Some seat) q = absurd (cc)

binding_shows : (s : State) (n : ℕ) (b : Binding) (there : TheBinding) → BindingShows s n b there → BindingShows s n b (closed b there)
binding_shows s n b there h = by b.server.seat refl
  where
    core_same : (side : Side) → core_in side (record there { unmade = None }) ≡ core_in side there
    core_same Client = refl
    core_same Server = refl

    by : (o : Option Seat) → b.server.seat ≡ o → BindingShows s n b (given o there λ (x : Seat). record there { unmade = None })
    by None q = h
    by (Some seat) q = record {
      interface = h.interface;
      seated = λ e x same at. core_same e.side ∙ h.seated e x same at;
      routed = h.routed;
      offered = h.offered;
      unmade = λ i is none. absurd (let e : None ≡ Some seat = sym none ∙ q in cc);
    }

module _ (w : TheWorld) (s : State) (shows : Shows w s) where
  abbrev pub closed_world : TheWorld
  closed_world = record w { bindings = closed_all s.bindings w.bindings }

  wiring_same : (c : TheCore) (e : EndId) (b : Binding) (v : EndWiring) → IsWiring w c s e b v → IsWiring closed_world c s e b v
  wiring_same c e b (Queues out from) h = h
  wiring_same c e b (Ring side) h = h
  wiring_same c e b (Circuit link arrivals) h = h

  was : (n : ℕ) (b : Binding) (now : TheBinding) → slice_get s.bindings n ≡ Some b → slice_get (closed_all s.bindings w.bindings) n ≡ Some now
      → (there : TheBinding) × (slice_get w.bindings n ≡ Some there) × (now ≡ closed b there)
  was n b now p q = closed_was s.bindings w.bindings n b now p q

  pub closed_shows : Shows closed_world s
  closed_shows =
      let p = shows.showing in
      record {
        sound = shows.sound;
        showing = record {
          may_set_cores = p.may_set_cores;
          cores = record { count = p.cores.count; each = p.cores.each };
          dispatchers = p.dispatchers;
          programs = p.programs;
          limits = p.limits;
          names = p.names;
          rings = record { count = p.rings.count; each = p.rings.each };
          bindings = record {
            count = closed_long s.bindings w.bindings ∙ p.bindings.count;
            each = λ n b now b_is now_is.
                let (there, there_is, is) = was n b now b_is now_is in
                subst (BindingShows s n b) (sym is) (binding_shows s n b there (p.bindings.each n b there b_is there_is));
            silent = p.bindings.silent;
          };
          ends = record {
            made = λ e b i seat b_is i_is seat_is.
                let m = p.ends.made e b i seat b_is i_is seat_is in
                record {
                  core = m.core;
                  core_is = m.core_is;
                  place = m.place;
                  place_is = m.place_is;
                  at = m.at;
                  at_is = m.at_is;
                  dispatcher = m.dispatcher;
                  channel = m.channel;
                  shows = m.shows;
                  wired_end = m.wired_end;
                  wired_end_is = m.wired_end_is;
                  name_is = m.name_is;
                  wiring = wiring_same m.core e b m.wired_end.wiring m.wiring;
                };
            only = p.ends.only;
            apart = p.ends.apart;
          };
        };
      }

  -- which state's binding stands there
  pub binding_there : (n : ℕ) (now : TheBinding) → slice_get closed_world.bindings n ≡ Some now → (b : Binding) × (slice_get s.bindings n ≡ Some b)
  binding_there n now is = gets closed_world.bindings s.bindings n now (sym closed_shows.showing.bindings.count) is

  -- an end of that name at a core isn't kept
  pub none_kept : (e : EndId) (n place : ℕ) (k : TheCore) (now : TheBinding) (end : TheEnd) → e.side ≡ Server → slice_get closed_world.cores n ≡ Some k
      → place_of k e ≡ Some place → slice_get closed_world.bindings e.binding ≡ Some now → now.unmade ≡ Some end → ⊥
  none_kept e n place k now end side k_is place_is now_is end_is =
      let (x, its_seat) = shows.showing.ends.only n k e place k_is place_is in
      let (seat, x_is, seat_is, core) = its_seat in
      let (b, b_is) = binding_there e.binding now now_is in
      let (there, there_is, is) = was e.binding b now b_is now_is in
      let its : end_in e.side b ≡ x = same_some (end_of s e) (end_in e.side b) x (ap (λ (o : Option Binding). given o None λ (z : Binding). Some (end_in e.side z)) b_is) x_is in
      let server : b.server.seat ≡ Some seat = ap (λ (d : Side). (end_in d b).seat) (sym side) ∙ ap (λ (z : End). z.seat) its ∙ seat_is in
      let none : now.unmade ≡ None = ap (λ (z : TheBinding). z.unmade) is ∙ seated_none b there seat server in
      (let bad : None ≡ Some end = sym none ∙ end_is in absurd (cc))

  pub closed_unruled : UnmadeHaveNoRules w → UnmadeHaveNoRules closed_world
  closed_unruled none n now end now_is end_is =
      let (b, b_is) = binding_there n now now_is in
      let (there, there_is, is) = was n b now b_is now_is in
      none n there end there_is (keeps_less b there end (ap (λ (z : TheBinding). z.unmade) (sym is) ∙ end_is))

-- such a world is the cores', where another is
module _ {xs : List JoinedCore} {s : State} (show : TheyShow xs s) where
  abbrev pub seated_world : TheWorld
  seated_world = closed_world show.world s show.shows

  abbrev pub seated : TheyShow xs s
  seated =
      let j = show.joined in
      record {
        world = seated_world;
        joined = record {
          cores = j.cores;
          rings = j.rings;
          sides = j.sides;
          queues = j.queues;
          offers = λ n x x_is. let o = j.offers n x x_is in record { names = o.names; programs = o.programs };
          numbered = j.numbered;
          unruled = closed_unruled show.world s show.shows j.unruled;
        };
        shows = closed_shows show.world s show.shows;
      }
