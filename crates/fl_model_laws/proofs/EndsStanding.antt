-- Each end's binding has its interface, its direction all its stations, and there is what it takes from.
use Rattle.std.proofs.Common.{◌≡◌, refl, sym, ◌∙◌, ap, subst, ℕ, zero, suc, ◌+◌, ◌≤◌, true, false}
use Rattle.std.proofs.Common.{List, [], ◌∷◌, length, slice_get, Option, Some, None, arith}
use Rattle.std.specs.Prelude.{IsSome, IsNone}
use Rattle.fl_base.specs.declared.identity.EndId.{EndId}
use Rattle.fl_base.specs.declared.identity.Side.{Side}
use Rattle.fl_base.specs.declared.identity.Side.TheVariants.{Client, Server}
use Rattle.fl_base.specs.Given.{given}
use Rattle.fl_model.specs.Calls.{Planned}
use Rattle.fl_model.specs.Events.{Event}
use Rattle.fl_model.specs.Ends.{Queue, End, unbound_end}
use Rattle.fl_model.specs.State.{Route, Back, local, over_ring, over_route, Binding, State, end_in, with_end_in, in_route, in_queue}
use Rattle.fl_model.specs.Binding.{BindByNames}
use Rattle.fl_model.specs.Step.{step}
use Rattle.fl_model.specs.SoundPlaces.{TakesFrom, stations, EndStands, EndsStand}
use Rattle.fl_model_laws.proofs.Cases.{by_given}
use Rattle.fl_model_laws.proofs.BindingWalk.{IsQuiet, IsSameRoute, IsFresh, by_queue, on_ring, on_route, KeepsBindings, Bindings, bindings_keep, end_there}
use Rattle.fl_model_laws.proofs.Walk.{step_keeps}
use Rattle.fl_model_laws.proofs.Small.{get_push, length_replicate, same_interface}

abbrev From : ℕ → Back → Option Queue → Type 0
From rs local q = IsSome q
From rs (over_ring n) q = IsNone q × (suc n ≤ rs)
From rs (over_route route) q = IsSome q

pub record Stands (i : Planned) (rs : ℕ) (back : Back) (x : End) : Type 0 where
  pub rules : length x.rules ≡ length i.interface.messages
  pub passed : length x.out.passed ≡ stations back
  pub queue : From rs back x.queue

pub record BothStand (is : List Planned) (rs : ℕ) (b : Binding) : Type 0 where
  pub interface : Planned
  pub there : slice_get is b.interface ≡ Some interface
  pub client : Stands interface rs b.back b.client
  pub server : Stands interface rs b.back b.server

side_changed : (is : List Planned) (rs : ℕ) (side : Side) (f : End → End) (b : Binding)
    → ((i : Planned) → Stands i rs b.back (end_in side b) → Stands i rs b.back (f (end_in side b))) → BothStand is rs b → BothStand is rs (with_end_in side f b)
side_changed is rs Client f b k h = record { interface = h.interface; there = h.there; client = k h.interface h.client; server = h.server }
side_changed is rs Server f b k h = record { interface = h.interface; there = h.there; client = h.client; server = k h.interface h.server }

quiet_stands : (f : End → End) (i : Planned) (rs : ℕ) (back : Back) (x : End) → IsQuiet f → Stands i rs back x → Stands i rs back (f x)
quiet_stands f i rs back x k h = record {
  rules = k.rules x ∙ h.rules;
  passed = k.passed x ∙ h.passed;
  queue = subst (From rs back) (sym (k.queue x)) h.queue;
}

from_some : (rs : ℕ) (back : Back) (p q : Queue) → From rs back (Some p) → From rs back (Some q)
from_some rs local p q h = refl
from_some rs (over_ring n) p q h = absurd (let e : true ≡ false = h.0 in cc)
from_some rs (over_route route) p q h = refl

queue_stands : (f : Queue → Queue) (i : Planned) (rs : ℕ) (back : Back) (x : End) → Stands i rs back x → Stands i rs back (in_queue f x)
queue_stands f i rs back x h =
    by_given (Stands i rs back) x.queue x _ h
    (λ q r. record { rules = h.rules; passed = h.passed; queue = from_some rs back q (f q) (subst (From rs back) r h.queue) })

route_stands : (f : Route → Route) (i : Planned) (rs : ℕ) (back : Back) (x : End) → IsSameRoute f → Stands i rs back x
    → Stands i rs (in_route f back) x
route_stands f i rs local x k h = h
route_stands f i rs (over_ring n) x k h = h
route_stands f i rs (over_route route) x k h = record {
  rules = h.rules;
  passed = h.passed ∙ ap (λ (cores : List ℕ). length cores + 1) (sym (k.cores route));
  queue = h.queue;
}

from_grown : (rs more : ℕ) (back : Back) (q : Option Queue) → rs ≤ more → From rs back q → From more back q
from_grown rs more local q a h = h
from_grown rs more (over_ring n) q a h = (h.0, let b : suc n ≤ rs = h.1 in omega arith)
from_grown rs more (over_route route) q a h = h

grown_stands : (i : Planned) (rs more : ℕ) (back : Back) (x : End) → rs ≤ more → Stands i rs back x → Stands i more back x
grown_stands i rs more back x a h = record { rules = h.rules; passed = h.passed; queue = from_grown rs more back x.queue a h.queue }

fresh_stands : (rs : ℕ) (w : BindByNames) (i : Planned) (back : Back) (n : ℕ) (q : Option Queue) → w.messages ≡ length i.interface.messages
    → IsFresh rs back n q → Stands i rs back (unbound_end w.messages n q)
fresh_stands rs w i back n q e (by_queue r slots) =
    record { rules = length_replicate w.messages None ∙ e; passed = refl; queue = refl }
fresh_stands rs w i back n q e (on_ring r m a) =
    record { rules = length_replicate w.messages None ∙ e; passed = refl; queue = (refl, a) }
fresh_stands rs w i back n q e (on_route r way) =
    record { rules = length_replicate w.messages None ∙ e; passed = length_replicate (length way.cores + 1) 0; queue = refl }

ends_keep : KeepsBindings BothStand
ends_keep = record {
  quiet = λ is rs side f b k h. side_changed is rs side f b (λ i c. quiet_stands f i rs b.back (end_in side b) k c) h;
  joined = λ is rs side l b room h. side_changed is rs side _ b (λ i c. queue_stands _ i rs b.back (end_in side b) c) h;
  emptied = λ is rs side b h. side_changed is rs side _ b (λ i c. queue_stands _ i rs b.back (end_in side b) c) h;
  route = λ is rs f b k h.
      record { interface = h.interface; there = h.there; client = route_stands f h.interface rs b.back b.client k h.client; server = route_stands f h.interface rs b.back b.server k h.server };
  grown = λ is rs more b a h.
      record { interface = h.interface; there = h.there; client = grown_stands h.interface rs more b.back b.client a h.client; server = grown_stands h.interface rs more b.back b.server a h.server };
  interface = λ is rs i b h.
      record { interface = h.interface; there = get_push is b.interface h.interface i h.there; client = h.client; server = h.server };
  fresh = λ is rs w i back n q there messages f.
      record { interface = i; there = there; client = fresh_stands rs w i back n q messages f; server = fresh_stands rs w i back n q messages f };
}

-- ---- as the sound states say it

pub in_range : {X : Type 0} (xs : List X) (n : ℕ) → IsSome (slice_get xs n) → suc n ≤ length xs
in_range [] n h = absurd (let e : false ≡ true = h in cc)
in_range (x ∷ xs) zero h = omega arith
in_range (x ∷ xs) (suc n) h = let ih : suc n ≤ length xs = in_range xs n h in omega arith

pub there_is : {X : Type 0} (xs : List X) (n : ℕ) → suc n ≤ length xs → IsSome (slice_get xs n)
there_is [] n h = absurd (omega arith)
there_is (x ∷ xs) zero h = refl
there_is (x ∷ xs) (suc n) h = there_is xs n (omega arith)

from_of : (s : State) (back : Back) (x : End) → TakesFrom s back x → From (length s.rings) back x.queue
from_of s local x h = h
from_of s (over_ring n) x h = (h.0, in_range s.rings n h.1)
from_of s (over_route route) x h = h

takes_of : (s : State) (back : Back) (x : End) → From (length s.rings) back x.queue → TakesFrom s back x
takes_of s local x h = h
takes_of s (over_ring n) x h = (h.0, there_is s.rings n h.1)
takes_of s (over_route route) x h = h

abbrev OneStands : State → Binding → End → Type 0
OneStands s b x = (i : Planned) × (slice_get s.interfaces b.interface ≡ Some i) × Stands i (length s.rings) b.back x

one_of : (s : State) (e : EndId) (x : End) (b : Binding) → slice_get s.bindings e.binding ≡ Some b → EndStands s e x → OneStands s b x
one_of s e x b q h =
    let same : h.binding ≡ b = let u : Some h.binding ≡ Some b = sym h.there ∙ q in cc in
    subst (λ (c : Binding). OneStands s c x) same
    (h.interface, h.interface_is, record { rules = h.rules; passed = h.passed; queue = from_of s h.binding.back x h.queue })

both_of : (s : State) → EndsStand s → Bindings BothStand s
both_of s h n b q =
    let c : EndId = record { binding = n; side = Client } in
    let v : EndId = record { binding = n; side = Server } in
    let (i, is, client) = one_of s c b.client b q (h c b.client (ap (λ (o : Option Binding). given o None (λ x. Some x.client)) q)) in
    let (j, js, server) = one_of s v b.server b q (h v b.server (ap (λ (o : Option Binding). given o None (λ x. Some x.server)) q)) in
    record {
      interface = i;
      there = is;
      client = client;
      server = subst (λ (k : Planned). Stands k (length s.rings) b.back b.server) (same_interface s.interfaces b.interface j i js is) server;
    }

side_of : (is : List Planned) (rs : ℕ) (side : Side) (b : Binding) (h : BothStand is rs b) → Stands h.interface rs b.back (end_in side b)
side_of is rs Client b h = h.client
side_of is rs Server b h = h.server

ends_of : (s : State) → Bindings BothStand s → EndsStand s
ends_of s all e x there =
    let (b, at, is) = end_there s e x there in
    let h : BothStand s.interfaces (length s.rings) b = all e.binding b at in
    let one : Stands h.interface (length s.rings) b.back x =
    subst (Stands h.interface (length s.rings) b.back) is (side_of s.interfaces (length s.rings) e.side b h) in
    record {
      binding = b;
      there = at;
      interface = h.interface;
      interface_is = h.there;
      rules = one.rules;
      passed = one.passed;
      queue = takes_of s b.back x one.queue;
    }

pub step_keeps_ends : (s : State) (v : Event) → EndsStand s → EndsStand (step s v).state
step_keeps_ends s v h = ends_of (step s v).state (step_keeps (Bindings BothStand) (bindings_keep BothStand ends_keep) s v (both_of s h))
