-- What soundness says of calls is kept by each step: how far they are written, and replies that wait.
use Rattle.std.proofs.Common.{◌≡◌, refl, sym, ◌∙◌, ap, subst, ℕ, ◌≤◌, length, slice_get, Option, Some, None, arith}
use Rattle.fl_base.specs.declared.identity.Side.{Side}
use Rattle.fl_base.specs.declared.identity.Side.TheVariants.{Client, Server}
use Rattle.fl_base.specs.declared.identity.EndId.{EndId}
use Rattle.fl_model.specs.Events.{Event}
use Rattle.fl_model.specs.Calls.{Planned}
use Rattle.fl_model.specs.Ends.{End}
use Rattle.fl_model.specs.State.{Back, local, over_ring, over_route, Binding, State, end_in, interface_of}
use Rattle.fl_model.specs.Binding.{end_id}
use Rattle.fl_model.specs.Step.{step}
use Rattle.fl_model.specs.SoundPlaces.{EndsStand, EndStands, stations}
use Rattle.fl_model.specs.SoundRoutes.{RoutesLead}
use Rattle.fl_model.specs.SoundLabels.{WritesAreCounted}
use Rattle.fl_model.specs.SoundLists.{FewRepliesWait, RepliesWaitWhereBusy}
use Rattle.fl_model_laws.proofs.Walk.{step_keeps}
use Rattle.fl_model_laws.proofs.Replies.{EndOk}
use Rattle.fl_model_laws.proofs.RepliesStep.{replies_keep}
use Rattle.fl_model_laws.proofs.Counted.{CountedOk, counts_keep}
use Rattle.fl_model_laws.proofs.EndsStep.{AllOk, BindingOk, EndKeeps, all_keep, end_ok}
use Rattle.fl_model_laws.proofs.Ends.{end_at}

-- ---- an end of a sound state

record Standing (s : State) (b : Binding) (x : End) : Type 0 where
  interface : Planned
  interface_is : interface_of s b ≡ Some interface
  two : 2 ≤ length x.out.passed

two_by : (back : Back) (s : State) (n : ℕ) (b : Binding) → RoutesLead s → slice_get s.bindings n ≡ Some b → b.back ≡ back → 2 ≤ stations back
two_by local s n b h q r = omega arith
two_by (over_ring m) s n b h q r = omega arith
two_by (over_route route) s n b h q r =
    let some : 2 ≤ length route.cores = (h n route (record { binding = b; there = q; back = r })).some in omega arith

stands : (s : State) (n : ℕ) (side : Side) (b : Binding) → EndsStand s → RoutesLead s → slice_get s.bindings n ≡ Some b → Standing s b (end_in side b)
stands s n side b h k q =
    let e : EndStands s (end_id n side) (end_in side b) = h (end_id n side) (end_in side b) (ap (end_at side) q) in
    let is : e.binding ≡ b = let u : Some e.binding ≡ Some b = sym e.there ∙ q in cc in
    let passed : length (end_in side b).out.passed ≡ stations b.back = subst (λ (w : Binding). length (end_in side b).out.passed ≡ stations w.back) is e.passed in
    let two : 2 ≤ stations b.back = two_by b.back s n b k q refl in
    record {
      interface = e.interface;
      interface_is = subst (λ (w : Binding). interface_of s w ≡ Some e.interface) is e.interface_is;
      two = omega arith;
    }

-- of each end of a sound state, what is said of it under its interface
all_by : (Q : Planned → End → Type 0) (s : State) → EndsStand s → RoutesLead s
    → ((e : EndId) (b : Binding) (i : Planned) → slice_get s.bindings e.binding ≡ Some b → interface_of s b ≡ Some i → 2 ≤ length (end_in e.side b).out.passed
    → Q i (end_in e.side b)) → AllOk Q s
all_by Q s h k said n b q =
    let client : Standing s b b.client = stands s n Client b h k q in
    let server : Standing s b b.server = stands s n Server b h k q in
    record {
      interface = client.interface;
      there = client.interface_is;
      client = said (end_id n Client) b client.interface q client.interface_is client.two;
      server = said (end_id n Server) b client.interface q client.interface_is server.two;
    }

-- and it holds after a step
said_after : (Q : Planned → End → Type 0) → EndKeeps Q → (s : State) (v : Event) → AllOk Q s → (e : EndId) (b : Binding) (i : Planned)
    → slice_get (step s v).state.bindings e.binding ≡ Some b → interface_of (step s v).state b ≡ Some i → Q i (end_in e.side b)
said_after Q K s v h e b i q r =
    end_ok Q (step s v).state.interfaces e.side b i r (step_keeps (AllOk Q) (all_keep Q K) s v h e.binding b q)

-- ---- parts of soundness

pub counted_after : (s : State) (v : Event) → EndsStand s → RoutesLead s → WritesAreCounted s → WritesAreCounted (step s v).state
counted_after s v ends routes h e b i q r =
    let all : AllOk CountedOk s = all_by CountedOk s ends routes (λ f c j u w two. record { stations = two; counted = h f c j u w }) in
    (said_after CountedOk counts_keep s v all e b i q r).counted

few_by : (o : Option Binding) (t : State) (e : EndId) (x : End) → slice_get t.bindings e.binding ≡ o → end_at e.side o ≡ Some x → AllOk EndOk t
    → length x.out.waiting ≤ 16
few_by None t e x q r h = absurd (cc)
few_by (Some b) t e x q r h =
    let is : end_in e.side b ≡ x = let u : Some (end_in e.side b) ≡ Some x = r in cc in
    let at : BindingOk EndOk t.interfaces b = h e.binding b q in
    subst (λ (y : End). length y.out.waiting ≤ 16) is (end_ok EndOk t.interfaces e.side b at.interface at.there at).few

pub waiting_after : (s : State) (v : Event) → EndsStand s → RoutesLead s → FewRepliesWait s → RepliesWaitWhereBusy s
    → FewRepliesWait (step s v).state × RepliesWaitWhereBusy (step s v).state
waiting_after s v ends routes few busy =
    let t : State = (step s v).state in
    let before : AllOk EndOk s = all_by EndOk s ends routes
    (λ e b i q r two. record { stations = two; busy = busy e b i q r; few = few e (end_in e.side b) (ap (end_at e.side) q) }) in
    let all : AllOk EndOk t = step_keeps (AllOk EndOk) (all_keep EndOk replies_keep) s v before in
    ((λ e x q. few_by (slice_get t.bindings e.binding) t e x refl q all), (λ e b i q r. (said_after EndOk replies_keep s v before e b i q r).busy))
