use Rattle.std.proofs.Common.{◌≡◌, ℕ, List, length, Some, true, sym, ap, subst, ◌∙◌, arith}
use Rattle.std.specs.Prelude.{Ok}
use Rattle.std.specs.Vec.{with_items}
use Rattle.std.proofs.lemmas.List.{with_items_is}
use Rattle.fl_interface.specs.Interface.{interface_of}
use Rattle.fl_compile.specs.Programs.{program_of}
use Rattle.fl_machine.specs.declared.recv.PartialCall.{PartialCall}
use Rattle.fl_machine.specs.Receiving.{TheStored, stored_of, receiving, stand_of, stand_after, Feeds, HasPlaces, IsStored}
use Rattle.fl_machine.proofs.Storing.{room_for, begun_on, begun_stored, begun_feeds, begun_as}
use Rattle.fl_machine.proofs.recv.RecvState.feed_first.Goals as goal

-- what is stored then is a call begun on the fresh tape
stored_then : (c : goal.After-self-in-Ok-3-1) → begun_on (stored_of c.args.self.now) c.begin.new.tape (stand_after c.begin.new.begun c.in-Ok.fed) ≡ (let t : TheStored = record {
  tape = c.swap-in-Ok.new.x.items;
  spare = c.swap.new.y.items;
  fresh = c.swap-in-Ok.new.y.items;
  stand = stand_of c.after-self.result c.swap-in-Ok-3.new.x.value;
  before = Some (record { stand = stand_of c.args.self.now.phase c.swap-in-Ok-3.new.y.value; began = true });
} in t)
stored_then c =
    let items : (with_items c.args.self.now.fresh c.begin.new.tape).items ≡ c.begin.new.tape
    = with_items_is c.args.self.now.fresh c.begin.new.tape (omega (arith, c.in-Ok.ensures.long, c.deref_mut-3.ensures.len)) in
    let begun : c.swap-in-Ok-3.new.x.value ≡ c.begin.new.begun = ap (λ v. v.value) (c.swap-in-Ok-3.ensures.x_after ∙ c.swap-in-Ok-2.ensures.x_after) in
    let stand : stand_of c.after-self.result c.swap-in-Ok-3.new.x.value ≡ stand_after c.begin.new.begun c.in-Ok.fed
    = ap (stand_of c.after-self.result) (sym c.deref.ensures) ∙ c.after-self.ensures.stand ∙ ap (λ (b : PartialCall). stand_after b c.in-Ok.fed) (c.deref.ensures ∙ begun) in
    begun_as (stored_of c.args.self.now) c.begin.new.tape c.swap-in-Ok.new.x.items c.swap.new.y.items c.swap-in-Ok.new.y.items (stand_after c.begin.new.begun c.in-Ok.fed)
    (stand_of c.after-self.result c.swap-in-Ok-3.new.x.value) (stand_of c.args.self.now.phase c.swap-in-Ok-3.new.y.value)
    (ap (λ v. v.items) c.swap-in-Ok.ensures.x_after ∙ items) (ap (λ v. v.items) c.swap.ensures.y_after) (ap (λ v. v.items) (c.swap-in-Ok.ensures.y_after ∙ c.swap.ensures.x_after)) stand
    (ap (λ v. stand_of c.args.self.now.phase v.value) c.swap-in-Ok-3.ensures.y_after)

pub begin-requires-clause-room : goal.begin-requires-clause-room
begin-requires-clause-room c =
    let p = program_of c.args.program.now in
    subst (λ (t : List ℕ). HasPlaces p 0 (length t)) (sym c.deref_mut-3.ensures.value) (room_for p 0 (length c.args.self.now.fresh.items) (omega arith) c.requires.stored.fresh)

pub returns-in-Ok-clause-stored : goal.returns-in-Ok-clause-stored
returns-in-Ok-clause-stored c =
    let p = c.args.program.now in
    let i = interface_of p.compiled.value.plans.interface in
    subst (λ (s : TheStored). IsStored p.plan i s) (stored_then c)
    (begun_stored p.plan i (stored_of c.args.self.now) c.begin.new.tape (stand_after c.begin.new.begun c.in-Ok.fed) c.requires.stored (c.in-Ok.ensures.long ∙ ap length c.deref_mut-3.ensures.value) c.in-Ok.ensures.few
    c.in-Ok.ensures.stands)

pub returns-in-Ok-clause-feeds : goal.returns-in-Ok-clause-feeds
returns-in-Ok-clause-feeds c =
    let p = c.args.program.now in
    subst (λ (s : TheStored). Feeds (receiving p (stored_of c.args.self.now)) c.args.frag.now (Ok c.in-Ok.fed) (receiving p s)) (stored_then c)
    (begun_feeds p (stored_of c.args.self.now) c.begin.new.tape c.begin.new.begun c.args.frag.now c.in-Ok.fed c.requires.outside c.in-Ok.ensures.adds)
