use Rattle.std.proofs.Common.{ℕ, ◌+◌, ◌<◌, ◌∙◌, ap, sym, subst, refl, ◌∷◌, [], get_or}
use Rattle.std.proofs.lemmas.List.{length-append}
use Rattle.std.specs.Vec.Iter.{into_iter_items}
use Rattle.fl_cores_parts.proofs.Handing.{one_queue_more, left_more, owned_yet, owner_of}
use Rattle.fl_cores_parts.proofs.sharing.hand_out_queues.Goals as goal

pub give-requires : goal.give-requires
give-requires c =
    let i = c.loop-queue.invariant in
    let owners = c.args.owners.now in
    let owner = get_or owners c.loop-queue.place 0 in
    let below = owned_yet c.args.queues.items c.loop-queue.yielded (into_iter_items c.loop-queue.queue-iterator) (into_iter_items c.next.new.self) owners
    c.loop-queue.place c.in-Some.queue c.in-Some.ensures.steps.0 i.left c.requires.count i.place in
    record {
      there = subst (λ (cores : ℕ). owner < cores) (sym i.hands_out.as_many) (owner_of c.args.cores owners c.loop-queue.place owner c.requires.of below refl);
    }

pub loop-queue-preserved : goal.loop-queue-preserved
loop-queue-preserved c =
    let i = c.loop-queue.invariant in
    let owners = c.args.owners.now in
    let step = c.in-Some.ensures.steps.0 in
    let below = owned_yet c.args.queues.items c.loop-queue.yielded (into_iter_items c.loop-queue.queue-iterator) (into_iter_items c.next.new.self) owners
    c.loop-queue.place c.in-Some.queue step i.left c.requires.count i.place in
    record {
      place = ap (λ n. n + 1) i.place ∙ sym (length-append c.loop-queue.yielded (c.in-Some.queue ∷ []));
      left = left_more c.args.queues.items c.loop-queue.yielded (into_iter_items c.loop-queue.queue-iterator) (into_iter_items c.next.new.self) c.in-Some.queue
          step i.left;
      hands_out = one_queue_more c.loop-queue.yielded owners c.args.cores c.loop-queue.place c.loop-queue.handed_out c.in_ok-handed_out-2.handed_out c.in-Some.queue
          (get_or owners c.loop-queue.place 0) below refl i.hands_out c.in_ok-handed_out-2.ensures.given;
    }
