use Rattle.std.proofs.Common.{◌≡◌, ◌∙◌, sym, ap, subst, ℕ, length, map, arith}
use Rattle.fl_cores_jobs.specs.Joined.{AreBindings}
use Rattle.fl_cores_jobs.specs.State.{joined_of}
use Rattle.fl_history_shares.specs.Dealt.{shown_hands}
use Rattle.fl_cores_fork.specs.CoreThreads.{core_thread_of, hands_given}
use Rattle.fl_cores_parts.specs.CoreThreads.{left_view}
use Rattle.fl_cores_parts.proofs.AtTable.{shown_given}
use Rattle.fl_cores_parts.proofs.Handing.{common_at, common_same, wires_of, begins_at}
use Rattle.fl_cores_parts.proofs.Seats.{none_cut, all_cut}
use Rattle.fl_cores_parts.proofs.wiring.wire.Goals as goal

pub core_threads-requires : goal.core_threads-requires
core_threads-requires c =
    let joined = c.args.joined.now in
    let owners = joined.owners.items in
    let handed_out = c.in_ok-sides.ensures.shares in
    let count : length c.as_slice.result.now ≡ length c.args.parts.cores.items = ap length c.as_slice.ensures.value in
    let cores : length c.deref-2.result.now ≡ length c.args.parts.cores.items = ap length c.deref-2.ensures.value in
    record {
      bindings = subst (λ (n : ℕ). AreBindings n joined.bindings.items owners) (sym count) c.requires.bindings;
      end_works = c.requires.end_works;
      few = omega (arith, count);
      own = c.requires.own ∙ none_cut (length c.args.parts.cores.items) owners ∙ ap (λ (n : ℕ). left_view n owners 0) (sym count);
      sides = handed_out.sides.deals.as_many ∙ cores;
      queues = handed_out.queues.as_many ∙ cores;
    }

pub returns : goal.returns
returns c =
    let parts = c.args.parts in
    let joined = joined_of c.args.joined.now in
    let owners = c.args.joined.now.owners.items in
    let handed_out = c.in_ok-sides.field-0 in
    let made = c.in_ok-core_threads.ensures in
    let cores : length c.as_slice.result.now ≡ length parts.cores.items = ap length c.as_slice.ensures.value in
    let left : c.core_threads.new.own.knows ≡ left_view (length parts.cores.items) owners (length parts.cores.items) =
    made.left ∙ ap (λ (n : ℕ). left_view n owners (length parts.cores.items)) cores in
    record {
      ready = made.ready;
      wires = wires_of parts joined
          (common_at parts joined (length c.as_slice.result.now) c.deref-3.result.now c.deref-4.result.now c.deref-5.result.now)
          (map core_thread_of c.in_ok-core_threads.core_threads.items) c.deref-2.result.now c.deref.result.now handed_out.sides handed_out.queues
          (common_same parts joined (length c.as_slice.result.now) c.deref-3.result.now c.deref-4.result.now handed_out.sides.numbers.places.items c.deref-5.result.now
          handed_out.queues.places.items cores c.deref-3.ensures.value c.deref-4.ensures.value c.deref-5.ensures.value)
          c.deref-2.ensures.value c.deref.ensures.value c.in_ok-sides.ensures.shares made.core_threads
          (shown_given c.in_ok-core_threads.core_threads.items ∙ ap shown_hands made.hands) made.queues;
      at = begins_at parts c.deref-2.result.now c.deref.result.now handed_out.sides handed_out.queues (hands_given c.in_ok-core_threads.core_threads.items)
          c.deref-2.ensures.value c.deref.ensures.value c.in_ok-sides.ensures.shares made.hands;
      left = left;
      able = all_cut (length parts.cores.items) owners c.core_threads.new.own.knows left;
      table = made.table;
      seats = made.seats;
    }
