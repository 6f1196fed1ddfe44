use Rattle.std.proofs.Common.{◌≡◌, ◌<◌, ◌∙◌, ℕ, length, refl, sym, subst, ap, rules}
use Rattle.fl_cores_table.specs.Seats.{TheCoresSeat}
use Rattle.fl_cores_fork.specs.CoreThreads.{core_thread_of}
use Rattle.fl_cores_parts.specs.Begins.{IsCoreThread}
use Rattle.fl_cores_parts.specs.CoreThreads.{common_of}
use Rattle.fl_cores_parts.proofs.Seats.{alone_from, has_next}
use Rattle.fl_cores_parts.proofs.wiring.CoreInputs.add_core_thread.Goals as goal

pub split-requires-clause-core : goal.split-requires-clause-core
split-requires-clause-core c =
    has_next c.args.self.now.cores c.args.self.now.joined.now.owners.items (length c.args.core_threads.now.items) (length c.args.core_threads.now.items)
    c.args.own.now.knows refl c.requires.few c.requires.own

pub core_thread-requires-clause-seat : goal.core_thread-requires-clause-seat
core_thread-requires-clause-seat c =
    let k : length c.as_slice-k.result.now ≡ length c.args.core_threads.now.items = search rules in
    alone_from c.args.self.now.cores c.args.self.now.joined.now.owners.items (length c.as_slice-k.result.now) (length c.args.core_threads.now.items)
    c.args.own.now.knows c.in_ok-seat.seat.knows (sym k) (subst (λ (n : ℕ). n < c.args.self.now.cores) (sym k) c.requires.few) c.requires.own
    (ap (λ (s : TheCoresSeat). s.knows) c.in_ok-seat.ensures.right)

pub returns : goal.returns
returns c =
    let k : length c.as_slice-k.result.now ≡ length c.args.core_threads.now.items = search rules in
    record {
      adds = record {
        core_thread = c.in_ok-core_thread.field-0;
        added = search rules;
        ready = c.in_ok-core_thread.ensures.ready;
        begins = subst (λ (n : ℕ). IsCoreThread (common_of c.args.self.now) n c.args.core (core_thread_of c.in_ok-core_thread.field-0)) k c.in_ok-core_thread.ensures.core_thread;
        seat = c.in_ok-core_thread.ensures.seat ∙ c.in_ok-seat.ensures.right;
        left = c.in_ok-seat.ensures.left;
        rings_are = c.in_ok-core_thread.ensures.rings;
        queues_are = c.in_ok-core_thread.ensures.queues;
      };
    }
