use Rattle.std.proofs.Common.{◌≡◌, ◌<◌, ◌+◌, ℕ, List, [], ◌∷◌, ◌++◌, map, length, arith, ap, ◌∙◌, sym, refl, subst, rules}
use Rattle.std.proofs.lemmas.List.{length-map}
use Rattle.fl_cores_table.specs.Seats.{TheCoresSeat}
use Rattle.fl_cores_fork.specs.declared.core_thread.CoreThread.{CoreThread}
use Rattle.fl_cores_fork.specs.CoreThreads.{AllReady, core_thread_of}
use Rattle.fl_cores_fork.proofs.Each.{ready_push}
use Rattle.fl_cores_parts.specs.Begins.{AreCoreThreads}
use Rattle.fl_cores_parts.specs.CoreThreads.{common_of, seats_given, AreSeats, left_view}
use Rattle.fl_cores_parts.proofs.AtTable.{hands_more}
use Rattle.fl_cores_parts.proofs.Each.{as_many, core_threads_from}
use Rattle.fl_cores_parts.proofs.Together.{seats_more}
use Rattle.fl_cores_parts.proofs.Seats.{left_from}
use Rattle.fl_cores_parts.proofs.wiring.CoreInputs.+core_threads.Goals as goal

pub add_core_thread-requires : goal.add_core_thread-requires
add_core_thread-requires t c =
    let whole : length c.args.cores.items ≡ length c.pop.new.self.items + 1 = search rules in
    let few = c.requires.few in
    let count : length c.in_ok-core_threads.core_threads.items ≡ length c.pop.new.self.items =
    sym (length-map c.in_ok-core_threads.core_threads.items core_thread_of)
    ∙ as_many (common_of c.args.self.now) 0 c.pop.new.self.items (map core_thread_of c.in_ok-core_threads.core_threads.items) c.in_ok-core_threads.ensures.core_threads in
    record {
      bindings = c.requires.bindings;
      end_works = c.requires.end_works;
      few = omega (arith, whole, count, few);
      own = subst (λ (n : ℕ). c.core_threads.new.own.knows ≡ left_view c.args.self.now.cores c.args.self.now.joined.now.owners.items n) (sym count)
          c.in_ok-core_threads.ensures.left;
    }

pub returns-clause-ready : goal.returns-clause-ready
returns-clause-ready t c =
    let adds = c.in_ok-add_core_thread.ensures.adds in
    subst AllReady (sym adds.added) (ready_push c.in_ok-core_threads.core_threads.items adds.core_thread c.in_ok-core_threads.ensures.ready adds.ready)

pub returns-clause-left : goal.returns-clause-left
returns-clause-left t c =
    let whole : length c.args.cores.items ≡ length c.pop.new.self.items + 1 = search rules in
    let few = c.requires.few in
    let less : length c.pop.new.self.items < c.args.self.now.cores = omega (arith, whole, few) in
    left_from c.args.self.now.cores c.args.self.now.joined.now.owners.items (length c.pop.new.self.items) (length c.pop.new.self.items) (length c.args.cores.items)
    c.core_threads.new.own.knows c.add_core_thread.new.own.knows refl less whole c.in_ok-core_threads.ensures.left
    (ap (λ (s : TheCoresSeat). s.knows) c.in_ok-add_core_thread.ensures.adds.left)

pub returns-clause-core_threads : goal.returns-clause-core_threads
returns-clause-core_threads t c =
    let adds = c.in_ok-add_core_thread.ensures.adds in
    let whole : c.args.cores.items ≡ c.pop.new.self.items ++ c.in-Some.core ∷ [] = search rules in
    let count : length c.in_ok-core_threads.core_threads.items ≡ length c.pop.new.self.items =
    sym (length-map c.in_ok-core_threads.core_threads.items core_thread_of)
    ∙ as_many (common_of c.args.self.now) 0 c.pop.new.self.items (map core_thread_of c.in_ok-core_threads.core_threads.items) c.in_ok-core_threads.ensures.core_threads in
    subst (λ (xs : List CoreThread). AreCoreThreads (common_of c.args.self.now) 0 c.args.cores.items (map core_thread_of xs)) (sym adds.added)
    (core_threads_from (common_of c.args.self.now) (length c.in_ok-core_threads.core_threads.items) c.args.cores.items c.pop.new.self.items
    c.in_ok-core_threads.core_threads.items c.in-Some.core adds.core_thread whole count c.in_ok-core_threads.ensures.core_threads adds.begins)

pub returns-clause-table : goal.returns-clause-table
returns-clause-table t c = ap (λ (s : TheCoresSeat). s.table) c.in_ok-add_core_thread.ensures.adds.left ∙ c.in_ok-core_threads.ensures.table

pub returns-clause-seats : goal.returns-clause-seats
returns-clause-seats t c =
    let adds = c.in_ok-add_core_thread.ensures.adds in
    subst (λ (xs : List CoreThread). AreSeats c.args.own.now (seats_given (map core_thread_of xs))) (sym adds.added)
    (seats_more c.args.own.now c.core_threads.new.own adds.core_thread.run_seat.seat c.in_ok-core_threads.core_threads.items adds.core_thread c.in_ok-core_threads.ensures.seats
    c.in_ok-core_threads.ensures.table adds.seat refl)

pub returns-clause-hands : goal.returns-clause-hands
returns-clause-hands t c =
    let adds = c.in_ok-add_core_thread.ensures.adds in
    hands_more _ c.in_ok-core_threads.core_threads.items adds.core_thread c.args.sides.items c.pop-2.new.self.items c.in-Some-pop.own_sides adds.added
    (search rules) c.in_ok-core_threads.ensures.hands adds.rings_are
