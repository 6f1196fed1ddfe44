use Rattle.std.proofs.Common.{◌≡◌, ◌++◌, Result, Vec, Global, List, map, take, drop, length, subst, sym, refl, IfOk, rules}
use Rattle.std.specs.List.{AllZip}
use Rattle.fl_cores_file.specs.Reports.{report_of}
use Rattle.fl_core.specs.declared.core_job.CoreJob.{CoreJob}
use Rattle.fl_cores_jobs.specs.State.{joined_of}
use Rattle.fl_cores_fork.specs.declared.core_thread.FinishedCore.{FinishedCore}
use Rattle.fl_cores_fork.specs.declared.no_report.NoReport.{NoReport}
use Rattle.fl_cores_fork.specs.CoreThreads.{core_thread_of, CoreThreadRan, without_records}
use Rattle.fl_cores_parts.proofs.Together.{rest_joined}
use Rattle.fl_cores_parts.specs.Begins.{common_in}
use Rattle.fl_cores_parts.proofs.AtTable.{left_at_one, left_near, ran_at}
use Rattle.fl_cores_parts.proofs.Each.{all_without, as_many}
use Rattle.fl_cores_parts.proofs.Moved.{others_back}
use Rattle.fl_cores_parts.proofs.Keeping.{cores_ran}
use Rattle.fl_cores_parts.proofs.run.run_joined.Goals as goal

pub report_on-requires : goal.report_on-requires
report_on-requires g c =
    let all : AllZip (CoreThreadRan c.args.joined.jobs.items c.args.limit) c.in_ok-wired.wired.core_threads.items c.in_ok-done.done.items =
    subst (λ (jobs : List CoreJob). AllZip (CoreThreadRan jobs c.args.limit) c.in_ok-wired.wired.core_threads.items c.in_ok-done.done.items) c.deref-2.ensures.value
    (subst (λ (r : Result (Vec FinishedCore Global) NoReport). IfOk r (λ all. AllZip (CoreThreadRan c.deref-2.result.now c.args.limit) c.in_ok-wired.wired.core_threads.items all.items))
    c.in_ok-done.was c.run_each-ran.ensures.each) in
    let done : List FinishedCore = take c.in_ok-done.done.len (c.put.new.done ++ drop (length c.put.new.done) c.in_ok-done.done.items) in
    let lent : map without_records c.put.new.done ≡ map without_records c.in_ok-done.done.items = search rules in
    let ran = all_without c.args.joined.jobs.items c.args.limit c.in_ok-wired.wired.core_threads.items c.in_ok-done.done.items done
    (others_back c.in_ok-done.done.items c.put.new.done c.in_ok-done.done.len c.in_ok-done.done.ok.0 lent) all in
    record {
      few = c.requires.bindings.few;
      end_works = c.requires.end_works;
      places = c.requires.places;
      rest = rest_joined c.args.parts (joined_of c.args.joined) c.args.limit (length c.args.joined.owners.items) c.in_ok-wired.wired.core_threads.items
          done c.in_ok-wired.wired.owners.items c.in_ok-own.own c.wire.new.own c.run_each-ran.result.1
          (subst (λ (r : Result (Vec FinishedCore Global) NoReport). IfOk r (λ _. c.run_each-ran.result.1 ≡ c.wire.new.own)) c.in_ok-done.was c.run_each-ran.ensures.own)
          refl c.in_ok-wired.ensures.table c.in_ok-wired.ensures.left c.in_ok-wired.ensures.seats c.in_ok-wired.ensures.wires ran;
      one = left_at_one c.args.parts.rings.items c.in_ok-wired.wired.owners.items (length c.args.parts.cores.items) c.in_ok-wired.wired.core_threads.items
          done c.in_ok-wired.ensures.at c.args.joined.jobs.items c.args.limit ran;
    }

pub returns : goal.returns
returns g c =
    let all : AllZip (CoreThreadRan c.args.joined.jobs.items c.args.limit) c.in_ok-wired.wired.core_threads.items c.in_ok-done.done.items =
    subst (λ (jobs : List CoreJob). AllZip (CoreThreadRan jobs c.args.limit) c.in_ok-wired.wired.core_threads.items c.in_ok-done.done.items) c.deref-2.ensures.value
    (subst (λ (r : Result (Vec FinishedCore Global) NoReport). IfOk r (λ all. AllZip (CoreThreadRan c.deref-2.result.now c.args.limit) c.in_ok-wired.wired.core_threads.items all.items))
    c.in_ok-done.was c.run_each-ran.ensures.each) in
    let done : List FinishedCore = take c.in_ok-done.done.len (c.put.new.done ++ drop (length c.put.new.done) c.in_ok-done.done.items) in
    let lent : map without_records c.put.new.done ≡ map without_records c.in_ok-done.done.items = search rules in
    let ran = all_without c.args.joined.jobs.items c.args.limit c.in_ok-wired.wired.core_threads.items c.in_ok-done.done.items done
    (others_back c.in_ok-done.done.items c.put.new.done c.in_ok-done.done.len c.in_ok-done.done.ok.0 lent) all in
    let parts = c.args.parts in
    let owners = c.in_ok-wired.wired.owners.items in
    let threads = c.in_ok-wired.wired.core_threads.items in
    let jobs = c.args.joined.jobs.items in
    let wires = c.in_ok-wired.ensures.wires in
    let settled = c.in_ok-report_on.ensures.settled in
    let many : length parts.cores.items ≡ length (map core_thread_of threads) =
    sym (as_many (common_in parts (joined_of c.args.joined) wires.places) 0 parts.cores.items (map core_thread_of threads) wires.begin) in
    record {
      ran = cores_ran parts (joined_of c.args.joined) c.args.limit threads done owners (report_of c.in_ok-report_on.field-0) wires c.in_ok-wired.ensures.ready ran
          (left_near parts.rings.items owners (length parts.cores.items) threads done c.in_ok-wired.ensures.at jobs c.args.limit ran settled)
          (length c.args.joined.owners.items) refl c.in_ok-report_on.ensures.heard c.in_ok-report_on.ensures.tells
          (ran_at parts.rings.items owners (length parts.cores.items) threads done c.in_ok-wired.ensures.at jobs c.args.limit ran settled many);
    }
