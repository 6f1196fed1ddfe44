use Rattle.std.proofs.Common.{◌≡◌, ap, length, slice_get, slice_index_or, Some, refl}
use Rattle.std.proofs.lemmas.Result.{on_ok_weaker, on_err_weaker}
use Rattle.std.proofs.lemmas.Option.{slice_get_read}
use Rattle.fl_world_events.proofs.Lifts.{put_back}
use Rattle.fl_world_events.proofs.Queued.{may_join}
use Rattle.fl_world_events.proofs.by_queues.join_at.Goals as goal

pub join-requires : goal.join-requires
join-requires c =
    let there = slice_get_read c.args.cores.now (length c.args.cores.now) c.args.n _ refl c.requires.there (ap (slice_index_or c.args.cores.now c.args.n) c.index-cores-n.is) in
    record { may = may_join c.args.n c.args.both c.args.cores.now c.requires.may _ there }

pub returns-clause-joins : goal.returns-clause-joins
returns-clause-joins c =
    let core = slice_index_or c.args.cores.now c.args.n c.index-cores-n.result in
    let value : core ≡ slice_index_or c.args.cores.now c.args.n core = ap (slice_index_or c.args.cores.now c.args.n) c.index-cores-n.is in
    let there : slice_get c.args.cores.now c.args.n ≡ Some core = slice_get_read c.args.cores.now (length c.args.cores.now) c.args.n core refl c.requires.there value in
    on_ok_weaker c.join.result (λ h. record { core = core; core_is = there; after = c.join.new.core; joins = h; rest = refl }) c.join.ensures.joins

pub returns-clause-kept : goal.returns-clause-kept
returns-clause-kept c =
    let core = slice_index_or c.args.cores.now c.args.n c.index-cores-n.result in
    let value : core ≡ slice_index_or c.args.cores.now c.args.n core = ap (slice_index_or c.args.cores.now c.args.n) c.index-cores-n.is in
    on_err_weaker c.join.result (put_back c.args.cores.now c.args.n c.join.new.core core core value refl) c.join.ensures.kept
