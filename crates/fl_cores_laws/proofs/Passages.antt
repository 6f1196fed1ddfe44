-- What was taken is the first of what was put: through a queue, and through a ring.
use Rattle.std.proofs.Common.{sym, ap, ◌∙◌, List, ◌++◌, map}
use Rattle.fl_base.specs.declared.fragment.Frag.{Frag}
use Rattle.fl_base.specs.Control.{bare}
use Rattle.fl_link.specs.Calls.{bare_calls}
use Rattle.fl_link.specs.Looks.{puts_of, takes_of}
use Rattle.fl_link.specs.Laws.{QueueLaw}
use Rattle.fl_cores_shares.specs.Settled.{TwoSides, RingsConserve}
use Rattle.fl_cores_laws.specs.Crossing.{ThroughQueues, ThroughRings}
use Rattle.fl_cores_laws.proofs.Prefixes.{as_same}

pub through_queues : QueueLaw → ThroughQueues
through_queues law put took p queues n new goes =
    let calls = (law p goes.after goes.looks goes.led).calls in (
      bare_calls goes.after.items,
      sym goes.put_is
          ∙ ap (λ (items : List Frag). bare_calls items ++ map bare (puts_of goes.looks)) (sym new)
          ∙ calls
          ∙ ap (λ (took : List Frag). took ++ bare_calls goes.after.items) goes.took_is,
    )

pub through_rings : RingsConserve → ThroughRings
through_rings law starts ends starts2 ends2 n m ring put took put2 took2 goes goes2 =
    let p : TwoSides = record { one = ring.one; two = ring.two } in
    let q : TwoSides = record { one = goes.after; two = goes2.after } in
    let both = law ring.size p q goes.looks goes2.looks ring.new goes.led goes2.led (ring.near goes.after goes2.after goes.after_is goes2.after_is) in (
      as_same (takes_of goes2.looks) took2 (map bare (puts_of goes.looks)) put goes2.took_is goes.put_is both.there,
      as_same (takes_of goes.looks) took (map bare (puts_of goes2.looks)) put2 goes.took_is goes2.put_is both.again,
    )
