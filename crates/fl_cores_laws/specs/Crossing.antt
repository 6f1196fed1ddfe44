-- What crosses from one end of a binding to the other, off links. Laws.
use Rattle.std.specs.Prelude.{ℕ, ◌≡◌, List, [], slice_get, Some}
use Rattle.fl_base.specs.declared.fragment.Frag.{Frag}
use Rattle.fl_base.specs.Prefix.{IsPrefix}
use Rattle.fl_link.specs.Queue.{TheQueue, QueuePuts, QueueTakes}
use Rattle.fl_ring.specs.SharedSides.{TheSide, SharedPuts, SharedTakes}
use Rattle.fl_cores_shares.specs.Shares.{AreNew}
use Rattle.fl_cores_shares.specs.Settled.{IsNear}
use Rattle.fl_core_run_laws.specs.Flows.{SideCarries}

-- ---- a queue

-- through a queue in which nothing stood: what was taken is the first of what was put
abbrev pub ThroughQueues : Type 0
ThroughQueues = (put took : List Frag) (p : TheQueue) (queues : List TheQueue) (n : ℕ) → p.items ≡ []
    → SideCarries QueuePuts QueueTakes (record { put = put; took = took }) p queues n → IsPrefix took put

-- ---- a ring

-- its two sides, each by the place at which its core has it: new at the start, and put together again in the end
pub record Crosses (starts ends starts2 ends2 : List TheSide) (n m : ℕ) : Type 0 where
  pub size : ℕ
  pub one : TheSide
  pub one_is : slice_get starts n ≡ Some one
  pub two : TheSide
  pub two_is : slice_get starts2 m ≡ Some two
  pub new : AreNew size one two
  pub near : (p q : TheSide) → slice_get ends n ≡ Some p → slice_get ends2 m ≡ Some q → IsNear (record { one = p; two = q })

abbrev pub SideGoes : List Frag → List Frag → TheSide → List TheSide → ℕ → Type 0
SideGoes put took p sides n = SideCarries SharedPuts SharedTakes (record { put = put; took = took }) p sides n

-- what was taken at each side is the first of what was put at the other
abbrev pub ThroughRings : Type 0
ThroughRings = (starts ends starts2 ends2 : List TheSide) (n m : ℕ) (ring : Crosses starts ends starts2 ends2 n m) (put took put2 took2 : List Frag)
    → SideGoes put took ring.one ends n → SideGoes put2 took2 ring.two ends2 m → IsPrefix took2 put × IsPrefix took put2
