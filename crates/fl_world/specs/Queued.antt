-- A binding within a core is made, in a world.
use Rattle.std.specs.Prelude.{ℕ, ◌≡◌, ◌+◌, ◌⊎◌, length}
use Rattle.fl_endpoint.specs.View.{TheEnd}
use Rattle.fl_core.specs.declared.joining.LocalBinding.{LocalBinding}
use Rattle.fl_model.specs.Events.{Answer, done}
use Rattle.fl_world_refines.specs.View.{TheWorld}
use Rattle.fl_world_refines.specs.Lending.{DoesNothing}
use Rattle.fl_world_refines.specs.Binding.{HasEndOf, JoinsByQueues}
use Rattle.fl_world.specs.declared.binding.BindRequest.{BindRequest}
use Rattle.fl_world.specs.Requests.{OfRequest, IsNewEnd}

-- ---- in the world

-- the two ends that are asked for, over the queue of number q and the next
abbrev pub joining : BindRequest → ℕ → ℕ → TheEnd → TheEnd → LocalBinding
joining x n q s t = record {
  binding = n;
  client = record { dispatcher = x.client.place; end = s };
  server = record { dispatcher = x.server.place; end = t };
  to_server = q;
  to_client = q + 1;
}

-- these are they, with a binding and two queues behind those of the world
pub record IsJoining (x : BindRequest) (w : TheWorld) (j : LocalBinding) : Type 0 where
  pub client : TheEnd
  pub new_client : IsNewEnd x.interface w client
  pub server : TheEnd
  pub new_server : IsNewEnd x.interface w server
  pub is : j ≡ joining x (length w.bindings) (length w.queues) client server

-- the binding is made; or its core has an end of it, and nothing is done
abbrev pub JoinsOrNot : BindRequest → ℕ → TheWorld → Answer → TheWorld → Type 0
JoinsOrNot x slots w a w2 =
    OfRequest x w (λ r. ((a ≡ done) × JoinsByQueues r slots w w2) ⊎ (HasEndOf (length w.bindings) r.client.core w × DoesNothing w a w2))
