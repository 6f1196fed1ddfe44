-- The names that a script has given, in order of making: a thing's place in its list is the place by which the machine
-- knows it. Interfaces, dispatchers and bindings are named apart from each other. Services aren't here: the machine
-- itself knows them by their names.
use Rattle.std.specs.Prelude.{ℕ, ◌==◌, Bool, List, [], ◌∷◌, ◌++◌, map, position, slice_get, nat_lt}
use Rattle.std.specs.Prelude.{if◌then◌else◌, Option, Some, None, unwrap_or}
use Rattle.std.specs.List.{count_by}
use Rattle.std.specs.Str.{bytes_eq}
use Rattle.fl_base.specs.declared.identity.EndId.{EndId}
use Rattle.fl_base.specs.Given.{given}
use Rattle.fl_interface.specs.Interface.{TheInterface, TheMessage}
use Rattle.fl_model.specs.Events.{DispatcherId}
use Rattle.fl_script_lines.specs.Commands.{EndName}

pub record Names : Type 0 where
  pub interfaces : List (List ℕ)
  -- of each interface, the names of its messages, by number
  pub messages : List (List (List ℕ))
  pub dispatchers : List (List ℕ)
  -- of each dispatcher, its core and its place there
  pub placed : List DispatcherId
  pub bindings : List (List ℕ)
  -- of each binding, its interface
  pub spoken : List ℕ

abbrev pub no_names : Names
no_names = record { interfaces = []; messages = []; dispatchers = []; placed = []; bindings = []; spoken = [] }

-- ---- what a name stands for

-- the place of the first of these names that is this one
abbrev pub place_of : List ℕ → List (List ℕ) → Option ℕ
place_of name names = position (bytes_eq name) names

-- the dispatcher of this name: its core, and its place there
abbrev pub dispatcher_at : Names → List ℕ → Option DispatcherId
dispatcher_at n name = given (place_of name n.dispatchers) None λ place. slice_get n.placed place

-- the end as the machine knows it, by its binding's place
abbrev pub end_at : Names → EndName → Option EndId
end_at n e = given (place_of e.binding n.bindings) None λ place. Some (record { binding = place; side = e.side })

-- the names of the messages of an end's interface
abbrev pub messages_at : Names → EndId → List (List ℕ)
messages_at n e = given (slice_get n.spoken e.binding) [] λ i. given (slice_get n.messages i) [] λ names. names

-- the number of a message, which has 16 bits
abbrev pub message_at : Names → EndId → List ℕ → Option ℕ
message_at n e name = given (place_of name (messages_at n e)) None λ k. if nat_lt k 65536 then Some k else None

-- a message's name, by its number
abbrev pub message_name : Names → EndId → ℕ → List ℕ
message_name n e k = unwrap_or (slice_get (messages_at n e) k) []

-- ---- a new name

-- an interface's name, and those of its messages
abbrev pub with_names : Names → List ℕ → List (List ℕ) → Names
with_names n name messages = record n {
  interfaces = n.interfaces ++ name ∷ [];
  messages = n.messages ++ messages ∷ [];
}

-- the same, its messages numbered in their order
abbrev pub with_interface : Names → TheInterface → Names
with_interface n i = with_names n i.name (map (λ (m : TheMessage). m.name) i.messages)

abbrev pub is_on : ℕ → DispatcherId → Bool
is_on core d = d.core == core

-- a dispatcher's place on its core is the number of those that were made there before
abbrev pub with_dispatcher : Names → List ℕ → ℕ → Names
with_dispatcher n name core = record n {
  dispatchers = n.dispatchers ++ name ∷ [];
  placed = n.placed ++ record { core = core; place = count_by (is_on core) n.placed } ∷ [];
}

-- a binding's name, and the place of its interface
abbrev pub with_binding : Names → List ℕ → ℕ → Names
with_binding n name interface = record n {
  bindings = n.bindings ++ name ∷ [];
  spoken = n.spoken ++ interface ∷ [];
}
