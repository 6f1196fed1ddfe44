-- The names that the code keeps, and what it tells of a command, by which public contracts speak of `Names`.
use Rattle.std.specs.Prelude.{◌≡◌, ◌⊎◌, None, Result, Ok, Err, map}
use Rattle.fl_script_lines.specs.declared.event.NamedEvent.{NamedEvent as RustAsked}
use Rattle.fl_script_lines.specs.declared.event.Naming.{Naming}
use Rattle.fl_script_lines.specs.declared.event.Naming.TheVariants.{Nothing, Dispatcher, Binding, Interface}
use Rattle.fl_script_lines.specs.declared.fault.LineFault.{LineFault}
use Rattle.fl_script_lines.specs.declared.fault.LineFault.TheVariants.{Memory}
use Rattle.fl_script_lines.specs.declared.names.ScriptNames.{ScriptNames as RustNames}
use Rattle.fl_script_lines.specs.Asked.{Asked, refuses, asks, Asks, AsksForMemory}
use Rattle.fl_script_lines.specs.Commands.{Command}
use Rattle.fl_model.specs.Views.{id_of, event_of}
use Rattle.fl_script_lines.specs.Faults.{number_of}
use Rattle.fl_script_lines.specs.Names.{Names, place_of, with_names, with_dispatcher, with_binding}
use Rattle.fl_script_lines.specs.Tables.{table_of}

abbrev pub names_of : RustNames → Names
names_of n = record {
  interfaces = table_of n.interfaces;
  messages = map table_of n.messages.items;
  dispatchers = table_of n.dispatchers;
  placed = map id_of n.placed.items;
  bindings = table_of n.bindings;
  spoken = n.spoken.items;
}

-- the names behind a naming
abbrev pub named : Names → Naming → Names
named n Nothing = n
named n (Dispatcher name core) = with_dispatcher n name.now core
named n (Binding name interface) = with_binding n name.now interface
named n (Interface new) = with_names n new.value.name.items (table_of new.value.messages)

-- its name isn't taken
abbrev pub IsNew : Names → Naming → Type 0
IsNew n Nothing = Unit {0}
IsNew n (Dispatcher name core) = place_of name.now n.dispatchers ≡ None
IsNew n (Binding name interface) = place_of name.now n.bindings ≡ None
IsNew n (Interface new) = place_of new.value.name.items n.interfaces ≡ None

-- what a function returned tells what is asked
abbrev pub Tells : Names → Result RustAsked LineFault → Asked → Type 0
Tells n (Ok a) asked = asks (event_of a.event) (named n a.naming) ≡ asked
Tells n (Err fault) asked = refuses (number_of fault) ≡ asked

-- the command asks something, and what a function returned tells it, or memory ran out
abbrev pub AsksAs : Names → Command → Result RustAsked LineFault → Type 0
AsksAs n c result = ((result ≡ Err Memory) × AsksForMemory n c) ⊎ ((asked : Asked) × Asks n c asked × Tells n result asked)

-- ---- the law

-- a command asks one thing
abbrev pub OneAsked : Type 0
OneAsked = (n : Names) (c : Command) (x y : Asked) → Asks n c x → Asks n c y → x ≡ y
