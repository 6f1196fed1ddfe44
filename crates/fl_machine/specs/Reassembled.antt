-- Working file: the view and the invariant of reassemblies at many places, from what they store.
use Rattle.std.specs.Prelude.{List}
use Rattle.fl_machine.specs.Reassembling.{TheReassembly}
use Rattle.fl_machine.specs.Places.{reassemblies, ArePlaces}
use Rattle.fl_machine.specs.declared.reassemblies.Reassemblies.TheInside.{Inside}

abbrev pub reassemblies_of : Inside → List TheReassembly
reassemblies_of r = reassemblies r.stored

abbrev pub AreReassemblies : Inside → Type 0
AreReassemblies r = ArePlaces r.stored
