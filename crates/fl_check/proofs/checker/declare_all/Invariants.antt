use Rattle.std.proofs.Common.{◌≡◌, map, drop}
use Rattle.fl_check.specs.Known.{nothing_declared, after_all}
use Rattle.fl_check.specs.Places.{places_from}
use Rattle.fl_check.specs.Checks.{first_fault}
use Rattle.fl_check.specs.Views.{before_of}
use Rattle.fl_parse.specs.Tree.{declaration_of}
use Rattle.fl_check.proofs.Looks.{Looked, declarations_look}
use Rattle.fl_check.proofs.checker.declare_all.Given as goal

abbrev pub invariant-loop-declaration : goal.invariant-loop-declaration
invariant-loop-declaration l = record {
  places : first_fault (places_from nothing_declared (map declaration_of l.declarations)) ≡ first_fault (places_from (before_of l.declared) (map declaration_of (drop l.declaration-index l.declarations)));
  after : after_all (before_of l.declared) (map declaration_of (drop l.declaration-index l.declarations)) ≡ after_all nothing_declared (map declaration_of l.declarations);
  looked : Looked declarations_look nothing_declared (before_of l.declared) l.declarations l.declaration-index;
}
