use Rattle.std.proofs.Common.{◌≡◌, ◌≤◌, map, take, drop, [], vec_len, length}
use Rattle.fl_interface.specs.Interface.{type_of}
use Rattle.fl_check.specs.Known.{field_type}
use Rattle.fl_check.specs.Places.{field_places}
use Rattle.fl_check.specs.Checks.{first_fault}
use Rattle.fl_check.specs.Views.{before_of, list_of}
use Rattle.fl_parse.specs.Tree.{field_of}
use Rattle.fl_check.proofs.Looks.{Looked, fields_look}
use Rattle.fl_check.proofs.declared.Declared.check_structure.Given as goal

abbrev pub invariant-loop-field : goal.invariant-loop-field
invariant-loop-field l = record {
  places : first_fault (field_places (before_of l.self) [] (map field_of l.fields)) ≡ first_fault (field_places (before_of l.self) (list_of l.names) (map field_of (drop l.field-index l.fields)));
  types : map type_of l.laid.types.items ≡ map (field_type (before_of l.self)) (map field_of (take l.field-index l.fields));
  same : length (list_of l.names) ≡ vec_len l.laid.types;
  few : vec_len l.laid.types ≤ 32;
  looked : Looked (fields_look (before_of l.self)) [] (list_of l.names) l.fields l.field-index;
}
