use Rattle.std.proofs.Common.{◌≡◌, map, drop, []}
use Rattle.fl_check.specs.Places.{member_places}
use Rattle.fl_check.specs.Checks.{first_fault}
use Rattle.fl_check.specs.Views.{sorted_of, HaveSame}
use Rattle.fl_parse.specs.Tree.{name_of}
use Rattle.fl_check.proofs.Members.{before}
use Rattle.fl_check.proofs.parts.check_members.Given as goal

abbrev pub invariant-loop-member : goal.invariant-loop-member
invariant-loop-member l = record {
  left : first_fault (member_places [] (map name_of l.members)) ≡ first_fault (member_places (before l.members l.member-index) (map name_of (drop l.member-index l.members)));
  names : HaveSame (sorted_of l.names) (before l.members l.member-index);
}
