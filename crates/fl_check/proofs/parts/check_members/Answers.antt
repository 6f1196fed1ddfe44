use Rattle.std.proofs.Common.{◌+◌, arith}
use Rattle.fl_check.specs.Views.{sorted_of}
use Rattle.fl_check.proofs.FirstFaults.{err_of}
use Rattle.fl_check.proofs.Walks.{walk_on, walk_fault, walk_end}
use Rattle.fl_check.proofs.Lists.{members_left, member_here, after_member, members_walk}
use Rattle.fl_check.proofs.Members.{before, before_more, here_sound, here_fault, same_before}
use Rattle.fl_check.proofs.parts.check_members.Goals as goal

pub returns-in_err-add_member-clause-fault : goal.returns-in_err-add_member-clause-fault
returns-in_err-add_member-clause-fault c =
    let ms = c.args.members.now in let i = c.loop-member.member-index in let names = sorted_of c.loop-member.names in
    let e = c.in_err-add_member.field-0.0 in let m = c.member-item.result in
    err_of c.from_residual.result e _ c.from_residual.ensures.1
    (walk_fault members_left member_here after_member members_walk _ e (before ms i) ms i m _ (omega arith) c.member-item.is
    c.loop-member.invariant.left (here_fault names (before ms i) m e c.loop-member.invariant.names c.in_err-add_member.ensures.fault))

pub loop-member-preserved : goal.loop-member-preserved
loop-member-preserved c =
    let ms = c.args.members.now in let i = c.loop-member.member-index in let names = sorted_of c.loop-member.names in
    let m = c.member-item.result in
    record {
      left = walk_on members_left member_here after_member members_walk _ (before ms i) (before ms (i + 1)) ms i m _ (omega arith) c.member-item.is
          c.loop-member.invariant.left (here_sound names (before ms i) m c.loop-member.invariant.names c.in_ok-add_member.ensures.sound)
          (before_more ms i m _ (omega arith) c.member-item.is);
      names = same_before names (sorted_of c.add_member.new.names) ms i m _ (omega arith) c.member-item.is c.loop-member.invariant.names
          c.in_ok-add_member.ensures.names;
    }

pub returns-clause-sound : goal.returns-clause-sound
returns-clause-sound c =
    walk_end members_left member_here after_member members_walk _ (before c.args.members.now c.loop-member.member-index) c.args.members.now c.loop-member.member-index (omega arith) c.loop-member.invariant.left
