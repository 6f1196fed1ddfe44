use Rattle.std.proofs.Common.{◌≡◌, ℕ, ◌+◌, suc, Some, drop, get_or, sym, ◌∙◌, arith}
use Rattle.std.proofs.lemmas.List.{drop_more}
use Rattle.fl_stub.specs.declared.op.Op.TheVariants.{Emit}
use Rattle.fl_stub.specs.Frames.{frames_of}
use Rattle.fl_stub.specs.Locations.{outer}
use Rattle.fl_stub.specs.Rests.{IsPlaceIn}
use Rattle.fl_stub.specs.declared.op.Column.{Column}
use Rattle.fl_stub.proofs.Skips.{Behind}
use Rattle.fl_machine.specs.Cursors.{inside_after}
use Rattle.fl_machine.proofs.Turns.{goes_inside, goes_behind, less_inside}
use Rattle.fl_machine.proofs.cursor.behind.Goals as goal

left : (c : goal.In_default) (column : Column) (depth : ℕ) → IsPlaceIn column c.args.ops.now (suc depth) c.args.start → Behind column depth (outer (frames_of (drop c.args.start c.args.ops.now))) (drop (c.loop-place.place + 1) c.args.ops.now)
left c column depth h =
    goes_behind column c.args.ops.now c.loop-place.place c.loop-place.inside depth (get_or c.args.ops.now c.loop-place.place (Emit 0)) (outer (frames_of (drop c.args.start c.args.ops.now)))
    (drop_more c.args.ops.now c.loop-place.place (Emit 0) c.loop-place-test.true) (sym c.inside_after.ensures ∙ c.in_default.is) (c.loop-place.invariant.1 column depth h)

pub returns-in_default-clause-place : goal.returns-in_default-clause-place
returns-in_default-clause-place c column depth h = (left c column depth h).place

pub returns-in_default-clause-frames : goal.returns-in_default-clause-frames
returns-in_default-clause-frames c column depth h = (left c column depth h).frames

pub loop-place-preserved : goal.loop-place-preserved
loop-place-preserved c =
    let op = get_or c.args.ops.now c.loop-place.place (Emit 0) in
    let is : inside_after c.loop-place.inside op ≡ Some c.in-Some.next = sym c.inside_after.ensures ∙ c.in-Some.is in
    let less = less_inside c.loop-place.inside c.in-Some.next op is in
    let inside = c.loop-place.invariant.0 in (
      omega (arith, less, inside),
      λ column depth h.
          goes_inside column c.args.ops.now c.loop-place.place c.loop-place.inside c.in-Some.next depth op (outer (frames_of (drop c.args.start c.args.ops.now)))
          (drop_more c.args.ops.now c.loop-place.place (Emit 0) c.loop-place-test.true) is (c.loop-place.invariant.1 column depth h),
    )
