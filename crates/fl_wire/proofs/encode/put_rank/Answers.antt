use Rattle.std.proofs.Common.{◌≡◌, ◌++◌, ◌∷◌, [], length, ap, ◌∙◌, sym, min, List}
use Rattle.std.proofs.lemmas.Slice.Zip.{zip_end, zip_turn}
use Rattle.std.proofs.lemmas.List.{length-append}
use Rattle.fl_interface.specs.Interface.{arg_type_of}
use Rattle.fl_value_data.specs.Value.{datum_of}
use Rattle.fl_layout.specs.Leaves.{arguments_onto}
use Rattle.fl_wire.specs.Payload.{payload_bytes}
use Rattle.fl_value_data.specs.Plan.{of_rank}
use Rattle.fl_wire.proofs.Arguments.{zip_done}
use Rattle.fl_wire.proofs.Turns.{turn_fits, turn_left, turn_taken, turn_passed}
use denote.Ref.{Bor}
use Rattle.fl_interface.specs.declared.interface.ArgType.{ArgType}
use Rattle.fl_value_data.specs.declared.value.Value.{Value}
use Rattle.fl_value_data.specs.Tape.{Argument, kind}
use Rattle.fl_wire.proofs.encode.put_rank.Goals as goal

pub returns : goal.returns
returns c = record {
  ok = λ before old.
      let (now, shown, done) = c.loop-ty.invariant.written before old in
      let turns : length c.loop-ty.yielded ≡ min (length c.args.types.now) (length c.args.values.now) = zip_end c.args.types.now c.args.values.now c.loop-ty.yielded c.into_iter-ty-iterator.result c.loop-ty.ty-iterator c.next.new.self c.next.result (rw (c.into_iter-ty-iterator.ensures.into_iter_gives, c.zip-ty-items.ensures.first) c.iter.ensures.rest) (rw c.into_iter-ty-iterator.ensures.into_iter_gives c.zip-ty-items.ensures.second.0) c.loop-ty.yielded_by c.in-None.is c.next.ensures.steps in
      let none = zip_done arg_type_of datum_of c.args.types.now c.args.values.now (length c.loop-ty.yielded) turns in
      shown ∙ ap payload_bytes (sym (ap (λ (xs : List Argument). arguments_onto c.loop-ty.after_dynamic (of_rank kind c.args.plan c.args.rank xs) now) none) ∙ done);
}

pub loop-ty-preserved : goal.loop-ty-preserved
loop-ty-preserved c =
    let ts = c.args.types.now in
    let vs = c.args.values.now in
    let n = length c.loop-ty.yielded in
    let one : List (Bor ArgType × Bor Value) = (c.in-Some.ty, c.in-Some.value) ∷ [] in
    let turn = zip_turn ts vs c.loop-ty.yielded c.into_iter-ty-iterator.result c.loop-ty.ty-iterator c.next.new.self _ (rw (c.into_iter-ty-iterator.ensures.into_iter_gives, c.zip-ty-items.ensures.first) c.iter.ensures.rest) (rw c.into_iter-ty-iterator.ensures.into_iter_gives c.zip-ty-items.ensures.second.0) c.loop-ty.yielded_by _ c.in-Some.is c.next.ensures.steps in
    let next = length-append c.loop-ty.yielded one in
    record {
      fit = turn_left ts vs n (length (c.loop-ty.yielded ++ one)) c.in-Some.ty.now c.in-Some.value.now next turn c.loop-ty.invariant.fit;
      written = λ before old.
          let (now, shown, done) = c.loop-ty.invariant.written before old in (
            _,
            c.in_ok-put_next.ensures.ok now shown,
            turn_taken ts vs n (length (c.loop-ty.yielded ++ one)) c.in-Some.ty.now c.in-Some.value.now next turn c.args.plan c.args.rank c.loop-ty.after_dynamic c.is_dynamic-after_dynamic.result now c.is_dynamic-after_dynamic.ensures.same (sym c.rank_of.ensures.same ∙ c.if-rank_of-rank.false) ∙ done,
          );
    }

pub loop-ty-preserved-then-rank_of-rank : goal.loop-ty-preserved-then-rank_of-rank
loop-ty-preserved-then-rank_of-rank c =
    let ts = c.args.types.now in
    let vs = c.args.values.now in
    let n = length c.loop-ty.yielded in
    let one : List (Bor ArgType × Bor Value) = (c.in-Some.ty, c.in-Some.value) ∷ [] in
    let turn = zip_turn ts vs c.loop-ty.yielded c.into_iter-ty-iterator.result c.loop-ty.ty-iterator c.next.new.self _ (rw (c.into_iter-ty-iterator.ensures.into_iter_gives, c.zip-ty-items.ensures.first) c.iter.ensures.rest) (rw c.into_iter-ty-iterator.ensures.into_iter_gives c.zip-ty-items.ensures.second.0) c.loop-ty.yielded_by _ c.in-Some.is c.next.ensures.steps in
    let next = length-append c.loop-ty.yielded one in
    record {
      fit = turn_left ts vs n (length (c.loop-ty.yielded ++ one)) c.in-Some.ty.now c.in-Some.value.now next turn c.loop-ty.invariant.fit;
      written = λ before old.
          let (now, shown, done) = c.loop-ty.invariant.written before old in
          (now, shown, turn_passed ts vs n (length (c.loop-ty.yielded ++ one)) c.in-Some.ty.now c.in-Some.value.now next turn c.args.plan c.args.rank c.loop-ty.after_dynamic now (λ e. c.if-rank_of-rank.true (c.rank_of.ensures.same ∙ e)) ∙ done);
    }

pub put_next-requires : goal.put_next-requires
put_next-requires c =
    let ts = c.args.types.now in
    let vs = c.args.values.now in
    let n = length c.loop-ty.yielded in
    let one : List (Bor ArgType × Bor Value) = (c.in-Some.ty, c.in-Some.value) ∷ [] in
    let turn = zip_turn ts vs c.loop-ty.yielded c.into_iter-ty-iterator.result c.loop-ty.ty-iterator c.next.new.self _ (rw (c.into_iter-ty-iterator.ensures.into_iter_gives, c.zip-ty-items.ensures.first) c.iter.ensures.rest) (rw c.into_iter-ty-iterator.ensures.into_iter_gives c.zip-ty-items.ensures.second.0) c.loop-ty.yielded_by _ c.in-Some.is c.next.ensures.steps in
    let next = length-append c.loop-ty.yielded one in
    record { fits = turn_fits ts vs n (length (c.loop-ty.yielded ++ one)) c.in-Some.ty.now c.in-Some.value.now next turn c.loop-ty.invariant.fit }
