use Rattle.std.proofs.Common.{◌≡◌, ◌++◌, ◌∷◌, [], length, map, drop, ap, ◌∙◌, sym, min, List}
use Rattle.std.proofs.lemmas.Slice.Zip.{zip_end, zip_turn}
use Rattle.std.proofs.lemmas.List.{length-append}
use Rattle.fl_interface.specs.Interface.{arg_type_of}
use Rattle.fl_value_data.specs.Value.{datum_of}
use Rattle.fl_value_data.specs.declared.value.PlanNo.TheVariants.{Two}
use Rattle.fl_wire.specs.Payload.{payload_bytes}
use Rattle.fl_layout.specs.Leaves.{arguments_onto}
use Rattle.fl_wire.proofs.Encoding.{as_declared, none_left}
use Rattle.fl_wire.proofs.Scalars.{rises}
use Rattle.fl_wire.proofs.Arguments.{zip_done}
use Rattle.fl_wire.proofs.Turns.{turn_fits, turn_left, turn_written, turn_rises}
use denote.Ref.{Bor}
use Rattle.fl_interface.specs.declared.interface.ArgType.{ArgType}
use Rattle.fl_value_data.specs.declared.value.Value.{Value}
use Rattle.fl_value_data.specs.Tape.{Argument}
use Rattle.fl_wire.proofs.encode.put_in_order.Goals as goal

pub returns : goal.returns
returns c =
    let types = c.args.types.now in
    let values = c.args.values.now in
    let turns : length c.loop-argument.yielded ≡ min (length types) (length values) = zip_end types values c.loop-argument.yielded c.into_iter-argument-iterator.result c.loop-argument.argument-iterator c.next.new.self c.next.result (rw (c.into_iter-argument-iterator.ensures.into_iter_gives, c.zip-argument-items.ensures.first) c.iter.ensures.rest) (rw c.into_iter-argument-iterator.ensures.into_iter_gives c.zip-argument-items.ensures.second.0) c.loop-argument.yielded_by c.in-None.is c.next.ensures.steps in
    let left = map arg_type_of (drop (length c.loop-argument.yielded) types) in
    let none : left ≡ [] = none_left types values (length c.loop-argument.yielded) turns c.requires.fit in
    record {
      ok = λ yes before old.
          let (now, shown, done) = c.loop-argument.invariant.written before old in
          shown ∙ ap payload_bytes (sym (ap (λ (xs : List Argument). arguments_onto c.loop-argument.after_dynamic xs now) (zip_done arg_type_of datum_of types values (length c.loop-argument.yielded) turns)) ∙ done
          ∙ as_declared (map arg_type_of types) (map datum_of values) c.loop-argument.least before (c.loop-argument.invariant.up ∙ ap (rises Two c.loop-argument.least) none));
    }

pub loop-argument-preserved : goal.loop-argument-preserved
loop-argument-preserved c =
    let ts = c.args.types.now in
    let vs = c.args.values.now in
    let n = length c.loop-argument.yielded in
    let one : List (Bor ArgType × Bor Value) = (c.in-Some.argument, c.in-Some.value) ∷ [] in
    let turn = zip_turn ts vs c.loop-argument.yielded c.into_iter-argument-iterator.result c.loop-argument.argument-iterator c.next.new.self _ (rw (c.into_iter-argument-iterator.ensures.into_iter_gives, c.zip-argument-items.ensures.first) c.iter.ensures.rest) (rw c.into_iter-argument-iterator.ensures.into_iter_gives c.zip-argument-items.ensures.second.0) c.loop-argument.yielded_by _ c.in-Some.is c.next.ensures.steps in
    let next = length-append c.loop-argument.yielded one in
    record {
      fit = turn_left ts vs n (length (c.loop-argument.yielded ++ one)) c.in-Some.argument.now c.in-Some.value.now next turn c.loop-argument.invariant.fit;
      up = turn_rises ts vs n (length (c.loop-argument.yielded ++ one)) c.in-Some.argument.now c.in-Some.value.now next turn c.loop-argument.least c.rank_of-rank.result c.loop-argument.invariant.up c.rank_of-rank.ensures.same c.if-rank-least.false;
      written = λ before old.
          let (now, shown, done) = c.loop-argument.invariant.written before old in (
            _,
            c.in_ok-put_next.ensures.ok now shown,
            turn_written ts vs n (length (c.loop-argument.yielded ++ one)) c.in-Some.argument.now c.in-Some.value.now next turn c.loop-argument.after_dynamic c.is_dynamic-after_dynamic.result now c.is_dynamic-after_dynamic.ensures.same ∙ done,
          );
    }

pub put_next-requires : goal.put_next-requires
put_next-requires c =
    let ts = c.args.types.now in
    let vs = c.args.values.now in
    let n = length c.loop-argument.yielded in
    let one : List (Bor ArgType × Bor Value) = (c.in-Some.argument, c.in-Some.value) ∷ [] in
    let turn = zip_turn ts vs c.loop-argument.yielded c.into_iter-argument-iterator.result c.loop-argument.argument-iterator c.next.new.self _ (rw (c.into_iter-argument-iterator.ensures.into_iter_gives, c.zip-argument-items.ensures.first) c.iter.ensures.rest) (rw c.into_iter-argument-iterator.ensures.into_iter_gives c.zip-argument-items.ensures.second.0) c.loop-argument.yielded_by _ c.in-Some.is c.next.ensures.steps in
    let next = length-append c.loop-argument.yielded one in
    record { fits = turn_fits ts vs n (length (c.loop-argument.yielded ++ one)) c.in-Some.argument.now c.in-Some.value.now next turn c.loop-argument.invariant.fit }
