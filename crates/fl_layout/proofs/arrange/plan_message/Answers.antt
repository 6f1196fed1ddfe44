use Rattle.std.proofs.Common.{◌≡◌, ◌∙◌, ◌≤◌, length, true, List, map, ap, sym, subst}
use Rattle.fl_interface.specs.Interface.{arg_type_of, message_of}
use Rattle.fl_interface.specs.declared.interface.ArgType.{ArgType}
use Rattle.fl_value_data.specs.Plan.{by_ranks}
use Rattle.fl_value_data.proofs.Ranked.{arranged_ranks}
use Rattle.fl_layout.specs.Extents.{placing, typed, placed_of, numbered, are_within, end_of_all, filled_up, IsFixedLength}
use Rattle.fl_layout.specs.declared.extent.PlacedArg.{PlacedArg}
use Rattle.fl_layout.specs.declared.extent.Fill.TheVariants.{Full}
use Rattle.fl_layout.proofs.Arranging.{message_short, placed_are_within}
use Rattle.fl_layout.proofs.arrange.plan_message.Goals as goal

pub fixed_length-requires-clause-few : goal.fixed_length-requires-clause-few
fixed_length-requires-clause-few c =
    let m = message_of c.args.message.now in
    let all : c.deref-2.result.now ≡ placed_of c.args.plan m
    = c.deref-2.ensures.value ∙ c.in_ok-placed.ensures.placed ∙ ap (λ (types : List ArgType). map placing (by_ranks typed c.args.plan (numbered (map arg_type_of types)))) c.deref.ensures.value
    ∙ ap (map placing) (sym (arranged_ranks typed c.args.plan (numbered m.args))) in
    subst (λ (ps : List PlacedArg). length ps ≤ 160) (sym all) (message_short c.args.plan m c.requires.within)

pub fixed_length-requires-clause-within : goal.fixed_length-requires-clause-within
fixed_length-requires-clause-within c =
    let m = message_of c.args.message.now in
    let all : c.deref-2.result.now ≡ placed_of c.args.plan m
    = c.deref-2.ensures.value ∙ c.in_ok-placed.ensures.placed ∙ ap (λ (types : List ArgType). map placing (by_ranks typed c.args.plan (numbered (map arg_type_of types)))) c.deref.ensures.value
    ∙ ap (map placing) (sym (arranged_ranks typed c.args.plan (numbered m.args))) in
    subst (λ (ps : List PlacedArg). are_within ps ≡ true) (sym all) (placed_are_within c.args.plan m c.requires.within)

pub limit-requires-clause-few : goal.limit-requires-clause-few
limit-requires-clause-few c =
    let m = message_of c.args.message.now in
    let all : c.deref-3.result.now ≡ placed_of c.args.plan m
    = c.deref-3.ensures.value ∙ c.in_ok-placed.ensures.placed ∙ ap (λ (types : List ArgType). map placing (by_ranks typed c.args.plan (numbered (map arg_type_of types)))) c.deref.ensures.value
    ∙ ap (map placing) (sym (arranged_ranks typed c.args.plan (numbered m.args))) in
    subst (λ (ps : List PlacedArg). length ps ≤ 160) (sym all) (message_short c.args.plan m c.requires.within)

pub limit-requires-clause-within : goal.limit-requires-clause-within
limit-requires-clause-within c =
    let m = message_of c.args.message.now in
    let all : c.deref-3.result.now ≡ placed_of c.args.plan m
    = c.deref-3.ensures.value ∙ c.in_ok-placed.ensures.placed ∙ ap (λ (types : List ArgType). map placing (by_ranks typed c.args.plan (numbered (map arg_type_of types)))) c.deref.ensures.value
    ∙ ap (map placing) (sym (arranged_ranks typed c.args.plan (numbered m.args))) in
    subst (λ (ps : List PlacedArg). are_within ps ≡ true) (sym all) (placed_are_within c.args.plan m c.requires.within)

pub invariant_of-result : goal.invariant_of-result
invariant_of-result c =
    let m = message_of c.args.message.now in
    let all : c.in_ok-placed.placed.items ≡ placed_of c.args.plan m
    = c.in_ok-placed.ensures.placed ∙ ap (λ (types : List ArgType). map placing (by_ranks typed c.args.plan (numbered (map arg_type_of types)))) c.deref.ensures.value
    ∙ ap (map placing) (sym (arranged_ranks typed c.args.plan (numbered m.args))) in
    record {
      few = subst (λ (ps : List PlacedArg). length ps ≤ 160) (sym all) (message_short c.args.plan m c.requires.within);
      within = subst (λ (ps : List PlacedArg). are_within ps ≡ true) (sym all) (placed_are_within c.args.plan m c.requires.within);
      alike = λ n found. subst (λ (ps : List PlacedArg). IsFixedLength ps n) c.deref-2.ensures.value (c.fixed_length.ensures.exact n found);
      most = c.limit.ensures.exact ∙ ap (λ (ps : List PlacedArg). end_of_all 0 1 (map (filled_up Full) ps)) c.deref-3.ensures.value;
      small = c.limit.ensures.small;
    }

pub returns : goal.returns
returns c =
    let m = message_of c.args.message.now in
    record {
      placed = c.in_ok-placed.ensures.placed ∙ ap (λ (types : List ArgType). map placing (by_ranks typed c.args.plan (numbered (map arg_type_of types)))) c.deref.ensures.value
          ∙ ap (map placing) (sym (arranged_ranks typed c.args.plan (numbered m.args)));
    }
