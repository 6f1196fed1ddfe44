use Rattle.std.proofs.Common.{◌≡◌, ◌≢◌, ℕ, ◌<◌, ◌≤◌, ◌+◌, Bool, List, map, length, get_or, set, arith, sym, subst, ap, ◌∙◌}
use Rattle.std.proofs.lemmas.List.{length-map, get_or-map, map-set, length-set}
use Rattle.std.proofs.lemmas.Result.{err_from_is_err_and}
use Rattle.fl_interface.specs.Interface.{text, arg_type_of}
use Rattle.fl_value_data.specs.Value.{Datum, datum_of}
use Rattle.fl_value_data.specs.Plan.{is_dynamic, rank_of}
use Rattle.fl_wire.specs.Shapes.{Shape, next_argument, calls_of}
use Rattle.fl_wire.proofs.Steps.{Come, come_stop, come_read}
use Rattle.fl_wire.proofs.Calls.{FitRead, rank_at, left_in, left_from, itself, come_same, none_fit, calls_start, into_rank, past_other, past_fit, past_rank, rank_fit, begins_next, next_fit, come_fits}
use Rattle.fl_wire.proofs.Ranks.{ranks_read}
use Rattle.fl_wire.proofs.call.read_ranks.Goals as goal

pub loop-j-preserved-then-rank_of-rank : goal.loop-j-preserved-then-rank_of-rank
loop-j-preserved-then-rank_of-rank c =
    let plan = c.args.plan in
    let frags = c.args.frags.now in
    let types = c.args.types.now in
    let ts = map arg_type_of types in
    let rank = c.loop-rank.rank in
    let j = c.loop-j.j in
    let vs = map datum_of c.loop-j.values.items in
    let after = c.loop-j.after_dynamic in
    let at = c.loop-j.at in
    let inv = c.loop-j.invariant in
    let ty = c.index-types-j.result in
    let t = arg_type_of ty in
    let is : t ≡ get_or ts j (text 0) = ap arg_type_of c.index-types-j.is ∙ sym (get_or-map arg_type_of types j ty (text 0) c.loop-j-test.true) in
    let small : j < length ts = omega (arith, c.loop-j-test.true, length-map types arg_type_of) in
    let other : rank_at plan ts j ≢ rank = λ e. c.if-rank_of-rank.true (c.rank_of.ensures.same ∙ ap (rank_of plan) is ∙ e) in
    record {
      long = inv.long;
      within = inv.within;
      fit = past_fit plan rank j ts vs other inv.fit;
      come = come_same (calls_of plan ts) (left_in plan rank j ts vs after) (left_in plan rank (j + 1) ts vs after) frags 0 at itself itself inv.come (past_other plan rank j ts vs after small other);
    }

pub returns-in_err-value-clause-stop : goal.returns-in_err-value-clause-stop
returns-in_err-value-clause-stop c =
    let p = err_from_is_err_and c.from_residual-in_err-value.result c.from_residual-in_err-value.ensures.1 in
    let plan = c.args.plan in
    let frags = c.args.frags.now in
    let types = c.args.types.now in
    let ts = map arg_type_of types in
    let rank = c.loop-rank.rank in
    let j = c.loop-j.j in
    let vs = map datum_of c.loop-j.values.items in
    let after = c.loop-j.after_dynamic in
    let at = c.loop-j.at in
    let inv = c.loop-j.invariant in
    let ty = c.index-types-j.result in
    let t = arg_type_of ty in
    let is : t ≡ get_or ts j (text 0) = ap arg_type_of c.index-types-j.is ∙ sym (get_or-map arg_type_of types j ty (text 0) c.loop-j-test.true) in
    let small : j < length ts = omega (arith, c.loop-j-test.true, length-map types arg_type_of) in
    let long : length vs ≡ length ts = length-map c.loop-j.values.items datum_of ∙ inv.long ∙ sym (length-map types arg_type_of) in
    let own : rank_at plan ts j ≡ rank = sym (c.rank_of.ensures.same ∙ ap (rank_of plan) is) ∙ c.if-rank_of-rank.false in
    let begins = begins_next plan rank j ts t vs after small long is own in
    let next : Datum → Shape = λ d. left_in plan rank (j + 1) ts (set vs j d) (is_dynamic t) in
    rw (p.1, p.2) (come_stop (calls_of plan ts) (left_in plan rank j ts vs after) (next_argument after t) next frags 0 at itself (λ d ds. ds) c.in_err-value.field-0.0 inv.come begins c.in_err-value.ensures.stop)

pub loop-j-preserved : goal.loop-j-preserved
loop-j-preserved c =
    let plan = c.args.plan in
    let frags = c.args.frags.now in
    let types = c.args.types.now in
    let ts = map arg_type_of types in
    let rank = c.loop-rank.rank in
    let j = c.loop-j.j in
    let vs = map datum_of c.loop-j.values.items in
    let after = c.loop-j.after_dynamic in
    let at = c.loop-j.at in
    let inv = c.loop-j.invariant in
    let ty = c.index-types-j.result in
    let t = arg_type_of ty in
    let is : t ≡ get_or ts j (text 0) = ap arg_type_of c.index-types-j.is ∙ sym (get_or-map arg_type_of types j ty (text 0) c.loop-j-test.true) in
    let small : j < length ts = omega (arith, c.loop-j-test.true, length-map types arg_type_of) in
    let long : length vs ≡ length ts = length-map c.loop-j.values.items datum_of ∙ inv.long ∙ sym (length-map types arg_type_of) in
    let own : rank_at plan ts j ≡ rank = sym (c.rank_of.ensures.same ∙ ap (rank_of plan) is) ∙ c.if-rank_of-rank.false in
    let begins = begins_next plan rank j ts t vs after small long is own in
    let next : Datum → Shape = λ d. left_in plan rank (j + 1) ts (set vs j d) (is_dynamic t) in
    let d = datum_of c.in_ok-value.value in
    let end = c.in_ok-value.end in
    let values : map datum_of (set c.loop-j.values.items j c.in_ok-value.value) ≡ set vs j d = map-set datum_of c.loop-j.values.items j c.in_ok-value.value in
    let come = come_read (calls_of plan ts) (left_in plan rank j ts vs after) (next_argument after t) next frags 0 at end itself (λ d ds. ds) d inv.come begins c.in_ok-value.ensures.later c.in_ok-value.ensures.within c.in_ok-value.ensures.read in
    record {
      long = length-set c.loop-j.values.items j c.in_ok-value.value ∙ inv.long;
      within = c.in_ok-value.ensures.within;
      fit = subst (λ (us : List Datum). FitRead plan rank (j + 1) ts us) (sym values)
          (next_fit plan rank j ts t vs d small long is own (come_fits (calls_of plan ts) (left_in plan rank j ts vs after) (next_argument after t) frags at end itself d inv.come c.in_ok-value.ensures.read) inv.fit);
      come = subst (λ (us : List Datum). Come (calls_of plan ts) (left_in plan rank (j + 1) ts us c.is_dynamic-after_dynamic.result) frags 0 end itself) (sym values)
          (subst (λ (b : Bool). Come (calls_of plan ts) (left_in plan rank (j + 1) ts (set vs j d) b) frags 0 end itself) (sym c.is_dynamic-after_dynamic.ensures.same) come);
    }

pub loop-rank-preserved : goal.loop-rank-preserved
loop-rank-preserved c =
    let plan = c.args.plan in
    let frags = c.args.frags.now in
    let types = c.args.types.now in
    let ts = map arg_type_of types in
    let rank = c.loop-rank.rank in
    let j = c.loop-j.j in
    let vs = map datum_of c.loop-j.values.items in
    let after = c.loop-j.after_dynamic in
    let at = c.loop-j.at in
    let inv = c.loop-j.invariant in
    let all : length ts ≤ j = omega (arith, c.loop-j-test.false, length-map types arg_type_of) in
    record {
      long = inv.long;
      within = inv.within;
      fit = rank_fit plan rank j ts vs all inv.fit;
      come = come_same (calls_of plan ts) (left_in plan rank j ts vs after) (left_from plan (rank + 1) ts vs after) frags 0 at itself itself inv.come (past_rank plan rank j ts vs after all);
    }

pub returns-clause-read : goal.returns-clause-read
returns-clause-read c =
    let plan = c.args.plan in
    let frags = c.args.frags.now in
    let types = c.args.types.now in
    let ts = map arg_type_of types in
    let vs = map datum_of c.loop-rank.values.items in
    let inv = c.loop-rank.invariant in
    let after = c.loop-rank.after_dynamic in
    let at = c.loop-rank.at in
    let long : length vs ≡ length ts = length-map c.loop-rank.values.items datum_of ∙ inv.long ∙ sym (length-map types arg_type_of) in
    let ranks = c.ranks_of-rank-end.result in
    let last : c.loop-rank.rank ≡ ranks = omega (arith, c.loop-rank-test.false, c.loop-rank.auto.rank-end) in
    let come = subst (λ (n : ℕ). Come (calls_of plan ts) (left_from plan n ts vs after) frags 0 at itself) last inv.come in
    let fit = subst (λ (n : ℕ). FitRead plan n 0 ts vs) last inv.fit in
    ranks_read plan ranks ts vs after frags at c.ranks_of-rank-end.ensures.all c.ranks_of-rank-end.ensures.few long fit come

pub loop-rank-init : goal.loop-rank-init
loop-rank-init c =
    let plan = c.args.plan in
    let ts = map arg_type_of c.args.types.now in
    let vs = map datum_of c.in_ok-values.values.items in
    record { long = c.in_ok-values.ensures.count; within = omega arith; fit = none_fit plan ts vs; come = calls_start plan ts vs c.args.frags.now }

pub loop-j-init : goal.loop-j-init
loop-j-init c =
    let plan = c.args.plan in
    let ts = map arg_type_of c.args.types.now in
    let rank = c.loop-rank.rank in
    let vs = map datum_of c.loop-rank.values.items in
    let after = c.loop-rank.after_dynamic in
    let inv = c.loop-rank.invariant in
    record {
      long = inv.long;
      within = inv.within;
      fit = inv.fit;
      come = come_same (calls_of plan ts) (left_from plan rank ts vs after) (left_in plan rank 0 ts vs after) c.args.frags.now 0 c.loop-rank.at itself itself inv.come
          (into_rank plan rank ts vs after (omega (arith, c.loop-rank-test.true, c.ranks_of-rank-end.ensures.few)));
    }
